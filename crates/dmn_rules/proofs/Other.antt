-- A transaction of a type above the providers'.
use Rattle.std.proofs.Common.{◌≡◌, ℕ, ◌<◌, ◌≤◌, true, false, ◌||◌, List, Option, Some, None, Result, refl, ap, ◌∙◌, inl, inr, arith}
use Rattle.std.specs.Prelude.{◌==◌, nat_lt}
use Rattle.std.specs.Option.{option_or}
use Rattle.std.proofs.lemmas.Bool.{cases_Bool, ne_eqb, eqb-false, lt-ltb}
use Rattle.dmn_rows.specs.declared.profile.Profile.{Profile}
use Rattle.dmn_rows.specs.declared.row.MnRow.{MnRow}
use Rattle.dmn_rows.specs.declared.rule.Rule.{Rule}
use Rattle.dmn_rows.specs.declared.rule.Rule.TheVariants.{UnknownType}
use Rattle.dmn_rows.specs.declared.verdict.Verdict.{Verdict}
use Rattle.dmn_rows.specs.Rows.{Outputs}
use Rattle.dmn_tx.specs.declared.tx.Tx.{Tx}
use Rattle.dmn_rules.specs.declared.fault.JudgeFault.{JudgeFault}
use Rattle.dmn_rules.specs.Table.{first_of}
use Rattle.dmn_rules.specs.Payload.{payload_rules, provider_of}
use Rattle.dmn_rules.specs.Defs.{Judges, case_of, rules_within, judge_of, effect_by, effect_of}
use Rattle.dmn_rules.proofs.Stages.{first_of_append}

above_four : (kind n : ℕ) → 4 < kind → n ≤ 4 → (kind == n) ≡ false
above_four kind n above le = ne_eqb kind n (λ is. absurd (omega (arith, above, le, is)))

no_provider : (kind : ℕ) (payload : List ℕ) → 4 < kind → provider_of kind payload ≡ None
unfolding provider_of
no_provider kind payload above =
    rw (above_four kind 1 above (omega arith), above_four kind 2 above (omega arith), above_four kind 3 above (omega arith), above_four kind 4 above (omega arith)) refl

or_none : (o : Option Rule) → option_or o None ≡ o
or_none None = refl
or_none (Some rule) = refl

other_judged : (profile : Profile) (rows : List MnRow) (outputs : Outputs) (height : ℕ) (tx : Tx) (verdict : Option Verdict) → 4 < tx.kind → judge_of profile rows outputs height tx verdict ≡ first_of (payload_rules tx.kind tx.payload)
unfolding judge_of
other_judged profile rows outputs height tx verdict above =
    let c = case_of profile rows outputs height tx verdict in
    first_of_append (payload_rules tx.kind tx.payload) (rules_within c (provider_of tx.kind tx.payload))
    ∙ ap (λ o. option_or (first_of (payload_rules tx.kind tx.payload)) (first_of (rules_within c o))) (no_provider tx.kind tx.payload above)
    ∙ or_none (first_of (payload_rules tx.kind tx.payload))

-- it is judged by the rules on its payload's form alone
pub other_judges : {V : Type 0} (profile : Profile) (rows : List MnRow) (outputs : Outputs) (height : ℕ) (tx : Tx) (verdict : Option Verdict) (result : Result V JudgeFault) → 4 < tx.kind → Judges (first_of (payload_rules tx.kind tx.payload)) result → Judges (judge_of profile rows outputs height tx verdict) result
other_judges profile rows outputs height tx verdict result above judges = rw (other_judged profile rows outputs height tx verdict above) judges

-- and changes no row
pub other_effect : (rows : List MnRow) (outputs : Outputs) (tx : Tx) (height : ℕ) → 4 < tx.kind → effect_of rows outputs tx height ≡ rows
unfolding effect_of
other_effect rows outputs tx height above = ap (effect_by rows outputs tx height) (no_provider tx.kind tx.payload above)

pub unknown_type : (kind : ℕ) (payload : List ℕ) → 4 < kind → (kind == 6) ≡ false → first_of (payload_rules kind payload) ≡ Some (UnknownType kind)
unfolding payload_rules
unknown_type kind payload above other = rw (unknown kind above other) refl
  where
    unknown : (kind : ℕ) → 4 < kind → (kind == 6) ≡ false → ((kind == 5) || nat_lt 6 kind) ≡ true
    unknown kind above other = elim (cases_Bool (kind == 5)) [
      | inl five ↦ rw five refl
      | inr not_five ↦ let behind : 6 < kind = omega (arith, above, eqb-false kind 5 not_five, eqb-false kind 6 other) in rw (not_five, lt-ltb 6 kind behind) refl
    ]
