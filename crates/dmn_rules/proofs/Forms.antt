-- What a reader's answer says of the rules on a payload's form.
use Rattle.std.proofs.Common.{◌≡◌, ℕ, ◌≤◌, Bool, true, false, [], ◌∷◌, List, length, Option, Some, None, Result, Ok, Err, refl, sym, ap, ◌∙◌, subst, arith}
use Rattle.std.specs.Prelude.{MatchBool}
use Rattle.std.specs.Option.{option_map, option_or}
use Rattle.dmn_bytes.specs.declared.fault.Departure.{Departure}
use Rattle.dmn_bytes.specs.Format.{Format, whole}
use Rattle.dmn_bytes.specs.Law.{IsSound, IsBytes}
use Rattle.dmn_bytes.specs.Sound.{whole_within}
use Rattle.dmn_payloads.specs.Fault.{other_version, AnswersBy, Answers}
use Rattle.dmn_payloads.specs.declared.fault.PayloadFault.{PayloadFault}
use Rattle.dmn_payloads.specs.declared.fault.PayloadFault.TheVariants as faults
use Rattle.dmn_rows.specs.declared.profile.Profile.{Profile}
use Rattle.dmn_rows.specs.declared.row.MnRow.{MnRow}
use Rattle.dmn_rows.specs.declared.rule.Rule.{Rule}
use Rattle.dmn_rows.specs.declared.rule.Rule.TheVariants.{PayloadVersion, PayloadForm}
use Rattle.dmn_rows.specs.declared.verdict.Verdict.{Verdict}
use Rattle.dmn_rows.specs.Rows.{Outputs}
use Rattle.dmn_tx.specs.declared.tx.Tx.{Tx}
use Rattle.dmn_tx.specs.Tx.{KeepsPayload, is_special}
use Rattle.dmn_rules.specs.declared.effect.Effect.{Effect}
use Rattle.dmn_rules.specs.declared.fault.JudgeFault.{JudgeFault}
use Rattle.dmn_rules.specs.declared.fault.JudgeFault.TheVariants as judge_faults
use Rattle.dmn_rules.specs.declared.provider.Provider.{Provider}
use Rattle.dmn_rules.specs.Table.{first_broken, first_of}
use Rattle.dmn_rules.specs.Payload.{place_in, payload_rules, provider_of}
use Rattle.dmn_rules.specs.Looking.{judge_fault, IsPlacedBelow}
use Rattle.dmn_rules.specs.Defs.{Judges, case_of, rules_within, judge_of, judge_read_of, effect_by, effect_of, effect_read_of}
use Rattle.dmn_rules.proofs.Stages.{first_of_append}

-- the rules on a payload's form, of a type that is known
abbrev pub form_rule : {P : Type 0} → Option ℕ → Result P Departure → Option Rule
form_rule version read = first_broken (option_map (λ found. PayloadVersion found) version ∷ option_map (λ at. PayloadForm at) (place_in read) ∷ [])

pub read_ok : {P : Type 0} (o : Option ℕ) (w : Result P Departure) (p : P) → AnswersBy o w (Ok p) → (form_rule o w ≡ None) × (w ≡ Ok p)
read_ok None (Ok v) p h = (refl, h)
read_ok None (Err d) p h = absurd cc
read_ok (Some found) w p h = absurd cc

pub read_err : {P : Type 0} (V : Type 0) (o : Option ℕ) (w : Result P Departure) (fault : PayloadFault) → AnswersBy o w (Err fault) → Judges {V = V} (form_rule o w) (Err (judge_fault fault))
read_err V None w faults.Memory h = tt
read_err V None (Ok v) (faults.PayloadForm at) h = absurd h
read_err V None (Err d) (faults.PayloadForm at) h = ap (λ (n : ℕ). Some (PayloadForm n)) h
read_err V None w (faults.PayloadVersion found) h = absurd h
read_err V (Some other) w faults.Memory h = tt
read_err V (Some other) w (faults.PayloadForm at) h = absurd cc
read_err V (Some other) w (faults.PayloadVersion found) h = cc

placed : {P : Type 0} (f : Format P) → IsSound f → (t : List ℕ) → IsBytes t → (most : ℕ) → length t ≤ most → (o : Option ℕ) (w : Result P Departure) → whole f t ≡ w → (fault : PayloadFault) → AnswersBy o w (Err fault) → IsPlacedBelow most fault
placed f s t bytes most short o w is faults.Memory h = tt
placed f s t bytes most short o w is (faults.PayloadVersion found) h = tt
placed f s t bytes most short None (Ok v) is (faults.PayloadForm at) h = absurd h
placed f s t bytes most short None (Err d) is (faults.PayloadForm at) h = omega (arith, short, h, whole_within f s t d bytes is)
placed f s t bytes most short (Some other) w is (faults.PayloadForm at) h = absurd cc

-- a payload departs within it or at its end
pub read_placed : {P : Type 0} (f : Format P) → IsSound f → (t : List ℕ) → IsBytes t → (most : ℕ) → length t ≤ most → (fault : PayloadFault) → Answers f t (Err fault) → IsPlacedBelow most fault
read_placed f s t bytes most short fault h = placed f s t bytes most short (other_version t) (whole f t) refl fault h

-- ---- the judgement behind the payload's form

pub keeps_short : (tx : Tx) → KeepsPayload tx → length tx.payload ≤ 10000
keeps_short tx keeps = go (is_special tx.version tx.kind) keeps
  where
    go : (b : Bool) → MatchBool b (length tx.payload ≤ 10000) (tx.payload ≡ []) → length tx.payload ≤ 10000
    go true short = short
    go false none = rw none (omega arith)

stops : (P V : Type 0) (first second : Option Rule) (fault : JudgeFault) → Judges {V = P} first (Err fault) → Judges {V = V} (option_or first second) (Err fault)
stops P V first second judge_faults.Memory h = tt
stops P V first second (judge_faults.Broken rule) h = rw h refl

pub judged_form : (profile : Profile) (rows : List MnRow) (outputs : Outputs) (height : ℕ) (tx : Tx) (verdict : Option Verdict) (fault : JudgeFault) → Judges {V = Provider} (first_of (payload_rules tx.kind tx.payload)) (Err fault) → Judges {V = Effect} (judge_of profile rows outputs height tx verdict) (Err fault)
unfolding judge_of
judged_form profile rows outputs height tx verdict fault h =
    let behind = rules_within (case_of profile rows outputs height tx verdict) (provider_of tx.kind tx.payload) in
    subst (λ o. Judges {V = Effect} o (Err fault)) (sym (first_of_append (payload_rules tx.kind tx.payload) behind)) (stops Provider Effect (first_of (payload_rules tx.kind tx.payload)) (first_of behind) fault h)

pub judged_within : (profile : Profile) (rows : List MnRow) (outputs : Outputs) (height : ℕ) (tx : Tx) (verdict : Option Verdict) (read : Provider) → first_of (payload_rules tx.kind tx.payload) ≡ None → provider_of tx.kind tx.payload ≡ Some read → judge_of profile rows outputs height tx verdict ≡ judge_read_of profile rows outputs height tx read verdict
unfolding judge_of judge_read_of
judged_within profile rows outputs height tx verdict read form is =
    let c = case_of profile rows outputs height tx verdict in
    first_of_append (payload_rules tx.kind tx.payload) (rules_within c (provider_of tx.kind tx.payload))
    ∙ ap (λ o. option_or o (first_of (rules_within c (provider_of tx.kind tx.payload)))) form
    ∙ ap (λ o. first_of (rules_within c o)) is

pub effect_within : (rows : List MnRow) (outputs : Outputs) (tx : Tx) (height : ℕ) (read : Provider) → provider_of tx.kind tx.payload ≡ Some read → effect_of rows outputs tx height ≡ effect_read_of rows outputs tx height read
unfolding effect_of
effect_within rows outputs tx height read is = ap (effect_by rows outputs tx height) is
