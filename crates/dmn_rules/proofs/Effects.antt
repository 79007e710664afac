-- What is told of an accepted transaction gives the list after it.
use Rattle.std.proofs.Common.{◌≡◌, ℕ, ◌-◌, Bool, true, false, not, cond, List, [], ◌∷◌, find, filter, Some, None, Result, Ok, Err, refl, sym, ap, ◌∙◌, inl, inr, subst, arith}
use Rattle.std.specs.Prelude.{◌==◌, IfOk, if◌then◌else◌}
use Rattle.std.specs.declared.option.Option.{Option}
use Rattle.std.specs.Option.{option_map}
use Rattle.std.specs.Str.{bytes_eq}
use Rattle.std.proofs.lemmas.Bool.{cases_Bool}
use Rattle.dmn_bytes.specs.declared.hash.Hash256.{Hash256}
use Rattle.dmn_bytes.specs.declared.points.Pay.{Pay}
use Rattle.dmn_payloads.specs.declared.payloads.ProReg.{ProReg}
use Rattle.dmn_payloads.specs.declared.payloads.UpServ.{UpServ}
use Rattle.dmn_payloads.specs.declared.payloads.UpReg.{UpReg}
use Rattle.dmn_payloads.specs.declared.payloads.Revoke.{Revoke as Revocation}
use Rattle.dmn_payloads.specs.Scripts.{pay_of}
use Rattle.dmn_rows.specs.declared.row.MnRow.{MnRow}
use Rattle.dmn_rows.specs.declared.rule.Rule.{Rule}
use Rattle.dmn_rows.specs.Distinct.{HasDistinctKeys}
use Rattle.dmn_rows.specs.Row.{plain, ban}
use Rattle.dmn_rows.specs.Rows.{Outputs, has_hash, has_collateral, plain_rows, changed, put_row}
use Rattle.dmn_tx.specs.declared.tx.TxOut.{TxOut}
use Rattle.dmn_rules.specs.declared.effect.Effect.{Effect}
use Rattle.dmn_rules.specs.declared.effect.Effect.TheVariants.{Register as Registers, Update}
use Rattle.dmn_rules.specs.declared.facts.Facts.{Facts}
use Rattle.dmn_rules.specs.declared.provider.Provider.{Provider}
use Rattle.dmn_rules.specs.declared.provider.Provider.TheVariants.{Register, Service, Registrar, Revoke}
use Rattle.dmn_rules.specs.Change.{registered, cleared, served, rekeyed, revoked, stored, added, applied, row_of}
use Rattle.dmn_rules.specs.Provider.{is_hash, point_of, replaced_by, script_of}
use Rattle.dmn_rules.specs.Looking.{case_at, Gives, IsTold}
use Rattle.dmn_rules.proofs.Seen.{hash_where-plain, filter-plain, filter-found, put_row-plain, same_collaterals}

-- a row that is kept is seen as it is
plain_stored : (h : ℕ) (r : MnRow) → r.penalty_at ≡ 0 → plain h (stored h r) ≡ r
plain_stored h r zero =
    let whole : r.penalty - (h - h) ≡ r.penalty = omega arith in
    let seen : record r { penalty_at = 0 } ≡ r = ap (λ (n : ℕ). record r { penalty_at = n }) (sym zero) in
    elim (r.banned == 0) as (λ b. record r { penalty = if b then r.penalty - (h - h) else r.penalty; penalty_at = 0 } ≡ r) [
      | true ↦ ap (λ (n : ℕ). record r { penalty = n; penalty_at = 0 }) whole ∙ seen
      | false ↦ seen
    ]

-- a row that is found among rows that are seen has no `penalty_at`
found_plain : (test : MnRow → Bool) (h : ℕ) (rows : List MnRow) (row : MnRow) → find test (plain_rows h rows) ≡ Some row → row.penalty_at ≡ 0
found_plain test h [] row found = absurd cc
found_plain test h (r ∷ rows) row found = elim (cases_Bool (test (plain h r))) [
  | inl passes ↦
      let here : Some (plain h r) ≡ Some row = sym (ap (λ b. cond b (Some (plain h r)) (find test (plain_rows h rows))) passes) ∙ found in
      let same : plain h r ≡ row = cc in
      ap (λ (q : MnRow). q.penalty_at) (sym same)
  | inr fails ↦ found_plain test h rows row (sym (ap (λ b. cond b (Some (plain h r)) (find test (plain_rows h rows))) fails) ∙ found)
]

registered_at : (h : ℕ) (id : Hash256) (p : ProReg) (script : Pay) → (registered h id p script).penalty_at ≡ 0
unfolding registered
registered_at h id p script = refl

served_at : (h : ℕ) (up : UpServ) (r : MnRow) → (served h up r).penalty_at ≡ r.penalty_at
unfolding served
served_at h up r =
    let set = record r { service = up.service; operator_payout = pay_of up.payout } in
    elim (r.banned == 0) as (λ b. (if b then set else record set { penalty = 0; banned = 0; revived = h }).penalty_at ≡ r.penalty_at) [ true ↦ refl | false ↦ refl ]

ban_at : (h : ℕ) (r : MnRow) → (ban h r).penalty_at ≡ r.penalty_at
ban_at h r = elim (r.banned == 0) as (λ b. (if b then record r { banned = h } else r).penalty_at ≡ r.penalty_at) [ true ↦ refl | false ↦ refl ]

rekeyed_at : (h : ℕ) (up : UpReg) (r : MnRow) → (rekeyed h up r).penalty_at ≡ r.penalty_at
unfolding rekeyed
rekeyed_at h up r = elim (bytes_eq r.operator up.operator) as (λ b. (if b then r else ban h (cleared r)).penalty_at ≡ r.penalty_at) [ true ↦ refl | false ↦ ban_at h (cleared r) ]

revoked_at : (h : ℕ) (p : Revocation) (r : MnRow) → (revoked h p r).penalty_at ≡ r.penalty_at
unfolding revoked
revoked_at h p r = ban_at h (cleared r)

update_gives : (h : ℕ) (change : MnRow → MnRow) → ((r : MnRow) → (change r).penalty_at ≡ r.penalty_at) → (test : MnRow → Bool) (rows : List MnRow) (e : Effect)
    → option_map (λ r. Update (stored h (change r))) (find test (plain_rows h rows)) ≡ Some e
    → plain_rows h (applied e rows) ≡ changed change (find test (plain_rows h rows)) (plain_rows h rows)
update_gives h change at test rows e told = go (find test (plain_rows h rows)) refl told
  where
    go : (o : Option MnRow) → find test (plain_rows h rows) ≡ o → option_map (λ r. Update (stored h (change r))) o ≡ Some e → plain_rows h (applied e rows) ≡ changed change o (plain_rows h rows)
    go None found is = absurd cc
    go (Some r) found is =
        let same : Update (stored h (change r)) ≡ e = cc in
        subst (λ (e : Effect). plain_rows h (applied e rows) ≡ changed change (Some r) (plain_rows h rows)) same (
        put_row-plain h (stored h (change r)) rows ∙ ap (λ (q : MnRow). put_row q (plain_rows h rows)) (plain_stored h (change r) (at r ∙ found_plain test h rows r found)))

register_gives : (h : ℕ) (id : Hash256) (p : ProReg) (rows : List MnRow) → HasDistinctKeys rows → (o : Option Pay) (e : Effect)
    → option_map (λ script. Registers (stored h (registered h id p script)) (replaced_by (plain_rows h rows) (point_of id p))) o ≡ Some e
    → plain_rows h (applied e rows) ≡ added h id p o (plain_rows h rows)
register_gives h id p rows keys None e told = absurd cc
register_gives h id p rows keys (Some script) e told =
    let point = point_of id p in
    let row = registered h id p script in
    let replaced = replaced_by (plain_rows h rows) point in
    let same : Registers (stored h row) replaced ≡ e = cc in
    subst (λ (e : Effect). plain_rows h (applied e rows) ≡ added h id p (Some script) (plain_rows h rows)) same (
    put_row-plain h (stored h row) (filter (λ r. not (is_hash replaced r.hash)) rows)
    ∙ ap (λ (q : MnRow). put_row q (plain_rows h (filter (λ r. not (is_hash replaced r.hash)) rows))) (plain_stored h row (registered_at h id p script))
    ∙ ap (put_row row) (
    ap (λ o. plain_rows h (filter (λ r. not (is_hash o r.hash)) rows)) (hash_where-plain (has_collateral point) (λ _ _. refl) h rows)
    ∙ ap (plain_rows h) (filter-found (has_collateral point) (λ r. has_collateral r.collateral) (same_collaterals point) rows keys.collaterals keys.hashes)
    ∙ sym (filter-plain (λ r. not (has_collateral point r)) (λ _ _. refl) h rows)))

pub told_gives : (facts : Facts) (rows : List MnRow) (outputs : Outputs) (outs : List TxOut) (read : Provider) (e : Effect) → HasDistinctKeys rows → IsTold (case_at facts rows outputs outs) read e → Gives (case_at facts rows outputs outs) rows read e
told_gives facts rows outputs outs (Register p) e keys told = register_gives facts.height facts.id p rows keys (script_of outs outputs p) e told
told_gives facts rows outputs outs (Service up) e keys told = update_gives facts.height (served facts.height up) (served_at facts.height up) (has_hash up.pro_tx) rows e told
told_gives facts rows outputs outs (Registrar up) e keys told = update_gives facts.height (rekeyed facts.height up) (rekeyed_at facts.height up) (has_hash up.pro_tx) rows e told
told_gives facts rows outputs outs (Revoke p) e keys told = update_gives facts.height (revoked facts.height p) (revoked_at facts.height p) (has_hash p.pro_tx) rows e told

-- the row that is put is kept for this height
made_fresh : {A : Type 0} (h : ℕ) (make : A → Effect) → ((a : A) → (row_of (make a)).penalty_at ≡ h) → (o : Option A) (e : Effect) → option_map make o ≡ Some e → (row_of e).penalty_at ≡ h
made_fresh h make fresh None e told = absurd cc
made_fresh h make fresh (Some a) e told = let same : make a ≡ e = cc in subst (λ (e : Effect). (row_of e).penalty_at ≡ h) same (fresh a)

told_fresh : (facts : Facts) (rows : List MnRow) (outputs : Outputs) (outs : List TxOut) (read : Provider) (e : Effect) → IsTold (case_at facts rows outputs outs) read e → (row_of e).penalty_at ≡ facts.height
told_fresh facts rows outputs outs (Register p) e told = made_fresh facts.height _ (λ _. refl) (script_of outs outputs p) e told
told_fresh facts rows outputs outs (Service up) e told = made_fresh facts.height _ (λ _. refl) (find (has_hash up.pro_tx) (plain_rows facts.height rows)) e told
told_fresh facts rows outputs outs (Registrar up) e told = made_fresh facts.height _ (λ _. refl) (find (has_hash up.pro_tx) (plain_rows facts.height rows)) e told
told_fresh facts rows outputs outs (Revoke p) e told = made_fresh facts.height _ (λ _. refl) (find (has_hash p.pro_tx) (plain_rows facts.height rows)) e told

-- ---- of a judge's answer

pub answer_gives : (facts : Facts) (rows : List MnRow) (outputs : Outputs) (outs : List TxOut) (read : Provider) (result : Result Effect Rule) → HasDistinctKeys rows → IfOk result (IsTold (case_at facts rows outputs outs) read) → IfOk result (Gives (case_at facts rows outputs outs) rows read)
answer_gives facts rows outputs outs read (Err rule) keys told = tt
answer_gives facts rows outputs outs read (Ok e) keys told = told_gives facts rows outputs outs read e keys told

pub answer_fresh : (facts : Facts) (rows : List MnRow) (outputs : Outputs) (outs : List TxOut) (read : Provider) (result : Result Effect Rule) → IfOk result (IsTold (case_at facts rows outputs outs) read) → IfOk result (λ e. (row_of e).penalty_at ≡ facts.height)
answer_fresh facts rows outputs outs read (Err rule) told = tt
answer_fresh facts rows outputs outs read (Ok e) told = told_fresh facts rows outputs outs read e told
