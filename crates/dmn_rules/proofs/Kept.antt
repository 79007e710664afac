-- What an accepted transaction does to the list keeps keys that no two rows have.
use Rattle.std.proofs.Common.{◌≡◌, ℕ, Bool, true, false, not, ◌&&◌, List, [], ◌∷◌, ◌++◌, find, filter, Option, Some, None, Result, Ok, Err, refl, sym, ap, ◌∙◌, subst}
use Rattle.std.specs.Prelude.{◌==◌, IfOk, if◌then◌else◌}
use Rattle.std.specs.Option.{option_map, option_or}
use Rattle.std.specs.Result.{result_err}
use Rattle.std.specs.Str.{bytes_eq}
use Rattle.std.proofs.lemmas.Bool.{and_parts}
use Rattle.dmn_bytes.specs.declared.hash.Hash256.{Hash256}
use Rattle.dmn_bytes.specs.declared.points.OutPoint.{OutPoint}
use Rattle.dmn_bytes.specs.declared.points.Pay.{Pay}
use Rattle.dmn_payloads.specs.declared.payloads.ProReg.{ProReg}
use Rattle.dmn_payloads.specs.declared.payloads.UpServ.{UpServ}
use Rattle.dmn_payloads.specs.declared.payloads.UpReg.{UpReg}
use Rattle.dmn_payloads.specs.declared.payloads.Revoke.{Revoke as Revocation}
use Rattle.dmn_payloads.specs.Scripts.{pay_of}
use Rattle.dmn_rows.specs.declared.row.MnRow.{MnRow}
use Rattle.dmn_rows.specs.declared.rule.Rule.{Rule}
use Rattle.dmn_rows.specs.declared.rule.Rule.TheVariants.{DupOwner, DupOperator, DupAddress, UpDupAddress, UpDupOperator}
use Rattle.dmn_rows.specs.declared.verdict.TheConstants.{OWNER_KEY, OPERATOR_KEY}
use Rattle.dmn_rows.specs.Row.{ban}
use Rattle.dmn_rows.specs.Rows.{Outputs, has_hash, has_owner, has_operator, has_service, has_collateral, hash_where, changed, put_row}
use Rattle.dmn_rows.specs.Signed.{verdict_rules}
use Rattle.dmn_rows.specs.Distinct.{HasDistinctKeys}
use Rattle.dmn_rows.proofs.Keys.{same_hash-is}
use Rattle.dmn_tx.specs.declared.tx.TxOut.{TxOut}
use Rattle.dmn_rules.specs.declared.effect.Effect.{Effect}
use Rattle.dmn_rules.specs.declared.facts.Facts.{Facts}
use Rattle.dmn_rules.specs.declared.provider.Provider.{Provider}
use Rattle.dmn_rules.specs.declared.provider.Provider.TheVariants.{Register, Service, Registrar, Revoke}
use Rattle.dmn_rules.specs.Table.{Numbered, unnumbered, first_broken, first_of, some_row}
use Rattle.dmn_rules.specs.Provider.{Case, digest_of, is_hash, point_of, replaced_by, script_of, dup_address, up_dup_address, up_dup_operator, form_rules, collateral_rules, key_rules, scripted_rules, service_rules, registrar_rules, revoke_rules, row_rules, kind_rules, read_rules}
use Rattle.dmn_rules.specs.Change.{registered, cleared, served, rekeyed, revoked, added, list_after, applied}
use Rattle.dmn_rules.specs.Looking.{case_at, Gives}
use Rattle.dmn_rules.proofs.Stages.{first_of_append}
use Rattle.dmn_rules.proofs.Seen.{find-stronger, filter-found, same_collaterals}
use Rattle.dmn_rules.proofs.Distinct.{find-filter, find-kept, find-nobody, found_passes, free_none, IsNew, IsNew-found, HasDistinctKeys-filter, HasDistinctKeys-put_row, HasDistinctKeys-plain, HasDistinctKeys-stored}

-- ---- no rule is broken

-- none of these is broken
abbrev NoneBroken : List (Option Rule) → Type 0
NoneBroken [] = Unit {0}
NoneBroken (rule ∷ rest) = (rule ≡ None) × NoneBroken rest

none_broken : (rules : List (Option Rule)) → first_broken rules ≡ None → NoneBroken rules
none_broken [] none = tt
none_broken (None ∷ rest) none = (refl, none_broken rest none)
none_broken (Some rule ∷ rest) none = absurd cc

none_behind : (rule : Option Rule) (rest : List (Option Rule)) → first_broken (rule ∷ rest) ≡ None → first_broken rest ≡ None
none_behind None rest none = none
none_behind (Some rule) rest none = absurd cc

or_none : (a b : Option Rule) → option_or a b ≡ None → (a ≡ None) × (b ≡ None)
or_none None b none = (refl, none)
or_none (Some rule) b none = absurd cc

none_append : (xs ys : Numbered) → first_of (xs ++ ys) ≡ None → (first_of xs ≡ None) × (first_of ys ≡ None)
none_append xs ys none = or_none (first_of xs) (first_of ys) (sym (first_of_append xs ys) ∙ none)

mapped_none : (rule : Hash256 → Rule) (o : Option MnRow) → option_map rule (option_map (λ r. r.hash) o) ≡ None → o ≡ None
mapped_none rule None none = refl
mapped_none rule (Some row) none = absurd cc

nobody : (test : MnRow → Bool) (rule : Hash256 → Rule) (rows : List MnRow) → some_row test rule rows ≡ None → find test rows ≡ None
nobody test rule rows none = mapped_none rule (find test rows) none

-- ---- a registration

contrary : (test : MnRow → Bool) (q : MnRow) → (test q && not (test q)) ≡ true → false ≡ true
contrary test q both = let parts = and_parts (test q) (not (test q)) both in let yes : test q ≡ true = parts.0 in let no : not (test q) ≡ true = parts.1 in cc

record KeysAreFree (rows : List MnRow) (point : OutPoint) (p : ProReg) : Type 0 where
  owner : find (has_owner p.owner) rows ≡ None
  operator : find (has_operator p.operator) rows ≡ None
  service : find (λ r. has_service p.service r && not (is_hash (hash_where (has_collateral point) rows) r.hash)) rows ≡ None

keys_free : (rows : List MnRow) (point : OutPoint) (p : ProReg) (script : Pay) → first_of (key_rules rows (replaced_by rows point) p script) ≡ None → KeysAreFree rows point p
unfolding key_rules dup_address
keys_free rows point p script none =
    let all : NoneBroken (unnumbered (key_rules rows (replaced_by rows point) p script)) = none_broken (unnumbered (key_rules rows (replaced_by rows point) p script)) none in
    record {
      owner = nobody (has_owner p.owner) (λ h. DupOwner h) rows all.1.0;
      operator = nobody (has_operator p.operator) (λ h. DupOperator h) rows all.1.1.0;
      service = nobody (λ r. has_service p.service r && not (is_hash (hash_where (has_collateral point) rows) r.hash)) (λ h. DupAddress h) rows all.1.1.1.0;
    }

new_registration : (height : ℕ) (id : Hash256) (p : ProReg) (script : Pay) (rows : List MnRow) → HasDistinctKeys rows → KeysAreFree rows (point_of id p) p → IsNew (registered height id p script) (filter (λ r. not (has_collateral (point_of id p) r)) rows)
unfolding registered
new_registration height id p script rows keys free =
    let point = point_of id p in
    let row = registered height id p script in
    let keep = λ (r : MnRow). not (has_collateral point r) in
    record {
      owner = free_none (λ r. has_owner r.owner) row (filter keep rows) (find-filter (has_owner p.owner) keep rows free.owner);
      operator = free_none (λ r. has_operator r.operator) row (filter keep rows) (find-filter (has_operator p.operator) keep rows free.operator);
      service = free_none (λ r. has_service r.service) row (filter keep rows) (
          ap (find (has_service p.service)) (sym (filter-found (has_collateral point) (λ r. has_collateral r.collateral) (same_collaterals point) rows keys.collaterals keys.hashes))
          ∙ find-kept (has_service p.service) (λ r. not (is_hash (hash_where (has_collateral point) rows) r.hash)) rows free.service);
      collateral = free_none (λ r. has_collateral r.collateral) row (filter keep rows) (
          find-kept (has_collateral point) keep rows (find-stronger (λ _. false) (λ q. has_collateral point q && keep q) (contrary (has_collateral point)) rows (find-nobody rows)));
    }

keeps_added : (facts : Facts) (p : ProReg) (o : Option Pay) (rows : List MnRow) → HasDistinctKeys rows → first_of (scripted_rules facts rows p o) ≡ None → HasDistinctKeys (added facts.height facts.id p o rows)
keeps_added facts p None rows keys none = keys
keeps_added facts p (Some script) rows keys none =
    let point = point_of facts.id p in
    HasDistinctKeys-put_row (registered facts.height facts.id p script) _ (HasDistinctKeys-filter (λ r. not (has_collateral point r)) rows keys)
    (new_registration facts.height facts.id p script rows keys (keys_free rows point p script (none_append (key_rules rows (replaced_by rows point) p script) _ none).0))

-- ---- a row that changes

hash_is : (hash : Hash256) (rows : List MnRow) (row : MnRow) → find (has_hash hash) rows ≡ Some row → hash ≡ row.hash
hash_is hash rows row found = sym (same_hash-is row.hash hash (found_passes (has_hash hash) rows row found))

-- of the rows but that of a hash, none passes a test; so none does of the rows but the one that the hash finds
but_found : (test : MnRow → Bool) (hash : Hash256) (rows : List MnRow) (row : MnRow) → find (has_hash hash) rows ≡ Some row → find (λ q. test q && not (has_hash hash q)) rows ≡ None → find (λ q. test q && not (has_hash row.hash q)) rows ≡ None
but_found test hash rows row found none = subst (λ (h : Hash256). find (λ q. test q && not (has_hash h q)) rows ≡ None) (hash_is hash rows row found) none

-- nobody has the key that there isn't
unset : (test : MnRow → Bool) (rows : List MnRow) → find (λ q. false && test q) rows ≡ None
unset test rows = find-nobody rows

keeps_served : (height : ℕ) (up : UpServ) (row : MnRow) (rows : List MnRow) → HasDistinctKeys rows → find (has_hash up.pro_tx) rows ≡ Some row → up_dup_address rows up ≡ None → HasDistinctKeys (put_row (served height up row) rows)
unfolding served up_dup_address
keeps_served height up row rows keys found none =
    let set = record row { service = up.service; operator_payout = pay_of up.payout } in
    let own = IsNew-found up.pro_tx rows row keys found in
    let service = but_found (has_service up.service) up.pro_tx rows row found (nobody (λ r. has_service up.service r && not (has_hash up.pro_tx r)) (λ h. UpDupAddress h) rows none) in
    elim (row.banned == 0) as (λ b. HasDistinctKeys (put_row (if b then set else record set { penalty = 0; banned = 0; revived = height }) rows)) [
      | true ↦ HasDistinctKeys-put_row set rows keys (record { owner = own.owner; operator = own.operator; service = service; collateral = own.collateral })
      | false ↦ HasDistinctKeys-put_row (record set { penalty = 0; banned = 0; revived = height }) rows keys (record { owner = own.owner; operator = own.operator; service = service; collateral = own.collateral })
    ]

abbrev with_keys : UpReg → MnRow → MnRow
with_keys up kept = record kept { operator = up.operator; voting = up.voting; payout = pay_of up.payout }

keeps_rekeyed : (height : ℕ) (up : UpReg) (row : MnRow) (rows : List MnRow) → HasDistinctKeys rows → find (has_hash up.pro_tx) rows ≡ Some row → up_dup_operator rows up ≡ None → HasDistinctKeys (put_row (rekeyed height up row) rows)
unfolding rekeyed up_dup_operator
keeps_rekeyed height up row rows keys found none =
    let own = IsNew-found up.pro_tx rows row keys found in
    let operator = but_found (has_operator up.operator) up.pro_tx rows row found (nobody (λ r. has_operator up.operator r && not (has_hash up.pro_tx r)) (λ h. UpDupOperator h) rows none) in
    let nowhere = find-nobody rows in
    elim (bytes_eq row.operator up.operator) as (λ b. HasDistinctKeys (put_row (with_keys up (if b then row else ban height (cleared row))) rows)) [
      | true ↦ HasDistinctKeys-put_row (with_keys up row) rows keys (record { owner = own.owner; operator = operator; service = own.service; collateral = own.collateral })
      | false ↦ elim (row.banned == 0) as (λ b. HasDistinctKeys (put_row (with_keys up (if b then record (cleared row) { banned = height } else cleared row)) rows)) [
        | true ↦ HasDistinctKeys-put_row (with_keys up (record (cleared row) { banned = height })) rows keys (record { owner = own.owner; operator = operator; service = nowhere; collateral = own.collateral })
        | false ↦ HasDistinctKeys-put_row (with_keys up (cleared row)) rows keys (record { owner = own.owner; operator = operator; service = nowhere; collateral = own.collateral })
      ]
    ]

abbrev with_reason : Revocation → MnRow → MnRow
with_reason p banned = record banned { reason = p.reason }

keeps_revoked : (height : ℕ) (p : Revocation) (row : MnRow) (rows : List MnRow) → HasDistinctKeys rows → find (has_hash p.pro_tx) rows ≡ Some row → HasDistinctKeys (put_row (revoked height p row) rows)
unfolding revoked
keeps_revoked height p row rows keys found =
    let own = IsNew-found p.pro_tx rows row keys found in
    let nowhere = find-nobody rows in
    elim (row.banned == 0) as (λ b. HasDistinctKeys (put_row (with_reason p (if b then record (cleared row) { banned = height } else cleared row)) rows)) [
      | true ↦ HasDistinctKeys-put_row (with_reason p (record (cleared row) { banned = height })) rows keys (record { owner = own.owner; operator = nowhere; service = nowhere; collateral = own.collateral })
      | false ↦ HasDistinctKeys-put_row (with_reason p (cleared row)) rows keys (record { owner = own.owner; operator = nowhere; service = nowhere; collateral = own.collateral })
    ]

address_free : (port : ℕ) (rows : List MnRow) (up : UpServ) (payout : Pay) (row : MnRow) → first_of (service_rules port rows up payout row) ≡ None → up_dup_address rows up ≡ None
unfolding service_rules
address_free port rows up payout row none =
    let all : NoneBroken (unnumbered (service_rules port rows up payout row)) = none_broken (unnumbered (service_rules port rows up payout row)) none in
    all.1.0

operator_free : (rows : List MnRow) (up : UpReg) (payout : Pay) (row : MnRow) → first_of (registrar_rules rows up payout row) ≡ None → up_dup_operator rows up ≡ None
unfolding registrar_rules
operator_free rows up payout row none =
    let all : NoneBroken (unnumbered (registrar_rules rows up payout row)) = none_broken (unnumbered (registrar_rules rows up payout row)) none in
    all.1.1.1.1.0

-- ---- any of the four

changes : (rules : MnRow → Numbered) (change : MnRow → MnRow) (rows : List MnRow) → HasDistinctKeys rows → (o : Option MnRow) → ((row : MnRow) → o ≡ Some row → first_of (rules row) ≡ None → HasDistinctKeys (put_row (change row) rows)) → first_of (row_rules rules o) ≡ None → HasDistinctKeys (changed change o rows)
changes rules change rows keys None each none = keys
changes rules change rows keys (Some row) each none = each row refl none

keeps_kind : (c : Case) (read : Provider) → HasDistinctKeys c.rows → first_of (kind_rules c read) ≡ None → HasDistinctKeys (list_after c.facts.height c.facts.id c.outs c.outputs c.rows read)
keeps_kind c (Register p) keys none =
    let script = script_of c.outs c.outputs p in
    let behind = none_append (form_rules c.facts.port p (pay_of p.payout)) (collateral_rules c.outs c.outputs p ++ scripted_rules c.facts c.rows p script) none in
    keeps_added c.facts p script c.rows keys (none_append (collateral_rules c.outs c.outputs p) (scripted_rules c.facts c.rows p script) behind.1).1
keeps_kind c (Service up) keys none =
    changes (λ row. service_rules c.facts.port c.rows up (pay_of up.payout) row ++ verdict_rules c.facts.verdict OPERATOR_KEY (digest_of row.operator)) (served c.facts.height up) c.rows keys (find (has_hash up.pro_tx) c.rows)
    (λ row found free. keeps_served c.facts.height up row c.rows keys found (address_free c.facts.port c.rows up (pay_of up.payout) row (none_append (service_rules c.facts.port c.rows up (pay_of up.payout) row) _ free).0)) none
keeps_kind c (Registrar up) keys none =
    changes (λ row. registrar_rules c.rows up (pay_of up.payout) row ++ verdict_rules c.facts.verdict OWNER_KEY (digest_of row.owner)) (rekeyed c.facts.height up) c.rows keys (find (has_hash up.pro_tx) c.rows)
    (λ row found free. keeps_rekeyed c.facts.height up row c.rows keys found (operator_free c.rows up (pay_of up.payout) row (none_append (registrar_rules c.rows up (pay_of up.payout) row) _ free).0)) none
keeps_kind c (Revoke p) keys none =
    changes (λ row. revoke_rules p row ++ verdict_rules c.facts.verdict OPERATOR_KEY (digest_of row.operator)) (revoked c.facts.height p) c.rows keys (find (has_hash p.pro_tx) c.rows)
    (λ row found free. keeps_revoked c.facts.height p row c.rows keys found) none

pub keeps_keys : (c : Case) (read : Provider) → HasDistinctKeys c.rows → first_of (read_rules c read) ≡ None → HasDistinctKeys (list_after c.facts.height c.facts.id c.outs c.outputs c.rows read)
keeps_keys c read keys none = keeps_kind c read keys (none_behind _ (unnumbered (kind_rules c read)) none)

-- the same of the effect that a judge gives, on stored rows
pub effect_keeps : (facts : Facts) (stored : List MnRow) (outputs : Outputs) (outs : List TxOut) (read : Provider) (result : Result Effect Rule)
    → HasDistinctKeys stored
    → result_err result ≡ first_of (read_rules (case_at facts stored outputs outs) read)
    → IfOk result (Gives (case_at facts stored outputs outs) stored read)
    → IfOk result (λ e. HasDistinctKeys (applied e stored))
effect_keeps facts stored outputs outs read (Err rule) keys judged gives = tt
effect_keeps facts stored outputs outs read (Ok e) keys judged gives =
    HasDistinctKeys-stored facts.height (applied e stored)
    (subst HasDistinctKeys (sym gives) (keeps_keys (case_at facts stored outputs outs) read (HasDistinctKeys-plain facts.height stored keys) (sym judged)))
