-- Rows that ascend and whose fields have their lengths stay so through a block.
use Rattle.std.proofs.Common.{◌≡◌, ℕ, suc, ◌+◌, ◌==◌, Bool, true, false, cond, length, List, [], ◌∷◌, drop, map, find, filter, refl, sym, ap, subst, ◌∙◌, arith}
use Rattle.std.specs.Prelude.{Option, None, Some, Result, Ok, Err, not}
use Rattle.std.specs.List.{All, AllByRecursion}
use Rattle.std.specs.Option.{option_map}
use Rattle.std.specs.Result.{result_ok}
use Rattle.std.proofs.lemmas.List.Elements.{All-map, All-weaker, All-filter}
use Rattle.dmn_block.specs.declared.frame.BlockFrame.{BlockFrame}
use Rattle.dmn_block.specs.declared.refusal.Refusal.{Refusal}
use Rattle.dmn_block.specs.Shape.{broken_rule, by_block}
use Rattle.dmn_block.specs.Spend.{spend}
use Rattle.dmn_block.specs.State.{State}
use Rattle.dmn_branch.specs.Quorums.{Committed, Punished, commitment_in, punish_absent, punish_by, punish_unless}
use Rattle.dmn_branch.specs.Step.{Counted, Outcome, Setting, after_payment, and_then, changed_by, committed_by, dutiful, judged, marked, outcome, provided_by, rule_of, setting_of, shaped, spent, stood, transacted, transaction, transactions, unless, verdict_on}
use Rattle.dmn_branch.proofs.Judging.{all_put}
use Rattle.dmn_branch.proofs.Spending.{spend_all, spend_ascends}
use Rattle.dmn_bytes.specs.declared.fault.Departure.{Departure}
use Rattle.dmn_bytes.specs.declared.hash.Hash256.{Hash256}
use Rattle.dmn_bytes.specs.Format.{Format, whole}
use Rattle.dmn_bytes.specs.Law.{IsBytes, IsSound}
use Rattle.dmn_bytes.specs.Points.{hash_cmp}
use Rattle.dmn_bytes.specs.Sound.{whole_takes}
use Rattle.dmn_bytes.specs.declared.points.Pay.{Pay}
use Rattle.dmn_client.specs.Sound.{RowFits}
use Rattle.dmn_client.proofs.Meet.{length_dsha}
use Rattle.dmn_payloads.specs.declared.commitment.Commitment.{Commitment}
use Rattle.dmn_payloads.specs.declared.payloads.ProReg.{ProReg}
use Rattle.dmn_payloads.specs.declared.payloads.Revoke.{Revoke as Revocation}
use Rattle.dmn_payloads.specs.Commitments.{is_null}
use Rattle.dmn_payloads.specs.Payloads.{pro_reg, pro_reg_sound, revoke, up_reg, up_reg_sound, up_serv, up_serv_sound}
use Rattle.dmn_quorums.specs.Bitset.{bit_at}
use Rattle.dmn_quorums.specs.Forming.{Formed, members_in, missing}
use Rattle.dmn_rows.specs.declared.profile.Profile.{Profile}
use Rattle.dmn_rows.specs.declared.row.MnRow.{MnRow}
use Rattle.dmn_rows.specs.declared.rule.Rule.{Rule}
use Rattle.dmn_rows.specs.Listing.{IsAscending, Listing}
use Rattle.dmn_rows.specs.Profile.{confirm_wait}
use Rattle.dmn_rows.specs.Rows.{Outputs, changed, has_collateral, has_hash, put_row}
use Rattle.dmn_rows.specs.Sorted.{IsAbove}
use Rattle.dmn_rows.proofs.Keys.{IsAscending-filter, IsAscending-put_row}
use Rattle.dmn_rules.specs.declared.provider.Provider.{Provider}
use Rattle.dmn_rules.specs.declared.provider.Provider.TheVariants.{Register, Service, Registrar, Revoke}
use Rattle.dmn_rules.specs.Change.{added, list_after, registered, rekeyed, revoked, served}
use Rattle.dmn_rules.specs.Defs.{effect_by, effect_of, effect_read_of}
use Rattle.dmn_rules.specs.Payload.{provider_of}
use Rattle.dmn_rules.specs.Provider.{point_of, script_of}
use Rattle.dmn_standing.specs.Payment.{payee}
use Rattle.dmn_standing.specs.Standing.{confirm, confirmed, decrease, punished}
use Rattle.dmn_tx.specs.declared.kinds.TheConstants.{REGISTER_TX, SERVICE_TX, REGISTRAR_TX, REVOKE_TX}
use Rattle.dmn_tx.specs.declared.tx.Tx.{Tx}
use Rattle.dmn_tx.specs.declared.tx.TxOut.{TxOut}
use Rattle.dmn_tx.specs.Defs.{id_of, tx_text}
use Rattle.dmn_tx.specs.Tx.{is_special}
use Rattle.dmn_light_laws.proofs.Fits.{confirm_fits, decrease_fits, paid_fits, punished_fits, registered_fits, rekeyed_fits, revoked_fits, served_fits}

pub record Keeps (rows : List MnRow) : Type 0 where
  pub ascends : IsAscending rows
  pub fits : All RowFits rows

-- ---- changes of a list

above_map : (f : MnRow → MnRow) → ((row : MnRow) → (f row).hash ≡ row.hash) → (hash : Hash256) (rows : List MnRow) → IsAbove hash_cmp (λ (r : MnRow). r.hash) hash rows → IsAbove hash_cmp (λ (r : MnRow). r.hash) hash (map f rows)
above_map f same hash [] above = tt
above_map f same hash (row ∷ rows) above = (ap (hash_cmp hash) (same row) ∙ above.0, above_map f same hash rows above.1)

ascends_map : (f : MnRow → MnRow) → ((row : MnRow) → (f row).hash ≡ row.hash) → (rows : List MnRow) → IsAscending rows → IsAscending (map f rows)
ascends_map f same [] ascends = tt
ascends_map f same (row ∷ rows) ascends = (
  subst (λ (hash : Hash256). IsAbove hash_cmp (λ (r : MnRow). r.hash) hash (map f rows)) (sym (same row)) (above_map f same row.hash rows ascends.0),
  ascends_map f same rows ascends.1,
)

keeps_map : (f : MnRow → MnRow) → ((row : MnRow) → (f row).hash ≡ row.hash) → ((row : MnRow) → RowFits row → RowFits (f row)) → (rows : List MnRow) → Keeps rows → Keeps (map f rows)
keeps_map f same fits rows k = record {
  ascends = ascends_map f same rows k.ascends;
  fits = All-map RowFits f rows (All-weaker RowFits (λ (r : MnRow). RowFits (f r)) fits rows k.fits);
}

keeps_filter : (test : MnRow → Bool) (rows : List MnRow) → Keeps rows → Keeps (filter test rows)
keeps_filter test rows k = record { ascends = IsAscending-filter test rows k.ascends; fits = All-filter test RowFits rows k.fits }

keeps_put : (row : MnRow) (rows : List MnRow) → RowFits row → Keeps rows → Keeps (put_row row rows)
keeps_put row rows f k = record { ascends = IsAscending-put_row row rows k.ascends; fits = all_put RowFits row rows f k.fits }

found_fits : (test : MnRow → Bool) (rows : List MnRow) (row : MnRow) → All RowFits rows → find test rows ≡ Some row → RowFits row
found_fits test [] row all is = absurd cc
found_fits test (x ∷ rows) row all is = go (found_fits test rows row (λ k d lt. all (suc k) d (omega (arith, lt)))) (test x) is
  where
    go : (find test rows ≡ Some row → RowFits row) → (b : Bool) → cond b (Some x) (find test rows) ≡ Some row → RowFits row
    go behind true e = let same : x ≡ row = cc in subst RowFits same (all 0 x (omega arith))
    go behind false e = behind e

keeps_changed : (change : MnRow → MnRow) → ((row : MnRow) → RowFits row → RowFits (change row)) → (test : MnRow → Bool) (rows : List MnRow) → Keeps rows → Keeps (changed change (find test rows) rows)
keeps_changed change fits test rows k = go (find test rows) refl
  where
    go : (o : Option MnRow) → find test rows ≡ o → Keeps (changed change o rows)
    go None e = k
    go (Some row) e = keeps_put (change row) rows (fits row (found_fits test rows row k.fits e)) k

-- ---- confirmation, penalties and payment

confirm_hash : (wait height : ℕ) (hash : Hash256) (b : Bool) (row : MnRow) → (cond b (record row { confirmed = hash }) row).hash ≡ row.hash
confirm_hash wait height hash true row = refl
confirm_hash wait height hash false row = refl

keeps_stood : (tip : State) → length tip.hash.0 ≡ 32 → Keeps tip.rows → Keeps (stood tip tip.rows).rows
unfolding stood
keeps_stood tip long k =
    keeps_map decrease (λ row. refl) decrease_fits (confirmed confirm_wait (tip.height + 1) tip.hash tip.rows)
    (keeps_map (confirm confirm_wait (tip.height + 1) tip.hash) (λ row. confirm_hash confirm_wait (tip.height + 1) tip.hash _ row) (confirm_fits confirm_wait (tip.height + 1) tip.hash long) tip.rows k)

keeps_marked : (height : ℕ) (who : Option Hash256) (rows : List MnRow) → Keeps rows → Keeps (marked height who rows)
keeps_marked height None rows k = k
keeps_marked height (Some hash) rows k = keeps_changed (λ row. record row { last_paid = height }) (paid_fits height) (has_hash hash) rows k

keeps_unless : (valid : Bool) (height : ℕ) (hash : Hash256) (now : Punished) → Keeps now.rows → Keeps (punish_unless valid height hash now).rows
keeps_unless true height hash now k = k
keeps_unless false height hash now k = keeps_changed (punished height (length now.rows)) (punished_fits height (length now.rows)) (has_hash hash) now.rows k

keeps_absent : (height : ℕ) (bits : List ℕ) (place : ℕ) (members : List Hash256) (now : Punished) → Keeps now.rows → Keeps (punish_absent height bits place members now).rows
keeps_absent height bits place [] now k = k
keeps_absent height bits place (hash ∷ members) now k =
    keeps_absent height bits (place + 1) members (punish_unless (bit_at bits place) height hash now) (keeps_unless (bit_at bits place) height hash now k)

keeps_punished : (formed : List Formed) (height : ℕ) (v : Commitment) (now : Punished) → Keeps now.rows → Keeps (punish_by formed height v now).rows
keeps_punished formed height v now k = go (is_null v)
  where
    go : (b : Bool) → Keeps (cond b now (punish_absent height v.valid.bytes 0 (members_in formed v.kind) now)).rows
    go true = k
    go false = keeps_absent height v.valid.bytes 0 (members_in formed v.kind) now k

-- ---- provider transactions

keeps_added : (height : ℕ) (id : Hash256) (p : ProReg) (script : Option Pay) (rows : List MnRow) → length id.0 ≡ 32 → pro_reg.Fits p → Keeps rows → Keeps (added height id p script rows)
keeps_added height id p None rows long fits k = k
keeps_added height id p (Some script) rows long fits k =
    keeps_put (registered height id p script) _ (registered_fits height id p script long fits) (keeps_filter (λ r. not (has_collateral (point_of id p) r)) rows k)

-- what was read as a payload fits it
abbrev ReadFits : Provider → Type 0
ReadFits (Register p) = pro_reg.Fits p
ReadFits (Service up) = up_serv.Fits up
ReadFits (Registrar up) = up_reg.Fits up
ReadFits (Revoke p) = Unit {0}

keeps_after : (height : ℕ) (id : Hash256) (outs : List TxOut) (outputs : Outputs) (rows : List MnRow) (read : Provider) → length id.0 ≡ 32 → ReadFits read → Keeps rows → Keeps (list_after height id outs outputs rows read)
keeps_after height id outs outputs rows (Register p) long fits k = keeps_added height id p (script_of outs outputs p) rows long fits k
keeps_after height id outs outputs rows (Service up) long fits k = keeps_changed (served height up) (served_fits height up fits) (has_hash up.pro_tx) rows k
keeps_after height id outs outputs rows (Registrar up) long fits k = keeps_changed (rekeyed height up) (rekeyed_fits height up fits) (has_hash up.pro_tx) rows k
keeps_after height id outs outputs rows (Revoke p) long fits k = keeps_changed (revoked height p) (revoked_fits height p) (has_hash p.pro_tx) rows k

-- of each payload that is read
abbrev IfRead : Option Provider → Type 0
IfRead None = Unit {0}
IfRead (Some read) = ReadFits read

read_one : {V : Type 0} (f : Format V) → IsSound f → (make : V → Provider) → ((v : V) → f.Fits v → ReadFits (make v)) → (payload : List ℕ) → IsBytes payload → (r : Result V Departure) → whole f payload ≡ r → IfRead (option_map make (result_ok r))
read_one f sound make fits payload bytes (Ok v) is = fits v (whole_takes f sound payload v bytes is).0
read_one f sound make fits payload bytes (Err d) is = tt

either_read : (b : Bool) (x y : Option Provider) → IfRead x → IfRead y → IfRead (cond b x y)
either_read true x y f g = f
either_read false x y f g = g

revoke_read : (r : Result Revocation Departure) → IfRead (option_map (λ p. Revoke p) (result_ok r))
revoke_read (Ok p) = tt
revoke_read (Err d) = tt

provider_reads : (kind : ℕ) (payload : List ℕ) → IsBytes payload → IfRead (provider_of kind payload)
unfolding provider_of
provider_reads kind payload bytes =
    either_read (kind == REGISTER_TX) _ _ (read_one pro_reg pro_reg_sound (λ p. Register p) (λ v f. f) payload bytes (whole pro_reg payload) refl)
    (either_read (kind == SERVICE_TX) _ _ (read_one up_serv up_serv_sound (λ p. Service p) (λ v f. f) payload bytes (whole up_serv payload) refl)
    (either_read (kind == REGISTRAR_TX) _ _ (read_one up_reg up_reg_sound (λ p. Registrar p) (λ v f. f) payload bytes (whole up_reg payload) refl)
    (either_read (kind == REVOKE_TX) _ _ (revoke_read (whole revoke payload)) tt)))

keeps_effect : (rows : List MnRow) (outputs : Outputs) (t : Tx) (height : ℕ) → IsBytes t.payload → Keeps rows → Keeps (effect_of rows outputs t height)
unfolding effect_of effect_read_of
keeps_effect rows outputs t height bytes k = go (provider_of t.kind t.payload) (provider_reads t.kind t.payload bytes)
  where
    go : (o : Option Provider) → IfRead o → Keeps (effect_by rows outputs t height o)
    go None reads = k
    go (Some read) reads = keeps_after height (id_of t) t.outputs outputs rows read (length_dsha (tx_text t)) reads k

-- ---- transactions

keeps_committed : (s : Setting) (o : Option (ℕ × Commitment)) (committed : Committed) (now : Punished) → Keeps now.rows → Keeps (committed_by s o committed now).rows
keeps_committed s None committed now k = k
keeps_committed s (Some (told, v)) committed now k = keeps_punished s.formed s.height v now k

keeps_change : (s : Setting) (t : Tx) (now : Counted) → IsBytes t.payload → Keeps now.rows → Keeps (changed_by s t now).rows
keeps_change s t now bytes k = keeps_committed s (commitment_in t) now.committed (provided_by s t now) (keeps_effect now.rows s.outputs t s.height bytes k)

keeps_transaction : (s : Setting) (place : ℕ) (t : Tx) (now next : Counted) → IsBytes t.payload → Keeps now.rows → transaction s place t now ≡ Ok next → Keeps next.rows
unfolding transaction
keeps_transaction s place t now next bytes k is = go (is_special t.version t.kind) (rule_of s now t (verdict_on place s.verdicts)) is
  where
    go : (b : Bool) (o : Option Rule) → cond b (judged place o (changed_by s t now)) (Ok now) ≡ Ok next → Keeps next.rows
    go true None e = let same : changed_by s t now ≡ next = cc in subst (λ (c : Counted). Keeps c.rows) same (keeps_change s t now bytes k)
    go true (Some rule) e = absurd cc
    go false o e = let same : now ≡ next = cc in subst (λ (c : Counted). Keeps c.rows) same k

pub then_ok : {X Y : Type 0} (r : Result X Refusal) (f : X → Result Y Refusal) (y : Y) → and_then r f ≡ Ok y → (x : X) × (r ≡ Ok x) × (f x ≡ Ok y)
then_ok (Ok x) f y e = (x, refl, e)
then_ok (Err refusal) f y e = absurd cc

abbrev PayloadIsBytes : Tx → Type 0
PayloadIsBytes t = IsBytes t.payload

keeps_transactions : (s : Setting) (place : ℕ) (txs : List Tx) (now after : Counted) → AllByRecursion PayloadIsBytes txs → Keeps now.rows → transactions s place txs now ≡ Ok after → Keeps after.rows
keeps_transactions s place [] now after bytes k is = let same : now ≡ after = cc in subst (λ (c : Counted). Keeps c.rows) same k
keeps_transactions s place (t ∷ txs) now after bytes k is =
    let first = then_ok (transaction s place t now) (transactions s (place + 1) txs) after is in
    keeps_transactions s (place + 1) txs first.0 after bytes.1 (keeps_transaction s place t now first.0 bytes.0 k first.1) first.2

-- ---- the stages of a block

abbrev ok_of : {X : Type 0} → X → Result X Refusal
ok_of x = Ok x

pub ok_same : {X : Type 0} {x y : X} → ok_of x ≡ ok_of y → x ≡ y
ok_same e = cc

pub unless_ok : {X Y : Type 0} (o : Option Refusal) (x : X) (f : X → Result Y Refusal) (y : Y) → and_then (unless o x) f ≡ Ok y → (o ≡ None) × (f x ≡ Ok y)
unless_ok None x f y e = (refl, e)
unless_ok (Some refusal) x f y e = absurd cc

behind_first : (txs : List Tx) → AllByRecursion PayloadIsBytes txs → AllByRecursion PayloadIsBytes (drop 1 txs)
behind_first [] bytes = tt
behind_first (t ∷ txs) bytes = bytes.1

-- the rows after the inputs and outputs, and after the payment
keeps_ended : (tip : State) (block : BlockFrame) (now : Counted) → Keeps now.rows → Keeps (after_payment tip (spent tip block now)).list.rows
unfolding after_payment spent
keeps_ended tip block now k =
    let list : Listing = record { rows = now.rows; outputs = tip.outputs } in
    keeps_marked (tip.height + 1) (payee tip.rows) (spend block.txs list).rows (record { ascends = spend_ascends block.txs list k.ascends; fits = spend_all RowFits block.txs list k.fits })

-- no rule on its shape refuses the block, and the rows after it are kept
pub record IsOutcome (tip : State) (block : BlockFrame) (after : Outcome) : Type 0 where
  pub shape : broken_rule block tip.hash tip.height ≡ None
  pub keeps : Keeps after.list.rows

pub outcome_keeps : (profile : Profile) (formed : List Formed) (tip : State) (block : BlockFrame) (after : Outcome) → length tip.hash.0 ≡ 32 → AllByRecursion PayloadIsBytes block.txs → Keeps tip.rows → outcome profile formed tip block ≡ Ok after → IsOutcome tip block after
unfolding outcome shaped transacted dutiful
outcome_keeps profile formed tip block after long bytes k is =
    let a = unless_ok (broken_rule block tip.hash tip.height) tip.rows _ after is in
    let b = then_ok (transactions (setting_of profile formed tip block) 1 (drop 1 block.txs) (stood tip tip.rows)) _ after a.1 in
    let c = unless_ok (option_map by_block (missing formed b.0.committed.kinds)) b.0 (λ (now : Counted). ok_of (after_payment tip (spent tip block now))) after b.2 in
    let same : after_payment tip (spent tip block b.0) ≡ after = ok_same c.1 in
    let judged = keeps_transactions (setting_of profile formed tip block) 1 (drop 1 block.txs) (stood tip tip.rows) b.0 (behind_first block.txs bytes) (keeps_stood tip long k) b.1 in
    record { shape = a.0; keeps = subst (λ (o : Outcome). Keeps o.list.rows) same (keeps_ended tip block b.0 judged) }
