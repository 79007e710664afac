-- What rows pay to stays in its form, whatever a block does to them.
use Rattle.std.proofs.Common.{◌≡◌, ℕ, zero, suc, ◌+◌, ◌==◌, Bool, true, false, cond, List, [], ◌∷◌, ◌++◌, length, length-append, take, drop, map, find, filter, Option, None, Some, refl, sym, ap, ◌∙◌, subst, arith}
use Rattle.std.specs.Prelude.{is_some, slice_get}
use Rattle.std.specs.List.{All}
use Rattle.std.specs.Option.{option_map}
use Rattle.std.specs.Str.{bytes_eq}
use Rattle.std.specs.Ordering.{is_lt}
use Rattle.std.proofs.lemmas.List.{length-drop, length-take}
use Rattle.std.proofs.lemmas.List.Elements.{All-append, All-filter, All-map, All-weaker}
use Rattle.std.proofs.lemmas.Slice.Eq.{bytes_eq-Decides}
use Rattle.dmn_branch.proofs.Judging.{all_put}
use Rattle.dmn_bytes.specs.declared.hash.Hash256.{Hash256}
use Rattle.dmn_bytes.specs.declared.points.OutPoint.{OutPoint}
use Rattle.dmn_bytes.specs.declared.points.Pay.{Pay}
use Rattle.dmn_bytes.specs.Format.{SeriesFits, following, last_key}
use Rattle.dmn_bytes.specs.Points.{out_point, pay, pay_hash, pay_kind, point_cmp}
use Rattle.dmn_payloads.specs.declared.payloads.ProReg.{ProReg}
use Rattle.dmn_payloads.specs.declared.payloads.Revoke.{Revoke as Revocation}
use Rattle.dmn_payloads.specs.declared.payloads.UpReg.{UpReg}
use Rattle.dmn_payloads.specs.declared.payloads.UpServ.{UpServ}
use Rattle.dmn_payloads.specs.Scripts.{p2pkh, p2sh, pay_of}
use Rattle.dmn_restore.specs.Formed.{HasFormedPay, HasFormedPays}
use Rattle.dmn_rows.specs.declared.row.MnRow.{MnRow}
use Rattle.dmn_rows.specs.declared.start.StartOutput.{StartOutput}
use Rattle.dmn_rows.specs.Row.{ban, plain}
use Rattle.dmn_rows.specs.Rows.{Outputs, changed, has_point, plain_rows, put_output}
use Rattle.dmn_rows.specs.Defs.{IsStart}
use Rattle.dmn_rows.specs.declared.start.StartRecord.{StartRecord}
use Rattle.dmn_rows.specs.Start.{behind_point, outputs_field, point_of, start_record}
use Rattle.dmn_rows.specs.Waiting.{is_due}
use Rattle.dmn_rules.specs.Change.{cleared, no_pay, registered, rekeyed, revoked, served}
use Rattle.dmn_rules.specs.Provider.{is_own, script_of}
use Rattle.dmn_standing.specs.Standing.{confirm, decrease, most_penalty, punished, raised}
use Rattle.dmn_tx.specs.declared.tx.TxOut.{TxOut}

-- ---- what a script pays to

abbrev made : ℕ → List ℕ → Pay
made kind hash = record { kind = kind; hash = hash }

hashed_one : (hash : List ℕ) → length hash ≡ 20 → pay.Fits (made 1 hash)
unfolding pay pay_kind pay_hash
hashed_one hash long = ((omega arith, refl), (long, refl))

hashed_two : (hash : List ℕ) → length hash ≡ 20 → pay.Fits (made 2 hash)
unfolding pay pay_kind pay_hash
hashed_two hash long = ((omega arith, refl), (long, refl))

pub none_fits : pay.Fits no_pay
unfolding pay pay_kind pay_hash
none_fits = ((omega arith, refl), (refl, refl))

-- so many bytes from a place on, which stand between three and two others, or two and one, are twenty
twenty_in : (script hash : List ℕ) → hash ≡ take 20 (drop 3 script) → script ≡ p2pkh hash → length hash ≡ 20
twenty_in script hash is same =
    let all : length script ≡ suc (suc (suc (length hash + length {A = ℕ} (0x88 ∷ 0xac ∷ [])))) = ap (λ (l : List ℕ). length l) same ∙ ap (λ (n : ℕ). suc (suc (suc n))) (length-append hash (0x88 ∷ 0xac ∷ [])) in
    let part : length hash ≡ length (take 20 (drop 3 script)) = ap (λ (l : List ℕ). length l) is in
    omega (arith, all, part, length-take 20 (drop 3 script), length-drop 3 script)

twenty_at : (script hash : List ℕ) → hash ≡ take 20 (drop 2 script) → script ≡ p2sh hash → length hash ≡ 20
twenty_at script hash is same =
    let all : length script ≡ suc (suc (length hash + length {A = ℕ} (0x87 ∷ []))) = ap (λ (l : List ℕ). length l) same ∙ ap (λ (n : ℕ). suc (suc n)) (length-append hash (0x87 ∷ [])) in
    let part : length hash ≡ length (take 20 (drop 2 script)) = ap (λ (l : List ℕ). length l) is in
    omega (arith, all, part, length-take 20 (drop 2 script), length-drop 2 script)

pub pay_fits : (script : List ℕ) → pay.Fits (pay_of script)
unfolding pay_of
pay_fits script = go (bytes_eq script (p2pkh key)) (bytes_eq script (p2sh hash)) refl refl
  where
    key : List ℕ
    key = take 20 (drop 3 script)

    hash : List ℕ
    hash = take 20 (drop 2 script)

    go : (a b : Bool) → bytes_eq script (p2pkh key) ≡ a → bytes_eq script (p2sh hash) ≡ b → pay.Fits (cond a (made 1 key) (cond b (made 2 hash) no_pay))
    go true b one two = hashed_one key (twenty_in script key refl ((bytes_eq-Decides script (p2pkh key)).0 one))
    go false true one two = hashed_two hash (twenty_at script hash refl ((bytes_eq-Decides script (p2sh hash)).0 two))
    go false false one two = none_fits

abbrev pub IfPay : Option Pay → Type 0
IfPay None = Unit {0}
IfPay (Some p) = pay.Fits p

output_paid : (test : StartOutput → Bool) (outputs : Outputs) → All HasFormedPay outputs → IfPay (option_map (λ (o : StartOutput). o.pay) (find test outputs))
output_paid test [] all = tt
output_paid test (o ∷ outputs) all =
    let rest = output_paid test outputs (λ k d lt. all (suc k) d (omega (arith, lt))) in
    elim (test o) as (λ (b : Bool). IfPay (option_map (λ (o : StartOutput). o.pay) (cond b (Some o) (find test outputs)))) [ true ↦ all 0 o (omega arith) | false ↦ rest ]

own_paid : (o : Option TxOut) → IfPay (option_map (λ (out : TxOut). pay_of out.script) o)
own_paid None = tt
own_paid (Some out) = pay_fits out.script

either_paid : (b : Bool) (x y : Option Pay) → IfPay x → IfPay y → IfPay (cond b x y)
either_paid true x y f g = f
either_paid false x y f g = g

pub script_paid : (outs : List TxOut) (outputs : Outputs) (p : ProReg) → All HasFormedPay outputs → IfPay (script_of outs outputs p)
unfolding script_of
script_paid outs outputs p all = either_paid (is_own p) _ _ (own_paid (slice_get outs p.collateral.index)) (output_paid (has_point p.collateral) outputs all)

-- ---- rows

-- the same in each part that pays
alike : (row new : MnRow) → new.payout ≡ row.payout → new.operator_payout ≡ row.operator_payout → new.script ≡ row.script → HasFormedPays row → HasFormedPays new
alike row new payout operator script f = record { payout = subst pay.Fits (sym payout) f.payout; operator = subst pay.Fits (sym operator) f.operator; script = subst pay.Fits (sym script) f.script }

either : (b : Bool) (row new : MnRow) → HasFormedPays row → HasFormedPays new → HasFormedPays (cond b row new)
either true row new f g = f
either false row new f g = g

pub confirm_pays : (wait height : ℕ) (hash : Hash256) (row : MnRow) → HasFormedPays row → HasFormedPays (confirm wait height hash row)
confirm_pays wait height hash row f = either (is_due wait height row) (record row { confirmed = hash }) row (alike row (record row { confirmed = hash }) refl refl refl f) f

pub decrease_pays : (row : MnRow) → HasFormedPays row → HasFormedPays (decrease row)
decrease_pays row f = alike row (decrease row) refl refl refl f

ban_pays : (height : ℕ) (row : MnRow) → HasFormedPays row → HasFormedPays (ban height row)
ban_pays height row f = either (row.banned == 0) (record row { banned = height }) row (alike row (record row { banned = height }) refl refl refl f) f

pub punished_pays : (height count : ℕ) (row : MnRow) → HasFormedPays row → HasFormedPays (punished height count row)
unfolding punished
punished_pays height count row f =
    let raised_row : MnRow = record row { penalty = raised count row.penalty } in
    let g : HasFormedPays raised_row = alike row raised_row refl refl refl f in
    either (raised_row.penalty == most_penalty count) (ban height raised_row) raised_row (ban_pays height raised_row g) g

pub paid_pays : (height : ℕ) (row : MnRow) → HasFormedPays row → HasFormedPays (record row { last_paid = height })
paid_pays height row f = alike row (record row { last_paid = height }) refl refl refl f

pub registered_pays : (height : ℕ) (id : Hash256) (p : ProReg) (script : Pay) → pay.Fits script → HasFormedPays (registered height id p script)
unfolding registered
registered_pays height id p script fits = record { payout = pay_fits p.payout; operator = none_fits; script = fits }

pub served_pays : (height : ℕ) (up : UpServ) (row : MnRow) → HasFormedPays row → HasFormedPays (served height up row)
unfolding served
served_pays height up row f =
    let set : MnRow = record row { service = up.service; operator_payout = pay_of up.payout } in
    let g : HasFormedPays set = record { payout = f.payout; operator = pay_fits up.payout; script = f.script } in
    either (row.banned == 0) set (record set { penalty = 0; banned = 0; revived = height }) g (alike set (record set { penalty = 0; banned = 0; revived = height }) refl refl refl g)

cleared_pays : (row : MnRow) → HasFormedPays row → HasFormedPays (cleared row)
cleared_pays row f = record { payout = f.payout; operator = none_fits; script = f.script }

pub rekeyed_pays : (height : ℕ) (up : UpReg) (row : MnRow) → HasFormedPays row → HasFormedPays (rekeyed height up row)
unfolding rekeyed
rekeyed_pays height up row f =
    let kept : MnRow = cond (bytes_eq row.operator up.operator) row (ban height (cleared row)) in
    let k : HasFormedPays kept = either (bytes_eq row.operator up.operator) row (ban height (cleared row)) f (ban_pays height (cleared row) (cleared_pays row f)) in
    record { payout = pay_fits up.payout; operator = k.operator; script = k.script }

pub revoked_pays : (height : ℕ) (p : Revocation) (row : MnRow) → HasFormedPays row → HasFormedPays (revoked height p row)
unfolding revoked
revoked_pays height p row f = alike (ban height (cleared row)) (revoked height p row) refl refl refl (ban_pays height (cleared row) (cleared_pays row f))

-- ---- rows as they are stored

all_next : {X : Type 0} (P : X → Type 0) (x : X) (xs : List X) → P x → All P xs → All P (x ∷ xs)
all_next P x xs one all zero d lt = one
all_next P x xs one all (suc k) d lt = all k d (omega (arith, lt))

pub none_all : {X : Type 0} (P : X → Type 0) → All P []
none_all P k d lt = absurd (omega (arith, lt))

seen_pays : (height : ℕ) (stored : List MnRow) → All HasFormedPays (plain_rows height stored) → All HasFormedPays stored
seen_pays height [] all = none_all HasFormedPays
seen_pays height (row ∷ stored) all =
    all_next HasFormedPays row stored (alike (plain height row) row refl refl refl (all 0 row (omega arith)))
    (seen_pays height stored (λ k d lt. all (suc k) d (omega (arith, lt))))

pub stored_pays : (height : ℕ) (stored rows : List MnRow) → plain_rows height stored ≡ rows → All HasFormedPays rows → All HasFormedPays stored
stored_pays height stored rows same all = seen_pays height stored (subst (All HasFormedPays) (sym same) all)

-- ---- changes of a list

pub keeps_map : (f : MnRow → MnRow) → ((row : MnRow) → HasFormedPays row → HasFormedPays (f row)) → (rows : List MnRow) → All HasFormedPays rows → All HasFormedPays (map f rows)
keeps_map f each rows k = All-map HasFormedPays f rows (All-weaker HasFormedPays (λ (r : MnRow). HasFormedPays (f r)) each rows k)

found_pays : (test : MnRow → Bool) (rows : List MnRow) (row : MnRow) → All HasFormedPays rows → find test rows ≡ Some row → HasFormedPays row
found_pays test [] row all is = absurd cc
found_pays test (x ∷ rows) row all is = go (found_pays test rows row (λ k d lt. all (suc k) d (omega (arith, lt)))) (test x) is
  where
    go : (find test rows ≡ Some row → HasFormedPays row) → (b : Bool) → cond b (Some x) (find test rows) ≡ Some row → HasFormedPays row
    go behind true e = let same : x ≡ row = cc in subst HasFormedPays same (all 0 x (omega arith))
    go behind false e = behind e

pub keeps_changed : (change : MnRow → MnRow) → ((row : MnRow) → HasFormedPays row → HasFormedPays (change row)) → (test : MnRow → Bool) (rows : List MnRow) → All HasFormedPays rows → All HasFormedPays (changed change (find test rows) rows)
keeps_changed change each test rows k = go (find test rows) refl
  where
    go : (o : Option MnRow) → find test rows ≡ o → All HasFormedPays (changed change o rows)
    go None e = k
    go (Some row) e = all_put HasFormedPays (change row) rows (each row (found_pays test rows row k e)) k

-- an output that is put, if its outpoint isn't there
pub keeps_output : (point : OutPoint) (script : List ℕ) (outputs : Outputs) → All HasFormedPay outputs → All HasFormedPay (put_output point (pay_of script) outputs)
keeps_output point script outputs all = go (is_some (find (has_point point) outputs))
  where
    new : StartOutput
    new = record { point = point; pay = pay_of script }

    lower : StartOutput → Bool
    lower w = is_lt (point_cmp w.point point)

    higher : StartOutput → Bool
    higher w = is_lt (point_cmp point w.point)

    go : (b : Bool) → All HasFormedPay (cond b outputs (filter lower outputs ++ new ∷ filter higher outputs))
    go true = all
    go false = All-append HasFormedPay (filter lower outputs) (new ∷ filter higher outputs) (All-filter lower HasFormedPay outputs all) (all_next HasFormedPay new (filter higher outputs) (pay_fits script) (All-filter higher HasFormedPay outputs all))

-- ---- the outputs of a start record

series_paid : (last : Option OutPoint) (outputs : Outputs) → SeriesFits (following point_cmp point_of out_point behind_point) (last_key point_of) last outputs → All HasFormedPay outputs
unfolding SeriesFits behind_point
series_paid last [] fits = none_all HasFormedPay
series_paid last (o ∷ outputs) fits = all_next HasFormedPay o outputs fits.0.1.1 (series_paid (Some o.point) outputs fits.1)

field_paid : (outputs : Outputs) → outputs_field.Fits outputs → All HasFormedPay outputs
unfolding outputs_field
field_paid outputs fits = series_paid None outputs fits.1.1

pub start_paid : (start : StartRecord) → IsStart start → All HasFormedPay start.outputs
unfolding start_record
start_paid start fits = field_paid start.outputs fits.1.1.1.1
