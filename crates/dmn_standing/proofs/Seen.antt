-- What a block does to stored rows, as it is seen at a height.
use Rattle.std.proofs.Common.{◌≡◌, ℕ, suc, ◌+◌, ◌-◌, ◌≤◌, Bool, true, false, cond, List, [], ◌∷◌, length, find, Option, Some, None, refl, sym, ap, ◌∙◌, arith}
use Rattle.std.specs.Prelude.{◌==◌}
use Rattle.std.specs.List.{All}
use Rattle.std.specs.Option.{option_map}
use Rattle.std.proofs.lemmas.List.{length-map}
use Rattle.dmn_bytes.specs.declared.hash.Hash256.{Hash256}
use Rattle.dmn_rows.specs.declared.row.MnRow.{MnRow}
use Rattle.dmn_rows.specs.Row.{plain}
use Rattle.dmn_rows.specs.Rows.{plain_rows, has_hash, changed, put_row}
use Rattle.dmn_rows.proofs.Lookups.{find-plain, put_row-plain}
use Rattle.dmn_rows.specs.Waiting.{is_due}
use Rattle.dmn_standing.specs.Standing.{confirm, confirmed, decrease, decreased, punished, punish_in, paid}

-- ---- penalties fall

decrease_plain : (n : ℕ) (row : MnRow) → row.penalty_at ≤ n → plain (n + 1) row ≡ decrease (plain n row)
decrease_plain n row le = ap (λ (p : ℕ). record row { penalty = p; penalty_at = 0 }) (go (row.banned == 0))
  where
    go : (b : Bool) → cond b (row.penalty - (n + 1 - row.penalty_at)) row.penalty ≡ cond b (cond b (row.penalty - (n - row.penalty_at)) row.penalty - 1) (cond b (row.penalty - (n - row.penalty_at)) row.penalty)
    go true = omega (arith, le)
    go false = refl

pub decreased_plain : (n : ℕ) (rows : List MnRow) → All (λ row. row.penalty_at ≤ n) rows → plain_rows (n + 1) rows ≡ decreased (plain_rows n rows)
decreased_plain n [] all = refl
decreased_plain n (row ∷ rows) all =
    ap (λ (r : MnRow). r ∷ plain_rows (n + 1) rows) (decrease_plain n row (all 0 row (omega arith)))
    ∙ ap (λ (rest : List MnRow). decrease (plain n row) ∷ rest) (decreased_plain n rows (λ k d lt. all (suc k) d (omega (arith, lt))))

-- ---- rows are confirmed

confirm_plain : (seen wait height : ℕ) (hash : Hash256) (r : MnRow) → plain seen (confirm wait height hash r) ≡ confirm wait height hash (plain seen r)
confirm_plain seen wait height hash r =
    elim (is_due wait height r) as (λ b. plain seen (cond b (record r { confirmed = hash }) r) ≡ cond b (record (plain seen r) { confirmed = hash }) (plain seen r)) [ true ↦ refl | false ↦ refl ]

pub confirmed_plain : (seen wait height : ℕ) (hash : Hash256) (rows : List MnRow) → plain_rows seen (confirmed wait height hash rows) ≡ confirmed wait height hash (plain_rows seen rows)
confirmed_plain seen wait height hash [] = refl
confirmed_plain seen wait height hash (r ∷ rows) =
    ap (λ (q : MnRow). q ∷ plain_rows seen (confirmed wait height hash rows)) (confirm_plain seen wait height hash r)
    ∙ ap (λ (rest : List MnRow). confirm wait height hash (plain seen r) ∷ rest) (confirmed_plain seen wait height hash rows)

-- ---- one row is changed

pub changed_plain : (h : ℕ) (stored seen : MnRow → MnRow) → ((r : MnRow) → plain h (stored r) ≡ seen (plain h r)) → (hash : Hash256) (rows : List MnRow) → plain_rows h (changed stored (find (has_hash hash) rows) rows) ≡ changed seen (find (has_hash hash) (plain_rows h rows)) (plain_rows h rows)
changed_plain h stored seen is hash rows = go (find (has_hash hash) rows) ∙ ap (λ (o : Option MnRow). changed seen o (plain_rows h rows)) (sym (find-plain (has_hash hash) (λ _ _. refl) h rows))
  where
    go : (o : Option MnRow) → plain_rows h (changed stored o rows) ≡ changed seen (option_map (plain h) o) (plain_rows h rows)
    go None = refl
    go (Some r) = put_row-plain h (stored r) rows ∙ ap (λ (q : MnRow). changed (λ _. q) (Some r) (plain_rows h rows)) (is r)

pub paid_plain : (seen height : ℕ) (hash : Hash256) (rows : List MnRow) → plain_rows seen (paid height hash rows) ≡ paid height hash (plain_rows seen rows)
paid_plain seen height hash rows = changed_plain seen (λ r. record r { last_paid = height }) (λ r. record r { last_paid = height }) (λ r. refl) hash rows

-- a row that was found was punished in its place
pub punished_found : (height : ℕ) (hash : Hash256) (rows : List MnRow) (r q : MnRow) → find (has_hash hash) rows ≡ Some r → plain height q ≡ punished height (length rows) (plain height r) → plain_rows height (put_row q rows) ≡ punish_in height hash (plain_rows height rows)
punished_found height hash rows r q found is =
    put_row-plain height q rows
    ∙ ap (λ (p : MnRow). changed (λ _. p) (Some r) (plain_rows height rows)) (is ∙ ap (λ (n : ℕ). punished height n (plain height r)) (sym (length-map rows (plain height))))
    ∙ ap (λ (o : Option MnRow). changed (punished height (length (plain_rows height rows))) o (plain_rows height rows)) (ap (option_map (plain height)) (sym found) ∙ sym (find-plain (has_hash hash) (λ _ _. refl) height rows))

-- where none was found, nothing changes
pub punished_none : (height : ℕ) (hash : Hash256) (rows : List MnRow) → find (has_hash hash) rows ≡ None → plain_rows height rows ≡ punish_in height hash (plain_rows height rows)
punished_none height hash rows none =
    ap (λ (o : Option MnRow). changed (punished height (length (plain_rows height rows))) o (plain_rows height rows)) (ap (option_map (plain height)) (sym none) ∙ sym (find-plain (has_hash hash) (λ _ _. refl) height rows))
