-- The answer to Diff, and its frame.
use Rattle.std.proofs.Common.{◌≡◌, ℕ, ◌-◌, Bool, true, false, not, List, [], ◌∷◌, ◌++◌, length, inl, inr, refl, sym, ap, ◌∙◌, subst, arith}
use Rattle.std.specs.Prelude.{Option, None, Some, IfSome, is_some}
use Rattle.std.proofs.lemmas.Option.{slice_get_cases}
use Rattle.std.proofs.Math.Bool.{beq}
use Rattle.std.proofs.lemmas.Bool.{eq-eqb}
use Rattle.std.proofs.lemmas.Slice.Eq.{bytes_eq-Decides}
use Rattle.std.specs.Int.{w32, to_le_bytes}
use Rattle.std.specs.Option.{option_map_or}
use Rattle.dmn_block.specs.State.{State}
use Rattle.dmn_branch.specs.Asked.{IsShown, IsToldOf, LeavesOut, Lends, Lent, hashes_gone, rows_at}
use Rattle.dmn_branch.specs.Coinbases.{CoinbasePart, coinbase_of}
use Rattle.dmn_branch.specs.Parts.{StandsIn}
use Rattle.dmn_branch.specs.Stands.{IsHeld, Kept, Keeping, StandsFor, low_kept}
use Rattle.dmn_branch.proofs.Standing.{held_stands}
use Rattle.dmn_branch.specs.Machine.{MachineState, rows_of, state_at}
use Rattle.dmn_bytes.specs.declared.hash.Hash256.{Hash256}
use Rattle.dmn_diff.specs.Change.{change_of, fresh, gone, same_entry}
use Rattle.dmn_diff.specs.declared.change.ListChange.{ListChange}
use Rattle.dmn_diff.specs.Rows.{is_row_told}
use Rattle.dmn_diff.proofs.Rows.{rows_deleted, rows_told}
use Rattle.dmn_rows.specs.declared.row.MnRow.{MnRow}
use Rattle.dmn_rows.specs.Listing.{IsAscending}
use Rattle.dmn_rows.specs.Rows.{plain_rows}
use Rattle.dmn_rows.proofs.Lookups.{IsAscending-plain}
use Rattle.dmn_sml.specs.declared.entry.SmlEntry.{SmlEntry}
use Rattle.dmn_sml.specs.Defs.{simple}
use Rattle.dmn_sml.specs.Entry.{entry_of}
use Rattle.dmn_desk.specs.declared.answer.Answer.TheVariants.{Grown}
use Rattle.dmn_desk.specs.declared.answer.GrownAnswer.TheVariants as grown
use Rattle.dmn_desk.specs.declared.changes.Heights.{Heights}
use Rattle.dmn_desk.specs.Ask.{diff_by, diff_to, entries_told, of_state}
use Rattle.dmn_frames.specs.Frames.{framed}
use Rattle.dmn_desk.specs.Kept.{HasHeight, IsChange}

-- a frame whose length is known before its body is sent
pub text_framed : (n : ℕ) (text : List ℕ) → length text ≡ n → (0 ∷ []) ++ (to_le_bytes w32 n ++ text) ≡ framed 0 text
unfolding framed
text_framed n text is = ap (λ (k : ℕ). 0 ∷ (to_le_bytes w32 k ++ text)) (sym is)

-- ---- which entries are told

-- rows as they are seen at a height have the same entries
told_seen : (base : List MnRow) (h : ℕ) (row : MnRow) (rows : List MnRow) (b : Bool) → is_row_told base row ≡ b → entries_told base (plain_rows h rows) ≡ entries_told base rows → entries_told base (plain_rows h (row ∷ rows)) ≡ entries_told base (row ∷ rows)
told_seen base h row rows true is rest = rw is (ap (λ (l : List SmlEntry). entry_of row ∷ l) rest)
told_seen base h row rows false is rest = rw is rest

pub entries_seen : (base : List MnRow) (h : ℕ) (rows : List MnRow) → entries_told base (plain_rows h rows) ≡ entries_told base rows
entries_seen base h [] = refl
entries_seen base h (row ∷ rows) = told_seen base h row rows (is_row_told base row) refl (entries_seen base h rows)

-- an entry is as itself
same_self : (e : SmlEntry) → same_entry e e ≡ true
same_self e =
    rw (
      (bytes_eq-Decides e.hash.0 e.hash.0).1 refl,
      (bytes_eq-Decides e.confirmed.0 e.confirmed.0).1 refl,
      (bytes_eq-Decides e.service.address e.service.address).1 refl,
      eq-eqb e.service.port e.service.port refl,
      (bytes_eq-Decides e.operator e.operator).1 refl,
      (bytes_eq-Decides e.voting e.voting).1 refl,
    ) (flag_self e.valid)
  where
    flag_self : (b : Bool) → beq b b ≡ true
    flag_self true = refl
    flag_self false = refl

-- a row whose entry the base has is not told
untold : (base : List MnRow) (row : MnRow) → IsShown base row → is_row_told base row ≡ false
untold base row shown =
    let old : MnRow = shown.0 in
    ap (λ (o : Option MnRow). not (option_map_or (λ b. same_entry (entry_of row) (entry_of b)) o false)) shown.1
    ∙ ap (λ (e : SmlEntry). not (same_entry (entry_of row) e)) shown.2
    ∙ ap not (same_self (entry_of row))

told_step : (base : List MnRow) (row : MnRow) (b : Bool) (xs ys : List MnRow) → is_row_told base row ≡ b → entries_told base xs ≡ entries_told base ys → entries_told base (row ∷ xs) ≡ entries_told base (row ∷ ys)
told_step base row true xs ys is same = rw is (ap (λ (l : List SmlEntry). entry_of row ∷ l) same)
told_step base row false xs ys is same = rw is same

-- where only such rows are left out, the same entries are told
pub told_left : (base target put : List MnRow) → LeavesOut base target put → entries_told base put ≡ entries_told base target
told_left base [] put is = ap (entries_told base) is
told_left base (row ∷ target) put (inl kept) =
    ap (entries_told base) kept.1 ∙ told_step base row (is_row_told base row) kept.0 target refl (told_left base target kept.0 kept.2)
told_left base (row ∷ target) put (inr shown) =
    let none : entries_told base (row ∷ target) ≡ entries_told base target = rw (untold base row shown.0) refl in
    told_left base target put shown.1 ∙ sym none

-- ---- by a branch

-- what is kept of a height that is held stands for the state of that height
held_kept : (branch : Keeping) (m : MachineState) (height : ℕ) → StandsFor branch m → IsHeld branch height → (kept : Kept) × StandsIn kept (state_at m height)
held_kept branch m height stands held =
    elim ((slice_get_cases branch.lists (height - low_kept branch)).1) [
      | inl found ↦ (found.0, held_stands branch m height found.0 stands held.low found.2)
      | inr past ↦ absurd (omega (arith, held.low, held.high, past.0))
    ]

ascends_in : (kept : Kept) (found : Option State) → StandsIn kept found → IsAscending (rows_of found)
ascends_in kept None at = absurd at
ascends_in kept (Some state) at = subst IsAscending at.rows (IsAscending-plain state.height kept.rows at.whole.rows)

some_in : (kept : Kept) (found : Option State) → StandsIn kept found → is_some found ≡ true
some_in kept None at = absurd at
some_in kept (Some state) at = refl

-- the rows of a height that is held ascend
rows_ascend : (branch : Keeping) (m : MachineState) (from : Option ℕ) → StandsFor branch m → IfSome from (IsHeld branch) → IsAscending (rows_at m from)
rows_ascend branch m None stands held = tt
rows_ascend branch m (Some height) stands held =
    let kept = held_kept branch m height stands held in
    ascends_in kept.0 (state_at m height) kept.1

has_height : (branch : Keeping) (m : MachineState) (height : ℕ) → StandsFor branch m → IsHeld branch height → HasHeight m height
has_height branch m height stands held =
    let kept = held_kept branch m height stands held in
    record { first = omega (arith, held.low, stands.first); state = some_in kept.0 (state_at m height) kept.1 }

has_base : (branch : Keeping) (m : MachineState) (from : Option ℕ) → StandsFor branch m → IfSome from (IsHeld branch) → IfSome from (HasHeight m)
has_base branch m None stands held = tt
has_base branch m (Some height) stands held = has_height branch m height stands held

pub change_made : (branch : Keeping) (m : MachineState) (heights : Heights) (deleted : List Hash256) (put : List MnRow) (entries : List SmlEntry) → StandsFor branch m → IfSome heights.base (IsHeld branch) → IsHeld branch heights.target
    → deleted ≡ hashes_gone (rows_at m heights.base) (rows_at m (Some heights.target)) → LeavesOut (rows_at m heights.base) (rows_at m (Some heights.target)) (plain_rows heights.target put) → entries ≡ entries_told (rows_at m heights.base) put
    → IsChange m heights (record { deleted = deleted; entries = entries })
change_made branch m heights deleted put entries stands base target gone_is left made =
    let rows : List MnRow = rows_at m heights.base in
    let found : List MnRow = rows_at m (Some heights.target) in
    let fresh_is : entries ≡ fresh (simple rows) (simple found) =
    made ∙ sym (entries_seen rows heights.target put) ∙ told_left rows found (plain_rows heights.target put) left ∙ sym (rows_told rows found (rows_ascend branch m heights.base stands base)) in
    let deleted_is : deleted ≡ gone (simple rows) (simple found) = gone_is ∙ sym (rows_deleted rows found) in
    record {
      base = has_base branch m heights.base stands base;
      target = has_height branch m heights.target stands target;
      is = rw (fresh_is, deleted_is) refl;
    }

diff_of_state : (m : MachineState) (base : Hash256) (rows : List MnRow) (found : Option State) (lent : Lent) (part : CoinbasePart) (change : ListChange)
    → change ≡ change_of (simple rows) (simple (rows_of found)) → Lends lent found → IsToldOf coinbase_of (Some part) found
    → Grown (grown.Diff (record { base = base; block = lent.hash; branch = part.branch; coinbase = part.tx; deleted = change.deleted; entries = change.entries })) ≡ of_state m (diff_to base rows) found
diff_of_state m base rows None lent part change is lends told = absurd lends
diff_of_state m base rows (Some state) lent part change is lends told = rw (lends.hash, is) (ap (diff_by base rows state) told)

pub diff_made : (m : MachineState) (base : Hash256) (heights : Heights) (lent : Lent) (part : CoinbasePart) (change : ListChange) → IsChange m heights change → Lends lent (state_at m heights.target) → IsToldOf coinbase_of (Some part) (state_at m heights.target)
    → Grown (grown.Diff (record { base = base; block = lent.hash; branch = part.branch; coinbase = part.tx; deleted = change.deleted; entries = change.entries })) ≡ of_state m (diff_to base (rows_at m heights.base)) (state_at m heights.target)
diff_made m base heights lent part change is lends told = diff_of_state m base (rows_at m heights.base) (state_at m heights.target) lent part change is.is lends told
