-- What changes between the simplified lists of rows, by look-ups among rows.
use Rattle.std.proofs.Common.{◌≡◌, Bool, true, false, not, cond, List, [], ◌∷◌, map, filter, find, Option, Some, None, refl, ap, ◌∙◌, inl, inr}
use Rattle.std.specs.Prelude.{is_some}
use Rattle.std.specs.Option.{option_map, option_map_or}
use Rattle.std.proofs.lemmas.Bool.{cases_Bool}
use Rattle.dmn_bytes.specs.declared.hash.Hash256.{Hash256}
use Rattle.dmn_bytes.specs.Points.{hash_cmp}
use Rattle.dmn_rows.specs.declared.row.MnRow.{MnRow}
use Rattle.dmn_rows.specs.Listing.{IsAscending as RowsAscend}
use Rattle.dmn_rows.specs.Rows.{has_hash as row_has_hash}
use Rattle.dmn_rows.specs.Sorted.{IsAbove}
use Rattle.dmn_sml.specs.declared.entry.SmlEntry.{SmlEntry}
use Rattle.dmn_sml.specs.Defs.{IsAscending, has_hash, simple}
use Rattle.dmn_sml.specs.Entry.{entry_of}
use Rattle.dmn_diff.specs.Change.{same_entry, gone, fresh, is_told}
use Rattle.dmn_diff.specs.Diff.{hash_of}
use Rattle.dmn_diff.specs.Rows.{is_row_told, row_hash}
use Rattle.dmn_diff.proofs.Steps.{deleted_by_look_up, told_by_look_up}

-- ---- the simplified list of rows that ascend

above : (hash : Hash256) (rows : List MnRow) → IsAbove hash_cmp row_hash hash rows → IsAbove hash_cmp hash_of hash (simple rows)
above hash [] p = tt
above hash (row ∷ rows) p = (p.0, above hash rows p.1)

pub simple_ascends : (rows : List MnRow) → RowsAscend rows → IsAscending (simple rows)
simple_ascends [] p = tt
simple_ascends (row ∷ rows) p = (above row.hash rows p.0, simple_ascends rows p.1)

-- ---- filters and look-ups through a map

module _ {A B : Type 0} (g : A → B) where
  mapped_by : (f : B → Bool) (x : A) (xs : List A) (b : Bool) → f (g x) ≡ b → filter f (map g xs) ≡ map g (filter (λ a. f (g a)) xs) → filter f (map g (x ∷ xs)) ≡ map g (filter (λ a. f (g a)) (x ∷ xs))
  mapped_by f x xs true e rest = rw e (ap (λ (l : List B). g x ∷ l) rest)
  mapped_by f x xs false e rest = rw e rest

  pub filter_mapped : (f : B → Bool) (xs : List A) → filter f (map g xs) ≡ map g (filter (λ a. f (g a)) xs)
  filter_mapped f [] = refl
  filter_mapped f (x ∷ xs) = mapped_by f x xs (f (g x)) refl (filter_mapped f xs)

  found_by : (f : B → Bool) (x : A) (xs : List A) (b : Bool) → f (g x) ≡ b → find f (map g xs) ≡ option_map g (find (λ a. f (g a)) xs) → find f (map g (x ∷ xs)) ≡ option_map g (find (λ a. f (g a)) (x ∷ xs))
  found_by f x xs true e rest = rw e refl
  found_by f x xs false e rest = rw e rest

  pub find_mapped : (f : B → Bool) (xs : List A) → find f (map g xs) ≡ option_map g (find (λ a. f (g a)) xs)
  find_mapped f [] = refl
  find_mapped f (x ∷ xs) = found_by f x xs (f (g x)) refl (find_mapped f xs)

  pub some_mapped : (o : Option A) → is_some (option_map g o) ≡ is_some o
  some_mapped None = refl
  some_mapped (Some a) = refl

  pub map_or_mapped : (f : B → Bool) (o : Option A) → option_map_or f (option_map g o) false ≡ option_map_or (λ a. f (g a)) o false
  map_or_mapped f None = refl
  map_or_mapped f (Some a) = refl

same_filter : {A : Type 0} (f h : A → Bool) → ((a : A) → f a ≡ h a) → (xs : List A) → filter f xs ≡ filter h xs
same_filter {A} f h same [] = refl
same_filter {A} f h same (x ∷ xs) = rw (same x) (ap (λ (l : List A). cond (h x) (x ∷ l) l) (same_filter f h same xs))

joined_maps : (rows : List MnRow) → map hash_of (map entry_of rows) ≡ map row_hash rows
joined_maps [] = refl
joined_maps (row ∷ rows) = ap (λ (l : List Hash256). row.hash ∷ l) (joined_maps rows)

-- ---- what is deleted, and what is told

is_left : (target : List MnRow) (row : MnRow) → not (is_some (find (has_hash row.hash) (simple target))) ≡ not (is_some (find (row_has_hash row.hash) target))
is_left target row = ap (λ (o : Option SmlEntry). not (is_some o)) (find_mapped entry_of (has_hash row.hash) target) ∙ ap not (some_mapped entry_of (find (row_has_hash row.hash) target))

pub rows_deleted : (base target : List MnRow) → gone (simple base) (simple target) ≡ map row_hash (filter (λ b. not (is_some (find (row_has_hash b.hash) target))) base)
rows_deleted base target =
    deleted_by_look_up (simple base) (simple target)
    ∙ (ap (map hash_of) (filter_mapped entry_of (λ b. not (is_some (find (has_hash b.hash) (simple target)))) base)
    ∙ (joined_maps (filter (λ b. not (is_some (find (has_hash b.hash) (simple target)))) base)
    ∙ ap (map row_hash) (same_filter (λ b. not (is_some (find (has_hash b.hash) (simple target)))) (λ b. not (is_some (find (row_has_hash b.hash) target))) (is_left target) base)))

told_is : (base : List MnRow) (row : MnRow) → is_told (simple base) (entry_of row) ≡ is_row_told base row
told_is base row =
    ap (λ (o : Option SmlEntry). not (option_map_or (same_entry (entry_of row)) o false)) (find_mapped entry_of (has_hash row.hash) base)
    ∙ ap not (map_or_mapped entry_of (same_entry (entry_of row)) (find (row_has_hash row.hash) base))

pub rows_told : (base target : List MnRow) → RowsAscend base → fresh (simple base) (simple target) ≡ map entry_of (filter (is_row_told base) target)
rows_told base target p =
    told_by_look_up (simple base) (simple target) (simple_ascends base p)
    ∙ (filter_mapped entry_of (is_told (simple base)) target ∙ ap (map entry_of) (same_filter (λ r. is_told (simple base) (entry_of r)) (is_row_told base) (told_is base) target))

-- rows that are passed over are not told
pub told_of_some : (base target : List MnRow) (test : MnRow → Bool) → ((r : MnRow) → is_row_told base r ≡ true → test r ≡ true) → filter (is_row_told base) (filter test target) ≡ filter (is_row_told base) target
told_of_some base [] test passes = refl
told_of_some base (r ∷ target) test passes = elim (cases_Bool (test r)) [
  | inl stays ↦ rw stays (ap (λ (l : List MnRow). cond (is_row_told base r) (r ∷ l) l) (told_of_some base target test passes))
  | inr goes ↦ elim (cases_Bool (is_row_told base r)) [
    | inl told ↦ let stays : test r ≡ true = passes r told in absurd cc
    | inr untold ↦ rw (goes, untold) (told_of_some base target test passes)
  ]
]
