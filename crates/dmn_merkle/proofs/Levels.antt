-- The root of a level is that of the next one, and hashes may move one by one from those to come to those that wait.
use Rattle.std.proofs.Common.{◌≡◌, ℕ, zero, suc, ◌+◌, ◌≤◌, List, [], ◌∷◌, ◌++◌, length, refl, sym, ap, ◌∙◌, arith}
use Rattle.std.specs.Prelude.{Option, Some, None}
use Rattle.std.proofs.lemmas.List.{append-nil}
use Rattle.dmn_bytes.specs.declared.hash.Hash256.{Hash256}
use Rattle.dmn_merkle.specs.Defs.{pair, zero_hash, above, root_by, merkle_root}
use Rattle.dmn_merkle.specs.OnePass.{added, added_all, finished, Holds}

pub shorter : (xs : List Hash256) → length (above xs) ≤ length xs
shorter [] = omega arith
shorter (a ∷ []) = omega arith
shorter (a ∷ b ∷ rest) = omega (arith, shorter rest)

-- more levels than are needed change nothing
pub levels_left : (n m : ℕ) (xs : List Hash256) → length xs ≤ n + 1 → length xs ≤ m + 1 → root_by n xs ≡ root_by m xs
levels_left n m [] p q = refl
levels_left n m (a ∷ []) p q = refl
levels_left zero m (a ∷ b ∷ rest) p q = absurd (omega arith)
levels_left (suc n) zero (a ∷ b ∷ rest) p q = absurd (omega arith)
levels_left (suc n) (suc m) (a ∷ b ∷ rest) p q =
    levels_left n m (pair a b ∷ above rest) (omega (arith, shorter rest)) (omega (arith, shorter rest))

pub root_above : (a b : Hash256) (rest : List Hash256) → merkle_root (a ∷ b ∷ rest) ≡ merkle_root (above (a ∷ b ∷ rest))
unfolding merkle_root
root_above a b rest =
    levels_left (suc (length rest)) (suc (length (above rest))) (pair a b ∷ above rest) (omega (arith, shorter rest)) (omega arith)

pub root_of_none : merkle_root [] ≡ zero_hash
unfolding merkle_root
root_of_none = refl

pub root_of_one : (a : Hash256) → merkle_root (a ∷ []) ≡ a
unfolding merkle_root
root_of_one a = refl

pub moved : (levels : List (Option Hash256)) (x : Hash256) (more : List Hash256) → finished levels (x ∷ more) ≡ finished (added x levels) more
moved [] x more = refl
moved (None ∷ []) x more = refl
moved (None ∷ q ∷ levels) x more = refl
moved (Some a ∷ []) x more = root_above a x more
moved (Some a ∷ None ∷ levels) x more = moved (None ∷ levels) (pair a x) (above more)
moved (Some a ∷ Some b ∷ levels) x more = moved (Some b ∷ levels) (pair a x) (above more)

all_moved : (xs : List Hash256) (levels : List (Option Hash256)) (more : List Hash256) → finished levels (xs ++ more) ≡ finished (added_all xs levels) more
all_moved [] levels more = refl
all_moved (x ∷ xs) levels more = moved levels x (xs ++ more) ∙ all_moved xs (added x levels) more

-- what waits where hashes were added gives their root
pub held_root : (levels : List (Option Hash256)) (hashes : List Hash256) → Holds levels hashes → finished levels [] ≡ merkle_root hashes
unfolding Holds
held_root levels hashes holds =
    ap (λ (l : List (Option Hash256)). finished l []) holds ∙ sym (all_moved hashes [] []) ∙ ap merkle_root (append-nil hashes)

added_last : (xs : List Hash256) (x : Hash256) (levels : List (Option Hash256)) → added_all (xs ++ x ∷ []) levels ≡ added x (added_all xs levels)
added_last [] x levels = refl
added_last (y ∷ xs) x levels = added_last xs x (added y levels)

pub one_more_held : (old new : List (Option Hash256)) (x : Hash256) → new ≡ added x old → (hashes : List Hash256) → Holds old hashes → Holds new (hashes ++ x ∷ [])
unfolding Holds
one_more_held old new x is hashes holds = is ∙ ap (added x) holds ∙ sym (added_last hashes x [])

pub none_held : Holds [] []
unfolding Holds
none_held = refl
