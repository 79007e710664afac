-- A root in one pass: at each level at most one hash waits for its right neighbour, the lowest level first.
use Rattle.std.specs.Prelude.{◌≡◌, ℕ, ◌+◌, ◌*◌, List, [], ◌∷◌, ◌++◌, Option, Some, None, option_to_list}
use Rattle.dmn_bytes.specs.declared.hash.Hash256.{Hash256}
use Rattle.dmn_merkle.specs.Defs.{pair, above, merkle_root}

-- one more hash on the lowest of the levels
abbrev pub added : Hash256 → List (Option Hash256) → List (Option Hash256)
added x [] = Some x ∷ []
added x (None ∷ levels) = Some x ∷ levels
added x (Some left ∷ levels) = None ∷ added (pair left x) levels

-- the level on top, where a hash rises out of the highest one
abbrev pub risen : Option Hash256 → List (Option Hash256)
risen None = []
risen (Some x) = Some x ∷ []

-- the root, where the hashes `more` are still to come on the lowest level
abbrev pub finished : List (Option Hash256) → List Hash256 → Hash256
finished [] more = merkle_root more
finished (p ∷ []) more = merkle_root (option_to_list p ++ more)
finished (p ∷ q ∷ levels) more = finished (q ∷ levels) (above (option_to_list p ++ more))

-- the levels once all these hashes were added
abbrev pub added_all : List Hash256 → List (Option Hash256) → List (Option Hash256)
added_all [] levels = levels
added_all (x ∷ more) levels = added_all more (added x levels)

-- these hashes were added, from the first on
unfoldable pub Holds : List (Option Hash256) → List Hash256 → Type 0
Holds levels hashes = levels ≡ added_all hashes []

-- how many hashes were added: one that waits k levels up stands for 2 ^ k of them
unfoldable pub count_of : List (Option Hash256) → ℕ
count_of [] = 0
count_of (None ∷ levels) = 2 * count_of levels
count_of (Some x ∷ levels) = 2 * count_of levels + 1
