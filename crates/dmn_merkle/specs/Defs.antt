-- The Merkle root by whole levels (DIP-0004; the tree of Bitcoin's blocks). A reader begins here; the other parts are
--   OnePass     what waits at each level while hashes come one by one
--   Branch      the branch that proves the first of the leaves, and its test
--   BranchText  the table of a branch's fields
use Rattle.std.specs.Prelude.{ℕ, zero, suc, List, [], ◌∷◌, ◌++◌, length, replicate}
use Rattle.dmn_bytes.specs.Hash.{dsha}
use Rattle.dmn_bytes.specs.declared.hash.Hash256.{Hash256}

-- the hash of two neighbours: SHA-256, taken twice, of the left one and the right one behind it
unfoldable pub pair : Hash256 → Hash256 → Hash256
pair left right = record { 0 = dsha (left.0 ++ right.0) }

abbrev pub zero_hash : Hash256
zero_hash = record { 0 = replicate 32 0 }

-- the next level: each two neighbours give one hash, and an odd last one is paired with itself
abbrev pub above : List Hash256 → List Hash256
above [] = []
above (a ∷ []) = pair a a ∷ []
above (a ∷ b ∷ rest) = pair a b ∷ above rest

-- The root n levels up: zero of none, the hash itself of one, else that of the next level. Any n from the count of
-- the hashes on gives the same root, as no list has more levels.
abbrev pub root_by : ℕ → List Hash256 → Hash256
root_by n [] = zero_hash
root_by n (a ∷ []) = a
root_by zero (a ∷ b ∷ rest) = a
root_by (suc n) (a ∷ b ∷ rest) = root_by n (pair a b ∷ above rest)

unfoldable pub merkle_root : List Hash256 → Hash256
merkle_root hashes = root_by (length hashes) hashes
