-- A level is halved in its own place.
use Rattle.std.proofs.Common.{ℕ, ◌*◌, ◌<◌, List, [], ◌∷◌, ◌++◌, length, take, drop, arith}
use Rattle.dmn_bytes.specs.declared.hash.Hash256.{Hash256}
use Rattle.dmn_merkle.specs.Defs.{above}

-- what the first i places and the hashes that are still to be paired will give
abbrev pub halved : ℕ → List Hash256 → List Hash256
halved i now = take i now ++ above (drop (2 * i) now)

pub falls : (xs : List Hash256) → 1 < length xs → length (above xs) < length xs
falls [] h = absurd (omega arith)
falls (a ∷ []) h = absurd (omega arith)
falls (a ∷ b ∷ []) h = omega arith
falls (a ∷ b ∷ c ∷ []) h = omega arith
falls (a ∷ b ∷ c ∷ d ∷ rest) h = omega (arith, falls (c ∷ d ∷ rest) (omega arith))

pub some_left : (xs : List Hash256) → 0 < length xs → 0 < length (above xs)
some_left [] h = absurd (omega arith)
some_left (a ∷ []) h = omega arith
some_left (a ∷ b ∷ rest) h = omega arith
