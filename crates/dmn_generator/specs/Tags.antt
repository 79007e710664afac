-- Tags: the hash of a short ASCII text with numbers in decimal digits.
use Rattle.std.specs.Prelude.{ℕ, List, ◌∷◌, ◌++◌, take, decimal}
use Rattle.dmn_bytes.specs.declared.hash.Hash256.{Hash256}
use Rattle.dmn_bytes.specs.Hash.{dsha}

-- of a name and a number
unfoldable pub tag : List ℕ → ℕ → Hash256
tag name number = record { 0 = dsha (name ++ decimal number) }

-- of a name and two numbers, with a space between them
unfoldable pub tag_of_two : List ℕ → ℕ → ℕ → Hash256
tag_of_two name first second = record { 0 = dsha (name ++ decimal first ++ 32 ∷ decimal second) }

-- what stands for a key's hash: the first 20 bytes
abbrev pub first_20 : Hash256 → List ℕ
first_20 hash = take 20 hash.0

-- what stands for an operator's or a quorum's key: the first 48 bytes of two
abbrev pub first_48 : Hash256 → Hash256 → List ℕ
first_48 one other = take 48 (one.0 ++ other.0)

-- what stands for a signature: three times the same
abbrev pub thrice : Hash256 → List ℕ
thrice hash = hash.0 ++ hash.0 ++ hash.0
