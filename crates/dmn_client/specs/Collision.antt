-- What two different texts of one root come to: a collision, or a digest of zeros.
use Rattle.std.specs.Prelude.{◌≡◌, ◌≢◌, ℕ, zero, suc, ◌≤◌, List, [], ◌∷◌, ◌++◌, length, drop, map}
use Rattle.std.specs.List.{Contains}
use Rattle.std.proofs.Math.Logic.{◌⊎◌}
use Rattle.dmn_bytes.specs.declared.hash.Hash256.{Hash256}
use Rattle.dmn_bytes.specs.Hash.{dsha}
use Rattle.dmn_merkle.specs.Defs.{pair, zero_hash, above}

-- Two different texts of the list have one digest.
pub record Collision (texts : List (List ℕ)) : Type 0 where
  pub first : List ℕ
  pub second : List ℕ
  pub has_first : Contains texts first
  pub has_second : Contains texts second
  pub differ : first ≢ second
  pub same : dsha first ≡ dsha second

-- The digest of a text of the list is 32 zero bytes.
pub record ZeroText (texts : List (List ℕ)) : Type 0 where
  pub text : List ℕ
  pub has : Contains texts text
  pub is_zero : dsha text ≡ zero_hash.0

abbrev pub digest : List ℕ → Hash256
digest text = record { 0 = dsha text }

-- The texts of 64 bytes that are hashed where a first hash and its right siblings fold.
abbrev pub fold_texts : Hash256 → List Hash256 → List (List ℕ)
fold_texts a [] = []
fold_texts a (s ∷ ss) = (a.0 ++ s.0) ∷ fold_texts (pair a s) ss

-- Those of the pairs of one level.
abbrev pub level_texts : List Hash256 → List (List ℕ)
level_texts [] = []
level_texts (a ∷ []) = (a.0 ++ a.0) ∷ []
level_texts (a ∷ b ∷ rest) = (a.0 ++ b.0) ∷ level_texts rest

-- Those of all levels of a root.
abbrev pub root_texts_by : ℕ → List Hash256 → List (List ℕ)
root_texts_by n [] = []
root_texts_by n (a ∷ []) = []
root_texts_by zero (a ∷ b ∷ rest) = []
root_texts_by (suc n) (a ∷ b ∷ rest) = level_texts (a ∷ b ∷ rest) ++ root_texts_by n (pair a b ∷ above rest)

unfoldable pub root_texts : List Hash256 → List (List ℕ)
root_texts hashes = root_texts_by (length hashes) hashes

abbrev pub HasHashLength : Hash256 → Type 0
HasHashLength hash = length hash.0 ≡ 32

-- What is hashed of a proof of a coinbase.
abbrev pub hashed_of_proof : List ℕ → List Hash256 → List (List ℕ)
hashed_of_proof coinbase hashes = coinbase ∷ fold_texts (digest coinbase) (drop 1 hashes)

-- What is hashed of a list of texts and its root.
abbrev pub hashed_of_list : List (List ℕ) → List (List ℕ)
hashed_of_list texts = texts ++ root_texts (map (λ text. digest text) texts)

-- The text is the first of the list, and no other.
abbrev pub IsFirst : List ℕ → List (List ℕ) → Type 0
IsFirst text [] = ⊥
IsFirst text (first ∷ rest) = text ≡ first

-- The first text, if there is one, is as long as a coinbase.
abbrev pub FirstIsLong : List (List ℕ) → Type 0
FirstIsLong [] = Unit {0}
FirstIsLong (first ∷ rest) = 90 ≤ length first

-- The text is the first of the list; or two of the hashed texts collide, or one has a digest of zeros.
abbrev pub FirstOrFound : List ℕ → List (List ℕ) → List (List ℕ) → Type 0
FirstOrFound text list hashed = IsFirst text list ⊎ (Collision hashed ⊎ ZeroText hashed)

-- An element of the list stands in it again, further on.
abbrev pub Repeats : {X : Type 0} → List X → Type 0
Repeats [] = ⊥
Repeats (x ∷ xs) = Contains xs x ⊎ Repeats xs

-- Each text has this length.
abbrev pub AllLength : ℕ → List (List ℕ) → Type 0
AllLength n [] = Unit {0}
AllLength n (t ∷ ts) = (length t ≡ n) × AllLength n ts

-- The lists are one, or two of the hashed texts collide, or one has a digest of zeros.
abbrev pub SameOrFound : List (List ℕ) → List (List ℕ) → List (List ℕ) → Type 0
SameOrFound xs ys hashed = (xs ≡ ys) ⊎ (Collision hashed ⊎ ZeroText hashed)
