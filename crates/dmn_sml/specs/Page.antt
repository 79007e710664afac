-- What a sink of one entry's size holds.
use Rattle.std.specs.Prelude.{◌≡◌, ℕ, ◌≤◌, List, length, take}
use Rattle.dmn_sml.specs.declared.entry.SmlEntry.{SmlEntry}

-- This text is in front, if it is no longer than an entry.
abbrev pub Holds : List ℕ → ℕ → List ℕ → Type 0
Holds bytes len text = length text ≤ 151 → (len ≡ length text) × (take len bytes ≡ text)

-- the lengths of an entry's fields
pub record HasLengths (e : SmlEntry) : Type 0 where
  pub hash : length e.hash.0 ≡ 32
  pub confirmed : length e.confirmed.0 ≡ 32
  pub address : length e.service.address ≡ 16
  pub operator : length e.operator ≡ 48
  pub voting : length e.voting ≡ 20
