-- Words for the parts that make a branch of what a snapshot holds.
use Rattle.std.specs.Prelude.{◌≡◌, ℕ, suc, ◌+◌, ◌≤◌, false, List, [], ◌∷◌, ◌++◌, length, map, Option, Some, IsSome}
use Rattle.dmn_bytes.specs.declared.hash.Hash256.{Hash256}
use Rattle.dmn_bytes.specs.Points.{is_zero}
use Rattle.dmn_held.specs.declared.coinbase.CoinbasePart.{CoinbasePart}
use Rattle.dmn_held.specs.declared.data.HeightData.{HeightData}
use Rattle.dmn_held.specs.declared.data.SnapshotData.{SnapshotData}
use Rattle.dmn_payloads.specs.declared.mined.MinedAt.{MinedAt}
use Rattle.dmn_quorums.specs.Duty.{all_active_at, mined_at}
use Rattle.dmn_restore.specs.declared.making.Marked.{Marked}
use Rattle.dmn_rows.specs.declared.profile.Profile.{Profile}
use Rattle.dmn_branch.specs.declared.held.Held.{Held}
use Rattle.dmn_branch.specs.Coinbases.{root_in}

-- The lowest height is this, and the heights that are held reach up to the top, or so near that the tip may have been there.
pub record FitsHeights (profile : Profile) (low : ℕ) (held : SnapshotData) : Type 0 where
  pub low_is : held.low ≡ low
  pub below : held.low + length held.heights ≤ held.top
  pub reach : held.top ≤ held.low + length held.heights + profile.depth

-- the hash of a height's block, and what proves its coinbase
pub record Head : Type 0 where
  pub hash : Hash256
  pub coinbase : Option CoinbasePart

abbrev pub head_of : HeightData → Head
head_of d = record { hash = d.hash; coinbase = Some d.coinbase }

abbrev pub heads : SnapshotData → List Head
heads held = record { hash = held.low_hash; coinbase = held.coinbase } ∷ map head_of held.heights

-- a hash that isn't zero, and a coinbase that tells a root
pub record IsSoundHead (head : Head) : Type 0 where
  pub hash : is_zero head.hash.0 ≡ false
  pub root : IsSome (root_in head.coinbase)

-- what is to be held of a height
pub record IsMadeOf (head : Head) (made : Marked) (held : Held) : Type 0 where
  pub some : is_zero held.hash.0 ≡ false
  pub hash : held.hash ≡ head.hash
  pub root : root_in held.coinbase ≡ Some held.root
  pub version : held.version ≡ made.version
  pub coinbase : held.coinbase ≡ head.coinbase
  pub marks : held.marks ≡ made.marks

-- height by height
abbrev pub AreMadeOf : List Head → List Marked → List Held → Type 0
AreMadeOf [] [] [] = Unit {0}
AreMadeOf (head ∷ heads) (made ∷ versions) (held ∷ rest) = IsMadeOf head made held × AreMadeOf heads versions rest
AreMadeOf [] [] (held ∷ rest) = ⊥
AreMadeOf [] (made ∷ versions) rest = ⊥
AreMadeOf (head ∷ heads) [] rest = ⊥
AreMadeOf (head ∷ heads) (made ∷ versions) [] = ⊥

-- the commitments that were mined at the heights behind this one
abbrev pub mined_behind : ℕ → List HeightData → List MinedAt
mined_behind height [] = []
mined_behind height (d ∷ heights) = mined_at (suc height) d.mined ++ mined_behind (suc height) heights

-- what is kept of the commitments: the quorums that are active at the lowest height, and those mined since
abbrev pub mined_in : Profile → SnapshotData → List MinedAt
mined_in profile held = all_active_at held.active profile.quorums held.low ++ mined_behind held.low held.heights
