-- What is held of each height, as a list that has room.
use Rattle.std.specs.Prelude.{ℕ, List, Option}
use Rattle.dmn_held.specs.declared.coinbase.CoinbasePart.{CoinbasePart}
use Rattle.dmn_branch.specs.declared.held.Held.{Held}
use Rattle.dmn_branch.specs.declared.held.HeightVersion.{HeightVersion}

-- what is held, and how many more there is room for
pub record HeldItems : Type 0 where
  pub held : List Held
  pub room : ℕ

-- the height of what is held, as a step takes it
abbrev pub version_at : ℕ → Held → HeightVersion
version_at height held = record { height = height; hash = held.hash; root = held.root; version = held.version; marks = held.marks }

-- what is to be held of a height
abbrev pub held_of : HeightVersion → Option CoinbasePart → Held
held_of v coinbase = record { hash = v.hash; root = v.root; version = v.version; coinbase = coinbase; marks = v.marks }
