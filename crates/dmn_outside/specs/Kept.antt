-- How stations in memory keep their files.
use Rattle.std.specs.Prelude.{ℕ, List}
use Rattle.dmn_outside.specs.Disk.{Three}

-- a file: what it held at first, and what a read gives
pub record Kept : Type 0 where
  pub begun : List ℕ
  pub reads : List ℕ

-- what files hold, and how long a write may make one
pub record Roomy : Type 0 where
  pub texts : Three (List ℕ)
  pub room : ℕ
