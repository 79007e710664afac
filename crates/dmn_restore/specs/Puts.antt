-- Rows that may be put into a list, one after another.
use Rattle.std.specs.Prelude.{◌≡◌, ℕ, ◌≤◌, List, [], ◌∷◌, None, find}
use Rattle.dmn_rows.specs.declared.row.MnRow.{MnRow}
use Rattle.dmn_rows.specs.Rows.{has_collateral, has_operator, has_owner, has_service, put_row}

-- no row has a key of this one: its owner, operator, service or collateral
pub record HasFreeKeys (row : MnRow) (rows : List MnRow) : Type 0 where
  pub owner : find (has_owner row.owner) rows ≡ None
  pub operator : find (has_operator row.operator) rows ≡ None
  pub service : find (has_service row.service) rows ≡ None
  pub collateral : find (has_collateral row.collateral) rows ≡ None

pub record MayPut (height : ℕ) (row : MnRow) (rows : List MnRow) : Type 0 where
  pub keys : HasFreeKeys row rows
  pub penalty : row.penalty_at ≤ height

-- each into the list with those before it
abbrev pub MayPutAll : ℕ → List MnRow → List MnRow → Type 0
MayPutAll height [] rows = Unit {0}
MayPutAll height (row ∷ more) rows = MayPut height row rows × MayPutAll height more (put_row row rows)
