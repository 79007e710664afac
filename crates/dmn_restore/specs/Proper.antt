-- What the list of each height keeps.
use Rattle.std.specs.Prelude.{ℕ, suc, ◌≤◌, List, [], ◌∷◌, length}
use Rattle.std.specs.List.{All}
use Rattle.dmn_rows.specs.declared.limits.TheConstants.{MOST_MASTERNODES, MOST_OUTPUTS}
use Rattle.dmn_rows.specs.declared.row.MnRow.{MnRow}
use Rattle.dmn_rows.specs.Distinct.{HasDistinctKeys}
use Rattle.dmn_rows.specs.Listing.{Listing}

-- no penalty is that of a later height
abbrev pub HasPenaltiesTo : ℕ → List MnRow → Type 0
HasPenaltiesTo height = All (λ row. row.penalty_at ≤ height)

-- Keys are distinct, no penalty is that of a later height, and there aren't too many rows and outputs.
pub record IsProper (height : ℕ) (list : Listing) : Type 0 where
  pub keys : HasDistinctKeys list.rows
  pub penalties : HasPenaltiesTo height list.rows
  pub masternodes : length list.rows ≤ MOST_MASTERNODES
  pub collaterals : length list.outputs ≤ MOST_OUTPUTS

-- from a height on, height by height
abbrev pub AreProper : ℕ → List Listing → Type 0
AreProper height [] = Unit {0}
AreProper height (list ∷ lists) = IsProper height list × AreProper (suc height) lists
