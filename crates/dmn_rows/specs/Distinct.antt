-- Keys that no two rows have.
use Rattle.std.specs.Prelude.{◌≡◌, Bool, List, [], ◌∷◌, None, find}
use Rattle.dmn_rows.specs.declared.row.MnRow.{MnRow}
use Rattle.dmn_rows.specs.Rows.{Outputs, has_hash, has_owner, has_operator, has_service, has_collateral, has_point}

-- none comes after one that it is the same as
abbrev pub AreDistinct : {V : Type 0} → (V → V → Bool) → List V → Type 0
AreDistinct same [] = Unit {0}
AreDistinct same (v ∷ rest) = (find (same v) rest ≡ None) × AreDistinct same rest

-- no two rows have the same hash, owner, operator that isn't zero, service that is set, or collateral
pub record HasDistinctKeys (rows : List MnRow) : Type 0 where
  pub hashes : AreDistinct (λ r. has_hash r.hash) rows
  pub owners : AreDistinct (λ r. has_owner r.owner) rows
  pub operators : AreDistinct (λ r. has_operator r.operator) rows
  pub services : AreDistinct (λ r. has_service r.service) rows
  pub collaterals : AreDistinct (λ r. has_collateral r.collateral) rows

-- no two outputs have the same outpoint
abbrev pub HasDistinctPoints : Outputs → Type 0
HasDistinctPoints = AreDistinct (λ output. has_point output.point)
