-- Marks: how many nodes each arena had at some moment.
use Rattle.std.specs.Prelude.{◌≡◌, ℕ, ◌≤◌, List, [], ◌∷◌, length}
use Rattle.std.specs.List.{slice_index}
use Rattle.dmn_versions.specs.Trees.{Cuts}
use Rattle.dmn_indexes.specs.declared.indexes.Indexes.{Indexes}
use Rattle.dmn_indexes.specs.declared.version.Version.{Version}
use Rattle.dmn_indexes.specs.Version.{IsWhole, Stays}

-- how many nodes each arena has
abbrev pub marks_of : Indexes → List ℕ
marks_of ix =
    length ix.rows.nodes.items
    ∷ length ix.owner.nodes.items
    ∷ length ix.operator.nodes.items
    ∷ length ix.service.nodes.items
    ∷ length ix.collateral.nodes.items
    ∷ length ix.payment.nodes.items
    ∷ length ix.unconfirmed.nodes.items
    ∷ length ix.outputs.nodes.items
    ∷ []

-- the nodes of the version lie below the marks
pub record IsBelow (marks : List ℕ) (v : Version) : Type 0 where
  pub rows : v.rows.0 ≤ slice_index marks 0
  pub owner : v.owner.0 ≤ slice_index marks 1
  pub operator : v.operator.0 ≤ slice_index marks 2
  pub service : v.service.0 ≤ slice_index marks 3
  pub collateral : v.collateral.0 ≤ slice_index marks 4
  pub payment : v.payment.0 ≤ slice_index marks 5
  pub unconfirmed : v.unconfirmed.0 ≤ slice_index marks 6
  pub outputs : v.outputs.0 ≤ slice_index marks 7

-- each arena was cut back to its mark
pub record Cut (marks : List ℕ) (old new : Indexes) : Type 0 where
  pub rows : Cuts (slice_index marks 0) old.rows.nodes.items new.rows.nodes.items
  pub owner : Cuts (slice_index marks 1) old.owner.nodes.items new.owner.nodes.items
  pub operator : Cuts (slice_index marks 2) old.operator.nodes.items new.operator.nodes.items
  pub service : Cuts (slice_index marks 3) old.service.nodes.items new.service.nodes.items
  pub collateral : Cuts (slice_index marks 4) old.collateral.nodes.items new.collateral.nodes.items
  pub payment : Cuts (slice_index marks 5) old.payment.nodes.items new.payment.nodes.items
  pub unconfirmed : Cuts (slice_index marks 6) old.unconfirmed.nodes.items new.unconfirmed.nodes.items
  pub outputs : Cuts (slice_index marks 7) old.outputs.nodes.items new.outputs.nodes.items

-- every version below the marks is whole, and reads as before
abbrev pub KeepsBelow : List ℕ → Indexes → Indexes → Type 0
KeepsBelow marks old new = (v : Version) → IsWhole old v → IsBelow marks v → Stays old new v

-- each arena has the nodes of before
pub record SameNodes (old new : Indexes) : Type 0 where
  pub rows : new.rows.nodes.items ≡ old.rows.nodes.items
  pub owner : new.owner.nodes.items ≡ old.owner.nodes.items
  pub operator : new.operator.nodes.items ≡ old.operator.nodes.items
  pub service : new.service.nodes.items ≡ old.service.nodes.items
  pub collateral : new.collateral.nodes.items ≡ old.collateral.nodes.items
  pub payment : new.payment.nodes.items ≡ old.payment.nodes.items
  pub unconfirmed : new.unconfirmed.nodes.items ≡ old.unconfirmed.nodes.items
  pub outputs : new.outputs.nodes.items ≡ old.outputs.nodes.items
