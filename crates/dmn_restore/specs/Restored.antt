-- The trees of all heights of a snapshot.
use Rattle.std.specs.Prelude.{ℕ, ◌<◌, ◌≤◌, List, length, slice_index_or}
use Rattle.std.specs.List.{All}
use Rattle.dmn_indexes.specs.declared.indexes.Indexes.{Indexes}
use Rattle.dmn_indexes.specs.declared.version.Version.{Version}
use Rattle.dmn_indexes.specs.Marks.{IsBelow}
use Rattle.dmn_indexes.specs.Version.{IsWhole, outputs_in, rows_in}
use Rattle.dmn_restore.specs.declared.making.Marked.{Marked}
use Rattle.dmn_rows.specs.Listing.{Listing}

-- what the trees of a version read as
abbrev pub listing_in : Indexes → Version → Listing
listing_in ix v = record { rows = rows_in ix v; outputs = outputs_in ix v }

abbrev pub list_in : Indexes → Marked → Listing
list_in ix made = listing_in ix made.version

-- The versions are whole, and each lies below the marks of its height and of each later one.
pub record AreSound (ix : Indexes) (versions : List Marked) : Type 0 where
  pub whole : All (λ made. IsWhole ix made.version) versions
  pub below : (i j : ℕ) (d : Marked) → i ≤ j → j < length versions → IsBelow (slice_index_or versions j d).marks (slice_index_or versions i d).version
