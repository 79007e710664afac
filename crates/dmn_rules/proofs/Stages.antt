-- Tables that are judged in stages.
use Rattle.std.proofs.Common.{◌≡◌, ◌++◌}
use Rattle.std.specs.Option.{option_or}
use Rattle.dmn_rows.proofs.Table.{first_broken_append}
use Rattle.dmn_rules.specs.Table.{Numbered, first_of}

-- the first broken rule of two tables is the first one's, or else the second one's
pub first_of_append : (xs ys : Numbered) → first_of (xs ++ ys) ≡ option_or (first_of xs) (first_of ys)
first_of_append xs ys = first_broken_append xs ys
