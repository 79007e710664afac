-- Tables of rules on a transaction: a numbered line each, with what its refusal tells where it is broken.
use Rattle.std.specs.Prelude.{Bool, List, Option}
use Rattle.std.specs.Option.{option_map}
use Rattle.dmn_bytes.specs.declared.hash.Hash256.{Hash256}
use Rattle.dmn_rows.specs.declared.row.MnRow.{MnRow}
use Rattle.dmn_rows.specs.declared.rule.Rule.{Rule}
use Rattle.dmn_rows.specs.Table.{Table}
pub use Rattle.dmn_rows.specs.Table.{unnumbered, first_broken, first_of, when}
use Rattle.dmn_rows.specs.Rows.{hash_where}

-- rules with their numbers; each is broken, with its fields, or isn't
abbrev pub Numbered : Type 0
Numbered = Table Rule

-- a rule that is broken where some row of the list passes the test; it tells the row's hash
abbrev pub some_row : (MnRow → Bool) → (Hash256 → Rule) → List MnRow → Option Rule
some_row test rule rows = option_map rule (hash_where test rows)
