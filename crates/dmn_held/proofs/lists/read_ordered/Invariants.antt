use Rattle.std.proofs.Common.{◌≡◌}
use Rattle.std.specs.Prelude.{None}
use Rattle.dmn_bytes.specs.Format.{last_key, series_parse}
use Rattle.dmn_bytes.proofs.Series.{left}
use Rattle.dmn_held.specs.Lists.{hash_of, next_row}
use Rattle.dmn_held.proofs.lists.read_ordered.Given as goal

abbrev pub invariant-loop : goal.invariant-loop
invariant-loop l = record {
  text : l.reader.text ≡ l.fn.reader.text;
  parsed : left next_row (last_key hash_of) l.n l.counter l.last l.reader.text l.items.items l.reader.at ≡ series_parse next_row (last_key hash_of) None l.n l.fn.reader.text l.fn.reader.at;
}
