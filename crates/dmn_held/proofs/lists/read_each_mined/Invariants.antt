use Rattle.std.proofs.Common.{◌≡◌}
use Rattle.dmn_bytes.specs.Format.{many_parse}
use Rattle.dmn_bytes.proofs.Many.{left}
use Rattle.dmn_held.specs.Lists.{mined_at}
use Rattle.dmn_held.proofs.lists.read_each_mined.Given as goal

abbrev pub invariant-loop : goal.invariant-loop
invariant-loop l = record {
  text : l.reader.text ≡ l.fn.reader.text;
  parsed : left mined_at l.n l.counter l.reader.text l.items.items l.reader.at ≡ many_parse mined_at l.n l.fn.reader.text l.fn.reader.at;
}
