use Rattle.std.proofs.Common.{◌≡◌, ◌-◌, length}
use Rattle.dmn_held.specs.Height.{height_data}
use Rattle.dmn_held.specs.ToEnd.{rest_parse}
use Rattle.dmn_held.proofs.Rest.{left}
use Rattle.dmn_held.proofs.snapshot.read_heights.Given as goal

abbrev pub invariant-loop : goal.invariant-loop
invariant-loop l = record {
  text : l.reader.text ≡ l.fn.reader.text;
  parsed : left height_data l.room l.counter l.reader.text l.items.items l.reader.at ≡ rest_parse height_data (length l.fn.reader.text - l.fn.reader.at) l.fn.reader.text l.fn.reader.at;
}
