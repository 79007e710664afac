use Rattle.std.proofs.Common.{map, take}
use Rattle.httparse.specs.Spans.{header_bytes}
use Rattle.dmn_head.specs.Fields.{values_of, Finds}
use Rattle.dmn_head.proofs.fields.find_values.Given as goal

abbrev pub invariant-fields : goal.invariant-fields
invariant-fields l = Finds (values_of l.name (map (header_bytes l.head) (take l.header-index l.headers))) l.found
