use Rattle.std.proofs.Common.{◌≡◌, take, map}
use Rattle.dmn_merkle.specs.OnePass.{count_of, Holds}
use Rattle.dmn_sml.specs.Defs.{leaf}
use Rattle.dmn_sml.proofs.list.list_root.Given as goal

abbrev pub invariant-loop-entry : goal.invariant-loop-entry
invariant-loop-entry l = record {
  held : Holds l.builder (map leaf (take l.entry-index l.list));
  counted : count_of l.builder ≡ l.entry-index;
}
