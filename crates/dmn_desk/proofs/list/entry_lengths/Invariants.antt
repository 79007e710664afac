use Rattle.std.proofs.Common.{◌≡◌, ◌*◌, length, take}
use Rattle.std.specs.List.{flat_map}
use Rattle.dmn_sml.specs.Entry.{entry}
use Rattle.dmn_desk.proofs.list.entry_lengths.Given as goal

abbrev pub invariant-loop-entry : goal.invariant-loop-entry
invariant-loop-entry l = length (flat_map entry.text (take l.entry-index l.entries)) ≡ 151 * l.entry-index
