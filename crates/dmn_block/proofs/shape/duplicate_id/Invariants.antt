use Rattle.std.proofs.Common.{◌≡◌, None, take}
use Rattle.dmn_block.specs.Shape.{least, stands_earlier}
use Rattle.dmn_block.proofs.Seen.{HasSeen}
use Rattle.dmn_block.proofs.shape.duplicate_id.Given as goal

abbrev pub invariant-loop-place : goal.invariant-loop-place
invariant-loop-place l = record {
  none : least l.place (stands_earlier l.ids) ≡ None;
  seen : HasSeen l.seen (take l.place l.ids);
}
