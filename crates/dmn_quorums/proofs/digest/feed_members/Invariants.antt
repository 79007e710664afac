use Rattle.std.proofs.Common.{take}
use Rattle.std.specs.List.{flat_map}
use Rattle.dmn_bytes.specs.Sending.{Appends}
use Rattle.dmn_quorums.specs.Digest.{member_text}
use Rattle.dmn_quorums.proofs.digest.feed_members.Given as goal

abbrev pub invariant-loop-member : goal.invariant-loop-member
invariant-loop-member g l = Appends g.S.Sink.holds g.S.Sink.kept l.fn.sink l.sink (flat_map (member_text (g.L.Look.rows l.fn.rows)) (take l.member-index l.members))
