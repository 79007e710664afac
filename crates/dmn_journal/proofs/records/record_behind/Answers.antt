use Rattle.std.proofs.Common.{arith, rules}
use Rattle.dmn_outside.proofs.Reading.{reads_map}
use Rattle.dmn_journal.proofs.Heads.{sized_record, sized_fault, sized_short}
use Rattle.dmn_journal.proofs.records.record_behind.Goals as goal

pub returns-then-n-lt4-clause-sizeds : goal.returns-then-n-lt4-clause-sizeds
returns-then-n-lt4-clause-sizeds g c =
    reads_map (g.D.Device.disk c.args.disk.now).told _ _ c.in_ok-n.ensures.text (λ all same. sized_short c.args.at c.in_ok-n.n c.read_front.new.buffer _ _ c.if-n-lt4.true (omega (arith, c.in_ok-n.ensures.most, c.read_front.auto.buffer)) same)

pub returns-in-Ok-clause-sizeds : goal.returns-in-Ok-clause-sizeds
returns-in-Ok-clause-sizeds g c =
    sized_record _ _ c.args.at c.size_of.result c.in_ok-n.n c.read_front.new.buffer c.read_front.ensures.disk.told (search rules) (omega (arith, c.in_ok-n.ensures.most, c.if-n-lt4.false)) c.read_front.auto.buffer c.size_of.ensures.is c.size_of.ensures.back c.in_ok-n.ensures.text _ _ c.in-Ok.ensures.contents

pub returns-in-Err-clause-sizeds : goal.returns-in-Err-clause-sizeds
returns-in-Err-clause-sizeds g c =
    sized_fault _ _ c.args.at c.size_of.result c.in_ok-n.n c.read_front.new.buffer c.read_front.ensures.disk.told (search rules) (omega (arith, c.in_ok-n.ensures.most, c.if-n-lt4.false)) c.read_front.auto.buffer c.size_of.ensures.is c.size_of.ensures.back c.in_ok-n.ensures.text _ c.in-Err.ensures.contents
