use Rattle.dmn_outside.proofs.Reading.{reads_map}
use Rattle.dmn_journal.proofs.Heads.{nexts_record, nexts_fault, found_by, gate_closed, gate_missing}
use Rattle.dmn_journal.proofs.records.next.Goals as goal

pub returns-in-Ok-clause-nexts : goal.returns-in-Ok-clause-nexts
returns-in-Ok-clause-nexts g c = nexts_record _ _ c.args.at _ c.read_front.ensures.disk.told c.in-Open.ensures c.in_ok-n.ensures.text _ _ c.in-Ok.ensures.sizeds

pub returns-in-Err-clause-nexts : goal.returns-in-Err-clause-nexts
returns-in-Err-clause-nexts g c = nexts_fault _ _ c.args.at _ c.read_front.ensures.disk.told c.in-Open.ensures c.in_ok-n.ensures.text _ c.in-Err.ensures.sizeds

pub returns-in-Missing-clause-nexts : goal.returns-in-Missing-clause-nexts
returns-in-Missing-clause-nexts g c = reads_map (g.D.Device.disk c.args.disk.now).told _ _ c.in_ok-n.ensures.text (λ all same. found_by c.args.at _ _ _ same (gate_missing c.args.at _ _ c.in-Missing.ensures))

pub returns-in-Closed-clause-nexts : goal.returns-in-Closed-clause-nexts
returns-in-Closed-clause-nexts g c = reads_map (g.D.Device.disk c.args.disk.now).told _ _ c.in_ok-n.ensures.text (λ all same. found_by c.args.at _ _ _ same (gate_closed c.args.at c.in-Closed.ensures.0 _ _ c.in-Closed.ensures.1 c.in-Closed.ensures.2))
