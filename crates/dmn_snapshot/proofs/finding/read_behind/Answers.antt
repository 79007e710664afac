use Rattle.std.proofs.Common.{refl}
use Rattle.dmn_outside.proofs.Reading.{only_reads}
use Rattle.dmn_snapshot.proofs.Counts.{other_read}
use Rattle.dmn_snapshot.proofs.finding.read_behind.Goals as goal

pub returns-clause-disk : goal.returns-clause-disk
returns-clause-disk g c = only_reads c.args.file _ _ (g.D.Device.disk c.args.disk.now) (g.D.Device.disk c.args.disk.now) (g.D.Device.disk c.read_at.new.self) (record { told = refl; past = refl }) c.in_ok-n.ensures.disk c.in_ok-n.ensures.past

pub returns-clause-read : goal.returns-clause-read
returns-clause-read g c = other_read c.args.file _ _ _ _ c.requires.some c.in_ok-n.ensures.disk
