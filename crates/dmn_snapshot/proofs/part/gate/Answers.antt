use Rattle.std.proofs.Common.{refl}
use Rattle.dmn_outside.proofs.Reading.{only_reads}
use Rattle.dmn_snapshot.proofs.Counts.{other_read}
use Rattle.dmn_snapshot.proofs.part.gate.Goals as goal

pub returns-then-n-eq0-clause-disk : goal.returns-then-n-eq0-clause-disk
returns-then-n-eq0-clause-disk g c = only_reads c.args.file _ _ (g.D.Device.disk c.args.disk.now) (g.D.Device.disk c.args.disk.now) (g.D.Device.disk c.read_at.new.self) (record { told = refl; past = refl }) c.in_ok-n.ensures.disk c.in_ok-n.ensures.past

pub returns-then-n-eq0-clause-read : goal.returns-then-n-eq0-clause-read
returns-then-n-eq0-clause-read g c = other_read c.args.file _ _ _ _ c.requires.some c.in_ok-n.ensures.disk

pub returns-else-n-eq0-clause-disk : goal.returns-else-n-eq0-clause-disk
returns-else-n-eq0-clause-disk g c = only_reads c.args.file _ _ (g.D.Device.disk c.args.disk.now) (g.D.Device.disk c.args.disk.now) (g.D.Device.disk c.read_at.new.self) (record { told = refl; past = refl }) c.in_ok-n.ensures.disk c.in_ok-n.ensures.past

pub returns-else-n-eq0-clause-read : goal.returns-else-n-eq0-clause-read
returns-else-n-eq0-clause-read g c = other_read c.args.file _ _ _ _ c.requires.some c.in_ok-n.ensures.disk
