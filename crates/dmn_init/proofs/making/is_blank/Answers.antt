use Rattle.dmn_outside.proofs.Reading.{read_any}
use Rattle.dmn_init.proofs.making.is_blank.Goals as goal

pub returns-then-n-lt2-clause-disk : goal.returns-then-n-lt2-clause-disk
returns-then-n-lt2-clause-disk g c = read_any 0 _ c.read_at.result _ _ c.read_at.ensures.disk c.read_at.ensures.failed c.read_at.ensures.past

pub returns-else-n-lt2-clause-disk : goal.returns-else-n-lt2-clause-disk
returns-else-n-lt2-clause-disk g c = read_any 0 _ c.read_at.result _ _ c.read_at.ensures.disk c.read_at.ensures.failed c.read_at.ensures.past
