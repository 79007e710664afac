use Rattle.dmn_outside.proofs.Reading.{read_any, count_any}
use Rattle.dmn_journal.proofs.text.read_front.Goals as goal

pub returns-clause-disk : goal.returns-clause-disk
returns-clause-disk g c = read_any 0 _ c.read_at.result _ _ c.read_at.ensures.disk c.read_at.ensures.failed c.read_at.ensures.past

pub returns-clause-read : goal.returns-clause-read
returns-clause-read g c = count_any 0 _ _ c.read_at.result _ _ c.read_at.ensures.disk c.read_at.ensures.failed c.read_at.ensures.most
