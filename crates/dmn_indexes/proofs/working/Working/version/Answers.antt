use Rattle.std.proofs.Common.{sym, ap, ◌∙◌}
use Rattle.dmn_indexes.specs.Working.{worked}
use Rattle.dmn_indexes.proofs.working.Working.version.Goals as goal

pub returns-clause-reads : goal.returns-clause-reads
returns-clause-reads c = sym c.self.view_is ∙ ap (λ s. worked s.indexes s.version s.events s.entries_changed) c.self.view_is
