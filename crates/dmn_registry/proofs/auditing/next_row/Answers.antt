use Rattle.dmn_registry.proofs.auditing.next_row.Goals as goal

pub returns : goal.returns
returns c = c.next.ensures.steps
