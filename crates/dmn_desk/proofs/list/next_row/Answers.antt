use Rattle.dmn_desk.proofs.list.next_row.Goals as goal

pub returns : goal.returns
returns c = c.next.ensures.steps
