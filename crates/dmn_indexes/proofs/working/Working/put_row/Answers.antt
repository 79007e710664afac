use Rattle.dmn_indexes.proofs.working.Working.put_row.Goals as goal

pub place_row-requires : goal.place_row-requires
place_row-requires c = λ ascending distinct. c.requires
