use Rattle.dmn_indexes.proofs.SameParts.{HasDistinctKeys-set}
use Rattle.dmn_indexes.proofs.working.Working.set_row.Goals as goal

pub place_row-requires : goal.place_row-requires
place_row-requires c = λ ascending distinct. HasDistinctKeys-set c.args.row.now c.args.self.now.rows ascending c.requires distinct
