use Rattle.dmn_rows.proofs.row_list.RowListLook.row.Goals as goal

pub find_sorted-requires : goal.find_sorted-requires
find_sorted-requires c = rw c.deref.ensures.value c.self.invariant.0
