use Rattle.dmn_rows.proofs.row_list.RowListLook.output.Goals as goal

pub find_sorted-requires : goal.find_sorted-requires
find_sorted-requires c = rw c.deref.ensures.value c.self.invariant.1
