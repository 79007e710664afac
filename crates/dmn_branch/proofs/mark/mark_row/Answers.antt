use Rattle.std.proofs.Common.{◌≤◌, sym}
use Rattle.dmn_rows.specs.declared.row.MnRow.{MnRow}
use Rattle.dmn_rows.specs.Rows.{has_hash}
use Rattle.dmn_branch.proofs.Confirming.{found_holds, found_keys, working_put}
use Rattle.dmn_branch.proofs.mark.mark_row.Goals as goal

pub set_row-requires : goal.set_row-requires
set_row-requires c = found_keys c.args.hash.now c.in-Some.row.now c.args.list.now.rows (sym c.in-Some.ensures)

pub returns-clause-working : goal.returns-clause-working
returns-clause-working c =
    let height = c.args.height in
    let row = c.in-Some.row.now in
    let rows = c.args.list.now.rows in
    let there = sym c.in-Some.ensures in
    working_put c.set_row.result height (record row { last_paid = height }) rows c.set_row.new.self.rows c.set_row.ensures.rows (found_keys c.args.hash.now row rows there)
    (found_holds (λ (r : MnRow). r.penalty_at ≤ height) (has_hash c.args.hash.now) row rows there c.requires.penalties) c.requires
