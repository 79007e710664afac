use Rattle.std.proofs.Common.{◌≡◌, length, ap, sym, ◌∙◌, arith}
use Rattle.dmn_rows.specs.Row.{plain}
use Rattle.dmn_standing.specs.Standing.{punished}
use Rattle.dmn_branch.proofs.Confirming.{working_put}
use Rattle.dmn_branch.proofs.Punishing.{punished_keys, punished_nobody, punished_put}
use Rattle.dmn_branch.proofs.commitments.punish_row.Goals as goal

pub returns-in-None-clause-rows : goal.returns-in-None-clause-rows
returns-in-None-clause-rows c = punished_nobody c.args.height c.args.hash.now c.args.list.now (sym c.in-None.ensures)

pub set_row-requires : goal.set_row-requires
set_row-requires c = punished_keys c.args.hash.now c.in-Some.row.now c.punish-punished.result c.args.list.now.rows (sym c.in-Some.ensures) c.punish-punished.ensures.core

pub returns-clause-rows : goal.returns-clause-rows
returns-clause-rows c =
    let height = c.args.height in
    let row = c.in-Some.row.now in
    let count : c.in-Ok.count ≡ length c.args.list.now.rows = omega (arith, c.in-Ok.ensures, c.rows_len.ensures.count) in
    punished_put c.set_row.result height c.args.hash.now c.args.list.now c.set_row.new.self row c.punish-punished.result (sym c.in-Some.ensures)
    (c.punish-punished.ensures.row ∙ ap (λ n. punished height n (plain height row)) count) c.set_row.ensures.rows c.set_row.ensures.events

pub returns-clause-working : goal.returns-clause-working
returns-clause-working c =
    let rows = c.args.list.now.rows in
    working_put c.set_row.result c.args.height c.punish-punished.result rows c.set_row.new.self.rows c.set_row.ensures.rows
    (punished_keys c.args.hash.now c.in-Some.row.now c.punish-punished.result rows (sym c.in-Some.ensures) c.punish-punished.ensures.core)
    (omega (arith, c.punish-punished.ensures.at)) c.requires
