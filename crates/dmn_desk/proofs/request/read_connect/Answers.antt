use Rattle.std.proofs.lemmas.Result.{err_from_is_err_and}
use Rattle.dmn_desk.proofs.Bodies.{connect_is, told_block}
use Rattle.dmn_desk.proofs.request.read_connect.Goals as goal

pub returns-in_err-block-clause-told : goal.returns-in_err-block-clause-told
returns-in_err-block-clause-told c =
    let p = err_from_is_err_and c.from_residual.result c.from_residual.ensures.1 in
    rw (p.1, p.2) (told_block c.args.body.now c.in_err-block.field-0.0 c.in_err-block.ensures.departs)

pub returns-clause-told : goal.returns-clause-told
returns-clause-told c = let b = c.in_ok-from_slice.ensures in rw b (connect_is c.args.body.now c.in_ok-block.block c.in_ok-block.ensures.found c.in_ok-block.ensures.ids)
