use Rattle.std.proofs.Common.{◌≡◌, ◌≢◌, min, sym, subst, IfOk, arith}
use Rattle.dmn_outside.specs.Disk.{File}
use Rattle.dmn_outside.specs.Stored.{acted}
use Rattle.dmn_outside.specs.Picked.{Follows}
use Rattle.dmn_outside.proofs.Replay.{pick_same, pick_other}
use Rattle.dmn_outside.proofs.picked.step.Goals as goal

pub returns-then-min : goal.returns-then-min
returns-then-min c = λ files follows.
    let is : min c.args.file 2 ≡ min c.args.done.now.file 2 = omega (arith, c.min.ensures, c.min-2.ensures) in
    subst (λ (f : File). IfOk c.act_on.result (λ p. Follows c.args.how f p.reads.items p.image.items)) (sym (pick_same c.args.file c.args.done.now.file (acted c.args.done.now.act) files is)) (c.act_on.ensures _ follows)

pub returns-else-min : goal.returns-else-min
returns-else-min c = λ files follows.
    let ne : min c.args.file 2 ≢ min c.args.done.now.file 2 = omega (arith, c.min.ensures, c.min-2.ensures) in
    subst (λ (f : File). Follows c.args.how f c.args.pair.reads.items c.args.pair.image.items) (sym (pick_other c.args.file c.args.done.now.file (acted c.args.done.now.act) files ne)) follows
