use Rattle.std.proofs.Common.{◌≡◌, ℕ, ◌<◌, ◌^◌, ◌+◌, ◌*◌, add-one, sym, ◌∙◌, arith}
use borrow.Author.Count.{below_more}
use Rattle.dmn_merkle.proofs.Branches.{twice}
use Rattle.dmn_merkle.proofs.Judged.{depth_found}
use Rattle.dmn_merkle.proofs.branch.depth.Goals as goal

pub returns-then-from-width-clause-depth : goal.returns-then-from-width-clause-depth
returns-then-from-width-clause-depth c =
    depth_found c.args.total c.loop-d.d c.loop-d.width (omega arith) c.loop-d.invariant.power c.loop-d.invariant.below

pub returns-clause-depth : goal.returns-clause-depth
returns-clause-depth c =
    let last : c.loop-d.d ≡ 32 = omega arith in
    sym last ∙ depth_found c.args.total c.loop-d.d c.loop-d.width (rw (c.loop-d.invariant.power, last) (omega arith)) c.loop-d.invariant.power c.loop-d.invariant.below

pub loop-d-preserved : goal.loop-d-preserved
loop-d-preserved c =
    let here : 2 ^ c.loop-d.d < c.args.total = omega arith in
    let next : 2 ^ (c.loop-d.d + 1) ≡ 2 * 2 ^ c.loop-d.d = rw add-one (twice c.loop-d.d) in
    record {
      power = omega arith;
      below = below_more (λ (e : ℕ). 2 ^ e < c.args.total) c.loop-d.d c.loop-d.invariant.below here;
    }
