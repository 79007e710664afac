use Rattle.std.proofs.Common.{subst}
use Rattle.std.specs.Option.{option_map}
use Rattle.dmn_branch.specs.Asked.{IsToldOf, lent_part}
use Rattle.dmn_branch.specs.Coinbases.{coinbase_of}
use Rattle.dmn_branch.specs.Machine.{state_at}
use Rattle.dmn_desk.proofs.Diffing.{diff_made}
use Rattle.dmn_desk.proofs.diff.diff_to.Goals as goal

pub returns-clause-answer : goal.returns-clause-answer
returns-clause-answer c = λ m stands are.
    let told = subst (λ o. IsToldOf coinbase_of (option_map lent_part o) (state_at m c.args.heights.target)) c.in-Some.is (c.coinbase_at.ensures m stands) in
    rw (c.hash.ensures, c.in_ok-copy.ensures, c.in_ok-copy-2.ensures)
    (diff_made m c.args.base.now c.args.heights c.list_at.result _ c.in_ok-change.change (c.in_ok-change.ensures.change m stands are) (c.list_at.ensures m stands) told)
