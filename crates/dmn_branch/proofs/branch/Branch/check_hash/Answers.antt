use Rattle.std.proofs.Common.{sym, ◌∙◌}
use Rattle.dmn_branch.proofs.Connecting.{hash_zero, hash_fresh, hash_known}
use Rattle.dmn_branch.proofs.branch.Branch.check_hash.Goals as goal

pub returns-then-is_zero-clause-known : goal.returns-then-is_zero-clause-known
returns-then-is_zero-clause-known c = λ m stands. hash_zero m c.args.hash.now (sym c.is_zero.ensures ∙ c.if-is_zero.true)

pub returns-in-None-clause-fresh : goal.returns-in-None-clause-fresh
returns-in-None-clause-fresh c = λ m stands. hash_fresh m c.args.hash.now (sym c.is_zero.ensures ∙ c.if-is_zero.false) (sym (c.in-None.ensures.height m stands))

pub returns-in-Some-clause-known : goal.returns-in-Some-clause-known
returns-in-Some-clause-known c = λ m stands. hash_known m c.args.hash.now c.in-Some.height (sym c.is_zero.ensures ∙ c.if-is_zero.false) (sym (c.in-Some.ensures.height m stands))
