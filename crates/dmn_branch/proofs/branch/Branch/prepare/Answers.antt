use Rattle.std.proofs.Common.{◌*◌, subst}
use Rattle.std.proofs.lemmas.Result.{err_from_is_err_and}
use Rattle.dmn_indexes.specs.declared.indexes.Indexes.{Indexes}
use Rattle.dmn_indexes.specs.Marks.{SameNodes}
use Rattle.dmn_indexes.specs.Version.{GrownBy}
use Rattle.dmn_branch.proofs.Asking.{if_ok}
use Rattle.dmn_branch.proofs.Connecting.{tells_known}
use Rattle.dmn_branch.proofs.Holding.{if_err}
use Rattle.dmn_branch.proofs.Leaving.{alike_of, alike_then}
use Rattle.dmn_branch.proofs.Moving.{more_same, more_then}
use Rattle.dmn_branch.proofs.branch.Branch.prepare.Goals as goal

pub returns-in_err-check_hash-clause-refused : goal.returns-in_err-check_hash-clause-refused
returns-in_err-check_hash-clause-refused c = λ m stands.
    let p = err_from_is_err_and c.from_residual-in_err-check_hash.result c.from_residual-in_err-check_hash.ensures.1 in
    rw (p.1, p.2) (tells_known m c.args.block.now _ (c.in_err-check_hash.ensures.known m (c.compact.ensures.same m stands)))

pub returns-clause-left : goal.returns-clause-left
returns-clause-left c = alike_then c.compact.ensures.alike (alike_then (alike_of c.settle.ensures.left) (alike_of c.prepare_next.ensures.left))

pub returns-clause-grown : goal.returns-clause-grown
returns-clause-grown c =
    if_ok c.prepare_next.result (λ prepared grown.
    more_then c.args.self.now.indexes c.compact.new.self.indexes c.prepare_next.new.self.indexes c.compact.ensures.few
    (subst (λ (i : Indexes). GrownBy (232 * prepared.events) i c.prepare_next.new.self.indexes) c.settle.ensures.indexes grown)) c.prepare_next.ensures.grown

pub returns-clause-none_more : goal.returns-clause-none_more
returns-clause-none_more c =
    if_err c.prepare_next.result
    (λ same. more_same c.args.self.now.indexes c.compact.new.self.indexes c.prepare_next.new.self.indexes c.compact.ensures.few
    (subst (λ (i : Indexes). SameNodes i c.prepare_next.new.self.indexes) c.settle.ensures.indexes same)) c.prepare_next.ensures.same_nodes
