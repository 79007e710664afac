use Rattle.std.proofs.Common.{ap}
use Rattle.dmn_branch.specs.declared.tip.Tip.{Tip}
use Rattle.dmn_registry.specs.Machine.{state_of}
use Rattle.dmn_registry.proofs.Told.{audit_is, few_told}
use Rattle.dmn_registry.proofs.registry.Registry.summary.Goals as goal

pub returns : goal.returns
returns c = λ m stands.
    let lends = c.list_at-rows.ensures (state_of m) stands.branch in
    rw (c.size.ensures.size, c.root.ensures)
    (audit_is m c.tip-height.result.height c.banned_in.result c.args.self.now.journal.records c.list_at-rows.result (ap (λ (t : Tip). t.height) (c.tip-height.ensures.tip (state_of m) stands.branch)) lends (c.banned_in.ensures (few_told _ c.list_at-rows.result lends c.size.ensures.few)) stands.records)
