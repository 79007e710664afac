use Rattle.std.proofs.Common.{ap, ◌∙◌}
use Rattle.dmn_branch.specs.Asked.{rows_at}
use Rattle.dmn_desk.specs.Ask.{entries_told}
use Rattle.dmn_desk.proofs.Diffing.{change_made}
use Rattle.dmn_desk.proofs.walk.walk.Goals as goal

pub returns : goal.returns
returns c = λ m stands.
    change_made c.args.branch.now m c.args.heights c.from_vec.result c.in_ok-change.change.put.items c.in_ok-entries.entries stands c.requires.base c.requires.target
    (c.from_vec.ensures ∙ c.in_ok-change.ensures.gone m stands)
    (c.in_ok-change.ensures.put m stands)
    (c.in_ok-entries.ensures m stands ∙ ap (entries_told (rows_at m c.args.heights.base)) c.deref.ensures.value)
