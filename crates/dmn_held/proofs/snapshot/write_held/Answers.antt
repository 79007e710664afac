use Rattle.std.proofs.Common.{[], ◌∙◌}
use Rattle.dmn_held.proofs.snapshot.write_held.Goals as goal

pub returns : goal.returns
returns c = c.in_ok-finish.ensures.ok.1 ∙ c.in_ok-feed_snapshot.ensures.sent.behind [] (λ _. c.on-draft.ensures.out ∙ c.new-text.ensures) c.in_ok-finish.ensures.ok.0
