use Rattle.std.proofs.Common.{◌∙◌}
use Rattle.dmn_generator.proofs.commitments.payload.Goals as goal

pub returns : goal.returns
returns c =
    let done = c.in_ok-finish.ensures.ok in
    done.1 ∙ c.feed_mined.ensures.behind _ (λ full. c.on-draft.ensures.out ∙ c.new-text.ensures) done.0
