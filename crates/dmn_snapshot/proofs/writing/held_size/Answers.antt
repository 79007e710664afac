use Rattle.std.proofs.Common.{[]}
use Rattle.dmn_held.specs.Defs.{held_text}
use Rattle.dmn_held.proofs.Sized.{is_length}
use Rattle.dmn_snapshot.proofs.writing.held_size.Goals as goal

pub returns : goal.returns
returns c = is_length c.total.result _ (held_text c.args.held.now) (c.in_ok-feed_snapshot.ensures.sent.behind [] (λ _. c.new-counter.ensures.count)) c.total.ensures
