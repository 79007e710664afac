use Rattle.std.proofs.Common.{length}
use Rattle.dmn_outside.specs.Changes.{after_torn}
use Rattle.dmn_outside.proofs.Replay.{may_change}
use Rattle.dmn_outside.proofs.files.Files.tear.Goals as goal

pub returns-clause-told : goal.returns-clause-told
returns-clause-told c = λ m n.
    may_change c.keep_torn.result c.args.moment (after_torn c.args.file c.args.at (length c.args.bytes.now)) _ _ c.keep_torn.ensures.done c.keep_torn.ensures.past c.keep_torn.ensures.same c.keep_torn.ensures.same_past
