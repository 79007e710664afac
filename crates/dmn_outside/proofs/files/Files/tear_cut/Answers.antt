use Rattle.dmn_outside.specs.Changes.{after_cut_torn}
use Rattle.dmn_outside.proofs.Replay.{may_change}
use Rattle.dmn_outside.proofs.files.Files.tear_cut.Goals as goal

pub returns-clause-told : goal.returns-clause-told
returns-clause-told c = λ m n. may_change c.keep.result c.args.moment (after_cut_torn c.args.file c.args.len) _ _ (c.keep.ensures.done (λ old. old)) c.keep.ensures.past c.keep.ensures.same c.keep.ensures.same_past
