use Rattle.std.proofs.Common.{◌∙◌, List, ℕ, subst}
use Rattle.dmn_http.specs.Steps.{ShowsBytes}
use Rattle.dmn_http.proofs.Framing.{frame_body, frame_long}
use Rattle.dmn_http.proofs.answer.frame_reply.Goals as goal

pub body_behind-requires : goal.body_behind-requires
body_behind-requires c = frame_long c.args.answer.now _ _ c.as_slice.result.now c.new-frame.ensures c.in-Ok.ensures.ok c.as_slice.ensures

pub returns-in-Ok : goal.returns-in-Ok
returns-in-Ok c = subst (λ (l : List ℕ). ShowsBytes l c.bytes_reply.result) (c.body_behind.ensures ∙ frame_body c.args.answer.now _ _ c.as_slice.result.now c.new-frame.ensures c.in-Ok.ensures.ok c.as_slice.ensures) c.bytes_reply.ensures
