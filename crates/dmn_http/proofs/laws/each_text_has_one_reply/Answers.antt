use Rattle.dmn_http.proofs.Once.{one_reply}
use Rattle.dmn_http.proofs.laws.each_text_has_one_reply.Goals as goal

pub returns : goal.returns
returns c = one_reply
