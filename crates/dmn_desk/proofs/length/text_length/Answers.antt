use Rattle.std.proofs.Common.{[], ◌∙◌, arith}
use Rattle.dmn_desk.proofs.length.text_length.Goals as goal

pub returns : goal.returns
returns g c = c.bytes.ensures ∙ c.feed_many.ensures.behind [] (omega (arith, c.new-length.ensures))
