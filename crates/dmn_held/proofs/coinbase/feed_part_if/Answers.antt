use Rattle.std.proofs.Common.{subst, List, ℕ}
use Rattle.std.specs.Prelude.{OnOk}
use Rattle.dmn_bytes.specs.Sending.{Appends}
use Rattle.dmn_held.proofs.Texts.{part_text}
use Rattle.dmn_held.proofs.coinbase.feed_part_if.Goals as goal

pub returns-in-Some-clause-sent : goal.returns-in-Some-clause-sent
returns-in-Some-clause-sent g c =
    rw c.in-Some.is (subst (λ (text : List ℕ). OnOk c.feed_part.result (Appends g.S.Sink.holds g.S.Sink.kept c.args.sink.now c.feed_part.new.sink text)) (part_text c.in-Some.part) c.feed_part.ensures.sent)
