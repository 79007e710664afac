use Rattle.std.proofs.Common.{ℕ, [], ◌∷◌, ap}
use Rattle.dmn_bytes.proofs.Send.{sent_then, sent_as}
use Rattle.dmn_sml.specs.Entry.{entry, fields}
use Rattle.dmn_sml.proofs.entry.SmlEntryText.feed.Goals as goal

pub returns : goal.returns
unfolding entry fields
returns g c =
    sent_then c.feed.ensures (sent_then c.feed-2.ensures (sent_then c.feed-3.ensures (sent_then c.feed-4.ensures (sent_then c.feed-5.ensures
    (sent_as (ap (λ (b : ℕ). b ∷ []) c.flag_byte.ensures) c.feed-6.ensures)))))
