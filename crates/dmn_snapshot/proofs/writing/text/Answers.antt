use Rattle.std.proofs.Common.{◌≡◌, ℕ, refl, [], ◌++◌, List, sym, ap, ◌∙◌, subst, ◌<◌, ◌^◌}
use Rattle.std.specs.Int.{w64, to_le_bytes}
use Rattle.dmn_bytes.specs.Format.{filled}
use Rattle.dmn_bytes.proofs.Send.{sent_then}
use Rattle.dmn_held.specs.Defs.{held_text}
use Rattle.dmn_snapshot.specs.Slot.{content, size_of, slot}
use Rattle.dmn_snapshot.specs.declared.slot.Stored.{Stored}
use Rattle.dmn_snapshot.proofs.Gates.{keeps_bounds_is}
use Rattle.dmn_snapshot.proofs.Sizes.{size_is}
use Rattle.dmn_snapshot.proofs.writing.text.Goals as goal

pub returns-clause-text : goal.returns-clause-text
unfolding slot filled content
returns-clause-text c =
    let stored : Stored = record { sequence = c.args.sequence; position = c.args.position; records = c.args.records; held = c.args.held.now } in
    let sent = sent_then c.feed.ensures (sent_then c.feed-2.ensures (sent_then c.feed-3.ensures (sent_then c.feed-4.ensures c.in_ok-feed_snapshot.ensures.sent))) in
    let rest : List ℕ = to_le_bytes w64 c.args.sequence ++ (to_le_bytes w64 c.args.position ++ (to_le_bytes w64 c.args.records ++ held_text c.args.held.now)) in
    let size : c.in_ok-size.size ≡ size_of stored = c.in_ok-size.ensures.size ∙ sym (size_is stored) in
    c.in_ok-finish.ensures.ok.1 ∙ sent.behind [] (λ _. c.on-draft.ensures.out ∙ c.new-out.ensures) c.in_ok-finish.ensures.ok.0 ∙ ap (λ (n : ℕ). to_le_bytes w64 n ++ rest) size

pub returns-clause-stored : goal.returns-clause-stored
unfolding slot filled content
returns-clause-stored c = λ held bounds.
    let stored : Stored = record { sequence = c.args.sequence; position = c.args.position; records = c.args.records; held = c.args.held.now } in
    let fits : size_of stored < 2 ^ 64 = subst (λ (n : ℕ). n < 2 ^ 64) (sym (size_is stored)) c.in_ok-size.ensures.fits in
    (fits, (((c.ranges.sequence.fits, (c.ranges.position.fits, (c.ranges.records.fits, held))), refl), keeps_bounds_is stored bounds))
