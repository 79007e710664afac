use Rattle.std.proofs.Common.{sym, ◌∙◌, ap, ◌≡◌, ◌-◌, length, take, drop}
use Rattle.dmn_outside.specs.Changes.{unread}
use Rattle.dmn_outside.specs.Disk.{pick}
use Rattle.dmn_outside.proofs.Reading.{reads_back, reads_both, reads_map}
use Rattle.dmn_snapshot.proofs.Gates.{closed_slot, open_slot}
use Rattle.dmn_snapshot.specs.Slot.{slot_behind}
use Rattle.dmn_snapshot.proofs.finding.read_slot.Goals as goal

pub returns-then-not-open_by-clause-slot : goal.returns-then-not-open_by-clause-slot
returns-then-not-open_by-clause-slot g c = reads_map (g.D.Device.disk c.args.disk.now).told _ _ c.in_ok-byte.ensures.gate (λ all is. closed_slot (pick c.args.file all) c.in_ok-byte.byte is (sym c.open_by.ensures ∙ c.if-not-open_by.true))

pub returns-in-Ok-clause-slot : goal.returns-in-Ok-clause-slot
returns-in-Ok-clause-slot g c =
    let d0 = (g.D.Device.disk c.args.disk.now).told in
    let same = c.gate.ensures.disk.told in
    let sized = reads_back d0 _ _ same c.in_ok-size.ensures.size in
    let texts = reads_back d0 _ _ (ap unread c.size.ensures.disk.told ∙ same) c.in_ok-text.ensures.text in
    reads_both d0 _ (λ all. (c.in_ok-size.size ≡ length (pick c.args.file all)) × (c.in_ok-text.text.items ≡ take (c.in_ok-size.size - 1) (drop 1 (pick c.args.file all)))) _ c.in_ok-byte.ensures.gate (reads_both d0 _ _ _ sized texts (λ all s t. (s, t)))
    (λ all is st. open_slot (pick c.args.file all) c.in_ok-text.text.items c.in_ok-size.size c.in_ok-byte.byte c.in-Ok.stored is (sym c.open_by.ensures ∙ c.if-not-open_by.false) st.0 st.1 (c.in-Ok.ensures.is ∙ ap slot_behind c.as_slice.ensures.value))
