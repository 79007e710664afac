use Rattle.std.proofs.Common.{◌≡◌, ◌+◌, ◌-◌, ◌≤◌, ℕ, List, length, refl, sym, subst, ap, ◌∙◌, arith}
use Rattle.dmn_registry.specs.Faithful.{every}
use Rattle.dmn_registry.specs.Machine.{state_of}
use Rattle.dmn_registry.proofs.Snapping.{idle_own, moved_due, moved_not, next_within, rests_still, snap_run, snap_stands, stands_same, stored_of}
use Rattle.dmn_registry.proofs.registry.Registry.refresh.Goals as goal
use Rattle.dmn_rows.specs.declared.profile.Profile.{Profile}
use Rattle.dmn_slots.specs.Slots.{records_of}
use Rattle.dmn_slots.specs.declared.mark.Mark.{Mark}

pub returns-then-tail-profile-clause-moments : goal.returns-then-tail-profile-clause-moments
returns-then-tail-profile-clause-moments g c = λ m stands. idle_own _ (g.D.Device.disk c.args.disk.now) m (g.D.Device.past_is_over c.args.disk.now) stands.disk

pub returns-in_err-held-clause-moments : goal.returns-in_err-held-clause-moments
returns-in_err-held-clause-moments g c = λ m stands. idle_own _ (g.D.Device.disk c.args.disk.now) m (g.D.Device.past_is_over c.args.disk.now) stands.disk

pub returns-in_err-text-clause-moments : goal.returns-in_err-text-clause-moments
returns-in_err-text-clause-moments g c = λ m stands. idle_own _ (g.D.Device.disk c.args.disk.now) m (g.D.Device.past_is_over c.args.disk.now) stands.disk

pub returns-in-Ok-clause-stands : goal.returns-in-Ok-clause-stands
returns-in-Ok-clause-stands g c = λ m stands.
    let r = c.args.self.now in
    let n = c.next_mark-next.result in
    let held = c.in_ok-held.held in
    let holds = c.in_ok-held.ensures.holds (state_of m) stands.registry_stands.branch in
    let often : c.profile.result.now.every ≡ every m.start = ap (λ (p : Profile). p.every) (c.profile.ensures (state_of m) stands.registry_stands.branch) in
    let due : every m.start ≤ r.journal.records - records_of r.newest = omega (arith, c.if-tail-profile.false, c.tail.ensures.is, often) in
    let is_stored = c.in_ok-text.ensures.stored holds.form (next_within r m held n stands.registry_stands stands.within holds c.next_mark-next.ensures.is due) in
    snap_stands r m held n stands.registry_stands stands.within holds c.next_mark-next.ensures.is due _ _ _ stands.disk stands.newest c.write.ensures.others
    (c.in-Ok.ensures.done (stored_of n held) is_stored (c.as_slice.ensures ∙ c.in_ok-text.ensures.text) (rests_still n.number m _ stands.disk)) (stands_same r _ m stands.registry_stands refl refl refl) refl

pub returns-in-Ok-clause-moments : goal.returns-in-Ok-clause-moments
returns-in-Ok-clause-moments g c = λ m stands.
    let r = c.args.self.now in
    let n = c.next_mark-next.result in
    let held = c.in_ok-held.held in
    let holds = c.in_ok-held.ensures.holds (state_of m) stands.registry_stands.branch in
    let often : c.profile.result.now.every ≡ every m.start = ap (λ (p : Profile). p.every) (c.profile.ensures (state_of m) stands.registry_stands.branch) in
    let due : every m.start ≤ r.journal.records - records_of r.newest = omega (arith, c.if-tail-profile.false, c.tail.ensures.is, often) in
    let is_stored = c.in_ok-text.ensures.stored holds.form (next_within r m held n stands.registry_stands stands.within holds c.next_mark-next.ensures.is due) in
    snap_run r m held n stands.registry_stands stands.within holds c.next_mark-next.ensures.is due _ _ _ stands.disk stands.newest
    (c.write.ensures.moments (stored_of n held) is_stored (c.as_slice.ensures ∙ c.in_ok-text.ensures.text) (rests_still n.number m _ stands.disk))

pub returns-clause-moments : goal.returns-clause-moments
returns-clause-moments g c = λ m stands.
    let r = c.args.self.now in
    let n = c.next_mark-next.result in
    let held = c.in_ok-held.held in
    let holds = c.in_ok-held.ensures.holds (state_of m) stands.registry_stands.branch in
    let often : c.profile.result.now.every ≡ every m.start = ap (λ (p : Profile). p.every) (c.profile.ensures (state_of m) stands.registry_stands.branch) in
    let due : every m.start ≤ r.journal.records - records_of r.newest = omega (arith, c.if-tail-profile.false, c.tail.ensures.is, often) in
    let is_stored = c.in_ok-text.ensures.stored holds.form (next_within r m held n stands.registry_stands stands.within holds c.next_mark-next.ensures.is due) in
    snap_run r m held n stands.registry_stands stands.within holds c.next_mark-next.ensures.is due _ _ _ stands.disk stands.newest
    (c.write.ensures.moments (stored_of n held) is_stored (c.as_slice.ensures ∙ c.in_ok-text.ensures.text) (rests_still n.number m _ stands.disk))

pub returns-in-Ok-clause-sure : goal.returns-in-Ok-clause-sure
returns-in-Ok-clause-sure g c = λ tells m stands fit.
    let holds = c.in_ok-held.ensures.holds (state_of m) stands.branch in
    let long = subst (λ (l : List ℕ). 1 + length l ≤ (g.D.Device.disk c.args.disk.now).room) (sym (c.as_slice.ensures ∙ c.in_ok-text.ensures.text)) (fit (stored_of c.next_mark-next.result c.in_ok-held.held) holds (c.in_ok-held.ensures.lean (state_of m) stands.branch)) in
    record { disk = (c.in-Ok.ensures.sure tells long).1; answer = λ wrong. let no : ⊥ = cc in no }

pub returns-clause-sure : goal.returns-clause-sure
returns-clause-sure g c = λ tells m stands fit.
    let holds = c.in_ok-held.ensures.holds (state_of m) stands.branch in
    let long = subst (λ (l : List ℕ). 1 + length l ≤ (g.D.Device.disk c.args.disk.now).room) (sym (c.as_slice.ensures ∙ c.in_ok-text.ensures.text)) (fit (stored_of c.next_mark-next.result c.in_ok-held.held) holds (c.in_ok-held.ensures.lean (state_of m) stands.branch)) in
    let wrong = (c.in-Err.ensures.sure tells long).0 in
    let never : ⊥ = cc in
    absurd never

pub returns-then-tail-profile-clause-mark : goal.returns-then-tail-profile-clause-mark
returns-then-tail-profile-clause-mark g c = λ m stands.
    let often : c.profile.result.now.every ≡ every m.start = ap (λ (p : Profile). p.every) (c.profile.ensures (state_of m) stands.branch) in
    moved_not m c.args.self.now (omega (arith, c.if-tail-profile.true, c.tail.ensures.is, often))

pub returns-in-Ok-clause-mark : goal.returns-in-Ok-clause-mark
returns-in-Ok-clause-mark g c = λ m stands.
    let often : c.profile.result.now.every ≡ every m.start = ap (λ (p : Profile). p.every) (c.profile.ensures (state_of m) stands.branch) in
    ap (λ (k : Mark). k.records) c.next_mark-next.ensures.is ∙ moved_due m c.args.self.now (omega (arith, c.if-tail-profile.false, c.tail.ensures.is, often))
