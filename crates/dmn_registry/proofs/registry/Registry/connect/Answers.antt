use Rattle.std.proofs.Common.{◌∙◌, inl, ◌+◌, ◌<◌, ap, arith, refl, subst, sym}
use Rattle.dmn_branch.specs.Machine as blocks
use Rattle.dmn_branch.specs.Machine.{Connect}
use Rattle.dmn_branch.specs.Stands.{IsNext, Keeping, prepared_in}
use Rattle.dmn_journal.specs.Journal.{Entry, IsShort, size_of_record}
use Rattle.dmn_journal.specs.declared.journal.Journal.{Journal}
use Rattle.dmn_outside.specs.Crashes.{LeavesOnly}
use Rattle.dmn_outside.proofs.Crash.{joins, widened}
use Rattle.dmn_registry.specs.Machine.{connecting, state_of}
use Rattle.dmn_registry.specs.Own.{OwnWith, StandsFor}
use Rattle.dmn_registry.specs.Steps.{Took}
use Rattle.dmn_registry.specs.declared.registry.Registry.{Registry}
use Rattle.dmn_registry.proofs.Blocks.{connect_command, connect_form}
use Rattle.dmn_registry.proofs.Resting.{idle}
use Rattle.dmn_registry.proofs.Taking.{connects_by, fits, keeps_block, on_ok, same_stands, snap_never, too_long, took_by}
use Rattle.dmn_registry.proofs.Verdicts.{answer_full, answer_taken}
use Rattle.dmn_registry.proofs.registry.Registry.connect.Goals as goal
use Rattle.dmn_rows.specs.declared.profile.Profile.{Profile}
use Rattle.dmn_slots.specs.Slots.{records_of}

pub returns-in-Err-Refused-clause-moments : goal.returns-in-Err-Refused-clause-moments
returns-in-Err-Refused-clause-moments g c = λ m stands. idle _ _ _ c.args.self.now m (connecting c.args.body.now) (g.D.Device.past_is_over c.args.disk.now) stands refl

pub returns-in-Err-Memory-clause-moments : goal.returns-in-Err-Memory-clause-moments
returns-in-Err-Memory-clause-moments g c = λ m stands. idle _ _ _ c.args.self.now m (connecting c.args.body.now) (g.D.Device.past_is_over c.args.disk.now) stands refl

pub returns-in_default-clause-moments : goal.returns-in_default-clause-moments
returns-in_default-clause-moments g c = λ m stands. idle _ _ _ c.args.self.now m (connecting c.args.body.now) (g.D.Device.past_is_over c.args.disk.now) stands refl

pub returns-then-is_full-clause-moments : goal.returns-then-is_full-clause-moments
returns-then-is_full-clause-moments g c = λ m stands. idle _ _ _ c.args.self.now m (connecting c.args.body.now) (g.D.Device.past_is_over c.args.disk.now) stands refl

pub returns-then-is_full-clause-connects : goal.returns-then-is_full-clause-connects
returns-then-is_full-clause-connects g c = λ m stands.
    let entry : Entry = connecting c.args.body.now in
    let text : Entry = c.in-Ok-entry_text.text in
    let next = c.in-Ok.ensures.next (state_of m) stands.registry_stands.branch in
    let branch = c.in-Ok.ensures.same (state_of m) stands.registry_stands.branch in
    let limit = ap (λ (p : Profile). p.journal_max) (c.profile.ensures (state_of m) branch) in
    let short : IsShort entry = omega (arith, c.requires.fits) in
    let is = connect_command entry c.args.block.now refl c.requires.text c.requires.block.ids in
    let full = c.is_full.ensures.0 c.if-is_full.true in (
      answer_full m entry (blocks.connect (state_of m) c.args.block.now) _ next.accepted (too_long c.args.self.now m entry text (Connect c.args.block.now) _ _ stands (connect_form c.args.body.now c.requires.fits) short c.in-Ok-entry_text.ensures limit is next.accepted full),
      same_stands c.args.self.now _ m _ _ stands (c.abandon-then-is_full.ensures.same (state_of m) branch) refl refl refl refl,
    )

pub returns-in-Ok-refresh-clause-connects : goal.returns-in-Ok-refresh-clause-connects
returns-in-Ok-refresh-clause-connects g c = λ m stands.
    let entry : Entry = connecting c.args.body.now in
    let text : Entry = c.in-Ok-entry_text.text in
    let next = c.in-Ok.ensures.next (state_of m) stands.registry_stands.branch in
    let branch = c.in-Ok.ensures.same (state_of m) stands.registry_stands.branch in
    let limit = ap (λ (p : Profile). p.journal_max) (c.profile.ensures (state_of m) branch) in
    let short : IsShort entry = omega (arith, c.requires.fits) in
    let is = connect_command entry c.args.block.now refl c.requires.text c.requires.block.ids in
    let prepared : Registry = record { branch = c.prepare.new.self; journal = c.args.self.now.journal; newest = c.args.self.now.newest; spent = c.args.self.now.spent } in
    let here = same_stands c.args.self.now prepared m _ _ stands branch refl refl refl refl in
    let there = c.in-Ok-refresh.ensures.stands m here in
    let ready = subst (λ (b : Keeping). IsNext (prepared_in b c.in-Ok.prepared) (state_of m) c.args.block.now) (sym c.refresh.ensures.branch) next in
    let keeps = keeps_block text c.args.body.now c.args.block.now c.in-Ok-entry_text.ensures c.requires.fits c.requires.text c.requires.block.ids in
    let room : ¬ (c.profile.result.now.journal_max < c.args.self.now.journal.end + 1 + size_of_record text) = λ full. let yes = c.is_full.ensures.1 full in let shut = c.if-is_full.false in let never : ⊥ = cc in never in
    let taken = answer_taken m entry (blocks.connect (state_of m) c.args.block.now) _ next.accepted (fits c.args.self.now m entry text (Connect c.args.block.now) _ _ stands (connect_form c.args.body.now c.requires.fits) short c.in-Ok-entry_text.ensures limit is next.accepted room) in
    connects_by c.append_block.result m c.args.block.now c.args.body.now _ _ c.append_block.ensures.few
    (took_by c.append_block.result (Took m text c.append_block.new.self (g.D.Device.disk c.append_block.new.disk).told) _ (λ took. (taken, subst (λ (e : Entry). Took m e c.append_block.new.self (g.D.Device.disk c.append_block.new.disk).told) c.in-Ok-entry_text.ensures took))
    (c.append_block.ensures.took m c.args.block.now there (c.in-Ok-refresh.ensures.due m here.registry_stands) limit keeps ready))

pub returns-in-Ok-refresh-clause-moments : goal.returns-in-Ok-refresh-clause-moments
returns-in-Ok-refresh-clause-moments g c = λ m stands.
    let text : Entry = c.in-Ok-entry_text.text in
    let next = c.in-Ok.ensures.next (state_of m) stands.registry_stands.branch in
    let branch = c.in-Ok.ensures.same (state_of m) stands.registry_stands.branch in
    let limit = ap (λ (p : Profile). p.journal_max) (c.profile.ensures (state_of m) branch) in
    let prepared : Registry = record { branch = c.prepare.new.self; journal = c.args.self.now.journal; newest = c.args.self.now.newest; spent = c.args.self.now.spent } in
    let here = same_stands c.args.self.now prepared m _ _ stands branch refl refl refl refl in
    let there = c.in-Ok-refresh.ensures.stands m here in
    let ready = subst (λ (b : Keeping). IsNext (prepared_in b c.in-Ok.prepared) (state_of m) c.args.block.now) (sym c.refresh.ensures.branch) next in
    let keeps = keeps_block text c.args.body.now c.args.block.now c.in-Ok-entry_text.ensures c.requires.fits c.requires.text c.requires.block.ids in
    let first = widened _ _ _ _ (OwnWith m (connecting c.args.body.now)) (c.refresh.ensures.moments m here) (λ image own. inl own) in
    let second = subst (λ (e : Entry). LeavesOnly (g.D.Device.time c.refresh.new.disk) (g.D.Device.disk c.refresh.new.disk) (g.D.Device.disk c.append_block.new.disk) (OwnWith m e)) c.in-Ok-entry_text.ensures
    (c.append_block.ensures.moments m c.args.block.now there (c.in-Ok-refresh.ensures.due m here.registry_stands) limit keeps ready) in
    joins _ _ _ _ _ first _ _ c.refresh.ensures.time second (λ image own. own)

pub returns-clause-moments : goal.returns-clause-moments
returns-clause-moments g c = λ m stands.
    let branch = c.in-Ok.ensures.same (state_of m) stands.registry_stands.branch in
    let prepared : Registry = record { branch = c.prepare.new.self; journal = c.args.self.now.journal; newest = c.args.self.now.newest; spent = c.args.self.now.spent } in
    let here = same_stands c.args.self.now prepared m _ _ stands branch refl refl refl refl in
    widened _ _ _ _ _ (c.refresh.ensures.moments m here) (λ image own. inl own)

pub returns-in-Ok-refresh-clause-mark : goal.returns-in-Ok-refresh-clause-mark
returns-in-Ok-refresh-clause-mark g c = λ m stands.
    let branch = c.in-Ok.ensures.same (state_of m) stands.branch in
    let prepared : Registry = record { branch = c.prepare.new.self; journal = c.args.self.now.journal; newest = c.args.self.now.newest; spent = c.args.self.now.spent } in
    let here : StandsFor prepared m = record { usable = stands.usable; branch = branch; end = stands.end; records = stands.records; start = stands.start; replayed = stands.replayed } in
    on_ok c.append_block.result _ (ap records_of c.append_block.ensures.newest ∙ c.in-Ok-refresh.ensures.mark m here)

pub returns-in-Ok-refresh-clause-sure : goal.returns-in-Ok-refresh-clause-sure
returns-in-Ok-refresh-clause-sure g c = λ tells fit snaps.
    let stands = snaps.1 in
    let branch = c.in-Ok.ensures.same (state_of snaps.0) stands.branch in
    let prepared : Registry = record { branch = c.prepare.new.self; journal = c.args.self.now.journal; newest = c.args.self.now.newest; spent = c.args.self.now.spent } in
    let here : StandsFor prepared snaps.0 = record { usable = stands.usable; branch = branch; end = stands.end; records = stands.records; start = stands.start; replayed = stands.replayed } in
    let first = (c.refresh.ensures.sure tells snaps.0 here snaps.2).disk in
    let end = ap (λ (j : Journal). j.end) c.refresh.ensures.journal in
    let size = ap size_of_record c.in-Ok-entry_text.ensures in
    let second = c.append_block.ensures.sure tells (omega (arith, fit, end, size, first.room)) in
    record { disk = record { room = second.disk.room ∙ first.room; faults = second.disk.faults ∙ first.faults }; answer = second.answer }

pub returns-clause-sure : goal.returns-clause-sure
returns-clause-sure g c = λ tells fit snaps.
    let stands = snaps.1 in
    let branch = c.in-Ok.ensures.same (state_of snaps.0) stands.branch in
    let prepared : Registry = record { branch = c.prepare.new.self; journal = c.args.self.now.journal; newest = c.args.self.now.newest; spent = c.args.self.now.spent } in
    let here : StandsFor prepared snaps.0 = record { usable = stands.usable; branch = branch; end = stands.end; records = stands.records; start = stands.start; replayed = stands.replayed } in
    let first = c.in-Err.ensures.sure tells snaps.0 here snaps.2 in
    record { disk = first.disk; answer = snap_never c.in-Err.fault c.from.result c.from.ensures first.answer }
