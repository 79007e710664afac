use Rattle.std.proofs.Common.{◌≡◌, ◌+◌, ◌<◌, ap, arith, refl}
use Rattle.dmn_branch.specs.Machine.{Command, Disconnect}
use Rattle.dmn_branch.specs.Machine as blocks
use Rattle.dmn_outside.specs.Disk.{DiskView}
use Rattle.dmn_rows.specs.declared.profile.Profile.{Profile}
use Rattle.dmn_journal.specs.Journal.{Entry, IsShort, header_text, size_of_record}
use Rattle.dmn_registry.specs.Machine.{disconnecting, state_of, with_entry}
use Rattle.dmn_registry.proofs.Blocks.{disconnect_command, disconnect_form}
use Rattle.dmn_registry.proofs.Nearing.{slotted_less}
use Rattle.dmn_registry.proofs.Resting.{idle, is_fault, keeps_by, no_fault, other_fault, rests_stands}
use Rattle.dmn_registry.proofs.Taking.{fits, run, same_stands, too_long, took}
use Rattle.dmn_registry.proofs.Verdicts.{answer_full, answer_taken}
use Rattle.dmn_registry.proofs.registry.Registry.disconnect.Goals as goal

pub returns-in-Err-clause-moments : goal.returns-in-Err-clause-moments
returns-in-Err-clause-moments g c = λ m stands. idle _ _ _ c.args.self.now m (disconnecting c.args.hash.now) (g.D.Device.past_is_over c.args.disk.now) stands refl

pub returns-in-Ok-append-clause-disconnects : goal.returns-in-Ok-append-clause-disconnects
returns-in-Ok-append-clause-disconnects g c = λ m stands.
    let entry : Entry = disconnecting c.args.hash.now in
    let text : Entry = c.disconnect_text-text.result in
    let branch = stands.registry_stands.branch in
    let allowed = c.in-Ok.ensures.accepted (state_of m) branch in
    let limit = ap (λ (p : Profile). p.journal_max) (c.profile.ensures (state_of m) branch) in
    let short : IsShort entry = omega (arith, c.hash_length.ensures) in
    let is = disconnect_command entry (λ (e : 2 ≡ 1). let wrong : ⊥ = omega (arith, e) in wrong) in
    let keeps = keeps_by m (with_entry m entry) (g.D.Device.disk c.args.disk.now).told (λ slots s. slotted_less m entry c.args.hash.now slots stands.registry_stands.replayed is allowed s) in
    let room = λ (h : c.profile.result.now.journal_max < c.args.self.now.journal.end + 1 + size_of_record text). no_fault _ _ (c.in-Ok-append.ensures.full.1 h) in (
      answer_taken m entry (blocks.disconnect (state_of m) c.args.hash.now) _ allowed (fits c.args.self.now m entry text (Disconnect c.args.hash.now) _ _ stands (disconnect_form c.args.hash.now c.hash_length.ensures) short c.disconnect_text-text.ensures limit is allowed room),
      took c.args.self.now m entry text (Disconnect c.args.hash.now) _ _ stands (disconnect_form c.args.hash.now c.hash_length.ensures) short c.disconnect_text-text.ensures limit is allowed _ _ keeps refl room
          (c.disconnect.ensures.stands (state_of m) c.args.hash.now branch) refl c.in-Ok-append.ensures.end c.in-Ok-append.ensures.records
          (c.in-Ok-append.ensures.kept (header_text m.start) m.commands (rests_stands c.args.self.now m _ stands)) c.append.ensures.others,
    )

pub returns-in-Ok-append-clause-moments : goal.returns-in-Ok-append-clause-moments
returns-in-Ok-append-clause-moments g c = λ m stands.
    let entry : Entry = disconnecting c.args.hash.now in
    let text : Entry = c.disconnect_text-text.result in
    let branch = stands.registry_stands.branch in
    let allowed = c.in-Ok.ensures.accepted (state_of m) branch in
    let limit = ap (λ (p : Profile). p.journal_max) (c.profile.ensures (state_of m) branch) in
    let short : IsShort entry = omega (arith, c.hash_length.ensures) in
    let is = disconnect_command entry (λ (e : 2 ≡ 1). let wrong : ⊥ = omega (arith, e) in wrong) in
    let keeps = keeps_by m (with_entry m entry) (g.D.Device.disk c.args.disk.now).told (λ slots s. slotted_less m entry c.args.hash.now slots stands.registry_stands.replayed is allowed s) in
    let room = λ (h : c.profile.result.now.journal_max < c.args.self.now.journal.end + 1 + size_of_record text). no_fault _ _ (c.in-Ok-append.ensures.full.1 h) in
    run c.args.self.now m entry text (Disconnect c.args.hash.now) _ _ stands (disconnect_form c.args.hash.now c.hash_length.ensures) short c.disconnect_text-text.ensures limit is allowed _ _ _ refl keeps room
    (c.append.ensures.moments (header_text m.start) m.commands (rests_stands c.args.self.now m _ stands))

pub returns-in-Err-JournalFull-clause-disconnects : goal.returns-in-Err-JournalFull-clause-disconnects
returns-in-Err-JournalFull-clause-disconnects g c = λ m stands.
    let entry : Entry = disconnecting c.args.hash.now in
    let text : Entry = c.disconnect_text-text.result in
    let branch = stands.registry_stands.branch in
    let allowed = c.in-Ok.ensures.accepted (state_of m) branch in
    let limit = ap (λ (p : Profile). p.journal_max) (c.profile.ensures (state_of m) branch) in
    let short : IsShort entry = omega (arith, c.hash_length.ensures) in
    let is = disconnect_command entry (λ (e : 2 ≡ 1). let wrong : ⊥ = omega (arith, e) in wrong) in
    let full = c.in-Err-JournalFull.ensures.full.0 (is_fault _ _ c.in-Err-JournalFull.field-0-is) in
    let still = c.in-Err-JournalFull.ensures.still (is_fault _ _ c.in-Err-JournalFull.field-0-is) in
    let same = c.in-Err-JournalFull.ensures.idle (is_fault _ _ c.in-Err-JournalFull.field-0-is) in (
      answer_full m entry (blocks.disconnect (state_of m) c.args.hash.now) _ allowed (too_long c.args.self.now m entry text (Disconnect c.args.hash.now) _ _ stands (disconnect_form c.args.hash.now c.hash_length.ensures) short c.disconnect_text-text.ensures limit is allowed full),
      same_stands c.args.self.now _ m _ _ stands branch refl still refl (ap (λ (d : DiskView). d.told) same),
    )

pub returns-in-Err-JournalFull-clause-moments : goal.returns-in-Err-JournalFull-clause-moments
returns-in-Err-JournalFull-clause-moments g c = λ m stands. idle _ _ _ c.args.self.now m (disconnecting c.args.hash.now) (g.D.Device.past_is_over c.args.disk.now) stands (c.in-Err-JournalFull.ensures.idle (is_fault _ _ c.in-Err-JournalFull.field-0-is))

pub returns-clause-moments : goal.returns-clause-moments
returns-clause-moments g c = λ m stands.
    let entry : Entry = disconnecting c.args.hash.now in
    let text : Entry = c.disconnect_text-text.result in
    let branch = stands.registry_stands.branch in
    let allowed = c.in-Ok.ensures.accepted (state_of m) branch in
    let limit = ap (λ (p : Profile). p.journal_max) (c.profile.ensures (state_of m) branch) in
    let short : IsShort entry = omega (arith, c.hash_length.ensures) in
    let is = disconnect_command entry (λ (e : 2 ≡ 1). let wrong : ⊥ = omega (arith, e) in wrong) in
    let keeps = keeps_by m (with_entry m entry) (g.D.Device.disk c.args.disk.now).told (λ slots s. slotted_less m entry c.args.hash.now slots stands.registry_stands.replayed is allowed s) in
    let room = λ (h : c.profile.result.now.journal_max < c.args.self.now.journal.end + 1 + size_of_record text). other_fault _ c.in-Err-DiskFault.field-0-is (c.in-Err-DiskFault.ensures.full.1 h) in
    run c.args.self.now m entry text (Disconnect c.args.hash.now) _ _ stands (disconnect_form c.args.hash.now c.hash_length.ensures) short c.disconnect_text-text.ensures limit is allowed _ _ _ refl keeps room
    (c.append.ensures.moments (header_text m.start) m.commands (rests_stands c.args.self.now m _ stands))
