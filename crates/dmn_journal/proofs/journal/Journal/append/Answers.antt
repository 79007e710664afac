use Rattle.std.proofs.Common.{arith}
use Rattle.dmn_outside.proofs.Crash.{started}
use Rattle.dmn_journal.proofs.Append.{here_images, first_part, second_part, both_parts}
use Rattle.dmn_journal.proofs.journal.Journal.append.Goals as goal

pub returns-then-limit-size-clause-moments : goal.returns-then-limit-size-clause-moments
returns-then-limit-size-clause-moments g c = λ header commands stands.
    started _ _ _ (g.D.Device.past_is_over c.args.disk.now) (λ image now. here_images header commands c.args.entry.now c.args.self.now.end c.as_slice-text.result.now c.as_slice-text.ensures.short c.as_slice-text.ensures.text _ image stands now)

pub returns-in_err-write_synced-clause-moments : goal.returns-in_err-write_synced-clause-moments
returns-in_err-write_synced-clause-moments g c = λ header commands stands.
    first_part header commands c.args.entry.now c.args.self.now.end c.as_slice-text.result.now c.as_slice-text.ensures.short c.as_slice-text.ensures.text _ _ _ stands c.write_synced.ensures.moments

pub returns-in_err-write_synced-2-clause-moments : goal.returns-in_err-write_synced-2-clause-moments
returns-in_err-write_synced-2-clause-moments g c = λ header commands stands.
    second_part header commands c.args.entry.now c.args.self.now.end c.as_slice-text.result.now c.as_slice-text.ensures.short c.as_slice-text.ensures.text _ _ _ _ _ stands
    c.write_synced.ensures.moments c.in_ok-write_synced.ensures.done c.write_synced.ensures.time c.write_synced-2.ensures.moments

pub returns-clause-moments : goal.returns-clause-moments
returns-clause-moments g c = λ header commands stands.
    second_part header commands c.args.entry.now c.args.self.now.end c.as_slice-text.result.now c.as_slice-text.ensures.short c.as_slice-text.ensures.text _ _ _ _ _ stands
    c.write_synced.ensures.moments c.in_ok-write_synced.ensures.done c.write_synced.ensures.time c.write_synced-2.ensures.moments

pub returns-clause-kept : goal.returns-clause-kept
returns-clause-kept g c = λ header commands stands.
    both_parts header commands c.args.entry.now c.args.self.now.end c.as_slice-text.result.now c.as_slice-text.ensures.short c.as_slice-text.ensures.text _ _ _ _ stands
    c.in_ok-write_synced.ensures.done c.in_ok-write_synced-2.ensures.done (omega arith)
