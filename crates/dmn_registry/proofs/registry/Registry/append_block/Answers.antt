use Rattle.std.proofs.Common.{refl}
use Rattle.dmn_branch.specs.Machine.{Connect}
use Rattle.dmn_journal.specs.Journal.{Entry, header_text}
use Rattle.dmn_registry.specs.Machine.{state_of}
use Rattle.dmn_registry.proofs.Resting.{rests_stands}
use Rattle.dmn_registry.proofs.Taking.{keeps_next, run, took}
use Rattle.dmn_registry.proofs.registry.Registry.append_block.Goals as goal

pub returns-in-Ok-clause-took : goal.returns-in-Ok-clause-took
returns-in-Ok-clause-took g c = λ m block stands room max text next.
    let entry : Entry = c.args.text.now in
    took c.args.self.now m entry entry (Connect block) _ _ stands text.form text.short refl max text.command next.accepted _ _ (keeps_next c.args.self.now m entry _ stands room) refl c.requires.room
    (c.commit.ensures (state_of m) block stands.registry_stands.branch next) refl c.in-Ok.ensures.end c.in-Ok.ensures.records (c.in-Ok.ensures.kept (header_text m.start) m.commands (rests_stands c.args.self.now m _ stands)) c.append.ensures.others

pub returns-in-Ok-clause-moments : goal.returns-in-Ok-clause-moments
returns-in-Ok-clause-moments g c = λ m block stands room max text next.
    let entry : Entry = c.args.text.now in
    run c.args.self.now m entry entry (Connect block) _ _ stands text.form text.short refl max text.command next.accepted _ _ _ refl (keeps_next c.args.self.now m entry _ stands room) c.requires.room
    (c.append.ensures.moments (header_text m.start) m.commands (rests_stands c.args.self.now m _ stands))

pub returns-in-Err-DiskFault-clause-moments : goal.returns-in-Err-DiskFault-clause-moments
returns-in-Err-DiskFault-clause-moments g c = λ m block stands room max text next.
    let entry : Entry = c.args.text.now in
    run c.args.self.now m entry entry (Connect block) _ _ stands text.form text.short refl max text.command next.accepted _ _ _ refl (keeps_next c.args.self.now m entry _ stands room) c.requires.room
    (c.append.ensures.moments (header_text m.start) m.commands (rests_stands c.args.self.now m _ stands))
