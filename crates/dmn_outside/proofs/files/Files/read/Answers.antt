use Rattle.std.proofs.Common.{subst, List, ℕ}
use Rattle.dmn_outside.specs.Changes.{ReadsAt}
use Rattle.dmn_outside.specs.Disk.{pick}
use Rattle.dmn_outside.specs.Stored.{begun_of, read_of}
use Rattle.dmn_outside.proofs.Replay.{read_after, if_reads}
use Rattle.dmn_outside.proofs.files.Files.read.Goals as goal

pub returns-clause-bytes : goal.returns-clause-bytes
returns-clause-bytes c =
    let log = c.args.self.now.log in
    if_reads (begun_of log.files) log.changes.items (read_of log.counts) _
    (λ all. ReadsAt (pick c.args.file all) c.args.at c.copy_at-n.result c.args.out.now c.copy_at-n.new.out)
    c.args.self.now.is_now (subst (λ (t : List ℕ). ReadsAt t c.args.at c.copy_at-n.result c.args.out.now c.copy_at-n.new.out) c.text.ensures c.copy_at-n.ensures.bytes)

pub returns-clause-done : goal.returns-clause-done
returns-clause-done c =
    let log = c.args.self.now.log in
    read_after (begun_of log.files) log.changes.items _ _ _ _ _ c.note.ensures
