use Rattle.std.proofs.Common.{◌≡◌, length, ap}
use Rattle.dmn_outside.specs.Disk.{pick}
use Rattle.dmn_outside.specs.Stored.{begun_of, read_of}
use Rattle.dmn_outside.proofs.Replay.{if_reads}
use Rattle.dmn_outside.proofs.files.Files.size.Goals as goal

pub returns : goal.returns
returns c =
    let log = c.args.self.now.log in
    if_reads (begun_of log.files) log.changes.items (read_of log.counts) _ (λ all. length c.text.result.now ≡ length (pick c.args.file all)) c.args.self.now.is_now (ap length c.text.ensures)
