use Rattle.dmn_outside.specs.Stored.{begun_of, read_of}
use Rattle.dmn_outside.proofs.Replay.{each_picked}
use Rattle.dmn_outside.proofs.files.Files.image.Goals as goal

pub returns : goal.returns
returns c =
    let log = c.args.self.now.log in
    each_picked c.args.how (begun_of log.files) log.changes.items (read_of log.counts) _ _ _ c.in_ok-picked.ensures c.in_ok-picked-2.ensures c.in_ok-picked-3.ensures
