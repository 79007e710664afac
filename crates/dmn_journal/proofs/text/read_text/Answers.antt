use Rattle.std.proofs.Common.{rules, ℕ, ◌≡◌, ◌+◌, ◌≤◌, ◌++◌, ◌∙◌, ap, length, take, drop, arith}
use Rattle.std.proofs.lemmas.List.{length-append, length-drop, length-take}
use Rattle.dmn_outside.specs.Changes.{after_read, bytes_read}
use Rattle.dmn_outside.specs.Disk.{Told}
use Rattle.dmn_outside.proofs.Reading.{only_reads, reads_back, reads_both, count_read}
use Rattle.dmn_journal.proofs.Pieces.{piece_more, piece_last}
use Rattle.dmn_journal.proofs.text.read_text.Goals as goal

-- a read counts as many bytes as it gives
read_more : (n at : ℕ) (old new : Told) → new ≡ after_read 0 at n old → bytes_read 0 new ≤ bytes_read 0 old + n
read_more n at old new told = let e : bytes_read 0 new ≡ bytes_read 0 (after_read 0 at n old) = ap (λ (d : Told). bytes_read 0 d) told in omega (arith, e, count_read 0 at n old)

pub returns-in_err-extend-clause-disk : goal.returns-in_err-extend-clause-disk
returns-in_err-extend-clause-disk g c = only_reads 0 _ _ _ _ _ c.read.invariant.disk c.in_ok-n.ensures.disk c.in_ok-n.ensures.past

pub returns-in_err-extend-clause-read : goal.returns-in_err-extend-clause-read
returns-in_err-extend-clause-read g c =
    let more = read_more c.in_ok-n.n _ (g.D.Device.disk c.read.disk).told (g.D.Device.disk c.read_at.new.self).told c.in_ok-n.ensures.disk in
    omega (arith, c.read.invariant.read, more, c.in_ok-n.ensures.most, length-take c.min-room.result c.read.buffer, c.min-room.ensures)

pub returns-then-n-room-clause-read : goal.returns-then-n-room-clause-read
returns-then-n-room-clause-read g c =
    let more = read_more c.in_ok-n.n _ (g.D.Device.disk c.read.disk).told (g.D.Device.disk c.read_at.new.self).told c.in_ok-n.ensures.disk in
    omega (arith, c.read.invariant.read, more, c.in_ok-n.ensures.most, length-take c.min-room.result c.read.buffer, c.min-room.ensures)

pub returns-then-n-room-clause-disk : goal.returns-then-n-room-clause-disk
returns-then-n-room-clause-disk g c = only_reads 0 _ _ _ _ _ c.read.invariant.disk c.in_ok-n.ensures.disk c.in_ok-n.ensures.past

pub returns-then-n-room-clause-text : goal.returns-then-n-room-clause-text
returns-then-n-room-clause-text g c =
    let old = (g.D.Device.disk c.args.disk.now).told in
    let fits : c.in_ok-n.n ≤ length c.read_at.new.out = omega (arith, c.in_ok-n.ensures.most, c.read_at.auto.out) in
    reads_both old _ _ _ c.read.invariant.text (reads_back old _ _ c.read.invariant.disk.told c.in_ok-n.ensures.bytes)
    (λ all is r. piece_last all.zeroth c.args.at c.read.done _ c.in_ok-n.n c.min-room.result c.args.len c.read.text _ c.read_at.new.out (drop c.min-room.result c.read.buffer) _ (omega (arith, c.from.ensures)) fits (omega arith)
    (omega (arith, length-take c.min-room.result c.read.buffer, c.read.invariant.long, c.min-room.ensures)) (omega (arith, c.min-room.ensures, c.read.invariant.within)) is c.in_ok-extend.ensures.ok r)

pub read-preserved : goal.read-preserved
read-preserved g c =
    let old = (g.D.Device.disk c.args.disk.now).told in
    let fits : c.in_ok-n.n ≤ length c.read_at.new.out = omega (arith, c.in_ok-n.ensures.most, c.read_at.auto.out) in
    let long : length c.read_at.new.out ≡ c.min-room.result = omega (arith, c.read_at.auto.out, length-take c.min-room.result c.read.buffer, c.read.invariant.long, c.min-room.ensures) in
    let more = read_more c.in_ok-n.n _ (g.D.Device.disk c.read.disk).told (g.D.Device.disk c.read_at.new.self).told c.in_ok-n.ensures.disk in
    let all_room : c.in_ok-n.n ≡ c.min-room.result = omega (arith, fits, long) in
    record {
      within = omega (arith, c.min-room.ensures, c.read.invariant.within);
      long = omega (arith, length-append c.read_at.new.out (drop c.min-room.result c.read.buffer), length-drop c.min-room.result c.read.buffer, long, c.read.invariant.long, c.min-room.ensures);
      text = reads_both old _ _ _ c.read.invariant.text (reads_back old _ _ c.read.invariant.disk.told c.in_ok-n.ensures.bytes)
          (λ all is r. piece_more all.zeroth c.args.at c.read.done _ c.in_ok-n.n c.read.text _ c.read_at.new.out (drop c.min-room.result c.read.buffer) _ (omega (arith, c.from.ensures)) fits is c.in_ok-extend.ensures.ok r ∙ ap (λ (k : ℕ). take (c.read.done + k) (drop c.args.at all.zeroth)) all_room);
      size = ap length c.in_ok-extend.ensures.ok ∙ omega (arith, length-append c.read.text (take c.in_ok-n.n (c.read_at.new.out ++ drop c.min-room.result c.read.buffer)), length-take c.in_ok-n.n (c.read_at.new.out ++ drop c.min-room.result c.read.buffer), length-append c.read_at.new.out (drop c.min-room.result c.read.buffer), fits, all_room, c.read.invariant.size);
      disk = only_reads 0 _ _ _ _ _ c.read.invariant.disk c.in_ok-n.ensures.disk c.in_ok-n.ensures.past;
      read = omega (arith, c.read.invariant.read, more, all_room);
      sure = search rules;
      room = search rules;
      line = search rules;
      time = search rules;
      later = search rules;
    }
