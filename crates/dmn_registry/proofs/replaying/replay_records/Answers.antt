use Rattle.std.proofs.Common.{rules, ℕ, [], ◌∷◌, ◌++◌, ◌∙◌, arith, refl, subst, sym}
use Rattle.dmn_journal.specs.Reads.{entry_of}
use Rattle.dmn_outside.proofs.Reading.{reads_then}
use Rattle.dmn_registry.specs.Machine.{at_rest, with_entry}
use Rattle.dmn_journal.specs.Reading.{IsRecord}
use Rattle.dmn_registry.proofs.Records.{next_stops, record_stops as replay_record_stops, replayed_all, replayed_more}
use Rattle.dmn_registry.proofs.Stopping.{field_stops, followed_more, followed_none, read_more, read_none, record_stops}
use Rattle.dmn_registry.proofs.replaying.replay_records.Goals as goal

pub replay-init : goal.replay-init
replay-init g c = record {
  usable = c.requires.usable;
  newest = refl;
  below = c.requires.place;
  so_far = λ k max r. (k, max, r);
  read_to = ([], read_none (g.D.Device.disk c.args.disk.now).told c.args.registry.journal.end, followed_none c.args.registry.branch);
  disk = record { told = refl; past = refl };
  read = omega arith;
  room = refl;
  sure = λ tells. record { room = refl; faults = refl };
  line = refl;
  time = omega arith;
  later = omega arith;
}

pub returns-in-Ok-None-clause-replays : goal.returns-in-Ok-None-clause-replays
returns-in-Ok-None-clause-replays g c = λ k max b.
    let r = c.replay.invariant.so_far k max b in
    let none = rw c.in-Ok-None.field-0-is at c.in-Ok-None.ensures.nexts in
    replayed_all c.replay.registry r.0 (g.D.Device.disk c.args.disk.now).told _ c.replay.invariant.disk.told r.2 none

pub returns-in-Err-clause-replays : goal.returns-in-Err-clause-replays
returns-in-Err-clause-replays g c = λ k max b.
    let r = c.replay.invariant.so_far k max b in
    next_stops c.replay.registry r.0 (g.D.Device.disk c.args.disk.now).told _ c.replay.invariant.disk.told r.2 c.in-Err.fault c.in-Err.ensures.nexts

pub returns-in-Err-take-clause-replays : goal.returns-in-Err-take-clause-replays
returns-in-Err-take-clause-replays g c = λ k max b.
    let r = c.replay.invariant.so_far k max b in
    let is = rw c.in-Ok-Some.field-0-is at c.in-Ok-Some.ensures.nexts in
    replay_record_stops c.replay.registry r.0 (g.D.Device.disk c.args.disk.now).told _ (entry_of c.in-Ok-Some.entry) c.in-Ok-Some.behind c.replay.invariant.disk.told r.2 is c.in-Err-take.fault _ (c.in-Err-take.ensures.takes (at_rest r.0) r.2.registry_stands r.1)

pub returns-in-Err-clause-stops : goal.returns-in-Err-clause-stops
returns-in-Err-clause-stops g c = λ start held max holds.
    let r = c.replay.invariant.read_to in
    field_stops start held c.args.registry.journal.end (g.D.Device.disk c.args.disk.now).told _ c.replay.invariant.disk.told r.0 c.replay.registry.journal.end r.1 c.in-Err.fault c.in-Err.ensures.nexts

pub returns-in-Err-take-clause-stops : goal.returns-in-Err-take-clause-stops
returns-in-Err-take-clause-stops g c = λ start held max holds.
    let r = c.replay.invariant.read_to in
    let is = rw c.in-Ok-Some.field-0-is at c.in-Ok-Some.ensures.nexts in
    record_stops start held c.args.registry.journal.end (g.D.Device.disk c.args.disk.now).told _ c.replay.invariant.disk.told r.0 c.replay.registry.journal.end r.1 c.args.registry.branch c.replay.registry.branch c.args.limit max holds r.2 (entry_of c.in-Ok-Some.entry) c.in-Ok-Some.behind is c.in-Err-take.fault c.in-Err-take.ensures.stops

pub replay-preserved : goal.replay-preserved
replay-preserved g c =
    let told = (g.D.Device.disk c.args.disk.now).told in
    let mid = (g.D.Device.disk c.replay.disk).told in
    let is = rw c.in-Ok-Some.field-0-is at c.in-Ok-Some.ensures.nexts in
    let read = rw c.in-Ok-Some.field-0-is at c.in-Ok-Some.ensures.read in
    record {
      usable = c.in-Ok.ensures.spent ∙ c.replay.invariant.usable;
      newest = c.in-Ok.ensures.newest ∙ c.replay.invariant.newest;
      below = omega (arith, c.in-Ok.ensures.end, c.in-Ok.ensures.below, c.requires.limit);
      so_far = λ k max b.
          let r = c.replay.invariant.so_far k max b in
          let taken = c.in-Ok.ensures.takes (at_rest r.0) r.2.registry_stands r.1 in
          (with_entry r.0 (entry_of c.in-Ok-Some.entry), r.1, replayed_more c.replay.registry r.0 told mid (entry_of c.in-Ok-Some.entry) c.in-Ok-Some.behind c.replay.invariant.disk.told r.2 is _ c.in-Ok.ensures.end taken.1);
      read_to =
          let r = c.replay.invariant.read_to in (
            r.0 ++ entry_of c.in-Ok-Some.entry ∷ [],
            read_more told mid c.args.registry.journal.end r.0 c.replay.registry.journal.end (entry_of c.in-Ok-Some.entry) _ c.replay.invariant.disk.told r.1 (subst (λ (n : ℕ). IsRecord mid c.replay.registry.journal.end (entry_of c.in-Ok-Some.entry) n) (sym c.in-Ok.ensures.end) is),
            followed_more c.args.registry.branch c.replay.registry.branch _ r.0 (entry_of c.in-Ok-Some.entry) r.2 (λ s stands. c.in-Ok.ensures.followed s stands),
          );
      disk = reads_then _ _ _ c.replay.invariant.disk c.next.ensures.disk;
      read = omega (arith, c.replay.invariant.read, read, is.place, c.in-Ok.ensures.end);
      room = search rules;
      sure = search rules;
      line = search rules;
      time = search rules;
      later = search rules;
    }
