-- A snapshot that is written keeps each image own.
use Rattle.std.proofs.Common.{◌≡◌, ◌⊎◌, inl, inr, ℕ, zero, suc, ◌==◌, if◌then◌else◌, ◌+◌, ◌-◌, ◌<◌, ◌≤◌, List, [], length, refl, sym, ap, subst, ◌∙◌, arith}
use Rattle.std.specs.Prelude.{nat_le, Bool, true, false, Option, None, Some, IfSome}
use Rattle.std.proofs.lemmas.Bool.{le-leb, lt-leb}
use Rattle.std.proofs.lemmas.List.{append-nil}
use Rattle.dmn_branch.specs.Machine.{history, top}
use Rattle.dmn_branch.specs.Stands as branches
use Rattle.dmn_held.specs.declared.data.SnapshotData.{SnapshotData}
use Rattle.dmn_journal.specs.declared.journal.Journal.{Journal}
use Rattle.dmn_outside.specs.Changes.{but, unread}
use Rattle.dmn_outside.specs.Crashes.{LeavesOnly, Rests}
use Rattle.dmn_outside.specs.Disk.{AreOver, DiskView, IfReads, Three, Told, contents, nothing, whole}
use Rattle.dmn_outside.proofs.Crash.{started, widened}
use Rattle.dmn_registry.specs.Faithful.{IsFaithful, every, longest_tail, machine_of}
use Rattle.dmn_registry.specs.Machine.{Machine, state_of}
use Rattle.dmn_registry.specs.Own.{IsJournal, IsOwn, StandsFor, StandsOn}
use Rattle.dmn_registry.specs.Snapshots.{moved}
use Rattle.dmn_registry.specs.declared.registry.Registry.{Registry}
use Rattle.dmn_registry.proofs.Nearing.{commands_long, replayed_fits}
use Rattle.dmn_registry.proofs.Resting.{Slotted, rests_images}
use Rattle.dmn_rows.specs.declared.start.StartRecord.{StartRecord}
use Rattle.dmn_rows.specs.Profile.{main_profile, small_profile}
use Rattle.dmn_slots.specs.Slots.{IsBehind, IsWithin, Slots, mark_in, newest_mark, newest_of, next_mark, next_sequence, records_of, sequence_of, slots_in, spare, with_spare}
use Rattle.dmn_slots.specs.declared.mark.Mark.{Mark}
use Rattle.dmn_slots.proofs.Images.{IsWith, Writes, before, once_written, while_written, with_it, without}
use Rattle.dmn_slots.proofs.Keeping.{kept_with, kept_without}
use Rattle.dmn_slots.proofs.Newest.{next_bounds, next_is_newest, spare_is}
use Rattle.dmn_snapshot.specs.Slot.{KeepsBounds, slot_in}
use Rattle.dmn_snapshot.specs.Steps.{Has, IsStill, Writing}
use Rattle.dmn_snapshot.specs.declared.slot.Stored.{Stored}
use Rattle.dmn_branch.specs.Holds.{Holds}

-- ---- what is held says nothing of pins

pub holds_rest : (held : SnapshotData) (m : Machine) → Holds held (state_of m) → Holds held (state_of (machine_of m.start m.commands))
unfolding history top
holds_rest held m holds = record { form = holds.form; top = holds.top; low = holds.low; states = holds.states; proper = holds.proper; hashes = holds.hashes; active = holds.active; below = holds.below; reach = holds.reach }

-- ---- no call of the disk

pub idle_own : (t : ℕ) (d : DiskView) (m : Machine) → AreOver t d.past → Rests (IsOwn m) d.told → LeavesOnly t d d (IsOwn m)
idle_own t d m over rests = started t d (IsOwn m) over (λ image now. rests_images m d.told image rests now)

pub rests_still : (file : ℕ) (m : Machine) (told : Told) → Rests (IsOwn m) told → IsStill file told
rests_still file m nothing rests = tt
rests_still file m (contents c) rests = tt
rests_still zero m (whole w) rests = (tt, rests.1.zeroth)
rests_still (suc zero) m (whole w) rests = (tt, rests.1.first)
rests_still (suc (suc n)) m (whole w) rests = (tt, rests.1.second)

every_some : (small : Bool) → 1 ≤ (if small then small_profile else main_profile).every
every_some true = omega arith
every_some false = omega arith

pub some_due : (start : StartRecord) → 1 ≤ every start
some_due start = every_some (start.profile == 1)

-- a registry of which nothing changed that a machine is stood for by
pub stands_same : (r r' : Registry) (m : Machine) → StandsFor r m → r'.branch ≡ r.branch → r'.journal ≡ r.journal → r'.spent ≡ r.spent → StandsFor r' m
stands_same r r' m stands branch journal spent = record {
  usable = spent ∙ stands.usable;
  branch = subst (λ (b : branches.Keeping). branches.StandsFor b (state_of m)) (sym branch) stands.branch;
  end = ap (λ (j : Journal). j.end) journal ∙ stands.end;
  records = ap (λ (j : Journal). j.records) journal ∙ stands.records;
  start = stands.start;
  replayed = stands.replayed;
}

-- ---- whether one is written

pub moved_not : (m : Machine) (r : Registry) → r.journal.records - records_of r.newest < every m.start → records_of r.newest ≡ moved m r
moved_not m r few = let less : nat_le (every m.start) (r.journal.records - records_of r.newest) ≡ false = lt-leb (every m.start) (r.journal.records - records_of r.newest) few in rw less refl

pub moved_due : (m : Machine) (r : Registry) → every m.start ≤ r.journal.records - records_of r.newest → r.journal.records ≡ moved m r
moved_due m r many = let as_many : nat_le (every m.start) (r.journal.records - records_of r.newest) ≡ true = le-leb (every m.start) (r.journal.records - records_of r.newest) many in rw as_many refl

-- ---- what is written next

abbrev pub stored_of : Mark → SnapshotData → Stored
stored_of mark held = record { sequence = mark.sequence; position = mark.position; records = mark.records; held = held }

-- the image that the registry's newest mark is of
abbrev OwnMarked : Registry → Machine → Three (List ℕ) → Type 0
OwnMarked r m image = IsOwn m image × (r.newest ≡ newest_mark (slots_in image))

rests_both : (P Q : Three (List ℕ) → Type 0) (told : Told) → Rests P told → IfReads told Q → Rests (λ c. P c × Q c) told
rests_both P Q nothing p q = tt
rests_both P Q (contents c) p q = (p, q)
rests_both P Q (whole w) p q = ((p.0, q), p.1)

rests_first : (P Q : Three (List ℕ) → Type 0) (told : Told) → Rests (λ c. P c × Q c) told → Rests P told
rests_first P Q nothing b = tt
rests_first P Q (contents c) b = b.0
rests_first P Q (whole w) b = (b.0.0, b.1)

rests_second : (P Q : Three (List ℕ) → Type 0) (told : Told) → Rests (λ c. P c × Q c) told → IfReads told Q
rests_second P Q nothing b = tt
rests_second P Q (contents c) b = b.1
rests_second P Q (whole w) b = b.0.1

module _ (r : Registry) (m : Machine) (held : SnapshotData) (n : Mark) (stands : StandsFor r m) (within : IfSome r.newest IsWithin) (holds : Holds held (state_of m)) (is : n ≡ next_mark r.newest r.journal.end r.journal.records) (due : every m.start ≤ r.journal.records - records_of r.newest) where
  abbrev Next : Stored
  Next = stored_of n held

  number_is : n.number ≡ spare r.newest
  number_is = ap (λ (k : Mark). k.number) is

  sequence_is : n.sequence ≡ next_sequence r.newest
  sequence_is = ap (λ (k : Mark). k.sequence) is

  position_is : n.position ≡ r.journal.end
  position_is = ap (λ (k : Mark). k.position) is

  records_is : n.records ≡ r.journal.records
  records_is = ap (λ (k : Mark). k.records) is

  more : records_of r.newest < r.journal.records
  more = omega (arith, due, some_due m.start)

  sequence_next : (newest : Option Mark) → IfSome newest IsWithin → records_of newest < r.journal.records → next_sequence newest ≡ sequence_of newest + 1
  sequence_next None w few = refl
  sequence_next (Some mark) w few = omega (arith, w.most, few, stands.records, stands.end, commands_long m, replayed_fits m stands.start stands.replayed)

  pub is_behind : IsBehind r.newest Next
  is_behind = record { sequence = sequence_is ∙ sequence_next r.newest within more; records = omega (arith, more, records_is) }

  pub next_within : KeepsBounds n.sequence n.position n.records
  next_within = next_bounds r.newest Next within is_behind (omega (arith, records_is, position_is, stands.records, stands.end, commands_long m)) (omega (arith, position_is, stands.end, replayed_fits m stands.start stands.replayed))

  faithful : IsFaithful m Next
  faithful = record {
    before = m.commands;
    behind = [];
    commands = sym (append-nil m.commands);
    replayed = record { replay = stands.replayed.replay };
    records = records_is ∙ stands.records;
    place = position_is ∙ stands.end;
    holds = holds_rest held m holds;
  }

  all_records : length m.commands ≤ n.records + longest_tail m
  all_records = omega (arith, records_is, stands.records)

  behind_in : (c : Three (List ℕ)) → r.newest ≡ newest_mark (slots_in c) → IsBehind (newest_mark (slots_in c)) Next
  behind_in c marks = subst (λ (o : Option Mark). IsBehind o Next) marks is_behind

  spare_in : (c : Three (List ℕ)) → r.newest ≡ newest_mark (slots_in c) → n.number ≡ spare (newest_mark (slots_in c))
  spare_in c marks = number_is ∙ ap spare marks

  slotted_with : (c d : Three (List ℕ)) → OwnMarked r m c → IsWith n.number (Some Next) c d → Slotted m (slots_in d)
  slotted_with c d own w =
      let s : slots_in d ≡ with_spare (Some Next) (slots_in c) = w.slots ∙ ap (λ (k : ℕ). Rattle.dmn_slots.specs.Slots.with_slot k (Some Next) (slots_in c)) (spare_in c own.1) in
      subst (Slotted m) (sym s) (kept_with (IsFaithful m) (length m.commands) (longest_tail m) (slots_in c) Next faithful (behind_in c own.1) all_records own.0.slots)

  journal_with : (c d : Three (List ℕ)) → OwnMarked r m c → d.zeroth ≡ c.zeroth → IsJournal m d.zeroth
  journal_with c d own zeroth = subst (IsJournal m) (sym zeroth) own.0.file

  -- at each moment
  own_while : (c d : Three (List ℕ)) → Writes n.number Next c d → OwnMarked r m c → IsOwn m d
  own_while c d (without w) own =
      let s : slots_in d ≡ with_spare None (slots_in c) = w.slots ∙ ap (λ (k : ℕ). Rattle.dmn_slots.specs.Slots.with_slot k None (slots_in c)) (spare_in c own.1) in
      record { file = journal_with c d own w.zeroth; slots = subst (Slotted m) (sym s) (kept_without (IsFaithful m) (length m.commands) (longest_tail m) (slots_in c) own.0.slots) }
  own_while c d (before zeroth same) own = record { file = journal_with c d own zeroth; slots = subst (Slotted m) (sym same) own.0.slots }
  own_while c d (with_it w) own = record { file = journal_with c d own w.zeroth; slots = slotted_with c d own w }

  -- once it is written
  marked_after : (c d : Three (List ℕ)) → IsWith n.number (Some Next) c d → OwnMarked r m c → IsOwn m d × (Some n ≡ newest_mark (slots_in d))
  marked_after c d w own =
      let s : slots_in d ≡ with_spare (Some Next) (slots_in c) = w.slots ∙ ap (λ (k : ℕ). Rattle.dmn_slots.specs.Slots.with_slot k (Some Next) (slots_in c)) (spare_in c own.1) in
      let newest : newest_of (slots_in d) ≡ Some (record { number = spare (newest_mark (slots_in c)); stored = Next }) = ap newest_of s ∙ next_is_newest (slots_in c) Next (behind_in c own.1) in
      let mark : newest_mark (slots_in d) ≡ Some (record { number = spare (newest_mark (slots_in c)); sequence = n.sequence; position = n.position; records = n.records }) = ap mark_in newest in (
        record { file = journal_with c d own w.zeroth; slots = slotted_with c d own w },
        sym (mark ∙ (λ i. Some (record { number = sym (spare_in c own.1) i; sequence = n.sequence; position = n.position; records = n.records }))),
      )

  which_number : (n.number ≡ 1) ⊎ (n.number ≡ 2)
  which_number = elim (spare_is r.newest) [
    | inl one ↦ inl (number_is ∙ one)
    | inr other ↦ inr (number_is ∙ other)
  ]

  pub snap_run : (t : ℕ) (old new : DiskView) → Rests (IsOwn m) old.told → IfReads old.told (λ all. r.newest ≡ newest_mark (slots_in all)) → LeavesOnly t old new (Writing n.number Next old.told) → LeavesOnly t old new (IsOwn m)
  snap_run t old new rests marks run =
      widened t old new _ _ run (λ image writing. while_written Next (OwnMarked r m) (IsOwn m) n.number old.told image which_number own_while (rests_both (IsOwn m) (λ all. r.newest ≡ newest_mark (slots_in all)) old.told rests marks) writing)

  pub snap_stands : (r' : Registry) (old new : Told) → Rests (IsOwn m) old → IfReads old (λ all. r.newest ≡ newest_mark (slots_in all)) → but n.number (unread new) ≡ but n.number (unread old) → Has n.number (λ file. slot_in file ≡ Some Next) new
      → StandsFor r' m → r'.newest ≡ Some n → StandsOn r' m new
  snap_stands r' old new rests marks same has stands' newest =
      let both = once_written Next (OwnMarked r m) (λ d. IsOwn m d × (Some n ≡ newest_mark (slots_in d))) n.number old new which_number marked_after (rests_both (IsOwn m) (λ all. r.newest ≡ newest_mark (slots_in all)) old rests marks) same has in
      record {
        registry_stands = stands';
        disk = rests_first (IsOwn m) (λ d. Some n ≡ newest_mark (slots_in d)) new both;
        within = subst (λ (o : Option Mark). IfSome o IsWithin) (sym newest) next_within;
        newest = subst (λ (o : Option Mark). IfReads new (λ all. o ≡ newest_mark (slots_in all))) (sym newest) (rests_second (IsOwn m) (λ d. Some n ≡ newest_mark (slots_in d)) new both);
      }
