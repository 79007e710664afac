-- Where replay begins: at the newest slot's place, with the machine that it holds, or behind the header.
use Rattle.std.proofs.Common.{◌≡◌, inl, inr, ℕ, ◌+◌, ◌≤◌, List, [], ◌∷◌, ◌++◌, length, drop, refl, sym, ap, subst, ◌∙◌, arith, append_assoc}
use Rattle.std.specs.Prelude.{Option, None, Some, IfOk, IfSome, IsErrOf, Result, Ok, Err}
use Rattle.std.proofs.lemmas.List.{drop_at}
use Rattle.dmn_journal.specs.Journal.{AreShort, Entry, blocks, entry_text, header_text}
use Rattle.dmn_journal.specs.Reading.{IsHeader}
use Rattle.dmn_journal.specs.Reads.{Heads}
use Rattle.dmn_journal.specs.declared.fault.JournalFault.{JournalFault}
use Rattle.dmn_journal.specs.declared.fault.JournalFault.TheVariants.{DiskFault, Memory, NotJournal}
use Rattle.dmn_outside.specs.Changes.{unread}
use Rattle.dmn_outside.specs.Crashes.{IsKnown}
use Rattle.dmn_outside.specs.Disk.{IfReads, Three, Told, all_reads, contents, nothing, whole}
use Rattle.dmn_outside.proofs.Reading.{reads_back, reads_map}
use Rattle.dmn_registry.specs.Departs.{DepartsAt}
use Rattle.dmn_registry.specs.Faithful.{IsFaithful, longest_tail, machine_of}
use Rattle.dmn_registry.specs.Machine.{Machine, at_rest, begun, journal_max, state_of}
use Rattle.dmn_registry.specs.Opening.{Begins, FromHeader, FromSlot, HasTrueSlot, HoldsNone, IsQuiet, IsTrueOf, Opens, Reading, Replayed, Replays, first_place, reads_of}
use Rattle.dmn_registry.specs.Own.{IsJournal, IsOwn}
use Rattle.dmn_registry.specs.declared.registry.Registry.{Registry}
use Rattle.dmn_registry.proofs.Nearing.{near_replayed}
use Rattle.dmn_registry.proofs.Once.{opened, reads_same, start_once}
use Rattle.dmn_registry.proofs.Records.{begun_replayed}
use Rattle.dmn_registry.proofs.Syncing.{quiet_unread}
use Rattle.dmn_rows.specs.declared.start.StartRecord.{StartRecord}
use Rattle.dmn_slots.specs.Slots.{IsWithin, mark_in, newest_mark, slots_in}
use Rattle.dmn_slots.specs.declared.mark.Mark.{Mark}
use Rattle.dmn_slots.proofs.Keeping.{if_some, newest_has}
use Rattle.dmn_snapshot.specs.Slot.{newest_in}
use Rattle.dmn_snapshot.specs.declared.slot.Slot.{Slot}
use Rattle.dmn_snapshot.specs.declared.slot.Stored.{Stored}

-- ---- what reads give stays

abbrev some_or : Three (List ℕ) → Option (Three (List ℕ)) → Three (List ℕ)
some_or d None = d
some_or d (Some c) = c

pub reading_goes : (P : Three (List ℕ) → Type 0) (a b : Told) → reads_of b ≡ reads_of a → Reading P a → Reading P b
reading_goes P nothing b same p = absurd p
reading_goes P (contents c) nothing same p = let wrong : ⊥ = cc in absurd wrong
reading_goes P (contents c) (contents d) same p = let e : d ≡ c = ap (some_or c) same in subst P (sym e) p
reading_goes P (contents c) (whole v) same p = let e : all_reads v.files ≡ c = ap (some_or c) same in subst P (sym e) p
reading_goes P (whole w) nothing same p = let wrong : ⊥ = cc in absurd wrong
reading_goes P (whole w) (contents d) same p = let e : d ≡ all_reads w.files = ap (some_or d) same in subst P (sym e) p
reading_goes P (whole w) (whole v) same p = let e : all_reads v.files ≡ all_reads w.files = ap (some_or (all_reads v.files)) same in subst P (sym e) p

pub reads_unread : (a b : Told) → unread b ≡ unread a → reads_of b ≡ reads_of a
reads_unread a b same = sym (by b) ∙ ap reads_of same ∙ by a
  where
    by : (d : Told) → reads_of (unread d) ≡ reads_of d
    by nothing = refl
    by (contents c) = refl
    by (whole w) = refl

reading_map : (P Q : Three (List ℕ) → Type 0) (told : Told) → ((all : Three (List ℕ)) → P all → Q all) → Reading P told → Reading Q told
reading_map P Q nothing f p = p
reading_map P Q (contents c) f p = f c p
reading_map P Q (whole w) f p = f (all_reads w.files) p

pub known_reading : (P : Three (List ℕ) → Type 0) (told : Told) → IsKnown P told → Reading P told
known_reading P nothing known = known
known_reading P (contents c) known = known
known_reading P (whole w) known = known.0

-- ---- a slot of an own image is true of its journal

blocks_append : (es more : List Entry) → blocks (es ++ more) ≡ blocks es ++ blocks more
blocks_append [] more = refl
blocks_append (e ∷ es) more = ap (λ (l : List ℕ). 1 ∷ (entry_text e ++ l)) (blocks_append es more) ∙ ap (λ (l : List ℕ). 1 ∷ l) (sym (append_assoc (entry_text e) (blocks es) (blocks more)))

shorts_front : (es more : List Entry) → AreShort (es ++ more) → AreShort es
shorts_front [] more s = tt
shorts_front (e ∷ es) more s = (s.0, shorts_front es more s.1)

true_of : (m : Machine) (file : List ℕ) (stored : Stored) → IsJournal m file → IsFaithful m stored → IsTrueOf file stored
true_of m file stored own f =
    let k = machine_of m.start f.before in
    let journal = own.journal in
    let rest : List ℕ = blocks f.behind ++ journal.gate ∷ journal.rest in
    let text : file ≡ (header_text m.start ++ blocks f.before) ++ rest =
    journal.is ∙ (λ i. (header_text m.start ++ blocks (f.commands i)) ++ journal.gate ∷ journal.rest)
    ∙ ap (λ (l : List ℕ). (header_text m.start ++ l) ++ journal.gate ∷ journal.rest) (blocks_append f.before f.behind)
    ∙ ap (λ (l : List ℕ). l ++ journal.gate ∷ journal.rest) (sym (append_assoc (header_text m.start) (blocks f.before) (blocks f.behind)))
    ∙ append_assoc (header_text m.start ++ blocks f.before) (blocks f.behind) (journal.gate ∷ journal.rest) in
    let behind : drop stored.position file ≡ rest = ap (λ (l : List ℕ). drop stored.position l) text ∙ drop_at (header_text m.start ++ blocks f.before) rest stored.position (sym f.place) in
    record {
      machine = k;
      begins = record {
        start = own.start;
        replayed = f.replayed;
        place = f.place;
        short = shorts_front f.before f.behind (subst AreShort f.commands journal.short);
        text = text ∙ ap (λ (l : List ℕ). (header_text m.start ++ blocks f.before) ++ l) (sym behind);
      };
      records = f.records;
      holds = f.holds;
    }

pub own_true : (m : Machine) (image : Three (List ℕ)) → IsOwn m image → HasTrueSlot image
own_true m image own =
    if_some (λ (slot : Slot). IsFaithful m slot.stored) (λ (slot : Slot). IsTrueOf image.zeroth slot.stored) (newest_in image) (λ slot f. true_of m image.zeroth slot.stored own.file f)
    (newest_has (IsFaithful m) (length m.commands) (longest_tail m) (slots_in image) own.slots)

pub known_true : (m : Machine) (told : Told) → IsKnown (IsOwn m) told → Reading HasTrueSlot told
known_true m told known = reading_map (IsOwn m) HasTrueSlot told (own_true m) (known_reading (IsOwn m) told known)

-- a header that was read is still there
pub header_at : (start : StartRecord) (first : ℕ) (one three : Told) → unread three ≡ unread one → IsHeader one start first → IsHeader three start first
header_at start first one three same header = record { is_start = header.is_start; place = header.place; text = reads_back three one _ (sym same) header.text }

-- ---- the machine from which replay begins

-- the registry stands for a machine of this start record, with the records that were read so far
pub record Begun (start : StartRecord) (r : Registry) (told : Told) : Type 0 where
  pub machine : Machine
  pub start_is : machine.start ≡ start
  pub replayed : Replayed r machine told

module _ (start : StartRecord) (first : ℕ) (slot : Option Slot) (r : Registry) (told : Told) (header : IsHeader told start first) (b : Begins start first slot r) where
  pub from_header : FromHeader start first slot r → Begun start r told
  from_header f = record {
    machine = begun start;
    start_is = refl;
    replayed = begun_replayed r start told f.branch f.records b.usable (record {
      is_start = header.is_start;
      place = f.end ∙ header.place;
      text = subst (λ (k : ℕ). IfReads told (λ all. all.zeroth ≡ header_text start ++ drop k all.zeroth)) (sym f.end) header.text;
    });
  }

  start_of : (all : Three (List ℕ)) (stored : Stored) → all.zeroth ≡ header_text start ++ drop first all.zeroth → (t : IsTrueOf all.zeroth stored) → start ≡ t.machine.start
  start_of all stored head t = start_once start t.machine.start (drop first all.zeroth) (blocks t.machine.commands ++ drop stored.position all.zeroth) header.is_start t.begins.start
      (sym head ∙ t.begins.text ∙ append_assoc (header_text t.machine.start) (blocks t.machine.commands) (drop stored.position all.zeroth))

  true_slot : (all : Three (List ℕ)) (from : Slot) → slot ≡ newest_in all → slot ≡ Some from → HasTrueSlot all → IsTrueOf all.zeroth from.stored
  true_slot all from is some true_slots = subst (λ (o : Option Slot). IfSome o (λ slot. IsTrueOf all.zeroth slot.stored)) (sym is ∙ some) true_slots

  from_slot : (all : Three (List ℕ)) → HasTrueSlot all → ((P : Three (List ℕ) → Type 0) → P all → IfReads told P) → slot ≡ newest_in all → all.zeroth ≡ header_text start ++ drop first all.zeroth → FromSlot start slot r → Begun start r told
  from_slot all true_slots give is head f =
      let stored = f.from.stored in
      let t = true_slot all f.from is f.is true_slots in
      let k = t.machine in
      let starts : start ≡ k.start = start_of all stored head t in
      record {
        machine = k;
        start_is = sym starts;
        replayed = record {
          registry_stands = record {
            usable = b.usable;
            branch = f.branch (state_of (at_rest k)) (sym starts) (near_replayed (at_rest k) t.begins.replayed).lawful t.holds;
            end = f.end ∙ t.begins.place;
            records = f.records ∙ t.records;
            start = t.begins.start;
            replayed = t.begins.replayed;
          };
          short = t.begins.short;
          text = give (λ c. c.zeroth ≡ (header_text k.start ++ blocks k.commands) ++ drop r.journal.end c.zeroth) (t.begins.text ∙ ap (λ (n : ℕ). (header_text k.start ++ blocks k.commands) ++ drop n all.zeroth) (sym f.end));
        };
      }

  begin_at : (all : Three (List ℕ)) → HasTrueSlot all → ((P : Three (List ℕ) → Type 0) → P all → IfReads told P) → slot ≡ newest_in all → all.zeroth ≡ header_text start ++ drop first all.zeroth → Begun start r told
  begin_at all true_slots give is head = elim b.at [
    | inl f ↦ from_header f
    | inr f ↦ from_slot all true_slots give is head f
  ]

  -- on a true slot replay begins at its place
  place_at : (m : Machine) (all : Three (List ℕ)) → IsOwn m all → slot ≡ newest_in all → all.zeroth ≡ header_text start ++ drop first all.zeroth → (newest : Option Mark) → newest ≡ mark_in slot → (first ≡ length (header_text m.start)) × (r.journal.end ≡ first_place (length (header_text m.start)) newest)
  place_at m all own is head newest marks =
      let starts : start ≡ m.start = start_once start m.start (drop first all.zeroth) (blocks m.commands ++ own.file.journal.gate ∷ own.file.journal.rest) header.is_start own.file.start
      (sym head ∙ own.file.journal.is ∙ append_assoc (header_text m.start) (blocks m.commands) (own.file.journal.gate ∷ own.file.journal.rest)) in
      let long : first ≡ length (header_text m.start) = header.place ∙ ap (λ (s : StartRecord). length (header_text s)) starts in (
        long,
        (elim b.at [
          | inl f ↦ by_header f long slot refl f.unfit
          | inr f ↦ f.end ∙ ap (λ (o : Option Slot). first_place (length (header_text m.start)) (mark_in o)) (sym f.is)
        ]) ∙ ap (first_place (length (header_text m.start))) (sym marks),
      )
    where
      by_header : FromHeader start first slot r → first ≡ length (header_text m.start) → (o : Option Slot) → slot ≡ o → IfSome o (λ slot. HoldsNone start slot.stored) → r.journal.end ≡ first_place (length (header_text m.start)) (mark_in slot)
      by_header f long None none unfit = f.end ∙ long ∙ ap (λ (p : Option Slot). first_place (length (header_text m.start)) (mark_in p)) (sym none)
      by_header f long (Some from) some unfit =
          let t = true_slot all from is some (own_true m all own) in
          absurd (unfit (state_of (at_rest t.machine)) (sym (start_of all from.stored head t)) (near_replayed (at_rest t.machine) t.begins.replayed).lawful t.holds)

pub begins : (start : StartRecord) (first : ℕ) (slot : Option Slot) (r : Registry) (told : Told) → IsHeader told start first → Begins start first slot r → IfReads told (λ all. slot ≡ newest_in all) → Reading HasTrueSlot told → Begun start r told
begins start first slot r nothing header b newest true_slots = absurd true_slots
begins start first slot r (contents c) header b newest true_slots = begin_at start first slot r (contents c) header b c true_slots (λ P p. p) newest header.text
begins start first slot r (whole w) header b newest true_slots = begin_at start first slot r (whole w) header b (all_reads w.files) true_slots (λ P p. p) newest header.text

pub begins_at : (m : Machine) (start : StartRecord) (first : ℕ) (slot : Option Slot) (r : Registry) (told : Told) → IsHeader told start first → Begins start first slot r → IfReads told (λ all. slot ≡ newest_in all) → Reading (IsOwn m) told → (newest : Option Mark) → newest ≡ mark_in slot
    → (first ≡ length (header_text m.start)) × (r.journal.end ≡ first_place (length (header_text m.start)) newest)
begins_at m start first slot r nothing header b newest own = absurd own
begins_at m start first slot r (contents c) header b newest own = place_at start first slot r (contents c) header b m c own newest header.text
begins_at m start first slot r (whole w) header b newest own = place_at start first slot r (whole w) header b m (all_reads w.files) own newest header.text

-- ---- opening, from the syncs on

pub heads_opens : (fault : JournalFault) (old one new : Told) → reads_of one ≡ reads_of old → Heads (Err fault) one → Opens (Err fault) old new
heads_opens (NotJournal place) old one new same heads = reads_same old one (λ all. DepartsAt all.zeroth place) same (reads_map one _ _ heads (λ all departs. inl departs))
heads_opens DiskFault old one new same heads = tt
heads_opens Memory old one new same heads = tt

-- one: behind the syncs; two: behind the header; three: behind the slots
module _ (start : StartRecord) (first : ℕ) (slot : Option Slot) (begun : Registry) (old one two three new : Told) (same : reads_of one ≡ reads_of old) (still : IsQuiet one) (e : unread two ≡ unread one) (f : unread three ≡ unread two)
    (header : IsHeader one start first) (newest : IfReads two (λ all. slot ≡ newest_in all)) (b : Begins start first slot begun) where
  header_there : IsHeader three start first
  header_there = record { is_start = header.is_start; place = header.place; text = reads_back three one _ (sym (f ∙ e)) header.text }

  newest_there : IfReads three (λ all. slot ≡ newest_in all)
  newest_there = reads_back three two _ (sym f) newest

  reads_there : reads_of three ≡ reads_of old
  reads_there = reads_unread one three (f ∙ e) ∙ same

  pub opens_all : (r : Result Registry JournalFault) (limit : ℕ) → limit ≡ journal_max start → unread new ≡ unread three → IfOk r (λ registry. registry.newest ≡ begun.newest) → ((k : Machine) → limit ≡ journal_max k.start → Replayed begun k three → Replays r three) → Reading HasTrueSlot old → Opens r old new
  opens_all r limit max g stays replays true_slots =
      let k = begins start first slot begun three header_there b newest_there (reading_goes HasTrueSlot old three reads_there true_slots) in
      opened r old three new (quiet_unread one three (f ∙ e) still) reads_there g (marked r stays) (replays k.machine (max ∙ ap journal_max (sym k.start_is)) k.replayed)
    where
      marked : (r : Result Registry JournalFault) → IfOk r (λ registry. registry.newest ≡ begun.newest) → IfOk r (λ registry. IfSome registry.newest IsWithin × IfReads three (λ all. registry.newest ≡ newest_mark (slots_in all)))
      marked (Ok registry) stays = (subst (λ (o : Option Mark). IfSome o IsWithin) (sym stays) b.within, reads_map three _ _ newest_there (λ all is. stays ∙ b.newest ∙ ap mark_in is))
      marked (Err fault) stays = tt

  pub opens_at : (m : Machine) → Reading (IsOwn m) old → (newest : Option Mark) → newest ≡ begun.newest → (first ≡ length (header_text m.start)) × (begun.journal.end ≡ first_place (length (header_text m.start)) newest)
  opens_at m own newest stays = begins_at m start first slot begun three header_there b newest_there (reading_goes (IsOwn m) old three reads_there own) newest (stays ∙ b.newest)

pub lacks_opens : (fault : JournalFault) (old new : Told) → ((place : ℕ) → ¬ IsErrOf {T = Option Slot} (Err fault) (NotJournal place)) → Opens (Err fault) old new
lacks_opens (NotJournal place) old new never = absurd (never place refl)
lacks_opens DiskFault old new never = tt
lacks_opens Memory old new never = tt

-- how many bytes of file 0 are read, by the parts of an opening
pub bytes_all : (r : Result Registry JournalFault) (begun : Registry) (head first zeroth one two three new : ℕ) → one ≡ zeroth → two ≤ one + first → three ≡ two → IfOk r (λ x. new + begun.journal.end ≤ three + x.journal.end + 1) → IfOk r (λ x. x.newest ≡ begun.newest)
    → ((newest : Option Mark) → newest ≡ begun.newest → (first ≡ head) × (begun.journal.end ≡ first_place head newest)) → IfOk r (λ x. new + first_place head x.newest ≤ zeroth + head + (x.journal.end + 1))
bytes_all (Ok x) begun head first zeroth one two three new a b c read stays at = let p = at x.newest stays in omega (arith, a, b, c, read, p.0, p.1)
bytes_all (Err fault) begun head first zeroth one two three new a b c read stays at = tt
