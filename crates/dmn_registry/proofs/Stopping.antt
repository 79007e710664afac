-- Where a replay stops, whatever the slots hold.
use Rattle.std.proofs.Common.{◌≡◌, inl, inr, ℕ, ◌+◌, ◌<◌, List, [], ◌∷◌, ◌++◌, length, drop, refl, sym, ap, subst, ◌∙◌, arith, append_assoc, length-append}
use Rattle.std.specs.Prelude.{IfSome, Ok, Err, Option, Result}
use Rattle.std.specs.Int.{w32, to_le_bytes}
use Rattle.dmn_branch.specs.Machine as blocks
use Rattle.dmn_branch.specs.Machine.{Command, MachineState}
use Rattle.dmn_branch.specs.Pins.{no_pins}
use Rattle.dmn_branch.specs.Stands as branches
use Rattle.dmn_branch.specs.Stands.{Keeping}
use Rattle.dmn_bytes.specs.Law.{place_of}
use Rattle.dmn_bytes.specs.declared.fault.Departure.{Departure}
use Rattle.dmn_held.specs.declared.data.SnapshotData.{SnapshotData}
use Rattle.dmn_journal.specs.Journal.{AreShort, Entry, blocks as records, entry_text, size_of_record}
use Rattle.dmn_journal.specs.Reading.{Found, IsHeader, IsRecord, departs, found, found_at}
use Rattle.dmn_journal.specs.Reads.{Heads, Nexts}
use Rattle.dmn_journal.specs.declared.fault.JournalFault.{JournalFault}
use Rattle.dmn_journal.specs.declared.fault.JournalFault.TheVariants.{DiskFault, Memory, NotJournal}
use Rattle.dmn_journal.proofs.Append.{blocks_push}
use Rattle.dmn_journal.proofs.Found.{record_found}
use Rattle.dmn_outside.specs.Changes.{unread}
use Rattle.dmn_outside.specs.Disk.{IfReads, Three, Told}
use Rattle.dmn_outside.proofs.Reading.{reads_back, reads_both, reads_map}
use Rattle.dmn_registry.specs.Machine.{Machine, command_of, journal_max}
use Rattle.dmn_registry.specs.Opening.{Begins, FromHeader, FromSlot, HoldsNone, IsAllowed, IsRefused, Replayed, Replays, reads_of}
use Rattle.dmn_registry.specs.Untrue.{Followed, HasCauseIn, IsTakenOn, OpeningStops, ReplayStops, StandsForHeld, StopsAt, StopsBehind, StopsByBody, StopsTake, TakeStops, behind_slot, header, without_slot}
use Rattle.dmn_registry.specs.declared.registry.Registry.{Registry}
use Rattle.dmn_registry.proofs.Beginning.{from_header}
use Rattle.dmn_registry.proofs.Once.{reads_same}
use Rattle.dmn_registry.proofs.Records.{short_push}
use Rattle.dmn_registry.proofs.Resting.{reads_all}
use Rattle.dmn_rows.specs.declared.start.StartRecord.{StartRecord}
use Rattle.dmn_snapshot.specs.Slot.{newest_in}
use Rattle.dmn_snapshot.specs.declared.slot.Slot.{Slot}

-- ---- machines that are taken on

command_or : Command → Result Command Departure → Command
command_or d (Ok command) = command
command_or d (Err departure) = d

-- by the same records it is one machine
taken_once : (s : MachineState) (es : List Entry) (t u : MachineState) → IsTakenOn s es t → IsTakenOn s es u → t ≡ u
unfolding command_or
taken_once s [] t u one two = one ∙ sym two
taken_once s (e ∷ es) t u one two =
    let same : one.0 ≡ two.0 = ap (command_or one.0) (sym one.1 ∙ two.1) in
    taken_once (blocks.with_command s two.0) es t u (subst (λ (c : Command). IsTakenOn (blocks.with_command s c) es t) same one.3) two.3

taken_more : (s : MachineState) (es : List Entry) (t : MachineState) (entry : Entry) (command : Command) → IsTakenOn s es t → command_of entry ≡ Ok command → IsAllowed t command → IsTakenOn s (es ++ entry ∷ []) (blocks.with_command t command)
taken_more s [] t entry command one is allowed = (command, is, subst (λ (k : MachineState). IsAllowed k command) one allowed, ap (λ (k : MachineState). blocks.with_command k command) one)
taken_more s (e ∷ es) t entry command one is allowed = (one.0, one.1, one.2, taken_more (blocks.with_command s one.0) es t entry command one.3 is allowed)

-- ---- the records that were read so far

pub record ReadSoFar (told : Told) (from : ℕ) (entries : List Entry) (end : ℕ) : Type 0 where
  pub short : AreShort entries
  pub place : end ≡ from + length (records entries)
  pub text : IfReads told (λ all. drop from all.zeroth ≡ records entries ++ drop end all.zeroth)

pub read_none : (told : Told) (from : ℕ) → ReadSoFar told from [] from
read_none told from = record { short = tt; place = omega arith; text = reads_all told (λ all. drop from all.zeroth ≡ [] ++ drop from all.zeroth) (λ all. refl) }

entry_long : (entry : Entry) → length (entry_text entry) + 1 ≡ size_of_record entry
entry_long entry = omega (arith, length-append (to_le_bytes w32 (length entry.body + 1)) (entry.kind ∷ entry.body))

pub read_more : (told mid : Told) (from : ℕ) (entries : List Entry) (end : ℕ) (entry : Entry) (behind : ℕ) → unread mid ≡ unread told → ReadSoFar told from entries end → IsRecord mid end entry behind → ReadSoFar told from (entries ++ entry ∷ []) behind
read_more told mid from entries end entry behind same r is = record {
  short = short_push entries entry r.short is.short;
  place = omega (arith, r.place, is.place, ap length (blocks_push entries entry), length-append (records entries) (1 ∷ entry_text entry), entry_long entry);
  text = reads_both told _ _ _ r.text (reads_back told mid _ same is.text) (λ all here more.
      here ∙ ap (λ (l : List ℕ). records entries ++ l) more ∙ sym (append_assoc (records entries) (1 ∷ entry_text entry) (drop behind all.zeroth)) ∙ ap (λ (l : List ℕ). l ++ drop behind all.zeroth) (sym (blocks_push entries entry)));
}

pub followed_none : (branch : Keeping) → Followed branch [] branch
followed_none branch s stands = (s, refl, stands)

pub followed_more : (old mid new : Keeping) (entries : List Entry) (entry : Entry) → Followed old entries mid → ((s : MachineState) → branches.StandsFor mid s → (command : Command) × (command_of entry ≡ Ok command) × IsAllowed s command × branches.StandsFor new (blocks.with_command s command)) → Followed old (entries ++ entry ∷ []) new
followed_more old mid new entries entry one next s stands =
    let f = one s stands in
    let n = next f.0 f.2 in
    (blocks.with_command f.0 n.0, taken_more s entries f.0 entry n.0 f.1 n.1 n.2, n.3)

-- ---- where it stops

module _ (start : StartRecord) (held : SnapshotData) (from : ℕ) (told mid : Told) (same : unread mid ≡ unread told) (entries : List Entry) (end : ℕ) (r : ReadSoFar told from entries end) where
  behind : (all : Three (List ℕ)) (place : ℕ) (f : Found) → drop from all.zeroth ≡ records entries ++ drop end all.zeroth → found_at end (drop end all.zeroth) ≡ f → StopsAt start held entries end f place → StopsBehind all.zeroth start from held place
  behind all place f text is stops = record {
    entries = entries;
    at = end;
    records = record { short = r.short; place = r.place; text = text };
    stops = subst (λ (g : Found). StopsAt start held entries end g place) (sym is) stops;
  }

  pub field_stops : (fault : JournalFault) → Nexts (Err fault) mid end → ReplayStops (Err fault) start held from told
  field_stops (NotJournal place) nexts = reads_both told _ _ _ r.text (reads_back told mid _ same nexts) (λ all text is. behind all place (departs place) text is refl)
  field_stops DiskFault nexts = tt
  field_stops Memory nexts = tt

  module _ (begun branch : Keeping) (limit : ℕ) (max : limit ≡ journal_max start) (holds : StandsForHeld begun start held) (followed : Followed begun entries branch) (entry : Entry) (behind_it : ℕ) (record_is : IsRecord mid end entry behind_it) where
    by_body : (body : Result Command Departure) (place : ℕ) → StopsTake entry end limit place branch body → StopsByBody start held entries end entry body place
    by_body (Err departure) place stops = stops
    by_body (Ok command) place stops = (
      stops.0,
      elim stops.1 [
        | inl long ↦ inl (subst (λ (n : ℕ). n < end + 1 + size_of_record entry) max long)
        | inr refuses ↦ inr (λ s t starts lawful is taken.
            let f = followed (record s { pins = no_pins }) (holds s starts lawful is) in
            subst (λ (k : MachineState). IsRefused k command) (taken_once (record s { pins = no_pins }) entries f.0 t f.1 taken) (refuses f.0 f.2))
      ],
    )

    pub record_stops : (fault : JournalFault) → TakeStops (Err fault) entry end limit branch → ReplayStops (Err fault) start held from told
    record_stops (NotJournal place) stops = reads_both told _ _ _ r.text (reads_back told mid _ same record_is.text) (λ all text is.
        behind all place (found entry) text (record_found end (drop end all.zeroth) (drop behind_it all.zeroth) entry record_is.form record_is.short is) (by_body (command_of entry) place stops))
    record_stops DiskFault stops = tt
    record_stops Memory stops = tt

-- ---- a record that is not taken

pub formless_take : (entry : Entry) (departure : Departure) (at limit place : ℕ) (branch : Keeping) → command_of entry ≡ Err departure → place_of departure ≡ place → TakeStops (Err (NotJournal (at + 6 + place))) entry at limit branch
formless_take entry departure at limit place branch is there = subst (λ (r : Result Command Departure). StopsTake entry at limit (at + 6 + place) branch r) (sym is) (ap (λ (n : ℕ). at + 6 + n) (sym there))

pub long_take : (entry : Entry) (command : Command) (at limit : ℕ) (branch : Keeping) → command_of entry ≡ Ok command → limit < at + 1 + size_of_record entry → TakeStops (Err (NotJournal at)) entry at limit branch
long_take entry command at limit branch is long = subst (λ (r : Result Command Departure). StopsTake entry at limit at branch r) (sym is) (refl, inl long)

pub refused_take : (entry : Entry) (command : Command) (at limit : ℕ) (branch : Keeping) → command_of entry ≡ Ok command → ((s : MachineState) → branches.StandsFor branch s → IsRefused s command) → TakeStops (Err (NotJournal at)) entry at limit branch
refused_take entry command at limit branch is refuses = subst (λ (r : Result Command Departure). StopsTake entry at limit at branch r) (sym is) (refl, inr refuses)

-- ---- opening

pub heads_stop : (fault : JournalFault) (old one : Told) → reads_of one ≡ reads_of old → Heads (Err fault) one → HasCauseIn (Err fault) old
heads_stop (NotJournal place) old one same heads = reads_same old one (λ all. OpeningStops all place) same (reads_map one _ _ heads (λ all departs. header departs))
heads_stop DiskFault old one same heads = tt
heads_stop Memory old one same heads = tt

module _ (start : StartRecord) (first limit : ℕ) (slot : Option Slot) (begun : Registry) (old three : Told) (same : reads_of three ≡ reads_of old) (is_header : IsHeader three start first) (newest : IfReads three (λ all. slot ≡ newest_in all)) (b : Begins start first slot begun) (max : limit ≡ journal_max start) where
  from_the_header : FromHeader start first slot begun → (r : Result Registry JournalFault) → ((k : Machine) → limit ≡ journal_max k.start → Replayed begun k three → Replays r three) → HasCauseIn r old
  from_the_header f (Ok registry) replays = tt
  from_the_header f (Err (NotJournal place)) replays =
      let k = from_header start first slot begun three is_header b f in
      reads_same old three (λ all. OpeningStops all place) same
      (reads_both three _ _ _ newest (replays k.machine (max ∙ ap journal_max (sym k.start_is)) k.replayed) (λ all is departs. without_slot start (subst (λ (o : Option Slot). IfSome o (λ slot. HoldsNone start slot.stored)) is f.unfit) departs))
  from_the_header f (Err DiskFault) replays = tt
  from_the_header f (Err Memory) replays = tt

  from_a_slot : (f : FromSlot start slot begun) (r : Result Registry JournalFault) → ReplayStops r start f.from.stored.held begun.journal.end three → HasCauseIn r old
  from_a_slot f (Ok registry) stops = tt
  from_a_slot f (Err (NotJournal place)) stops =
      reads_same old three (λ all. OpeningStops all place) same
      (reads_both three _ _ _ newest stops (λ all is behind. behind_slot start f.from (sym is ∙ f.is) (subst (λ (n : ℕ). StopsBehind all.zeroth start n f.from.stored.held place) f.end behind)))
  from_a_slot f (Err DiskFault) stops = tt
  from_a_slot f (Err Memory) stops = tt

  pub replay_stops : (r : Result Registry JournalFault) → ((k : Machine) → limit ≡ journal_max k.start → Replayed begun k three → Replays r three)
      → ((start : StartRecord) (held : SnapshotData) → limit ≡ journal_max start → StandsForHeld begun.branch start held → ReplayStops r start held begun.journal.end three) → HasCauseIn r old
  replay_stops r replays stops = elim b.at [
    | inl f ↦ from_the_header f r replays
    | inr f ↦ from_a_slot f r (stops start f.from.stored.held max f.branch)
  ]
