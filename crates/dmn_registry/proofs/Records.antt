-- Records that are read and taken, one after another.
use Rattle.std.proofs.Common.{◌≡◌, inr, ℕ, ◌+◌, ◌≤◌, ◌==◌, Bool, true, false, List, [], ◌∷◌, ◌++◌, length, drop, refl, sym, ap, subst, ◌∙◌, arith, append_assoc, if◌then◌else◌}
use Rattle.std.specs.Prelude.{Some, Ok, Err, Result}
use Rattle.std.proofs.lemmas.List.{append-nil}
use Rattle.dmn_branch.specs.Stands as branches
use Rattle.dmn_bytes.specs.Law.{place_of}
use Rattle.dmn_bytes.specs.declared.fault.Departure.{Departure}
use Rattle.dmn_journal.specs.Journal.{AreShort, Entry, IsShort, blocks, entry_text, header_text, size_of_record}
use Rattle.dmn_journal.specs.Reading.{Found, IsHeader, IsRecord, closed, departs, found, found_at}
use Rattle.dmn_journal.specs.Reads.{Nexts}
use Rattle.dmn_journal.specs.declared.fault.JournalFault.{JournalFault}
use Rattle.dmn_journal.specs.declared.fault.JournalFault.TheVariants.{DiskFault, Memory, NotJournal}
use Rattle.dmn_journal.proofs.Append.{blocks_push}
use Rattle.dmn_journal.proofs.Found.{closed_gate, record_found}
use Rattle.dmn_outside.specs.Changes.{unread}
use Rattle.dmn_outside.specs.Disk.{Told, IfReads}
use Rattle.dmn_outside.proofs.Reading.{reads_back, reads_both, reads_map}
use Rattle.dmn_registry.specs.Departs.{BeginsWith, DepartsAt, stop_at, stop_by}
use Rattle.dmn_registry.specs.Machine.{Machine, at_rest, begun, command_of, journal_max, verdict, with_entry}
use Rattle.dmn_registry.specs.Opening.{IsRefused, Replayed, Replays, TakesRecord}
use Rattle.dmn_registry.specs.Own.{IsJournal, StandsFor}
use Rattle.dmn_registry.specs.declared.registry.Registry.{Registry}
use Rattle.dmn_registry.proofs.Keeping.{text_long}
use Rattle.dmn_registry.proofs.Verdicts.{is_denied, is_formless, is_too_long}
use Rattle.dmn_branch.specs.Machine.{Command}
use Rattle.dmn_registry.specs.Machine.{state_of, Verdict}
use Rattle.dmn_rows.specs.declared.start.StartRecord.{StartRecord}

-- ---- the limit

max_by : (small : Bool) → (if small then Rattle.dmn_rows.specs.Profile.small_profile else Rattle.dmn_rows.specs.Profile.main_profile).journal_max ≤ 1099511627776
max_by true = omega arith
max_by false = omega arith

pub max_small : (start : StartRecord) → journal_max start ≤ 1099511627776
max_small start = max_by (start.profile == 1)

-- ---- a record that is not taken

pub stops_formless : (m : Machine) (entry : Entry) (departure : Departure) (at place : ℕ) → command_of entry ≡ Err departure → place_of departure ≡ place → stop_by at (verdict m entry) ≡ Some (at + 6 + place)
stops_formless m entry departure at place is there = ap (λ (v : Verdict). stop_by at v) (is_formless m entry departure is) ∙ ap (λ (n : ℕ). Some (at + 6 + n)) there

pub stops_long : (registry : Registry) (m : Machine) (entry : Entry) (command : Command) (behind limit : ℕ) → StandsFor registry m → IsShort entry → behind ≡ registry.journal.end + size_of_record entry → limit ≤ behind → limit ≡ journal_max m.start → command_of entry ≡ Ok command
    → stop_by registry.journal.end (verdict m entry) ≡ Some registry.journal.end
stops_long registry m entry command behind limit stands short place long max is =
    ap (λ (v : Verdict). stop_by registry.journal.end v) (is_too_long m entry command is (omega (arith, place, long, max, text_long m entry registry.journal.end short stands.end)))

pub stops_refused : (m : Machine) (entry : Entry) (command : Command) (at : ℕ) → command_of entry ≡ Ok command → IsRefused (state_of m) command → stop_by at (verdict m entry) ≡ Some at
stops_refused m entry command at is refused = ap (λ (v : Verdict). stop_by at v) (is_denied m entry command is refused)

-- ---- the first record

pub begun_replayed : (registry : Registry) (start : StartRecord) (told : Told) → branches.StandsFor registry.branch (state_of (begun start)) → registry.journal.records ≡ 0 → registry.spent ≡ false → IsHeader told start registry.journal.end → Replayed registry (begun start) told
begun_replayed registry start told branch none usable header = record {
  registry_stands = record {
    usable = usable;
    branch = branch;
    end = header.place ∙ ap length (sym (append-nil (header_text start)));
    records = none;
    start = header.is_start;
    replayed = record { replay = refl };
  };
  short = tt;
  text = reads_map told _ _ header.text (λ all is. is ∙ ap (λ (l : List ℕ). l ++ drop registry.journal.end all.zeroth) (sym (append-nil (header_text start))));
}

-- behind the header that was read
pub begun_there : (registry : Registry) (start : StartRecord) (first : ℕ) (old mid : Told) → unread mid ≡ unread old → IsHeader old start first → branches.StandsFor registry.branch (state_of (begun start)) → registry.journal.end ≡ first → registry.journal.records ≡ 0 → registry.spent ≡ false → Replayed registry (begun start) mid
begun_there registry start first old mid same header branch end none usable = begun_replayed registry start mid branch none usable (record {
  is_start = header.is_start;
  place = end ∙ header.place;
  text = subst (λ (k : ℕ). IfReads mid (λ all. all.zeroth ≡ header_text start ++ drop k all.zeroth)) (sym end) (reads_back mid old _ (sym same) header.text);
})

-- ---- one more

block_more : (header : List ℕ) (commands : List Entry) (entry : Entry) (rest : List ℕ) → (header ++ blocks commands) ++ 1 ∷ (entry_text entry ++ rest) ≡ (header ++ blocks (commands ++ entry ∷ [])) ++ rest
block_more header commands entry rest =
    sym (append_assoc (header ++ blocks commands) (1 ∷ entry_text entry) rest)
    ∙ ap (λ (l : List ℕ). l ++ rest) (append_assoc header (blocks commands) (1 ∷ entry_text entry) ∙ ap (λ (l : List ℕ). header ++ l) (sym (blocks_push commands entry)))

pub short_push : (commands : List Entry) (entry : Entry) → AreShort commands → IsShort entry → AreShort (commands ++ entry ∷ [])
short_push [] entry all fits = (fits, tt)
short_push (e ∷ commands) entry all fits = (all.0, short_push commands entry all.1 fits)

module _ (old : Registry) (m : Machine) (told mid : Told) (entry : Entry) (behind : ℕ) (same : unread mid ≡ unread told) (r : Replayed old m told) (record_is : IsRecord mid old.journal.end entry behind) where
  pub replayed_more : (new : Registry) → new.journal.end ≡ behind → StandsFor new (with_entry (at_rest m) entry) → Replayed new (with_entry m entry) told
  replayed_more new end stands = record {
    registry_stands = stands;
    short = short_push m.commands entry r.short record_is.short;
    text = reads_both told _ _ _ r.text (reads_back told mid _ same record_is.text) (λ all is more.
        is ∙ ap (λ (l : List ℕ). (header_text m.start ++ blocks m.commands) ++ l) more ∙ block_more (header_text m.start) m.commands entry (drop behind all.zeroth)
        ∙ ap (λ (k : ℕ). (header_text m.start ++ blocks (m.commands ++ entry ∷ [])) ++ drop k all.zeroth) (sym end));
  }

  begins : IfReads told (λ all. BeginsWith all.zeroth (at_rest m) old.journal.end)
  begins = reads_map told _ _ r.text (λ all is. record { start = r.registry_stands.start; replayed = r.registry_stands.replayed; place = r.registry_stands.end; short = r.short; text = is })

  -- where the record is not taken the file departs
  pub replay_stops : (place : ℕ) → stop_by old.journal.end (verdict (at_rest m) entry) ≡ Some place → IfReads told (λ all. DepartsAt all.zeroth place)
  replay_stops place stops = reads_both told _ _ _ begins (reads_back told mid _ same record_is.text) (λ all b text.
      let there : found_at old.journal.end (drop old.journal.end all.zeroth) ≡ found entry = record_found old.journal.end (drop old.journal.end all.zeroth) (drop behind all.zeroth) entry record_is.form record_is.short text in
      inr (at_rest m, old.journal.end, b, ap (λ (f : Found). stop_at (at_rest m) old.journal.end f) there ∙ stops))

  pub record_stops : (fault : JournalFault) (new : Registry) → TakesRecord (Err fault) (at_rest m) entry old.journal.end new → Replays (Err fault) told
  record_stops (NotJournal place) new stops = replay_stops place stops
  record_stops DiskFault new stops = tt
  record_stops Memory new stops = tt

-- ---- the end

module _ (registry : Registry) (m : Machine) (told mid : Told) (same : unread mid ≡ unread told) (r : Replayed registry m told) where
  pub replayed_all : IfReads mid (λ all. found_at registry.journal.end (drop registry.journal.end all.zeroth) ≡ closed) → Replays (Ok registry) told
  replayed_all none = (
    m,
    r.registry_stands,
    reads_both told _ _ (λ all. IsJournal (at_rest m) all.zeroth) r.text (reads_back told mid _ same none) (λ all is shut.
        let gate = closed_gate registry.journal.end (drop registry.journal.end all.zeroth) shut in
        record { start = r.registry_stands.start; replayed = r.registry_stands.replayed; journal = record { gate = gate.gate; rest = gate.rest; shut = gate.shut; short = r.short; is = is ∙ ap (λ (l : List ℕ). (header_text m.start ++ blocks m.commands) ++ l) gate.is } }),
  )

  pub form_stops : (place : ℕ) → IfReads mid (λ all. found_at registry.journal.end (drop registry.journal.end all.zeroth) ≡ departs place) → IfReads told (λ all. DepartsAt all.zeroth place)
  form_stops place is = reads_both told _ _ _ r.text (reads_back told mid _ same is) (λ all text stops.
      inr (at_rest m, registry.journal.end, record { start = r.registry_stands.start; replayed = r.registry_stands.replayed; place = r.registry_stands.end; short = r.short; text = text }, ap (λ (f : Found). stop_at (at_rest m) registry.journal.end f) stops))

  pub next_stops : (fault : JournalFault) → Nexts (Err fault) mid registry.journal.end → Replays (Err fault) told
  next_stops (NotJournal place) nexts = form_stops place nexts
  next_stops DiskFault nexts = tt
  next_stops Memory nexts = tt

-- ---- behind a header

pub replays_back : (r : Result Registry JournalFault) (old mid : Told) → unread mid ≡ unread old → Replays r mid → Replays r old
replays_back (Ok registry) old mid same (m, stands, image) = (m, stands, reads_back old mid (λ all. IsJournal (at_rest m) all.zeroth) same image)
replays_back (Err (NotJournal place)) old mid same at = reads_back old mid (λ all. DepartsAt all.zeroth place) same at
replays_back (Err DiskFault) old mid same at = tt
replays_back (Err Memory) old mid same at = tt
