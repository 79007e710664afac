-- A file is the journal image of one machine, and departs nowhere.
use Rattle.std.proofs.Common.{◌≡◌, ◌≢◌, inl, inr, ℕ, ◌+◌, ◌<◌, ◌^◌, List, [], ◌∷◌, ◌++◌, length, take, drop, refl, sym, ap, subst, ◌∙◌, arith, append_assoc, nat_lt, false}
use Rattle.std.specs.Prelude.{Option, Some, None, Result, Ok, Err}
use Rattle.std.specs.Int.{w32, to_le_bytes}
use Rattle.std.proofs.lemmas.Bool.{le-ltb}
use Rattle.std.proofs.lemmas.List.{append_cancel_left, take_at}
use Rattle.std.proofs.lemmas.Nat.{from_le_bytes-to_le_bytes_4}
use Rattle.dmn_branch.specs.Pins.{no_pins}
use Rattle.dmn_bytes.specs.Sound.{ok_is, whole_again}
use Rattle.dmn_journal.specs.Journal.{AreShort, Entry, HasCommands, blocks, entry_text, header_text, magic}
use Rattle.dmn_journal.specs.Reading.{Found, found, found_at, header_departs, later, place_in, start_at, start_departs}
use Rattle.dmn_journal.specs.declared.fault.JournalFault.{JournalFault}
use Rattle.dmn_journal.specs.declared.fault.JournalFault.TheVariants.{DiskFault, Memory, NotJournal}
use Rattle.dmn_journal.proofs.Found.{other_closed, record_found}
use Rattle.dmn_journal.proofs.Unique.{commands_once, entry_once}
use Rattle.dmn_outside.specs.Crashes.{IsKnown, Rests}
use Rattle.dmn_outside.specs.Disk.{IfReads, Three, Told, all_reads, contents, nothing, whole as all_told}
use Rattle.dmn_registry.specs.Departs.{DepartsAt, stop_at, stop_by}
use Rattle.dmn_registry.specs.Machine.{Accepts, Machine, Reaches, Verdict, at_rest, begun, denied, formless, taken, verdict}
use Rattle.dmn_registry.specs.Opening.{Opens, Recovers, Replays, IsQuiet, reads_of}
use Rattle.dmn_registry.specs.Own.{IsJournal, IsOwn, StandsFor}
use Rattle.dmn_registry.specs.declared.registry.Registry.{Registry}
use Rattle.dmn_registry.proofs.Apart.{rests_apart, stop_apart}
use Rattle.dmn_registry.proofs.Lengths.{start_long}
use Rattle.dmn_registry.proofs.Syncing.{quiet_unread, rests_of}
use Rattle.dmn_outside.specs.Changes.{unread}
use Rattle.dmn_outside.proofs.Reading.{reads_back}
use Rattle.dmn_slots.specs.Slots.{IsWithin, newest_mark, slots_in}
use Rattle.std.specs.Prelude.{IfOk, IfSome}
use Rattle.dmn_rows.specs.Defs.{IsStart, start_text}
use Rattle.dmn_rows.specs.Start.{start_record, start_record_sound}
use Rattle.dmn_rows.specs.declared.start.StartRecord.{StartRecord}

-- ---- one start record

-- what stands before a start record in a header
abbrev front_of : StartRecord → List ℕ
front_of start = 1 ∷ (magic ++ to_le_bytes w32 (length (start_text start)))

-- two headers that one text begins with are those of one start record
pub start_once : (s t : StartRecord) (x y : List ℕ) → IsStart s → IsStart t → header_text s ++ x ≡ header_text t ++ y → s ≡ t
start_once s t x y one two is =
    let texts : start_text s ++ x ≡ start_text t ++ y = ap (λ (l : List ℕ). drop 12 l) is in
    let first : start_record.parse (start_text s ++ x) 0 ≡ Ok (s, 0 + length (start_text s)) = start_record_sound.again (start_text s ++ x) 0 s x one refl in
    let second : start_record.parse (start_text s ++ x) 0 ≡ Ok (t, 0 + length (start_text t)) = start_record_sound.again (start_text s ++ x) 0 t y two texts in
    ap (λ (p : StartRecord × ℕ). p.0) (ok_is (s, 0 + length (start_text s)) (t, 0 + length (start_text t)) (sym first ∙ second))

start_whole : (start : StartRecord) → IsStart start → start_departs (start_text start) ≡ None
start_whole start is = ap place_in (whole_again start_record start_record_sound start is)

-- a header departs nowhere
pub header_whole : (start : StartRecord) (x : List ℕ) → IsStart start → header_departs (header_text start ++ x) ≡ None
unfolding header_departs
header_whole start x is =
    let text : List ℕ = start_text start in
    let fits : length text < 2 ^ 32 = omega (arith, start_long start is) in
    let inner : take (length text) (text ++ x) ≡ text = take_at text x (length text) refl in
    let long : nat_lt (length text) (length text) ≡ false = le-ltb (length text) (length text) (omega arith) in
    ap (λ (n : ℕ). start_at n (text ++ x)) (from_le_bytes-to_le_bytes_4 (length text) fits)
    ∙ ap (λ (l : List ℕ). Rattle.std.specs.Prelude.if◌then◌else◌ {A = Option ℕ} (nat_lt (length l) (length text)) (Some 12) (later 12 (start_departs l))) inner
    ∙ rw long (ap (λ (o : Option ℕ). later 12 o) (start_whole start is))

-- ---- one machine

machine_or : Machine → Verdict → Machine
machine_or m (taken n) = n
machine_or m denied = m
machine_or m (formless place) = m

pub accepts_once : (m : Machine) (entry : Entry) (n o : Machine) → Accepts m entry n → Accepts m entry o → n ≡ o
unfolding machine_or
accepts_once m entry n o one two = let e : taken n ≡ taken o = sym one.is ∙ two.is in ap (machine_or m) e

pub reaches_once : (m : Machine) (entries : List Entry) (n o : Machine) → Reaches m entries n → Reaches m entries o → n ≡ o
reaches_once m [] n o one two = one ∙ sym two
reaches_once m (entry ∷ entries) n o one two =
    let same : one.0 ≡ two.0 = accepts_once m entry one.0 two.0 one.1 two.1 in
    reaches_once two.0 entries n o (subst (λ (k : Machine). Reaches k entries n) same one.2) two.2

pub journal_once : (m n : Machine) (file : List ℕ) → IsJournal m file → IsJournal n file → at_rest m ≡ at_rest n
journal_once m n file one two =
    let texts : (header_text m.start ++ blocks m.commands) ++ one.journal.gate ∷ one.journal.rest ≡ (header_text n.start ++ blocks n.commands) ++ two.journal.gate ∷ two.journal.rest = sym one.journal.is ∙ two.journal.is in
    let start : m.start ≡ n.start = start_once m.start n.start _ _ one.start two.start (sym (append_assoc (header_text m.start) (blocks m.commands) (one.journal.gate ∷ one.journal.rest)) ∙ texts ∙ append_assoc (header_text n.start) (blocks n.commands) (two.journal.gate ∷ two.journal.rest)) in
    let commands : m.commands ≡ n.commands = commands_once (header_text n.start) m.commands n.commands file (subst (λ (s : StartRecord). HasCommands (header_text s) m.commands file) start one.journal) two.journal in
    λ i. record { start = start i; commands = commands i; pins = no_pins }

-- ---- no place departs

-- what stands behind commands that both begin with
pub record Behind (es ds : List Entry) (gate : ℕ) (text rest : List ℕ) : Type 0 where
  pub more : List Entry
  pub is : ds ≡ es ++ more
  pub text_is : text ≡ blocks more ++ gate ∷ rest

behind : (es ds : List Entry) (gate : ℕ) (text rest : List ℕ) → AreShort es → AreShort ds → gate ≢ 1 → blocks es ++ text ≡ blocks ds ++ gate ∷ rest → Behind es ds gate text rest
behind [] ds gate text rest s s' shut is = record { more = ds; is = refl; text_is = is }
behind (e ∷ es) [] gate text rest s s' shut is = let one : gate ≡ 1 = cc in absurd (shut one)
behind (e ∷ es) (d ∷ ds) gate text rest s s' shut is =
    let tails : (entry_text e ++ blocks es) ++ text ≡ (entry_text d ++ blocks ds) ++ gate ∷ rest = ap (λ (l : List ℕ). drop 1 l) is in
    let one = entry_once e d (blocks es ++ text) (blocks ds ++ gate ∷ rest) s.0 s'.0 (sym (append_assoc (entry_text e) (blocks es) text) ∙ tails ∙ append_assoc (entry_text d) (blocks ds) (gate ∷ rest)) in
    let b = behind es ds gate text rest s.1 s'.1 shut one.rest in
    record { more = b.more; is = λ i. sym one.same i ∷ b.is i; text_is = b.text_is }

pub record Split (m : Machine) (es more : List Entry) (n : Machine) : Type 0 where
  pub mid : Machine
  pub first : Reaches m es mid
  pub second : Reaches mid more n

pub reaches_split : (m : Machine) (es more : List Entry) (n : Machine) → Reaches m (es ++ more) n → Split m es more n
reaches_split m [] more n r = record { mid = m; first = refl; second = r }
reaches_split m (e ∷ es) more n r = let s = reaches_split r.0 es more n r.2 in record { mid = s.mid; first = (r.0, r.1, s.first); second = s.second }

shorts : (es more : List Entry) → AreShort (es ++ more) → AreShort more
shorts [] more s = s
shorts (e ∷ es) more s = shorts es more s.1

stops_nowhere : (file : List ℕ) (k m : Machine) (at place gate : ℕ) (rest : List ℕ) (more : List Entry) → AreShort more → Reaches k more m → gate ≢ 1 → drop at file ≡ blocks more ++ gate ∷ rest → stop_at k at (found_at at (drop at file)) ≡ Some place → ⊥
stops_nowhere file k m at place gate rest [] s r shut text stops =
    let wrong : None ≡ Some place = sym (ap (λ (f : Found). stop_at k at f) (other_closed at (drop at file) rest gate text shut)) ∙ stops in cc
stops_nowhere file k m at place gate rest (e ∷ es) s r shut text stops =
    let there : found_at at (drop at file) ≡ found e = record_found at (drop at file) (blocks es ++ gate ∷ rest) e r.1.form s.0 (text ∙ ap (λ (l : List ℕ). 1 ∷ l) (append_assoc (entry_text e) (blocks es) (gate ∷ rest))) in
    let goes : stop_by at (verdict k e) ≡ None = ap (λ (v : Verdict). stop_by at v) r.1.is in
    let wrong : None ≡ Some place = sym goes ∙ sym (ap (λ (f : Found). stop_at k at f) there) ∙ stops in cc

pub journal_departs_nowhere : (m : Machine) (file : List ℕ) (place : ℕ) → IsJournal m file → DepartsAt file place → ⊥
journal_departs_nowhere m file place own (inl header) =
    let is : file ≡ header_text m.start ++ (blocks m.commands ++ own.journal.gate ∷ own.journal.rest) = own.journal.is ∙ append_assoc (header_text m.start) (blocks m.commands) (own.journal.gate ∷ own.journal.rest) in
    let good : header_departs file ≡ None = ap header_departs is ∙ header_whole m.start (blocks m.commands ++ own.journal.gate ∷ own.journal.rest) own.start in
    let wrong : None ≡ Some place = sym good ∙ header in cc
journal_departs_nowhere m file place own (inr (k, at, b, stops)) =
    let texts : (header_text k.start ++ blocks k.commands) ++ drop at file ≡ (header_text m.start ++ blocks m.commands) ++ own.journal.gate ∷ own.journal.rest = sym b.text ∙ own.journal.is in
    let cut : header_text k.start ++ (blocks k.commands ++ drop at file) ≡ header_text m.start ++ (blocks m.commands ++ own.journal.gate ∷ own.journal.rest) = sym (append_assoc (header_text k.start) (blocks k.commands) (drop at file)) ∙ texts ∙ append_assoc (header_text m.start) (blocks m.commands) (own.journal.gate ∷ own.journal.rest) in
    let start : k.start ≡ m.start = start_once k.start m.start _ _ b.start own.start cut in
    let cut' : header_text m.start ++ (blocks k.commands ++ drop at file) ≡ header_text m.start ++ (blocks m.commands ++ own.journal.gate ∷ own.journal.rest) = subst (λ (s : StartRecord). header_text s ++ (blocks k.commands ++ drop at file) ≡ header_text m.start ++ (blocks m.commands ++ own.journal.gate ∷ own.journal.rest)) start cut in
    let behind_header : blocks k.commands ++ drop at file ≡ blocks m.commands ++ own.journal.gate ∷ own.journal.rest = append_cancel_left (header_text m.start) (blocks k.commands ++ drop at file) (blocks m.commands ++ own.journal.gate ∷ own.journal.rest) cut' in
    let back = behind k.commands m.commands own.journal.gate (drop at file) own.journal.rest b.short own.journal.short own.journal.shut behind_header in
    let replay : Reaches (begun m.start) (k.commands ++ back.more) (at_rest m) = subst (λ (es : List Entry). Reaches (begun m.start) es (at_rest m)) back.is own.replayed.replay in
    let s = reaches_split (begun m.start) k.commands back.more (at_rest m) replay in
    let same : s.mid ≡ at_rest k = reaches_once (begun m.start) k.commands s.mid (at_rest k) s.first (subst (λ (t : StartRecord). Reaches (begun t) k.commands (at_rest k)) start b.replayed.replay) in
    stops_nowhere file (at_rest k) (at_rest m) at place own.journal.gate own.journal.rest back.more (shorts k.commands back.more (subst AreShort back.is own.journal.short)) (subst (λ (x : Machine). Reaches x back.more (at_rest m)) same s.second) own.journal.shut back.text_is
    (stop_apart k no_pins at (found_at at (drop at file)) ∙ stops)

-- ---- what opening answers

abbrev some_or : Three (List ℕ) → Option (Three (List ℕ)) → Three (List ℕ)
some_or d None = d
some_or d (Some c) = c

-- what reads give is the same
pub reads_same : (a b : Told) (P : Three (List ℕ) → Type 0) → reads_of b ≡ reads_of a → IfReads b P → IfReads a P
reads_same nothing b P same p = tt
reads_same (contents c) nothing P same p = let wrong : ⊥ = cc in absurd wrong
reads_same (contents c) (contents d) P same p = let e : d ≡ c = ap (some_or c) same in subst P e p
reads_same (contents c) (all_told v) P same p = let e : all_reads v.files ≡ c = ap (some_or c) same in subst P e p
reads_same (all_told w) nothing P same p = let wrong : ⊥ = cc in absurd wrong
reads_same (all_told w) (contents d) P same p = let e : d ≡ all_reads w.files = ap (some_or d) same in subst P e p
reads_same (all_told w) (all_told v) P same p = let e : all_reads v.files ≡ all_reads w.files = ap (some_or (all_reads w.files)) same in subst P e p

-- replay behind three syncs
pub opened : (r : Result Registry JournalFault) (old mid new : Told) → IsQuiet mid → reads_of mid ≡ reads_of old → unread new ≡ unread mid → IfOk r (λ registry. IfSome registry.newest IsWithin × IfReads mid (λ all. registry.newest ≡ newest_mark (slots_in all))) → Replays r mid → Opens r old new
opened (Ok registry) old mid new still same reads marked replays =
    let P : Three (List ℕ) → Type 0 = λ image. IsJournal (at_rest replays.0) image.zeroth in (
      replays.0,
      record {
        registry_stands = replays.1;
        disk = rests_of P new (quiet_unread mid new reads still) (reads_back new mid P (sym reads) replays.2);
        within = marked.0;
        newest = reads_back new mid (λ all. registry.newest ≡ newest_mark (slots_in all)) (sym reads) marked.1;
      },
    )
opened (Err (NotJournal place)) old mid new still same reads marked replays = reads_same old mid (λ all. DepartsAt all.zeroth place) same replays
opened (Err DiskFault) old mid new still same reads marked replays = tt
opened (Err Memory) old mid new still same reads marked replays = tt

record Known (m n : Machine) (new : Told) : Type 0 where
  same : at_rest m ≡ at_rest n
  rests : Rests (IsOwn m) new

known_rests : (m n : Machine) (old new : Told) → reads_of new ≡ reads_of old → IsKnown (IsOwn m) old → Rests (λ image. IsJournal n image.zeroth) new → Known m n new
known_rests m n nothing new same known rests = absurd known
known_rests m n (contents c) nothing same known rests = let wrong : ⊥ = cc in absurd wrong
known_rests m n (contents c) (contents d) same known rests = let e : d ≡ c = ap (some_or c) same in let own = subst (IsOwn m) (sym e) known in record { same = journal_once m n d.zeroth own.file rests; rests = own }
known_rests m n (contents c) (all_told v) same known rests = let e : all_reads v.files ≡ c = ap (some_or c) same in let own = subst (IsOwn m) (sym e) known in record { same = journal_once m n v.files.zeroth.reads own.file rests.0; rests = (own, rests.1) }
known_rests m n (all_told w) nothing same known rests = let wrong : ⊥ = cc in absurd wrong
known_rests m n (all_told w) (contents d) same known rests = let e : d ≡ all_reads w.files = ap (some_or d) same in let own = subst (IsOwn m) (sym e) known.0 in record { same = journal_once m n d.zeroth own.file rests; rests = own }
known_rests m n (all_told w) (all_told v) same known rests = let e : all_reads v.files ≡ all_reads w.files = ap (some_or (all_reads w.files)) same in let own = subst (IsOwn m) (sym e) known.0 in record { same = journal_once m n v.files.zeroth.reads own.file rests.0; rests = (own, rests.1) }

pub known_departs : (m : Machine) (told : Told) (place : ℕ) → IsKnown (IsOwn m) told → IfReads told (λ all. DepartsAt all.zeroth place) → ⊥
known_departs m nothing place known departs_at = known
known_departs m (contents c) place known departs_at = journal_departs_nowhere m c.zeroth place known.file departs_at
known_departs m (all_told w) place known departs_at = journal_departs_nowhere m w.files.zeroth.reads place known.0.file departs_at

pub recovers : (r : Result Registry JournalFault) (m : Machine) (old new : Told) → reads_of new ≡ reads_of old → IsKnown (IsOwn m) old → Opens r old new → Recovers r m new
recovers (Ok registry) m old new same known opens =
    let k = known_rests m (at_rest opens.0) old new same known opens.1.disk in
    let s = subst (λ (x : Machine). StandsFor registry x) (sym k.same) opens.1.registry_stands in
    record { registry_stands = s; disk = rests_apart m no_pins new k.rests; within = opens.1.within; newest = opens.1.newest }
recovers (Err (NotJournal place)) m old new same known opens = known_departs m old place known opens
recovers (Err DiskFault) m old new same known opens = tt
recovers (Err Memory) m old new same known opens = tt
