-- A registry without commands is made and opened.
use Rattle.std.proofs.Common.{◌≡◌, inl, inr, ℕ, ◌≤◌, List, [], ◌∷◌, ◌++◌, length, Bool, true, refl, sym, ap, subst, ◌∙◌, arith}
use Rattle.std.specs.Prelude.{IfSome, Result, Ok, Err}
use Rattle.dmn_bytes.specs.Sound.{text_is_one}
use Rattle.dmn_generator.specs.Blocks.{start}
use Rattle.dmn_generator.proofs.Starting.{start_is}
use Rattle.dmn_init.specs.Init.{IsBlankOrMade, Makes, OfMaking}
use Rattle.dmn_init.specs.declared.input.TheConstants.{MOST_READ}
use Rattle.dmn_init.proofs.Starting.{still_blank, then_made}
use Rattle.dmn_journal.specs.Create.{IsBlank, IsBlankDisk}
use Rattle.dmn_journal.specs.Journal.{Entry}
use Rattle.dmn_journal.specs.declared.fault.JournalFault.{JournalFault}
use Rattle.dmn_journal.specs.declared.fault.JournalFault.TheVariants as journals
use Rattle.dmn_office.specs.Offices as offices
use Rattle.dmn_outside.specs.Changes.{OnlyReads}
use Rattle.dmn_outside.specs.Crashes.{LeavesOnly, Rests}
use Rattle.dmn_outside.specs.Disk.{AreOver, DiskView, IfReads, Three, Told, contents, all_reads, has_contents, nothing, whole}
use Rattle.dmn_outside.proofs.Crash.{widened}
use Rattle.dmn_registry.specs.Faithful.{IsFaithful}
use Rattle.dmn_registry.specs.Machine.{Machine, begun}
use Rattle.dmn_registry.specs.Own.{IsOwn, StandsOn}
use Rattle.dmn_registry.specs.declared.registry.Registry.{Registry}
use Rattle.dmn_registry.proofs.Lengths.{start_long}
use Rattle.dmn_rows.specs.Defs.{IsStartText, start_text}
use Rattle.dmn_rows.specs.Start.{start_record, start_record_sound}
use Rattle.dmn_rows.specs.declared.start.StartRecord.{StartRecord}
use Rattle.dmn_slots.specs.Slots.{AreKept, Slots, mark_in, newest_mark, records_of, slots_in}
use Rattle.dmn_slots.proofs.Newest.{Which, none, first, second, which}
use Rattle.dmn_status.specs.declared.status.Status.{Status}
use Rattle.dmn_status.specs.declared.status.Status.TheVariants as statuses
use Rattle.dmn_make.specs.Asking.{fault_of}
use Rattle.dmn_make.specs.Starting.{HasMade, IsBlankOrBegun, Opened}
use Rattle.dmn_make.specs.Text.{mark_of}
use Rattle.dmn_make.specs.declared.fault.MakeFault.{MakeFault}

-- ---- the start record's text

pub start_short : length (start_text start) ≤ MOST_READ
start_short = omega (arith, start_long start start_is)

pub text_short : (text : List ℕ) → text ≡ start_text start → length text ≤ MOST_READ
text_short text is = omega (arith, ap length is, start_short)

-- one start record has it
one_start : (text : List ℕ) (s : StartRecord) → text ≡ start_text start → IsStartText text s → s ≡ start
one_start text s is of = (text_is_one start_record start_record_sound s start [] [] of.0 start_is (ap (λ (l : List ℕ). l ++ []) (sym of.1 ∙ is))).0

begun_image : (text : List ℕ) (image : Three (List ℕ)) → text ≡ start_text start → IsBlankOrMade true text image → IsBlankOrBegun image
begun_image text image is (inl blank) = inl blank
begun_image text image is (inr (s, of, own)) = inr (subst (λ (k : StartRecord). IsOwn (begun k) image) (one_start text s is (of refl)) own)

-- ---- what is made

pub made_begun : (text : List ℕ) (told : Told) → text ≡ start_text start → Makes statuses.Done text told → Rests (IsOwn (begun start)) told
made_begun text told is (s, of, rests) = subst (λ (k : StartRecord). Rests (IsOwn (begun k)) told) (one_start text s is of) rests

-- the statuses but Done
pub not_made : (T : Type 0) (status : Status) (text : List ℕ) (before after : DiskView) → (status ≡ statuses.Done → ⊥) → text ≡ start_text start → OfMaking status → Makes status text after.told → IfReads before.told (λ all. IsBlank all.zeroth) → HasMade {T = T} (Err status) before after
not_made T statuses.Done text before after other is of makes blank = absurd (other refl)
not_made T (statuses.StartForm place) text before after other is of makes blank = absurd (makes.1 start (start_is, is))
not_made T statuses.Memory text before after other is of makes blank = blank
not_made T statuses.DiskFault text before after other is of makes blank = tt
not_made T statuses.AlreadyInit text before after other is of makes blank = absurd of
not_made T statuses.LineFault text before after other is of makes blank = absurd of
not_made T statuses.Words text before after other is of makes blank = absurd of
not_made T (statuses.NotJournal place) text before after other is of makes blank = absurd of
not_made T statuses.CutInput text before after other is of makes blank = absurd of
not_made T statuses.Enough text before after other is of makes blank = absurd of

abbrev status_or : {T : Type 0} → Status → Result T Status → Status
status_or d (Ok value) = d
status_or d (Err status) = status

pub err_is : (T : Type 0) (s t : Status) → ◌≡◌ {A = Result T Status} (Err s) (Err t) → s ≡ t
err_is T s t is = ap (status_or {T = T} s) is

-- ---- the moments

-- before the first write
pub none_made : (t : ℕ) (old new : DiskView) → AreOver t old.past → OnlyReads old new → IsBlankDisk old.told → LeavesOnly t old new IsBlankOrBegun
none_made t old new over reads blank = widened t old new _ _ (still_blank true (start_text start) t old new over reads blank) (λ image b. begun_image (start_text start) image refl b)

-- and then the header
pub making : (text : List ℕ) (t later : ℕ) (old mid new : DiskView) → text ≡ start_text start → t ≤ later → AreOver t old.past → OnlyReads old mid → IsBlankDisk old.told → (IsBlankDisk mid.told → LeavesOnly later mid new (IsBlankOrMade true text)) → LeavesOnly t old new IsBlankOrBegun
making text t later old mid new is le over reads blank run =
    widened t old new _ _ (then_made true text text t later old mid new (λ tells s of. of) le over reads blank run) (λ image b. begun_image text image is b)

-- ---- what is opened

not_begun : (fault : JournalFault) (n : Machine) (told new : Told) → offices.Recovers (Err fault) n told → Opened (Err (fault_of fault)) new
not_begun (journals.NotJournal place) n told new recovers = absurd recovers
not_begun journals.DiskFault n told new recovers = tt
not_begun journals.Memory n told new recovers = tt

pub not_opened : (fault : JournalFault) (given : MakeFault) (n : Machine) (told new : Told) → given ≡ fault_of fault → offices.Recovers (Err fault) n told → Opened (Err given) new
not_opened fault given n told new is recovers = subst (λ (f : MakeFault). Opened (Err f) new) (sym is) (not_begun fault n told new recovers)

none_in_front : (before behind : List Entry) → [] ≡ before ++ behind → length before ≡ 0
none_in_front [] behind is = refl
none_in_front (entry ∷ before) behind is = let wrong : ⊥ = cc in absurd wrong

none_before : (m : Machine) (slots : Slots) → m.commands ≡ [] → Which slots → IfSome slots.first (IsFaithful m) → IfSome slots.second (IsFaithful m) → records_of (newest_mark slots) ≡ 0
none_before m slots empty none p q = refl
none_before m slots empty (first a b is) p q = ap (λ o. records_of (mark_in o)) is ∙ p.records ∙ none_in_front p.before p.behind (sym empty ∙ p.commands)
none_before m slots empty (second a b is) p q = ap (λ o. records_of (mark_in o)) is ∙ q.records ∙ none_in_front q.before q.behind (sym empty ∙ q.commands)

none_kept : (m : Machine) (n tail : ℕ) (slots : Slots) → m.commands ≡ [] → AreKept (IsFaithful m) n tail slots → records_of (newest_mark slots) ≡ 0
none_kept m n tail slots empty kept = none_before m slots empty (which slots) kept.first kept.second

-- without commands no record stands before the newest slot
pub no_mark : (registry : Registry) (m : Machine) (told : Told) → has_contents told ≡ true → m.commands ≡ [] → StandsOn registry m told → records_of registry.newest ≡ 0
no_mark registry m nothing tells empty stands = let wrong : ⊥ = cc in absurd wrong
no_mark registry m (contents c) tells empty stands = ap records_of stands.newest ∙ none_kept m _ _ (slots_in c) empty stands.disk.slots
no_mark registry m (whole w) tells empty stands = ap records_of stands.newest ∙ none_kept m _ _ (slots_in (all_reads w.files)) empty stands.disk.0.slots

pub no_mark_yet : {tells : Bool} (registry : Registry) (told : Told) → has_contents told ≡ tells → tells ≡ true → StandsOn registry (begun start) told → records_of registry.newest ≡ mark_of (begun start)
unfolding mark_of
no_mark_yet registry told as_much tells stands = no_mark registry (begun start) told (as_much ∙ tells) refl stands
