-- A blank disk on which a registry is made.
use Rattle.std.proofs.Common.{◌≡◌, inl, inr, ⊎_elim, ℕ, ◌≤◌, Bool, true, List, [], ◌∷◌, length, take, drop, refl, sym, ap, subst, ◌∙◌, arith}
use Rattle.std.proofs.lemmas.List.{drop_all, length-take, take_all}
use Rattle.dmn_bytes.specs.Defs.{Departs}
use Rattle.dmn_outside.specs.Changes.{OnlyReads, unread}
use Rattle.dmn_outside.specs.Crashes.{LeavesOnly}
use Rattle.dmn_outside.specs.Disk.{AreOver, DiskView, File, IfReads, Leaves, Three, Told, contents, nothing, whole}
use Rattle.dmn_outside.specs.Line.{Talk}
use Rattle.dmn_outside.proofs.Crash.{files_or, joins, reads_on, started}
use Rattle.dmn_journal.specs.Create.{HoldsText, IsBlank, IsBlankDisk, behind_gate}
use Rattle.dmn_journal.specs.Create as journals
use Rattle.dmn_journal.proofs.Creating.{blank_image}
use Rattle.dmn_journal.proofs.Texts.{journals_have_commands, made_is_a_journal}
use Rattle.dmn_journal.specs.Journal.{HasCommands, header_text}
use Rattle.dmn_rows.specs.Defs.{IsStartText, start_text}
use Rattle.dmn_slots.specs.Slots.{AreKept, Slots, slots_in}
use Rattle.dmn_snapshot.specs.Slot.{slot_in}
use Rattle.std.specs.Prelude.{None}
use Rattle.dmn_rows.specs.Start.{start_record}
use Rattle.dmn_rows.specs.declared.start.StartRecord.{StartRecord}
use Rattle.dmn_status.specs.declared.status.Status.{Status}
use Rattle.dmn_status.specs.declared.status.Status.TheVariants as statuses
use Rattle.dmn_init.specs.declared.input.TheConstants.{MOST_READ}
use Rattle.dmn_registry.specs.Faithful.{IsFaithful, longest_tail}
use Rattle.dmn_registry.specs.Machine.{begun}
use Rattle.dmn_registry.specs.Opening.{Reading}
use Rattle.dmn_registry.specs.Own.{IsOwn}
use Rattle.dmn_registry.proofs.Lengths.{start_long}
use Rattle.dmn_init.specs.Init.{EndsWell, Inits, IsBlankOrMade, IsMade, Makes, OfMaking}

-- ---- a header that is made

made_commands : (text : List ℕ) (start : StartRecord) (file : List ℕ) → text ≡ start_text start → file ≡ 1 ∷ behind_gate text → HasCommands (header_text start) [] file
made_commands text start file same is =
    subst (HasCommands (header_text start) []) (sym (is ∙ ap (λ (l : List ℕ). 1 ∷ behind_gate l) same ∙ made_is_a_journal start)) (journals_have_commands start [] tt)

-- empty files have no slot
no_slots : (a b : List ℕ) → a ≡ [] → b ≡ [] → (λ (s : Slots). s) (record { first = slot_in a; second = slot_in b }) ≡ record { first = None; second = None }
unfolding slot_in
no_slots a b first second = λ i. record { first = slot_in (first i); second = slot_in (second i) }

none_kept : (start : StartRecord) (image : Three (List ℕ)) → image.first ≡ [] → image.second ≡ [] → AreKept (IsFaithful (begun start)) 0 (longest_tail (begun start)) (slots_in image)
none_kept start image first second = subst (AreKept (IsFaithful (begun start)) 0 (longest_tail (begun start))) (sym (no_slots image.first image.second first second)) (record { first = tt; second = tt; ordered = tt; tail_is = omega arith })

made_own : (text : List ℕ) (start : StartRecord) (image : Three (List ℕ)) → IsStartText text start → image.zeroth ≡ 1 ∷ behind_gate text → image.first ≡ [] → image.second ≡ [] → IsOwn (begun start) image
made_own text start image is made first second = record {
  file = record { start = is.0; replayed = record { replay = refl }; journal = made_commands text start image.zeroth is.1 made };
  slots = none_kept start image first second;
}

-- what a crash leaves while the header is written
pub made_image : (text : List ℕ) (start : StartRecord) (image : Three (List ℕ)) → IsStartText text start → journals.IsBlankOrMade (behind_gate text) image → IsBlankOrMade true text image
made_image text start image is (inl blank) = inl blank
made_image text start image is (inr made) = inr (start, λ told. is, made_own text start image is made.0 made.1 made.2)

pub made_rests : (text : List ℕ) (start : StartRecord) (told : Told) → IsStartText text start → HoldsText (1 ∷ behind_gate text) told → IsMade text told
made_rests text start nothing is holds = (start, is, tt)
made_rests text start (contents c) is holds = (start, is, made_own text start c is holds.0 holds.1 holds.2)
made_rests text start (whole w) is holds = (
  start,
  is,
  (
    made_own text start _ is (ap (λ (f : File). f.reads) holds.0) (ap (λ (f : File). f.reads) holds.1) (ap (λ (f : File). f.reads) holds.2),
    record { zeroth = subst (λ (f : File). f ≡ Rattle.dmn_outside.specs.Changes.file_synced f) (sym holds.0) refl; first = subst (λ (f : File). f ≡ Rattle.dmn_outside.specs.Changes.file_synced f) (sym holds.1) refl; second = subst (λ (f : File). f ≡ Rattle.dmn_outside.specs.Changes.file_synced f) (sym holds.2) refl },
  ),
)

-- ---- the moments

pub blank_moments : (told : Bool) (text : List ℕ) (t : ℕ) (d : DiskView) → AreOver t d.past → IsBlankDisk d.told → LeavesOnly t d d (IsBlankOrMade told text)
blank_moments told text t d over blank = started t d (IsBlankOrMade told text) over (λ image now. inl (blank_image d.told image blank now))

blank_unread : (a b : Told) → unread b ≡ unread a → IsBlankDisk a → IsBlankDisk b
blank_unread nothing nothing same blank = blank
blank_unread nothing (contents d) same blank = λ file left. absurd left
blank_unread nothing (whole v) same blank = let wrong : ⊥ = cc in absurd wrong
blank_unread (contents c) nothing same blank = λ file left. absurd left
blank_unread (contents c) (contents d) same blank = λ file left. absurd left
blank_unread (contents c) (whole v) same blank = let wrong : ⊥ = cc in absurd wrong
blank_unread (whole w) nothing same blank = λ file left. absurd left
blank_unread (whole w) (contents d) same blank = λ file left. absurd left
blank_unread (whole w) (whole v) same blank = let e : v.files ≡ w.files = ap (files_or w.files) same in λ file left. blank file (subst (λ (f : Three File). Leaves f.zeroth.sure f.zeroth.begun file) e left)

-- before the first write
pub still_blank : (told : Bool) (text : List ℕ) (t : ℕ) (old new : DiskView) → AreOver t old.past → OnlyReads old new → IsBlankDisk old.told → LeavesOnly t old new (IsBlankOrMade told text)
still_blank told text t old new over reads blank = reads_on t old old new (IsBlankOrMade told text) (blank_moments told text t old over blank) reads

-- and then the header
pub then_made : (told : Bool) (text input : List ℕ) (t later : ℕ) (old mid new : DiskView) → (told ≡ true → (start : StartRecord) → IsStartText text start → IsStartText input start) → t ≤ later → AreOver t old.past → OnlyReads old mid → IsBlankDisk old.told
    → (IsBlankDisk mid.told → LeavesOnly later mid new (IsBlankOrMade true text)) → LeavesOnly t old new (IsBlankOrMade told input)
then_made told text input t later old mid new whole_input le over reads blank run =
    joins t old mid new (IsBlankOrMade told input) (still_blank told input t old mid over reads blank) later (IsBlankOrMade true text) le (run (blank_unread old.told mid.told reads.told blank))
    (λ image b. ⊎_elim (λ empty. inl empty) (λ own. inr (own.0, λ tells. whole_input tells own.0 (own.1 refl), own.2)) b)

-- ---- what was read of the input

-- A start record is shorter than what is read at most: so it is the whole input, and where the input is one it is read whole.
pub whole_input : (text input : List ℕ) (start : StartRecord) → text ≡ take MOST_READ input → IsStartText text start → input ≡ text
whole_input text input start is of =
    let few : length text ≤ 59768875 = subst (λ (l : List ℕ). length l ≤ 59768875) (sym of.1) (start_long start of.0) in
    sym (is ∙ take_all MOST_READ input (omega (arith, ap length is, few, length-take MOST_READ input)))

pub input_whole : (text input : List ℕ) (start : StartRecord) → text ≡ take MOST_READ input → IsStartText input start → text ≡ input
input_whole text input start is of =
    let few : length input ≤ 59768875 = subst (λ (l : List ℕ). length l ≤ 59768875) (sym of.1) (start_long start of.0) in
    is ∙ take_all MOST_READ input (omega (arith, few))

pub starts_input : (text input : List ℕ) (start : StartRecord) → text ≡ take MOST_READ input → IsStartText text start → IsStartText input start
starts_input text input start is of = subst (λ (l : List ℕ). IsStartText l start) (sym (whole_input text input start is of)) of

none_left : (text input : List ℕ) (start : StartRecord) → text ≡ take MOST_READ input → IsStartText text start → drop MOST_READ input ≡ []
none_left text input start is of =
    let few : length text ≤ 59768875 = subst (λ (l : List ℕ). length l ≤ 59768875) (sym of.1) (start_long start of.0) in
    drop_all MOST_READ input (omega (arith, ap length (whole_input text input start is of), few))

-- what was made of what was read
pub init_made : (status : Status) (before after : DiskView) (text : List ℕ) (old new : Talk) → OfMaking status → Makes status text after.told → IfReads before.told (λ all. IsBlank all.zeroth) → text ≡ take MOST_READ old.left → new ≡ record old { left = drop MOST_READ old.left }
    → Inits status before after old new
init_made statuses.Done before after text old new which makes blank is read = (
  blank,
  (makes.0, starts_input text old.left makes.0 is makes.1, makes.2),
  read ∙ ap (λ (l : List ℕ). record old { left = l }) (none_left text old.left makes.0 is makes.1),
)
init_made (statuses.StartForm place) before after text old new which makes blank is read = (
  blank,
  record { departs = subst (λ (l : List ℕ). Departs start_record l place) is makes.0; none = λ start of. makes.1 start (subst (λ (l : List ℕ). IsStartText l start) (sym (input_whole text old.left start is of)) of) },
  read,
)
init_made statuses.DiskFault before after text old new which makes blank is read = inr (
  blank,
  (makes.0, starts_input text old.left makes.0 is makes.1),
  read ∙ ap (λ (l : List ℕ). record old { left = l }) (none_left text old.left makes.0 is makes.1),
)
init_made statuses.Memory before after text old new which makes blank is read = (blank, (MOST_READ, read))
init_made statuses.AlreadyInit before after text old new which makes blank is read = absurd which
init_made statuses.LineFault before after text old new which makes blank is read = absurd which
init_made statuses.Words before after text old new which makes blank is read = absurd which
init_made (statuses.NotJournal place) before after text old new which makes blank is read = absurd which
init_made statuses.CutInput before after text old new which makes blank is read = absurd which
init_made statuses.Enough before after text old new which makes blank is read = absurd which

pub made_well : (status : Status) (told : Told) (text input : List ℕ) (start : StartRecord) → OfMaking status → Makes status text told → (status ≡ statuses.DiskFault → ⊥) → text ≡ take MOST_READ input → IsStartText input start → EndsWell status
made_well statuses.Done told text input start which makes calm is of = inl refl
made_well statuses.Memory told text input start which makes calm is of = inr refl
made_well (statuses.StartForm place) told text input start which makes calm is of = absurd (makes.1 start (subst (λ (l : List ℕ). IsStartText l start) (sym (input_whole text input start is of)) of))
made_well statuses.DiskFault told text input start which makes calm is of = absurd (calm refl)
made_well statuses.AlreadyInit told text input start which makes calm is of = absurd which
made_well statuses.LineFault told text input start which makes calm is of = absurd which
made_well statuses.Words told text input start which makes calm is of = absurd which
made_well (statuses.NotJournal place) told text input start which makes calm is of = absurd which
made_well statuses.CutInput told text input start which makes calm is of = absurd which
made_well statuses.Enough told text input start which makes calm is of = absurd which

pub no_line_fault : (status : Status) → OfMaking status → status ≡ statuses.LineFault → ⊥
no_line_fault status which is = subst OfMaking is which

-- ---- a file that is not blank

pub never_blank : (told : Told) → Reading (λ all. IsBlank all.zeroth → ⊥) told → IfReads told (λ all. IsBlank all.zeroth) → ⊥
never_blank nothing held blank = held
never_blank (contents c) held blank = held blank
never_blank (whole w) held blank = held blank
