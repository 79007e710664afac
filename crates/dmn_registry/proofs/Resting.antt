-- A disk at rest with an own image, through one command.
use Rattle.std.proofs.Common.{◌≡◌, inl, inr, ℕ, ◌+◌, ◌<◌, List, refl, sym, ap, subst, ◌∙◌, arith}
use Rattle.std.specs.Prelude.{Option, Ok, Err, IsErrOf, None, length}
use Rattle.dmn_branch.specs.Machine.{Command}
use Rattle.dmn_outside.specs.Changes.{but, file_synced}
use Rattle.dmn_outside.specs.Crashes.{LeavesOnly, Rests}
use Rattle.dmn_outside.specs.Disk.{AreOver, DiskView, File, IfReads, Leaves, MayLeave, Three, Told, all_reads, contents, nothing, whole}
use Rattle.dmn_outside.proofs.Crash.{started, widened}
use Rattle.dmn_journal.specs.Journal.{Appending, Entry, IsShort, OthersLeft, Stands, gate_place, header_text, size_of_record}
use Rattle.dmn_journal.specs.Reading.{entry_departs}
use Rattle.dmn_journal.specs.declared.fault.AppendFault.{AppendFault}
use Rattle.dmn_journal.specs.declared.fault.AppendFault.TheVariants as faults
use Rattle.dmn_journal.proofs.Append.{stands_images}
use Rattle.dmn_registry.specs.Machine.{Accepts, IsReplayed, Machine, command_of, journal_max, state_of, with_entry}
use Rattle.dmn_registry.specs.Opening.{IsAllowed}
use Rattle.dmn_registry.specs.Faithful.{IsFaithful, longest_tail}
use Rattle.dmn_registry.specs.Own.{IsOwn, OwnWith, StandsFor, StandsOn}
use Rattle.dmn_registry.specs.declared.registry.Registry.{Registry}
use Rattle.dmn_registry.proofs.Keeping.{next_replayed, text_long}
use Rattle.dmn_registry.proofs.Verdicts.{is_taken}
use Rattle.dmn_rows.specs.Defs.{IsStart}
use Rattle.dmn_slots.specs.Slots.{AreKept, Slots, newest_mark, slots_in}
use Rattle.dmn_slots.specs.declared.mark.Mark.{Mark}
use Rattle.dmn_snapshot.specs.Slot.{slot_in}

-- ---- the disk at rest

pub rests_stands : (registry : Registry) (m : Machine) (told : Told) → StandsOn registry m told → Stands (header_text m.start) m.commands registry.journal.end told
rests_stands registry m nothing stands = tt
rests_stands registry m (contents c) stands = (stands.disk.file.journal, stands.registry_stands.end)
rests_stands registry m (whole w) stands = (stands.disk.0.file.journal, stands.registry_stands.end, stands.disk.1.zeroth)

abbrev first_or : File → Told → File
first_or d nothing = d
first_or d (contents c) = d
first_or d (whole w) = w.files.first

abbrev second_or : File → Told → File
second_or d nothing = d
second_or d (contents c) = d
second_or d (whole w) = w.files.second

abbrev contents_or : Three (List ℕ) → Told → Three (List ℕ)
contents_or d nothing = d
contents_or d (contents c) = c
contents_or d (whole w) = d

-- the slots are right for a machine
abbrev pub Slotted : Machine → Slots → Type 0
Slotted m slots = AreKept (IsFaithful m) (length m.commands) (longest_tail m) slots

-- the slots of this disk stay right for another machine
abbrev pub Keeps : Machine → Machine → Told → Type 0
Keeps m n told = IfReads told (λ all. Slotted m (slots_in all) → Slotted n (slots_in all))

pub reads_all : (told : Told) (Q : Three (List ℕ) → Type 0) → ((all : Three (List ℕ)) → Q all) → IfReads told Q
reads_all nothing Q q = tt
reads_all (contents c) Q q = q c
reads_all (whole w) Q q = q (all_reads w.files)

pub keeps_self : (m : Machine) (told : Told) → Keeps m m told
keeps_self m told = reads_all told (λ all. Slotted m (slots_in all) → Slotted m (slots_in all)) (λ all s. s)

pub keeps_by : (m n : Machine) (told : Told) → ((slots : Slots) → Slotted m slots → Slotted n slots) → Keeps m n told
keeps_by m n told f = reads_all told (λ all. Slotted m (slots_in all) → Slotted n (slots_in all)) (λ all s. f (slots_in all) s)

-- slots of the same texts
slots_same : (x y x' y' : List ℕ) → x' ≡ x → y' ≡ y → (λ (s : Slots). s) (record { first = slot_in x'; second = slot_in y' }) ≡ record { first = slot_in x; second = slot_in y }
slots_same x y x' y' e f = λ i. record { first = slot_in (e i); second = slot_in (f i) }

slotted_at : (n : Machine) (x y x' y' : List ℕ) → x' ≡ x → y' ≡ y → Slotted n (record { first = slot_in x; second = slot_in y }) → Slotted n (record { first = slot_in x'; second = slot_in y' })
slotted_at n x y x' y' e f s = subst (Slotted n) (sym (slots_same x y x' y' e f)) s

-- the newest slot of a disk of which files 1 and 2 are told as before
pub newest_but : (r : Option Mark) (old new : Told) → but 0 new ≡ but 0 old → IfReads old (λ all. r ≡ newest_mark (slots_in all)) → IfReads new (λ all. r ≡ newest_mark (slots_in all))
unfolding but
newest_but r old nothing same is = tt
newest_but r nothing (contents d) same is = let wrong : ⊥ = cc in absurd wrong
newest_but r nothing (whole v) same is = let wrong : ⊥ = cc in absurd wrong
newest_but r (contents c) (contents d) same is =
    let both = ap (contents_or c) same in
    is ∙ ap newest_mark (sym (slots_same c.first c.second d.first d.second (ap (λ (t : Three (List ℕ)). t.first) both) (ap (λ (t : Three (List ℕ)). t.second) both)))
newest_but r (contents c) (whole v) same is = let wrong : ⊥ = cc in absurd wrong
newest_but r (whole w) (contents d) same is = let wrong : ⊥ = cc in absurd wrong
newest_but r (whole w) (whole v) same is =
    let first : v.files.first ≡ w.files.first = ap (first_or w.files.first) same in
    let second : v.files.second ≡ w.files.second = ap (second_or w.files.second) same in
    is ∙ ap newest_mark (sym (slots_same w.files.first.reads w.files.second.reads v.files.first.reads v.files.second.reads (ap (λ (f : File). f.reads) first) (ap (λ (f : File). f.reads) second)))

-- the other files are as they were
pub stands_rests : (m n : Machine) (end : ℕ) (old new : Told) → IsStart n.start → IsReplayed n → Keeps m n old → but 0 new ≡ but 0 old → Rests (IsOwn m) old → Stands (header_text n.start) n.commands end new → Rests (IsOwn n) new
unfolding but
stands_rests m n end nothing nothing start replayed keeps same rests stands = tt
stands_rests m n end nothing (contents d) start replayed keeps same rests stands = let wrong : ⊥ = cc in absurd wrong
stands_rests m n end nothing (whole v) start replayed keeps same rests stands = let wrong : ⊥ = cc in absurd wrong
stands_rests m n end (contents c) nothing start replayed keeps same rests stands = tt
stands_rests m n end (contents c) (contents d) start replayed keeps same rests stands =
    let both = ap (contents_or c) same in
    record {
      file = record { start = start; replayed = replayed; journal = stands.0 };
      slots = slotted_at n c.first c.second d.first d.second (ap (λ (t : Three (List ℕ)). t.first) both) (ap (λ (t : Three (List ℕ)). t.second) both) (keeps rests.slots);
    }
stands_rests m n end (contents c) (whole v) start replayed keeps same rests stands = let wrong : ⊥ = cc in absurd wrong
stands_rests m n end (whole w) nothing start replayed keeps same rests stands = tt
stands_rests m n end (whole w) (contents d) start replayed keeps same rests stands = let wrong : ⊥ = cc in absurd wrong
stands_rests m n end (whole w) (whole v) start replayed keeps same rests stands =
    let first : v.files.first ≡ w.files.first = ap (first_or w.files.first) same in
    let second : v.files.second ≡ w.files.second = ap (second_or w.files.second) same in (
      record {
        file = record { start = start; replayed = replayed; journal = stands.0 };
        slots = slotted_at n w.files.first.reads w.files.second.reads v.files.first.reads v.files.second.reads (ap (λ (f : File). f.reads) first) (ap (λ (f : File). f.reads) second) (keeps rests.0.slots);
      },
      record { zeroth = stands.2; first = subst (λ (f : File). f ≡ file_synced f) (sym first) rests.1.first; second = subst (λ (f : File). f ≡ file_synced f) (sym second) rests.1.second },
    )

-- a synced file leaves what a read gives
settled_only : (f : File) → f ≡ file_synced f → (c : List ℕ) → Leaves f.sure f.begun c → c ≡ f.reads
settled_only f settled c left = subst (λ (s : File). Leaves s.sure s.begun c) {y = file_synced f} settled left

-- files 1 and 2 of an image are the disk's
others_go : (m n : Machine) (told : Told) (image : Three (List ℕ)) → Rests (IsOwn m) told → Keeps m n told → OthersLeft told image → Slotted n (slots_in image)
others_go m n nothing image rests keeps left = absurd left
others_go m n (contents c) image rests keeps left = absurd left
others_go m n (whole w) image rests keeps left = slotted_at n w.files.first.reads w.files.second.reads image.first image.second (settled_only w.files.first rests.1.first image.first left.0) (settled_only w.files.second rests.1.second image.second left.1) (keeps rests.0.slots)

-- each image of a disk at rest is own
pub rests_images : (m : Machine) (told : Told) (image : Three (List ℕ)) → Rests (IsOwn m) told → MayLeave told image → IsOwn m image
rests_images m nothing image rests now = absurd now
rests_images m (contents c) image rests now = absurd now
rests_images m (whole w) image rests now = record {
  file = record {
    start = rests.0.file.start;
    replayed = rests.0.file.replayed;
    journal = stands_images (header_text m.start) m.commands (gate_place (header_text m.start) m.commands) (whole w) image (rests.0.file.journal, refl, rests.1.zeroth) now;
  };
  slots = others_go m m (whole w) image rests (keeps_self m (whole w)) (now.first, now.second);
}

-- ---- the moments of a command

-- no disk call
pub idle : (t : ℕ) (old new : DiskView) (registry : Registry) (m : Machine) (entry : Entry) → AreOver t old.past → StandsOn registry m old.told → new ≡ old → LeavesOnly t old new (OwnWith m entry)
idle t old new registry m entry over stands same = subst (λ (d : DiskView). LeavesOnly t old d (OwnWith m entry)) (sym same) (started t old (OwnWith m entry) over (λ image now. inl (rests_images m old.told image stands.disk now)))

-- the machine accepts a command for which there is room
pub accepted : (registry : Registry) (m : Machine) (entry : Entry) (command : Command) → StandsFor registry m → entry_departs entry ≡ None → IsShort entry → registry.journal.end + size_of_record entry < journal_max m.start → command_of entry ≡ Ok command → IsAllowed (state_of m) command → Accepts m entry (with_entry m entry)
accepted registry m entry command stands form short below is allowed = record { form = form; is = is_taken m entry command is allowed (omega (arith, below, text_long m entry registry.journal.end short stands.end)) }

own_with : (m : Machine) (entry : Entry) (told : Told) (image : Three (List ℕ)) → IsStart m.start → IsReplayed m → Rests (IsOwn m) told → Keeps m (with_entry m entry) told → Accepts m entry (with_entry m entry) → Appending (header_text m.start) m.commands entry told image → OwnWith m entry image
own_with m entry told image start replayed rests keeps accepts appending = elim appending.entries [
  | inl has ↦ inl (record { file = record { start = start; replayed = replayed; journal = has }; slots = others_go m m told image rests (keeps_self m told) appending.rest })
  | inr has ↦ inr (with_entry m entry, accepts, record { file = record { start = start; replayed = next_replayed m entry replayed accepts; journal = has }; slots = others_go m (with_entry m entry) told image rests keeps appending.rest })
]

-- an append
pub appended : (t : ℕ) (old new : DiskView) (registry : Registry) (m : Machine) (entry : Entry) → StandsFor registry m → Rests (IsOwn m) old.told → Keeps m (with_entry m entry) old.told → Accepts m entry (with_entry m entry) → LeavesOnly t old new (Appending (header_text m.start) m.commands entry old.told) → LeavesOnly t old new (OwnWith m entry)
appended t old new registry m entry stands rests keeps accepts run = widened t old new _ _ run (λ image appending. own_with m entry old.told image stands.start stands.replayed rests keeps accepts appending)

-- ---- what an append answers

pub no_fault : {T : Type 0} (v : T) (fault : AppendFault) → IsErrOf (Ok v) fault → ⊥
no_fault v fault is = cc

pub is_fault : {T : Type 0} (fault wanted : AppendFault) → fault ≡ wanted → IsErrOf {T = T} (Err fault) wanted
is_fault fault wanted is = ap (λ (f : AppendFault). Err f) is

pub other_fault : {T : Type 0} (fault : AppendFault) → fault ≡ faults.DiskFault → IsErrOf {T = T} (Err fault) faults.JournalFull → ⊥
other_fault fault one two = cc
