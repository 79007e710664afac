-- A run ends: what is opened again, and what a crash leaves on the way.
use Rattle.std.proofs.Common.{◌≡◌, ℕ, ◌≤◌, List, [], Bool, true, length, refl, sym, ap, subst, ◌∙◌, arith}
use Rattle.std.specs.Prelude.{◌-◌, Option, Result, Ok, Err}
use Rattle.std.proofs.lemmas.List.{append-nil}
use Rattle.dmn_generator.specs.Blocks.{start}
use Rattle.dmn_journal.specs.declared.fault.JournalFault.{JournalFault}
use Rattle.dmn_journal.specs.declared.fault.JournalFault.TheVariants as journals
use Rattle.dmn_office.specs.declared.office.Office.{Office}
use Rattle.dmn_office.proofs.Opened.{opened}
use Rattle.dmn_outside.specs.Crashes.{IsKnown, LeavesOnly, Rests}
use Rattle.dmn_outside.specs.Disk.{AreOver, DiskView, IfReads, MayLeave, Three, Told, contents, has_contents, nothing, whole}
use Rattle.dmn_outside.proofs.Crash.{joins, started, widened}
use Rattle.dmn_outside.proofs.Reading.{reads_both, reads_map}
use Rattle.dmn_registry.specs.Audits.{audit_of}
use Rattle.dmn_registry.specs.Machine.{Machine, at_rest, begun}
use Rattle.dmn_registry.specs.Opening as registries
use Rattle.dmn_registry.specs.Opening.{reads_of}
use Rattle.dmn_registry.specs.Own.{IsBetween, IsOwn, StandsOn}
use Rattle.dmn_registry.specs.declared.auditing.Audit.{Audit}
use Rattle.dmn_registry.specs.declared.registry.Registry.{Registry}
use Rattle.dmn_registry.proofs.Apart.{own_apart, rests_apart}
use Rattle.dmn_registry.proofs.Between.{between_from, between_self}
use Rattle.dmn_registry.proofs.Once.{reads_same}
use Rattle.dmn_registry.proofs.Resting.{rests_images}
use Rattle.dmn_slots.specs.Slots.{newest_mark, records_of, slots_in}
use Rattle.dmn_slots.specs.declared.mark.Mark.{Mark}
use Rattle.dmn_make.specs.Asking.{Stands, fault_of}
use Rattle.dmn_make.specs.Going.{Going, after_all, beginning, made}
use Rattle.dmn_make.specs.Outcome.{IsOnWay}
use Rattle.dmn_make.specs.Running.{HasStopped, HasTaken, IsAt, TakesSteps}
use Rattle.dmn_make.specs.Starting.{Ends, IsEnd, Opened, RunsAll}
use Rattle.dmn_make.specs.Steps.{all_steps}
use Rattle.dmn_make.specs.Text.{make_text, mark_of, seven_lines, tail_of}
use Rattle.dmn_make.specs.declared.fault.MakeFault.{MakeFault}
use Rattle.dmn_make.specs.declared.fault.MakeFault.TheVariants as faults
use Rattle.dmn_make.specs.declared.maker.Maker.{Maker}
use Rattle.dmn_make.specs.declared.step.Step.{Step}

-- ---- what is known

known_here : (P : Three (List ℕ) → Type 0) (told : Told) (Q : Type 0) → IsKnown P told → IfReads told (λ all. Q) → Q
known_here P nothing Q known q = absurd known
known_here P (contents c) Q known q = q
known_here P (whole w) Q known q = q

pub known_of : (P : Three (List ℕ) → Type 0) (told : Told) → has_contents told ≡ true → Rests P told → IsKnown P told
known_of P nothing tells rests = let wrong : ⊥ = cc in absurd wrong
known_of P (contents c) tells rests = rests
known_of P (whole w) tells rests = rests

rests_of : (P : Three (List ℕ) → Type 0) (told : Told) → IsKnown P told → Rests P told
rests_of P nothing known = absurd known
rests_of P (contents c) known = known
rests_of P (whole w) known = known

-- ---- opened again

-- the machine as an opening has it, but for its pins
pins_back : (m : Machine) (image : Three (List ℕ)) → IsOwn (at_rest m) image → IsOwn m image
pins_back m image own = own_apart (at_rest m) m.pins image own

pub opens_between : (t : ℕ) (old new : DiskView) (m : Machine) → IsKnown (IsOwn m) old.told → LeavesOnly t old new (MayLeave old.told) → LeavesOnly t old new (IsBetween m m)
opens_between t old new m known run = widened t old new _ _ (opened t old new m known run) (λ image own. between_self m image (pins_back m image own))

no_end : (fault : JournalFault) (m : Machine) (pages : List ℕ) (told new : Told) → registries.Recovers (Err fault) m told → Ends (Err (fault_of fault)) m pages new
no_end (journals.NotJournal place) m pages told new recovers = absurd recovers
no_end journals.DiskFault m pages told new recovers = tt
no_end journals.Memory m pages told new recovers = tt

pub not_ended : (fault : JournalFault) (given : MakeFault) (m : Machine) (pages : List ℕ) (told new : Told) → given ≡ fault_of fault → registries.Recovers (Err fault) m told → Ends (Err given) m pages new
not_ended fault given m pages told new is recovers = subst (λ (f : MakeFault). Ends (Err f) m pages new) (sym is) (no_end fault m pages told new recovers)

-- the newest slot is where it was before the opening
mark_back : (newest : Option Mark) (m : Machine) (old new : Told) → IsEnd m old → reads_of new ≡ reads_of old → IfReads new (λ all. newest ≡ newest_mark (slots_in all)) → records_of newest ≡ mark_of m
mark_back newest m old new end same is =
    known_here (IsOwn m) old (records_of newest ≡ mark_of m) end.own (reads_both old (λ all. newest ≡ newest_mark (slots_in all)) (λ all. records_of (newest_mark (slots_in all)) ≡ mark_of m) (λ all. records_of newest ≡ mark_of m) (reads_same old new (λ all. newest ≡ newest_mark (slots_in all)) same is) end.mark (λ all a b. ap records_of a ∙ b))

pub ends_with : (registry : Registry) (m : Machine) (audit : Audit) (tail : ℕ) (pages slice text : List ℕ) (old new : Told) → slice ≡ pages → IsEnd m old → reads_of new ≡ reads_of old → StandsOn registry (at_rest m) new → audit ≡ audit_of (at_rest m) → tail ≡ registry.journal.records - records_of registry.newest → text ≡ seven_lines audit tail slice
    → Ends (Ok text) m pages new
ends_with registry m audit tail pages slice text old new sliced end same stands audit_is tail_is text_is =
    let mark : records_of registry.newest ≡ mark_of m = mark_back registry.newest m old new end same stands.newest in
    let tails : tail ≡ tail_of m = tail_is ∙ ap (λ (n : ℕ). n - records_of registry.newest) stands.registry_stands.records ∙ ap (λ (n : ℕ). length m.commands - n) mark in
    (text_is ∙ ap (λ (p : List ℕ). seven_lines audit tail p) sliced ∙ ap (λ (a : Audit). seven_lines a tail pages) audit_is ∙ ap (λ (n : ℕ). seven_lines (audit_of (at_rest m)) n pages) tails, rests_apart (at_rest m) m.pins new stands.disk)

-- the office's disk, where the registry is let go
pub is_end : {tells : Bool} (office : Office) (m : Machine) (told : Told) → has_contents told ≡ tells → tells ≡ true → Stands office m told → IsEnd m told
is_end office m told as_much tells stands = record {
  own = known_of (IsOwn m) told (as_much ∙ tells) stands.at.registry.disk;
  mark = reads_map told (λ all. office.registry.newest ≡ newest_mark (slots_in all)) (λ all. records_of (newest_mark (slots_in all)) ≡ mark_of m) stands.at.registry.newest (λ all is. ap records_of (sym is) ∙ stands.mark);
}

-- ---- what a run answers

pub not_run : (fault : MakeFault) (count : ℕ) (told new : Told) → Opened (Err fault) told → RunsAll (Err fault) count new
not_run (faults.NotJournal place) count told new opened = absurd opened
not_run faults.Memory count told new opened = tt
not_run faults.DiskFault count told new opened = tt

pub lacks_memory : (fault : MakeFault) (count : ℕ) (new : Told) → fault ≡ faults.Memory → RunsAll (Err fault) count new
lacks_memory fault count new is = subst (λ (f : MakeFault). RunsAll (Err f) count new) (sym is) tt

pub not_taken : (T : Type 0) (fault : MakeFault) (count n t : ℕ) (steps : List Step) (before after : DiskView) (old new : Maker) (told : Told) → TakesSteps {T = T} (Err fault) n steps t before after old new → RunsAll (Err fault) count told
not_taken T (faults.NotJournal place) count n t steps before after old new told takes = absurd takes
not_taken T faults.Memory count n t steps before after old new told takes = tt
not_taken T faults.DiskFault count n t steps before after old new told takes = tt

pub runs_all : (result : Result (List ℕ) MakeFault) (count : ℕ) (pages : List ℕ) (told : Told) → pages ≡ (made count).pages → Ends result (made count).machine pages told → RunsAll result count told
unfolding make_text
runs_all (Ok text) count pages told is ends = (ends.0 ∙ ap (λ (p : List ℕ). seven_lines (audit_of (at_rest (made count).machine)) (tail_of (made count).machine) p) is, ends.1)
runs_all (Err (faults.NotJournal place)) count pages told is ends = absurd ends
runs_all (Err faults.Memory) count pages told is ends = tt
runs_all (Err faults.DiskFault) count pages told is ends = tt

-- behind all steps
pub taken_all : (T : Type 0) (value : T) (count n t : ℕ) (steps : List Step) (before after : DiskView) (old new : Maker) → n ≡ count → steps ≡ all_steps → TakesSteps {T = T} (Ok value) n steps t before after old new → IsAt old beginning before.told → HasTaken t before after beginning (made count) new
unfolding made
taken_all T value count n t steps before after old new counts is takes at =
    subst (λ (g : Going). HasTaken t before after beginning g new) ((λ i. after_all (counts i) (is i) beginning)) (takes beginning at)

pub stopped : (T : Type 0) (fault : MakeFault) (count n t : ℕ) (steps : List Step) (before after : DiskView) (old new : Maker) → n ≡ count → steps ≡ all_steps → TakesSteps {T = T} (Err fault) n steps t before after old new → IsAt old beginning before.told → HasStopped count all_steps t before after beginning
stopped T (faults.NotJournal place) count n t steps before after old new counts is takes at = absurd takes
stopped T faults.Memory count n t steps before after old new counts is takes at = let both = subst (λ (k : ℕ). HasStopped k steps t before after beginning) counts (takes beginning at) in subst (λ (s : List Step). HasStopped count s t before after beginning) is both
stopped T faults.DiskFault count n t steps before after old new counts is takes at = let both = subst (λ (k : ℕ). HasStopped k steps t before after beginning) counts (takes beginning at) in subst (λ (s : List Step). HasStopped count s t before after beginning) is both

-- ---- on the way

pub at_first : (count : ℕ) (image : Three (List ℕ)) → IsBetween (begun start) (begun start) image → IsOnWay count image
at_first count image b = record { done = []; left = all_steps; steps = refl; between = b }

-- no disk call
pub not_begun : (count t : ℕ) (disk : DiskView) → AreOver t disk.past → IsKnown (IsOwn (begun start)) disk.told → LeavesOnly t disk disk (IsOnWay count)
not_begun count t disk over known = started t disk (IsOnWay count) over (λ image now. at_first count image (between_self (begun start) image (rests_images (begun start) disk.told image (rests_of (IsOwn (begun start)) disk.told known) now)))

-- the opening alone
pub opened_way : (count t : ℕ) (old new : DiskView) → LeavesOnly t old new (IsBetween (begun start) (begun start)) → LeavesOnly t old new (IsOnWay count)
opened_way count t old new run = widened t old new _ _ run (at_first count)

-- steps that stopped
pub stopped_way : (count t later : ℕ) (old mid new : DiskView) → t ≤ later → LeavesOnly t old mid (IsBetween (begun start) (begun start)) → HasStopped count all_steps later mid new beginning → LeavesOnly t old new (IsOnWay count)
stopped_way count t later old mid new le first s =
    joins t old mid new (IsOnWay count) (opened_way count t old mid first) later (IsBetween (begun start) (after_all count s.done beginning).machine) le s.run (λ image b. record { done = s.done; left = s.left; steps = s.steps_are; between = b })

at_last : (count : ℕ) (image : Three (List ℕ)) → IsBetween (begun start) (made count).machine image → IsOnWay count image
unfolding made
at_last count image b = record { done = all_steps; left = []; steps = sym (append-nil all_steps); between = b }

-- all steps, and the second opening
pub whole_way : (count t later last : ℕ) (old mid done new : DiskView) (maker : Maker) → t ≤ later → later ≤ last → LeavesOnly t old mid (IsBetween (begun start) (begun start)) → HasTaken later mid done beginning (made count) maker → LeavesOnly last done new (IsBetween (made count).machine (made count).machine) → LeavesOnly t old new (IsOnWay count)
whole_way count t later last old mid done new maker le further first taken again =
    let so_far : LeavesOnly t old done (IsOnWay count) = joins t old mid done (IsOnWay count) (opened_way count t old mid first) later (IsBetween (begun start) (made count).machine) le taken.goes.on.run (at_last count) in
    joins t old done new (IsOnWay count) so_far last (IsBetween (made count).machine (made count).machine) (omega (arith, le, further)) again (λ image b. at_last count image (between_from (begun start) (made count).machine (made count).machine image taken.goes.on.leads b))
