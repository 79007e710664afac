-- The whole run: the journal is made, and then all steps are taken.
use Rattle.std.proofs.Common.{◌≡◌, inl, inr, ℕ, ◌≤◌, List, Bool, true, refl, sym, subst, arith}
use Rattle.dmn_generator.specs.Blocks.{start}
use Rattle.dmn_outside.specs.Crashes.{IsKnown, LeavesOnly, Rests}
use Rattle.dmn_outside.specs.Disk.{DiskView, Three, has_contents}
use Rattle.dmn_outside.specs.Later.{IsLater}
use Rattle.dmn_outside.specs.Line.{LineView}
use Rattle.dmn_outside.proofs.Crash.{joins, widened}
use Rattle.dmn_outside.proofs.Passing.{later_quiet}
use Rattle.dmn_registry.specs.Machine.{begun}
use Rattle.dmn_registry.specs.Own.{IsOwn}
use Rattle.dmn_registry.proofs.Between.{between_self}
use Rattle.dmn_make.specs.Outcome.{IsOfRun, IsOnWay}
use Rattle.dmn_make.specs.Starting.{IsBlankOrBegun}
use Rattle.dmn_make.proofs.Ending.{at_first, known_of}

of_run : (count : ℕ) (image : Three (List ℕ)) → IsBlankOrBegun image → IsOfRun count image
of_run count image (inl blank) = inl blank
of_run count image (inr own) = inr (at_first count image (between_self (begun start) image own))

-- the journal alone
pub journal_way : (count t : ℕ) (old new : DiskView) → LeavesOnly t old new IsBlankOrBegun → LeavesOnly t old new (IsOfRun count)
journal_way count t old new run = widened t old new _ _ run (of_run count)

-- and then the steps
pub run_way : (count t later : ℕ) (old mid new : DiskView) → t ≤ later → has_contents mid.told ≡ true → Rests (IsOwn (begun start)) mid.told → LeavesOnly t old mid IsBlankOrBegun → (IsKnown (IsOwn (begun start)) mid.told → LeavesOnly later mid new (IsOnWay count)) → LeavesOnly t old new (IsOfRun count)
run_way count t later old mid new le tells rests journal steps =
    joins t old mid new (IsOfRun count) (journal_way count t old mid journal) later (IsOnWay count) le (steps (known_of (IsOwn (begun start)) mid.told tells rests)) (λ image way. inr way)

-- and what is sent, which leaves the disk as it is
pub sent_way : (count t : ℕ) (old new sent : DiskView) → sent ≡ new → LeavesOnly t old new (IsOfRun count) → LeavesOnly t old sent (IsOfRun count)
sent_way count t old new sent same run = subst (λ (d : DiskView). LeavesOnly t old d (IsOfRun count)) (sym same) run

-- ---- the line

-- nothing is sent
pub unsent : (t : Bool) (a b : ℕ) (x y : LineView) → a ≤ b → y ≡ x → IsLater t a b x y
unsent t a b x y le same = subst (λ (v : LineView). IsLater t a b x v) (sym same) (later_quiet (record { faults = omega arith; callers = refl; time = le; moments = λ told. refl }))
