-- Machines on the way from one to another, and their images.
use Rattle.std.proofs.Common.{◌≡◌, inl, inr, ℕ, ◌≤◌, List, [], ◌∷◌, ◌++◌, refl, sym, subst, arith}
use Rattle.dmn_outside.specs.Crashes.{LeavesOnly, Rests}
use Rattle.dmn_outside.specs.Disk.{AreOver, DiskView, Past, Since, SinceIn, Three}
use Rattle.dmn_outside.proofs.Crash.{joins, started, widened}
use Rattle.dmn_journal.specs.Journal.{Entry}
use Rattle.dmn_registry.specs.Machine.{Machine, Accepts, Reaches, at_rest, with_pins}
use Rattle.dmn_registry.specs.Own.{IsBetween, IsOwn, Leads, OwnWith}
use Rattle.dmn_branch.specs.Pins.{Pins}
use Rattle.dmn_registry.proofs.Apart.{accepts_rest}
use Rattle.dmn_registry.proofs.Resting.{rests_images}
use Rattle.dmn_registry.proofs.Once.{accepts_once}

pub leads_self : (m : Machine) → Leads m m
leads_self m = ([], refl)

-- other pins
pub leads_pins : (m : Machine) (pins : Pins) → Leads m (with_pins m pins)
leads_pins m pins = ([], refl)

pub leads_one : (m : Machine) (entry : Entry) (n : Machine) → Accepts m entry n → Leads m n
leads_one m entry n accepts = (entry ∷ [], (at_rest n, accepts_rest m entry n accepts, refl))

reaches_on : (m : Machine) (es : List Entry) (n : Machine) (ds : List Entry) (o : Machine) → Reaches m es n → Reaches n ds o → Reaches m (es ++ ds) o
reaches_on m [] n ds o one two = subst (λ (k : Machine). Reaches k ds o) one two
reaches_on m (e ∷ es) n ds o one two = (one.0, one.1, reaches_on one.0 es n ds o one.2 two)

pub leads_on : (m n o : Machine) → Leads m n → Leads n o → Leads m o
leads_on m n o one two = (one.0 ++ two.0, reaches_on (at_rest m) one.0 (at_rest n) two.0 (at_rest o) one.1 two.1)

pub between_self : (m : Machine) (image : Three (List ℕ)) → IsOwn m image → IsBetween m m image
between_self m image own = record { machine = m; from = leads_self m; to = leads_self m; own = own }

pub between_to : (m n o : Machine) (image : Three (List ℕ)) → Leads n o → IsBetween m n image → IsBetween m o image
between_to m n o image leads b = record { machine = b.machine; from = b.from; to = leads_on b.machine n o b.to leads; own = b.own }

pub between_from : (l m n : Machine) (image : Three (List ℕ)) → Leads l m → IsBetween m n image → IsBetween l n image
between_from l m n image leads b = record { machine = b.machine; from = leads_on l m b.machine leads b.from; to = b.to; own = b.own }

-- before a command or after it
pub between_command : (m : Machine) (entry : Entry) (n : Machine) (image : Three (List ℕ)) → Accepts m entry n → OwnWith m entry image → IsBetween m n image
between_command m entry n image accepts (inl own) = record { machine = m; from = leads_self m; to = leads_one m entry n accepts; own = own }
between_command m entry n image accepts (inr (o, other, own)) = record {
  machine = n;
  from = leads_one m entry n accepts;
  to = leads_self n;
  own = subst (λ (k : Machine). IsOwn k image) (accepts_once m entry o n other accepts) own;
}

-- a command that isn't accepted is nowhere
pub between_refused : (m : Machine) (entry : Entry) (image : Three (List ℕ)) → ((n : Machine) → Accepts m entry n → ⊥) → OwnWith m entry image → IsBetween m m image
between_refused m entry image never (inl own) = between_self m image own
between_refused m entry image never (inr (o, accepts, own)) = absurd (never o accepts)

-- ---- runs

-- no disk call, on a disk on which the registry stands for the machine
pub unmoved : (t : ℕ) (old new : DiskView) (m : Machine) → AreOver t old.past → Rests (IsOwn m) old.told → new ≡ old → LeavesOnly t old new (IsBetween m m)
unmoved t old new m over rests same = subst (λ (d : DiskView). LeavesOnly t old d (IsBetween m m)) (sym same) (started t old (IsBetween m m) over (λ image now. between_self m image (rests_images m old.told image rests now)))

-- a run that began later, on a disk at rest
pub earlier : (t later : ℕ) (old new : DiskView) (m n : Machine) → t ≤ later → AreOver t old.past → Rests (IsOwn m) old.told → LeavesOnly later old new (IsBetween m n) → Leads m n → LeavesOnly t old new (IsBetween m n)
earlier t later old new m n le over rests run leads = joins t old old new (IsBetween m n) (widened t old old _ _ (unmoved t old old m over rests refl) (λ image b. between_to m m n image leads b)) later (IsBetween m n) le run (λ image b. b)

-- a run, and then another
pub run_on : (t later : ℕ) (old mid new : DiskView) (m n o : Machine) → t ≤ later → Leads m n → Leads n o → LeavesOnly t old mid (IsBetween m n) → LeavesOnly later mid new (IsBetween n o) → LeavesOnly t old new (IsBetween m o)
run_on t later old mid new m n o le mn onward first second =
    joins t old mid new (IsBetween m o) (widened t old mid _ _ first (λ image b. between_to m n o image onward b)) later (IsBetween n o) le second (λ image b. between_from m n o image mn b)

-- ---- since a moment

since_in_later : (states : List Past) (t later : ℕ) (image : Three (List ℕ)) → t ≤ later → SinceIn states later image → SinceIn states t image
since_in_later [] t later image le since = since
since_in_later (s ∷ states) t later image le (inl here) = let a : later ≤ s.ended = here.0 in inl (omega (arith, le, a), here.1)
since_in_later (s ∷ states) t later image le (inr there) = inr (since_in_later states t later image le there)

-- since a later moment there is no more
pub since_later : (d : DiskView) (t later : ℕ) (image : Three (List ℕ)) → t ≤ later → Since d later image → Since d t image
since_later d t later image le (inl now) = inl now
since_later d t later image le (inr was) = inr (since_in_later d.past t later image le was)
