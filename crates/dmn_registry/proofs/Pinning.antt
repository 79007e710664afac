-- Pins of a registry: its branch has other pins, and all else is as it was.
use Rattle.std.proofs.Common.{◌≡◌, ℕ, Bool, true, false, sym, ap, subst, ◌∙◌}
use Rattle.std.specs.Prelude.{IfOk, IfSome, MatchBool, OnErr, Option, Result, Ok, Err}
use Rattle.dmn_branch.specs.Machine as blocks
use Rattle.dmn_branch.specs.Machine.{pin_at}
use Rattle.dmn_branch.specs.Pins.{Pins, with_pin, without_pin}
use Rattle.dmn_branch.specs.Stands as branches
use Rattle.dmn_branch.specs.declared.fault.PinFault.{PinFault}
use Rattle.dmn_journal.specs.declared.journal.Journal.{Journal}
use Rattle.dmn_outside.specs.Disk.{Told}
use Rattle.dmn_outside.proofs.Reading.{reads_map}
use Rattle.dmn_registry.specs.Machine.{Machine, pinned, released, state_of, with_pins}
use Rattle.dmn_registry.specs.Own.{StandsOn}
use Rattle.dmn_registry.specs.declared.registry.Registry.{Registry}
use Rattle.dmn_registry.proofs.Apart.{rests_apart}
use Rattle.dmn_slots.specs.Slots.{IsWithin}
use Rattle.dmn_slots.specs.declared.mark.Mark.{Mark}

-- what changed of a registry: its branch alone
pub record InMemory (old new : Registry) : Type 0 where
  pub spent : new.spent ≡ old.spent
  pub journal : new.journal ≡ old.journal
  pub newest : new.newest ≡ old.newest

pub stands_apart : (old new : Registry) (m : Machine) (pins : Pins) (told : Told) → InMemory old new → StandsOn old m told → branches.StandsFor new.branch (state_of (with_pins m pins)) → StandsOn new (with_pins m pins) told
stands_apart old new m pins told same stands branch = record {
  registry_stands = record {
    usable = same.spent ∙ stands.registry_stands.usable;
    branch = branch;
    end = ap (λ (j : Journal). j.end) same.journal ∙ stands.registry_stands.end;
    records = ap (λ (j : Journal). j.records) same.journal ∙ stands.registry_stands.records;
    start = stands.registry_stands.start;
    replayed = record { replay = stands.registry_stands.replayed.replay };
  };
  disk = rests_apart m pins told stands.disk;
  within = subst (λ (o : Option Mark). IfSome o IsWithin) (sym same.newest) stands.within;
  newest = reads_map told _ _ stands.newest (λ all is. same.newest ∙ is);
}

pub pinned_on : (r : Result ℕ PinFault) (old new : Registry) (m : Machine) (height : ℕ) (told : Told) → InMemory old new → StandsOn old m told → IfOk r (λ number. branches.StandsFor new.branch (blocks.pinned (state_of m) number height)) → IfOk r (λ number. StandsOn new (pinned m number height) told)
pinned_on (Ok number) old new m height told same stands branch = stands_apart old new m (with_pin m.pins (pin_at (state_of m) number height)) told same stands branch
pinned_on (Err fault) old new m height told same stands branch = tt

pub unpinned_on : (r : Result ℕ PinFault) (old new : Registry) (m : Machine) (told : Told) → InMemory old new → StandsOn old m told → OnErr r (branches.StandsFor new.branch (state_of m)) → OnErr r (StandsOn new m told)
unpinned_on (Ok number) old new m told same stands branch = tt
unpinned_on (Err fault) old new m told same stands branch = stands_apart old new m m.pins told same stands branch

pub released_on : (live : Bool) (old new : Registry) (m : Machine) (number : ℕ) (told : Told) → InMemory old new → StandsOn old m told → MatchBool live (branches.StandsFor new.branch (blocks.released (state_of m) number)) (branches.StandsFor new.branch (state_of m)) → MatchBool live (StandsOn new (released m number) told) (StandsOn new m told)
released_on true old new m number told same stands branch = stands_apart old new m (without_pin m.pins number) told same stands branch
released_on false old new m number told same stands branch = stands_apart old new m m.pins told same stands branch
