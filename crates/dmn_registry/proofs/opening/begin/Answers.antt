use Rattle.std.proofs.Common.{◌≡◌, inr, refl, sym, ap, subst, ◌∙◌}
use Rattle.std.specs.Prelude.{Option, Some, IfSome}
use Rattle.dmn_registry.proofs.opening.begin.Goals as goal
use Rattle.dmn_slots.specs.Slots.{IsWithin, mark_in}
use Rattle.dmn_slots.specs.declared.mark.Mark.{Mark}
use Rattle.dmn_snapshot.specs.Slot.{IsBounded}
use Rattle.dmn_snapshot.specs.declared.slot.Slot.{Slot}

bounded : (slot : Option Slot) (from : Slot) → slot ≡ Some from → IfSome slot (λ s. IsBounded s.stored) → IsBounded from.stored
bounded slot from is bounds = subst (λ (o : Option Slot). IfSome o (λ s. IsBounded s.stored)) is bounds

pub returns-in-Ok-clause-begins : goal.returns-in-Ok-clause-begins
returns-in-Ok-clause-begins c = record {
  usable = refl;
  newest = ap (λ (k : Mark). Some k) c.of-mark.ensures ∙ ap mark_in (sym c.in-Some.is);
  within = subst IsWithin (sym c.of-mark.ensures) (bounded c.args.slot c.in-Some.slot c.in-Some.is c.requires.bounds);
  at = inr (record {
    from = c.in-Some.slot;
    is = c.in-Some.is;
    branch = λ s start lawful holds. c.in-Ok.ensures.stands s start lawful holds;
    end = ap (λ (k : Mark). k.position) c.of-mark.ensures;
    records = ap (λ (k : Mark). k.records) c.of-mark.ensures;
  });
}
