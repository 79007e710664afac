-- The newest of two slots, while the other one is written and after.
use Rattle.std.proofs.Common.{◌≡◌, ◌⊎◌, inl, inr, ℕ, ◌+◌, ◌<◌, ◌≤◌, ◌==◌, Bool, true, false, refl, sym, ap, subst, ◌∙◌, arith, nat_lt, if◌then◌else◌}
use Rattle.std.specs.Prelude.{Option, None, Some, IfSome}
use Rattle.std.proofs.lemmas.Bool.{le-ltb, lt-ltb}
use Rattle.dmn_snapshot.specs.Slot.{newer}
use Rattle.dmn_snapshot.specs.declared.slot.Slot.{Slot}
use Rattle.dmn_snapshot.specs.declared.slot.Stored.{Stored}
use Rattle.dmn_slots.specs.Laws.{NewestStays, NextIsNewest, NextKeepsBounds, OrderStays, StayInOrder}
use Rattle.dmn_slots.specs.declared.mark.Mark.{Mark}
use Rattle.dmn_slots.specs.Slots.{AreInOrder, IsNext, IsOlder, Slots, mark_in, newest_mark, newest_of, records_of, sequence_of, spare, with_spare}

abbrev pub pair : Option Stored → Option Stored → Slots
pair a b = record { first = a; second = b }

abbrev slot_1 : Stored → Slot
slot_1 a = record { number = 1; stored = a }

abbrev slot_2 : Stored → Slot
slot_2 b = record { number = 2; stored = b }

pub newer_two : (a b : Stored) (c : Bool) → nat_lt a.sequence b.sequence ≡ c → newer (Some a) (Some b) ≡ (if c then Some (slot_2 b) else Some (slot_1 a))
newer_two a b c e = rw e refl

-- ---- which of them is the newest

-- what two slots are, by which of them is the newest
pub data Which : Slots → Type 0 where
  none : Which (pair None None)
  first : (a : Stored) (b : Option Stored) → newest_of (pair (Some a) b) ≡ Some (slot_1 a) → Which (pair (Some a) b)
  second : (a : Option Stored) (b : Stored) → newest_of (pair a (Some b)) ≡ Some (slot_2 b) → Which (pair a (Some b))

which_two : (a b : Stored) (c : Bool) → nat_lt a.sequence b.sequence ≡ c → Which (pair (Some a) (Some b))
which_two a b true e = second (Some a) b (newer_two a b true e)
which_two a b false e = first a (Some b) (newer_two a b false e)

which_by : (a b : Option Stored) → Which (pair a b)
which_by None None = none
which_by (Some a) None = first a None refl
which_by None (Some b) = second None b refl
which_by (Some a) (Some b) = which_two a b (nat_lt a.sequence b.sequence) refl

pub which : (slots : Slots) → Which slots
which slots = which_by slots.first slots.second

-- where the first is the newest, the other one is written
pub beside_first : (a : Stored) (b o : Option Stored) → newest_of (pair (Some a) b) ≡ Some (slot_1 a) → with_spare o (pair (Some a) b) ≡ pair (Some a) o
beside_first a b o is = ap (λ (n : Option Slot). Rattle.dmn_slots.specs.Slots.with_slot (spare (mark_in n)) o (pair (Some a) b)) is

pub beside_second : (a : Option Stored) (b : Stored) (o : Option Stored) → newest_of (pair a (Some b)) ≡ Some (slot_2 b) → with_spare o (pair a (Some b)) ≡ pair o (Some b)
beside_second a b o is = ap (λ (n : Option Slot). Rattle.dmn_slots.specs.Slots.with_slot (spare (mark_in n)) o (pair a (Some b))) is

-- ---- the newest stays, or is the new one

stays : (slots : Slots) → Which slots → newest_of (with_spare None slots) ≡ newest_of slots
stays slots none = refl
stays slots (first a b is) = ap newest_of (beside_first a b None is) ∙ sym is
stays slots (second a b is) = ap newest_of (beside_second a b None is) ∙ sym is

pub newest_stays : NewestStays
newest_stays slots = stays slots (which slots)

-- what is next is newer than the newest
newer_first : (slots : Slots) (a : Stored) (next : Stored) → newest_of slots ≡ Some (slot_1 a) → IsNext slots next → IsOlder a next
newer_first slots a next is n = record {
  sequence = omega (arith, n.sequence, ap (λ (o : Option Slot). sequence_of (mark_in o)) is);
  records = omega (arith, n.records, ap (λ (o : Option Slot). records_of (mark_in o)) is);
}

newer_second : (slots : Slots) (b : Stored) (next : Stored) → newest_of slots ≡ Some (slot_2 b) → IsNext slots next → IsOlder b next
newer_second slots b next is n = record {
  sequence = omega (arith, n.sequence, ap (λ (o : Option Slot). sequence_of (mark_in o)) is);
  records = omega (arith, n.records, ap (λ (o : Option Slot). records_of (mark_in o)) is);
}

goes_on : (slots : Slots) (next : Stored) → Which slots → IsNext slots next → newest_of (with_spare (Some next) slots) ≡ Some (record { number = spare (newest_mark slots); stored = next })
goes_on slots next none n = refl
goes_on slots next (first a b is) n =
    let old = newer_first (pair (Some a) b) a next is n in
    ap newest_of (beside_first a b (Some next) is) ∙ newer_two a next true (lt-ltb a.sequence next.sequence old.sequence)
    ∙ ap (λ (o : Option Slot). Some (record { number = spare (mark_in o); stored = next })) (sym is)
goes_on slots next (second a b is) n =
    let old = newer_second (pair a (Some b)) b next is n in
    ap newest_of (beside_second a b (Some next) is) ∙ newer_two next b false (le-ltb next.sequence b.sequence (omega (arith, old.sequence)))
    ∙ ap (λ (o : Option Slot). Some (record { number = spare (mark_in o); stored = next })) (sym is)

pub next_is_newest : NextIsNewest
next_is_newest slots next n = goes_on slots next (which slots) n

-- ---- their order

in_order : (slots : Slots) → Which slots → AreInOrder slots → StayInOrder slots
in_order slots none ordered = record { without = tt; next = λ next n. tt }
in_order slots (first a b is) ordered = record {
  without = subst AreInOrder (sym (beside_first a b None is)) tt;
  next = λ next n. subst AreInOrder (sym (beside_first a b (Some next) is)) (inl (newer_first (pair (Some a) b) a next is n));
}
in_order slots (second a b is) ordered = record {
  without = subst AreInOrder (sym (beside_second a b None is)) tt;
  next = λ next n. subst AreInOrder (sym (beside_second a b (Some next) is)) (inr (newer_second (pair a (Some b)) b next is n));
}

pub order_stays : OrderStays
order_stays slots ordered = in_order slots (which slots) ordered

-- ---- bounds

pub next_bounds : NextKeepsBounds
next_bounds None next b n place end = record { first = omega (arith, n.sequence); most = omega (arith, n.sequence); place = place; end = end }
next_bounds (Some mark) next b n place end = record { first = omega (arith, n.sequence); most = omega (arith, n.sequence, b.most, n.records); place = place; end = end }

-- which slot is written next
pub spare_is : (newest : Option Mark) → (spare newest ≡ 1) ⊎ (spare newest ≡ 2)
spare_is None = inl refl
spare_is (Some mark) = go (mark.number == 1)
  where
    go : (b : Bool) → (if◌then◌else◌ {A = ℕ} b 2 1 ≡ 1) ⊎ (if◌then◌else◌ {A = ℕ} b 2 1 ≡ 2)
    go true = inr refl
    go false = inl refl
