-- What is kept of two slots, while the journal grows and while one of them is written.
use Rattle.std.proofs.Common.{◌≡◌, ◌⊎◌, inl, inr, ℕ, ◌+◌, ◌<◌, ◌≤◌, refl, sym, ap, subst, ◌∙◌, arith}
use Rattle.std.specs.Prelude.{Option, None, Some, IfSome}
use Rattle.dmn_snapshot.specs.declared.slot.Slot.{Slot}
use Rattle.dmn_snapshot.specs.declared.slot.Stored.{Stored}
use Rattle.dmn_slots.specs.Slots.{AreInOrder, AreKept, IsNext, Slots, mark_in, newest_mark, newest_of, records_of, with_spare}
use Rattle.dmn_slots.proofs.Newest.{Which, none, first, second, beside_first, beside_second, newest_stays, next_is_newest, order_stays, pair, which}

-- ---- a value that is there

pub if_some : {A : Type 0} (P Q : A → Type 0) (o : Option A) → ((a : A) → P a → Q a) → IfSome o P → IfSome o Q
if_some P Q None f p = tt
if_some P Q (Some a) f p = f a p

-- ---- more records

-- Each slot stays right for a journal that is longer, where its tail is still short.
pub kept_more : (P Q : Stored → Type 0) (n tail k more : ℕ) (slots : Slots) → ((s : Stored) → P s → Q s) → k ≤ records_of (newest_mark slots) + more → AreKept P n tail slots → AreKept Q k more slots
kept_more P Q n tail k more slots f few kept = record {
  first = if_some P Q slots.first f kept.first;
  second = if_some P Q slots.second f kept.second;
  ordered = kept.ordered;
  tail_is = few;
}

-- ---- one slot is written

record Each (P : Stored → Type 0) (slots : Slots) : Type 0 where
  one : IfSome slots.first P
  two : IfSome slots.second P

each_with : (P : Stored → Type 0) (slots : Slots) (o : Option Stored) → Which slots → IfSome o P → Each P slots → Each P (with_spare o slots)
each_with P slots o none p each = record { one = p; two = each.two }
each_with P slots o (first a b is) p each = subst (Each P) (sym (beside_first a b o is)) (record { one = each.one; two = p })
each_with P slots o (second a b is) p each = subst (Each P) (sym (beside_second a b o is)) (record { one = p; two = each.two })

-- without the one that is written
pub kept_without : (P : Stored → Type 0) (n tail : ℕ) (slots : Slots) → AreKept P n tail slots → AreKept P n tail (with_spare None slots)
kept_without P n tail slots kept =
    let each = each_with P slots None (which slots) tt (record { one = kept.first; two = kept.second }) in
    record {
      first = each.one;
      second = each.two;
      ordered = (order_stays slots kept.ordered).without;
      tail_is = subst (λ (o : Option Slot). n ≤ records_of (mark_in o) + tail) (sym (newest_stays slots)) kept.tail_is;
    }

-- with the new one
pub kept_with : (P : Stored → Type 0) (n tail : ℕ) (slots : Slots) (next : Stored) → P next → IsNext slots next → n ≤ next.records + tail → AreKept P n tail slots → AreKept P n tail (with_spare (Some next) slots)
kept_with P n tail slots next p is few kept =
    let each = each_with P slots (Some next) (which slots) p (record { one = kept.first; two = kept.second }) in
    record {
      first = each.one;
      second = each.two;
      ordered = (order_stays slots kept.ordered).next next is;
      tail_is = subst (λ (o : Option Slot). n ≤ records_of (mark_in o) + tail) (sym (next_is_newest slots next is)) few;
    }

-- the newest slot has P
pub newest_has : (P : Stored → Type 0) (n tail : ℕ) (slots : Slots) → AreKept P n tail slots → IfSome (newest_of slots) (λ slot. P slot.stored)
newest_has P n tail slots kept = go slots (which slots) kept.first kept.second
  where
    go : (s : Slots) → Which s → IfSome s.first P → IfSome s.second P → IfSome (newest_of s) (λ slot. P slot.stored)
    go s none p q = tt
    go s (first a b is) p q = subst (λ (o : Option Slot). IfSome o (λ slot. P slot.stored)) (sym is) p
    go s (second a b is) p q = subst (λ (o : Option Slot). IfSome o (λ slot. P slot.stored)) (sym is) q
