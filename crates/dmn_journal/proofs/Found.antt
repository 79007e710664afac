-- What stands at a gate's place.
use Rattle.std.proofs.Common.{◌≡◌, ◌≢◌, ℕ, ◌+◌, ◌==◌, Bool, true, false, List, [], ◌∷◌, ◌++◌, length, take, drop, ap, ◌∙◌, arith, refl, nat_lt, if◌then◌else◌, append_assoc, eq-eqb}
use Rattle.std.specs.Prelude.{Option, None, Some}
use Rattle.std.specs.Int.{w32, to_le_bytes, from_le_bytes}
use Rattle.std.proofs.lemmas.Bool.{le-ltb}
use Rattle.std.proofs.lemmas.Bool.Decides.{nat_tests}
use Rattle.std.proofs.lemmas.List.{take_at}
use Rattle.std.proofs.lemmas.Nat.{from_le_bytes-to_le_bytes_4}
use Rattle.dmn_journal.specs.Journal.{Entry}
use Rattle.dmn_journal.specs.Laws.{OthersAreClosed, RecordsAreFound}
use Rattle.dmn_journal.specs.Reading.{Found, by_gate, closed, content_at, departs, entry_at, entry_departs, formed, found_at, sized_at}

-- a record in form is found
pub record_found : RecordsAreFound
unfolding found_at
record_found at text rest entry form short is =
    let size : ℕ = length entry.body + 1 in
    let content : List ℕ = entry.kind ∷ entry.body in
    let front : sized_at at (to_le_bytes w32 size) (content ++ rest) ≡ content_at at size (take size (content ++ rest)) = ap (λ (k : ℕ). content_at at k (take k (content ++ rest))) (from_le_bytes-to_le_bytes_4 size short) in
    let inner : take size (content ++ rest) ≡ content = take_at content rest size (omega arith) in
    let long : nat_lt (length content) size ≡ false = le-ltb (length content) size (omega arith) in
    ap (λ (l : List ℕ). by_gate at (take 1 l) (drop 1 l)) (is ∙ ap (λ (l : List ℕ). 1 ∷ l) (append_assoc (to_le_bytes w32 size) content rest))
    ∙ front ∙ ap (λ (l : List ℕ). content_at at size l) inner ∙ rw long (ap (λ (o : Option ℕ). formed at entry o) form)

is_one : (gate : ℕ) → (gate == 1) ≡ true → gate ≡ 1
is_one gate e = grind (arith, nat_tests)

pub other_closed : OthersAreClosed
unfolding found_at
other_closed at text rest gate is shut = ap (λ (l : List ℕ). by_gate at (take 1 l) (drop 1 l)) is ∙ shut_is (gate == 1) refl
  where
    shut_is : (b : Bool) → (gate == 1) ≡ b → by_gate at (gate ∷ []) rest ≡ closed
    shut_is true e = absurd (shut (is_one gate e))
    shut_is false e = rw e refl

-- ---- and the other way

formed_open : (at : ℕ) (entry : Entry) (o : Option ℕ) → formed at entry o ≡ closed → ⊥
formed_open at entry None is = cc
formed_open at entry (Some place) is = cc

entry_open : (at : ℕ) (content : List ℕ) → entry_at at content ≡ closed → ⊥
entry_open at [] is = cc
entry_open at (kind ∷ body) is = formed_open at (record { kind = kind; body = body }) (entry_departs (record { kind = kind; body = body })) is

content_open : (b : Bool) (at : ℕ) (content : List ℕ) → if◌then◌else◌ {A = Found} b (departs (at + 5)) (entry_at at content) ≡ closed → ⊥
content_open true at content is = cc
content_open false at content is = entry_open at content is

sized_open : (at : ℕ) (sizes rest : List ℕ) → sized_at at sizes rest ≡ closed → ⊥
sized_open at [] rest is = cc
sized_open at (a ∷ []) rest is = cc
sized_open at (a ∷ b ∷ []) rest is = cc
sized_open at (a ∷ b ∷ c ∷ []) rest is = cc
sized_open at (a ∷ b ∷ c ∷ d ∷ []) rest is = let size : ℕ = from_le_bytes w32 (a ∷ b ∷ c ∷ d ∷ []) in content_open (nat_lt (length (take size rest)) size) at (take size rest) is
sized_open at (a ∷ b ∷ c ∷ d ∷ e ∷ more) rest is = cc

-- a byte that isn't 1 stands at the front
pub record ClosedGate (text : List ℕ) : Type 0 where
  pub gate : ℕ
  pub rest : List ℕ
  pub is : text ≡ gate ∷ rest
  pub shut : gate ≢ 1

pub closed_gate : (at : ℕ) (text : List ℕ) → found_at at text ≡ closed → ClosedGate text
unfolding found_at
closed_gate at [] is = let wrong : ⊥ = cc in absurd wrong
closed_gate at (gate ∷ rest) is = record {
  gate = gate;
  rest = rest;
  is = refl;
  shut = λ (one : gate ≡ 1). let open_gate : (gate == 1) ≡ true = eq-eqb gate 1 one in sized_open at (take 4 rest) (drop 4 rest) (rw open_gate at is);
}
