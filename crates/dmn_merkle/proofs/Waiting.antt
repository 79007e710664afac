-- Hashes that wait, one a level: their number, and one more of them.
use Rattle.std.proofs.Common.{pow-suc, ◌≡◌, ℕ, zero, suc, ◌+◌, ◌*◌, ◌^◌, ◌≤◌, ◌<◌, List, [], ◌∷◌, ◌++◌, length, get_or, set, take, drop, refl, sym, ap, subst, ◌∙◌, inl, inr, add-one, arith}
use Rattle.std.proofs.lemmas.Bool.{cases_lt}
use Rattle.std.proofs.lemmas.Nat.{pow_below}
use Rattle.std.specs.Prelude.{Option, Some, None}
use Rattle.std.proofs.lemmas.List.{take_at, length-take, append-nil, drop_more, set_split}
use Rattle.dmn_bytes.specs.declared.hash.Hash256.{Hash256}
use Rattle.dmn_merkle.specs.Defs.{pair, zero_hash}
use Rattle.dmn_merkle.specs.OnePass.{added, finished, count_of}
use Rattle.dmn_merkle.proofs.Levels.{root_of_none}

pub one_counted : (x : Hash256) (levels : List (Option Hash256)) → count_of (added x levels) ≡ count_of levels + 1
unfolding count_of
one_counted x [] = refl
one_counted x (None ∷ levels) = refl
one_counted x (Some a ∷ levels) = omega (arith, one_counted (pair a x) levels)

twice : (k : ℕ) → 2 ^ suc k ≡ 2 * 2 ^ k
twice k = let e : 2 ^ suc k ≡ 2 ^ k * 2 = pow-suc 2 k in omega arith

-- a hash that waits on top stands for as many as a tree of its height has
top_counted : (below : List (Option Hash256)) (x : Hash256) → 2 ^ length below ≤ count_of (below ++ Some x ∷ [])
unfolding count_of
top_counted [] x = omega arith
top_counted (None ∷ below) x = omega (arith, twice (length below), top_counted below x)
top_counted (Some a ∷ below) x = omega (arith, twice (length below), top_counted below x)

-- the levels in use are so many
pub in_use : (new waiting : List (Option Hash256)) (n : ℕ) → length new ≡ length (take n waiting) → n ≤ length waiting → length new ≡ n
in_use new waiting n is le = omega (arith, length-take n waiting)

-- 64 levels are enough for as many hashes as a program counts
few_levels : (old new : List (Option Hash256)) (x top : Hash256) → new ++ Some top ∷ [] ≡ added x old → count_of old + 1 < 2 ^ 64 → length new < 64
few_levels old new x top is room =
    let low : 2 ^ length new ≤ count_of old + 1 = subst (λ (n : ℕ). 2 ^ length new ≤ n) (ap count_of is ∙ one_counted x old) (top_counted new top) in
    elim (cases_lt (length new) 64) [
      | inl lt ↦ lt
      | inr le ↦ elim (cases_lt 64 (length new)) [
        | inl more ↦ let high : 2 ^ 64 < 2 ^ length new = pow_below 64 (length new) more in absurd (omega arith)
        | inr most ↦ let same : 64 ≡ length new = omega arith in let high : 2 ^ 64 ≡ 2 ^ length new = ap (λ (n : ℕ). 2 ^ n) same in absurd (omega arith)
      ]
    ]

pub is_room : (old new waiting : List (Option Hash256)) (x top : Hash256) (n : ℕ) → length new ≡ length (take n waiting) → n ≤ 64 → length waiting ≡ 64 → new ++ Some top ∷ [] ≡ added x old → count_of old + 1 < 2 ^ 64 → n < 64
is_room old new waiting x top n len le all is room = omega (arith, few_levels old new x top is room, in_use new waiting n len (omega arith))

-- the levels in use stand in front of those that aren't, where no hash rises out of them .. that aren't in use, where no hash rises out of them ..
pub none_risen : (old new rest : List (Option Hash256)) (x : Hash256) (n : ℕ) → length new ≡ n → new ++ [] ≡ added x old → take n (new ++ rest) ≡ added x old
none_risen old new rest x n len is = take_at new rest n len ∙ sym (append-nil new) ∙ is

one_on_top : (new rest : List (Option Hash256)) (n : ℕ) (x : Option Hash256) → length new ≡ n → 0 < length rest → take (n + 1) (set (new ++ rest) n x) ≡ new ++ x ∷ []
one_on_top [] [] n x is some = absurd (omega arith)
one_on_top [] (p ∷ rest) n x is some = rw (← is) refl
one_on_top (p ∷ new) rest zero x is some = absurd (omega arith)
one_on_top (p ∷ new) rest (suc n) x is some =
    let more : suc n + 1 ≡ suc (n + 1) = omega arith in
    rw more (ap (λ (l : List (Option Hash256)). p ∷ l) (one_on_top new rest n x (omega arith) some))

-- .. and where one does
pub one_risen : (old new rest : List (Option Hash256)) (x top : Hash256) (n : ℕ) → length new ≡ n → 0 < length rest → new ++ Some top ∷ [] ≡ added x old → take (n + 1) (set (new ++ rest) n (Some top)) ≡ added x old
one_risen old new rest x top n len some is = one_on_top new rest n (Some top) len some ∙ is

-- what adding on the levels from i on will give
abbrev pub adding : ℕ → Hash256 → List (Option Hash256) → List (Option Hash256)
adding i carry now = take i now ++ added carry (drop i now)

here : (now : List (Option Hash256)) (i : ℕ) (x : Option Hash256) → i < length now → x ≡ get_or now i x → drop i now ≡ x ∷ drop (i + 1) now
here now i x h e = drop_more now i x h ∙ rw (← e) refl

pub rests : (now : List (Option Hash256)) (i : ℕ) (carry : Hash256) → i < length now → None ≡ get_or now i None
    → set now i (Some carry) ++ [] ≡ adding i carry now
rests now i carry h e =
    append-nil (set now i (Some carry)) ∙ set_split now i (Some carry) h ∙ rw (here now i None h e, add-one) refl

pub none_waits : (levels : List (Option Hash256)) → length levels ≡ 0 → zero_hash ≡ finished levels []
none_waits [] h = sym root_of_none
none_waits (p ∷ levels) h = absurd (omega arith)
