-- Texts that stand for themselves in JSON.
use Rattle.std.proofs.Common.{◌≡◌, ◌≢◌, ℕ, ◌≤◌, true, false, Bool, List, [], ◌∷◌, ◌++◌, refl, ap, ◌∙◌, arith, append_assoc}
use Rattle.std.specs.Prelude.{not, ◌&&◌, ◌==◌, nat_le}
use Rattle.std.specs.List.{list_all}
use Rattle.std.proofs.lemmas.Bool.{eqb-false, leb-true, le-ltb}
use Rattle.std.proofs.lemmas.Bool.Decides.{eqb_tells}
use Rattle.std.proofs.Common.{eqb, ltb, inl, inr}
use Rattle.json.specs.Print.{escape_byte, escape}
use Rattle.dmn_http.specs.Steps.{is_plain}

differs : (a b : ℕ) → a ≢ b → eqb a b ≡ false
differs a b ne = elim (eqb_tells a b) [ inl same ↦ absurd (ne same.1) | inr other ↦ other.0 ]

plain_byte : (b : ℕ) → 32 ≤ b → b ≢ 34 → b ≢ 92 → escape_byte b ≡ b ∷ []
unfolding escape_byte
plain_byte b low quote slash =
    let a : eqb b 34 ≡ false = differs b 34 quote in
    let c : eqb b 92 ≡ false = differs b 92 slash in
    let d : eqb b 8 ≡ false = differs b 8 (omega arith) in
    let e : eqb b 12 ≡ false = differs b 12 (omega arith) in
    let f : eqb b 10 ≡ false = differs b 10 (omega arith) in
    let g : eqb b 13 ≡ false = differs b 13 (omega arith) in
    let h : eqb b 9 ≡ false = differs b 9 (omega arith) in
    let k : ltb b 32 ≡ false = le-ltb b 32 low in
    rw (a, c, d, e, f, g, h, k)

parts : (l q s more : Bool) → ((l && not q && not s) && more) ≡ true → (l ≡ true) × (q ≡ false) × (s ≡ false) × (more ≡ true)
parts true false false more e = (refl, refl, refl, e)
parts true true s more e = absurd (cc e)
parts true false true more e = absurd (cc e)
parts false q s more e = absurd (cc e)

split_plain : (b : ℕ) (more : Bool) → (is_plain b && more) ≡ true → (32 ≤ b) × (b ≢ 34) × (b ≢ 92) × (more ≡ true)
split_plain b more e =
    let p = parts (nat_le 32 b) (b == 34) (b == 92) more e in
    (leb-true 32 b p.0, eqb-false b 34 p.1, eqb-false b 92 p.2, p.3)

pub escape_plain : (s : List ℕ) → list_all is_plain s ≡ true → escape s ≡ s
escape_plain [] e = refl
escape_plain (b ∷ rest) e =
    let p = split_plain b (list_all is_plain rest) e in
    ap (λ (l : List ℕ). l ++ escape rest) (plain_byte b p.0 p.1 p.2) ∙ ap (λ (l : List ℕ). b ∷ l) (escape_plain rest p.3)

pub error_same : (name : List ℕ) → list_all is_plain name ≡ true → (escape name ++ 34 ∷ []) ++ 125 ∷ [] ≡ name ++ 34 ∷ 125 ∷ []
error_same name plain = ap (λ (l : List ℕ). (l ++ 34 ∷ []) ++ 125 ∷ []) (escape_plain name plain) ∙ append_assoc name (34 ∷ []) (125 ∷ [])
