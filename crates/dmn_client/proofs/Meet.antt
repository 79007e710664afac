-- Two folds that meet at one root come from one text, or a collision is among what they hash.
use Rattle.std.proofs.Common.{◌≡◌, ℕ, zero, suc, ◌-◌, ◌≤◌, ◌<◌, List, [], ◌∷◌, ◌++◌, length, take, drop, refl, sym, ap, subst, ◌∙◌, arith}
use Rattle.std.proofs.Math.Logic.{◌⊎◌, inl, inr, ⊎_elim}
use Rattle.std.specs.Prelude.{Bool, true, false}
use Rattle.std.specs.List.{Contains, AllByRecursion}
use Rattle.std.specs.Str.{bytes_eq}
use Rattle.std.proofs.lemmas.Slice.Eq.{bytes_eq-Decides}
use Rattle.std.proofs.lemmas.List.{length-append, take_at, take-append-drop, length-drop}
use Rattle.std.proofs.lemmas.List.Elements.{Contains-append_left, Contains-append_right}
use Rattle.std.proofs.lemmas.Bool.{cases_lt}
use Rattle.sha2.specs.Sha256.{sha256}
use Rattle.sha2.proofs.Facts256.{length-sha256}
use Rattle.dmn_bytes.specs.declared.hash.Hash256.{Hash256}
use Rattle.dmn_bytes.specs.Hash.{dsha}
use Rattle.dmn_merkle.specs.Defs.{pair}
use Rattle.dmn_merkle.specs.Branch.{folded}
use Rattle.dmn_client.specs.Collision.{Collision, digest, fold_texts, HasHashLength}

-- ---- digests

pub length_dsha : (t : List ℕ) → length (dsha t) ≡ 32
unfolding dsha
length_dsha t = length-sha256 (sha256 t)

pub pair_is : (a b : Hash256) → (pair a b).0 ≡ dsha (a.0 ++ b.0)
unfolding pair
pair_is a b = refl

pub length_pair : (a b : Hash256) → HasHashLength (pair a b)
length_pair a b = ap (λ (t : List ℕ). length t) (pair_is a b) ∙ length_dsha (a.0 ++ b.0)

-- ---- elements

pub at_head : (x : List ℕ) (xs : List (List ℕ)) → Contains (x ∷ xs) x
at_head x xs = (0, (omega arith), refl)

pub behind : (y x : List ℕ) (xs : List (List ℕ)) → Contains xs x → Contains (y ∷ xs) x
behind y x xs h = Contains-append_right (y ∷ []) xs x h

-- ---- a collision, or the same text

same_or_not : (texts : List (List ℕ)) (a b : List ℕ) (t : Bool) → bytes_eq a b ≡ t → Contains texts a → Contains texts b → dsha a ≡ dsha b → Collision texts ⊎ (a ≡ b)
same_or_not texts a b true e p q s = inr ((bytes_eq-Decides a b).0 e)
same_or_not texts a b false e p q s =
    inl (record { first = a; second = b; has_first = p; has_second = q; differ = λ (h : a ≡ b). (let u : bytes_eq a b ≡ true = (bytes_eq-Decides a b).1 h in absurd cc); same = s })

pub same_text : (texts : List (List ℕ)) (a b : List ℕ) → Contains texts a → Contains texts b → dsha a ≡ dsha b → Collision texts ⊎ (a ≡ b)
same_text texts a b p q s = same_or_not texts a b (bytes_eq a b) refl p q s

-- a collision among some of the texts is one among all of them
pub among : (few many : List (List ℕ)) → ((x : List ℕ) → Contains few x → Contains many x) → Collision few → Collision many
among few many sub c = record { first = c.first; second = c.second; has_first = sub c.first c.has_first; has_second = sub c.second c.has_second; differ = c.differ; same = c.same }

hash_of : List ℕ → Hash256
hash_of bytes = record { 0 = bytes }

pub same_left : (a b c d : Hash256) → HasHashLength a → HasHashLength c → a.0 ++ b.0 ≡ c.0 ++ d.0 → a.0 ≡ c.0
same_left a b c d la lc e =
    let p : take 32 (a.0 ++ b.0) ≡ a.0 = take_at a.0 b.0 32 la in
    let q : take 32 (c.0 ++ d.0) ≡ c.0 = take_at c.0 d.0 32 lc in
    sym p ∙ (ap (λ (t : List ℕ). take 32 t) e ∙ q)

-- ---- folds

folded_append : (a : Hash256) (front back : List Hash256) → folded a (front ++ back) ≡ folded (folded a front) back
folded_append a [] back = refl
folded_append a (s ∷ front) back = folded_append (pair a s) front back

texts_append : (a : Hash256) (front back : List Hash256) → fold_texts a (front ++ back) ≡ fold_texts a front ++ fold_texts (folded a front) back
texts_append a [] back = refl
texts_append a (s ∷ front) back = ap (λ (ts : List (List ℕ)). (a.0 ++ s.0) ∷ ts) (texts_append (pair a s) front back)

folded_length : (a : Hash256) (ss : List Hash256) → HasHashLength a → HasHashLength (folded a ss)
folded_length a [] h = h
folded_length a (s ∷ ss) h = folded_length (pair a s) ss (length_pair a s)

-- two folds of one depth
pub level_meet : (texts : List (List ℕ)) (a b : Hash256) (ss ts : List Hash256) → HasHashLength a → HasHashLength b → length ss ≡ length ts
    → ((x : List ℕ) → Contains (fold_texts a ss) x → Contains texts x) → ((x : List ℕ) → Contains (fold_texts b ts) x → Contains texts x)
    → folded a ss ≡ folded b ts → Collision texts ⊎ (a.0 ≡ b.0)
level_meet texts a b [] [] la lb l p q e = inr (ap (λ (h : Hash256). h.0) e)
level_meet texts a b [] (t ∷ ts) la lb l p q e = absurd (omega arith)
level_meet texts a b (s ∷ ss) [] la lb l p q e = absurd (omega arith)
level_meet texts a b (s ∷ ss) (t ∷ ts) la lb l p q e =
    one_down texts a b s t la lb
    (p (a.0 ++ s.0) (at_head (a.0 ++ s.0) (fold_texts (pair a s) ss)))
    (q (b.0 ++ t.0) (at_head (b.0 ++ t.0) (fold_texts (pair b t) ts)))
    (level_meet texts (pair a s) (pair b t) ss ts (length_pair a s) (length_pair b t) (omega arith)
    (λ x h. p x (behind (a.0 ++ s.0) x (fold_texts (pair a s) ss) h)) (λ x h. q x (behind (b.0 ++ t.0) x (fold_texts (pair b t) ts) h)) e)
  where
    down : (texts : List (List ℕ)) (a b s t : Hash256) → HasHashLength a → HasHashLength b → Collision texts ⊎ (a.0 ++ s.0 ≡ b.0 ++ t.0) → Collision texts ⊎ (a.0 ≡ b.0)
    down texts a b s t la lb (inl c) = inl c
    down texts a b s t la lb (inr e) = inr (same_left a s b t la lb e)

    one_down : (texts : List (List ℕ)) (a b s t : Hash256) → HasHashLength a → HasHashLength b → Contains texts (a.0 ++ s.0) → Contains texts (b.0 ++ t.0) → Collision texts ⊎ ((pair a s).0 ≡ (pair b t).0) → Collision texts ⊎ (a.0 ≡ b.0)
    one_down texts a b s t la lb p q (inl c) = inl c
    one_down texts a b s t la lb p q (inr e) = down texts a b s t la lb (same_text texts (a.0 ++ s.0) (b.0 ++ t.0) p q (sym (pair_is a s) ∙ (e ∙ pair_is b t)))

-- the last text of a fold of one level and more
pub record TopText (texts : List (List ℕ)) (hash : Hash256) : Type 0 where
  pub text : List ℕ
  pub has : Contains texts text
  pub long : length text ≡ 64
  pub is : hash.0 ≡ dsha text

pub top_text : (a s : Hash256) (ss : List Hash256) → HasHashLength a → AllByRecursion HasHashLength (s ∷ ss) → TopText (fold_texts a (s ∷ ss)) (folded a (s ∷ ss))
top_text a s [] la (ls, all) = record {
  text = a.0 ++ s.0;
  has = at_head (a.0 ++ s.0) [];
  long = length-append a.0 s.0 ∙ omega arith;
  is = pair_is a s;
}
top_text a s (t ∷ ss) la (ls, all) =
    let r : TopText (fold_texts (pair a s) (t ∷ ss)) (folded (pair a s) (t ∷ ss)) = top_text (pair a s) t ss (length_pair a s) all in
    record { text = r.text; has = behind (a.0 ++ s.0) r.text (fold_texts (pair a s) (t ∷ ss)) r.has; long = r.long; is = r.is }

-- the fold of Y is as deep as that of X, or deeper
one_side : (texts : List (List ℕ)) (x y : List ℕ) (ss front back : List Hash256) → (length x ≡ 64 → ⊥) → AllByRecursion HasHashLength front → length ss ≡ length back
    → Contains texts x → Contains texts y
    → ((t : List ℕ) → Contains (fold_texts (digest x) ss) t → Contains texts t) → ((t : List ℕ) → Contains (fold_texts (digest y) (front ++ back)) t → Contains texts t)
    → folded (digest x) ss ≡ folded (digest y) (front ++ back) → Collision texts ⊎ (x ≡ y)
one_side texts x y ss [] back long all l px py p q e =
    bottom texts x y px py (level_meet texts (digest x) (digest y) ss back (length_dsha x) (length_dsha y) l p q e)
  where
    bottom : (texts : List (List ℕ)) (x y : List ℕ) → Contains texts x → Contains texts y → Collision texts ⊎ (dsha x ≡ dsha y) → Collision texts ⊎ (x ≡ y)
    bottom texts x y px py (inl c) = inl c
    bottom texts x y px py (inr e) = same_text texts x y px py e
one_side texts x y ss (s ∷ front) back long all l px py p q e =
    let top : TopText (fold_texts (digest y) (s ∷ front)) (folded (digest y) (s ∷ front)) = top_text (digest y) s front (length_dsha y) all in
    let parts : fold_texts (digest y) ((s ∷ front) ++ back) ≡ fold_texts (digest y) (s ∷ front) ++ fold_texts (folded (digest y) (s ∷ front)) back = texts_append (digest y) (s ∷ front) back in
    let q2 : (t : List ℕ) → Contains (fold_texts (digest y) (s ∷ front) ++ fold_texts (folded (digest y) (s ∷ front)) back) t → Contains texts t
    = subst (λ (ts : List (List ℕ)). (t : List ℕ) → Contains ts t → Contains texts t) parts q in
    shorter_one texts x y (folded (digest y) (s ∷ front)) top.text long top.long px
    (q2 top.text (Contains-append_left (fold_texts (digest y) (s ∷ front)) (fold_texts (folded (digest y) (s ∷ front)) back) top.text top.has)) top.is
    (level_meet texts (digest x) (folded (digest y) (s ∷ front)) ss back (length_dsha x) (folded_length (digest y) (s ∷ front) (length_dsha y)) l p
    (λ t h. q2 t (Contains-append_right (fold_texts (digest y) (s ∷ front)) (fold_texts (folded (digest y) (s ∷ front)) back) t h))
    (e ∙ folded_append (digest y) (s ∷ front) back))
  where
    never : (texts : List (List ℕ)) (x y t : List ℕ) → (length x ≡ 64 → ⊥) → length t ≡ 64 → Collision texts ⊎ (x ≡ t) → Collision texts ⊎ (x ≡ y)
    never texts x y t long short (inl c) = inl c
    never texts x y t long short (inr e) = absurd (long (ap (λ (u : List ℕ). length u) e ∙ short))

    shorter_one : (texts : List (List ℕ)) (x y : List ℕ) (h : Hash256) (t : List ℕ) → (length x ≡ 64 → ⊥) → length t ≡ 64 → Contains texts x → Contains texts t → h.0 ≡ dsha t → Collision texts ⊎ (dsha x ≡ h.0) → Collision texts ⊎ (x ≡ y)
    shorter_one texts x y h t long short px pt is (inl c) = inl c
    shorter_one texts x y h t long short px pt is (inr e) = never texts x y t long short (same_text texts x t px pt (e ∙ is))

all_taken : (k : ℕ) (ss : List Hash256) → AllByRecursion HasHashLength ss → AllByRecursion HasHashLength (take k ss)
all_taken zero ss all = tt
all_taken (suc k) [] all = tt
all_taken (suc k) (s ∷ ss) (l, all) = (l, all_taken k ss all)

lower_side : (texts : List (List ℕ)) (x y : List ℕ) (ss ts : List Hash256) → (length x ≡ 64 → ⊥) → AllByRecursion HasHashLength ts → length ss ≤ length ts
    → Contains texts x → Contains texts y
    → ((t : List ℕ) → Contains (fold_texts (digest x) ss) t → Contains texts t) → ((t : List ℕ) → Contains (fold_texts (digest y) ts) t → Contains texts t)
    → folded (digest x) ss ≡ folded (digest y) ts → Collision texts ⊎ (x ≡ y)
lower_side texts x y ss ts long all le px py p q e =
    let k : ℕ = length ts - length ss in
    let parts : take k ts ++ drop k ts ≡ ts = take-append-drop k ts in
    let l : length ss ≡ length (drop k ts) = omega (arith, length-drop k ts) in
    one_side texts x y ss (take k ts) (drop k ts) long (all_taken k ts all) l px py p
    (subst (λ (us : List Hash256). (t : List ℕ) → Contains (fold_texts (digest y) us) t → Contains texts t) (sym parts) q)
    (subst (λ (us : List Hash256). folded (digest x) ss ≡ folded (digest y) us) (sym parts) e)

turn : (texts : List (List ℕ)) (x y : List ℕ) → Collision texts ⊎ (y ≡ x) → Collision texts ⊎ (x ≡ y)
turn texts x y (inl c) = inl c
turn texts x y (inr e) = inr (sym e)

-- Two folds of any depth that meet: one text, or a collision.
pub same_bottom : (texts : List (List ℕ)) (x y : List ℕ) (ss ts : List Hash256) → (length x ≡ 64 → ⊥) → (length y ≡ 64 → ⊥)
    → AllByRecursion HasHashLength ss → AllByRecursion HasHashLength ts → Contains texts x → Contains texts y
    → ((t : List ℕ) → Contains (fold_texts (digest x) ss) t → Contains texts t) → ((t : List ℕ) → Contains (fold_texts (digest y) ts) t → Contains texts t)
    → folded (digest x) ss ≡ folded (digest y) ts → Collision texts ⊎ (x ≡ y)
same_bottom texts x y ss ts lx ly all_ss all_ts px py p q e =
    ⊎_elim (λ (lt : length ss < length ts). lower_side texts x y ss ts lx all_ts (omega arith) px py p q e)
    (λ (le : length ts ≤ length ss). turn texts x y (lower_side texts y x ts ss ly all_ss le py px q p (sym e)))
    (cases_lt (length ss) (length ts))
