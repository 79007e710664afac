-- Two lists of one root are one list, or one of them has a text twice, or a collision is among what they hash.
use Rattle.std.proofs.Common.{◌≡◌, ℕ, zero, suc, ◌+◌, ◌-◌, ◌≤◌, ◌<◌, List, [], ◌∷◌, ◌++◌, length, drop, map, refl, sym, ap, subst, ◌∙◌, append_assoc, arith}
use Rattle.std.proofs.Math.Logic.{◌⊎◌, inl, inr, ⊎_elim}
use Rattle.std.specs.List.{Contains, AllByRecursion}
use Rattle.std.proofs.lemmas.Bool.{cases_lt}
use Rattle.std.proofs.lemmas.List.{length-append, drop_at}
use Rattle.std.proofs.lemmas.List.Elements.{Contains-append_left, Contains-append_right}
use Rattle.dmn_bytes.specs.declared.hash.Hash256.{Hash256}
use Rattle.dmn_bytes.specs.Hash.{dsha}
use Rattle.dmn_merkle.specs.Defs.{pair, above, root_by, merkle_root}
use Rattle.dmn_client.specs.Collision.{Collision, ZeroText, digest, level_texts, root_texts_by, root_texts, HasHashLength, hashed_of_list, Repeats, SameOrFound, AllLength}
use Rattle.dmn_merkle.proofs.Levels.{root_of_none, shorter}
use Rattle.dmn_merkle.proofs.Halving.{some_left}
use Rattle.dmn_client.proofs.Meet.{pair_is, same_text, same_left}
use Rattle.dmn_client.proofs.First.{above_length, digests_length, zero_of_list}

-- ---- elements of any list

head_of : {X : Type 0} (x : X) (xs : List X) → Contains (x ∷ xs) x
head_of x xs = (0, (omega arith), refl)

later : {X : Type 0} (y x : X) (xs : List X) → Contains xs x → Contains (y ∷ xs) x
later y x xs h = Contains-append_right (y ∷ []) xs x h

here_or_later : {X : Type 0} (h x : X) (t : List X) → Contains (h ∷ t) x → (h ≡ x) ⊎ Contains t x
here_or_later h x t (zero, lt, e) = inl e
here_or_later h x t (suc k, lt, e) = inr (k, omega arith, e)

none_of : {X : Type 0} (x : X) → Contains [] x → ⊥
none_of x (k, lt, e) = omega arith

-- ---- pairs

hash_of : List ℕ → Hash256
hash_of bytes = record { 0 = bytes }

one_hash : (a b : Hash256) → a.0 ≡ b.0 → a ≡ b
unfolding hash_of
one_hash a b e = ap hash_of e

same_pair : (texts : List (List ℕ)) (a b c d : Hash256) → HasHashLength a → HasHashLength c → Contains texts (a.0 ++ b.0) → Contains texts (c.0 ++ d.0) → pair a b ≡ pair c d
    → Collision texts ⊎ ((a ≡ c) × (b ≡ d))
same_pair texts a b c d la lc p q e =
    parts texts a b c d la lc (same_text texts (a.0 ++ b.0) (c.0 ++ d.0) p q (sym (pair_is a b) ∙ (ap (λ (h : Hash256). h.0) e ∙ pair_is c d)))
  where
    parts : (texts : List (List ℕ)) (a b c d : Hash256) → HasHashLength a → HasHashLength c → Collision texts ⊎ (a.0 ++ b.0 ≡ c.0 ++ d.0) → Collision texts ⊎ ((a ≡ c) × (b ≡ d))
    parts texts a b c d la lc (inl x) = inl x
    parts texts a b c d la lc (inr e) =
        let p : drop 32 (a.0 ++ b.0) ≡ b.0 = drop_at a.0 b.0 32 la in
        let q : drop 32 (c.0 ++ d.0) ≡ d.0 = drop_at c.0 d.0 32 lc in
        inr (one_hash a c (same_left a b c d la lc e), one_hash b d (sym p ∙ (ap (λ (t : List ℕ). drop 32 t) e ∙ q)))

-- ---- one level down

-- two lists of hashes are one, or one of them has a hash twice, or there is a collision
abbrev Alike : List (List ℕ) → List Hash256 → List Hash256 → Type 0
Alike texts xs ys = Collision texts ⊎ ((xs ≡ ys) ⊎ (Repeats xs ⊎ Repeats ys))

contains_down : (texts : List (List ℕ)) (a b : Hash256) (xs : List Hash256) → HasHashLength a → Contains texts (a.0 ++ b.0) → AllByRecursion HasHashLength xs
    → ((t : List ℕ) → Contains (level_texts xs) t → Contains texts t) → Contains (above xs) (pair a b) → Collision texts ⊎ Contains xs a
contains_down texts a b [] la p all sub h = absurd (none_of (pair a b) h)
contains_down texts a b (c ∷ []) la p (lc, all) sub h =
    ⊎_elim (λ (e : pair c c ≡ pair a b). first texts a b c c [] la lc p (sub (c.0 ++ c.0) (head_of (c.0 ++ c.0) [])) e)
    (λ (k : Contains [] (pair a b)). absurd (none_of (pair a b) k)) (here_or_later (pair c c) (pair a b) [] h)
  where
    first : (texts : List (List ℕ)) (a b c d : Hash256) (xs : List Hash256) → HasHashLength a → HasHashLength c → Contains texts (a.0 ++ b.0) → Contains texts (c.0 ++ d.0) → pair c d ≡ pair a b → Collision texts ⊎ Contains (c ∷ xs) a
    first texts a b c d xs la lc p q e =
        ⊎_elim (λ (x : Collision texts). inl x) (λ (s : (c ≡ a) × (d ≡ b)). inr (subst (λ (h : Hash256). Contains (c ∷ xs) h) s.0 (head_of c xs)))
        (same_pair texts c d a b lc la q p e)
contains_down texts a b (c ∷ d ∷ xs) la p (lc, (ld, all)) sub h =
    ⊎_elim (λ (e : pair c d ≡ pair a b). first texts a b c d (d ∷ xs) la lc p (sub (c.0 ++ d.0) (head_of (c.0 ++ d.0) (level_texts xs))) e)
    (λ (k : Contains (above xs) (pair a b)). further texts a c d xs (contains_down texts a b xs la p all (λ t m. sub t (later (c.0 ++ d.0) t (level_texts xs) m)) k)) (here_or_later (pair c d) (pair a b) (above xs) h)
  where
    first : (texts : List (List ℕ)) (a b c d : Hash256) (xs : List Hash256) → HasHashLength a → HasHashLength c → Contains texts (a.0 ++ b.0) → Contains texts (c.0 ++ d.0) → pair c d ≡ pair a b → Collision texts ⊎ Contains (c ∷ xs) a
    first texts a b c d xs la lc p q e =
        ⊎_elim (λ (x : Collision texts). inl x) (λ (s : (c ≡ a) × (d ≡ b)). inr (subst (λ (h : Hash256). Contains (c ∷ xs) h) s.0 (head_of c xs)))
        (same_pair texts c d a b lc la q p e)

    further : (texts : List (List ℕ)) (a c d : Hash256) (xs : List Hash256) → Collision texts ⊎ Contains xs a → Collision texts ⊎ Contains (c ∷ d ∷ xs) a
    further texts a c d xs (inl x) = inl x
    further texts a c d xs (inr h) = inr (later c a (d ∷ xs) (later d a xs h))

repeats_down : (texts : List (List ℕ)) (xs : List Hash256) → AllByRecursion HasHashLength xs → ((t : List ℕ) → Contains (level_texts xs) t → Contains texts t)
    → Repeats (above xs) → Collision texts ⊎ Repeats xs
repeats_down texts [] all sub h = absurd h
repeats_down texts (a ∷ []) all sub (inl h) = absurd (none_of (pair a a) h)
repeats_down texts (a ∷ []) all sub (inr h) = absurd h
repeats_down texts (a ∷ b ∷ xs) (la, (lb, all)) sub (inl h) =
    ⊎_elim (λ (x : Collision texts). inl x) (λ (m : Contains xs a). inr (inl (later b a xs m)))
    (contains_down texts a b xs la (sub (a.0 ++ b.0) (head_of (a.0 ++ b.0) (level_texts xs))) all (λ t m. sub t (later (a.0 ++ b.0) t (level_texts xs) m)) h)
repeats_down texts (a ∷ b ∷ xs) (la, (lb, all)) sub (inr h) =
    ⊎_elim (λ (x : Collision texts). inl x) (λ (m : Repeats xs). inr (inr (inr m)))
    (repeats_down texts xs all (λ t m. sub t (later (a.0 ++ b.0) t (level_texts xs) m)) h)

same_above : (texts : List (List ℕ)) (xs ys : List Hash256) → AllByRecursion HasHashLength xs → AllByRecursion HasHashLength ys
    → ((t : List ℕ) → Contains (level_texts xs) t → Contains texts t) → ((t : List ℕ) → Contains (level_texts ys) t → Contains texts t)
    → above xs ≡ above ys → Alike texts xs ys
same_above texts [] [] lx ly p q e = inr (inl refl)
same_above texts [] (c ∷ []) lx ly p q e = absurd cc
same_above texts [] (c ∷ d ∷ ys) lx ly p q e = absurd cc
same_above texts (a ∷ []) [] lx ly p q e = absurd cc
same_above texts (a ∷ b ∷ xs) [] lx ly p q e = absurd cc
same_above texts (a ∷ []) (c ∷ []) (la, lx) (lc, ly) p q e =
    let h : pair a a ≡ pair c c = cc in
    ⊎_elim (λ (x : Collision texts). inl x) (λ (s : (a ≡ c) × (a ≡ c)). inr (inl (ap (λ (k : Hash256). k ∷ []) s.0)))
    (same_pair texts a a c c la lc (p (a.0 ++ a.0) (head_of (a.0 ++ a.0) [])) (q (c.0 ++ c.0) (head_of (c.0 ++ c.0) [])) h)
same_above texts (a ∷ []) (c ∷ d ∷ []) (la, lx) (lc, ly) p q e =
    let h : pair a a ≡ pair c d = cc in
    ⊎_elim (λ (x : Collision texts). inl x) (λ (s : (a ≡ c) × (a ≡ d)). inr (inr (inr (inl (subst (λ (k : Hash256). Contains (d ∷ []) k) (sym s.1 ∙ s.0) (head_of d []))))))
    (same_pair texts a a c d la lc (p (a.0 ++ a.0) (head_of (a.0 ++ a.0) [])) (q (c.0 ++ d.0) (head_of (c.0 ++ d.0) [])) h)
same_above texts (a ∷ []) (c ∷ d ∷ f ∷ ys) lx ly p q e =
    let n : 1 ≡ suc (length (above (f ∷ ys))) = ap (λ (k : List Hash256). length k) e in
    absurd (omega (arith, some_left (f ∷ ys) (omega arith)))
same_above texts (a ∷ b ∷ []) (c ∷ []) (la, lx) (lc, ly) p q e =
    let h : pair a b ≡ pair c c = cc in
    ⊎_elim (λ (x : Collision texts). inl x) (λ (s : (a ≡ c) × (b ≡ c)). inr (inr (inl (inl (subst (λ (k : Hash256). Contains (b ∷ []) k) (s.1 ∙ sym s.0) (head_of b []))))))
    (same_pair texts a b c c la lc (p (a.0 ++ b.0) (head_of (a.0 ++ b.0) [])) (q (c.0 ++ c.0) (head_of (c.0 ++ c.0) [])) h)
same_above texts (a ∷ b ∷ f ∷ xs) (c ∷ []) lx ly p q e =
    let n : suc (length (above (f ∷ xs))) ≡ 1 = ap (λ (k : List Hash256). length k) e in
    absurd (omega (arith, some_left (f ∷ xs) (omega arith)))
same_above texts (a ∷ b ∷ xs) (c ∷ d ∷ ys) (la, (lb, lx)) (lc, (ld, ly)) p q e =
    let h : pair a b ≡ pair c d = cc in
    let t : above xs ≡ above ys = cc in
    both texts a b c d xs ys (same_pair texts a b c d la lc (p (a.0 ++ b.0) (head_of (a.0 ++ b.0) (level_texts xs))) (q (c.0 ++ d.0) (head_of (c.0 ++ d.0) (level_texts ys))) h)
    (same_above texts xs ys lx ly (λ u m. p u (later (a.0 ++ b.0) u (level_texts xs) m)) (λ u m. q u (later (c.0 ++ d.0) u (level_texts ys) m)) t)
  where
    both : (texts : List (List ℕ)) (a b c d : Hash256) (xs ys : List Hash256) → Collision texts ⊎ ((a ≡ c) × (b ≡ d)) → Alike texts xs ys → Alike texts (a ∷ b ∷ xs) (c ∷ d ∷ ys)
    both texts a b c d xs ys (inl x) r = inl x
    both texts a b c d xs ys (inr s) (inl x) = inl x
    both texts a b c d xs ys (inr s) (inr (inl e)) =
        let f : a ≡ c = s.0 in let g : b ≡ d = s.1 in inr (inl cc)
    both texts a b c d xs ys (inr s) (inr (inr (inl r))) = inr (inr (inl (inr (inr r))))
    both texts a b c d xs ys (inr s) (inr (inr (inr r))) = inr (inr (inr (inr (inr r))))

-- ---- several levels

up : ℕ → List Hash256 → List Hash256
up zero xs = xs
up (suc k) xs = up k (above xs)

up_texts : ℕ → List Hash256 → List (List ℕ)
up_texts zero xs = []
up_texts (suc k) xs = level_texts xs ++ up_texts k (above xs)

abbrev Within : List (List ℕ) → List (List ℕ) → Type 0
Within few many = (t : List ℕ) → Contains few t → Contains many t

left_within : (a b many : List (List ℕ)) → Within (a ++ b) many → Within a many
left_within a b many w t h = w t (Contains-append_left a b t h)

right_within : (a b many : List (List ℕ)) → Within (a ++ b) many → Within b many
right_within a b many w t h = w t (Contains-append_right a b t h)

same_up : (texts : List (List ℕ)) (d : ℕ) (xs ys : List Hash256) → AllByRecursion HasHashLength xs → AllByRecursion HasHashLength ys
    → Within (up_texts d xs) texts → Within (up_texts d ys) texts → up d xs ≡ up d ys → Alike texts xs ys
unfolding up up_texts
same_up texts zero xs ys lx ly p q e = inr (inl e)
same_up texts (suc d) xs ys lx ly p q e =
    let px : Within (level_texts xs) texts = left_within (level_texts xs) (up_texts d (above xs)) texts p in
    let py : Within (level_texts ys) texts = left_within (level_texts ys) (up_texts d (above ys)) texts q in
    down texts xs ys lx ly px py
    (same_up texts d (above xs) (above ys) (above_length xs) (above_length ys) (right_within (level_texts xs) (up_texts d (above xs)) texts p) (right_within (level_texts ys) (up_texts d (above ys)) texts q) e)
  where
    down : (texts : List (List ℕ)) (xs ys : List Hash256) → AllByRecursion HasHashLength xs → AllByRecursion HasHashLength ys → Within (level_texts xs) texts → Within (level_texts ys) texts
        → Alike texts (above xs) (above ys) → Alike texts xs ys
    down texts xs ys lx ly p q (inl c) = inl c
    down texts xs ys lx ly p q (inr (inl e)) = same_above texts xs ys lx ly p q e
    down texts xs ys lx ly p q (inr (inr (inl r))) =
        ⊎_elim (λ (c : Collision texts). inl c) (λ (m : Repeats xs). inr (inr (inl m))) (repeats_down texts xs lx p r)
    down texts xs ys lx ly p q (inr (inr (inr r))) =
        ⊎_elim (λ (c : Collision texts). inl c) (λ (m : Repeats ys). inr (inr (inr m))) (repeats_down texts ys ly q r)

repeats_far_down : (texts : List (List ℕ)) (k : ℕ) (xs : List Hash256) → AllByRecursion HasHashLength xs → Within (up_texts k xs) texts → Repeats (up k xs) → Collision texts ⊎ Repeats xs
unfolding up up_texts
repeats_far_down texts zero xs lx p r = inr r
repeats_far_down texts (suc k) xs lx p r =
    ⊎_elim (λ (c : Collision texts). inl c) (λ (m : Repeats (above xs)). repeats_down texts xs lx (left_within (level_texts xs) (up_texts k (above xs)) texts p) m)
    (repeats_far_down texts k (above xs) (above_length xs) (right_within (level_texts xs) (up_texts k (above xs)) texts p) r)

up_split : (k d e : ℕ) (xs : List Hash256) → e ≡ k + d → up e xs ≡ up d (up k xs)
unfolding up
up_split zero d e xs h = let s : e ≡ d = omega arith in ap (λ (n : ℕ). up n xs) s
up_split (suc k) d zero xs h = absurd (omega arith)
up_split (suc k) d (suc e) xs h = up_split k d e (above xs) (omega arith)

texts_split : (k d e : ℕ) (xs : List Hash256) → e ≡ k + d → up_texts e xs ≡ up_texts k xs ++ up_texts d (up k xs)
unfolding up up_texts
texts_split zero d e xs h = let s : e ≡ d = omega arith in ap (λ (n : ℕ). up_texts n xs) s
texts_split (suc k) d zero xs h = absurd (omega arith)
texts_split (suc k) d (suc e) xs h =
    ap (λ (ts : List (List ℕ)). level_texts xs ++ ts) (texts_split k d e (above xs) (omega arith)) ∙ sym (append_assoc (level_texts xs) (up_texts k (above xs)) (up_texts d (up k (above xs))))

up_length : (k : ℕ) (xs : List Hash256) → AllByRecursion HasHashLength xs → AllByRecursion HasHashLength (up k xs)
unfolding up
up_length zero xs lx = lx
up_length (suc k) xs lx = up_length k (above xs) (above_length xs)

-- a hash of a level above another is that of a text of 64 bytes
record PairFirst (texts : List (List ℕ)) (x : Hash256) : Type 0 where
  text : List ℕ
  has : Contains texts text
  long : length text ≡ 64
  is : x.0 ≡ dsha text

pair_first : (texts : List (List ℕ)) (x : Hash256) (xs ys : List Hash256) → AllByRecursion HasHashLength ys → Within (level_texts ys) texts → x ∷ xs ≡ above ys → PairFirst texts x
pair_first texts x xs [] ly p e = absurd cc
pair_first texts x xs (a ∷ []) (la, ly) p e =
    let h : x ≡ pair a a = cc in
    record { text = a.0 ++ a.0; has = p (a.0 ++ a.0) (head_of (a.0 ++ a.0) []); long = length-append a.0 a.0 ∙ omega arith; is = ap (λ (k : Hash256). k.0) h ∙ pair_is a a }
pair_first texts x xs (a ∷ b ∷ ys) (la, (lb, ly)) p e =
    let h : x ≡ pair a b = cc in
    record { text = a.0 ++ b.0; has = p (a.0 ++ b.0) (head_of (a.0 ++ b.0) (level_texts ys)); long = length-append a.0 b.0 ∙ omega arith; is = ap (λ (k : Hash256). k.0) h ∙ pair_is a b }

-- the same behind several levels
pair_first_up : (texts : List (List ℕ)) (k : ℕ) (x : Hash256) (xs ys : List Hash256) → AllByRecursion HasHashLength ys → Within (up_texts (suc k) ys) texts → x ∷ xs ≡ up (suc k) ys → PairFirst texts x
unfolding up up_texts
pair_first_up texts zero x xs ys ly p e = pair_first texts x xs ys ly (left_within (level_texts ys) [] texts p) e
pair_first_up texts (suc k) x xs ys ly p e =
    pair_first_up texts k x xs (above ys) (above_length ys) (right_within (level_texts ys) (level_texts (above ys) ++ up_texts k (above (above ys))) texts p) e

-- ---- the levels of a root

levels_by : ℕ → List Hash256 → ℕ
levels_by n [] = 0
levels_by n (a ∷ []) = 0
levels_by zero (a ∷ b ∷ rest) = 0
levels_by (suc n) (a ∷ b ∷ rest) = suc (levels_by n (pair a b ∷ above rest))

root_is_up : (n : ℕ) (a : Hash256) (rest : List Hash256) → length rest ≤ n → up (levels_by n (a ∷ rest)) (a ∷ rest) ≡ root_by n (a ∷ rest) ∷ []
unfolding up levels_by
root_is_up n a [] h = refl
root_is_up zero a (b ∷ rest) h = absurd (omega arith)
root_is_up (suc n) a (b ∷ rest) h = root_is_up n (pair a b) (above rest) (omega (arith, shorter rest))

texts_are_up : (n : ℕ) (xs : List Hash256) → up_texts (levels_by n xs) xs ≡ root_texts_by n xs
unfolding up_texts levels_by
texts_are_up n [] = refl
texts_are_up n (a ∷ []) = refl
texts_are_up zero (a ∷ b ∷ rest) = refl
texts_are_up (suc n) (a ∷ b ∷ rest) = ap (λ (ts : List (List ℕ)). level_texts (a ∷ b ∷ rest) ++ ts) (texts_are_up n (pair a b ∷ above rest))

-- ---- texts

abbrev Outcome : List (List ℕ) → List (List ℕ) → List (List ℕ) → Type 0
Outcome texts xs ys = Collision texts ⊎ ((xs ≡ ys) ⊎ (Repeats xs ⊎ Repeats ys))

abbrev digests : List (List ℕ) → List Hash256
digests list = map (λ text. digest text) list

contains_digest : (texts : List (List ℕ)) (t : List ℕ) (list : List (List ℕ)) → Contains texts t → Within list texts → Contains (digests list) (digest t) → Collision texts ⊎ Contains list t
contains_digest texts t [] p w h = absurd (none_of (digest t) h)
contains_digest texts t (u ∷ list) p w h =
    ⊎_elim (λ (e : digest u ≡ digest t). here texts t u list (same_text texts u t (w u (head_of u list)) p (ap (λ (k : Hash256). k.0) e)))
    (λ (m : Contains (digests list) (digest t)). further texts t u list (contains_digest texts t list p (λ v n. w v (later u v list n)) m))
    (here_or_later (digest u) (digest t) (digests list) h)
  where
    here : (texts : List (List ℕ)) (t u : List ℕ) (list : List (List ℕ)) → Collision texts ⊎ (u ≡ t) → Collision texts ⊎ Contains (u ∷ list) t
    here texts t u list (inl c) = inl c
    here texts t u list (inr e) = inr (subst (λ (v : List ℕ). Contains (u ∷ list) v) e (head_of u list))

    further : (texts : List (List ℕ)) (t u : List ℕ) (list : List (List ℕ)) → Collision texts ⊎ Contains list t → Collision texts ⊎ Contains (u ∷ list) t
    further texts t u list (inl c) = inl c
    further texts t u list (inr m) = inr (later u t list m)

repeats_digest : (texts : List (List ℕ)) (list : List (List ℕ)) → Within list texts → Repeats (digests list) → Collision texts ⊎ Repeats list
repeats_digest texts [] w r = absurd r
repeats_digest texts (t ∷ list) w (inl h) =
    ⊎_elim (λ (c : Collision texts). inl c) (λ (m : Contains list t). inr (inl m)) (contains_digest texts t list (w t (head_of t list)) (λ v n. w v (later t v list n)) h)
repeats_digest texts (t ∷ list) w (inr r) =
    ⊎_elim (λ (c : Collision texts). inl c) (λ (m : Repeats list). inr (inr m)) (repeats_digest texts list (λ v n. w v (later t v list n)) r)

same_digests : (texts : List (List ℕ)) (xs ys : List (List ℕ)) → Within xs texts → Within ys texts → digests xs ≡ digests ys → Collision texts ⊎ (xs ≡ ys)
same_digests texts [] [] p q e = inr refl
same_digests texts [] (y ∷ ys) p q e = absurd cc
same_digests texts (x ∷ xs) [] p q e = absurd cc
same_digests texts (x ∷ xs) (y ∷ ys) p q e =
    let h : digest x ≡ digest y = cc in
    let t : digests xs ≡ digests ys = cc in
    both texts x y xs ys (same_text texts x y (p x (head_of x xs)) (q y (head_of y ys)) (ap (λ (k : Hash256). k.0) h))
    (same_digests texts xs ys (λ v n. p v (later x v xs n)) (λ v n. q v (later y v ys n)) t)
  where
    both : (texts : List (List ℕ)) (x y : List ℕ) (xs ys : List (List ℕ)) → Collision texts ⊎ (x ≡ y) → Collision texts ⊎ (xs ≡ ys) → Collision texts ⊎ (x ∷ xs ≡ y ∷ ys)
    both texts x y xs ys (inl c) r = inl c
    both texts x y xs ys (inr e) (inl c) = inl c
    both texts x y xs ys (inr e) (inr f) = inr cc

-- ---- two lists of one root

from_alike : (texts : List (List ℕ)) (xs ys : List (List ℕ)) → Within xs texts → Within ys texts → Alike texts (digests xs) (digests ys) → Outcome texts xs ys
from_alike texts xs ys p q (inl c) = inl c
from_alike texts xs ys p q (inr (inl e)) = ⊎_elim (λ (c : Collision texts). inl c) (λ (m : xs ≡ ys). inr (inl m)) (same_digests texts xs ys p q e)
from_alike texts xs ys p q (inr (inr (inl r))) = ⊎_elim (λ (c : Collision texts). inl c) (λ (m : Repeats xs). inr (inr (inl m))) (repeats_digest texts xs p r)
from_alike texts xs ys p q (inr (inr (inr r))) = ⊎_elim (λ (c : Collision texts). inl c) (λ (m : Repeats ys). inr (inr (inr m))) (repeats_digest texts ys q r)

-- the levels of ys are k more than those of x ∷ xs
far_alike : (texts : List (List ℕ)) (k n : ℕ) (x : List ℕ) (xs ys : List (List ℕ)) → (n ≡ 64 → ⊥) → length x ≡ n → Within (x ∷ xs) texts → Within ys texts → Within (up_texts k (digests ys)) texts
    → Alike texts (digests (x ∷ xs)) (up k (digests ys)) → Outcome texts (x ∷ xs) ys
unfolding up up_texts
far_alike texts zero n x xs ys long l p q w a = from_alike texts (x ∷ xs) ys p q a
far_alike texts (suc k) n x xs ys long l p q w (inl c) = inl c
far_alike texts (suc k) n x xs ys long l p q w (inr (inl e)) =
    let f : PairFirst texts (digest x) = pair_first_up texts k (digest x) (digests xs) (digests ys) (digests_length ys) w e in
    ⊎_elim (λ (c : Collision texts). inl c) (λ (m : x ≡ f.text). absurd (long (sym l ∙ (ap (λ (t : List ℕ). length t) m ∙ f.long)))) (same_text texts x f.text (p x (head_of x xs)) f.has f.is)
far_alike texts (suc k) n x xs ys long l p q w (inr (inr (inl r))) =
    ⊎_elim (λ (c : Collision texts). inl c) (λ (m : Repeats (x ∷ xs)). inr (inr (inl m))) (repeats_digest texts (x ∷ xs) p r)
far_alike texts (suc k) n x xs ys long l p q w (inr (inr (inr r))) =
    ⊎_elim (λ (c : Collision texts). inl c)
    (λ (m : Repeats (digests ys)). ⊎_elim (λ (c : Collision texts). inl c) (λ (o : Repeats ys). inr (inr (inr o))) (repeats_digest texts ys q m))
    (repeats_far_down texts (suc k) (digests ys) (digests_length ys) w r)

lower_list : (texts : List (List ℕ)) (n d e : ℕ) (x : List ℕ) (xs ys : List (List ℕ)) → (n ≡ 64 → ⊥) → length x ≡ n → d ≤ e → Within (x ∷ xs) texts → Within ys texts
    → Within (up_texts d (digests (x ∷ xs))) texts → Within (up_texts e (digests ys)) texts → up d (digests (x ∷ xs)) ≡ up e (digests ys) → Outcome texts (x ∷ xs) ys
lower_list texts n d e x xs ys long l le p q wx wy h =
    let k : ℕ = e - d in
    let s : e ≡ k + d = omega arith in
    let w : Within (up_texts k (digests ys) ++ up_texts d (up k (digests ys))) texts = subst (λ (ts : List (List ℕ)). Within ts texts) (texts_split k d e (digests ys) s) wy in
    far_alike texts k n x xs ys long l p q (left_within (up_texts k (digests ys)) (up_texts d (up k (digests ys))) texts w)
    (same_up texts d (digests (x ∷ xs)) (up k (digests ys)) (digests_length (x ∷ xs)) (up_length k (digests ys) (digests_length ys)) wx
    (right_within (up_texts k (digests ys)) (up_texts d (up k (digests ys))) texts w) (h ∙ up_split k d e (digests ys) s))

flip : (texts : List (List ℕ)) (xs ys : List (List ℕ)) → Outcome texts ys xs → Outcome texts xs ys
flip texts xs ys (inl c) = inl c
flip texts xs ys (inr (inl e)) = inr (inl (sym e))
flip texts xs ys (inr (inr (inl r))) = inr (inr (inr r))
flip texts xs ys (inr (inr (inr r))) = inr (inr (inl r))

levels : List Hash256 → ℕ
levels xs = levels_by (length xs) xs

root_of_up : (a : Hash256) (rest : List Hash256) → up (levels (a ∷ rest)) (a ∷ rest) ≡ merkle_root (a ∷ rest) ∷ []
unfolding levels merkle_root
root_of_up a rest = root_is_up (suc (length rest)) a rest (omega arith)

texts_of_up : (xs : List Hash256) → up_texts (levels xs) xs ≡ root_texts xs
unfolding levels root_texts
texts_of_up xs = texts_are_up (length xs) xs

pub two_lists : (texts : List (List ℕ)) (n : ℕ) (x y : List ℕ) (xs ys : List (List ℕ)) → (n ≡ 64 → ⊥) → length x ≡ n → length y ≡ n → Within (hashed_of_list (x ∷ xs)) texts → Within (hashed_of_list (y ∷ ys)) texts
    → merkle_root (digests (x ∷ xs)) ≡ merkle_root (digests (y ∷ ys)) → Outcome texts (x ∷ xs) (y ∷ ys)
two_lists texts n x y xs ys long lx ly p q h =
    let d : ℕ = levels (digests (x ∷ xs)) in
    let e : ℕ = levels (digests (y ∷ ys)) in
    let px : Within (x ∷ xs) texts = left_within (x ∷ xs) (root_texts (digests (x ∷ xs))) texts p in
    let py : Within (y ∷ ys) texts = left_within (y ∷ ys) (root_texts (digests (y ∷ ys))) texts q in
    let wx : Within (up_texts d (digests (x ∷ xs))) texts = subst (λ (ts : List (List ℕ)). Within ts texts) (sym (texts_of_up (digests (x ∷ xs)))) (right_within (x ∷ xs) (root_texts (digests (x ∷ xs))) texts p) in
    let wy : Within (up_texts e (digests (y ∷ ys))) texts = subst (λ (ts : List (List ℕ)). Within ts texts) (sym (texts_of_up (digests (y ∷ ys)))) (right_within (y ∷ ys) (root_texts (digests (y ∷ ys))) texts q) in
    let same : up d (digests (x ∷ xs)) ≡ up e (digests (y ∷ ys))
    = root_of_up (digest x) (digests xs) ∙ (ap (λ (k : Hash256). k ∷ []) h ∙ sym (root_of_up (digest y) (digests ys))) in
    ⊎_elim (λ (lt : d < e). lower_list texts n d e x xs (y ∷ ys) long lx (omega arith) px py wx wy same)
    (λ (le : e ≤ d). flip texts (x ∷ xs) (y ∷ ys) (lower_list texts n e d y ys (x ∷ xs) long ly le py px wy wx (sym same)))
    (cases_lt d e)

settle : (texts : List (List ℕ)) (xs ys : List (List ℕ)) → (Repeats xs → ⊥) → (Repeats ys → ⊥) → Outcome texts xs ys → SameOrFound xs ys texts
settle texts xs ys nx ny (inl c) = inr (inl c)
settle texts xs ys nx ny (inr (inl e)) = inl e
settle texts xs ys nx ny (inr (inr (inl r))) = absurd (nx r)
settle texts xs ys nx ny (inr (inr (inr r))) = absurd (ny r)

pub zero_among : (few many : List (List ℕ)) → Within few many → ZeroText few → ZeroText many
zero_among few many w z = record { text = z.text; has = w z.text z.has; is_zero = z.is_zero }

pub sound_lists : (n : ℕ) (xs ys : List (List ℕ)) → (n ≡ 64 → ⊥) → AllLength n xs → AllLength n ys → (Repeats xs → ⊥) → (Repeats ys → ⊥)
    → merkle_root (map (λ text. digest text) xs) ≡ merkle_root (map (λ text. digest text) ys) → SameOrFound xs ys (hashed_of_list xs ++ hashed_of_list ys)
sound_lists n [] [] long lx ly nx ny h = inl refl
sound_lists n [] (y ∷ ys) long lx ly nx ny h =
    inr (inr (zero_among (hashed_of_list (y ∷ ys)) (hashed_of_list [] ++ hashed_of_list (y ∷ ys)) (λ t m. Contains-append_right (hashed_of_list []) (hashed_of_list (y ∷ ys)) t m) (zero_of_list y ys (sym h ∙ root_of_none))))
sound_lists n (x ∷ xs) [] long lx ly nx ny h =
    inr (inr (zero_among (hashed_of_list (x ∷ xs)) (hashed_of_list (x ∷ xs) ++ hashed_of_list []) (λ t m. Contains-append_left (hashed_of_list (x ∷ xs)) (hashed_of_list []) t m) (zero_of_list x xs (h ∙ root_of_none))))
sound_lists n (x ∷ xs) (y ∷ ys) long (lx, allx) (ly, ally) nx ny h =
    let a : List (List ℕ) = hashed_of_list (x ∷ xs) in
    let b : List (List ℕ) = hashed_of_list (y ∷ ys) in
    settle (a ++ b) (x ∷ xs) (y ∷ ys) nx ny (two_lists (a ++ b) n x y xs ys long lx ly (λ t m. Contains-append_left a b t m) (λ t m. Contains-append_right a b t m) h)
