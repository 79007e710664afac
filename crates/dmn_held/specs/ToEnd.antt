-- Formats whose texts end where the text ends. What is read of one is its text, as of any format; the text of a value is read
-- as it where nothing stands behind. Within a number of bytes that is known such a format is one like any other.
use Rattle.std.proofs.Common.{◌≡◌, ℕ, zero, suc, ◌+◌, ◌-◌, ◌<◌, ◌≤◌, Bool, true, false, cond, ltb, List, [], ◌∷◌, ◌++◌, length, take, drop, Result, Ok, Err, refl, sym, ap, subst, ◌∙◌, append_assoc, add-zero, arith, inl, inr, ◌⊎◌}
use Rattle.std.specs.Prelude.{nat_lt, if◌then◌else◌}
use Rattle.std.specs.List.{flat_map, AllByRecursion}
use Rattle.std.proofs.lemmas.Bool.{ltb-true, ltb-false, lt-ltb, le-ltb}
use Rattle.std.proofs.lemmas.List.{append-nil, drop-take, drop-drop, drop_all, length-append, length-drop, length-take, take-append-drop, take_at}
use Rattle.std.proofs.lemmas.List.Concat.{flat_map-cons}
use Rattle.dmn_bytes.specs.declared.fault.Departure.{Departure}
use Rattle.dmn_bytes.specs.declared.fault.Departure.TheVariants.{Form}
use Rattle.dmn_bytes.specs.Format.{◌>>=◌, Format, ◌⊗◌, via, whole, filled}
use Rattle.dmn_bytes.specs.Law.{IsBytes, IsSound, Stands, place_of}
use Rattle.dmn_bytes.specs.Sound.{IsBytes-take, behind, bind_ok, bind_err, ends_within, ok_is}

-- values one after the other up to the end of the text, at most so many
unfoldable pub rest_parse : {A : Type 0} → Format A → ℕ → List ℕ → ℕ → Result (List A × ℕ) Departure
rest_parse f zero t i = Ok ([], i)
rest_parse f (suc most) t i = if nat_lt i (length t) then (f.parse t i >>= λ x. rest_parse f most t x.1 >>= λ y. Ok (x.0 ∷ y.0, y.1)) else Ok ([], i)

-- as many values as there are up to the end of the text; each has a byte at least
abbrev pub to_end : {A : Type 0} → Format A → Format (List A)
to_end f = record {
  text = flat_map f.text;
  Fits = AllByRecursion f.Fits;
  parse = λ t i. rest_parse f (length t - i) t i;
}

-- each text of a value has a byte at least
abbrev pub HasBytes : {A : Type 0} → Format A → Type 0
HasBytes {A = A} f = (v : A) → f.Fits v → 0 < length (f.text v)

pub record IsSoundToEnd {V : Type 0} (f : Format V) : Type 0 where
  pub takes : (t : List ℕ) (i : ℕ) (v : V) (j : ℕ) → IsBytes t → f.parse t i ≡ Ok (v, j) → Stands f t i v j
  pub again : (t : List ℕ) (i : ℕ) (v : V) → f.Fits v → drop i t ≡ f.text v → f.parse t i ≡ Ok (v, i + length (f.text v))
  pub within : (t : List ℕ) (i : ℕ) (d : Departure) → IsBytes t → i ≤ length t → f.parse t i ≡ Err d → place_of d ≤ length t

abbrev done : {A : Type 0} → A → Result A Departure
done x = Ok x

-- ---- values up to the end

rest_takes : {A : Type 0} (f : Format A) → IsSound f → (most : ℕ) (t : List ℕ) (i : ℕ) (vs : List A) (j : ℕ) → IsBytes t → rest_parse f most t i ≡ Ok (vs, j) → Stands (to_end f) t i vs j
unfolding rest_parse
rest_takes {A = A} f s zero t i vs j bytes e = subst (λ (y : List A × ℕ). Stands (to_end f) t i y.0 y.1) (ok_is ([], i) (vs, j) e) (record { fits = tt; parts = refl; end = sym (add-zero i) })
rest_takes {A = A} f s (suc most) t i vs j bytes e =
    elim (chosen (ltb i (length t)) (f.parse t i >>= λ x. rest_parse f most t x.1 >>= λ y. done (x.0 ∷ y.0, y.1)) (done ([], i)) (vs, j) e) [
      | inl h ↦
          let a = bind_ok (f.parse t i) (λ x. rest_parse f most t x.1 >>= λ y. done (x.0 ∷ y.0, y.1)) (vs, j) h.1 in
          let b = bind_ok (rest_parse f most t a.0.1) (λ y. done (a.0.0 ∷ y.0, y.1)) (vs, j) a.2 in
          let first = s.takes t i a.0.0 a.0.1 bytes a.1 in
          let second = rest_takes f s most t a.0.1 b.0.0 b.0.1 bytes b.1 in
          let x = f.text a.0.0 in
          let y = flat_map f.text b.0.0 in
          let text : flat_map f.text (a.0.0 ∷ b.0.0) ≡ x ++ y = flat_map-cons f.text a.0.0 b.0.0 in
          let made : List A × ℕ = (a.0.0 ∷ b.0.0, b.0.1) in
          subst (λ (q : List A × ℕ). Stands (to_end f) t i q.0 q.1) (ok_is made (vs, j) b.2) (record {
            fits = (first.fits, second.fits);
            parts = first.parts ∙ ap (λ (r : List ℕ). x ++ r) second.parts ∙ sym (append_assoc x y (drop b.0.1 t)) ∙ ap (λ (r : List ℕ). r ++ drop b.0.1 t) (sym text);
            end = omega (arith, first.end, second.end, length-append x y, ap (λ (r : List ℕ). length r) text);
          })
      | inr h ↦ subst (λ (y : List A × ℕ). Stands (to_end f) t i y.0 y.1) (ok_is ([], i) (vs, j) h.1) (record { fits = tt; parts = refl; end = sym (add-zero i) })
    ]
  where
    chosen : {B : Type 0} (b : Bool) (x y : Result B Departure) (z : B) → cond b x y ≡ done z → ((b ≡ true) × (x ≡ done z)) ⊎ ((b ≡ false) × (y ≡ done z))
    chosen true x y z e = inl (refl, e)
    chosen false x y z e = inr (refl, e)

-- all of a text is read, where nothing stands behind it and each value has a byte
rest_again : {A : Type 0} (f : Format A) → IsSound f → HasBytes f → (most : ℕ) (vs : List A) (t : List ℕ) (i : ℕ) → AllByRecursion f.Fits vs → drop i t ≡ flat_map f.text vs → length t - i ≤ most → rest_parse f most t i ≡ Ok (vs, i + length (flat_map f.text vs))
unfolding rest_parse
rest_again f s some zero [] t i fits e le = rw add-zero refl
rest_again f s some (suc most) [] t i fits e le =
    let size : length t - i ≡ 0 = sym (length-drop i t) ∙ ap (λ (r : List ℕ). length r) e in
    let past : ltb i (length t) ≡ false = le-ltb _ _ (omega (arith, size)) in
    rw (past, add-zero) refl
rest_again f s some zero (v ∷ vs) t i fits e le =
    let size : length t - i ≡ length (f.text v ++ flat_map f.text vs) = sym (length-drop i t) ∙ ap (λ (r : List ℕ). length r) e ∙ ap (λ (r : List ℕ). length r) (flat_map-cons f.text v vs) in
    absurd (omega (arith, size, some v fits.0, length-append (f.text v) (flat_map f.text vs), le))
rest_again f s some (suc most) (v ∷ vs) t i fits e le =
    let x = f.text v in
    let y = flat_map f.text vs in
    let text : flat_map f.text (v ∷ vs) ≡ x ++ y = flat_map-cons f.text v vs in
    let grouped : drop i t ≡ x ++ y = e ∙ text in
    let size : length t - i ≡ length x + length y = sym (length-drop i t) ∙ ap (λ (r : List ℕ). length r) grouped ∙ length-append x y in
    let more : ltb i (length t) ≡ true = lt-ltb _ _ (omega (arith, size, some v fits.0)) in
    let first : f.parse t i ≡ Ok (v, i + length x) = s.again t i v y fits.0 grouped in
    let second : rest_parse f most t (i + length x) ≡ Ok (vs, (i + length x) + length y) = rest_again f s some most vs t (i + length x) fits.1 (behind t i x y grouped) (omega (arith, size, some v fits.0, le)) in
    let end : (i + length x) + length y ≡ i + length (flat_map f.text (v ∷ vs)) = omega (arith, length-append x y, ap (λ (r : List ℕ). length r) text) in
    rw (more, first, second, end) refl

rest_within : {A : Type 0} (f : Format A) → IsSound f → (most : ℕ) (t : List ℕ) (i : ℕ) (d : Departure) → IsBytes t → i ≤ length t → rest_parse f most t i ≡ Err d → place_of d ≤ length t
unfolding rest_parse
rest_within f s zero t i d bytes le e = absurd cc
rest_within {A = A} f s (suc most) t i d bytes le e =
    elim (bind_err (f.parse t i) (λ x. rest_parse f most t x.1 >>= λ y. done (x.0 ∷ y.0, y.1)) d (left_err (ltb i (length t)) (f.parse t i >>= λ x. rest_parse f most t x.1 >>= λ y. done (x.0 ∷ y.0, y.1)) ([], i) d e)) [
      | inl h ↦ s.within t i d bytes le h
      | inr a ↦ elim (bind_err (rest_parse f most t a.0.1) (λ y. done (a.0.0 ∷ y.0, y.1)) d a.2) [
        | inl h ↦ rest_within f s most t a.0.1 d bytes (ends_within f t i a.0.0 a.0.1 (s.takes t i a.0.0 a.0.1 bytes a.1) le) h
        | inr b ↦ absurd (let h = b.2 in cc)
      ]
    ]
  where
    left_err : {B : Type 0} (b : Bool) (x : Result B Departure) (y : B) (d : Departure) → cond b x (done y) ≡ Err d → x ≡ Err d
    left_err true x y d e = e
    left_err false x y d e = absurd cc

pub to_end_sound : {A : Type 0} (f : Format A) → IsSound f → HasBytes f → IsSoundToEnd (to_end f)
to_end_sound f s some = record {
  takes = λ t i vs j bytes e. rest_takes f s (length t - i) t i vs j bytes e;
  again = λ t i vs fits e. rest_again f s some (length t - i) vs t i fits e (omega arith);
  within = λ t i d bytes le e. rest_within f s (length t - i) t i d bytes le e;
}

-- ---- behind a field, and for another type of value

no_more : {A B : Type 0} (f : Format A) (t : List ℕ) (i : ℕ) (d : Departure) (make : A × ℕ → B) → (f.parse t i >>= λ x. done (make x)) ≡ Err d → f.parse t i ≡ Err d
no_more f t i d make e =
    elim (bind_err (f.parse t i) (λ x. done (make x)) d e) [
      | inl h ↦ h
      | inr a ↦ absurd (let h = a.2 in cc)
    ]

pub both_to_end : {A B : Type 0} (f : Format A) (g : Format B) → IsSound f → IsSoundToEnd g → IsSoundToEnd (f ⊗ g)
both_to_end {A = A} {B = B} f g sf sg = record {
  takes = λ t i p j bytes e.
      let a = bind_ok (f.parse t i) (λ x. g.parse t x.1 >>= λ y. done ((x.0, y.0), y.1)) (p, j) e in
      let b = bind_ok (g.parse t a.0.1) (λ y. done ((a.0.0, y.0), y.1)) (p, j) a.2 in
      let first = sf.takes t i a.0.0 a.0.1 bytes a.1 in
      let second = sg.takes t a.0.1 b.0.0 b.0.1 bytes b.1 in
      let x : List ℕ = f.text a.0.0 in
      let y : List ℕ = g.text b.0.0 in
      let made : (A × B) × ℕ = ((a.0.0, b.0.0), b.0.1) in
      subst (λ (q : (A × B) × ℕ). Stands (f ⊗ g) t i q.0 q.1) (ok_is made (p, j) b.2) (record {
        fits = (first.fits, second.fits);
        parts = first.parts ∙ ap (λ (r : List ℕ). x ++ r) second.parts ∙ sym (append_assoc x y (drop b.0.1 t));
        end = omega (arith, first.end, second.end, length-append x y);
      });
  again = λ t i p fits e.
      let x = f.text p.0 in
      let y = g.text p.1 in
      let first : f.parse t i ≡ Ok (p.0, i + length x) = sf.again t i p.0 y fits.0 e in
      let second : g.parse t (i + length x) ≡ Ok (p.1, (i + length x) + length y) = sg.again t (i + length x) p.1 fits.1 (behind t i x y e) in
      let end : (i + length x) + length y ≡ i + length (x ++ y) = omega (arith, length-append x y) in
      rw (first, second, end) refl;
  within = λ t i d bytes le e.
      elim (bind_err (f.parse t i) (λ x. g.parse t x.1 >>= λ y. done ((x.0, y.0), y.1)) d e) [
        | inl h ↦ sf.within t i d bytes le h
        | inr a ↦ sg.within t a.0.1 d bytes (ends_within f t i a.0.0 a.0.1 (sf.takes t i a.0.0 a.0.1 bytes a.1) le) (no_more g t a.0.1 d (λ (y : B × ℕ). ((a.0.0, y.0), y.1)) a.2)
      ];
}

pub via_to_end : {A V : Type 0} (to : A → V) (from : V → A) (f : Format A) → ((v : V) → to (from v) ≡ v) → ((a : A) → f.Fits a → from (to a) ≡ a) → IsSoundToEnd f → IsSoundToEnd (via to from f)
via_to_end {A = A} {V = V} to from f there back s = record {
  takes = λ t i v j bytes e.
      let a = bind_ok (f.parse t i) (λ x. done (to x.0, x.1)) (v, j) e in
      let inner = s.takes t i a.0.0 a.0.1 bytes a.1 in
      let same : from (to a.0.0) ≡ a.0.0 = back a.0.0 inner.fits in
      subst (λ (y : V × ℕ). Stands (via to from f) t i y.0 y.1) (ok_is (to a.0.0, a.0.1) (v, j) a.2) (record {
        fits = subst (λ (x : A). f.Fits x) (sym same) inner.fits;
        parts = subst (λ (x : A). drop i t ≡ f.text x ++ drop a.0.1 t) (sym same) inner.parts;
        end = subst (λ (x : A). a.0.1 ≡ i + length (f.text x)) (sym same) inner.end;
      });
  again = λ t i v fits e. rw (s.again t i (from v) fits e, there v) refl;
  within = λ t i d bytes le e. s.within t i d bytes le (no_more f t i d (λ (x : A × ℕ). (to x.0, x.1)) e);
}

-- ---- a whole text, and within so many bytes

passed : {A : Type 0} (b : Bool) (d : Departure) (x y : A) → cond b (Err d) (done x) ≡ done y → (b ≡ false) × (x ≡ y)
passed true d x y e = absurd cc
passed false d x y e = (refl, cc)

-- what a whole text is read as is its value
pub whole_to_end : {V : Type 0} (f : Format V) → IsSoundToEnd f → (t : List ℕ) (v : V) → IsBytes t → whole f t ≡ Ok v → f.Fits v × (t ≡ f.text v)
whole_to_end {V = V} f s t v bytes e =
    let a = bind_ok (f.parse t 0) (λ x. cond (ltb x.1 (length t)) (Err (Form x.1)) (done x.0)) v e in
    let g = passed (ltb a.0.1 (length t)) (Form a.0.1) a.0.0 v a.2 in
    let stands = s.takes t 0 a.0.0 a.0.1 bytes a.1 in
    let nothing : drop a.0.1 t ≡ [] = drop_all a.0.1 t (ltb-false _ _ g.0) in
    subst (λ (w : V). f.Fits w × (t ≡ f.text w)) g.1 (stands.fits, stands.parts ∙ ap (λ (r : List ℕ). f.text a.0.0 ++ r) nothing ∙ append-nil (f.text a.0.0))

-- the text of a value is read as it
pub whole_to_end_again : {V : Type 0} (f : Format V) → IsSoundToEnd f → (v : V) → f.Fits v → whole f (f.text v) ≡ Ok v
whole_to_end_again f s v fits =
    let read : f.parse (f.text v) 0 ≡ Ok (v, 0 + length (f.text v)) = s.again (f.text v) 0 v fits refl in
    let end : ltb (0 + length (f.text v)) (length (f.text v)) ≡ false = le-ltb _ _ (omega arith) in
    rw (read, end) refl

cut_off : {A : Type 0} (b : Bool) (k d : Departure) (x : A) → cond b (Err k) (done x) ≡ Err d → (b ≡ true) × (k ≡ d)
cut_off true k d x e = (refl, cc)
cut_off false k d x e = absurd cc

-- a whole text departs within it or at its end
pub whole_to_end_within : {V : Type 0} (f : Format V) → IsSoundToEnd f → (t : List ℕ) (d : Departure) → IsBytes t → whole f t ≡ Err d → place_of d ≤ length t
whole_to_end_within f s t d bytes e =
    elim (bind_err (f.parse t 0) (λ x. cond (ltb x.1 (length t)) (Err (Form x.1)) (done x.0)) d e) [
      | inl h ↦ s.within t 0 d bytes (omega arith) h
      | inr a ↦
          let g = cut_off (ltb a.0.1 (length t)) (Form a.0.1) d a.0.0 a.2 in
          let short : a.0.1 ≤ length t = omega (arith, ltb-true a.0.1 (length t) g.0) in
          subst (λ (k : Departure). place_of k ≤ length t) g.1 short
    ]

left_ok : {A : Type 0} (b : Bool) (d : Departure) (r : Result A Departure) (y : A) → cond b (Err d) r ≡ done y → (b ≡ false) × (r ≡ done y)
left_ok true d r y e = absurd cc
left_ok false d r y e = (refl, e)

left_err : {A : Type 0} (b : Bool) (k d : Departure) (r : Result A Departure) → cond b (Err k) r ≡ Err d → ((b ≡ true) × (k ≡ d)) ⊎ ((b ≡ false) × (r ≡ Err d))
left_err true k d r e = inl (refl, cc)
left_err false k d r e = inr (refl, e)

filled_within : {A : Type 0} (n : ℕ) (f : Format A) → IsSoundToEnd f → (t : List ℕ) (i : ℕ) (d : Departure) → IsBytes t → i ≤ length t → n ≤ length t - i
    → (f.parse (take (i + n) t) i >>= λ x. cond (ltb x.1 (i + n)) (Err (Form x.1)) (done x)) ≡ Err d → place_of d ≤ length t
filled_within n f s t i d bytes le room e =
    let size : length (take (i + n) t) ≡ i + n = omega (arith, length-take (i + n) t) in
    elim (bind_err (f.parse (take (i + n) t) i) (λ x. cond (ltb x.1 (i + n)) (Err (Form x.1)) (done x)) d e) [
      | inl h ↦ let inner : place_of d ≤ length (take (i + n) t) = s.within (take (i + n) t) i d (IsBytes-take (i + n) t bytes) (omega (arith, size)) h in omega (arith, size, inner)
      | inr a ↦
          let g = cut_off (ltb a.0.1 (i + n)) (Form a.0.1) d a.0 a.2 in
          let short : a.0.1 ≤ length t = omega (arith, ltb-true a.0.1 (i + n) g.0) in
          subst (λ (k : Departure). place_of k ≤ length t) g.1 short
    ]

front_size : (n : ℕ) (t : List ℕ) (i : ℕ) → n ≤ length t - i → length (take n (drop i t)) ≡ n
front_size n t i le = omega (arith, length-take n (drop i t), length-drop i t)

-- within so many bytes it is a format like any other
pub filled_to_end : {A : Type 0} (n : ℕ) (f : Format A) → IsSoundToEnd f → IsSound (filled n f)
unfolding filled
filled_to_end {A = A} n f s = record {
  takes = λ t i v j bytes e.
      let g = left_ok (ltb (length t - i) n) (Form i) (f.parse (take (i + n) t) i >>= λ x. cond (ltb x.1 (i + n)) (Err (Form x.1)) (done x)) (v, j) e in
      let a = bind_ok (f.parse (take (i + n) t) i) (λ x. cond (ltb x.1 (i + n)) (Err (Form x.1)) (done x)) (v, j) g.1 in
      let h = passed (ltb a.0.1 (i + n)) (Form a.0.1) a.0 (v, j) a.2 in
      let inner = s.takes (take (i + n) t) i a.0.0 a.0.1 (IsBytes-take (i + n) t bytes) a.1 in
      let front : drop i (take (i + n) t) ≡ take n (drop i t) = drop-take i n t in
      let nothing : drop a.0.1 (take (i + n) t) ≡ [] = drop_all a.0.1 (take (i + n) t) (omega (arith, length-take (i + n) t, ltb-false _ _ h.0)) in
      let text : take n (drop i t) ≡ f.text a.0.0 = sym front ∙ inner.parts ∙ ap (λ (r : List ℕ). f.text a.0.0 ++ r) nothing ∙ append-nil (f.text a.0.0) in
      let len : length (f.text a.0.0) ≡ n = ap (λ (r : List ℕ). length r) (sym text) ∙ front_size n t i (ltb-false _ _ g.0) in
      let end : a.0.1 ≡ i + n = inner.end ∙ ap (λ (k : ℕ). i + k) len in
      subst (λ (q : A × ℕ). Stands (filled n f) t i q.0 q.1) h.1 (record {
        fits = (inner.fits, len);
        parts = sym (take-append-drop n (drop i t)) ∙ ap (λ (r : List ℕ). r ++ drop n (drop i t)) text ∙ ap (λ (r : List ℕ). f.text a.0.0 ++ r) (drop-drop n i t ∙ ap (λ (k : ℕ). drop k t) (sym end));
        end = inner.end;
      });
  again = λ t i v rest fits e.
      let len : length (f.text v) ≡ n = fits.1 in
      let size : length (drop i t) ≡ length (f.text v) + length rest = ap (λ (x : List ℕ). length x) e ∙ length-append (f.text v) rest in
      let long : ltb (length t - i) n ≡ false = le-ltb _ _ (omega (arith, length-drop i t, size, len)) in
      let front : drop i (take (i + n) t) ≡ f.text v = drop-take i n t ∙ ap (λ (x : List ℕ). take n x) e ∙ take_at (f.text v) rest n len in
      let read : f.parse (take (i + n) t) i ≡ Ok (v, i + length (f.text v)) = s.again (take (i + n) t) i v fits.0 front in
      let end : ltb (i + length (f.text v)) (i + n) ≡ false = le-ltb _ _ (omega (arith, len)) in
      rw (long, read, end) refl;
  within = λ t i d bytes le e.
      elim (left_err (ltb (length t - i) n) (Form i) d (f.parse (take (i + n) t) i >>= λ x. cond (ltb x.1 (i + n)) (Err (Form x.1)) (done x)) e) [
        | inl h ↦ subst (λ (k : Departure). place_of k ≤ length t) h.1 le
        | inr h ↦ filled_within n f s t i d bytes le (ltb-false _ _ h.0) h.1
      ];
}
