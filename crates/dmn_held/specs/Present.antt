-- A value that is there, as an optional one.
use Rattle.std.specs.Prelude.{◌≡◌, ℕ, ◌+◌, ◌≤◌, List, [], ◌++◌, length, drop, Option, None, Some, Result, Ok, Err, refl}
use Rattle.std.proofs.Common.{subst, inl, inr}
use Rattle.dmn_bytes.specs.declared.fault.Departure.{Departure}
use Rattle.dmn_bytes.specs.Format.{◌>>=◌, Format}
use Rattle.dmn_bytes.specs.Law.{IsBytes, IsSound, Stands, place_of}
use Rattle.dmn_bytes.specs.Sound.{bind_ok, bind_err, ok_is}

abbrev pub text_if : {A : Type 0} → Format A → Option A → List ℕ
text_if f None = []
text_if f (Some v) = f.text v

abbrev pub FitsHere : {A : Type 0} → Format A → Option A → Type 0
FitsHere f None = ⊥
FitsHere f (Some v) = f.Fits v

abbrev pub present : {A : Type 0} → Format A → Format (Option A)
present f = record {
  text = text_if f;
  Fits = FitsHere f;
  parse = λ t i. f.parse t i >>= λ x. Ok (Some x.0, x.1);
}

abbrev done : {A : Type 0} → A → Result A Departure
done x = Ok x

present_again : {A : Type 0} (f : Format A) → IsSound f → (t : List ℕ) (i : ℕ) (v : Option A) (rest : List ℕ) → FitsHere f v → drop i t ≡ text_if f v ++ rest → (present f).parse t i ≡ Ok (v, i + length (text_if f v))
present_again f s t i None rest fits e = absurd fits
present_again f s t i (Some v) rest fits e = rw (s.again t i v rest fits e) refl

present_within : {A : Type 0} (f : Format A) → IsSound f → (t : List ℕ) (i : ℕ) (d : Departure) → IsBytes t → i ≤ length t → (present f).parse t i ≡ Err d → place_of d ≤ length t
present_within {A = A} f s t i d bytes le e =
    elim (bind_err (f.parse t i) (λ (x : A × ℕ). done (Some x.0, x.1)) d e) [
      | inl h ↦ s.within t i d bytes le h
      | inr a ↦ absurd (let h = a.2 in cc)
    ]

pub present_sound : {A : Type 0} (f : Format A) → IsSound f → IsSound (present f)
present_sound {A = A} f s = record {
  takes = λ t i v j bytes e.
      let a = bind_ok (f.parse t i) (λ (x : A × ℕ). done (Some x.0, x.1)) (v, j) e in
      let inner = s.takes t i a.0.0 a.0.1 bytes a.1 in
      subst (λ (y : Option A × ℕ). Stands (present f) t i y.0 y.1) (ok_is (Some a.0.0, a.0.1) (v, j) a.2) (record { fits = inner.fits; parts = inner.parts; end = inner.end });
  again = present_again f s;
  within = present_within f s;
}
