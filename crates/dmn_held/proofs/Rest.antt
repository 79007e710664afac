-- Reading values one after the other up to the end of a text, as a loop does.
use Rattle.std.proofs.Common.{◌≡◌, ℕ, zero, suc, ◌-◌, ◌+◌, ◌≤◌, ◌<◌, true, false, ltb, List, [], ◌∷◌, ◌++◌, length, Result, Ok, Err, refl, sym, ap, ◌∙◌, arith}
use Rattle.std.proofs.lemmas.Bool.{lt-ltb, le-ltb}
use Rattle.std.proofs.lemmas.List.{append-nil}
use Rattle.dmn_bytes.specs.declared.fault.Departure.{Departure}
use Rattle.dmn_bytes.specs.declared.fault.ReadError.{ReadError}
use Rattle.dmn_bytes.specs.declared.fault.ReadError.TheVariants as errors
use Rattle.dmn_bytes.specs.Format.{Format}
use Rattle.dmn_bytes.specs.Reading.{Fails}
use Rattle.dmn_bytes.proofs.Many.{with_front, regroup}
use Rattle.dmn_held.specs.ToEnd.{rest_parse}

-- what is left, where there is room for so many more values
abbrev pub left : {A : Type 0} → Format A → ℕ → ℕ → List ℕ → List A → ℕ → Result (List A × ℕ) Departure
left f n i t front at = with_front front (rest_parse f (n - i) t at)

pub goes_on : {A : Type 0} (f : Format A) (n i : ℕ) (t : List ℕ) (front : List A) (at : ℕ) (v : A) (after : ℕ) (total : Result (List A × ℕ) Departure) → i < n → at < length t → f.parse t at ≡ Ok (v, after)
    → left f n i t front at ≡ total → left f n (i + 1) t (front ++ v ∷ []) after ≡ total
unfolding rest_parse
goes_on f n i t front at v after total lt more h so_far =
    let k : n - i ≡ suc (n - (i + 1)) = omega arith in
    let test : ltb at (length t) ≡ true = lt-ltb _ _ more in
    let one : left f n i t front at ≡ left f n (i + 1) t (front ++ v ∷ []) after = rw (k, test, h) (regroup front v (rest_parse f (n - (i + 1)) t after)) in
    sym one ∙ so_far

pub stops : {A : Type 0} (f : Format A) (e : ReadError) (n i : ℕ) (t : List ℕ) (front : List A) (at : ℕ) (total : Result (List A × ℕ) Departure) → i < n → at < length t → Fails e (f.parse t at)
    → left f n i t front at ≡ total → Fails e total
unfolding rest_parse
stops f errors.Memory n i t front at total lt more h so_far = tt
stops f (errors.Departs d) n i t front at total lt more h so_far =
    let k : n - i ≡ suc (n - (i + 1)) = omega arith in
    let test : ltb at (length t) ≡ true = lt-ltb _ _ more in
    let one : left f n i t front at ≡ Err d = rw (k, test, h) refl in
    sym so_far ∙ one

ended_with : {A : Type 0} (f : Format A) (k : ℕ) (t : List ℕ) (at : ℕ) → length t ≤ at → rest_parse f k t at ≡ Ok ([], at)
unfolding rest_parse
ended_with f zero t at le = refl
ended_with f (suc k) t at le = let test : ltb at (length t) ≡ false = le-ltb _ _ le in rw test refl

-- the text is at its end
pub ended : {A : Type 0} (f : Format A) (n i : ℕ) (t : List ℕ) (front : List A) (at : ℕ) (total : Result (List A × ℕ) Departure) → length t ≤ at → left f n i t front at ≡ total → total ≡ Ok (front, at)
ended {A = A} f n i t front at total le so_far =
    let one : left f n i t front at ≡ Ok (front, at) = ap (with_front front) (ended_with f (n - i) t at le) ∙ ap (λ (vs : List A). Ok (vs, at)) (append-nil front) in
    sym so_far ∙ one

-- there is room for no more
pub is_done : {A : Type 0} (f : Format A) (n i : ℕ) (t : List ℕ) (front : List A) (at : ℕ) (total : Result (List A × ℕ) Departure) → n ≤ i → left f n i t front at ≡ total → total ≡ Ok (front, at)
unfolding rest_parse
is_done {A = A} f n i t front at total le so_far =
    let k : n - i ≡ 0 = omega arith in
    let one : left f n i t front at ≡ Ok (front, at) = rw k (ap (λ (vs : List A). Ok (vs, at)) (append-nil front)) in
    sym so_far ∙ one
