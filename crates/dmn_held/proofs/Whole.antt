-- What is read of a whole text, by a format whose texts end where the text ends.
use Rattle.std.proofs.Common.{◌≡◌, ℕ, List, length, Result, Ok, Err, refl, sym, ap, ◌∙◌}
use Rattle.std.specs.Prelude.{IfOk, IfErr, MatchResult}
use Rattle.dmn_bytes.specs.declared.fault.ReadError.{ReadError}
use Rattle.dmn_bytes.specs.declared.fault.ReadError.TheVariants as errors
use Rattle.dmn_bytes.specs.Format.{Format, whole}
use Rattle.dmn_bytes.specs.Law.{IsBytes}
use Rattle.dmn_bytes.specs.Reading.{DepartsBy, FailsWhole, GivesWhole}
use Rattle.dmn_bytes.specs.Sound.{ok_is}
use Rattle.dmn_held.specs.ToEnd.{IsSoundToEnd, whole_to_end, whole_to_end_again, whole_to_end_within}

pub whole_found : {V : Type 0} (f : Format V) → IsSoundToEnd f → (t : List ℕ) (r : Result V ReadError) → IsBytes t → GivesWhole f t r → IfOk r (λ v. f.Fits v × (t ≡ f.text v))
whole_found f s t (Ok v) bytes h = whole_to_end f s t v bytes h
whole_found f s t (Err e) bytes h = tt

no_fault : {V : Type 0} (e : ReadError) (parsed : Result V _) (x : V) → parsed ≡ Ok x → FailsWhole e parsed → e ≡ errors.Memory
no_fault errors.Memory parsed x is h = refl
no_fault (errors.Departs d) parsed x is h = absurd cc

pub whole_only : {V : Type 0} (f : Format V) → IsSoundToEnd f → (t : List ℕ) (r : Result V ReadError) (v : V) → GivesWhole f t r → f.Fits v → t ≡ f.text v → MatchResult r (λ w. w ≡ v) (λ e. e ≡ errors.Memory)
whole_only f s t (Ok w) v h fits e = ok_is w v (sym h ∙ ap (whole f) e ∙ whole_to_end_again f s v fits)
whole_only f s t (Err e') v h fits e = no_fault e' (whole f t) v (ap (whole f) e ∙ whole_to_end_again f s v fits) h

departs_by : {V : Type 0} (f : Format V) → IsSoundToEnd f → (t : List ℕ) (e : ReadError) → IsBytes t → FailsWhole e (whole f t) → DepartsBy e (length t)
departs_by f s t errors.Memory bytes h = tt
departs_by f s t (errors.Departs d) bytes h = whole_to_end_within f s t d bytes h

pub whole_departs : {V : Type 0} (f : Format V) → IsSoundToEnd f → (t : List ℕ) (r : Result V ReadError) → IsBytes t → GivesWhole f t r → IfErr r (λ e. DepartsBy e (length t))
whole_departs f s t (Ok v) bytes h = tt
whole_departs f s t (Err e) bytes h = departs_by f s t e bytes h
