-- Commitments: what is read may be written, and the payload's format is that of the struct that holds it.
use Rattle.std.proofs.Common.{◌≡◌, ℕ, Bool, true, false, cond, ltb, List, length, Result, Ok, Err, Option, None, Some, refl, sym, ap, ◌∙◌}
use Rattle.dmn_bytes.specs.declared.fault.Departure.{Departure}
use Rattle.dmn_bytes.specs.declared.fault.Departure.TheVariants.{Form}
use Rattle.dmn_bytes.specs.declared.fault.ReadError.{ReadError}
use Rattle.dmn_bytes.specs.declared.fault.ReadError.TheVariants as errors
use Rattle.dmn_bytes.specs.Format.{◌>>=◌, whole}
use Rattle.dmn_bytes.specs.Reading.{Fails}
use Rattle.dmn_bytes.specs.Sound.{bind_ok, ok_is}
use Rattle.dmn_payloads.specs.declared.commitment.Bits.{Bits}
use Rattle.dmn_payloads.specs.declared.commitment.Commitment.{Commitment}
use Rattle.dmn_payloads.specs.declared.commitment.Mined.{Mined}
use Rattle.dmn_payloads.specs.declared.fault.PayloadFault.{PayloadFault}
use Rattle.dmn_payloads.specs.declared.fault.PayloadFault.TheVariants as faults
use Rattle.dmn_payloads.specs.Commitments.{bits, commitment, mined, HasItsBytes, KeepsSets}
use Rattle.dmn_payloads.specs.Mined.{mined_struct}
use Rattle.dmn_payloads.specs.Fault.{payload_fault, DepartsAt, FormFails, AnswersBy}

set_keeps : (v : Bits) → bits.Fits v → HasItsBytes v
unfolding bits
set_keeps v fits = fits.1

pub keeps : (v : Commitment) → commitment.Fits v → KeepsSets v
unfolding commitment
keeps v fits = (set_keeps v.signers fits.1.1.1.0, set_keeps v.valid fits.1.1.1.1.0)

pub mined_keeps : (v : ℕ × Commitment) → mined.Fits v → KeepsSets v.1
unfolding mined
mined_keeps v fits = keeps v.1 fits.1.1

pub fails_so : {V : Type 0} (e : ReadError) (parsed : Result (V × ℕ) Departure) → Fails e parsed → FormFails (payload_fault e) parsed
fails_so errors.Memory parsed h = tt
fails_so (errors.Departs d) parsed h = rw h refl

-- ---- the payload's struct

abbrev pub as_struct : ℕ × Commitment → Mined
as_struct x = record { height = x.0; commitment = x.1 }

abbrev pub as_pair : Mined → ℕ × Commitment
as_pair m = (m.height, m.commitment)

abbrev read_as : (ℕ × Commitment) × ℕ → Result (Mined × ℕ) Departure
read_as x = Ok (as_struct x.0, x.1)

abbrev all_of : {V : Type 0} → ℕ → V × ℕ → Result V Departure
all_of n x = cond (ltb x.1 n) (Err (Form x.1)) (Ok x.0)

abbrev made : ℕ × Commitment → Result Mined Departure
made x = Ok (as_struct x)

last : (b : Bool) (x : ℕ × Commitment) (j : ℕ) → cond b (Err (Form j)) (made x) ≡ (cond b (Err (Form j)) (Ok x) >>= made)
last true x j = refl
last false x j = refl

via_whole : (n : ℕ) (r : Result ((ℕ × Commitment) × ℕ) Departure) → ((r >>= read_as) >>= all_of n) ≡ ((r >>= all_of n) >>= made)
via_whole n (Ok x) = last (ltb x.1 n) x.0 x.1
via_whole n (Err d) = refl

whole_struct : (t : List ℕ) → whole mined_struct t ≡ (whole mined t >>= made)
unfolding mined_struct
whole_struct t = via_whole (length t) (mined.parse t 0)

pub of_struct : (o : Option ℕ) (t : List ℕ) (m : Mined) → AnswersBy o (whole mined_struct t) (Ok m) → AnswersBy o (whole mined t) (Ok (as_pair m))
of_struct (Some found) t m h = absurd cc
of_struct None t m h =
    let x = bind_ok (whole mined t) made m (sym (whole_struct t) ∙ h) in
    let pair : Mined → Result (ℕ × Commitment) Departure = λ n. Ok (as_pair n) in
    x.1 ∙ ap pair (ok_is (as_struct x.0) m x.2)

departs_of_struct : (r : Result (ℕ × Commitment) Departure) (at : ℕ) → DepartsAt (r >>= made) at → DepartsAt r at
departs_of_struct (Ok x) at h = h
departs_of_struct (Err d) at h = h

form_of_struct : (e : PayloadFault) (t : List ℕ) → FormFails e (whole mined_struct t) → FormFails e (whole mined t)
form_of_struct faults.Memory t h = tt
form_of_struct (faults.PayloadForm at) t h = departs_of_struct (whole mined t) at (rw (whole_struct t) at h)
form_of_struct (faults.PayloadVersion found) t h = h

pub fails_of_struct : (o : Option ℕ) (t : List ℕ) (e : PayloadFault) → AnswersBy o (whole mined_struct t) (Err e) → AnswersBy o (whole mined t) (Err e)
fails_of_struct (Some found) t e h = cc
fails_of_struct None t e h = form_of_struct e t h
