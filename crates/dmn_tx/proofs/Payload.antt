-- What is read may be written.
use Rattle.std.proofs.Common.{◌≡◌, ◌≤◌, ℕ, Bool, true, false, List, [], length}
use Rattle.std.specs.Prelude.{MatchBool}
use Rattle.std.proofs.lemmas.Bool.{leb-true}
use Rattle.dmn_bytes.specs.Format.{choose, blob_within, only}
use Rattle.dmn_tx.specs.declared.kinds.TheConstants.{LONGEST_PAYLOAD}
use Rattle.dmn_tx.specs.declared.tx.Tx.{Tx}
use Rattle.dmn_tx.specs.Tx.{tx, payload_of, is_special, KeepsPayload}

keeps : (b : Bool) (p : List ℕ) → (choose b (blob_within LONGEST_PAYLOAD) (only [])).Fits p → MatchBool b (length p ≤ LONGEST_PAYLOAD) (p ≡ [])
unfolding blob_within
keeps true p fits = leb-true (length p) LONGEST_PAYLOAD fits.0.1
keeps false p fits = fits

pub fits_keeps : (v : Tx) → tx.Fits v → KeepsPayload v
unfolding tx payload_of
fits_keeps v fits = keeps (is_special v.version v.kind) v.payload fits.1.1.1.1.1
