-- What proves a block's first transaction: a blob with the transaction, and the branch.
use Rattle.std.specs.Prelude.{◌≡◌, ℕ, Bool, true, false, ◌==◌, length, Option, None, Some, refl}
use Rattle.std.specs.Int.{w32}
use Rattle.std.proofs.Common.{ap, sym, ◌∙◌}
use Rattle.std.proofs.lemmas.Bool.{eqb-true}
use Rattle.dmn_bytes.specs.declared.fault.Departure.TheVariants.{Form}
use Rattle.dmn_bytes.specs.Format.{Format, via, ◌⊗◌, choose, compact, filled, kept, keyed, number, only}
use Rattle.dmn_bytes.specs.Law.{IsSound}
use Rattle.dmn_bytes.specs.Sound.{via_sound, both_sound, choose_sound, compact_sound, filled_sound, kept_here, keyed_sound, number32_sound, only_sound}
use Rattle.dmn_merkle.specs.BranchText.{branching, branching_sound}
use Rattle.dmn_tx.specs.Tx.{tx, tx_sound}
use Rattle.dmn_held.specs.Present.{present, present_sound}
use Rattle.dmn_held.specs.declared.coinbase.CoinbasePart.{CoinbasePart}

-- how long the transaction's text is
abbrev pub tx_size : CoinbasePart → ℕ
tx_size part = length (tx.text part.tx)

-- what stands behind the length of the transaction
unfoldable pub behind_size : ℕ → Format CoinbasePart
behind_size n = via (λ (t, b). record { tx = t; branch = b }) (λ v. (v.tx, v.branch)) (filled n tx ⊗ branching)

unfoldable pub coinbase_part : Format CoinbasePart
coinbase_part = keyed tx_size compact behind_size

-- ---- that of the height before the first block: an empty blob, 0, and two empty lists

-- a number that is 0
abbrev pub zero_of : Format ℕ → Format ℕ
zero_of f = kept (λ i. Form i) (λ n. n == 0) f

unfoldable pub no_part : Format (Option CoinbasePart)
no_part = via (λ (total, (hashes, (flags, nothing))). nothing) (λ v. (0, (0, (0, v)))) (zero_of (number w32) ⊗ zero_of compact ⊗ zero_of compact ⊗ only None)

abbrev pub size_if : Option CoinbasePart → ℕ
size_if None = 0
size_if (Some part) = tx_size part

unfoldable pub behind_size_if : ℕ → Format (Option CoinbasePart)
behind_size_if n = choose (n == 0) no_part (present (behind_size n))

-- that of any height
unfoldable pub part_if : Format (Option CoinbasePart)
part_if = keyed size_if compact behind_size_if

-- ---- each reads as its texts

behind_size_sound : (n : ℕ) → IsSound (behind_size n)
unfolding behind_size
behind_size_sound n = via_sound _ _ _ (λ v. refl) (λ a fits. refl) (both_sound _ _ (filled_sound n tx tx_sound) branching_sound)

-- what stands behind a length says it
says_size : (n : ℕ) (v : CoinbasePart) → (behind_size n).Fits v → tx_size v ≡ n
unfolding behind_size filled
says_size n v fits = fits.0.1

pub coinbase_part_sound : IsSound coinbase_part
unfolding coinbase_part
coinbase_part_sound = keyed_sound tx_size compact behind_size says_size compact_sound behind_size_sound

no_part_sound : IsSound no_part
unfolding no_part
no_part_sound = via_sound _ _ _ (λ v. refl)
    (λ a fits. ap (λ (n : ℕ). (n, (0, (0, a.1.1.1)))) (sym (eqb-true a.0 0 fits.0.1)) ∙ ap (λ (n : ℕ). (a.0, (n, (0, a.1.1.1)))) (sym (eqb-true a.1.0 0 fits.1.0.1)) ∙ ap (λ (n : ℕ). (a.0, (a.1.0, (n, a.1.1.1)))) (sym (eqb-true a.1.1.0 0 fits.1.1.0.1)))
    (both_sound _ _ (kept_here (λ n. n == 0) (number w32) number32_sound) (both_sound _ _ (kept_here (λ n. n == 0) compact compact_sound) (both_sound _ _ (kept_here (λ n. n == 0) compact compact_sound) (only_sound None))))

behind_size_if_sound : (n : ℕ) → IsSound (behind_size_if n)
unfolding behind_size_if
behind_size_if_sound n = choose_sound (n == 0) no_part (present (behind_size n)) no_part_sound (present_sound (behind_size n) (behind_size_sound n))

no_part_is : (v : Option CoinbasePart) → no_part.Fits v → size_if v ≡ 0
unfolding no_part
no_part_is v fits = ap size_if fits.1.1.1

part_is : (n : ℕ) (v : Option CoinbasePart) → (present (behind_size n)).Fits v → size_if v ≡ n
part_is n None fits = absurd fits
part_is n (Some v) fits = says_size n v fits

says_size_if : (n : ℕ) (v : Option CoinbasePart) → (behind_size_if n).Fits v → size_if v ≡ n
unfolding behind_size_if
says_size_if n v fits = by (n == 0) refl fits
  where
    by : (b : Bool) → (n == 0) ≡ b → (choose b no_part (present (behind_size n))).Fits v → size_if v ≡ n
    by true e fits = no_part_is v fits ∙ sym (eqb-true n 0 e)
    by false e fits = part_is n v fits

pub part_if_sound : IsSound part_if
unfolding part_if
part_if_sound = keyed_sound size_if compact behind_size_if says_size_if compact_sound behind_size_if_sound
