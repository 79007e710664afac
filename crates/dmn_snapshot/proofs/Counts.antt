-- A read of a slot's file is none of file 0.
use Rattle.std.proofs.Common.{◌≡◌, ℕ, zero, suc, ◌≤◌, refl, ap, ◌∙◌, arith}
use Rattle.dmn_outside.specs.Changes.{after_read, bytes_read}
use Rattle.dmn_outside.specs.Disk.{Told, nothing, contents, whole}

other_counted : (file at n : ℕ) (d : Told) → 1 ≤ file → bytes_read 0 (after_read file at n d) ≡ bytes_read 0 d
unfolding bytes_read after_read
other_counted zero at n d le = absurd (omega arith)
other_counted (suc k) at n nothing le = refl
other_counted (suc k) at n (contents c) le = refl
other_counted (suc zero) at n (whole w) le = refl
other_counted (suc (suc k)) at n (whole w) le = refl

pub other_read : (file at n : ℕ) (old new : Told) → 1 ≤ file → new ≡ after_read file at n old → bytes_read 0 new ≡ bytes_read 0 old
other_read file at n old new le told = ap (λ (d : Told). bytes_read 0 d) told ∙ other_counted file at n old le
