-- What a snapshot holds, field by field: the lowest height whole, and behind it the heights up to the tip, which is where the
-- text ends.
use Rattle.std.specs.Prelude.{◌≡◌, ℕ, ◌<◌, List, ◌++◌, length, refl}
use Rattle.std.proofs.Common.{arith}
use Rattle.std.proofs.lemmas.List.{length-append}
use Rattle.std.specs.Int.{w32}
use Rattle.dmn_bytes.specs.Format.{Format, via, ◌⊗◌, hash, number}
use Rattle.dmn_bytes.specs.Sound.{hash_sound, number32_sound}
use Rattle.dmn_held.specs.Coinbase.{part_if, part_if_sound}
use Rattle.dmn_held.specs.Height.{height_data, height_data_sound}
use Rattle.dmn_held.specs.Lists.{rows_field, rows_sound, outputs_field, outputs_sound, mined_field, mined_sound}
use Rattle.dmn_held.specs.ToEnd.{to_end, HasBytes, IsSoundToEnd, both_to_end, via_to_end, to_end_sound}
use Rattle.dmn_held.specs.declared.data.SnapshotData.{SnapshotData}

unfoldable pub snapshot : Format SnapshotData
snapshot = via
    (λ (top, (low, (low_hash, (rows, (outputs, (active, (coinbase, heights))))))). record { top = top; low = low; low_hash = low_hash; rows = rows; outputs = outputs; active = active; coinbase = coinbase; heights = heights })
    (λ v. (v.top, (v.low, (v.low_hash, (v.rows, (v.outputs, (v.active, (v.coinbase, v.heights))))))))
    (number w32 ⊗ number w32 ⊗ hash ⊗ rows_field ⊗ outputs_field ⊗ mined_field ⊗ part_if ⊗ to_end height_data)

-- ---- it reads as its texts, where nothing stands behind

some_front : (front rest : List ℕ) → length front ≡ 32 → 0 < length (front ++ rest)
some_front front rest is = omega (arith, is, length-append front rest)

-- a height begins with a hash
height_has_bytes : HasBytes height_data
unfolding height_data
height_has_bytes v fits = some_front v.hash.0 _ fits.0

pub snapshot_to_end : IsSoundToEnd snapshot
unfolding snapshot
snapshot_to_end = via_to_end _ _ _ (λ v. refl) (λ a fits. refl)
    (both_to_end _ _ number32_sound (both_to_end _ _ number32_sound (both_to_end _ _ hash_sound (both_to_end _ _ rows_sound (both_to_end _ _ outputs_sound (both_to_end _ _ mined_sound (both_to_end _ _ part_if_sound (to_end_sound height_data height_data_sound height_has_bytes))))))))
