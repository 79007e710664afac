-- One height of a snapshot, as the difference to the height before it, field by field.
use Rattle.std.specs.Prelude.{refl}
use Rattle.dmn_bytes.specs.Format.{Format, via, ◌⊗◌, hash}
use Rattle.dmn_bytes.specs.Law.{IsSound}
use Rattle.dmn_bytes.specs.Sound.{via_sound, both_sound, hash_sound}
use Rattle.dmn_held.specs.Coinbase.{coinbase_part, coinbase_part_sound}
use Rattle.dmn_held.specs.Lists.{rows_field, rows_sound, hashes_field, hashes_sound, outputs_field, outputs_sound, points_field, points_sound, commitments_field, commitments_sound}
use Rattle.dmn_held.specs.declared.data.HeightData.{HeightData}

unfoldable pub height_data : Format HeightData
height_data = via
    (λ (hash, (coinbase, (put, (removed, (added, (spent, mined)))))). record { hash = hash; coinbase = coinbase; put = put; removed = removed; added = added; spent = spent; mined = mined })
    (λ v. (v.hash, (v.coinbase, (v.put, (v.removed, (v.added, (v.spent, v.mined)))))))
    (hash ⊗ coinbase_part ⊗ rows_field ⊗ hashes_field ⊗ outputs_field ⊗ points_field ⊗ commitments_field)

pub height_data_sound : IsSound height_data
unfolding height_data
height_data_sound = via_sound _ _ _ (λ v. refl) (λ a fits. refl)
    (both_sound _ _ hash_sound (both_sound _ _ coinbase_part_sound (both_sound _ _ rows_sound (both_sound _ _ hashes_sound (both_sound _ _ outputs_sound (both_sound _ _ points_sound commitments_sound))))))
