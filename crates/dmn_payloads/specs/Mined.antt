-- The payload of a commitment, as the code holds it.
use Rattle.std.specs.Prelude.{refl}
use Rattle.dmn_bytes.specs.Format.{Format, via}
use Rattle.dmn_bytes.specs.Law.{IsSound}
use Rattle.dmn_bytes.specs.Sound.{via_sound}
use Rattle.dmn_payloads.specs.Commitments.{mined, mined_sound}
use Rattle.dmn_payloads.specs.declared.commitment.Mined.{Mined}

unfoldable pub mined_struct : Format Mined
mined_struct = via (λ (height, commitment). record { height = height; commitment = commitment }) (λ v. (v.height, v.commitment)) mined

pub mined_struct_sound : IsSound mined_struct
unfolding mined_struct
mined_struct_sound = via_sound _ _ _ (λ v. refl) (λ a fits. refl) mined_sound
