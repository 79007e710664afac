-- The body by which a header comes: the block's hash, and its header of 80 bytes as one field.
use Rattle.std.specs.Prelude.{ℕ, List, take, drop, refl}
use Rattle.dmn_bytes.specs.declared.hash.Hash256.{Hash256}
use Rattle.dmn_bytes.specs.Format.{Format, via, ◌⊗◌, hash, fixed}
use Rattle.dmn_bytes.specs.Law.{IsSound}
use Rattle.dmn_bytes.specs.Sound.{via_sound, both_sound, hash_sound, fixed_sound}
use Rattle.dmn_light.specs.declared.header.HeaderBody.{HeaderBody}

unfoldable pub header_body : Format HeaderBody
header_body = via (λ (block, bytes). record { hash = block; header = bytes }) (λ v. (v.hash, v.header)) (hash ⊗ fixed 80)

-- the root of the block's transactions stands behind the version and the hash of the block before
abbrev pub root_in : List ℕ → Hash256
root_in header = record { 0 = take 32 (drop 36 header) }

pub header_body_sound : IsSound header_body
unfolding header_body
header_body_sound = via_sound _ _ _ (λ v. refl) (λ a fits. refl) (both_sound _ _ hash_sound (fixed_sound 80))
