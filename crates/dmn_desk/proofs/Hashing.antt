-- The frame of hashes, and its length.
use Rattle.std.proofs.Common.{◌≡◌, ℕ, ◌+◌, ◌*◌, ◌<◌, List, [], ◌∷◌, ◌++◌, length, take, get_or, sym, ap, arith}
use Rattle.std.specs.Int.{w16, w32, to_le_bytes}
use Rattle.std.specs.List.{flat_map}
use Rattle.std.proofs.lemmas.List.{length-append}
use Rattle.dmn_bytes.specs.declared.hash.Hash256.{Hash256}
use Rattle.dmn_bytes.specs.Format.{hash}
use Rattle.dmn_desk.specs.Framed.{hashes_body}
use Rattle.dmn_frames.specs.Frames.{framed}
use Rattle.dmn_desk.proofs.Listing.{texts_more}

-- one hash more
pub hashes_more : (hashes : List Hash256) (i : ℕ) (d : Hash256) → i < length hashes → length (get_or hashes i d).0 ≡ 32 → length (flat_map hash.text (take i hashes)) ≡ 32 * i → length (flat_map hash.text (take (i + 1) hashes)) ≡ 32 * (i + 1)
hashes_more hashes i d lt has so = omega (arith, texts_more hash.text hashes i d lt, has, so)

-- the count before them: 2 bytes
pub hashes_length : (hashes : List Hash256) → length (flat_map hash.text hashes) ≡ 32 * length hashes → length (hashes_body hashes) ≡ 2 + 32 * length hashes
unfolding hashes_body
hashes_length hashes is = omega (arith, is, length-append (to_le_bytes w16 (length hashes)) (flat_map hash.text hashes))

-- a frame whose length is known before its body is sent
pub hashes_framed : (n : ℕ) (hashes : List Hash256) → length (hashes_body hashes) ≡ n → (0 ∷ []) ++ (to_le_bytes w32 n ++ (to_le_bytes w16 (length hashes) ++ flat_map hash.text hashes)) ≡ framed 0 (hashes_body hashes)
unfolding framed hashes_body
hashes_framed n hashes is = ap (λ (k : ℕ). 0 ∷ (to_le_bytes w32 k ++ (to_le_bytes w16 (length hashes) ++ flat_map hash.text hashes))) (sym is)
