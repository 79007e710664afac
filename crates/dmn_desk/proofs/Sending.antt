-- The frame of quorums, and its length.
use Rattle.std.proofs.Common.{◌≡◌, ℕ, ◌+◌, List, [], ◌∷◌, ◌++◌, length, sym, ap, arith}
use Rattle.std.specs.Int.{w16, w32, to_le_bytes}
use Rattle.std.specs.List.{flat_map}
use Rattle.std.proofs.lemmas.List.{length-append}
use Rattle.dmn_payloads.specs.declared.commitment.Commitment.{Commitment}
use Rattle.dmn_payloads.specs.Commitments.{commitment}
use Rattle.dmn_desk.specs.Framed.{quorums_body}
use Rattle.dmn_frames.specs.Frames.{framed}

-- the count before the commitments: 2 bytes
pub quorums_length : (commitments : List Commitment) → length (quorums_body commitments) ≡ 2 + length (flat_map commitment.text commitments)
unfolding quorums_body
quorums_length commitments = omega (arith, length-append (to_le_bytes w16 (length commitments)) (flat_map commitment.text commitments))

-- a frame whose length is known before its body is sent
pub quorums_framed : (n : ℕ) (commitments : List Commitment) → length (quorums_body commitments) ≡ n → (0 ∷ []) ++ (to_le_bytes w32 n ++ (to_le_bytes w16 (length commitments) ++ flat_map commitment.text commitments)) ≡ framed 0 (quorums_body commitments)
unfolding framed quorums_body
quorums_framed n commitments is = ap (λ (k : ℕ). 0 ∷ (to_le_bytes w32 k ++ (to_le_bytes w16 (length commitments) ++ flat_map commitment.text commitments))) (sym is)
