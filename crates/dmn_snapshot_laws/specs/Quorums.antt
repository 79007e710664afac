-- How many quorums are told of a height, and how long their texts are.
use Rattle.std.specs.Prelude.{◌*◌, ◌≤◌, List, length}
use Rattle.std.specs.List.{flat_map}
use Rattle.dmn_payloads.specs.declared.commitment.Commitment.{Commitment}
use Rattle.dmn_payloads.specs.Commitments.{commitment}
use Rattle.dmn_tx.specs.declared.kinds.TheConstants.{LONGEST_PAYLOAD}

-- No profile has more active quorums, and each has a text that is no longer than a payload may be. So an answer that tells them is
-- far shorter than a frame may be.
pub record AreFew (quorums : List Commitment) : Type 0 where
  pub count : length quorums ≤ 32
  pub text : length (flat_map commitment.text quorums) ≤ 32 * LONGEST_PAYLOAD
