-- What of a state is in the form in which a snapshot is written.
use Rattle.std.specs.Prelude.{◌<◌, ◌≤◌, length, Option, None, Some}
use Rattle.std.specs.List.{All, AllByRecursion}
use Rattle.dmn_block.specs.Defs.{IsBlock}
use Rattle.dmn_block.specs.declared.frame.BlockFrame.{BlockFrame}
use Rattle.dmn_block.specs.State.{State}
use Rattle.dmn_branch.specs.Coinbases.{coinbase_of}
use Rattle.dmn_bytes.specs.Law.{IsBytes}
use Rattle.dmn_held.specs.declared.coinbase.CoinbasePart.{CoinbasePart}
use Rattle.dmn_held.specs.Coinbase.{tx_size}
use Rattle.dmn_payloads.specs.declared.commitment.Commitment.{Commitment}
use Rattle.dmn_payloads.specs.Commitments.{commitment}
use Rattle.dmn_restore.specs.Formed.{HasFormedPay, HasFormedPays}
use Rattle.dmn_tx.specs.declared.kinds.TheConstants.{LONGEST_PAYLOAD}
use Rattle.dmn_tx.specs.Tx.{KeepsPayload}

-- the block was read from a body of bytes
pub record IsRead (block : BlockFrame) : Type 0 where
  pub is : IsBlock block
  pub bytes : AllByRecursion (λ tx. IsBytes tx.payload) block.txs

-- a transaction with a payload that it may have, whose text isn't empty
abbrev pub IsFormedPart : Option CoinbasePart → Type 0
IsFormedPart None = Unit {0}
IsFormedPart (Some part) = KeepsPayload part.tx × (0 < tx_size part)

-- a commitment in its form, whose text is no longer than a payload may be
abbrev pub IsFormedCommitment : Commitment → Type 0
IsFormedCommitment v = commitment.Fits v × (length (commitment.text v) ≤ LONGEST_PAYLOAD)

-- all of a state that a snapshot is to tell
pub record IsFormed (state : State) : Type 0 where
  pub coinbase : IsFormedPart (coinbase_of state)
  pub commitments : AllByRecursion (λ m. IsFormedCommitment m.commitment) state.mined
  pub rows : All HasFormedPays state.rows
  pub outputs : All HasFormedPay state.outputs
