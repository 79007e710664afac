-- What proves a block's first transaction. It tells a light client the root of the block's list (DIP-0004).
use Rattle.std.specs.Prelude.{◌≡◌, ℕ, ◌-◌, ◌==◌, List, [], ◌∷◌, map, Option, None, Some, is_none}
use Rattle.std.specs.Option.{option_map}
use Rattle.std.specs.Result.{result_ok}
use Rattle.dmn_block.specs.declared.frame.BlockFrame.{BlockFrame}
use Rattle.dmn_block.specs.State.{State}
use Rattle.dmn_bytes.specs.declared.hash.Hash256.{Hash256}
use Rattle.dmn_bytes.specs.Format.{whole}
use Rattle.dmn_merkle.specs.Branch.{branch_of}
use Rattle.dmn_merkle.specs.Defs.{zero_hash}
use Rattle.dmn_payloads.specs.Payloads.{cb}
use Rattle.dmn_sml.specs.Defs.{root_of, simple}
use Rattle.dmn_tx.specs.declared.tx.Tx.{Tx}
use Rattle.dmn_tx.specs.Defs.{id_of}
pub use Rattle.dmn_held.specs.declared.coinbase.CoinbasePart.{CoinbasePart}

-- the first of these transactions, and its branch
abbrev pub part_of : List Tx → Option CoinbasePart
part_of [] = None
part_of (first ∷ txs) = Some (record { tx = first; branch = branch_of (map id_of (first ∷ txs)) })

abbrev pub part_in : Option BlockFrame → Option CoinbasePart
part_in None = None
part_in (Some block) = part_of block.txs

-- that of a state's block; none at the height before the first
abbrev pub coinbase_of : State → Option CoinbasePart
coinbase_of state = part_in state.block

-- The root that a coinbase's payload tells, where it has one; zero where there is no coinbase.
abbrev pub root_in : Option CoinbasePart → Option Hash256
root_in None = Some zero_hash
root_in (Some part) = option_map (λ value. value.rows) (result_ok (whole cb part.tx.payload))

-- a state's coinbase tells the root of its list
abbrev pub TellsRoot : State → Type 0
TellsRoot state = root_in (coinbase_of state) ≡ Some (root_of (simple state.rows))

-- the state of a height has a coinbase, unless the height is that before the first block
abbrev pub HasCoinbase : ℕ → ℕ → Option State → Type 0
HasCoinbase first height None = Unit {0}
HasCoinbase first height (Some state) = is_none (coinbase_of state) ≡ (height == first - 1)
