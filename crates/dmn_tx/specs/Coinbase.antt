-- A block's first transaction, told by its inputs, and by its type (DIP-0004).
use Rattle.std.specs.Prelude.{Bool, false, ◌==◌, ◌&&◌, List, [], ◌∷◌}
use Rattle.dmn_bytes.specs.Points.{is_zero}
use Rattle.dmn_tx.specs.declared.kinds.TheConstants.{COINBASE_TX, SPECIAL_VERSION}
use Rattle.dmn_tx.specs.declared.tx.Tx.{Tx}
use Rattle.dmn_tx.specs.declared.tx.TxIn.{TxIn}

-- the outpoint of no output
abbrev pub is_null_input : TxIn → Bool
is_null_input input = is_zero input.point.hash.0 && (input.point.index == 0xffffffff)

abbrev pub is_one_null : List TxIn → Bool
is_one_null [] = false
is_one_null (input ∷ []) = is_null_input input
is_one_null (input ∷ more ∷ rest) = false

-- a coinbase has exactly one input, and it spends nothing
unfoldable pub is_coinbase : Tx → Bool
is_coinbase tx = is_one_null tx.inputs

-- a special transaction of the coinbases' type
unfoldable pub is_cb_type : Tx → Bool
is_cb_type tx = (tx.version == SPECIAL_VERSION) && (tx.kind == COINBASE_TX)
