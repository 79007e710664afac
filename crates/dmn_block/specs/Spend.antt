-- The rows and outputs after the inputs and outputs of transactions (DIP-0002, DIP-0003), one after another: within a
-- transaction its inputs first. An input takes its outpoint from the outputs, and the row whose collateral it is from
-- the rows. Only outputs of 1,000 DASH count.
use Rattle.std.specs.Prelude.{ℕ, ◌+◌, ◌==◌, not, List, [], ◌∷◌, filter, if◌then◌else◌}
use Rattle.dmn_bytes.specs.declared.hash.Hash256.{Hash256}
use Rattle.dmn_bytes.specs.declared.points.OutPoint.{OutPoint}
use Rattle.dmn_payloads.specs.Scripts.{pay_of}
use Rattle.dmn_rows.specs.declared.limits.TheConstants.{COLLATERAL_VALUE}
use Rattle.dmn_rows.specs.Listing.{Listing}
use Rattle.dmn_rows.specs.Rows.{has_collateral, put_output, drop_output}
use Rattle.dmn_tx.specs.declared.tx.Tx.{Tx}
use Rattle.dmn_tx.specs.declared.tx.TxIn.{TxIn}
use Rattle.dmn_tx.specs.declared.tx.TxOut.{TxOut}
use Rattle.dmn_tx.specs.Defs.{id_of}

-- 1,000 DASH, in duffs
abbrev pub collateral_value : ℕ
collateral_value = COLLATERAL_VALUE

abbrev pub spend_point : OutPoint → Listing → Listing
spend_point point list = record {
  rows = filter (λ row. not (has_collateral point row)) list.rows;
  outputs = drop_output point list.outputs;
}

abbrev pub spend_inputs : List TxIn → Listing → Listing
spend_inputs [] list = list
spend_inputs (input ∷ inputs) list = spend_inputs inputs (spend_point input.point list)

-- an output at an outpoint that is there already leaves it as it is
abbrev pub add_output : OutPoint → TxOut → Listing → Listing
add_output point output list =
    if output.value == collateral_value then record list { outputs = put_output point (pay_of output.script) list.outputs } else list

-- the outputs of the transaction of this id, from this index on
abbrev pub add_outputs : Hash256 → ℕ → List TxOut → Listing → Listing
add_outputs id index [] list = list
add_outputs id index (output ∷ outputs) list = add_outputs id (index + 1) outputs (add_output (record { hash = id; index = index }) output list)

abbrev pub spend_tx : Tx → Listing → Listing
spend_tx tx list = add_outputs (id_of tx) 0 tx.outputs (spend_inputs tx.inputs list)

-- the rows and outputs after these transactions
abbrev pub spend : List Tx → Listing → Listing
spend [] list = list
spend (tx ∷ txs) list = spend txs (spend_tx tx list)
