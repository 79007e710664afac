-- The events of a block: each time that a row or an output is added, changed or removed. One that is changed twice counts
-- twice. What is asked to be removed and isn't there, and an output that is there already, don't count.
use Rattle.std.specs.Prelude.{ℕ, ◌+◌, ◌==◌, is_some, is_none, List, [], ◌∷◌, length, filter, find, Option, None, Some, if◌then◌else◌}
use Rattle.dmn_block.specs.Spend.{collateral_value, spend_point, spend_inputs, add_output, spend_tx}
use Rattle.dmn_bytes.specs.declared.hash.Hash256.{Hash256}
use Rattle.dmn_bytes.specs.declared.points.OutPoint.{OutPoint}
use Rattle.dmn_indexes.specs.Working.{counted}
use Rattle.dmn_rows.specs.declared.row.MnRow.{MnRow}
use Rattle.dmn_rows.specs.Listing.{Listing}
use Rattle.dmn_rows.specs.Rows.{Outputs, has_hash, has_collateral, output_at}
use Rattle.dmn_rows.specs.Waiting.{is_due}
use Rattle.dmn_rules.specs.declared.effect.Effect.{Effect}
use Rattle.dmn_rules.specs.declared.effect.Effect.TheVariants.{Register, Update}
use Rattle.dmn_rules.specs.Defs.{told_of}
use Rattle.dmn_tx.specs.declared.tx.Tx.{Tx}
use Rattle.dmn_tx.specs.declared.tx.TxIn.{TxIn}
use Rattle.dmn_tx.specs.declared.tx.TxOut.{TxOut}
use Rattle.dmn_tx.specs.Defs.{id_of}

-- one for the row of the hash, where there is a hash and the row is there
abbrev pub once_there : Option Hash256 → List MnRow → ℕ
once_there None rows = 0
once_there (Some hash) rows = counted (is_some (find (has_hash hash) rows))

-- ---- rows that are confirmed

abbrev pub confirmations : ℕ → ℕ → List MnRow → ℕ
confirmations wait height rows = length (filter (is_due wait height) rows)

-- ---- transactions

-- a registration counts, and so does the row that it replaces; an update counts
abbrev pub effect_events : List MnRow → Option Effect → ℕ
effect_events rows None = 0
effect_events rows (Some (Register row replaced)) = once_there replaced rows + 1
effect_events rows (Some (Update row)) = 1

-- those of an accepted provider transaction; no other has any
unfoldable pub tx_events : List MnRow → Outputs → Tx → ℕ → ℕ
tx_events rows outputs tx height = effect_events rows (told_of rows outputs tx height)

-- ---- spends

-- the row and the output that an input removes; no two rows have the same collateral
abbrev pub point_events : OutPoint → Listing → ℕ
point_events point list = counted (is_some (find (has_collateral point) list.rows)) + counted (is_some (output_at list.outputs point))

abbrev pub inputs_events : List TxIn → Listing → ℕ
inputs_events [] list = 0
inputs_events (input ∷ inputs) list = point_events input.point list + inputs_events inputs (spend_point input.point list)

-- an output that is there already isn't added
abbrev pub output_events : OutPoint → TxOut → Listing → ℕ
output_events point output list = if output.value == collateral_value then counted (is_none (output_at list.outputs point)) else 0

abbrev pub outputs_events : Hash256 → ℕ → List TxOut → Listing → ℕ
outputs_events id index [] list = 0
outputs_events id index (output ∷ outputs) list =
    output_events (record { hash = id; index = index }) output list
    + outputs_events id (index + 1) outputs (add_output (record { hash = id; index = index }) output list)

abbrev pub spend_tx_events : Tx → Listing → ℕ
spend_tx_events tx list = inputs_events tx.inputs list + outputs_events (id_of tx) 0 tx.outputs (spend_inputs tx.inputs list)

abbrev pub spend_events : List Tx → Listing → ℕ
spend_events [] list = 0
spend_events (tx ∷ txs) list = spend_tx_events tx list + spend_events txs (spend_tx tx list)
