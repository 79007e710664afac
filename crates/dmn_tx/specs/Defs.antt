-- Transactions (DIP-0002), their ids and the hashes of their inputs. A reader begins here; the parts are:
--   Tx        the table of a transaction's fields, and which payloads it may have
--   Coinbase  which transactions are coinbases
--   Fault     what a fault says of a text
use Rattle.std.specs.Prelude.{ℕ, List}
use Rattle.std.specs.List.{flat_map}
use Rattle.dmn_bytes.specs.declared.hash.Hash256.{Hash256}
use Rattle.dmn_bytes.specs.Hash.{dsha}
use Rattle.dmn_bytes.specs.Points.{out_point}
use Rattle.dmn_tx.specs.declared.tx.Tx.{Tx}
use Rattle.dmn_tx.specs.Tx.{tx}

-- the fields of a transaction, joined
abbrev pub tx_text : Tx → List ℕ
tx_text v = tx.text v

-- the outpoints that a transaction spends, joined in their order
abbrev pub points_text : Tx → List ℕ
points_text v = flat_map (λ input. out_point.text input.point) v.inputs

-- the id of a transaction
abbrev pub id_of : Tx → Hash256
id_of v = record { 0 = dsha (tx_text v) }

-- what a special transaction's payload repeats of its inputs (DIP-0003)
abbrev pub inputs_hash_of : Tx → Hash256
inputs_hash_of v = record { 0 = dsha (points_text v) }
