-- A coinbase that tells the root of a list (DIP-0004).
use Rattle.std.specs.Prelude.{Bool, ◌&&◌, Option, Some, None, Result, Ok, Err, if◌then◌else◌}
use Rattle.dmn_bytes.specs.declared.fault.Departure.{Departure}
use Rattle.dmn_bytes.specs.declared.hash.Hash256.{Hash256}
use Rattle.dmn_bytes.specs.Format.{whole}
use Rattle.dmn_payloads.specs.Payloads.{cb}
use Rattle.dmn_payloads.specs.declared.payloads.CbTx.{CbTx}
use Rattle.dmn_tx.specs.Coinbase.{is_coinbase, is_cb_type}
use Rattle.dmn_tx.specs.declared.tx.Tx.{Tx}

abbrev pub rows_of : Result CbTx Departure → Option Hash256
rows_of (Ok value) = Some value.rows
rows_of (Err d) = None

-- a coinbase of the type that has a payload
abbrev pub is_cb : Tx → Bool
is_cb tx = is_coinbase tx && is_cb_type tx

-- the root that a coinbase tells in its payload
unfoldable pub committed_of : Tx → Option Hash256
committed_of tx = if is_cb tx then rows_of (whole cb tx.payload) else None
