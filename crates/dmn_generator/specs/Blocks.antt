-- The start record, and the block of a height.
use Rattle.std.specs.Prelude.{ℕ, ◌+◌, ◌-◌, ◌*◌, List, [], ◌∷◌, ◌++◌, map, min, replicate}
use Rattle.std.specs.Int.{w32, to_le_bytes}
use Rattle.std.specs.List.{range_with_len}
use Rattle.dmn_block.specs.Body.{connect_body}
use Rattle.dmn_block.specs.declared.body.ConnectBody.{ConnectBody}
use Rattle.dmn_bytes.specs.declared.hash.Hash256.{Hash256}
use Rattle.dmn_merkle.specs.Defs.{merkle_root}
use Rattle.dmn_payloads.specs.Payloads.{cb}
use Rattle.dmn_quorums.specs.Forming.{Formed}
use Rattle.dmn_rows.specs.declared.start.StartRecord.{StartRecord}
use Rattle.dmn_tx.specs.Defs.{id_of}
use Rattle.dmn_tx.specs.declared.kinds.TheConstants.{COINBASE_TX, SPECIAL_VERSION}
use Rattle.dmn_tx.specs.declared.tx.Tx.{Tx}
use Rattle.dmn_generator.specs.Commitments.{commitment_tx, due_of, verdicts_from}
use Rattle.dmn_generator.specs.Masternodes.{masternode, no_hash, sequence}
use Rattle.dmn_generator.specs.declared.blocks.Place.{Place}
use Rattle.dmn_generator.specs.declared.blocks.TheConstants.{FIRST, PER_BLOCK}

-- profile `main`, and no output
abbrev pub start : StartRecord
start = record { profile = 2; first = FIRST; hash = record { 0 = replicate 32 0x75 }; outputs = [] }

-- the coinbase of a height, with this root of the list
abbrev pub coinbase : ℕ → Hash256 → Tx
coinbase height root = record {
  version = SPECIAL_VERSION;
  kind = COINBASE_TX;
  inputs = record { point = record { hash = no_hash; index = 0xffffffff }; script = to_le_bytes w32 height; sequence = sequence } ∷ [];
  outputs = record { value = 0; script = [] } ∷ [];
  lock = 0;
  payload = cb.text (record { version = 1; height = height; rows = root });
}

-- the numbers of the masternodes that are registered at a height, of so many in all: as many as a block has, in their order
abbrev pub fresh : ℕ → ℕ → List ℕ
fresh count height = let from = PER_BLOCK * (height - FIRST) in range_with_len from (min PER_BLOCK (count - from))

-- the transactions: the coinbase, the commitments that are due by the types of quorums, and the registrations
abbrev pub txs_of : ℕ → ℕ → List Formed → Hash256 → List Tx
txs_of count height formed root = coinbase height root ∷ map (commitment_tx height) (due_of formed) ++ map masternode (fresh count height)

-- The block at a place, of so many masternodes in all: by what is known of each type's quorum there, and with this root of the
-- list.
abbrev pub block_of : ℕ → Place → List Formed → Hash256 → ConnectBody
block_of count place formed root =
    let txs = txs_of count place.height formed root in
    record {
      hash = place.hash;
      header = record { version = 1; prev = place.prev; merkle = merkle_root (map id_of txs); time = place.height; bits = 0; nonce = 0 };
      txs = txs;
      verdicts = verdicts_from 1 place.height (due_of formed);
    }

-- the body of the request that connects it
unfoldable pub body_of : ℕ → Place → List Formed → Hash256 → List ℕ
body_of count place formed root = connect_body.text (block_of count place formed root)
