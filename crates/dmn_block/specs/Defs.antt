-- Blocks: their text, and the conditions that a block keeps. A reader begins here; the parts are:
--   Body    the body of a Connect request, field by field
--   Frames  what a block keeps of a body
--   Fault   what a fault of a block says of its text
--   Shape   the rules on a block as a whole, by a table
--   State   what a registry knows behind a block
--   Spend   the rows and outputs after the inputs and outputs of transactions
use Rattle.std.specs.Prelude.{◌≡◌, ℕ, ◌≤◌, List, length, map}
use Rattle.std.specs.List.{All}
use Rattle.dmn_tx.specs.Defs.{id_of}
use Rattle.dmn_tx.specs.Tx.{KeepsPayload}
use Rattle.dmn_block.specs.declared.frame.BlockFrame.{BlockFrame}
use Rattle.dmn_block.specs.declared.body.ConnectBody.{ConnectBody}
use Rattle.dmn_block.specs.Body.{connect_body}

-- the four numbers of a header that are read and not used
pub record HeaderNumbers : Type 0 where
  pub version : ℕ
  pub time : ℕ
  pub bits : ℕ
  pub nonce : ℕ

-- the fields of the body of a Connect request for this block, with these numbers in its header
abbrev pub body_of : BlockFrame → HeaderNumbers → ConnectBody
body_of block numbers = record {
  hash = block.hash;
  header = record { version = numbers.version; prev = block.prev; merkle = block.merkle; time = numbers.time; bits = numbers.bits; nonce = numbers.nonce };
  txs = block.txs;
  verdicts = block.verdicts;
}

abbrev pub block_text : BlockFrame → HeaderNumbers → List ℕ
block_text block numbers = connect_body.text (body_of block numbers)

-- the block has a text, with these numbers in its header
abbrev pub HasText : BlockFrame → HeaderNumbers → Type 0
HasText block numbers = connect_body.Fits (body_of block numbers)

-- the text is, whole, that of this block, for some four numbers in its header
abbrev pub IsBlockText : List ℕ → BlockFrame → Type 0
IsBlockText text block = (numbers : HeaderNumbers) × HasText block numbers × (text ≡ block_text block numbers)

-- the ids are those of the transactions, in order
abbrev pub HasItsIds : BlockFrame → Type 0
HasItsIds block = block.ids ≡ map id_of block.txs

-- as many transactions as a block may have, and as many outputs as one of them may have: the most bytes of a body
abbrev pub most_items : ℕ
most_items = 16777216

-- what each block keeps that was read from a body of at most 16,777,216 bytes
pub record IsBlock (block : BlockFrame) : Type 0 where
  pub ids : HasItsIds block
  pub payloads : All KeepsPayload block.txs
  pub outputs : All (λ tx. length tx.outputs ≤ most_items) block.txs
  pub count : length block.txs ≤ most_items
