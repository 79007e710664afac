-- The block of a body.
use Rattle.std.specs.Prelude.{map}
use Rattle.dmn_tx.specs.Defs.{id_of}
use Rattle.dmn_block.specs.declared.frame.BlockFrame.{BlockFrame}
use Rattle.dmn_block.specs.declared.body.ConnectBody.{ConnectBody}

-- what a block keeps of the body that connects it, with the ids of its transactions
abbrev pub frame_of : ConnectBody → BlockFrame
frame_of body = record { hash = body.hash; prev = body.header.prev; merkle = body.header.merkle; txs = body.txs; ids = map id_of body.txs; verdicts = body.verdicts }
