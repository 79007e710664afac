use Rattle.std.proofs.Common.{arith}
use Rattle.dmn_tx.specs.Tx.{tx_sound}
use Rattle.dmn_tx.proofs.read.id_read.Goals as goal

pub txid_in-requires-clause-stands : goal.txid_in-requires-clause-stands
txid_in-requires-clause-stands c = tx_sound.takes c.args.text.now c.args.at c.args.read.now c.args.end (λ i. omega (arith, c.type_inv.text i)) c.requires.parsed
