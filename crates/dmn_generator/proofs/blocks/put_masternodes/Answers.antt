use Rattle.std.proofs.Common.{[], ◌∷◌, ◌++◌, ap, ◌∙◌, arith}
use Rattle.dmn_tx.specs.declared.tx.Tx.{Tx}
use Rattle.dmn_generator.proofs.Filling.{more_masternodes}
use Rattle.dmn_generator.proofs.blocks.put_masternodes.Goals as goal

pub loop-i-preserved : goal.loop-i-preserved
loop-i-preserved c =
    more_masternodes c.loop-i.txs.items c.put_tx.new.txs.items _ c.loop-i.i c.min-to.result (omega (arith, c.loop-i-test.true)) (c.in_ok-put_tx.ensures ∙ ap (λ (t : Tx). c.loop-i.txs.items ++ t ∷ []) c.in_ok-masternode.ensures) c.loop-i.invariant
