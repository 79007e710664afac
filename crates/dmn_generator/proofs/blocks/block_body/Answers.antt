use Rattle.std.proofs.Common.{◌≡◌, List, ap, ◌∙◌, map}
use Rattle.dmn_block.specs.Body.{connect_body}
use Rattle.dmn_bytes.specs.declared.hash.Hash256.{Hash256}
use Rattle.dmn_rows.specs.declared.verdict.Verdict.{Verdict}
use Rattle.dmn_tx.specs.Defs.{id_of}
use Rattle.dmn_tx.specs.declared.tx.Tx.{Tx}
use Rattle.dmn_generator.specs.Blocks.{body_of, txs_of}
use Rattle.dmn_generator.proofs.Filling.{block_text}
use Rattle.dmn_generator.proofs.blocks.block_body.Goals as goal

pub returns : goal.returns
unfolding body_of
returns c =
    let done = c.in_ok-finish.ensures.ok in
    let text = c.feed_block-3.ensures.behind _ (λ full. c.on-draft.ensures.out ∙ c.new-body.ensures) done.0 in
    done.1 ∙ text
    ∙ block_text c.args.count c.args.place.now c.args.formings.now c.args.root.now _ _ _ (c.from_vec.ensures ∙ c.in_ok-txs.ensures.txs) (c.from_vec-2.ensures ∙ c.in_ok-txs.ensures.verdicts)
    (c.in_ok-merkle_of.ensures ∙ ap (λ (l : List Tx). Rattle.dmn_merkle.specs.Defs.merkle_root (map id_of l)) (c.deref.ensures.value ∙ c.in_ok-txs.ensures.txs))
