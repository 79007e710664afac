-- The rules on a block's shape stand beside their own numbers, which ascend.
use Rattle.std.proofs.Common.{ℕ, ◌+◌, List, [], ◌∷◌, Result, Ok, Err, refl}
use Rattle.dmn_bytes.specs.declared.fault.Departure.{Departure}
use Rattle.dmn_bytes.specs.declared.hash.Hash256.{Hash256}
use Rattle.dmn_bytes.specs.Format.{whole}
use Rattle.dmn_payloads.specs.Payloads.{cb}
use Rattle.dmn_payloads.specs.declared.payloads.CbTx.{CbTx}
use Rattle.dmn_rows.specs.Order.{TellsLeast}
use Rattle.dmn_rows.specs.Rule.{rule_number}
use Rattle.dmn_rows.specs.declared.rule.Rule.TheVariants as rules
use Rattle.dmn_rows.proofs.Order.{Lies, Tells, tells_when, tells_map, Lies-append, first_tells_least}
use Rattle.dmn_tx.specs.declared.tx.Tx.{Tx}
use Rattle.dmn_block.specs.declared.frame.BlockFrame.{BlockFrame}
use Rattle.dmn_block.specs.Shape.{Numbered, by_block, by_tx, number_of, other_height, link_rules, tx_rules, id_rules, verdict_rules, payload_rules, coinbase_rules, shape_rules, broken_rule}

-- the table's numbers are those of its rules, and ascend
abbrev Numbers : ℕ → ℕ → Numbered → Type 0
Numbers = Lies number_of

lies_link : (block : BlockFrame) (tip : Hash256) (tip_height : ℕ) → Numbers 0 4 (link_rules block tip tip_height)
unfolding link_rules rule_number
lies_link block tip tip_height = record { holds = refl; told = (tells_when number_of _ (by_block rules.ZeroHash), (tells_when number_of _ (by_block (rules.NotNext tip)), (tells_when number_of _ (by_block rules.HeightLimit), tt))) }

lies_tx : (block : BlockFrame) → Numbers 4 7 (tx_rules block)
unfolding tx_rules rule_number
lies_tx block = record { holds = refl; told = (tells_when number_of _ (by_block rules.NoCoinbase), (tells_map number_of (λ tx. by_tx tx rules.SecondCoinbase) _ (λ tx. refl) _, tt)) }

lies_id : (block : BlockFrame) → Numbers 7 9 (id_rules block)
unfolding id_rules rule_number
lies_id block = record { holds = refl; told = (tells_map number_of (λ tx. by_tx tx rules.DuplicateTx) _ (λ tx. refl) _, (tells_when number_of _ (by_block (rules.BadMerkle _)), tt)) }

lies_verdict : (block : BlockFrame) → Numbers 9 10 (verdict_rules block)
unfolding verdict_rules rule_number
lies_verdict block = record { holds = refl; told = (tells_map number_of (λ k. by_block (rules.VerdictForm k)) _ (λ k. refl) _, tt) }

tells_height : (height : ℕ) (read : Result CbTx Departure) → Tells number_of 13 (other_height height read)
unfolding rule_number
tells_height height (Ok value) = tells_when number_of _ (by_tx 0 (rules.CbHeight value.height))
tells_height height (Err d) = tt

lies_coinbase : (height : ℕ) (txs : List Tx) → Numbers 10 13 (coinbase_rules height txs)
unfolding payload_rules rule_number
lies_coinbase height [] = record { holds = refl; told = tt }
lies_coinbase height (tx ∷ txs) = record { holds = refl; told = (tells_when number_of _ (by_tx 0 rules.CbPayload), (tells_when number_of _ (by_tx 0 (rules.CbVersion _)), (tells_height height (whole cb tx.payload), tt))) }

pub shape_tells_least : (block : BlockFrame) (tip : Hash256) (tip_height : ℕ) → TellsLeast number_of (shape_rules block tip tip_height) (broken_rule block tip tip_height)
shape_tells_least block tip tip_height =
    first_tells_least number_of 0 13 _ (Lies-append number_of 0 4 13 _ _ (lies_link block tip tip_height) (Lies-append number_of 4 7 13 _ _ (lies_tx block) (Lies-append number_of 7 9 13 _ _ (lies_id block) (Lies-append number_of 9 10 13 _ _ (lies_verdict block) (lies_coinbase (tip_height + 1) block.txs)))))
