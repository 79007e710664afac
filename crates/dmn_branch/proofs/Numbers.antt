-- The rules on a block's hash, and the last ones, stand beside their own numbers, which ascend.
use Rattle.std.proofs.Common.{ℕ, Option, Some, None, refl}
use Rattle.dmn_block.specs.Shape.{by_block, first_of, number_of}
use Rattle.dmn_bytes.specs.declared.hash.Hash256.{Hash256}
use Rattle.dmn_payloads.specs.declared.payloads.CbTx.{CbTx}
use Rattle.dmn_rows.specs.declared.rule.Rule.TheVariants as rules
use Rattle.dmn_rows.specs.Order.{TellsLeast}
use Rattle.dmn_rows.specs.Rule.{rule_number}
use Rattle.dmn_rows.proofs.Order.{Lies, Tells, tells_when, first_tells_least}
use Rattle.dmn_branch.specs.Machine.{MachineState, broken_hash, hash_rules, height_of, known_at}
use Rattle.dmn_branch.specs.Step.{Outcome, last_rules, other_root}

tells_known : (found : Option ℕ) → Tells number_of 2 (known_at found)
unfolding rule_number
tells_known None = tt
tells_known (Some height) = refl

lies_hash : (m : MachineState) (hash : Hash256) → Lies number_of 0 2 (hash_rules m hash)
unfolding hash_rules rule_number
lies_hash m hash = record { holds = refl; told = (tells_when number_of _ (by_block rules.ZeroHash), (tells_known (height_of m hash), tt)) }

tells_root : (coinbase : Option CbTx) (root : Hash256) → Tells number_of 84 (other_root coinbase root)
unfolding rule_number
tells_root None root = tt
tells_root (Some value) root = tells_when number_of _ (by_block (rules.CbRoot value.rows root))

lies_last : (coinbase : Option CbTx) (after : Outcome) → Lies number_of 80 84 (last_rules coinbase after)
unfolding last_rules rule_number
lies_last coinbase after = record {
  holds = refl;
  told = (
    tells_when number_of _ (by_block rules.TooManyChanges),
    (tells_when number_of _ (by_block rules.TooManyMasternodes), (tells_when number_of _ (by_block rules.TooManyOutputs), (tells_root coinbase _, tt))),
  );
}

pub hash_tells_least : (m : MachineState) (hash : Hash256) → TellsLeast number_of (hash_rules m hash) (broken_hash m hash)
hash_tells_least m hash = first_tells_least number_of 0 2 _ (lies_hash m hash)

pub last_tells_least : (coinbase : Option CbTx) (after : Outcome) → TellsLeast number_of (last_rules coinbase after) (first_of (last_rules coinbase after))
last_tells_least coinbase after = first_tells_least number_of 80 84 _ (lies_last coinbase after)
