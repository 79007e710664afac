-- A connect, by what is kept of the tip.
use Rattle.std.proofs.Common.{◌≡◌, ℕ, true, false, List, [], ◌∷◌, Option, None, Some, refl, sym, ap, ◌∙◌, subst}
use Rattle.dmn_block.specs.declared.frame.BlockFrame.{BlockFrame}
use Rattle.dmn_block.specs.Shape.{by_block}
use Rattle.dmn_block.specs.State.{State}
use Rattle.dmn_bytes.specs.declared.hash.Hash256.{Hash256}
use Rattle.dmn_bytes.specs.Points.{is_zero}
use Rattle.dmn_payloads.specs.declared.mined.MinedAt.{MinedAt}
use Rattle.dmn_quorums.specs.Duty.{types_of}
use Rattle.dmn_quorums.specs.Forming.{Formed}
use Rattle.dmn_rows.specs.declared.profile.Profile.{Profile}
use Rattle.dmn_rows.specs.declared.rule.Rule.TheVariants.{ZeroHash, HashKnown}
use Rattle.dmn_branch.specs.declared.fault.PrepareFault.{PrepareFault}
use Rattle.dmn_branch.specs.declared.fault.PrepareFault.TheVariants as faults
use Rattle.dmn_branch.specs.Coinbases.{coinbase_of, part_in, part_of}
use Rattle.dmn_held.specs.declared.coinbase.CoinbasePart.{CoinbasePart}
use Rattle.dmn_branch.specs.Fault.{Tells, TellsRule}
use Rattle.dmn_branch.specs.Machine as machine
use Rattle.dmn_branch.specs.Machine.{MachineState, hash_rules, broken_hash, connect, with_block, tip}
use Rattle.dmn_branch.specs.Parts.{Follows}
use Rattle.dmn_branch.specs.Stands.{Kept, StandsAt, IsNext, KeepsActive}
use Rattle.dmn_branch.specs.Step.{step_from}
use Rattle.dmn_branch.proofs.Active.{MinedTo, gives_next}
use Rattle.dmn_branch.proofs.Blocks.{block_kept, height_kept}
use Rattle.dmn_branch.proofs.History.{tip_mined_to}
use Rattle.dmn_branch.proofs.Replaying.{connect_accepts, connect_known, connect_refuses}
use Rattle.dmn_branch.proofs.Stepping.{tells_more}

-- ---- rules 1 and 2

pub hash_zero : (m : MachineState) (hash : Hash256) → is_zero hash.0 ≡ true → broken_hash m hash ≡ Some (by_block ZeroHash)
unfolding hash_rules
hash_zero m hash zero = rw zero refl

pub hash_fresh : (m : MachineState) (hash : Hash256) → is_zero hash.0 ≡ false → machine.height_of m hash ≡ None → broken_hash m hash ≡ None
unfolding hash_rules
hash_fresh m hash some none = rw (some, none) refl

pub hash_known : (m : MachineState) (hash : Hash256) (height : ℕ) → is_zero hash.0 ≡ false → machine.height_of m hash ≡ Some height → broken_hash m hash ≡ Some (by_block (HashKnown height))
unfolding hash_rules
hash_known m hash height some is = rw (some, is) refl

pub tells_known : (m : MachineState) (block : BlockFrame) (fault : PrepareFault) → TellsRule (broken_hash m block.hash) fault → Tells (connect m block) fault
tells_known m block (faults.Refused refusal) broken = connect_known m block refusal broken
tells_known m block faults.Memory broken = tt

-- ---- the step

pub tells_step : (m : MachineState) (block : BlockFrame) (profile : Profile) (formed : List Formed) (fault : PrepareFault) → profile ≡ machine.profile m → formed ≡ machine.formed m → broken_hash m block.hash ≡ None → Tells (step_from profile formed (tip m) block) fault → Tells (connect m block) fault
tells_step m block profile formed fault is are fresh tells =
    tells_more (step_from profile formed (tip m) block) (connect m block) fault tells
    (λ refusal refused. connect_refuses m block refusal fresh (ap (λ (p : Profile). step_from p (machine.formed m) (tip m) block) (sym is) ∙ ap (λ (f : List Formed). step_from profile f (tip m) block) (sym are) ∙ refused))

pub next_is : (m : MachineState) (block : BlockFrame) (profile : Profile) (formed : List Formed) (events : ℕ) (prepared : Kept) (coinbase : Option CoinbasePart) (old new : List MinedAt) → profile ≡ machine.profile m → formed ≡ machine.formed m → broken_hash m block.hash ≡ None → Follows profile formed (tip m) block events prepared old new → coinbase ≡ part_of block.txs
    → MinedTo (tip m).height old → KeepsActive (machine.profile m) old (tip m).height (tip m ∷ []) → IsNext (record { kept = prepared; coinbase = coinbase; mined = new }) m block
next_is m block profile formed events prepared coinbase old new is are fresh follows proves to gives =
    let accepted = connect_accepts m block follows.after fresh (ap (λ (p : Profile). step_from p (machine.formed m) (tip m) block) (sym is) ∙ ap (λ (f : List Formed). step_from profile f (tip m) block) (sym are) ∙ follows.stepped) in
    record {
      accepted = accepted.0;
      stands = subst (StandsAt prepared) (sym accepted.1) follows.stands;
      coinbase = proves ∙ ap part_in (sym (block_kept profile formed (tip m) block follows.after follows.stepped)) ∙ ap coinbase_of (sym accepted.1);
      quorums = subst (λ (s : State). KeepsActive (machine.profile m) new s.height (s ∷ [])) (sym accepted.1)
          (gives_next (types_of (machine.profile m).quorums) (tip m) follows.after old new follows.added (height_kept profile formed (tip m) block follows.after follows.stepped) to (tip_mined_to m) gives);
    }
