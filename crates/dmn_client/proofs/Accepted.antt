-- What an accepted diff says, stage by stage.
use Rattle.std.proofs.Common.{◌≡◌, ℕ, Bool, true, false, cond, List, Option, Some, None, Result, Ok, Err, refl, ap}
use Rattle.std.specs.Prelude.{◌||◌}
use Rattle.dmn_bytes.specs.declared.fault.Departure.{Departure}
use Rattle.dmn_bytes.specs.declared.hash.Hash256.{Hash256}
use Rattle.dmn_bytes.specs.Format.{whole}
use Rattle.dmn_bytes.specs.Law.{IsBytes}
use Rattle.dmn_bytes.specs.Points.{is_zero}
use Rattle.dmn_bytes.specs.Sound.{whole_takes}
use Rattle.dmn_merkle.specs.Branch.{judge_branch, CoinbaseProof}
use Rattle.dmn_merkle.specs.declared.branch.BranchFault.{BranchFault}
use Rattle.dmn_rows.specs.Rows.{same_hash}
use Rattle.dmn_rows.specs.Keys.{same_hash-is}
use Rattle.dmn_sml.specs.Defs.{root_of}
use Rattle.dmn_tx.specs.Defs.{id_of}
use Rattle.dmn_diff.specs.Defs.{IsDiffText}
use Rattle.dmn_diff.specs.Diff.{diff, diff_sound}
use Rattle.dmn_diff.specs.declared.diff.Diff.{Diff}
use Rattle.dmn_client.specs.declared.fault.ClientFault.{ClientFault}
use Rattle.dmn_client.specs.declared.fault.ClientFault.TheVariants as faults
use Rattle.dmn_client.specs.Headers.{header_root}
use Rattle.dmn_client.specs.Coinbase.{committed_of}
use Rattle.dmn_client.specs.Step.{ClientState, client_step, read_stage, base_stage, proof_stage, coinbase_stage, root_stage, is_root, proves, next_list}

pub record Accepted (old new : ClientState) (d : Diff) : Type 0 where
  pub root : Hash256
  pub committed : Hash256
  pub header : header_root d.block old.headers ≡ Some root
  pub proof : CoinbaseProof d.branch.total d.branch.hashes d.branch.flags (id_of d.coinbase) root
  pub told : committed_of d.coinbase ≡ Some committed
  pub list_root : root_of (next_list old.list d) ≡ committed
  pub list : next_list old.list d ≡ new.list
  pub held : d.block ≡ new.held

abbrev refused : ClientFault → Result ClientState ClientFault
refused e = Err e

passes : (b : Bool) (x : Result ClientState ClientFault) (e : ClientFault) (new : ClientState) → cond b x (refused e) ≡ Ok new → (b ≡ true) × (x ≡ Ok new)
passes true x e new h = (refl, h)
passes false x e new h = absurd cc

abbrev accepts : ClientState → Result ClientState ClientFault
accepts c = Ok c

one_ok : (a b : ClientState) → accepts a ≡ accepts b → a ≡ b
one_ok a b h = cc

root_is : (r : Result Hash256 BranchFault) (root : Hash256) → is_root r root ≡ true → r ≡ Ok root
root_is (Ok found) root h = ap (λ (x : Hash256). Ok x) (same_hash-is found root h)
root_is (Err e) root h = absurd cc

proof_is : (d : Diff) (root : Hash256) → proves d root ≡ true → CoinbaseProof d.branch.total d.branch.hashes d.branch.flags (id_of d.coinbase) root
proof_is d root h = (root_is (judge_branch d.branch.total d.branch.hashes d.branch.flags (id_of d.coinbase)) root h)

at_root : (old new : ClientState) (d : Diff) (root committed : Hash256) → header_root d.block old.headers ≡ Some root → proves d root ≡ true → committed_of d.coinbase ≡ Some committed → root_stage old d committed ≡ Ok new → Accepted old new d
unfolding root_stage
at_root old new d root committed header proof told h =
    let p = passes (same_hash (root_of (next_list old.list d)) committed) (Ok (record { headers = old.headers; held = d.block; list = next_list old.list d })) (faults.BadRoot committed (root_of (next_list old.list d))) new h in
    let is = one_ok (record { headers = old.headers; held = d.block; list = next_list old.list d }) new p.1 in
    record {
      root = root;
      committed = committed;
      header = header;
      proof = proof_is d root proof;
      told = told;
      list_root = same_hash-is (root_of (next_list old.list d)) committed p.0;
      list = ap (λ (c : ClientState). c.list) is;
      held = ap (λ (c : ClientState). c.held) is;
    }

at_coinbase : (old new : ClientState) (d : Diff) (root : Hash256) (o : Option Hash256) → header_root d.block old.headers ≡ Some root → proves d root ≡ true → committed_of d.coinbase ≡ o → coinbase_stage old d o ≡ Ok new → Accepted old new d
unfolding coinbase_stage
at_coinbase old new d root None header proof told h = absurd cc
at_coinbase old new d root (Some committed) header proof told h = at_root old new d root committed header proof told h

at_proof : (old new : ClientState) (d : Diff) (o : Option Hash256) → header_root d.block old.headers ≡ o → proof_stage old d o ≡ Ok new → Accepted old new d
unfolding proof_stage
at_proof old new d None header h = absurd cc
at_proof old new d (Some root) header h =
    let p = passes (proves d root) (coinbase_stage old d (committed_of d.coinbase)) faults.BadBranch new h in
    at_coinbase old new d root (committed_of d.coinbase) header p.0 refl p.1

at_base : (old new : ClientState) (d : Diff) → base_stage old d ≡ Ok new → Accepted old new d
unfolding base_stage
at_base old new d h =
    let p = passes (is_zero d.base.0 || same_hash d.base old.held) (proof_stage old d (header_root d.block old.headers)) (faults.WrongBase old.held) new h in
    at_proof old new d (header_root d.block old.headers) refl p.1

pub record AcceptedText (old new : ClientState) (text : List ℕ) : Type 0 where
  pub d : Diff
  pub is : IsDiffText text d
  pub says : Accepted old new d

at_text : (old new : ClientState) (text : List ℕ) (r : Result Diff Departure) → IsBytes text → whole diff text ≡ r → read_stage old r ≡ Ok new → AcceptedText old new text
unfolding read_stage
at_text old new text (Ok d) bytes read h = record { d = d; is = whole_takes diff diff_sound text d bytes read; says = at_base old new d h }
at_text old new text (Err e) bytes read h = absurd cc

pub accepted : (old new : ClientState) (text : List ℕ) → IsBytes text → client_step old text ≡ Ok new → AcceptedText old new text
unfolding client_step
accepted old new text bytes h = at_text old new text (whole diff text) bytes refl h
