-- A diff from the list that a client holds to a block's list is accepted.
use Rattle.std.proofs.Common.{◌≡◌, Bool, true, false, cond, List, [], ◌∷◌, map, Some, Result, Ok, refl, sym, ap, subst, ◌∙◌}
use Rattle.std.specs.Prelude.{◌||◌, MatchBool}
use Rattle.dmn_bytes.specs.declared.hash.Hash256.{Hash256}
use Rattle.dmn_bytes.specs.Points.{is_zero}
use Rattle.dmn_merkle.specs.Branch.{ProvesFirst, CoinbaseProof}
use Rattle.dmn_merkle.specs.declared.branch.BranchFault.{BranchFault}
use Rattle.dmn_merkle.specs.declared.branch.Branching.{Branching}
use Rattle.dmn_merkle.specs.Defs.{merkle_root}
use Rattle.dmn_rows.specs.Rows.{same_hash}
use Rattle.dmn_rows.specs.Keys.{same_hash-from}
use Rattle.dmn_sml.specs.declared.entry.SmlEntry.{SmlEntry}
use Rattle.dmn_sml.specs.Defs.{IsAscending, root_of}
use Rattle.dmn_tx.specs.declared.tx.Tx.{Tx}
use Rattle.dmn_tx.specs.Defs.{id_of}
use Rattle.dmn_diff.specs.Change.{gone, fresh, change_of, changed}
use Rattle.dmn_diff.specs.Defs.{diff_text}
use Rattle.dmn_diff.specs.declared.change.ListChange.{ListChange}
use Rattle.dmn_diff.specs.declared.diff.Diff.{Diff}
use Rattle.dmn_diff.proofs.Steps.{restored}
use Rattle.dmn_client.specs.Headers.{header_root}
use Rattle.dmn_client.specs.Coinbase.{committed_of}
use Rattle.dmn_client.specs.Step.{ClientState, base_stage, proof_stage, coinbase_stage, root_stage, is_root, proves, base_list, next_list}
use Rattle.dmn_client.specs.Sound.{root_of_txs, told_by, IsCompleteStep}
use Rattle.dmn_client.proofs.Judging.{step_of_diff}

-- ---- the base

base_is : (b : Bool) (base list : List SmlEntry) (P : Type 0) → MatchBool b (base ≡ []) (P × (base ≡ list)) → cond b [] list ≡ base
base_is true base list P h = sym h
base_is false base list P h = sym h.1

-- ---- the list

list_is : (c : ClientState) (d : Diff) (base list : List SmlEntry) → base_list c.list d ≡ base → d.deleted ≡ gone base list → d.entries ≡ fresh base list → IsAscending base → IsAscending list → next_list c.list d ≡ list
list_is c d base list is deleted entries p q =
    let change : ListChange = record { deleted = d.deleted; entries = d.entries } in
    let same : change ≡ change_of base list = ap (λ (x : List Hash256). record { deleted = x; entries = d.entries }) deleted ∙ ap (λ (x : List SmlEntry). record { deleted = gone base list; entries = x }) entries in
    ap (λ (l : List SmlEntry). changed l change) is ∙ (ap (λ (x : ListChange). changed base x) same ∙ restored base list p q)

-- ---- the proof

first_proof : (branch : Branching) (ids rest : List Hash256) (id : Hash256) → ids ≡ id ∷ rest → ProvesFirst branch ids → CoinbaseProof branch.total branch.hashes branch.flags id (merkle_root ids)
first_proof branch ids rest id is proof =
    subst (λ (xs : List Hash256). CoinbaseProof branch.total branch.hashes branch.flags id (merkle_root xs)) (sym is) (subst (λ (xs : List Hash256). ProvesFirst branch xs) is proof)

proof_passes : (d : Diff) (root : Hash256) → CoinbaseProof d.branch.total d.branch.hashes d.branch.flags (id_of d.coinbase) root → proves d root ≡ true
proof_passes d root p =
    ap (λ (r : Result Hash256 BranchFault). is_root r root) p ∙ same_hash-from root root refl

-- ---- the stages

root_passes : (c : ClientState) (d : Diff) (list : List SmlEntry) → next_list c.list d ≡ list → root_stage c d (root_of list) ≡ Ok (record { headers = c.headers; held = d.block; list = list })
unfolding root_stage
root_passes c d list is =
    let same : same_hash (root_of (next_list c.list d)) (root_of list) ≡ true = same_hash-from (root_of (next_list c.list d)) (root_of list) (ap root_of is) in
    rw same (ap (λ (l : List SmlEntry). Ok (record { headers = c.headers; held = d.block; list = l })) is)

stages_pass : (c : ClientState) (d : Diff) (root : Hash256) (list : List SmlEntry) → (is_zero d.base.0 || same_hash d.base c.held) ≡ true → header_root d.block c.headers ≡ Some root → proves d root ≡ true → committed_of d.coinbase ≡ Some (root_of list) → next_list c.list d ≡ list
    → base_stage c d ≡ Ok (record { headers = c.headers; held = d.block; list = list })
unfolding base_stage proof_stage coinbase_stage
stages_pass c d root list base header proof told is = rw (base, header, proof, told) (root_passes c d list is)

pub complete_step : (c : ClientState) (d : Diff) (base list : List SmlEntry) (txs : List Tx) → IsCompleteStep c d base txs list
complete_step c d base list txs of_block holds p q told header =
    let rest : List Tx = of_block.coinbase.0 in
    let is : txs ≡ d.coinbase ∷ rest = of_block.coinbase.1 in
    let ids : map id_of txs ≡ id_of d.coinbase ∷ map id_of rest = ap (map id_of) is in
    let proof : proves d (root_of_txs txs) ≡ true = proof_passes d (root_of_txs txs) (first_proof d.branch (map id_of txs) (map id_of rest) (id_of d.coinbase) ids of_block.branch) in
    let tells : committed_of d.coinbase ≡ Some (root_of list) = sym (ap told_by is) ∙ told in
    let lists : base_list c.list d ≡ base = base_is (is_zero d.base.0) base c.list (d.base ≡ c.held) holds in
    let fits : (is_zero d.base.0 || same_hash d.base c.held) ≡ true = holds_base c d base (is_zero d.base.0) holds in
    step_of_diff c (diff_text d) d (of_block.fits, refl)
    ∙ stages_pass c d (root_of_txs txs) list fits header proof tells (list_is c d base list lists of_block.deleted of_block.entries p q)
  where
    holds_base : (c : ClientState) (d : Diff) (base : List SmlEntry) (b : Bool) → MatchBool b (base ≡ []) ((d.base ≡ c.held) × (base ≡ c.list)) → (b || same_hash d.base c.held) ≡ true
    holds_base c d base true h = refl
    holds_base c d base false h = same_hash-from d.base c.held h.0
