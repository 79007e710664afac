-- The transactions of a block, type by type.
use Rattle.std.proofs.Common.{◌≡◌, ℕ, suc, ◌+◌, ◌-◌, ◌<◌, Bool, true, false, List, [], ◌∷◌, ◌++◌, length, map, cond, refl, sym, ap, ◌∙◌, append_assoc, length-append, arith}
use Rattle.std.specs.List.{range_with_len}
use Rattle.std.proofs.lemmas.List.{append-nil}
use Rattle.dmn_block.specs.Body.{connect_body}
use Rattle.dmn_bytes.specs.declared.hash.Hash256.{Hash256}
use Rattle.dmn_merkle.specs.Defs.{merkle_root}
use Rattle.dmn_tx.specs.Defs.{id_of}
use Rattle.dmn_quorums.specs.Forming.{Formed, is_due}
use Rattle.dmn_rows.specs.declared.verdict.Verdict.{Verdict}
use Rattle.dmn_tx.specs.declared.tx.Tx.{Tx}
use Rattle.dmn_generator.specs.Blocks.{block_of, txs_of}
use Rattle.dmn_generator.specs.Commitments.{commitment_tx, due_of, verdicts_from}
use Rattle.dmn_generator.specs.Masternodes.{masternode}
use Rattle.dmn_generator.specs.declared.blocks.Place.{Place}

pub more_txs : (height : ℕ) (old : List Tx) (f : Formed) (rest : List Formed) → (old ++ map (commitment_tx height) (due_of (f ∷ []))) ++ map (commitment_tx height) (due_of rest) ≡ old ++ map (commitment_tx height) (due_of (f ∷ rest))
more_txs height old f rest = go (is_due f)
  where
    go : (b : Bool) → (old ++ map (commitment_tx height) (cond b (f ∷ []) [])) ++ map (commitment_tx height) (due_of rest) ≡ old ++ map (commitment_tx height) (cond b (f ∷ due_of rest) (due_of rest))
    go true = rw append_assoc refl
    go false = rw append_assoc refl

pub more_verdicts : (height : ℕ) (old : List Tx) (verdicts : List Verdict) (f : Formed) (rest : List Formed)
    → (verdicts ++ verdicts_from (length old) height (due_of (f ∷ []))) ++ verdicts_from (length (old ++ map (commitment_tx height) (due_of (f ∷ [])))) height (due_of rest) ≡ verdicts ++ verdicts_from (length old) height (due_of (f ∷ rest))
more_verdicts height old verdicts f rest = go (is_due f)
  where
    go : (b : Bool) → (verdicts ++ verdicts_from (length old) height (cond b (f ∷ []) [])) ++ verdicts_from (length (old ++ map (commitment_tx height) (cond b (f ∷ []) []))) height (due_of rest) ≡ verdicts ++ verdicts_from (length old) height (cond b (f ∷ due_of rest) (due_of rest))
    go true = rw (append-nil, append_assoc, length-append) refl
    go false = rw (append-nil verdicts, append-nil old) refl

-- one masternode more, of those from a number on
pub more_masternodes : (txs next all : List Tx) (i to : ℕ) → i < to → next ≡ txs ++ masternode i ∷ [] → txs ++ map masternode (range_with_len i (to - i)) ≡ all → next ++ map masternode (range_with_len (i + 1) (to - (i + 1))) ≡ all
more_masternodes txs next all i to lt is was =
    let one : to - i ≡ suc (to - (i + 1)) = omega arith in
    ap (λ (l : List Tx). l ++ map masternode (range_with_len (i + 1) (to - (i + 1)))) is
    ∙ append_assoc txs (masternode i ∷ []) (map masternode (range_with_len (i + 1) (to - (i + 1))))
    ∙ ap (λ (n : ℕ). txs ++ map masternode (range_with_len i n)) (sym one)
    ∙ was

-- the text of a block, by its parts
pub block_text : (count : ℕ) (place : Place) (formed : List Formed) (root : Hash256) (txs : List Tx) (verdicts : List Verdict) (merkle : Hash256) → txs ≡ txs_of count place.height formed root → verdicts ≡ verdicts_from 1 place.height (due_of formed)
    → merkle ≡ merkle_root (map id_of (txs_of count place.height formed root))
    → [] ++ connect_body.text (record { hash = place.hash; header = record { version = 1; prev = place.prev; merkle = merkle; time = place.height; bits = 0; nonce = 0 }; txs = txs; verdicts = verdicts }) ≡ connect_body.text (block_of count place formed root)
block_text count place formed root txs verdicts merkle are tell is = rw (are, tell, is) refl
