-- Members that nobody asks for make no difference to a block.
use Rattle.std.proofs.Common.{◌≡◌, ℕ, ◌+◌, ◌-◌, ◌/◌, ◌^◌, Bool, true, false, not, cond, List, [], ◌∷◌, drop, map, Option, Some, None, Result, Ok, Err, refl, sym, ap, ◌∙◌, subst, inl, inr}
use Rattle.std.specs.Prelude.{◌==◌, ◌&&◌, ◌||◌, nat_lt}
use Rattle.std.specs.Option.{option_map, option_or}
use Rattle.std.proofs.Math.Nat.{zero-div}
use Rattle.std.proofs.lemmas.Bool.{cases_Bool, eq-eqb, eqb-true}
use Rattle.dmn_block.specs.State.{State}
use Rattle.dmn_block.specs.declared.frame.BlockFrame.{BlockFrame}
use Rattle.dmn_block.specs.declared.refusal.Refusal.{Refusal}
use Rattle.dmn_block.specs.Shape.{by_block}
use Rattle.dmn_bytes.specs.Points.{is_zero}
use Rattle.dmn_bytes.specs.declared.hash.Hash256.{Hash256}
use Rattle.dmn_bytes.specs.Format.{whole}
use Rattle.dmn_bytes.specs.Law.{IsBytes}
use Rattle.dmn_bytes.specs.Sound.{whole_again, whole_takes}
use Rattle.dmn_bytes.specs.declared.fault.Departure.{Departure}
use Rattle.dmn_payloads.specs.Commitments.{is_null, mined, mined_sound}
use Rattle.dmn_payloads.specs.declared.commitment.Commitment.{Commitment}
use Rattle.dmn_payloads.specs.declared.fault.PayloadFault.{PayloadFault}
use Rattle.dmn_payloads.specs.declared.fault.PayloadFault.TheVariants as payload_faults
use Rattle.dmn_payloads.specs.declared.mined.MinedAt.{MinedAt}
use Rattle.dmn_quorums.specs.Bitset.{has_bit_from}
use Rattle.dmn_quorums.specs.Forming.{Formed, case_by, has_kind, inside, members_by, missing, missing_of, no_hash, of_kind, outside}
use Rattle.dmn_quorums.specs.Rules.{judge_of, quorum_bits, type_rules, typed_rules}
use Rattle.dmn_quorums.specs.declared.case.QuorumCase.{QuorumCase}
use Rattle.dmn_rows.specs.declared.profile.Profile.{Profile}
use Rattle.dmn_rows.specs.declared.profile.QuorumParams.{QuorumParams}
use Rattle.dmn_rows.specs.declared.row.MnRow.{MnRow}
use Rattle.dmn_rows.specs.declared.rule.Rule.{Rule}
use Rattle.dmn_rows.specs.declared.rule.Rule.TheVariants.{QuorumVersion}
use Rattle.dmn_rows.specs.declared.verdict.Verdict.{Verdict}
use Rattle.dmn_rules.specs.Defs.{judge_of as judge_tx}
use Rattle.dmn_rows.specs.Table.{Table, first_broken, first_of, when}
use Rattle.dmn_tx.specs.declared.tx.Tx.{Tx}
use Rattle.dmn_tx.specs.Tx.{is_special}
use Rattle.dmn_branch.specs.Drawn.{IsDrawnFor, IsFor, drawn_by, is_drawn, kind_asked, kind_in, kind_mined, kinds_asked, undrawn, with_kind}
use Rattle.dmn_branch.specs.Fault.{Tells}
use Rattle.dmn_branch.specs.Parts.{Follows, formed_kept}
use Rattle.dmn_branch.specs.Quorums.{Committed, Punished, commitment_in, commitment_rule, punish_absent, punish_by, with_commitment}
use Rattle.dmn_branch.specs.Stands.{Kept}
use Rattle.dmn_branch.specs.Step.{Counted, Outcome, Setting, and_then, changed_by, committed_by, dutiful, events_in, judged, outcome, provided_by, rule_of, setting_of, shaped, step_from, stood, transacted, transaction, transactions, after_payment, spent, closed, unless, verdict_on}
use Rattle.dmn_branch.proofs.Drawing.{both}
use Rattle.dmn_branch.specs.declared.drawn.Drawn.{Drawn}
use Rattle.dmn_branch.specs.declared.drawn.Drawn.TheVariants as drawn
use Rattle.dmn_branch.specs.declared.fault.PrepareFault.{PrepareFault}

-- in the window of a quorum, where its members aren't drawn
pub undrawn_is : (d : Drawn) (params : QuorumParams) (done in_window : Bool) (o : Option Kept) (kept : Kept) (f : Formed) → in_window ≡ true → o ≡ Some kept → is_drawn d params.kind ≡ false → ((rows : List MnRow) → f ≡ undrawn (inside params done kept.hash rows))
    → f ≡ drawn_by d (cond in_window (formed_kept params done o) (outside params done))
undrawn_is d params done in_window o kept f within is nobody so = so kept.rows ∙ rw (within, is, nobody) refl

-- all are drawn
pub all_drawn : (formed : List Formed) → map (drawn_by drawn.All) formed ≡ formed
all_drawn [] = refl
all_drawn (f ∷ formed) = ap (λ (l : List Formed). f ∷ l) (all_drawn formed)

-- ---- what a payload asks for

pub kind_found : (payload : List ℕ) (read : ℕ × Commitment) → mined.Fits read × (payload ≡ mined.text read) → kind_mined read.1 ≡ kind_in (whole mined payload)
kind_found payload read (fits, is) = ap kind_in (sym (ap (whole mined) is ∙ whole_again mined mined_sound read fits))

none_by : (payload : List ℕ) (e : PayloadFault) (r : Result (ℕ × Commitment) Departure) → whole mined payload ≡ r → IsBytes payload → ((v : ℕ × Commitment) → mined.Fits v → payload ≡ mined.text v → e ≡ payload_faults.Memory) → (e ≡ payload_faults.Memory → ⊥) → None ≡ kind_in r
none_by payload e (Ok v) h bytes only other = let p = whole_takes mined mined_sound payload v bytes h in absurd (other (only v p.0 p.1))
none_by payload e (Err d) h bytes only other = refl

pub kind_none : (payload : List ℕ) (e : PayloadFault) → IsBytes payload → ((v : ℕ × Commitment) → mined.Fits v → payload ≡ mined.text v → e ≡ payload_faults.Memory) → (e ≡ payload_faults.Memory → ⊥) → None ≡ kind_in (whole mined payload)
kind_none payload e bytes only other = none_by payload e (whole mined payload) refl bytes only other

-- ---- a null commitment

null_bits : (place : ℕ) (bytes : List ℕ) → is_zero bytes ≡ true → has_bit_from place bytes ≡ false
null_bits place [] zeros = refl
null_bits place (b ∷ bytes) zeros =
    let parts = both (b == 0) (is_zero bytes) zeros in
    let none : b / 2 ^ place ≡ 0 = ap (λ (n : ℕ). n / 2 ^ place) (eqb-true b 0 parts.0) ∙ zero-div (2 ^ place) in
    ap (λ (q : ℕ). cond (nat_lt place 8) (not (q == 0) || has_bit_from 0 bytes) (has_bit_from (place - 8) bytes)) none
    ∙ go (nat_lt place 8) (null_bits 0 bytes parts.1) (null_bits (place - 8) bytes parts.1)
  where
    go : (b : Bool) → has_bit_from 0 bytes ≡ false → has_bit_from (place - 8) bytes ≡ false → cond b (has_bit_from 0 bytes) (has_bit_from (place - 8) bytes) ≡ false
    go true near far = near
    go false near far = far

first_two : (a b c d e f : Bool) → (a && b && c && d && e && f) ≡ true → (a ≡ true) × (b ≡ true)
first_two true true c d e f is = (refl, refl)
first_two true false c d e f is = absurd cc
first_two false b c d e f is = absurd cc

null_sets : (v : Commitment) → is_null v ≡ true → (is_zero v.signers.bytes ≡ true) × (is_zero v.valid.bytes ≡ true)
null_sets v null = first_two (is_zero v.signers.bytes) (is_zero v.valid.bytes) (is_zero v.key) (is_zero v.vvec.0) (is_zero v.quorum_sig) (is_zero v.members_sig) null

-- its sets of bits are judged alike, by however many members
same_bits : (params : QuorumParams) (m n : ℕ) (v : Commitment) → is_null v ≡ true → quorum_bits params m v ≡ quorum_bits params n v
unfolding quorum_bits
same_bits params m n v null =
    let zeros = null_sets v null in
    rw (null_bits m v.signers.bytes zeros.0, null_bits n v.signers.bytes zeros.0, null_bits m v.valid.bytes zeros.1, null_bits n v.valid.bytes zeros.1) refl

same_typed : (o : Option QuorumParams) (c : QuorumCase) (m : ℕ) (digest : Hash256) (height : ℕ) (v : Commitment) (verdict : Option Verdict) → is_null v ≡ true
    → type_rules o (record c { members = m; digest = digest }) height v verdict ≡ type_rules o c height v verdict
unfolding typed_rules
same_typed None c m digest height v verdict null = refl
same_typed (Some params) c m digest height v verdict null = rw (null, same_bits params m c.members v null) refl

same_judged : (c : QuorumCase) (m : ℕ) (digest : Hash256) (height : ℕ) (v : Commitment) (verdict : Option Verdict) → is_null v ≡ true
    → judge_of (record c { members = m; digest = digest }) height v verdict ≡ judge_of c height v verdict
unfolding judge_of
same_judged c m digest height v verdict null =
    ap (λ (t : Table Rule). first_of ((63, when (not (v.version == 1)) (QuorumVersion v.version)) ∷ t)) (same_typed c.params c m digest height v verdict null)

-- ---- a commitment that is judged

module _ (d : Drawn) where
  -- of this transaction's commitment, where it isn't null, the members are drawn
  abbrev Draws : Option (ℕ × Commitment) → Type 0
  Draws None = Unit {0}
  Draws (Some (told, v)) = is_null v ≡ false → is_drawn d v.kind ≡ true

  -- the quorum of a type is found alike
  found : (formed : List Formed) (kind : ℕ) → of_kind (map (drawn_by d) formed) kind ≡ option_map (drawn_by d) (of_kind formed kind)
  found [] kind = refl
  found (f ∷ formed) kind =
      let rest = of_kind (map (drawn_by d) formed) kind in
      kept (is_drawn d f.params.kind) rest ∙ go (f.params.kind == kind) (found formed kind)
    where
      kept : (b : Bool) (rest : Option Formed) → cond ((cond b f (undrawn f)).params.kind == kind) (Some (drawn_by d f)) rest ≡ cond (f.params.kind == kind) (Some (drawn_by d f)) rest
      kept true rest = refl
      kept false rest = refl

      go : (b : Bool) → of_kind (map (drawn_by d) formed) kind ≡ option_map (drawn_by d) (of_kind formed kind) → cond b (Some (drawn_by d f)) (of_kind (map (drawn_by d) formed) kind) ≡ option_map (drawn_by d) (cond b (Some f) (of_kind formed kind))
      go true behind = refl
      go false behind = behind

  -- and with its members, where they are drawn
  found_drawn : (formed : List Formed) (kind : ℕ) → is_drawn d kind ≡ true → option_map (drawn_by d) (of_kind formed kind) ≡ of_kind formed kind
  found_drawn [] kind is = refl
  found_drawn (f ∷ formed) kind is = go (f.params.kind == kind) refl (found_drawn formed kind is)
    where
      go : (b : Bool) → (f.params.kind == kind) ≡ b → option_map (drawn_by d) (of_kind formed kind) ≡ of_kind formed kind → option_map (drawn_by d) (cond b (Some f) (of_kind formed kind)) ≡ cond b (Some f) (of_kind formed kind)
      go true at behind =
          let its : is_drawn d f.params.kind ≡ true = ap (is_drawn d) (eqb-true f.params.kind kind at) ∙ is in
          ap (λ (b : Bool). Some (cond b f (undrawn f))) its
      go false at behind = behind

  same_found : (formed : List Formed) (kind : ℕ) → is_drawn d kind ≡ true → of_kind (map (drawn_by d) formed) kind ≡ of_kind formed kind
  same_found formed kind is = found formed kind ∙ found_drawn formed kind is

  -- a null commitment is judged alike
  judged_null : (o : Option Formed) (kinds : List ℕ) (told height : ℕ) (v : Commitment) (verdict : Option Verdict) → is_null v ≡ true
      → judge_of (case_by kinds told (option_map (drawn_by d) o)) height v verdict ≡ judge_of (case_by kinds told o) height v verdict
  judged_null None kinds told height v verdict null = refl
  judged_null (Some f) kinds told height v verdict null = go (is_drawn d f.params.kind)
    where
      go : (b : Bool) → judge_of (case_by kinds told (Some (cond b f (undrawn f)))) height v verdict ≡ judge_of (case_by kinds told (Some f)) height v verdict
      go true = refl
      go false = same_judged (case_by kinds told (Some f)) 0 no_hash height v verdict null

  same_rule : (formed : List Formed) (now : Committed) (height : ℕ) (verdict : Option Verdict) (read : Option (ℕ × Commitment)) → Draws read
      → commitment_rule (map (drawn_by d) formed) now height verdict read ≡ commitment_rule formed now height verdict read
  same_rule formed now height verdict None draws = refl
  same_rule formed now height verdict (Some (told, v)) draws = elim (cases_Bool (is_null v)) [
    | inl null ↦ ap (λ (o : Option Formed). judge_of (case_by now.kinds told o) height v verdict) (found formed v.kind) ∙ judged_null (of_kind formed v.kind) now.kinds told height v verdict null
    | inr some ↦ ap (λ (o : Option Formed). judge_of (case_by now.kinds told o) height v verdict) (same_found formed v.kind (draws some))
  ]

  same_punished : (formed : List Formed) (height : ℕ) (v : Commitment) (now : Punished) → Draws (Some (0, v)) → punish_by (map (drawn_by d) formed) height v now ≡ punish_by formed height v now
  same_punished formed height v now draws = elim (cases_Bool (is_null v)) [
    | inl null ↦ rw null refl
    | inr some ↦ ap (λ (o : Option Formed). cond (is_null v) now (punish_absent height v.valid.bytes 0 (members_by o) now)) (same_found formed v.kind (draws some))
  ]

  -- ---- the transactions

  same_committed : (s : Setting) (read : Option (ℕ × Commitment)) (committed : Committed) (now : Punished) → Draws read
      → committed_by (record s { formed = map (drawn_by d) s.formed }) read committed now ≡ committed_by s read committed now
  same_committed s None committed now draws = refl
  same_committed s (Some (told, v)) committed now draws =
      ap (λ (p : Punished). record { rows = p.rows; events = p.events; committed = with_commitment v committed }) (same_punished s.formed s.height v now draws)

  same_transaction : (s : Setting) (place : ℕ) (tx : Tx) (now : Counted) → Draws (commitment_in tx) → transaction (record s { formed = map (drawn_by d) s.formed }) place tx now ≡ transaction s place tx now
  unfolding transaction
  same_transaction s place tx now draws =
      let rule = same_rule s.formed now.committed s.height (verdict_on place s.verdicts) (commitment_in tx) draws in
      let next = same_committed s (commitment_in tx) now.committed (provided_by s tx now) draws in
      ap (λ (o : Option Rule). cond (is_special tx.version tx.kind) (judged place (option_or (judge_tx s.profile now.rows s.outputs s.height tx (verdict_on place s.verdicts)) o) (changed_by (record s { formed = map (drawn_by d) s.formed }) tx now)) (Ok now)) rule
      ∙ ap (λ (n : Counted). cond (is_special tx.version tx.kind) (judged place (rule_of s now tx (verdict_on place s.verdicts)) n) (Ok now)) next

  abbrev DrawsAll : List Tx → Type 0
  DrawsAll [] = Unit {0}
  DrawsAll (tx ∷ txs) = Draws (commitment_in tx) × DrawsAll txs

  same_then : {X Y : Type 0} (r : Result X Refusal) (f g : X → Result Y Refusal) → ((x : X) → f x ≡ g x) → and_then r f ≡ and_then r g
  same_then (Ok x) f g same = same x
  same_then (Err refusal) f g same = refl

  same_transactions : (s : Setting) (place : ℕ) (txs : List Tx) (now : Counted) → DrawsAll txs → transactions (record s { formed = map (drawn_by d) s.formed }) place txs now ≡ transactions s place txs now
  same_transactions s place [] now draws = refl
  same_transactions s place (tx ∷ txs) now draws =
      let more = transactions (record s { formed = map (drawn_by d) s.formed }) (place + 1) txs in
      ap (λ (r : Result Counted Refusal). and_then r more) (same_transaction s place tx now draws.0)
      ∙ same_then (transaction s place tx now) more (transactions s (place + 1) txs) (λ next. same_transactions s (place + 1) txs next draws.1)

  -- ---- the duty to mine commitments

  same_missing : (kinds : List ℕ) (formed : List Formed) → missing (map (drawn_by d) formed) kinds ≡ missing formed kinds
  unfolding missing_of
  same_missing kinds formed = ap first_broken (go formed)
    where
      one : (f : Formed) (b : Bool) → missing_of kinds (cond b f (undrawn f)) ≡ missing_of kinds f
      one f true = refl
      one f false = refl

      go : (fs : List Formed) → map (missing_of kinds) (map (drawn_by d) fs) ≡ map (missing_of kinds) fs
      go [] = refl
      go (f ∷ fs) =
          ap (λ (o : Option Rule). o ∷ map (missing_of kinds) (map (drawn_by d) fs)) (one f (is_drawn d f.params.kind))
          ∙ ap (λ (l : List (Option Rule)). missing_of kinds f ∷ l) (go fs)

  -- ---- the block

  same_outcome : (profile : Profile) (formed : List Formed) (tip : State) (block : BlockFrame) → DrawsAll (drop 1 block.txs) → outcome profile (map (drawn_by d) formed) tip block ≡ outcome profile formed tip block
  unfolding outcome transacted dutiful
  same_outcome profile formed tip block draws =
      same_then (shaped tip block) _ _ (λ rows.
      ap (λ (r : Result Counted Refusal). and_then r (λ now. and_then (dutiful (map (drawn_by d) formed) now) (λ now. Ok (after_payment tip (spent tip block now)))))
      (same_transactions (setting_of profile formed tip block) 1 (drop 1 block.txs) (stood tip rows) draws)
      ∙ same_then (transacted profile formed tip block (stood tip rows)) _ _ (λ now.
      ap (λ (o : Option Rule). and_then (unless (option_map by_block o) now) (λ now. Ok (after_payment tip (spent tip block now)))) (same_missing now.committed.kinds formed)))

-- ---- as many as a block asks for

-- what is drawn for some types is drawn for more
more_draws : (d e : Drawn) (read : Option (ℕ × Commitment)) → ((kind : ℕ) → is_drawn d kind ≡ true → is_drawn e kind ≡ true) → Draws d read → Draws e read
more_draws d e None more draws = tt
more_draws d e (Some (told, v)) more draws = λ some. more v.kind (draws some)

draws_for : (d : Drawn) (txs : List Tx) → ((kind : ℕ) → has_kind (kinds_asked txs) kind ≡ true → is_drawn d kind ≡ true) → DrawsAll d txs
unfolding kind_asked
draws_for d [] has = tt
draws_for d (tx ∷ txs) has = (first (commitment_in tx) refl, draws_for d txs (λ kind is. has kind (behind (kind_asked tx) kind is)))
  where
    behind : (o : Option ℕ) (kind : ℕ) → has_kind (kinds_asked txs) kind ≡ true → has_kind (with_kind o (kinds_asked txs)) kind ≡ true
    behind None kind is = is
    behind (Some k) kind is = go (k == kind)
      where
        go : (b : Bool) → (b || has_kind (kinds_asked txs) kind) ≡ true
        go true = refl
        go false = is

    first : (read : Option (ℕ × Commitment)) → commitment_in tx ≡ read → Draws d read
    first None at = tt
    first (Some (told, v)) at = λ some.
        let asked : kind_asked tx ≡ Some v.kind = rw (at, some) refl in
        has v.kind (rw (asked, eq-eqb v.kind v.kind refl) refl)

draws_behind : (d : Drawn) (txs : List Tx) → DrawsAll d txs → DrawsAll d (drop 1 txs)
draws_behind d [] draws = tt
draws_behind d (tx ∷ txs) draws = draws.1

for_block : (d : Drawn) (txs : List Tx) → IsFor txs d → DrawsAll d (drop 1 txs)
for_block drawn.All txs is = draws_behind drawn.All txs (draws_for drawn.All txs (λ kind has. refl))
for_block (drawn.Of kinds) txs is = draws_behind (drawn.Of kinds) txs (draws_for (drawn.Of kinds) txs (λ kind has. ap (λ (l : List ℕ). has_kind l kind) is ∙ has))

module _ (profile : Profile) (formed given : List Formed) (state : State) (block : BlockFrame) (has : IsDrawnFor block.txs formed given) where
  outcome_is : outcome profile given state block ≡ outcome profile formed state block
  outcome_is = ap (λ (l : List Formed). outcome profile l state block) has.is ∙ same_outcome has.drawn profile formed state block (for_block has.drawn block.txs has.asked)

  step_is : step_from profile given state block ≡ step_from profile formed state block
  unfolding step_from
  step_is = ap (λ (r : Result Outcome Refusal). and_then r (closed state block)) outcome_is

  pub tells_drawn : (fault : PrepareFault) → Tells (step_from profile given state block) fault → Tells (step_from profile formed state block) fault
  tells_drawn fault tells = subst (λ (r : Result State Refusal). Tells r fault) step_is tells

  pub follows_drawn : (events : ℕ) (next : Kept) (old new : List MinedAt) → Follows profile given state block events next old new → Follows profile formed state block events next old new
  follows_drawn events next old new follows = record {
    after = follows.after;
    stepped = sym step_is ∙ follows.stepped;
    counted = follows.counted ∙ ap events_in outcome_is;
    stands = follows.stands;
    added = follows.added;
  }
