-- A block mines at most one commitment of a type.
use Rattle.std.proofs.Common.{◌≡◌, ℕ, suc, ◌+◌, ◌<◌, ◌≤◌, ◌==◌, Bool, true, false, cond, List, [], ◌∷◌, ◌++◌, length, length-append, drop, find, filter, Option, None, Some, refl, sym, ap, ◌∙◌, subst, arith}
use Rattle.std.specs.Prelude.{◌&&◌, ◌||◌, map, not, Ok}
use Rattle.std.specs.List.{AllByRecursion, list_any}
use Rattle.std.specs.Option.{option_map, option_or}
use Rattle.std.proofs.lemmas.Bool.{eq-eqb, eqb-true, ne_eqb}
use Rattle.std.proofs.lemmas.List.Elements.{filter-append}
use Rattle.dmn_block.specs.declared.frame.BlockFrame.{BlockFrame}
use Rattle.dmn_block.specs.Shape.{broken_rule, by_block, first_of}
use Rattle.dmn_block.specs.State.{State, origin}
use Rattle.dmn_branch.specs.Machine.{MachineState, branch, history}
use Rattle.dmn_branch.specs.Quorums.{Committed, Punished, commitment_in, commitment_rule, with_commitment}
use Rattle.dmn_branch.specs.Step.{Counted, Outcome, Setting, after_payment, changed_by, closed, coinbase_in, committed_by, dutiful, judged, last_rules, outcome, profile_of, provided_by, rule_of, setting_of, shaped, spent, state_of, step_from, stood, transacted, transaction, transactions, verdict_on}
use Rattle.dmn_payloads.specs.declared.commitment.Commitment.{Commitment}
use Rattle.dmn_payloads.specs.declared.mined.MinedAt.{MinedAt}
use Rattle.dmn_payloads.specs.Commitments.{is_null}
use Rattle.dmn_quorums.specs.Duty.{mined_at}
use Rattle.dmn_quorums.specs.Forming.{Formed, case_by, has_kind, missing, of_kind}
use Rattle.dmn_quorums.specs.Rules.{commitment_rules, judge_of, quorum_bits, quorum_few, signed_rules, typed_rules}
use Rattle.dmn_rows.specs.declared.profile.Profile.{Profile}
use Rattle.dmn_rows.specs.declared.rule.Rule.{Rule}
use Rattle.dmn_rows.specs.declared.rule.Rule.TheVariants.{QuorumBase, QuorumDone, QuorumHeight, QuorumSecond, QuorumVersion, QuorumWindow}
use Rattle.dmn_rows.specs.declared.verdict.Verdict.{Verdict}
use Rattle.dmn_rows.specs.Rows.{same_hash}
use Rattle.dmn_rows.specs.Table as tables
use Rattle.dmn_tx.specs.declared.tx.Tx.{Tx}
use Rattle.dmn_tx.specs.Tx.{is_special}
use Rattle.dmn_snapshot_laws.specs.Once.{MinesOnce, is_new}
use Rattle.dmn_snapshot_laws.proofs.Replays.{ok_of, ok_same, replay_keeps, then_ok, unless_ok, unless_same}

-- ---- a commitment that no rule refuses

none_first : (a : Option Rule) (rest : List (Option Rule)) → tables.first_broken (a ∷ rest) ≡ None → (a ≡ None) × (tables.first_broken rest ≡ None)
none_first None rest e = (refl, e)
none_first (Some rule) rest e = absurd cc

passed : (b : Bool) (rule : Rule) → tables.when b rule ≡ None → b ≡ false
passed true rule e = absurd cc
passed false rule e = refl

found_holds : (p : Formed → Bool) (formed : List Formed) (f : Formed) → find p formed ≡ Some f → p f ≡ true
found_holds p [] f is = absurd cc
found_holds p (g ∷ formed) f is = go (found_holds p formed f) (p g) refl is
  where
    go : (find p formed ≡ Some f → p f ≡ true) → (b : Bool) → p g ≡ b → cond b (Some g) (find p formed) ≡ Some f → p f ≡ true
    go behind true e there = let same : g ≡ f = cc in subst (λ (x : Formed). p x ≡ true) same e
    go behind false e there = behind there

untyped : (a : Option Rule) (rule : Rule) → tables.first_broken (a ∷ Some rule ∷ []) ≡ None → ⊥
untyped None rule e = cc
untyped (Some other) rule e = cc

fifth : (a b c d : Option Rule) (x : Bool) (rule : Rule) (rest : List (Option Rule)) → tables.first_broken (a ∷ b ∷ c ∷ d ∷ tables.when x rule ∷ rest) ≡ None → x ≡ false
fifth a b c d x rule rest e =
    let one = none_first a (b ∷ c ∷ d ∷ tables.when x rule ∷ rest) e in
    let two = none_first b (c ∷ d ∷ tables.when x rule ∷ rest) one.1 in
    let three = none_first c (d ∷ tables.when x rule ∷ rest) two.1 in
    let four = none_first d (tables.when x rule ∷ rest) three.1 in
    passed x rule (none_first (tables.when x rule) rest four.1).0

typed_new : (f : Formed) (kinds : List ℕ) (told height : ℕ) (v : Commitment) (verdict : Option Verdict) → tables.first_of (commitment_rules (case_by kinds told (Some f)) height v verdict) ≡ None → has_kind kinds f.params.kind ≡ false
unfolding typed_rules
typed_new f kinds told height v verdict e =
    let rest : List (Option Rule) = tables.when f.done QuorumDone ∷ quorum_bits f.params (length f.members) v ∷ quorum_few f.params v ∷ map (λ (x : ℕ × Option Rule). x.1) (signed_rules (case_by kinds told (Some f)) v verdict) in
    fifth (tables.when (not (v.version == 1)) (QuorumVersion v.version)) (tables.when (not (told == height)) (QuorumHeight told)) (tables.when (not f.in_window) QuorumWindow) (tables.when (not (same_hash v.quorum f.base)) (QuorumBase f.base)) (has_kind kinds f.params.kind) QuorumSecond rest e

-- none of its type stands before it
is_new_kind : (formed : List Formed) (kinds : List ℕ) (told height : ℕ) (v : Commitment) (verdict : Option Verdict) → judge_of (case_by kinds told (of_kind formed v.kind)) height v verdict ≡ None → has_kind kinds v.kind ≡ false
unfolding judge_of typed_rules
is_new_kind formed kinds told height v verdict none = go (of_kind formed v.kind) refl none
  where
    go : (o : Option Formed) → of_kind formed v.kind ≡ o → tables.first_of (commitment_rules (case_by kinds told o) height v verdict) ≡ None → has_kind kinds v.kind ≡ false
    go None is e = absurd (untyped _ _ e)
    go (Some f) is e =
        let same : f.params.kind ≡ v.kind = eqb-true f.params.kind v.kind (found_holds (λ (g : Formed). g.params.kind == v.kind) formed f is) in
        ap (has_kind kinds) (sym same) ∙ typed_new f kinds told height v verdict e

-- ---- at most one of each type

abbrev AreOnce : Committed → Type 0
AreOnce now = (kind : ℕ) → length (filter (λ (v : Commitment). v.kind == kind) now.mined) ≤ cond (has_kind now.kinds kind) 1 0

any_more : (p : ℕ → Bool) (xs : List ℕ) (x : ℕ) → list_any p xs ≡ true → list_any p (xs ++ x ∷ []) ≡ true
any_more p [] x there = absurd cc
any_more p (y ∷ xs) x there = go (any_more p xs x) (p y) there
  where
    go : (list_any p xs ≡ true → list_any p (xs ++ x ∷ []) ≡ true) → (b : Bool) → (b || list_any p xs) ≡ true → (b || list_any p (xs ++ x ∷ [])) ≡ true
    go behind true e = refl
    go behind false e = behind e

any_last : (p : ℕ → Bool) (xs : List ℕ) (x : ℕ) → p x ≡ true → list_any p (xs ++ x ∷ []) ≡ true
any_last p [] x is = ap (λ (b : Bool). b || false) is
any_last p (y ∷ xs) x is = go (any_last p xs x is) (p y)
  where
    go : list_any p (xs ++ x ∷ []) ≡ true → (b : Bool) → (b || list_any p (xs ++ x ∷ [])) ≡ true
    go behind true = refl
    go behind false = behind

up : (a b : Bool) → (a ≡ true → b ≡ true) → cond a 1 0 ≤ cond b 1 0
up true true then = omega arith
up true false then = let no : false ≡ true = then refl in absurd cc
up false b then = omega arith

once_with : (v : Commitment) (now : Committed) → has_kind now.kinds v.kind ≡ false → AreOnce now → AreOnce (with_commitment v now)
once_with v now new once = λ kind. by kind (is_null v)
  where
    kinds : List ℕ
    kinds = now.kinds ++ v.kind ∷ []

    wider : (kind : ℕ) → cond (has_kind now.kinds kind) 1 0 ≤ cond (has_kind kinds kind) 1 0
    wider kind = up (has_kind now.kinds kind) (has_kind kinds kind) (any_more (λ (k : ℕ). k == kind) now.kinds v.kind)

    one : (kind : ℕ) (b : Bool) → (v.kind == kind) ≡ b → length (filter (λ (w : Commitment). w.kind == kind) (now.mined ++ v ∷ [])) ≤ cond (has_kind kinds kind) 1 0
    one kind true is =
        let here : has_kind kinds kind ≡ true = any_last (λ (k : ℕ). k == kind) now.kinds v.kind is in
        let same : v.kind ≡ kind = eqb-true v.kind kind is in
        let none : has_kind now.kinds kind ≡ false = ap (has_kind now.kinds) (sym same) ∙ new in
        let few : length (filter (λ (w : Commitment). w.kind == kind) now.mined) ≤ 0 = subst (λ (b : Bool). length (filter (λ (w : Commitment). w.kind == kind) now.mined) ≤ cond b 1 0) none (once kind) in
        let last : length (filter (λ (w : Commitment). w.kind == kind) (v ∷ [])) ≡ 1 = ap (λ (b : Bool). length (cond b (v ∷ []) [])) is in
        let all = ap (λ (l : List Commitment). length l) (filter-append (λ (w : Commitment). w.kind == kind) now.mined (v ∷ [])) ∙ length-append (filter (λ (w : Commitment). w.kind == kind) now.mined) (filter (λ (w : Commitment). w.kind == kind) (v ∷ [])) in
        subst (λ (b : Bool). length (filter (λ (w : Commitment). w.kind == kind) (now.mined ++ v ∷ [])) ≤ cond b 1 0) (sym here) (omega (arith, few, last, all))
    one kind false is =
        let last : length (filter (λ (w : Commitment). w.kind == kind) (v ∷ [])) ≡ 0 = ap (λ (b : Bool). length (cond b (v ∷ []) [])) is in
        let all = ap (λ (l : List Commitment). length l) (filter-append (λ (w : Commitment). w.kind == kind) now.mined (v ∷ [])) ∙ length-append (filter (λ (w : Commitment). w.kind == kind) now.mined) (filter (λ (w : Commitment). w.kind == kind) (v ∷ [])) in
        omega (arith, once kind, last, all, wider kind)

    by : (kind : ℕ) (null : Bool) → length (filter (λ (w : Commitment). w.kind == kind) (cond null now.mined (now.mined ++ v ∷ []))) ≤ cond (has_kind kinds kind) 1 0
    by kind true = omega (arith, once kind, wider kind)
    by kind false = one kind (v.kind == kind) refl

-- ---- transactions

second_none : {X : Type 0} (a b : Option X) → option_or a b ≡ None → b ≡ None
second_none None b e = e
second_none (Some x) b e = absurd cc

once_committed : (s : Setting) (o : Option (ℕ × Commitment)) (committed : Committed) (now : Punished) (verdict : Option Verdict) → commitment_rule s.formed committed s.height verdict o ≡ None → AreOnce committed → AreOnce (committed_by s o committed now).committed
once_committed s None committed now verdict none once = once
once_committed s (Some (told, v)) committed now verdict none once = once_with v committed (is_new_kind s.formed committed.kinds told s.height v verdict none) once

once_transaction : (s : Setting) (place : ℕ) (t : Tx) (now next : Counted) → AreOnce now.committed → transaction s place t now ≡ Ok next → AreOnce next.committed
unfolding transaction
once_transaction s place t now next once is = go (is_special t.version t.kind) (rule_of s now t (verdict_on place s.verdicts)) refl is
  where
    go : (b : Bool) (o : Option Rule) → rule_of s now t (verdict_on place s.verdicts) ≡ o → cond b (judged place o (changed_by s t now)) (Ok now) ≡ Ok next → AreOnce next.committed
    go true None none e =
        let same : changed_by s t now ≡ next = cc in
        subst (λ (c : Counted). AreOnce c.committed) same (once_committed s (commitment_in t) now.committed (provided_by s t now) (verdict_on place s.verdicts) (second_none _ _ none) once)
    go true (Some rule) none e = absurd cc
    go false o none e = let same : now ≡ next = cc in subst (λ (c : Counted). AreOnce c.committed) same once

once_transactions : (s : Setting) (place : ℕ) (txs : List Tx) (now after : Counted) → AreOnce now.committed → transactions s place txs now ≡ Ok after → AreOnce after.committed
once_transactions s place [] now after once is = let same : now ≡ after = cc in subst (λ (c : Counted). AreOnce c.committed) same once
once_transactions s place (t ∷ txs) now after once is =
    let first = then_ok (transaction s place t now) (transactions s (place + 1) txs) after is in
    once_transactions s (place + 1) txs first.0 after (once_transaction s place t now first.0 once first.1) first.2

-- ---- a block

abbrev pub FewOf : List Commitment → Type 0
FewOf mined = (kind : ℕ) → length (filter (λ (v : Commitment). v.kind == kind) mined) ≤ 1

few_of : (now : Committed) → AreOnce now → FewOf now.mined
few_of now once kind = most (has_kind now.kinds kind) (once kind)
  where
    most : (b : Bool) → length (filter (λ (v : Commitment). v.kind == kind) now.mined) ≤ cond b 1 0 → length (filter (λ (v : Commitment). v.kind == kind) now.mined) ≤ 1
    most true le = le
    most false le = omega (arith, le)

begun_once : (tip : State) → AreOnce (stood tip tip.rows).committed
unfolding stood
begun_once tip kind = omega arith

ended_mined : (tip : State) (block : BlockFrame) (now : Counted) → (after_payment tip (spent tip block now)).mined ≡ now.committed.mined
unfolding after_payment spent
ended_mined tip block now = refl

outcome_once : (profile : Profile) (formed : List Formed) (tip : State) (block : BlockFrame) (after : Outcome) → outcome profile formed tip block ≡ Ok after → FewOf after.mined
unfolding outcome shaped transacted dutiful
outcome_once profile formed tip block after is =
    let a = unless_ok (broken_rule block tip.hash tip.height) tip.rows _ after is in
    let b = then_ok (transactions (setting_of profile formed tip block) 1 (drop 1 block.txs) (stood tip tip.rows)) _ after a in
    let c = unless_ok (option_map by_block (missing formed b.0.committed.kinds)) b.0 (λ (now : Counted). ok_of (after_payment tip (spent tip block now))) after b.2 in
    let once = once_transactions (setting_of profile formed tip block) 1 (drop 1 block.txs) (stood tip tip.rows) b.0 (begun_once tip) b.1 in
    subst (λ (o : Outcome). FewOf o.mined) (ok_same c) (subst FewOf (sym (ended_mined tip block b.0)) (few_of b.0.committed once))

-- ---- each state

-- older commitments, and those of its height, of which no two are of one type
pub record HasParts (state : State) : Type 0 where
  pub old : List MinedAt
  pub new : List Commitment
  pub is : state.mined ≡ old ++ mined_at state.height new
  pub below : AllByRecursion (λ (m : MinedAt). m.height < state.height) old
  pub few : FewOf new

record IsStep (state : State) : Type 0 where
  to : AllByRecursion (λ (m : MinedAt). m.height ≤ state.height) state.mined
  once : MinesOnce state
  parts : HasParts state

pub old_none : (height kind : ℕ) (mined : List MinedAt) → AllByRecursion (λ (m : MinedAt). m.height < height) mined → filter (is_new height kind) mined ≡ []
old_none height kind [] all = refl
old_none height kind (m ∷ mined) all =
    let other : (m.height == height) ≡ false = ne_eqb m.height height (λ (is : m.height ≡ height). omega (arith, is, all.0)) in
    ap (λ (b : Bool). cond (b && (m.commitment.kind == kind)) (m ∷ filter (is_new height kind) mined) (filter (is_new height kind) mined)) other ∙ old_none height kind mined all.1

new_count : (height kind : ℕ) (new : List Commitment) → length (filter (is_new height kind) (mined_at height new)) ≡ length (filter (λ (v : Commitment). v.kind == kind) new)
new_count height kind [] = refl
new_count height kind (v ∷ new) = here (height == height) (eq-eqb height height refl) ∙ rest (new_count height kind new) (v.kind == kind)
  where
    here : (b : Bool) → b ≡ true → length (cond (b && (v.kind == kind)) ((record { height = height; commitment = v }) ∷ filter (is_new height kind) (mined_at height new)) (filter (is_new height kind) (mined_at height new)))
        ≡ length (cond (v.kind == kind) ((record { height = height; commitment = v }) ∷ filter (is_new height kind) (mined_at height new)) (filter (is_new height kind) (mined_at height new)))
    here true is = refl
    here false is = absurd cc

    rest : length (filter (is_new height kind) (mined_at height new)) ≡ length (filter (λ (v : Commitment). v.kind == kind) new) → (b : Bool) → length (cond b ((record { height = height; commitment = v }) ∷ filter (is_new height kind) (mined_at height new)) (filter (is_new height kind) (mined_at height new))) ≡ length (cond b (v ∷ filter (λ (v : Commitment). v.kind == kind) new) (filter (λ (v : Commitment). v.kind == kind) new))
    rest behind true = ap suc behind
    rest behind false = behind

below_next : (height : ℕ) (mined : List MinedAt) → AllByRecursion (λ (m : MinedAt). m.height ≤ height) mined → AllByRecursion (λ (m : MinedAt). m.height < height + 1) mined
below_next height [] all = tt
below_next height (m ∷ mined) all = (omega (arith, all.0), below_next height mined all.1)

to_next : (height : ℕ) (mined : List MinedAt) (new : List Commitment) → AllByRecursion (λ (m : MinedAt). m.height ≤ height) mined → AllByRecursion (λ (m : MinedAt). m.height ≤ height + 1) (mined ++ mined_at (height + 1) new)
to_next height [] [] all = tt
to_next height [] (v ∷ new) all = (omega arith, to_next height [] new tt)
to_next height (m ∷ mined) new all = (omega (arith, all.0), to_next height mined new all.1)

next_step : (profile : Profile) (formed : List Formed) (tip : State) (block : BlockFrame) (next : State) → Unit {0} → IsStep tip → step_from profile formed tip block ≡ Ok next → IsStep next
unfolding step_from closed
next_step profile formed tip block next none good is =
    let a = then_ok (outcome profile formed tip block) _ next is in
    let few = outcome_once profile formed tip block a.0 a.1 in
    let same : state_of tip block a.0 ≡ next = unless_same (first_of (last_rules (coinbase_in block.txs) a.0)) (state_of tip block a.0) next a.2 in
    let new = mined_at (tip.height + 1) a.0.mined in
    let once : (kind : ℕ) → length (filter (is_new (tip.height + 1) kind) (tip.mined ++ new)) ≤ 1 = λ kind.
    let parts = ap (λ (l : List MinedAt). length l) (filter-append (is_new (tip.height + 1) kind) tip.mined new ∙ ap (λ (l : List MinedAt). l ++ filter (is_new (tip.height + 1) kind) new) (old_none (tip.height + 1) kind tip.mined (below_next tip.height tip.mined good.to))) in
    omega (arith, few kind, parts, new_count (tip.height + 1) kind a.0.mined) in
    subst IsStep same (record { to = to_next tip.height tip.mined a.0.mined good.to; once = once; parts = record { old = tip.mined; new = a.0.mined; is = refl; below = below_next tip.height tip.mined good.to; few = few } })

-- of each state
steps_all : (blocks : List BlockFrame) → AllByRecursion (λ (block : BlockFrame). Unit {0}) blocks
steps_all [] = tt
steps_all (block ∷ blocks) = (tt, steps_all blocks)

all_steps : (m : MachineState) → AllByRecursion IsStep (history m)
unfolding history
all_steps m =
    let first : IsStep (origin m.start) = record { to = tt; once = λ kind. omega arith; parts = record { old = []; new = []; is = refl; below = tt; few = λ kind. omega arith } } in
    replay_keeps IsStep (λ (block : BlockFrame). Unit {0}) m.start first (next_step (profile_of m.start)) (origin m.start ∷ []) (branch m) (steps_all (branch m)) (first, tt)

once_of : (s : State) → IsStep s → MinesOnce s
once_of s step = step.once

parts_of : (s : State) → IsStep s → HasParts s
parts_of s step = step.parts

each : {P : State → Type 0} → ((s : State) → IsStep s → P s) → (states : List State) → AllByRecursion IsStep states → AllByRecursion P states
each then [] all = tt
each then (s ∷ states) all = (then s all.0, each then states all.1)

pub mined_once : (m : MachineState) → AllByRecursion MinesOnce (history m)
mined_once m = each once_of (history m) (all_steps m)

pub mined_parts : (m : MachineState) → AllByRecursion HasParts (history m)
mined_parts m = each parts_of (history m) (all_steps m)
