-- One block more in a replay and in a run, and one less.
use Rattle.std.proofs.Common.{◌≡◌, ℕ, ◌+◌, ◌-◌, ◌<◌, ◌≤◌, List, [], ◌∷◌, ◌++◌, length, length-append, take, max, Option, None, Some, Result, Ok, Err, refl, sym, ap, ◌∙◌, subst, arith}
use Rattle.std.proofs.Math.Seq.{take-append_seam}
use Rattle.dmn_block.specs.declared.frame.BlockFrame.{BlockFrame}
use Rattle.dmn_block.specs.declared.refusal.Refusal.{Refusal}
use Rattle.dmn_block.specs.State.{State, origin}
use Rattle.dmn_bytes.specs.declared.hash.Hash256.{Hash256}
use Rattle.dmn_rows.specs.declared.start.StartRecord.{StartRecord}
use Rattle.dmn_branch.specs.Step.{and_then, unless, step, last_of, tip_of}
use Rattle.dmn_branch.specs.Replay.{with_next, replay_on, replay, IsLawful}
use Rattle.dmn_branch.specs.Machine.{MachineState, Command, Connect, Disconnect, Run, ran, run_on, run, branch, history, top, tip, broken_hash, with_command, with_block, without_tip, connect}

replay_more : (start : StartRecord) (states : List State) (blocks : List BlockFrame) (block : BlockFrame)
    → replay_on start states (blocks ++ block ∷ []) ≡ with_next (replay_on start states blocks) (step start (replay_on start states blocks) block)
replay_more start states [] block = refl
replay_more start states (b ∷ blocks) block = replay_more start (with_next states (step start states b)) blocks block

run_more : (start : StartRecord) (r : Run) (commands : List Command) (command : Command) → run_on start r (commands ++ command ∷ []) ≡ ran start (run_on start r commands) command
run_more start r [] command = refl
run_more start r (c ∷ commands) command = run_more start (ran start r c) commands command

run_with : (m : MachineState) (command : Command) → run m.start (with_command m command).commands ≡ ran m.start (run m.start m.commands) command
run_with m command = run_more m.start _ m.commands command

branch_more : (m : MachineState) (block : BlockFrame) → branch (with_block m block) ≡ branch m ++ block ∷ []
branch_more m block = ap (λ (r : Run). r.branch) (run_with m (Connect block))

pub history_more : (m : MachineState) (block : BlockFrame) → history (with_block m block) ≡ with_next (history m) (step m.start (history m) block)
unfolding history
history_more m block =
    ap (replay m.start) (branch_more m block) ∙ replay_more m.start (origin m.start ∷ []) (branch m) block

pub top_more : (m : MachineState) (block : BlockFrame) → top (with_block m block) ≡ max (top m) (tip (with_block m block)).height
unfolding history top
top_more m block =
    ap (λ (r : Run). r.top) (run_with m (Connect block))
    ∙ ap (λ (blocks : List BlockFrame). max (run m.start m.commands).top (tip_of m.start (replay m.start blocks)).height) (sym (branch_more m block))

last_append : (d s : State) (states : List State) → last_of d (states ++ s ∷ []) ≡ s
last_append d s [] = refl
last_append d s (t ∷ states) = last_append t s states

-- ---- an accepted block

-- a connect that is accepted is a step that is
step_of : (m : MachineState) (block : BlockFrame) (n : MachineState) → connect m block ≡ Ok n → (next : State) × (step m.start (history m) block ≡ Ok next)
unfolding connect
step_of m block n is = go (broken_hash m block.hash) (step m.start (history m) block) is
  where
    go : (broken : Option Refusal) (stepped : Result State Refusal) → and_then (unless broken block) (λ fresh. and_then stepped (λ next. Ok (with_block m block))) ≡ Ok n → (next : State) × (stepped ≡ Ok next)
    go None (Ok next) e = (next, refl)
    go None (Err refusal) e = absurd cc
    go (Some refusal) stepped e = absurd cc

pub history_next : (m : MachineState) (block : BlockFrame) (n : MachineState) → connect m block ≡ Ok n → history (with_block m block) ≡ history m ++ tip (with_block m block) ∷ []
history_next m block n is =
    let stepped = step_of m block n is in
    let more : history (with_block m block) ≡ history m ++ stepped.0 ∷ [] = history_more m block ∙ ap (with_next (history m)) stepped.1 in
    let last : tip (with_block m block) ≡ stepped.0 = ap (last_of (origin m.start)) more ∙ last_append (origin m.start) stepped.0 (history m) in
    more ∙ ap (λ (s : State). history m ++ s ∷ []) (sym last)

-- an accepted block leaves a lawful branch lawful
pub lawful_next : (m : MachineState) (block : BlockFrame) (n : MachineState) → connect m block ≡ Ok n → IsLawful m.start (branch m) → IsLawful m.start (branch (with_block m block))
unfolding history
lawful_next m block n is lawful =
    let states : length (history (with_block m block)) ≡ length (history m) + 1 = ap length (history_next m block n is) ∙ length-append (history m) (tip (with_block m block) ∷ []) in
    let blocks : length (branch (with_block m block)) ≡ length (branch m) + 1 = ap length (branch_more m block) ∙ length-append (branch m) (block ∷ []) in
    omega (arith, states, blocks, lawful)

-- ---- what a connect gives, by what its parts give

pub connect_accepts : (m : MachineState) (block : BlockFrame) (next : State) → broken_hash m block.hash ≡ None → step m.start (history m) block ≡ Ok next → (connect m block ≡ Ok (with_block m block)) × (tip (with_block m block) ≡ next)
unfolding connect
connect_accepts m block next fresh stepped =
    let more : history (with_block m block) ≡ history m ++ next ∷ [] = history_more m block ∙ ap (with_next (history m)) stepped in
    (rw (fresh, stepped) refl, ap (last_of (origin m.start)) more ∙ last_append (origin m.start) next (history m))

pub connect_known : (m : MachineState) (block : BlockFrame) (refusal : Refusal) → broken_hash m block.hash ≡ Some refusal → connect m block ≡ Err refusal
unfolding connect
connect_known m block refusal broken = rw broken refl

pub connect_refuses : (m : MachineState) (block : BlockFrame) (refusal : Refusal) → broken_hash m block.hash ≡ None → step m.start (history m) block ≡ Err refusal → connect m block ≡ Err refusal
unfolding connect
connect_refuses m block refusal fresh stepped = rw (fresh, stepped) refl

-- ---- one block less

next_length : (states : List State) (r : Result State Refusal) → length (with_next states r) ≤ length states + 1
next_length states (Ok next) = omega (arith, length-append states (next ∷ []))
next_length states (Err refusal) = omega arith

replay_length : (start : StartRecord) (states : List State) (blocks : List BlockFrame) → length (replay_on start states blocks) ≤ length states + length blocks
replay_length start states [] = omega arith
replay_length start states (b ∷ blocks) =
    omega (arith, next_length states (step start states b), replay_length start (with_next states (step start states b)) blocks)

-- the states of a lawful branch are those of the branch without its last block, and one more
pub record IsBack (start : StartRecord) (blocks : List BlockFrame) (before : List BlockFrame) : Type 0 where
  pub lawful : IsLawful start before
  pub last : State
  pub states : replay start blocks ≡ replay start before ++ last ∷ []

back_of : (start : StartRecord) (blocks : List BlockFrame) (block : BlockFrame) → IsLawful start (blocks ++ block ∷ []) → IsBack start (blocks ++ block ∷ []) blocks
back_of start blocks block lawful = go (step start (replay start blocks) block) (replay_more start (origin start ∷ []) blocks block)
  where
    most : length (replay start blocks) ≤ 1 + length blocks
    most = omega (arith, replay_length start (origin start ∷ []) blocks)

    all : length (replay start (blocks ++ block ∷ [])) ≡ 2 + length blocks
    all = omega (arith, lawful, length-append blocks (block ∷ []))

    go : (r : Result State Refusal) → replay start (blocks ++ block ∷ []) ≡ with_next (replay start blocks) r → IsBack start (blocks ++ block ∷ []) blocks
    go (Ok next) is =
        let count : length (replay start (blocks ++ block ∷ [])) ≡ length (replay start blocks) + 1 = ap length is ∙ length-append (replay start blocks) (next ∷ []) in
        record { lawful = omega (arith, count, all); last = next; states = is }
    go (Err refusal) is = let same : length (replay start (blocks ++ block ∷ [])) ≡ length (replay start blocks) = ap length is in absurd (omega (arith, same, all, most))

-- some items, and the last one
pub record IsSplit {X : Type 0} (xs : List X) : Type 0 where
  pub before : List X
  pub last : X
  pub is : xs ≡ before ++ last ∷ []

pub split : {X : Type 0} → (xs : List X) → 0 < length xs → IsSplit xs
split [] some = absurd (omega (arith, some))
split (x ∷ []) some = record { before = []; last = x; is = refl }
split {X} (x ∷ y ∷ xs) some =
    let rest = split (y ∷ xs) (omega arith) in
    record { before = x ∷ rest.before; last = rest.last; is = ap (λ (l : List X). x ∷ l) rest.is }

pub without_last : {X : Type 0} → (xs : List X) (x : X) → take (length (xs ++ x ∷ []) - 1) (xs ++ x ∷ []) ≡ xs
without_last xs x =
    let count : length (xs ++ x ∷ []) - 1 ≡ length xs = omega (arith, length-append xs (x ∷ [])) in
    ap (λ (n : ℕ). take n (xs ++ x ∷ [])) count ∙ take-append_seam xs (x ∷ [])

branch_less : (m : MachineState) (hash : Hash256) → branch (without_tip m hash) ≡ take (length (branch m) - 1) (branch m)
branch_less m hash = ap (λ (r : Run). r.branch) (run_with m (Disconnect hash))

pub top_stays : (m : MachineState) (hash : Hash256) → top (without_tip m hash) ≡ top m
unfolding top
top_stays m hash = ap (λ (r : Run). r.top) (run_with m (Disconnect hash))

-- the machine without its last block
pub record IsTakenBack (m n : MachineState) : Type 0 where
  pub lawful : IsLawful n.start (branch n)
  pub last : State
  pub states : history m ≡ history n ++ last ∷ []
  pub top : top n ≡ top m

pub taken_back : (m : MachineState) (hash : Hash256) → IsLawful m.start (branch m) → 0 < length (branch m) → IsTakenBack m (without_tip m hash)
unfolding history top
taken_back m hash lawful some =
    let parts = split (branch m) some in
    let less : branch (without_tip m hash) ≡ parts.before = branch_less m hash ∙ ap (λ (l : List BlockFrame). take (length l - 1) l) parts.is ∙ without_last parts.before parts.last in
    let back = back_of m.start parts.before parts.last (subst (IsLawful m.start) parts.is lawful) in
    record {
      lawful = subst (IsLawful m.start) (sym less) back.lawful;
      last = back.last;
      states = ap (replay m.start) parts.is ∙ back.states ∙ ap (λ (l : List BlockFrame). replay m.start l ++ back.last ∷ []) (sym less);
      top = top_stays m hash;
    }

-- a block that was added and taken back leaves the branch of before, and the top that it had reached
pub back_again : (m : MachineState) (block : BlockFrame) (hash : Hash256) → history (without_tip (with_block m block) hash) ≡ history m
unfolding history
back_again m block hash =
    ap (replay m.start) (branch_less (with_block m block) hash ∙ ap (λ (l : List BlockFrame). take (length l - 1) l) (branch_more m block) ∙ without_last (branch m) block)
