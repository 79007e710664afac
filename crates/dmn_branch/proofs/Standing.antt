-- What a branch keeps, and the machine for which it stands.
use Rattle.std.proofs.Common.{◌≡◌, ℕ, zero, suc, ◌+◌, ◌-◌, ◌<◌, max, Bool, true, false, cond, List, [], ◌∷◌, ◌++◌, length, length-append, drop, drop-drop, map, get_or, find, Option, Some, None, refl, sym, ap, ◌∙◌, subst, arith}
use Rattle.std.specs.Prelude.{slice_get, IfSome, ◌≤◌, Ok, Err}
use Rattle.std.proofs.lemmas.Bool.{eq-eqb, ne_eqb, le-leb, lt-leb}
use Rattle.std.specs.Option.{option_map}
use Rattle.std.specs.Str.{bytes_eq}
use Rattle.std.proofs.lemmas.Option.{slice_get-map}
use Rattle.std.proofs.lemmas.List.{length-drop, length-map, drop-append-le, drop-map, map-append}
use Rattle.dmn_block.specs.declared.frame.BlockFrame.{BlockFrame}
use Rattle.dmn_block.specs.State.{State, origin}
use Rattle.dmn_bytes.specs.declared.hash.Hash256.{Hash256}
use Rattle.dmn_payloads.specs.declared.mined.MinedAt.{MinedAt}
use Rattle.dmn_quorums.specs.Duty.{active_at, types_of}
use Rattle.dmn_rows.specs.declared.profile.Profile.{Profile}
use Rattle.dmn_rows.specs.declared.profile.QuorumParams.{QuorumParams}
use Rattle.dmn_rows.specs.Row.{plain}
use Rattle.dmn_branch.specs.declared.fault.DisconnectRefusal.TheVariants.{NotTip, AtStart, TooDeep}
use Rattle.dmn_branch.specs.Asked.{told, IsToldOf, Lent, Lends}
use Rattle.dmn_branch.specs.Step.{last_of}
use Rattle.dmn_branch.specs.Machine as machine
use Rattle.dmn_branch.specs.Machine.{MachineState, disconnect, history, held_states, tip, state_at, with_block, without_tip}
use Rattle.dmn_branch.specs.Parts.{StandsIn}
use Rattle.dmn_branch.specs.Replay.{IsLawful}
use Rattle.dmn_branch.specs.Coinbases.{coinbase_of}
use Rattle.dmn_held.specs.declared.coinbase.CoinbasePart.{CoinbasePart}
use Rattle.dmn_branch.specs.Stands.{Kept, Keeping, Next, StandsAt, AllStand, AreSound, StandsFor, IsNext, AreFrom, IsKept, GivesActive, IsAboveFloor, KeepsActive, lists_in, low_of, low_kept, tip_kept}
use Rattle.dmn_branch.proofs.Active.{StatesTo, gives_less, gives_more}
use Rattle.dmn_branch.proofs.Every.{every_at, every_both, every_then}
use Rattle.dmn_branch.proofs.History.{state_of_tip, tip_at}
use Rattle.dmn_branch.proofs.Holding.{all_trees}
use Rattle.dmn_branch.proofs.Replaying.{history_next, lawful_next, top_more, taken_back}

-- ---- a list at a place

within : {X : Type 0} → (xs : List X) (n : ℕ) (x : X) → slice_get xs n ≡ Some x → n < length xs
within [] n x is = absurd cc
within (y ∷ xs) zero x is = omega arith
within (y ∷ xs) (suc n) x is = omega (arith, within xs n x is)

pub stands_at : (lists : List Kept) (states : List State) (n : ℕ) (k : Kept) → AllStand lists states → slice_get lists n ≡ Some k → (s : State) × (slice_get states n ≡ Some s) × StandsAt k s
stands_at [] states n k all is = absurd cc
stands_at (x ∷ lists) [] n k all is = absurd all
stands_at (x ∷ lists) (s ∷ states) zero k all is = let same : x ≡ k = cc in (s, refl, subst (λ (y : Kept). StandsAt y s) same all.0)
stands_at (x ∷ lists) (s ∷ states) (suc n) k all is = stands_at lists states n k all.1 is

stands_length : (lists : List Kept) (states : List State) → AllStand lists states → length lists ≡ length states
stands_length [] [] all = refl
stands_length [] (s ∷ states) all = absurd all
stands_length (x ∷ lists) [] all = absurd all
stands_length (x ∷ lists) (s ∷ states) all = omega (arith, stands_length lists states all.1)

last_at : (states : List State) (d x : State) (n : ℕ) → suc n ≡ length states → slice_get states n ≡ Some x → last_of d states ≡ x
last_at [] d x n e h = absurd (omega (arith, e))
last_at (s ∷ []) d x zero e h = cc
last_at (s ∷ []) d x (suc n) e h = absurd (omega (arith, e))
last_at (s ∷ t ∷ states) d x zero e h = absurd (omega (arith, e))
last_at (s ∷ t ∷ states) d x (suc n) e h = last_at (t ∷ states) s x n (omega (arith, e)) h

get_drop : {X : Type 0} → (xs : List X) (k n : ℕ) → slice_get (drop k xs) n ≡ slice_get xs (k + n)
get_drop xs zero n =
    let same : n ≡ zero + n = omega arith in
    ap (slice_get xs) same
get_drop [] (suc k) n = refl
get_drop (x ∷ xs) (suc k) n =
    let next : suc (k + n) ≡ suc k + n = omega arith in
    get_drop xs k n ∙ ap (slice_get (x ∷ xs)) next

-- how many states lie below those that are held
abbrev pub below : MachineState → ℕ
below m = machine.low m - (m.start.first - 1)

-- as many lists as states that are held
held_length : (branch : Keeping) (m : MachineState) → StandsFor branch m → length branch.lists ≡ length (history m) - below m
held_length branch m stands = stands_length branch.lists (held_states m) stands.lists ∙ length-drop (below m) (history m)

-- the last list is that of the tip
pub tip_stands : (branch : Keeping) (m : MachineState) (k : Kept) → StandsFor branch m → slice_get branch.lists (length branch.lists - 1) ≡ Some k → StandsAt k (tip m)
tip_stands branch m k stands is =
    let end = length branch.lists - 1 in
    let found = stands_at branch.lists (held_states m) end k stands.lists is in
    let some = within branch.lists end k is in
    let at : slice_get (history m) (below m + end) ≡ Some found.0 = sym (get_drop (history m) (below m) end) ∙ found.1 in
    let last : tip m ≡ found.0 = last_at (history m) (origin m.start) found.0 (below m + end) (omega (arith, some, held_length branch m stands)) at in
    subst (StandsAt k) (sym last) found.2

low_same : (branch : Keeping) (m : MachineState) → branch.profile ≡ machine.profile m → branch.first ≡ m.start.first → branch.top ≡ machine.top m → low_kept branch ≡ machine.low m
low_same branch m profile first top = rw (first, top, profile) refl

pub low_is : (branch : Keeping) (m : MachineState) → StandsFor branch m → low_kept branch ≡ machine.low m
low_is branch m stands = low_same branch m stands.profile stands.first stands.top

pub told_is : (branch : Keeping) (m : MachineState) (k : Kept) (height : ℕ) (hash : Hash256) (low top : ℕ) → StandsFor branch m → slice_get branch.lists (length branch.lists - 1) ≡ Some k → height ≡ k.height → hash ≡ k.hash → low ≡ low_kept branch → top ≡ branch.top → record { height = height; hash = hash; low = low; top = top } ≡ told m
told_is branch m k height hash low top stands is h1 h2 h3 h4 =
    let at = tip_stands branch m k stands is in
    let e1 : height ≡ (tip m).height = h1 ∙ at.height in
    let e2 : hash ≡ (tip m).hash = h2 ∙ at.hash in
    let e3 : low ≡ machine.low m = h3 ∙ low_is branch m stands in
    let e4 : top ≡ machine.top m = h4 ∙ stands.top in
    rw (e1, e2, e3, e4) refl

-- ---- a hash that is held

found_alike : (hash : Hash256) (lists : List Kept) (states : List State) → AllStand lists states → option_map (λ (k : Kept). k.height) (find (λ (k : Kept). bytes_eq k.hash.0 hash.0) lists) ≡ option_map (λ (s : State). s.height) (find (λ (s : State). bytes_eq s.hash.0 hash.0) states)
found_alike hash [] [] all = refl
found_alike hash [] (s ∷ states) all = absurd all
found_alike hash (k ∷ lists) [] all = absurd all
found_alike hash (k ∷ lists) (s ∷ states) all =
    let at : StandsAt k s = all.0 in
    let rest = found_alike hash lists states all.1 in
    let alike : bytes_eq k.hash.0 hash.0 ≡ bytes_eq s.hash.0 hash.0 = ap (λ (h : Hash256). bytes_eq h.0 hash.0) at.hash in
    ap (λ b. option_map (λ (k : Kept). k.height) (cond b (Some k) (find (λ (k : Kept). bytes_eq k.hash.0 hash.0) lists))) alike
    ∙ elim (bytes_eq s.hash.0 hash.0) as (λ b. option_map (λ (k : Kept). k.height) (cond b (Some k) (find (λ (k : Kept). bytes_eq k.hash.0 hash.0) lists)) ≡ option_map (λ (s : State). s.height) (cond b (Some s) (find (λ (s : State). bytes_eq s.hash.0 hash.0) states))) [
      | true ↦ ap (λ (n : ℕ). Some n) at.height
      | false ↦ rest
    ]

-- the height whose block has the hash
abbrev pub height_where : Hash256 → List Kept → Option ℕ
height_where hash lists = option_map (λ (k : Kept). k.height) (find (λ (k : Kept). bytes_eq k.hash.0 hash.0) lists)

pub height_is : (branch : Keeping) (m : MachineState) (hash : Hash256) → StandsFor branch m → height_where hash branch.lists ≡ machine.height_of m hash
height_is branch m hash stands = found_alike hash branch.lists (held_states m) stands.lists

-- a height that is found is held
pub where_held : (start : ℕ) (hash : Hash256) (lists : List Kept) (height : ℕ) → AreFrom start lists → height_where hash lists ≡ Some height → (start ≤ height) × (height < start + length lists)
where_held start hash [] height are is = absurd cc
where_held start hash (k ∷ lists) height are is = go (λ later. where_held (suc start) hash lists height are.1 later) (bytes_eq k.hash.0 hash.0) is
  where
    go : (height_where hash lists ≡ Some height → (suc start ≤ height) × (height < suc start + length lists)) → (b : Bool) → option_map (λ (k : Kept). k.height) (cond b (Some k) (find (λ (k : Kept). bytes_eq k.hash.0 hash.0) lists)) ≡ Some height → (start ≤ height) × (height < start + length (k ∷ lists))
    go behind true e = let same : k.height ≡ height = cc in (omega (arith, same, are.0), omega (arith, same, are.0))
    go behind false e = let rest = behind e in (omega (arith, rest.0), omega (arith, rest.1))

-- what holds of each value that is there
pub if_some : {X : Type 0} (o : Option X) (P : X → Type 0) → ((x : X) → o ≡ Some x → P x) → IfSome o P
if_some None P each = tt
if_some (Some x) P each = each x refl

-- ---- a list that is lent

pub got : {X : Type 0} → (xs : List X) (n : ℕ) (x : X) → n < length xs → x ≡ get_or xs n x → slice_get xs n ≡ Some x
got [] n x lt is = absurd (omega (arith, lt))
got (y ∷ xs) zero x lt is = ap (λ z. Some z) (sym is)
got (y ∷ xs) (suc n) x lt is = got xs n x (omega (arith, lt)) is

-- the place of a height among all states, by its place among those that are held
held_place : (height first low : ℕ) → first ≤ low → low ≤ height → low - first + (height - low) ≡ height - first
held_place height first low one two = omega (arith, one, two)

-- the state of a height that is held, among those that are held
pub state_held : (branch : Keeping) (m : MachineState) (height : ℕ) → StandsFor branch m → low_kept branch ≤ height → state_at m height ≡ slice_get (held_states m) (height - low_kept branch)
state_held branch m height stands held =
    let low = low_is branch m stands in
    let place : below m + (height - low_kept branch) ≡ height - (m.start.first - 1) =
    ap (λ (n : ℕ). below m + (height - n)) low ∙ held_place height (m.start.first - 1) (machine.low m) (omega arith) (omega (arith, low, held)) in
    ap (slice_get (history m)) (sym place) ∙ sym (get_drop (history m) (below m) (height - low_kept branch))

-- what is held of a height stands for the state of that height
pub held_stands : (branch : Keeping) (m : MachineState) (height : ℕ) (k : Kept) → StandsFor branch m → low_kept branch ≤ height → slice_get branch.lists (height - low_kept branch) ≡ Some k → StandsIn k (state_at m height)
held_stands branch m height k stands held is =
    let found = stands_at branch.lists (held_states m) (height - low_kept branch) k stands.lists is in
    let there : state_at m height ≡ Some found.0 = state_held branch m height stands held ∙ found.1 in
    rw there found.2

-- and what is held of its coinbase is that state's
pub tells_coinbase : (branch : Keeping) (m : MachineState) (height : ℕ) (proof told : Option CoinbasePart) → StandsFor branch m → low_kept branch ≤ height → slice_get branch.coinbases (height - low_kept branch) ≡ Some proof → told ≡ proof → IsToldOf coinbase_of told (state_at m height)
tells_coinbase branch m height proof told stands held is same =
    let at = height - low_kept branch in
    let mapped : option_map coinbase_of (slice_get (held_states m) at) ≡ Some proof =
    sym (slice_get-map coinbase_of (held_states m) at) ∙ ap (λ (l : List (Option CoinbasePart)). slice_get l at) (sym stands.coinbases) ∙ is in
    subst (IsToldOf coinbase_of told) (sym (state_held branch m height stands held)) (go (slice_get (held_states m) at) mapped)
  where
    go : (o : Option State) → option_map coinbase_of o ≡ Some proof → IsToldOf coinbase_of told o
    go None e = absurd cc
    go (Some state) e = let is : coinbase_of state ≡ proof = cc in same ∙ sym is

pub lent_is : (k : Kept) (lent : Lent) (found : Option State) → StandsIn k found → lent ≡ record { hash = k.hash; root = k.root; size = length k.rows; rows = k.rows } → Lends lent found
lent_is k lent None at same = absurd at
lent_is k lent (Some s) at same =
    rw same (record {
      hash = at.hash;
      root = at.root;
      size = sym (length-map k.rows (plain s.height)) ∙ ap length at.rows;
      rows = at.rows;
    })

-- ---- one list more

stands_more : (lists : List Kept) (states : List State) (k : Kept) (s : State) → AllStand lists states → StandsAt k s → AllStand (lists ++ k ∷ []) (states ++ s ∷ [])
stands_more [] [] k s all at = (at, tt)
stands_more [] (t ∷ states) k s all at = absurd all
stands_more (x ∷ lists) [] k s all at = absurd all
stands_more (x ∷ lists) (t ∷ states) k s all at = (all.0, stands_more lists states k s all.1 at)

stands_drop : (n : ℕ) (lists : List Kept) (states : List State) → AllStand lists states → AllStand (drop n lists) (drop n states)
stands_drop zero lists states all = all
stands_drop (suc n) [] [] all = tt
stands_drop (suc n) [] (s ∷ states) all = absurd all
stands_drop (suc n) (x ∷ lists) [] all = absurd all
stands_drop (suc n) (x ∷ lists) (s ∷ states) all = stands_drop n lists states all.1

-- a branch with the list that was prepared, from its own lowest height on
pub record IsAdded (old new : Keeping) (prepared : Next) : Type 0 where
  pub profile : new.profile ≡ old.profile
  pub first : new.first ≡ old.first
  pub lists : new.lists ≡ drop (low_kept new - low_kept old) (old.lists ++ prepared.kept ∷ [])
  pub coinbases : new.coinbases ≡ drop (low_kept new - low_kept old) (old.coinbases ++ prepared.coinbase ∷ [])
  pub old_mined : old.mined ≡ new.mined
  pub mined : prepared.mined ≡ new.mined
  pub top : new.top ≡ max old.top prepared.kept.height
  pub pins : new.pins ≡ old.pins

pub low_up : (first kept top more : ℕ) → max first (top - kept) ≤ max first (max top more - kept)
low_up first kept top more = omega arith

gone : (first low more : ℕ) → first ≤ low → low ≤ more → low - first + (more - low) ≡ more - first
gone first low more one two = omega (arith, one, two)

pub stands_next : (old new : Keeping) (prepared : Next) (m : MachineState) (block : BlockFrame) → IsAdded old new prepared → 0 < length old.lists → new.lists ≡ lists_in new.indexes (low_kept new) new.held → AreSound new.indexes (low_kept new) new.held → StandsFor old m → IsNext prepared m block → StandsFor new (with_block m block)
stands_next old new prepared m block added some read sound stands next =
    let n = with_block m block in
    let one = tip n ∷ [] in
    let by = low_kept new - low_kept old in
    let profile : new.profile ≡ machine.profile n = added.profile ∙ stands.profile in
    let first : new.first ≡ n.start.first = added.first ∙ stands.first in
    let top : new.top ≡ machine.top n = added.top ∙ ap (λ (t : ℕ). max t prepared.kept.height) stands.top ∙ ap (λ (t : ℕ). max (machine.top m) t) next.stands.height ∙ sym (top_more m block) in
    let low = low_is old m stands in
    let more = low_same new n profile first top in
    let up : machine.low m ≤ machine.low n = subst (λ (t : ℕ). machine.low m ≤ max (m.start.first - 1) (t - (machine.profile m).kept)) (sym (top_more m block)) (low_up (m.start.first - 1) (machine.profile m).kept (machine.top m) (tip n).height) in
    let count : below m + by ≡ below n =
    ap (λ (t : ℕ). below m + (t - low_kept old)) more ∙ ap (λ (t : ℕ). below m + (machine.low n - t)) low ∙ gone (m.start.first - 1) (machine.low m) (machine.low n) (omega arith) up in
    let states : drop by (held_states m ++ one) ≡ held_states n =
    ap (drop by) (sym (drop-append-le (below m) (history m) one (omega (arith, some, held_length old m stands))))
    ∙ drop-drop by (below m) (history m ++ one)
    ∙ ap (λ (k : ℕ). drop k (history m ++ one)) count
    ∙ ap (drop (below n)) (sym (history_next m block n next.accepted)) in
    let all : AllStand new.lists (held_states n) =
    subst (λ (l : List Kept). AllStand l (held_states n)) (sym added.lists)
    (subst (AllStand (drop by (old.lists ++ prepared.kept ∷ []))) states
    (stands_drop by (old.lists ++ prepared.kept ∷ []) (held_states m ++ one) (stands_more old.lists (held_states m) prepared.kept (tip n) stands.lists next.stands))) in
    let coinbases : new.coinbases ≡ map coinbase_of (held_states n) =
    added.coinbases
    ∙ ap (λ (l : List (Option CoinbasePart)). drop by (l ++ prepared.coinbase ∷ [])) stands.coinbases
    ∙ ap (λ (p : Option CoinbasePart). drop by (map coinbase_of (held_states m) ++ p ∷ [])) next.coinbase
    ∙ ap (drop by) (sym (map-append coinbase_of (held_states m) one))
    ∙ drop-map coinbase_of by (held_states m ++ one)
    ∙ ap (map coinbase_of) states in
    let before = subst (λ (l : List MinedAt). KeepsActive (machine.profile m) l (tip m).height (held_states m)) added.old_mined stands.quorums in
    let more = subst (λ (l : List MinedAt). KeepsActive (machine.profile m) l (tip n).height one) added.mined next.quorums in
    let quorums : KeepsActive (machine.profile n) new.mined (tip n).height (held_states n) =
    subst (KeepsActive (machine.profile m) new.mined (tip n).height) states
    (every_both (λ (p : QuorumParams) (was : GivesActive new.mined (tip m).height (held_states m) p) (is : GivesActive new.mined (tip n).height one p). gives_more new.mined (tip m).height (tip n).height by (held_states m) one p was is) (types_of (machine.profile m).quorums) before more) in
    record {
      profile = profile;
      first = first;
      lists = all;
      coinbases = coinbases;
      trees = all_trees new.indexes (low_kept new) new.held (held_states n) sound.versions (subst (λ (l : List Kept). AllStand l (held_states n)) read all);
      quorums = quorums;
      top = top;
      lawful = lawful_next m block n next.accepted stands.lawful;
      pins = added.pins ∙ stands.pins;
      numbered = stands.numbered;
    }

-- ---- one list less

stands_less : (lists : List Kept) (states : List State) (k : Kept) (s : State) → AllStand (lists ++ k ∷ []) (states ++ s ∷ []) → AllStand lists states
stands_less [] [] k s all = tt
stands_less [] (t ∷ []) k s all = absurd all.1
stands_less [] (t ∷ u ∷ states) k s all = absurd all.1
stands_less (x ∷ []) [] k s all = absurd all.1
stands_less (x ∷ y ∷ lists) [] k s all = absurd all.1
stands_less (x ∷ lists) (t ∷ states) k s all = (all.0, stands_less lists states k s all.1)

-- a branch without its last list
pub record IsLess (old new : Keeping) : Type 0 where
  pub profile : new.profile ≡ old.profile
  pub first : new.first ≡ old.first
  pub last : Kept
  pub lists : old.lists ≡ new.lists ++ last ∷ []
  pub coinbase : Option CoinbasePart
  pub coinbases : old.coinbases ≡ new.coinbases ++ coinbase ∷ []
  pub mined : new.mined ≡ old.mined
  pub top : new.top ≡ old.top
  pub pins : new.pins ≡ old.pins

front_same : {X : Type 0} → (xs ys : List X) (x y : X) → xs ++ x ∷ [] ≡ ys ++ y ∷ [] → xs ≡ ys
front_same [] [] x y is = refl
front_same [] (b ∷ []) x y is = absurd cc
front_same [] (b ∷ c ∷ ys) x y is = absurd cc
front_same (a ∷ []) [] x y is = absurd cc
front_same (a ∷ c ∷ xs) [] x y is = absurd cc
front_same (a ∷ xs) (b ∷ ys) x y is =
    let same : a ≡ b = cc in
    let rest : xs ++ x ∷ [] ≡ ys ++ y ∷ [] = cc in
    rw (same, front_same xs ys x y rest) refl

blocks_some : (m : MachineState) → IsLawful m.start (machine.branch m) → 1 < length (history m) → 0 < length (machine.branch m)
unfolding history
blocks_some m lawful some = omega (arith, lawful, some)

pub stands_back : (old new : Keeping) (m : MachineState) (hash : Hash256) → IsLess old new → 0 < length new.lists → new.lists ≡ lists_in new.indexes (low_kept new) new.held → AreSound new.indexes (low_kept new) new.held → StandsFor old m → StandsFor new (without_tip m hash)
stands_back old new m hash less some read sound stands =
    let n = without_tip m hash in
    let lists : length old.lists ≡ length new.lists + 1 = ap length less.lists ∙ length-append new.lists (less.last ∷ []) in
    let held = held_length old m stands in
    let back = taken_back m hash stands.lawful (blocks_some m stands.lawful (omega (arith, some, lists, held))) in
    let one = back.last ∷ [] in
    let count : length (history m) ≡ length (history n) + 1 = ap length back.states ∙ length-append (history n) one in
    let top : new.top ≡ machine.top n = less.top ∙ stands.top ∙ sym back.top in
    let same : below n ≡ below m = ap (λ (t : ℕ). max (m.start.first - 1) (t - (machine.profile m).kept) - (m.start.first - 1)) back.top in
    let states : held_states m ≡ held_states n ++ one =
    ap (drop (below m)) back.states
    ∙ drop-append-le (below m) (history n) one (omega (arith, some, lists, held, count))
    ∙ ap (λ (k : ℕ). drop k (history n) ++ one) (sym same) in
    let both : AllStand (new.lists ++ less.last ∷ []) (held_states n ++ one) =
    subst (AllStand (new.lists ++ less.last ∷ [])) states (subst (λ (l : List Kept). AllStand l (held_states m)) less.lists stands.lists) in
    let all : AllStand new.lists (held_states n) = stands_less new.lists (held_states n) less.last back.last both in
    let coinbases : new.coinbases ++ less.coinbase ∷ [] ≡ map coinbase_of (held_states n) ++ coinbase_of back.last ∷ [] =
    sym less.coinbases ∙ stands.coinbases ∙ ap (map coinbase_of) states ∙ map-append coinbase_of (held_states n) one in
    let lower : (tip n).height ≤ (tip m).height = omega (arith, (tip_at n).height, (tip_at m).height, count) in
    let before = subst (λ (l : List MinedAt). KeepsActive (machine.profile m) l (tip m).height (held_states n ++ one)) (sym less.mined) (subst (KeepsActive (machine.profile m) old.mined (tip m).height) states stands.quorums) in
    record {
      profile = less.profile ∙ stands.profile;
      first = less.first ∙ stands.first;
      lists = all;
      coinbases = front_same new.coinbases (map coinbase_of (held_states n)) less.coinbase (coinbase_of back.last) coinbases;
      trees = all_trees new.indexes (low_kept new) new.held (held_states n) sound.versions (subst (λ (l : List Kept). AllStand l (held_states n)) read all);
      quorums = every_then (λ (p : QuorumParams) (was : GivesActive new.mined (tip m).height (held_states n ++ one) p). gives_less new.mined (tip n).height (tip m).height (held_states n) one p lower was) (types_of (machine.profile m).quorums) before;
      top = top;
      lawful = back.lawful;
      pins = less.pins ∙ stands.pins;
      numbered = stands.numbered;
    }

-- ---- heights

pub from_at : (height : ℕ) (lists : List Kept) (n : ℕ) (k : Kept) → AreFrom height lists → slice_get lists n ≡ Some k → k.height ≡ height + n
from_at height [] n k are is = absurd cc
from_at height (x ∷ lists) zero k are is = let same : x ≡ k = cc in ap (λ (y : Kept). y.height) (sym same) ∙ are.0 ∙ omega arith
from_at height (x ∷ lists) (suc n) k are is = from_at (suc height) lists n k are.1 is ∙ omega arith

pub last_height : (low : ℕ) (lists : List Kept) (k : Kept) → AreFrom low lists → slice_get lists (length lists - 1) ≡ Some k → k.height + 1 ≡ low + length lists
last_height low lists k are is =
    let some = within lists (length lists - 1) k is in
    let at = from_at low lists (length lists - 1) k are is in
    omega (arith, some, at)

-- the height of the tip
pub tip_height : (branch : Keeping) (m : MachineState) → IsKept branch.profile branch.first branch.top branch.lists → StandsFor branch m → tip_kept branch ≡ (tip m).height
tip_height branch m kept stands =
    let last = there branch.lists (length branch.lists - 1) (omega (arith, kept.some)) in
    omega (arith, kept.some, last_height (low_kept branch) branch.lists last.0 kept.heights last.1, (tip_stands branch m last.0 stands last.1).height)
  where
    there : (lists : List Kept) (n : ℕ) → n < length lists → (k : Kept) × (slice_get lists n ≡ Some k)
    there [] n lt = absurd (omega (arith, lt))
    there (k ∷ lists) zero lt = (k, refl)
    there (k ∷ lists) (suc n) lt = there lists n (omega (arith, lt))

-- the commitments give the active quorums of the tip
pub tip_gives : (branch : Keeping) (m : MachineState) → IsKept branch.profile branch.first branch.top branch.lists → StandsFor branch m → KeepsActive (machine.profile m) branch.mined (tip m).height (tip m ∷ [])
tip_gives branch m kept stands =
    let low : low_kept branch ≤ (tip m).height = omega (arith, kept.some, tip_height branch m kept stands) in
    let place = (tip m).height - low_kept branch in
    let there : slice_get (held_states m) place ≡ Some (tip m) = sym (state_held branch m (tip m).height stands low) ∙ state_of_tip m in
    every_then (λ (p : QuorumParams) (gives : GivesActive branch.mined (tip m).height (held_states m) p). record {
      ordered = gives.ordered;
      active = (every_at (λ (s : State). active_at branch.mined p s.height ≡ active_at s.mined p s.height) (held_states m) place (tip m) gives.active there, tt);
    }) (types_of (machine.profile m).quorums) stands.quorums

-- what is held is of states at or below the last height
pub states_below : (height top : ℕ) (lists : List Kept) (states : List State) → AllStand lists states → AreFrom height lists → height + length lists ≤ top + 1 → StatesTo top states
states_below height top [] [] all are few = tt
states_below height top [] (s ∷ states) all are few = absurd all
states_below height top (k ∷ lists) [] all are few = absurd all
states_below height top (k ∷ lists) (s ∷ states) all are few =
    let at : StandsAt k s = all.0 in
    (omega (arith, at.height, are.0, few), states_below (suc height) top lists states all.1 are.1 (omega (arith, few)))

from_more : (height : ℕ) (lists : List Kept) (k : Kept) → AreFrom height lists → k.height ≡ height + length lists → AreFrom height (lists ++ k ∷ [])
from_more height [] k are is = (is ∙ omega arith, tt)
from_more height (x ∷ lists) k are is = (are.0, from_more (suc height) lists k are.1 (is ∙ omega arith))

from_drop : (n height : ℕ) (lists : List Kept) → n ≤ length lists → AreFrom height lists → AreFrom (height + n) (drop n lists)
from_drop zero height lists few are =
    let same : height ≡ height + zero = omega arith in
    subst (λ (h : ℕ). AreFrom h lists) same are
from_drop (suc n) height [] few are = absurd (omega (arith, few))
from_drop (suc n) height (x ∷ lists) few are =
    let same : suc height + n ≡ height + suc n = omega arith in
    subst (λ (h : ℕ). AreFrom h (drop n lists)) same (from_drop n (suc height) lists (omega (arith, few)) are.1)

from_less : (height : ℕ) (lists : List Kept) (k : Kept) → AreFrom height (lists ++ k ∷ []) → AreFrom height lists
from_less height [] k are = tt
from_less height (x ∷ lists) k are = (are.0, from_less (suc height) lists k are.1)

-- the lowest height that is held rises by one at most
low_next : (first kept top height : ℕ) → height ≤ top + 1 → max first (max top height - kept) ≤ max first (top - kept) + 1
low_next first kept top height next = omega (arith, next)

-- the lowest height behind the next block
pub next_low : (profile : Profile) (first top height : ℕ) (lists : List Kept) → IsKept profile first top lists → height ≡ low_of profile first top + length lists → low_of profile first (max top height) ≤ low_of profile first top + 1
next_low profile first top height lists kept is = low_next (first - 1) profile.kept top height (omega (arith, kept.tip, is))

tip_next : (low more count top height : ℕ) → low ≤ more → more ≤ low + 1 → 0 < count → height ≡ low + count → more + (count + 1 - (more - low)) ≤ max top height + 1
tip_next low more count top height up next some is = omega (arith, up, next, some, is)

reach_next : (low more count top height depth : ℕ) → low ≤ more → more ≤ low + 1 → height ≡ low + count → top + 1 ≤ low + count + depth → max top height + 1 ≤ more + (count + 1 - (more - low)) + depth
reach_next low more count top height depth up next is reach = omega (arith, up, next, is, reach)

-- what a branch keeps with the list that was prepared
pub kept_more : (profile : Profile) (first top : ℕ) (lists : List Kept) (k : Kept) → IsKept profile first top lists → k.height ≡ low_of profile first top + length lists → IsKept profile first (max top k.height) (drop (low_of profile first (max top k.height) - low_of profile first top) (lists ++ k ∷ []))
kept_more profile first top lists k kept next = go (low_of profile first top) (low_of profile first (max top k.height)) refl refl (low_up (first - 1) profile.kept top k.height) (next_low profile first top k.height lists kept next)
  where
    go : (low more : ℕ) → low ≡ low_of profile first top → more ≡ low_of profile first (max top k.height) → low ≤ more → more ≤ low + 1 → IsKept profile first (max top k.height) (drop (more - low) (lists ++ k ∷ []))
    go low more one two up by =
        let is : k.height ≡ low + length lists = next ∙ ap (λ (n : ℕ). n + length lists) (sym one) in
        let all = from_more low lists k (subst (λ (n : ℕ). AreFrom n lists) (sym one) kept.heights) is in
        let sum = length-append lists (k ∷ []) in
        let few : more - low ≤ length (lists ++ k ∷ []) = omega (arith, up, by, sum) in
        let count : length (drop (more - low) (lists ++ k ∷ [])) ≡ length lists + 1 - (more - low) = length-drop (more - low) (lists ++ k ∷ []) ∙ ap (λ (n : ℕ). n - (more - low)) sum in
        let from : low + (more - low) ≡ more = omega (arith, up) in
        record {
          begins = kept.begins;
          some = omega (arith, count, by, kept.some);
          heights = subst (λ (n : ℕ). AreFrom n (drop (more - low) (lists ++ k ∷ []))) (from ∙ two) (from_drop (more - low) low (lists ++ k ∷ []) few all);
          tip = subst (λ (n : ℕ). n + length (drop (more - low) (lists ++ k ∷ [])) ≤ max top k.height + 1) two
              (subst (λ (n : ℕ). more + n ≤ max top k.height + 1) (sym count) (tip_next low more (length lists) top k.height up by kept.some is));
          reach = subst (λ (n : ℕ). max top k.height + 1 ≤ n + length (drop (more - low) (lists ++ k ∷ [])) + profile.depth) two
              (subst (λ (n : ℕ). max top k.height + 1 ≤ more + n + profile.depth) (sym count) (reach_next low more (length lists) top k.height profile.depth up by is (subst (λ (n : ℕ). top + 1 ≤ n + length lists + profile.depth) (sym one) kept.reach)));
          deep = kept.deep;
          bases = kept.bases;
        }

-- what a branch keeps without its last list, where the tip was above the floor
pub kept_less : (profile : Profile) (first top : ℕ) (lists : List Kept) (k : Kept) → IsKept profile first top (lists ++ k ∷ []) → 0 < length lists → max (first - 1) (top - profile.depth) < low_of profile first top + length lists → IsKept profile first top lists
kept_less profile first top lists k kept some above = record {
  begins = kept.begins;
  some = some;
  heights = from_less (low_of profile first top) lists k kept.heights;
  tip = omega (arith, kept.tip, length-append lists (k ∷ []));
  reach = omega (arith, above);
  deep = kept.deep;
  bases = kept.bases;
}

-- where the tip is above the floor, more than one height is held
more_held : (first kept depth top count : ℕ) → depth ≤ kept → max first (top - depth) < max first (top - kept) + count - 1 → 1 < count
more_held first kept depth top count deep above = omega (arith, deep, above)

pub some_left : (branch : Keeping) → IsKept branch.profile branch.first branch.top branch.lists → IsAboveFloor branch → 1 < length branch.lists
some_left branch kept above = more_held (branch.first - 1) branch.profile.kept branch.profile.depth branch.top (length branch.lists) kept.deep above.above

-- ---- whether the tip may be taken back

pub not_tip : (m : MachineState) (hash tip : Hash256) → tip ≡ (machine.tip m).hash → bytes_eq tip.0 hash.0 ≡ false → machine.disconnect m hash ≡ Err (NotTip tip)
unfolding disconnect
not_tip m hash tip is other =
    let e : bytes_eq (machine.tip m).hash.0 hash.0 ≡ false = ap (λ (h : Hash256). bytes_eq h.0 hash.0) (sym is) ∙ other in
    rw (e, is) refl

pub at_start : (m : MachineState) (hash : Hash256) → bytes_eq (machine.tip m).hash.0 hash.0 ≡ true → (machine.tip m).height ≡ m.start.first - 1 → machine.disconnect m hash ≡ Err AtStart
unfolding disconnect
at_start m hash same start =
    let e = eq-eqb (machine.tip m).height (m.start.first - 1) start in
    rw (same, e) refl

pub too_deep : (m : MachineState) (hash : Hash256) → bytes_eq (machine.tip m).hash.0 hash.0 ≡ true → m.start.first - 1 < (machine.tip m).height → (machine.tip m).height ≤ machine.top m - (machine.profile m).depth → machine.disconnect m hash ≡ Err (TooDeep (machine.floor m))
unfolding disconnect
too_deep m hash same some deep =
    let e = ne_eqb (machine.tip m).height (m.start.first - 1) (λ (is : (machine.tip m).height ≡ m.start.first - 1). omega (arith, is, some)) in
    let d = le-leb (machine.tip m).height (machine.top m - (machine.profile m).depth) deep in
    rw (same, e, d) refl

pub is_taken : (m : MachineState) (hash : Hash256) → bytes_eq (machine.tip m).hash.0 hash.0 ≡ true → machine.floor m < (machine.tip m).height → machine.disconnect m hash ≡ Ok (without_tip m hash)
unfolding disconnect
is_taken m hash same above =
    let e = ne_eqb (machine.tip m).height (m.start.first - 1) (λ (is : (machine.tip m).height ≡ m.start.first - 1). omega (arith, is, above)) in
    let d = lt-leb (machine.tip m).height (machine.top m - (machine.profile m).depth) (omega (arith, above)) in
    rw (same, e, d) refl
