-- Versions that are held, where the arenas change around them.
use Rattle.std.proofs.Common.{◌≡◌, ℕ, zero, suc, ◌+◌, ◌-◌, ◌<◌, ◌≤◌, List, [], ◌∷◌, ◌++◌, length, length-append, take, drop, get_or, map, find, Bool, true, false, cond, Option, None, Some, refl, sym, ap, ◌∙◌, subst, arith, ◌⊎◌, inl, inr}
use Rattle.std.specs.Prelude.{nat_lt, slice_get, Result, Ok, Err, OnErr, OnOk}
use Rattle.std.specs.Result.{is_err}
use Rattle.std.specs.Option.{option_map, unwrap_or}
use Rattle.std.specs.Str.{bytes_eq}
use Rattle.std.specs.List.{All, position, position_or_len}
use Rattle.std.proofs.lemmas.Bool.{cases_Bool, le-ltb, lt-ltb, ltb-false, ltb-true}
use Rattle.std.proofs.lemmas.List.{length-drop, map-append, get_or-drop, get_or_append_left, get_or_push}
use Rattle.std.proofs.lemmas.List.Elements.{All-drop, All-push}
use Rattle.dmn_bytes.specs.declared.hash.Hash256.{Hash256}
use Rattle.dmn_rows.specs.Rows.{Outputs, plain_rows}
use Rattle.dmn_rows.specs.declared.row.MnRow.{MnRow}
use Rattle.dmn_indexes.specs.declared.indexes.Indexes.{Indexes}
use Rattle.dmn_indexes.specs.Marks.{IsBelow, KeepsBelow, marks_of}
use Rattle.dmn_indexes.specs.Version.{Stays, Keeps, outputs_in}
use Rattle.dmn_indexes.specs.Version as versions
use Rattle.dmn_indexes.specs.Stands as trees
use Rattle.dmn_indexes.proofs.Plain.{whole_stands}
use Rattle.dmn_indexes.specs.Working.{Worked, worked, listing}
use Rattle.dmn_indexes.proofs.Cutting.{whole_below}
use Rattle.dmn_branch.specs.declared.held.Held.{Held}
use Rattle.dmn_block.specs.State.{State}
use Rattle.dmn_branch.proofs.Replaying.{split, without_last}
use Rattle.dmn_held.specs.declared.coinbase.CoinbasePart.{CoinbasePart}
use Rattle.dmn_branch.specs.declared.held.HeightVersion.{HeightVersion}
use Rattle.dmn_branch.specs.Items.{held_of}
use Rattle.dmn_branch.specs.Stands.{Kept, AllStand, AllTreesStand, AreFrom, AreSound, IsWhole, StandsAt, kept_at, kept_in, kept_of, lists_in}

-- ---- lists of heights that follow each other

pub lists_length : (ix : Indexes) (low : ℕ) (held : List Held) → length (lists_in ix low held) ≡ length held
lists_length ix low [] = refl
lists_length ix low (h ∷ held) = omega (arith, lists_length ix (suc low) held)

-- they are of these heights
pub lists_are_from : (ix : Indexes) (low : ℕ) (held : List Held) → AreFrom low (lists_in ix low held)
lists_are_from ix low [] = tt
lists_are_from ix low (h ∷ held) = (refl, lists_are_from ix (suc low) held)

pub lists_get : (ix : Indexes) (low : ℕ) (held : List Held) (n : ℕ) (h : Held) → slice_get held n ≡ Some h → slice_get (lists_in ix low held) n ≡ Some (kept_in ix (low + n) h)
lists_get ix low [] n h some = absurd cc
lists_get ix low (x ∷ held) zero h some =
    let same : x ≡ h = cc in
    let here : low ≡ low + zero = omega arith in
    ap (λ (y : Held). Some (kept_in ix low y)) same ∙ ap (λ (m : ℕ). Some (kept_in ix m h)) here
lists_get ix low (x ∷ held) (suc n) h some =
    let next : suc low + n ≡ low + suc n = omega arith in
    lists_get ix (suc low) held n h some ∙ ap (λ (m : ℕ). Some (kept_in ix m h)) next

pub lists_push : (ix : Indexes) (low : ℕ) (held : List Held) (next : Held) → lists_in ix low (held ++ next ∷ []) ≡ lists_in ix low held ++ kept_in ix (low + length held) next ∷ []
lists_push ix low [] next =
    let here : low ≡ low + zero = omega arith in
    ap (λ (m : ℕ). kept_in ix m next ∷ []) here
lists_push ix low (h ∷ held) next =
    let up : suc low + length held ≡ low + suc (length held) = omega arith in
    ap (λ (l : List Kept). kept_in ix low h ∷ l) (lists_push ix (suc low) held next ∙ ap (λ (m : ℕ). lists_in ix (suc low) held ++ kept_in ix m next ∷ []) up)

pub lists_drop : (ix : Indexes) (low n : ℕ) (held : List Held) → lists_in ix (low + n) (drop n held) ≡ drop n (lists_in ix low held)
lists_drop ix low zero held =
    let here : low + zero ≡ low = omega arith in
    ap (λ (m : ℕ). lists_in ix m held) here
lists_drop ix low (suc n) [] = refl
lists_drop ix low (suc n) (h ∷ held) =
    let next : low + suc n ≡ suc low + n = omega arith in
    ap (λ (m : ℕ). lists_in ix m (drop n held)) next ∙ lists_drop ix (suc low) n held

kept_same : {ix iy : Indexes} (height : ℕ) (h : Held) → Stays ix iy h.version → kept_in iy height h ≡ kept_in ix height h
kept_same {ix} {iy} height h stays =
    ap (λ (rows : List MnRow). record { height = height; hash = h.hash; root = h.root; rows = rows; outputs = outputs_in iy h.version }) stays.rows
    ∙ ap (λ (outputs : Outputs). record { height = height; hash = h.hash; root = h.root; rows = versions.rows_in ix h.version; outputs = outputs }) stays.outputs

lists_same : {ix iy : Indexes} (low : ℕ) (held : List Held) → All (λ (h : Held). Stays ix iy h.version) held → lists_in iy low held ≡ lists_in ix low held
lists_same low [] all = refl
lists_same {ix} {iy} low (h ∷ held) all =
    ap (λ (k : Kept). k ∷ lists_in iy (suc low) held) (kept_same low h (all 0 h (omega arith)))
    ∙ ap (λ (l : List Kept). kept_in ix low h ∷ l) (lists_same (suc low) held (λ k d lt. all (suc k) d (omega (arith, lt))))

-- ---- what is held, in other arenas

pub record Held_on (ix iy : Indexes) (low : ℕ) (held : List Held) : Type 0 where
  pub sound : AreSound iy low held
  pub same : lists_in iy low held ≡ lists_in ix low held

stays_on : {ix iy : Indexes} (low : ℕ) (held : List Held) → All (λ (h : Held). Stays ix iy h.version) held → AreSound ix low held → Held_on ix iy low held
stays_on low held all s = record {
  sound = record {
    versions = λ k d lt. (all k d lt).whole;
    below = s.below;
    wholes = subst (All IsWhole) (sym (lists_same low held all)) s.wholes;
  };
  same = lists_same low held all;
}

pub keeps_on : {ix iy : Indexes} (low : ℕ) (held : List Held) → Keeps ix iy → AreSound ix low held → Held_on ix iy low held
keeps_on low held keeps s = stays_on low held (λ k d lt. keeps (get_or held k d).version (s.versions k d lt)) s

pub last_is : (held : List Held) (n : ℕ) (h d : Held) → slice_get held n ≡ Some h → get_or held n d ≡ h
last_is [] n h d some = cc
last_is (x ∷ held) zero h d some = ap (λ (o : Option Held). unwrap_or o h) some
last_is (x ∷ held) (suc n) h d some = last_is held n h d some

-- the arenas are cut back to the marks of the last height
pub cut_on : {ix iy : Indexes} (low : ℕ) (held : List Held) (last : Held) → slice_get held (length held - 1) ≡ Some last → KeepsBelow last.marks ix iy → AreSound ix low held → Held_on ix iy low held
cut_on low held last some keeps s =
    stays_on low held (λ k d lt. keeps (get_or held k d).version (s.versions k d lt)
    (subst (λ (h : Held). IsBelow h.marks (get_or held k d).version) (last_is held (length held - 1) last d some) (s.below k (length held - 1) d (omega (arith, lt)) (omega (arith, lt))))) s

le_cases : (a n : ℕ) → a < n + 1 → (a < n) ⊎ (a ≡ n)
le_cases a n lt = grind arith

-- one more version
pub push_on : {ix : Indexes} (low : ℕ) (held : List Held) (next : Held) → versions.IsWhole ix next.version → next.marks ≡ marks_of ix → IsWhole (kept_in ix (low + length held) next) → AreSound ix low held → AreSound ix low (held ++ next ∷ [])
push_on {ix} low held next whole marks kept s = record {
  versions = All-push (λ h. versions.IsWhole ix h.version) held next s.versions whole;
  below = λ i j d le lt. at i j d le (le_cases j (length held) (omega (arith, lt, length-append held (next ∷ []))));
  wholes = subst (All IsWhole) (sym (lists_push ix low held next)) (All-push IsWhole (lists_in ix low held) (kept_in ix (low + length held) next) s.wholes kept);
}
  where
    all : List Held
    all = held ++ next ∷ []

    here : (i : ℕ) (d : Held) → i < length held → get_or (held ++ next ∷ []) i d ≡ get_or held i d
    here i d lt = get_or_append_left held (next ∷ []) d i lt

    end : (i : ℕ) (d : Held) → i ≡ length held → get_or (held ++ next ∷ []) i d ≡ next
    end i d is = get_or_push held next d i (sym is)

    under : (i : ℕ) (d : Held) → (i < length held) ⊎ (i ≡ length held) → IsBelow next.marks (get_or (held ++ next ∷ []) i d).version
    under i d (inl lt) = rw (here i d lt, marks) (whole_below ix (get_or held i d).version (s.versions i d lt))
    under i d (inr is) = rw (end i d is, marks) (whole_below ix next.version whole)

    at : (i j : ℕ) (d : Held) → i ≤ j → (j < length held) ⊎ (j ≡ length held) → IsBelow (get_or (held ++ next ∷ []) j d).marks (get_or (held ++ next ∷ []) i d).version
    at i j d le (inl lt) = rw (here j d lt, here i d (omega (arith, le, lt))) (s.below i j d le lt)
    at i j d le (inr is) = rw (end j d is) (under i d (le_cases i (length held) (omega (arith, le, is))))

-- the versions from a later one on
pub drop_on : {ix : Indexes} (low n : ℕ) (held : List Held) → AreSound ix low held → AreSound ix (low + n) (drop n held)
drop_on {ix} low n held s = record {
  versions = λ k d lt. subst (λ (h : Held). versions.IsWhole ix h.version) (sym (get_or-drop n held k d)) (s.versions (n + k) d (inside k lt));
  below = λ i j d le lt. rw (get_or-drop n held i d, get_or-drop n held j d) (s.below (n + i) (n + j) d (omega (arith, le)) (inside j lt));
  wholes = subst (All IsWhole) (sym (lists_drop ix low n held)) (All-drop IsWhole n (lists_in ix low held) s.wholes);
}
  where
    inside : (k : ℕ) → k < length (drop n held) → n + k < length held
    inside k lt = omega (arith, lt, length-drop n held)

-- the lists from a later height on, with one more at the end
pub lists_from : (ix : Indexes) (low n : ℕ) (held : List Held) (next : Held) → lists_in ix (low + n) (drop n (held ++ next ∷ [])) ≡ drop n (lists_in ix low held ++ kept_in ix (low + length held) next ∷ [])
lists_from ix low n held next = lists_drop ix low n (held ++ next ∷ []) ∙ ap (drop n) (lists_push ix low held next)

-- the versions without the last one
pub less_on : {ix : Indexes} (low : ℕ) (held : List Held) (last : Held) → AreSound ix low (held ++ last ∷ []) → AreSound ix low held
less_on {ix} low held last s = record {
  versions = λ k d lt. subst (λ (h : Held). versions.IsWhole ix h.version) (here k d lt) (s.versions k d (inside k lt));
  below = λ i j d le lt.
      subst (λ (h : Held). IsBelow h.marks (get_or held i d).version) (here j d lt)
      (subst (λ (h : Held). IsBelow (get_or (held ++ last ∷ []) j d).marks h.version) (here i d (omega (arith, le, lt))) (s.below i j d le (inside j lt)));
  wholes = λ k d lt. subst IsWhole (front k d lt) (subst (All IsWhole) (lists_push ix low held last) s.wholes k d (omega (arith, lt, length-append (lists_in ix low held) (kept_in ix (low + length held) last ∷ []))));
}
  where
    here : (k : ℕ) (d : Held) → k < length held → get_or (held ++ last ∷ []) k d ≡ get_or held k d
    here k d lt = get_or_append_left held (last ∷ []) d k lt

    inside : (k : ℕ) → k < length held → k < length (held ++ last ∷ [])
    inside k lt = omega (arith, lt, length-append held (last ∷ []))

    front : (k : ℕ) (d : Kept) → k < length (lists_in ix low held) → get_or (lists_in ix low held ++ kept_in ix (low + length held) last ∷ []) k d ≡ get_or (lists_in ix low held) k d
    front k d lt = get_or_append_left (lists_in ix low held) (kept_in ix (low + length held) last ∷ []) d k lt

-- ---- places

place_here : {X : Type 0} (p : X → Bool) (x : X) (xs : List X) → p x ≡ true → position p (x ∷ xs) ≡ Some 0
place_here p x xs here =
    let at : position_or_len p (x ∷ xs) ≡ 0 = rw here refl in
    let inside : nat_lt 0 (suc (length xs)) ≡ true = lt-ltb 0 (suc (length xs)) (omega arith) in
    ap (λ (k : ℕ). cond (nat_lt k (suc (length xs))) (Some k) None) at ∙ ap (λ b. cond b (Some 0) None) inside

place_next : {X : Type 0} (p : X → Bool) (x : X) (xs : List X) → p x ≡ false → position p (x ∷ xs) ≡ option_map suc (position p xs)
place_next p x xs other = ap (λ (k : ℕ). cond (nat_lt k (suc (length xs))) (Some k) None) at ∙ go (cases_Bool (nat_lt (position_or_len p xs) (length xs)))
  where
    at : position_or_len p (x ∷ xs) ≡ suc (position_or_len p xs)
    at = rw other (omega arith)

    go : (nat_lt (position_or_len p xs) (length xs) ≡ true) ⊎ (nat_lt (position_or_len p xs) (length xs) ≡ false) → cond (nat_lt (suc (position_or_len p xs)) (suc (length xs))) (Some (suc (position_or_len p xs))) None ≡ option_map suc (cond (nat_lt (position_or_len p xs) (length xs)) (Some (position_or_len p xs)) None)
    go (inl below) =
        let also : nat_lt (suc (position_or_len p xs)) (suc (length xs)) ≡ true = lt-ltb _ _ (omega (arith, ltb-true (position_or_len p xs) (length xs) below)) in
        rw (below, also) refl
    go (inr above) =
        let also : nat_lt (suc (position_or_len p xs)) (suc (length xs)) ≡ false = le-ltb _ _ (omega (arith, ltb-false (position_or_len p xs) (length xs) above)) in
        rw (above, also) refl

pub place_inside : {X : Type 0} (p : X → Bool) (xs : List X) (n : ℕ) → position p xs ≡ Some n → n < length xs
place_inside p xs n is = go (cases_Bool (nat_lt (position_or_len p xs) (length xs)))
  where
    go : (nat_lt (position_or_len p xs) (length xs) ≡ true) ⊎ (nat_lt (position_or_len p xs) (length xs) ≡ false) → n < length xs
    go (inl below) =
        let there : Some (position_or_len p xs) ≡ Some n = sym (ap (λ b. cond b (Some (position_or_len p xs)) None) below) ∙ is in
        let same : position_or_len p xs ≡ n = cc in
        omega (arith, same, ltb-true (position_or_len p xs) (length xs) below)
    go (inr above) = let none : None ≡ Some n = sym (ap (λ b. cond b (Some (position_or_len p xs)) None) above) ∙ is in absurd cc

shifted : (low : ℕ) (o : Option ℕ) → option_map (λ (n : ℕ). low + n) (option_map suc o) ≡ option_map (λ (n : ℕ). suc low + n) o
shifted low None = refl
shifted low (Some n) =
    let same : low + suc n ≡ suc low + n = omega arith in
    ap (λ (m : ℕ). Some m) same

-- the height of a hash, by its place among what is held
pub found_held : (ix : Indexes) (low : ℕ) (hash : Hash256) (held : List Held) → option_map (λ (n : ℕ). low + n) (position (λ (h : Held). bytes_eq h.hash.0 hash.0) held) ≡ option_map (λ (k : Kept). k.height) (find (λ (k : Kept). bytes_eq k.hash.0 hash.0) (lists_in ix low held))
found_held ix low hash [] = refl
found_held ix low hash (h ∷ held) = go (bytes_eq h.hash.0 hash.0) refl (found_held ix (suc low) hash held)
  where
    go : (b : Bool) → bytes_eq h.hash.0 hash.0 ≡ b → option_map (λ (n : ℕ). suc low + n) (position (λ (h : Held). bytes_eq h.hash.0 hash.0) held) ≡ option_map (λ (k : Kept). k.height) (find (λ (k : Kept). bytes_eq k.hash.0 hash.0) (lists_in ix (suc low) held))
        → option_map (λ (n : ℕ). low + n) (position (λ (h : Held). bytes_eq h.hash.0 hash.0) (h ∷ held)) ≡ option_map (λ (k : Kept). k.height) (find (λ (k : Kept). bytes_eq k.hash.0 hash.0) (lists_in ix low (h ∷ held)))
    go true e rest =
        let zero_more : low + 0 ≡ low = omega arith in
        ap (option_map (λ (n : ℕ). low + n)) (place_here (λ (h : Held). bytes_eq h.hash.0 hash.0) h held e)
        ∙ ap (λ (n : ℕ). Some n) zero_more
        ∙ sym (ap (λ b. option_map (λ (k : Kept). k.height) (cond b (Some (kept_in ix low h)) (find (λ (k : Kept). bytes_eq k.hash.0 hash.0) (lists_in ix (suc low) held)))) e)
    go false e rest =
        ap (option_map (λ (n : ℕ). low + n)) (place_next (λ (h : Held). bytes_eq h.hash.0 hash.0) h held e)
        ∙ shifted low (position (λ (h : Held). bytes_eq h.hash.0 hash.0) held)
        ∙ rest
        ∙ sym (ap (λ b. option_map (λ (k : Kept). k.height) (cond b (Some (kept_in ix low h)) (find (λ (k : Kept). bytes_eq k.hash.0 hash.0) (lists_in ix (suc low) held)))) e)

-- ---- the trees of a height, by what is kept of it

trees_at : (ix : Indexes) (height : ℕ) (h : Held) (s : State) → versions.IsWhole ix h.version → StandsAt (kept_in ix height h) s → trees.StandsAt ix h.version s.height s.rows s.outputs
trees_at ix height h s whole at =
    let penalties : All (λ (row : MnRow). row.penalty_at ≤ s.height) (versions.rows_in ix h.version) = λ k d lt. omega (arith, at.height, at.whole.penalties k d lt) in
    subst (λ (rows : List MnRow). trees.StandsAt ix h.version s.height rows s.outputs) at.rows
    (subst (λ (outputs : Outputs). trees.StandsAt ix h.version s.height (plain_rows s.height (versions.rows_in ix h.version)) outputs) at.outputs (whole_stands ix h.version s.height whole penalties))

pub all_trees : (ix : Indexes) (low : ℕ) (held : List Held) (states : List State) → All (λ h. versions.IsWhole ix h.version) held → AllStand (lists_in ix low held) states → AllTreesStand ix held states
all_trees ix low [] [] whole all = tt
all_trees ix low [] (s ∷ states) whole all = absurd all
all_trees ix low (h ∷ held) [] whole all = absurd all
all_trees ix low (h ∷ held) (s ∷ states) whole all =
    (trees_at ix low h s (whole 0 h (omega arith)) all.0, all_trees ix (suc low) held states (λ k d lt. whole (suc k) d (omega (arith, lt))) all.1)

pub sound_none : (ix : Indexes) (low : ℕ) → AreSound ix low []
sound_none ix low = record {
  versions = λ k d lt. absurd (omega (arith, lt));
  below = λ i j d le lt. absurd (omega (arith, lt));
  wholes = λ k d lt. absurd (omega (arith, lt));
}

-- what is kept of a height that a step made
pub held_kept : (ix : Indexes) (v : HeightVersion) (part : Option CoinbasePart) (height : ℕ) (h : Held) → h ≡ held_of v part → v.height ≡ height → kept_at ix v ≡ kept_in ix height h
held_kept ix v part height h is at =
    ap (λ (n : ℕ). record { height = n; hash = v.hash; root = v.root; rows = versions.rows_in ix v.version; outputs = outputs_in ix v.version }) at ∙ sym (ap (kept_in ix height) is)

-- what is read from a version that events made
pub kept_listing : (ix : Indexes) (h : HeightVersion) (w : Worked) → ix ≡ w.indexes → h.version ≡ w.version → w ≡ worked w.indexes w.version w.events w.entries_changed → kept_at ix h ≡ kept_of h.height h.hash h.root (listing w)
kept_listing ix h w one two reads =
    let rows : versions.rows_in ix h.version ≡ w.rows = ap (λ (i : Indexes). versions.rows_in i h.version) one ∙ ap (versions.rows_in w.indexes) two ∙ sym (ap (λ (s : Worked). s.rows) reads) in
    let outputs : outputs_in ix h.version ≡ w.outputs = ap (λ (i : Indexes). outputs_in i h.version) one ∙ ap (outputs_in w.indexes) two ∙ sym (ap (λ (s : Worked). s.outputs) reads) in
    ap (λ (l : List MnRow). record { height = h.height; hash = h.hash; root = h.root; rows = l; outputs = outputs_in ix h.version }) rows
    ∙ ap (λ (l : Outputs). record { height = h.height; hash = h.hash; root = h.root; rows = w.rows; outputs = l }) outputs

within : (held : List Held) (n : ℕ) (h : Held) → slice_get held n ≡ Some h → n < length held
within [] n h some = cc
within (x ∷ held) zero h some = omega arith
within (x ∷ held) (suc n) h some = omega (arith, within held n h some)

-- the one at a place is whole, and its version is below its own marks
pub version_whole : {ix : Indexes} (low : ℕ) (held : List Held) (n : ℕ) (h : Held) → AreSound ix low held → slice_get held n ≡ Some h → versions.IsWhole ix h.version
version_whole {ix} low held n h s some = subst (λ (x : Held). versions.IsWhole ix x.version) (last_is held n h h some) (s.versions n h (within held n h some))

pub version_below : {ix : Indexes} (low : ℕ) (held : List Held) (n : ℕ) (h : Held) → AreSound ix low held → slice_get held n ≡ Some h → IsBelow h.marks h.version
version_below low held n h s some = subst (λ (x : Held). IsBelow x.marks x.version) (last_is held n h h some) (s.below n n h (omega arith) (within held n h some))

kept_is : (lists : List Kept) (n : ℕ) (k : Kept) → All IsWhole lists → slice_get lists n ≡ Some k → IsWhole k
kept_is [] n k all some = absurd cc
kept_is (x ∷ lists) zero k all some = let same : x ≡ k = cc in subst IsWhole same (all 0 k (omega arith))
kept_is (x ∷ lists) (suc n) k all some = kept_is lists n k (λ m d lt. all (suc m) d (omega (arith, lt))) some

pub list_whole : {ix : Indexes} (low : ℕ) (held : List Held) (n : ℕ) (h : Held) → AreSound ix low held → slice_get held n ≡ Some h → IsWhole (kept_in ix (low + n) h)
list_whole {ix} low held n h s some = kept_is (lists_in ix low held) n _ s.wholes (lists_get ix low held n h some)

-- what holds of a success holds where there was no failure
pub ok_from : {A E P : Type 0} (r : Result A E) → is_err r ≡ false → OnOk r P → P
ok_from (Ok x) none p = p
ok_from (Err e) none p = cc

-- what holds of a failure, by what held of it before
pub if_err : {A E P Q : Type 0} (r : Result A E) → (P → Q) → OnErr r P → OnErr r Q
if_err (Ok x) then p = p
if_err (Err e) then p = then p

pub some_is : {A : Type 0} (o : Option A) (x y : A) → o ≡ Some x → o ≡ Some y → x ≡ y
some_is o x y a b = ap (λ (p : Option _). unwrap_or p x) (sym a ∙ b)

-- all without the last one, by what a pop leaves
pub record IsPopped {X : Type 0} (old new : List X) : Type 0 where
  pub last : X
  pub items : old ≡ new ++ last ∷ []

pub popped : {X : Type 0} → (old new : List X) → new ≡ take (length old - 1) old → 0 < length old → IsPopped old new
popped old new is some =
    let parts = split old some in
    let same : new ≡ parts.before = is ∙ ap (λ (l : List _). take (length l - 1) l) parts.is ∙ without_last parts.before parts.last in
    record { last = parts.last; items = parts.is ∙ ap (λ (l : List _). l ++ parts.last ∷ []) (sym same) }

-- what a pop leaves of what is held is sound, and its lists are those of before without the last one
pub record IsLessOn (ix : Indexes) (low : ℕ) (old new : List Held) : Type 0 where
  pub sound : AreSound ix low new
  pub last : Kept
  pub lists : lists_in ix low old ≡ lists_in ix low new ++ last ∷ []
  pub coinbase : Option CoinbasePart
  pub coinbases : map (λ (h : Held). h.coinbase) old ≡ map (λ (h : Held). h.coinbase) new ++ coinbase ∷ []

pub pop_on : {ix : Indexes} (low : ℕ) (old new : List Held) → new ≡ take (length old - 1) old → 0 < length old → AreSound ix low old → IsLessOn ix low old new
pop_on {ix} low old new is some sound =
    let p = popped old new is some in
    record {
      sound = less_on low new p.last (subst (AreSound ix low) p.items sound);
      last = kept_in ix (low + length new) p.last;
      lists = ap (lists_in ix low) p.items ∙ lists_push ix low new p.last;
      coinbase = p.last.coinbase;
      coinbases = ap (map (λ (h : Held). h.coinbase)) p.items ∙ map-append (λ (h : Held). h.coinbase) new (p.last ∷ []);
    }
