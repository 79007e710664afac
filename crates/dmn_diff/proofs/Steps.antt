-- Steps of a walk over simplified lists.
use Rattle.std.proofs.Common.{◌≡◌, ℕ, ◌+◌, ◌<◌, ◌≤◌, Bool, true, false, not, List, [], ◌∷◌, ◌++◌, length, get_or, drop, map, filter, find, refl, sym, ap, ◌∙◌, subst, arith}
use Rattle.std.specs.Prelude.{◌==◌, Option, Some, None, is_some, slice_get}
use Rattle.std.specs.Cmp.{booleans_Decides}
use Rattle.std.specs.List.{list_any}
use Rattle.std.specs.declared.cmp.Ordering.{Ordering}
use Rattle.std.specs.Str.{bytes_eq}
use Rattle.std.proofs.lemmas.Bool.{and_parts, eqb-true}
use Rattle.std.proofs.lemmas.Slice.Eq.{bytes_eq-Decides}
use Rattle.std.specs.declared.cmp.Ordering.TheVariants.{Less, Equal, Greater}
use Rattle.std.specs.Ordering.{ordering_reverse, is_lt}
use Rattle.std.proofs.lemmas.List.{drop_more, drop_all, append-nil}
use Rattle.dmn_bytes.specs.declared.hash.Hash256.{Hash256}
use Rattle.dmn_bytes.specs.Points.{hash_cmp}
use Rattle.dmn_rows.specs.Rows.{same_hash, same_service}
use Rattle.dmn_rows.specs.Keys.{same_hash-is, same_hash-from, hash_cmp_total, hash_exact}
use Rattle.dmn_rows.specs.Sorted.{IsAbove, Ascends, IsKey}
use Rattle.dmn_rows.proofs.Sorted.{above_lower, less_from, Ascends-filter}
use Rattle.dmn_sml.specs.declared.entry.SmlEntry.{SmlEntry}
use Rattle.dmn_sml.specs.Defs.{IsAscending, has_hash}
use Rattle.dmn_sml.specs.Keys.{entry_key}
use Rattle.dmn_diff.specs.Diff.{hash_of, itself}
use Rattle.dmn_bytes.specs.Format.{follows}
use Rattle.dmn_diff.specs.Defs.{HashesAscend}
use Rattle.dmn_diff.proofs.Found.{hash_key}
use Rattle.dmn_diff.specs.Change.{same_entry, gone, fresh, delete_all, put_all, change_of, changed, is_told}
use Rattle.dmn_diff.specs.Walk.{IsFront, IsStep, Ahead, AreAbove, chain}
use Rattle.dmn_diff.specs.declared.walk.Front.TheVariants.{Gone, New, Changed, Same}
use Rattle.dmn_diff.specs.declared.apply.Step.{Step}
use Rattle.dmn_diff.specs.declared.apply.Step.TheVariants as steps
use Rattle.dmn_diff.proofs.Merge.{restores, fresh_found, gone_found, Ascends-puts, Ascends-deletes, Ascends-map, Ascends-drop, gone_lower, fresh_lower, gone_higher, fresh_higher, gone_equal, fresh_kept, fresh_changed, deletes_none, deletes_skip, deletes_drop, deletes_above, deletes_keep, puts_first, puts_above, puts_over}

made : Hash256 → Hash256 → List ℕ → ℕ → List ℕ → List ℕ → Bool → SmlEntry
made hash confirmed address port operator voting valid = record { hash = hash; confirmed = confirmed; service = record { address = address; port = port }; operator = operator; voting = voting; valid = valid }

pub same_entry-is : (a b : SmlEntry) → same_entry a b ≡ true → a ≡ b
unfolding made
same_entry-is a b e =
    let p = and_parts (same_hash a.hash b.hash) _ e in
    let q = and_parts (same_hash a.confirmed b.confirmed) _ p.1 in
    let r = and_parts (same_service a.service b.service) _ q.1 in
    let s = and_parts (bytes_eq a.operator b.operator) _ r.1 in
    let t = and_parts (bytes_eq a.voting b.voting) _ s.1 in
    let u = and_parts (bytes_eq a.service.address b.service.address) (a.service.port == b.service.port) r.0 in
    let hash : a.hash ≡ b.hash = same_hash-is a.hash b.hash p.0 in
    let confirmed : a.confirmed ≡ b.confirmed = same_hash-is a.confirmed b.confirmed q.0 in
    let address : a.service.address ≡ b.service.address = (bytes_eq-Decides a.service.address b.service.address).0 u.0 in
    let port : a.service.port ≡ b.service.port = eqb-true a.service.port b.service.port u.1 in
    let operator : a.operator ≡ b.operator = (bytes_eq-Decides a.operator b.operator).0 s.0 in
    let voting : a.voting ≡ b.voting = (bytes_eq-Decides a.voting b.voting).0 t.0 in
    let valid : a.valid ≡ b.valid = (booleans_Decides a.valid b.valid).0 t.1 in
    let same : made a.hash a.confirmed a.service.address a.service.port a.operator a.voting a.valid ≡ made b.hash b.confirmed b.service.address b.service.port b.operator b.voting b.valid = cc in
    same

pub restored : (base target : List SmlEntry) → IsAscending base → IsAscending target → changed base (change_of base target) ≡ target
restored = restores hash_cmp hash_of has_hash entry_key same_entry same_entry-is

pub deleted_by_look_up : (base target : List SmlEntry) → gone base target ≡ map hash_of (filter (λ b. not (is_some (find (has_hash b.hash) target))) base)
deleted_by_look_up = gone_found hash_cmp hash_of has_hash entry_key same_entry same_entry-is

pub told_by_look_up : (base target : List SmlEntry) → IsAscending base → fresh base target ≡ filter (is_told base) target
told_by_look_up = fresh_found hash_cmp hash_of has_hash entry_key same_entry same_entry-is

-- ---- what is behind the first

pub still_ascends : (list rest : List SmlEntry) → rest ≡ drop 1 list → IsAscending list → IsAscending rest
still_ascends list rest is asc = rw is (Ascends-drop hash_cmp hash_of has_hash entry_key same_entry same_entry-is 1 list asc)

pub still_ascend : (hashes rest : List Hash256) → rest ≡ drop 1 hashes → HashesAscend hashes → HashesAscend rest
still_ascend hashes rest is asc = rw is (Ascends-drop hash_cmp itself (λ hash h. same_hash h hash) hash_key same_hash same_hash-is 1 hashes asc)

-- ---- fronts of two lists

pub turned : (a b : Hash256) → hash_cmp a b ≡ Greater → hash_cmp b a ≡ Less
turned a b e = hash_cmp_total.antisymm b a ∙ ap ordering_reverse e

-- a hash below the first entry is below all
above_all : (hash : Hash256) (e : SmlEntry) (rest : List SmlEntry) → hash_cmp hash e.hash ≡ Less → IsAscending (e ∷ rest) → IsAbove hash_cmp hash_of hash (e ∷ rest)
above_all hash e rest less asc = (less, above_lower hash_cmp hash_of has_hash entry_key hash e.hash rest less asc.0)

abbrev IsFirst : {V : Type 0} → List V → V → Type 0
IsFirst list v = Some v ≡ slice_get list 0

pub front_less : (old new : List SmlEntry) (b t : SmlEntry) → IsFirst old b → IsFirst new t → IsAscending old → IsAscending new → hash_cmp b.hash t.hash ≡ Less → IsFront old new (Gone b.hash)
front_less [] new b t f g p q less = absurd cc
front_less (x ∷ old) [] b t f g p q less = absurd cc
front_less (x ∷ old) (y ∷ new) b t f g p q less =
    let b_is : b ≡ x = cc in
    let t_is : t ≡ y = cc in
    let above : IsAbove hash_cmp hash_of x.hash (y ∷ new) = above_all x.hash y new (rw (← b_is, ← t_is) less) q in
    rw b_is ((omega arith), gone_lower hash_cmp hash_of has_hash entry_key same_entry same_entry-is x old (y ∷ new) above, fresh_lower hash_cmp hash_of has_hash entry_key same_entry same_entry-is x old (y ∷ new) above)

pub front_greater : (old new : List SmlEntry) (b t : SmlEntry) → IsFirst old b → IsFirst new t → IsAscending old → IsAscending new → hash_cmp b.hash t.hash ≡ Greater → IsFront old new (New t)
front_greater [] new b t f g p q more = absurd cc
front_greater (x ∷ old) [] b t f g p q more = absurd cc
front_greater (x ∷ old) (y ∷ new) b t f g p q more =
    let b_is : b ≡ x = cc in
    let t_is : t ≡ y = cc in
    let above : IsAbove hash_cmp hash_of y.hash (x ∷ old) = above_all y.hash x old (turned x.hash y.hash (rw (← b_is, ← t_is) more)) p in
    rw t_is ((omega arith), gone_higher hash_cmp hash_of has_hash entry_key same_entry same_entry-is y (x ∷ old) new above, fresh_higher hash_cmp hash_of has_hash entry_key same_entry same_entry-is y (x ∷ old) new above)

pub front_same : (old new : List SmlEntry) (b t : SmlEntry) → IsFirst old b → IsFirst new t → IsAscending old → IsAscending new → hash_cmp b.hash t.hash ≡ Equal → same_entry t b ≡ true → IsFront old new Same
front_same [] new b t f g p q o same = absurd cc
front_same (x ∷ old) [] b t f g p q o same = absurd cc
front_same (x ∷ old) (y ∷ new) b t f g p q o same =
    let b_is : b ≡ x = cc in
    let t_is : t ≡ y = cc in
    let e : x.hash ≡ y.hash = hash_exact _ _ (rw (← b_is, ← t_is) o) in
    let over : IsAbove hash_cmp hash_of x.hash new = subst (λ (h : Hash256). IsAbove hash_cmp hash_of h new) (sym e) q.0 in (
      omega arith,
      omega arith,
      gone_equal hash_cmp hash_of has_hash entry_key same_entry same_entry-is x y old new e p.0,
      fresh_kept hash_cmp hash_of has_hash entry_key same_entry same_entry-is x y old new (rw (← b_is, ← t_is) same) over,
    )

pub front_changed : (old new : List SmlEntry) (b t : SmlEntry) → IsFirst old b → IsFirst new t → IsAscending old → IsAscending new → hash_cmp b.hash t.hash ≡ Equal → same_entry t b ≡ false → IsFront old new (Changed t)
front_changed [] new b t f g p q o other = absurd cc
front_changed (x ∷ old) [] b t f g p q o other = absurd cc
front_changed (x ∷ old) (y ∷ new) b t f g p q o other =
    let b_is : b ≡ x = cc in
    let t_is : t ≡ y = cc in
    let e : x.hash ≡ y.hash = hash_exact _ _ (rw (← b_is, ← t_is) o) in
    let over : IsAbove hash_cmp hash_of x.hash new = subst (λ (h : Hash256). IsAbove hash_cmp hash_of h new) (sym e) q.0 in
    let back : IsAbove hash_cmp hash_of y.hash old = subst (λ (h : Hash256). IsAbove hash_cmp hash_of h old) e p.0 in
    rw t_is (
      omega arith,
      omega arith,
      gone_equal hash_cmp hash_of has_hash entry_key same_entry same_entry-is x y old new e p.0,
      fresh_changed hash_cmp hash_of has_hash entry_key same_entry same_entry-is x y old new (rw (← b_is, ← t_is) other) back over,
    )

-- ---- steps over a list and a change

abbrev IsEmpty : {V : Type 0} → List V → Type 0
IsEmpty list = None ≡ slice_get list 0

pub step_done : (list : List SmlEntry) (deleted : List Hash256) (entries : List SmlEntry) → IsEmpty list → IsEmpty entries → IsStep list deleted entries steps.Done
step_done [] deleted [] f g = deletes_none hash_cmp hash_of has_hash entry_key same_entry same_entry-is deleted
step_done [] deleted (e ∷ entries) f g = absurd cc
step_done (l ∷ list) deleted entries f g = absurd cc

-- no list, and one entry more
pub step_put_end : (list : List SmlEntry) (deleted : List Hash256) (entries : List SmlEntry) (e : SmlEntry) → IsEmpty list → IsFirst entries e → IsAscending entries → IsStep list deleted entries (steps.Put e)
step_put_end (l ∷ list) deleted entries e none f q = absurd cc
step_put_end [] deleted [] e none f q = absurd cc
step_put_end [] deleted (x ∷ entries) e none f q =
    let is : e ≡ x = cc in
    let gone : delete_all deleted [] ≡ [] = deletes_none hash_cmp hash_of has_hash entry_key same_entry same_entry-is deleted in
    rw is ((omega arith), (rw gone (puts_first hash_cmp hash_of has_hash entry_key same_entry same_entry-is x entries [] q.0 tt)))

pub step_skip : (list : List SmlEntry) (deleted : List Hash256) (entries : List SmlEntry) (l : SmlEntry) → IsFirst list l → IsAscending list → Ahead deleted l.hash Less → IsStep list deleted entries steps.Skip
step_skip [] deleted entries l f p ahead = absurd cc
step_skip (x ∷ list) [] entries l f p ahead = absurd ahead
step_skip (x ∷ list) (h ∷ deleted) entries l f p less =
    let is : l ≡ x = cc in
    ((omega arith), (ap (put_all entries) (deletes_skip hash_cmp hash_of has_hash entry_key same_entry same_entry-is h deleted (x ∷ list) (above_all h x list (rw (← is) less) p))))

pub step_drop : (list : List SmlEntry) (deleted : List Hash256) (entries : List SmlEntry) (l : SmlEntry) → IsFirst list l → IsAscending list → Ahead deleted l.hash Equal → IsStep list deleted entries steps.Drop
step_drop [] deleted entries l f p ahead = absurd cc
step_drop (x ∷ list) [] entries l f p ahead = absurd ahead
step_drop (x ∷ list) (h ∷ deleted) entries l f p e =
    let is : l ≡ x = cc in
    let same : h ≡ x.hash = e ∙ ap hash_of is in
    let above : IsAbove hash_cmp hash_of h list = subst (λ (k : Hash256). IsAbove hash_cmp hash_of k list) (sym same) p.0 in (
      omega arith,
      ap (put_all entries) (deletes_drop hash_cmp hash_of has_hash entry_key same_entry same_entry-is x h deleted list (same_hash-from x.hash h (sym same)) above ∙ sym (deletes_skip hash_cmp hash_of has_hash entry_key same_entry same_entry-is h deleted list above)),
    )

-- the front of the list is below all deleted hashes
past : (l : SmlEntry) (rest : List SmlEntry) (deleted : List Hash256) → AreAbove l.hash deleted → delete_all deleted (l ∷ rest) ≡ l ∷ delete_all deleted rest
past l rest deleted above = deletes_above hash_cmp hash_of has_hash entry_key same_entry same_entry-is l deleted rest above

pub step_keep_end : (l : SmlEntry) (rest : List SmlEntry) (deleted : List Hash256) → AreAbove l.hash deleted → IsStep (l ∷ rest) deleted [] (steps.Keep l)
step_keep_end l rest deleted above = ((omega arith), past l rest deleted above)

pub step_keep : (l : SmlEntry) (rest : List SmlEntry) (deleted : List Hash256) (entries : List SmlEntry) (e : SmlEntry) → IsFirst entries e → IsAscending entries → AreAbove l.hash deleted → hash_cmp e.hash l.hash ≡ Greater → IsStep (l ∷ rest) deleted entries (steps.Keep l)
step_keep l rest deleted [] e f q above more = absurd cc
step_keep l rest deleted (x ∷ entries) e f q above more =
    let is : e ≡ x = cc in
    let over : IsAbove hash_cmp hash_of l.hash (x ∷ entries) = above_all l.hash x entries (turned x.hash l.hash (rw (← is) more)) q in
    ((omega arith), (ap (put_all (x ∷ entries)) (past l rest deleted above) ∙ puts_above hash_cmp hash_of has_hash entry_key same_entry same_entry-is l (x ∷ entries) (delete_all deleted rest) over))

pub step_put : (l : SmlEntry) (rest : List SmlEntry) (deleted : List Hash256) (entries : List SmlEntry) (e : SmlEntry) → IsFirst entries e → IsAscending entries → IsAscending (l ∷ rest) → hash_cmp e.hash l.hash ≡ Less → IsStep (l ∷ rest) deleted entries (steps.Put e)
step_put l rest deleted [] e f q p less = absurd cc
step_put l rest deleted (x ∷ entries) e f q p less =
    let is : e ≡ x = cc in
    let above : IsAbove hash_cmp hash_of x.hash (l ∷ rest) = above_all x.hash l rest (rw (← is) less) p in
    rw is ((omega arith), (puts_first hash_cmp hash_of has_hash entry_key same_entry same_entry-is x entries (delete_all deleted (l ∷ rest)) q.0 (deletes_keep hash_cmp hash_of has_hash entry_key same_entry same_entry-is x.hash deleted (l ∷ rest) above)))

pub step_replace : (l : SmlEntry) (rest : List SmlEntry) (deleted : List Hash256) (entries : List SmlEntry) (e : SmlEntry) → IsFirst entries e → IsAscending entries → IsAscending (l ∷ rest) → AreAbove l.hash deleted → hash_cmp e.hash l.hash ≡ Equal → IsStep (l ∷ rest) deleted entries (steps.Replace e)
step_replace l rest deleted [] e f q p above o = absurd cc
step_replace l rest deleted (x ∷ entries) e f q p above o =
    let is : e ≡ x = cc in
    let same : x.hash ≡ l.hash = hash_exact _ _ (rw (← is) o) in
    let over : IsAbove hash_cmp hash_of x.hash rest = subst (λ (h : Hash256). IsAbove hash_cmp hash_of h rest) (sym same) p.0 in
    rw is (
      omega arith,
      omega arith,
      ap (put_all (x ∷ entries)) (past l rest deleted above)
          ∙ puts_over hash_cmp hash_of has_hash entry_key same_entry same_entry-is x l entries (delete_all deleted rest) (same_hash-from l.hash x.hash (sym same)) q.0
          (deletes_keep hash_cmp hash_of has_hash entry_key same_entry same_entry-is x.hash deleted rest over),
    )

-- the list's front, where it isn't deleted
pub step_front : (list : List SmlEntry) (deleted : List Hash256) (entries : List SmlEntry) (l : SmlEntry) (step : Step) → IsFirst list l → IsAscending list → Ahead deleted l.hash Greater
    → ((rest : List SmlEntry) (gone : List Hash256) → IsAscending (l ∷ rest) → AreAbove l.hash gone → IsStep (l ∷ rest) gone entries step) → IsStep list deleted entries step
step_front [] deleted entries l step f p above goes = absurd cc
step_front (x ∷ list) deleted entries l step f p above goes =
    let is : x ≡ l = cc in
    subst (λ (v : SmlEntry). IsStep (v ∷ list) deleted entries step) (sym is) (goes list deleted (subst (λ (v : SmlEntry). IsAscending (v ∷ list)) is p) above)

pub step_keep_none : (l : SmlEntry) (rest : List SmlEntry) (deleted : List Hash256) (entries : List SmlEntry) → IsEmpty entries → AreAbove l.hash deleted → IsStep (l ∷ rest) deleted entries (steps.Keep l)
step_keep_none l rest deleted [] none above = step_keep_end l rest deleted above
step_keep_none l rest deleted (e ∷ entries) none above = absurd cc

-- ---- deleted hashes ahead

pub ahead : (deleted : List Hash256) (hash h : Hash256) (o : Ordering) → IsFirst deleted h → HashesAscend deleted → hash_cmp h hash ≡ o → Ahead deleted hash o
ahead [] hash h o f asc e = absurd cc
ahead (x ∷ deleted) hash h Less f asc e =
    let is : h ≡ x = cc in rw (← is) e
ahead (x ∷ deleted) hash h Equal f asc e =
    let is : h ≡ x = cc in sym is ∙ hash_exact h hash e
ahead (x ∷ deleted) hash h Greater f asc e =
    let is : h ≡ x = cc in
    let less : hash_cmp hash x ≡ Less = turned x hash (rw (← is) e) in
    (less, above_lower hash_cmp itself (λ hash h. same_hash h hash) hash_key hash x deleted less asc.0)

-- ---- lists whose neighbours ascend

pub chain_more : {V : Type 0} (key : V → Hash256) (last : Option Hash256) (vs : List V) (i : ℕ) (d : V) → i < length vs → follows hash_cmp last (key (get_or vs i d)) ≡ true → chain key (Some (key (get_or vs i d))) (drop (i + 1) vs) ≡ chain key last (drop i vs)
chain_more key last vs i d lt h =
    let step : chain key last (get_or vs i d ∷ drop (i + 1) vs) ≡ chain key (Some (key (get_or vs i d))) (drop (i + 1) vs) = rw h refl in
    sym (ap (chain key last) (drop_more vs i d lt) ∙ step)

After : {V : Type 0} → (V → Hash256) → Option Hash256 → List V → Type 0
After key None vs = Ascends hash_cmp key vs
After key (Some last) vs = IsAbove hash_cmp key last vs × Ascends hash_cmp key vs

chain_after : {V : Type 0} (key : V → Hash256) (has : Hash256 → V → Bool) → IsKey hash_cmp key has → (last : Option Hash256) (vs : List V) → chain key last vs ≡ true → After key last vs
unfolding After
chain_after key has is None [] h = tt
chain_after key has is (Some last) [] h = (tt, tt)
chain_after key has is None (v ∷ vs) h = chain_after key has is (Some (key v)) vs h
chain_after key has is (Some last) (v ∷ vs) h =
    let p = and_parts (is_lt (hash_cmp last (key v))) (chain key (Some (key v)) vs) h in
    let rest = chain_after key has is (Some (key v)) vs p.1 in
    let less = less_from (hash_cmp last (key v)) p.0 in
    ((less, above_lower hash_cmp key has is last (key v) vs less rest.0), rest)

chain_done : {V : Type 0} (key : V → Hash256) (last : Option Hash256) (vs : List V) (i : ℕ) → length vs ≤ i → chain key last (drop i vs) ≡ chain key None vs → chain key None vs ≡ true
chain_done key last vs i le h = sym h ∙ ap (chain key last) (drop_all i vs le)

pub hashes_chained : (last : Option Hash256) (hs : List Hash256) (i : ℕ) → length hs ≤ i → chain itself last (drop i hs) ≡ chain itself None hs → HashesAscend hs
unfolding After
hashes_chained last hs i le h = chain_after itself (λ hash h. same_hash h hash) hash_key None hs (chain_done itself last hs i le h)

pub entries_chained : (last : Option Hash256) (es : List SmlEntry) (i : ℕ) → length es ≤ i → chain hash_of last (drop i es) ≡ chain hash_of None es → IsAscending es
unfolding After
entries_chained last es i le h = chain_after hash_of has_hash entry_key None es (chain_done hash_of last es i le h)

-- ---- what a walk has gathered

passed : {V : Type 0} (front all rest more : List V) → front ++ rest ≡ all → rest ≡ more → front ++ more ≡ all
passed {V} front all rest more so_far is = ap (λ (l : List V). front ++ l) (sym is) ∙ so_far

pub ended : {V : Type 0} (front all rest : List V) → front ++ rest ≡ all → rest ≡ [] → front ≡ all
ended {V} front all rest so_far is = sym (append-nil front) ∙ passed front all rest [] so_far is

-- ---- what changes ascends

pub gone_ascends : (base target : List SmlEntry) → IsAscending base → HashesAscend (gone base target)
gone_ascends base target p = Ascends-map hash_cmp hash_of has_hash entry_key same_entry same_entry-is _ (Ascends-filter hash_cmp hash_of has_hash entry_key (λ b. not (list_any (has_hash b.hash) target)) base p)

pub fresh_ascends : (base target : List SmlEntry) → IsAscending target → IsAscending (fresh base target)
fresh_ascends base target p = Ascends-filter hash_cmp hash_of has_hash entry_key (λ t. not (list_any (same_entry t) base)) target p

pub put_ascends : (entries list : List SmlEntry) (deleted : List Hash256) → IsAscending list → IsAscending (put_all entries (delete_all deleted list))
put_ascends entries list deleted p =
    Ascends-puts hash_cmp hash_of has_hash entry_key same_entry same_entry-is entries (delete_all deleted list) (Ascends-deletes hash_cmp hash_of has_hash entry_key same_entry same_entry-is deleted list p)
