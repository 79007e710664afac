-- Versions and pins, where their arenas are compacted.
use Rattle.std.proofs.Common.{◌≡◌, ℕ, zero, suc, ◌+◌, ◌-◌, ◌<◌, ◌≤◌, List, [], ◌∷◌, length, length-append, map, get_or, Option, None, Some, refl, sym, ap, ◌∙◌, subst, arith}
use Rattle.std.specs.List.{All, slice_index}
use Rattle.std.specs.declared.cmp.Ordering.{Ordering}
use Rattle.std.proofs.lemmas.List.{get_or-map, get_or_append_left, get_or-append_right, length-map}
use Rattle.std.proofs.lemmas.List.Elements.{All-append, All-map}
use Rattle.dmn_bytes.specs.declared.hash.Hash256.{Hash256}
use Rattle.dmn_bytes.specs.Points.{hash_cmp, point_cmp}
use Rattle.dmn_indexes.specs.declared.indexes.Indexes.{Indexes}
use Rattle.dmn_indexes.specs.declared.version.Version.{Version}
use Rattle.dmn_indexes.specs.Keys.{owner_cmp, operator_cmp, service_cmp, pay_cmp, unconfirmed_cmp}
use Rattle.dmn_indexes.specs.Marks.{IsBelow, SameNodes}
use Rattle.dmn_indexes.specs.Version.{GrownBy, Holds, IsIndex, by_hash, outputs_in, outputs_of, rows_in, values}
use Rattle.dmn_indexes.specs.Version as versions
use Rattle.dmn_indexes.proofs.Whole.{whole_of}
use Rattle.dmn_rows.specs.declared.row.MnRow.{MnRow}
use Rattle.dmn_rows.specs.Rows.{Outputs, plain_rows}
use Rattle.dmn_versions.specs.declared.arena.Arena.{Arena}
use Rattle.dmn_versions.specs.declared.node.Node.{Node}
use Rattle.dmn_versions.specs.declared.node.Root.{Root}
use Rattle.dmn_versions.specs.Trees.{IsSound}
use Rattle.dmn_versions.proofs.Versions.{sound_empty}
use Rattle.dmn_walk.specs.Copy.{Copied, Moves}
use Rattle.dmn_branch.specs.declared.compaction.Compaction.{Compaction}
use Rattle.dmn_branch.specs.declared.compaction.Renewal.{Renewal}
use Rattle.dmn_branch.specs.declared.compaction.Tree.{Tree}
use Rattle.dmn_branch.specs.declared.compaction.Tree.TheVariants as trees
use Rattle.dmn_branch.specs.declared.held.Held.{Held}
use Rattle.dmn_branch.specs.declared.pins.Pin.{Pin}
use Rattle.dmn_branch.specs.Compact.{AreMade, Compacts, HasSoundTrees, MoreByAtMost, Renews, Stay, arena_after, height_after, indexes_after, mark_after, marks_after, pin_after, pin_version, root_at, root_of, version_at, versions_of}
use Rattle.dmn_branch.specs.Stands.{AreSound, IsPinned, IsWhole, Kept, kept_in, lists_in, pinned_in}

-- ---- one arena

any_default : {X : Type 0} (xs : List X) (k : ℕ) (d e : X) → k < length xs → get_or xs k d ≡ get_or xs k e
any_default [] k d e lt = absurd (omega (arith, lt))
any_default (x ∷ xs) zero d e lt = refl
any_default (x ∷ xs) (suc k) d e lt = any_default xs k d e (omega (arith, lt))

-- the roots of one tree are sound
pub roots_sound : {K V : Type 0} (cmp : K → K → Ordering) (nodes : List (Node K V)) (tree : Tree) (vs : List Version) (roots : List Root) → roots ≡ map (root_of tree) vs → All (λ v. IsSound cmp nodes (root_of tree v).0) vs → All (λ r. IsSound cmp nodes r.0) roots
roots_sound cmp nodes tree vs roots is sound = subst (λ (l : List Root). All (λ (r : Root). IsSound cmp nodes r.0) l) (sym is) (All-map (λ (r : Root). IsSound cmp nodes r.0) (root_of tree) vs sound)

copied_none : {K V : Type 0} (cmp : K → K → Ordering) (nodes : List (Node K V)) (roots : List Root) → All (λ r. IsSound cmp nodes r.0) roots → (k : ℕ) (d e : Root) → k < length roots → Copied cmp nodes nodes (get_or roots k d).0 (get_or roots k e).0
copied_none cmp nodes roots sound k d e lt =
    subst (λ (r : Root). Copied cmp nodes nodes (get_or roots k d).0 r.0) (any_default roots k d e lt) (record { sound = sound k d lt; reads = refl; height = refl })

-- an arena that stays
pub renews_none : {K V : Type 0} (cmp : K → K → Ordering) (arena : Arena K V) (tree : Tree) (vs : List Version) (renewal : Renewal K V) → renewal.arena ≡ None → renewal.roots.items ≡ map (root_of tree) vs → All (λ v. IsSound cmp arena.nodes.items (root_of tree v).0) vs → Renews cmp arena (map (root_of tree) vs) renewal
renews_none {K} {V} cmp arena tree vs renewal none is sound = all
  where
    nodes : List (Node K V)
    nodes = arena.nodes.items

    roots : List Root
    roots = map (root_of tree) vs

    sounds : All (λ (r : Root). IsSound cmp nodes r.0) roots
    sounds = roots_sound cmp nodes tree vs roots refl sound

    moves : Moves cmp nodes nodes roots renewal.roots.items
    moves = subst (Moves cmp nodes nodes roots) (sym is) (record { long = refl; each = λ k d e lt. copied_none cmp nodes roots sounds k d e lt })

    all : Renews cmp arena roots renewal
    all = record {
      few = subst (λ (p : Option (Arena K V)). length (arena_after arena p).nodes.items ≤ length arena.nodes.items) (sym none) (omega arith);
      moves = subst (λ (p : Option (Arena K V)). Moves cmp nodes (arena_after arena p).nodes.items roots renewal.roots.items) (sym none) moves;
      stay = subst (Stay roots renewal.roots.items) (sym none) is;
    }

-- the root at a place
moved_at : {K V : Type 0} (cmp : K → K → Ordering) (arena : Arena K V) (tree : Tree) (vs : List Version) (renewal : Renewal K V) (k : ℕ) (v : Version) → Renews cmp arena (map (root_of tree) vs) renewal → k < length vs → get_or vs k v ≡ v
    → Copied cmp arena.nodes.items (arena_after arena renewal.arena).nodes.items (root_of tree v).0 (root_at k renewal).0
moved_at cmp arena tree vs renewal k v renews lt is =
    let there : get_or (map (root_of tree) vs) k (root_of tree v) ≡ root_of tree v = get_or-map (root_of tree) vs k v (root_of tree v) lt ∙ ap (root_of tree) is in
    let inside : k < length (map (root_of tree) vs) = omega (arith, lt, length-map vs (root_of tree)) in
    subst (λ (r : Root). Copied cmp arena.nodes.items (arena_after arena renewal.arena).nodes.items r.0 (root_at k renewal).0) there
    (renews.moves.each k (root_of tree v) (record { 0 = 0 }) inside)

-- there is a root for each version
pub has_root : {K V : Type 0} (cmp : K → K → Ordering) (arena : Arena K V) (tree : Tree) (vs : List Version) (renewal : Renewal K V) (k : ℕ) → Renews cmp arena (map (root_of tree) vs) renewal → k < length vs → k < length renewal.roots.items
has_root cmp arena tree vs renewal k renews lt = omega (arith, lt, renews.moves.long, length-map vs (root_of tree))

-- it lies below the mark
below_at : {K V : Type 0} (cmp : K → K → Ordering) (arena : Arena K V) (tree : Tree) (vs : List Version) (renewal : Renewal K V) (k mark : ℕ) (v : Version) → Renews cmp arena (map (root_of tree) vs) renewal → k < length vs → get_or vs k v ≡ v
    → (root_of tree v).0 ≤ mark → (root_at k renewal).0 ≤ mark_after mark renewal.arena
below_at {K} {V} cmp arena tree vs renewal k mark v renews lt is low = go renewal.arena renews.stay (moved_at cmp arena tree vs renewal k v renews lt is).sound.named
  where
    go : (o : Option (Arena K V)) → Stay (map (root_of tree) vs) renewal.roots.items o → (root_at k renewal).0 ≤ length (arena_after arena o).nodes.items → (root_at k renewal).0 ≤ mark_after mark o
    go None same named =
        let here : root_at k renewal ≡ root_of tree v = ap (λ (l : List Root). get_or l k (record { 0 = 0 })) same ∙ get_or-map (root_of tree) vs k v (record { 0 = 0 }) lt ∙ ap (root_of tree) is in
        subst (λ (r : Root). r.0 ≤ mark) (sym here) low
    go (Some copy) same named = named

-- ---- all eight

-- each tree of a version reads as before, by its new root
pub record Moved (old new : Indexes) (from to : Version) : Type 0 where
  pub rows : Copied hash_cmp old.rows.nodes.items new.rows.nodes.items from.rows.0 to.rows.0
  pub owner : Copied owner_cmp old.owner.nodes.items new.owner.nodes.items from.owner.0 to.owner.0
  pub operator : Copied operator_cmp old.operator.nodes.items new.operator.nodes.items from.operator.0 to.operator.0
  pub service : Copied service_cmp old.service.nodes.items new.service.nodes.items from.service.0 to.service.0
  pub collateral : Copied point_cmp old.collateral.nodes.items new.collateral.nodes.items from.collateral.0 to.collateral.0
  pub payment : Copied pay_cmp old.payment.nodes.items new.payment.nodes.items from.payment.0 to.payment.0
  pub unconfirmed : Copied unconfirmed_cmp old.unconfirmed.nodes.items new.unconfirmed.nodes.items from.unconfirmed.0 to.unconfirmed.0
  pub outputs : Copied point_cmp old.outputs.nodes.items new.outputs.nodes.items from.outputs.0 to.outputs.0

pub moved : (ix : Indexes) (vs : List Version) (made : Compaction) (k : ℕ) (v : Version) → Compacts ix vs made → k < length vs → get_or vs k v ≡ v → Moved ix (indexes_after ix made) v (version_at made k)
moved ix vs made k v c lt is = record {
  rows = moved_at hash_cmp ix.rows trees.Rows vs made.rows k v c.rows lt is;
  owner = moved_at owner_cmp ix.owner trees.Owner vs made.owner k v c.owner lt is;
  operator = moved_at operator_cmp ix.operator trees.Operator vs made.operator k v c.operator lt is;
  service = moved_at service_cmp ix.service trees.Service vs made.service k v c.service lt is;
  collateral = moved_at point_cmp ix.collateral trees.Collateral vs made.collateral k v c.collateral lt is;
  payment = moved_at pay_cmp ix.payment trees.Payment vs made.payment k v c.payment lt is;
  unconfirmed = moved_at unconfirmed_cmp ix.unconfirmed trees.Unconfirmed vs made.unconfirmed k v c.unconfirmed lt is;
  outputs = moved_at point_cmp ix.outputs trees.Outputs vs made.outputs k v c.outputs lt is;
}

pub moved_below : (ix : Indexes) (vs : List Version) (made : Compaction) (k : ℕ) (v : Version) (marks : List ℕ) → Compacts ix vs made → k < length vs → get_or vs k v ≡ v → IsBelow marks v → IsBelow (marks_after marks made) (version_at made k)
moved_below ix vs made k v marks c lt is below = record {
  rows = below_at hash_cmp ix.rows trees.Rows vs made.rows k (slice_index marks 0) v c.rows lt is below.rows;
  owner = below_at owner_cmp ix.owner trees.Owner vs made.owner k (slice_index marks 1) v c.owner lt is below.owner;
  operator = below_at operator_cmp ix.operator trees.Operator vs made.operator k (slice_index marks 2) v c.operator lt is below.operator;
  service = below_at service_cmp ix.service trees.Service vs made.service k (slice_index marks 3) v c.service lt is below.service;
  collateral = below_at point_cmp ix.collateral trees.Collateral vs made.collateral k (slice_index marks 4) v c.collateral lt is below.collateral;
  payment = below_at pay_cmp ix.payment trees.Payment vs made.payment k (slice_index marks 5) v c.payment lt is below.payment;
  unconfirmed = below_at unconfirmed_cmp ix.unconfirmed trees.Unconfirmed vs made.unconfirmed k (slice_index marks 6) v c.unconfirmed lt is below.unconfirmed;
  outputs = below_at point_cmp ix.outputs trees.Outputs vs made.outputs k (slice_index marks 7) v c.outputs lt is below.outputs;
}

index_moved : {K : Type 0} (cmp : K → K → Ordering) (key : MnRow → Option K) (xs ys : List (Node K Hash256)) (root to : Root) (rows : List MnRow) → Copied cmp xs ys root.0 to.0 → IsIndex cmp key xs root rows → IsIndex cmp key ys to rows
index_moved cmp key xs ys root to rows c i = record { sound = c.sound; reads = c.reads ∙ i.reads }

holds_moved : {ix iy : Indexes} {v w : Version} {rows : List MnRow} → Moved ix iy v w → Holds ix v rows → Holds iy w rows
holds_moved m h = record {
  sound = m.rows.sound;
  reads = m.rows.reads ∙ h.reads;
  distinct = h.distinct;
  owner = index_moved _ _ _ _ _ _ _ m.owner h.owner;
  operator = index_moved _ _ _ _ _ _ _ m.operator h.operator;
  service = index_moved _ _ _ _ _ _ _ m.service h.service;
  collateral = index_moved _ _ _ _ _ _ _ m.collateral h.collateral;
  payment = index_moved _ _ _ _ _ _ _ m.payment h.payment;
  unconfirmed = index_moved _ _ _ _ _ _ _ m.unconfirmed h.unconfirmed;
  outputs = m.outputs.sound;
}

pub whole_moved : {ix iy : Indexes} {v w : Version} → Moved ix iy v w → versions.IsWhole ix v → versions.IsWhole iy w
whole_moved m whole = whole_of (holds_moved m whole)

pub whole_sound : (ix : Indexes) (v : Version) → versions.IsWhole ix v → HasSoundTrees ix v
whole_sound ix v h = record {
  rows = h.sound;
  owner = h.owner.sound;
  operator = h.operator.sound;
  service = h.service.sound;
  collateral = h.collateral.sound;
  payment = h.payment.sound;
  unconfirmed = h.unconfirmed.sound;
  outputs = h.outputs;
}

pin_sound : (ix : Indexes) (pin : Pin) → IsPinned ix pin → HasSoundTrees ix (pin_version pin)
pin_sound ix pin is = record {
  rows = is.sound;
  owner = sound_empty owner_cmp ix.owner.nodes.items 0 refl;
  operator = sound_empty operator_cmp ix.operator.nodes.items 0 refl;
  service = sound_empty service_cmp ix.service.nodes.items 0 refl;
  collateral = sound_empty point_cmp ix.collateral.nodes.items 0 refl;
  payment = sound_empty pay_cmp ix.payment.nodes.items 0 refl;
  unconfirmed = sound_empty unconfirmed_cmp ix.unconfirmed.nodes.items 0 refl;
  outputs = sound_empty point_cmp ix.outputs.nodes.items 0 refl;
}

-- the trees of what is held and of pins are sound
pub all_sound : (ix : Indexes) (held : List Held) (pinned : List Pin) → All (λ (h : Held). versions.IsWhole ix h.version) held → All (IsPinned ix) pinned → All (HasSoundTrees ix) (versions_of held pinned)
all_sound ix held pinned whole is =
    All-append (HasSoundTrees ix) (map (λ (h : Held). h.version) held) (map pin_version pinned)
    (All-map (HasSoundTrees ix) (λ (h : Held). h.version) held (λ k d lt. whole_sound ix (get_or held k d).version (whole k d lt)))
    (All-map (HasSoundTrees ix) pin_version pinned (λ k d lt. pin_sound ix (get_or pinned k d) (is k d lt)))

pub no_more : (ix : Indexes) (vs : List Version) (made : Compaction) → Compacts ix vs made → MoreByAtMost 0 ix (indexes_after ix made)
no_more ix vs made c = record {
  rows = omega (arith, c.rows.few);
  owner = omega (arith, c.owner.few);
  operator = omega (arith, c.operator.few);
  service = omega (arith, c.service.few);
  collateral = omega (arith, c.collateral.few);
  payment = omega (arith, c.payment.few);
  unconfirmed = omega (arith, c.unconfirmed.few);
  outputs = omega (arith, c.outputs.few);
}

pub none_more : (ix : Indexes) → MoreByAtMost 0 ix ix
none_more ix = record {
  rows = omega arith;
  owner = omega arith;
  operator = omega arith;
  service = omega arith;
  collateral = omega arith;
  payment = omega arith;
  unconfirmed = omega arith;
  outputs = omega arith;
}

-- nodes that a block adds to compacted arenas
pub more_then : {by : ℕ} (a b c : Indexes) → MoreByAtMost 0 a b → GrownBy by b c → MoreByAtMost by a c
more_then a b c one two = record {
  rows = omega (arith, one.rows, two.rows.few);
  owner = omega (arith, one.owner, two.owner.few);
  operator = omega (arith, one.operator, two.operator.few);
  service = omega (arith, one.service, two.service.few);
  collateral = omega (arith, one.collateral, two.collateral.few);
  payment = omega (arith, one.payment, two.payment.few);
  unconfirmed = omega (arith, one.unconfirmed, two.unconfirmed.few);
  outputs = omega (arith, one.outputs, two.outputs.few);
}

-- and a block that is not accepted adds none
pub more_same : (a b c : Indexes) → MoreByAtMost 0 a b → SameNodes b c → MoreByAtMost 0 a c
more_same a b c one two = record {
  rows = omega (arith, one.rows, ap length two.rows);
  owner = omega (arith, one.owner, ap length two.owner);
  operator = omega (arith, one.operator, ap length two.operator);
  service = omega (arith, one.service, ap length two.service);
  collateral = omega (arith, one.collateral, ap length two.collateral);
  payment = omega (arith, one.payment, ap length two.payment);
  unconfirmed = omega (arith, one.unconfirmed, ap length two.unconfirmed);
  outputs = omega (arith, one.outputs, ap length two.outputs);
}

-- ---- lists of which each item is made of the one at its place

map_alike : {X Y : Type 0} (f g : X → Y) (xs ys : List X) → length ys ≡ length xs → ((k : ℕ) (d : X) → k < length xs → g (get_or ys k d) ≡ f (get_or xs k d)) → map g ys ≡ map f xs
map_alike f g [] [] long each = refl
map_alike f g [] (y ∷ ys) long each = absurd (omega (arith, long))
map_alike f g (x ∷ xs) [] long each = absurd (omega (arith, long))
map_alike {X} {Y} f g (x ∷ xs) (y ∷ ys) long each =
    ap (λ (z : Y). z ∷ map g ys) (each zero x (omega arith))
    ∙ ap (λ (l : List Y). f x ∷ l) (map_alike f g xs ys (omega (arith, long)) (λ k d lt. each (suc k) d (omega (arith, lt))))

lists_alike : (ix iy : Indexes) (low : ℕ) (xs ys : List Held) → length ys ≡ length xs → ((k : ℕ) (d : Held) → k < length xs → kept_in iy (low + k) (get_or ys k d) ≡ kept_in ix (low + k) (get_or xs k d)) → lists_in iy low ys ≡ lists_in ix low xs
lists_alike ix iy low [] [] long each = refl
lists_alike ix iy low [] (y ∷ ys) long each = absurd (omega (arith, long))
lists_alike ix iy low (x ∷ xs) [] long each = absurd (omega (arith, long))
lists_alike ix iy low (x ∷ xs) (y ∷ ys) long each =
    let here : low + zero ≡ low = omega arith in
    ap (λ (k : Kept). k ∷ lists_in iy (suc low) ys) (subst (λ (n : ℕ). kept_in iy n y ≡ kept_in ix n x) here (each zero x (omega arith)))
    ∙ ap (λ (l : List Kept). kept_in ix low x ∷ l) (lists_alike ix iy (suc low) xs ys (omega (arith, long)) (λ k d lt.
    let next : low + suc k ≡ suc low + k = omega arith in
    subst (λ (n : ℕ). kept_in iy n (get_or ys k d) ≡ kept_in ix n (get_or xs k d)) next (each (suc k) d (omega (arith, lt)))))

-- ---- what is held, and pins

pub version_count : (held : List Held) (pinned : List Pin) → length (versions_of held pinned) ≡ length held + length pinned
version_count held pinned = length-append (map (λ (h : Held). h.version) held) (map pin_version pinned) ∙ omega (arith, length-map held (λ (h : Held). h.version), length-map pinned pin_version)

module _ (ix : Indexes) (low : ℕ) (made : Compaction) (held new_held : List Held) (pinned new_pinned : List Pin) (compacts : Compacts ix (versions_of held pinned) made) (are_held : AreMade (height_after made) held new_held) (are_pinned : AreMade (λ k. pin_after made (length held + k)) pinned new_pinned) (sound : AreSound ix low held) (is_pinned : All (IsPinned ix) pinned) where
  abbrev pub iy : Indexes
  iy = indexes_after ix made

  abbrev pub vs : List Version
  vs = versions_of held pinned

  count : length vs ≡ length held + length pinned
  count = version_count held pinned

  held_there : (k : ℕ) (d : Held) → k < length held → get_or vs k (get_or held k d).version ≡ (get_or held k d).version
  held_there k d lt =
      get_or_append_left (map (λ (h : Held). h.version) held) (map pin_version pinned) (get_or held k d).version k (omega (arith, lt, length-map held (λ (h : Held). h.version)))
      ∙ get_or-map (λ (h : Held). h.version) held k d (get_or held k d).version lt

  pin_there : (k : ℕ) (d : Pin) → k < length pinned → get_or vs (length held + k) (pin_version (get_or pinned k d)) ≡ pin_version (get_or pinned k d)
  pin_there k d lt =
      let place : length held + k - length held ≡ k = omega arith in
      get_or-append_right (map (λ (h : Held). h.version) held) (map pin_version pinned) (length held) (length held + k) (pin_version (get_or pinned k d)) (length-map held (λ (h : Held). h.version)) (omega arith)
      ∙ ap (λ (n : ℕ). get_or (map pin_version pinned) n (pin_version (get_or pinned k d))) place
      ∙ get_or-map pin_version pinned k d (pin_version (get_or pinned k d)) lt

  held_moved : (k : ℕ) (d : Held) → k < length held → Moved ix iy (get_or held k d).version (version_at made k)
  held_moved k d lt = moved ix vs made k (get_or held k d).version compacts (omega (arith, lt, count)) (held_there k d lt)

  kept_after : (k : ℕ) (d : Held) → k < length held → kept_in iy (low + k) (height_after made k (get_or held k d)) ≡ kept_in ix (low + k) (get_or held k d)
  kept_after k d lt =
      let h = get_or held k d in
      let m = held_moved k d lt in
      ap (λ (rows : List MnRow). record { height = low + k; hash = h.hash; root = h.root; rows = rows; outputs = outputs_in iy (version_at made k) }) (ap values m.rows.reads)
      ∙ ap (λ (outputs : Outputs). record { height = low + k; hash = h.hash; root = h.root; rows = rows_in ix h.version; outputs = outputs }) (ap outputs_of m.outputs.reads)

  pub lists_after : lists_in iy low new_held ≡ lists_in ix low held
  lists_after = lists_alike ix iy low held new_held are_held.long (λ k d lt. ap (kept_in iy (low + k)) (are_held.each k d lt) ∙ kept_after k d lt)

  pub coinbases_after : map (λ (h : Held). h.coinbase) new_held ≡ map (λ (h : Held). h.coinbase) held
  coinbases_after = map_alike (λ (h : Held). h.coinbase) (λ (h : Held). h.coinbase) held new_held are_held.long (λ k d lt. ap (λ (h : Held). h.coinbase) (are_held.each k d lt))

  pub sound_after : AreSound iy low new_held
  sound_after = record {
    versions = λ k d lt. subst (λ (h : Held). versions.IsWhole iy h.version) (sym (are_held.each k d (inside k lt))) (whole_moved (held_moved k d (inside k lt)) (sound.versions k d (inside k lt)));
    below = λ i j d le lt.
        let here = inside j lt in
        rw (are_held.each i d (omega (arith, le, here)), are_held.each j d here)
        (moved_below ix vs made i (get_or held i d).version (get_or held j d).marks compacts (omega (arith, le, here, count)) (held_there i d (omega (arith, le, here))) (sound.below i j d le here));
    wholes = subst (All IsWhole) (sym lists_after) sound.wholes;
  }
    where
      inside : (k : ℕ) → k < length new_held → k < length held
      inside k lt = omega (arith, lt, are_held.long)

  pin_moved : (k : ℕ) (d : Pin) → k < length pinned → Moved ix iy (pin_version (get_or pinned k d)) (version_at made (length held + k))
  pin_moved k d lt = moved ix vs made (length held + k) (pin_version (get_or pinned k d)) compacts (omega (arith, lt, count)) (pin_there k d lt)

  pin_stands : (k : ℕ) (d : Pin) → k < length pinned → IsPinned iy (pin_after made (length held + k) (get_or pinned k d))
  pin_stands k d lt =
      let m = (pin_moved k d lt).rows in
      record {
        sound = m.sound;
        below = below_at hash_cmp ix.rows trees.Rows vs made.rows (length held + k) (get_or pinned k d).mark (pin_version (get_or pinned k d)) compacts.rows (omega (arith, lt, count)) (pin_there k d lt) (is_pinned k d lt).below;
        hashes = subst (λ (ps : List (Hash256 × MnRow)). ps ≡ by_hash (values ps)) (sym m.reads) (is_pinned k d lt).hashes;
      }

  pub pinned_after : All (IsPinned iy) new_pinned
  pinned_after k d lt =
      let inside : k < length pinned = omega (arith, lt, are_pinned.long) in
      subst (IsPinned iy) (sym (are_pinned.each k d inside)) (pin_stands k d inside)

  pub pins_after : map (pinned_in iy) new_pinned ≡ map (pinned_in ix) pinned
  pins_after = map_alike (pinned_in ix) (pinned_in iy) pinned new_pinned are_pinned.long (λ k d lt.
      let p = get_or pinned k d in
      ap (pinned_in iy) (are_pinned.each k d lt)
      ∙ ap (λ (ps : List (Hash256 × MnRow)). record { number = p.number; height = p.height; rows = plain_rows p.height (values ps) }) (pin_moved k d lt).rows.reads)

-- what is held, and pins, in compacted arenas
pub record IsCompacted (ix iy : Indexes) (low : ℕ) (held new_held : List Held) (pinned new_pinned : List Pin) : Type 0 where
  pub sound : AreSound iy low new_held
  pub lists : lists_in iy low new_held ≡ lists_in ix low held
  pub coinbases : map (λ (h : Held). h.coinbase) new_held ≡ map (λ (h : Held). h.coinbase) held
  pub are_pinned : All (IsPinned iy) new_pinned
  pub pins : map (pinned_in iy) new_pinned ≡ map (pinned_in ix) pinned

pub compacted : (ix iy : Indexes) (low : ℕ) (made : Compaction) (held new_held : List Held) (pinned new_pinned : List Pin) (vs : List Version) (count : ℕ) → vs ≡ versions_of held pinned → iy ≡ indexes_after ix made → count ≡ length held
    → Compacts ix vs made → AreMade (height_after made) held new_held → AreMade (λ k. pin_after made (count + k)) pinned new_pinned → AreSound ix low held → All (IsPinned ix) pinned → IsCompacted ix iy low held new_held pinned new_pinned
compacted ix new_ix low made held new_held pinned new_pinned of_all first are is long compacts are_held are_pinned sound is_pinned =
    subst (λ (i : Indexes). IsCompacted ix i low held new_held pinned new_pinned) (sym is) (record {
      sound = sound_after ix low made held new_held pinned new_pinned of_these are_held of_pins sound is_pinned;
      lists = lists_after ix low made held new_held pinned new_pinned of_these are_held of_pins sound is_pinned;
      coinbases = coinbases_after ix low made held new_held pinned new_pinned of_these are_held of_pins sound is_pinned;
      are_pinned = pinned_after ix low made held new_held pinned new_pinned of_these are_held of_pins sound is_pinned;
      pins = pins_after ix low made held new_held pinned new_pinned of_these are_held of_pins sound is_pinned;
    })
  where
    of_these : Compacts ix (versions_of held pinned) made
    of_these = subst (λ (l : List Version). Compacts ix l made) are compacts

    of_pins : AreMade (λ k. pin_after made (length held + k)) pinned new_pinned
    of_pins = subst (λ (n : ℕ). AreMade (λ k. pin_after made (n + k)) pinned new_pinned) long are_pinned
