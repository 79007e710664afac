-- Steps of a compaction.
use Rattle.std.proofs.Common.{◌≡◌, ℕ, zero, suc, ◌+◌, ◌-◌, ◌<◌, ◌≤◌, max, Bool, true, false, ◌⊎◌, inl, inr, List, [], ◌∷◌, ◌++◌, length, get_or, set, replicate, refl, sym, ap, ◌∙◌, subst, arith}
use Rattle.std.proofs.lemmas.Bool.{cases_eq}
use Rattle.std.proofs.lemmas.List.{length-set, get_or-set_same, get_or-set_other, get_or_append_left, get_or_push, get_or_read, length_push}
use Rattle.std.specs.declared.cmp.Ordering.{Ordering}
use Rattle.dmn_versions.specs.declared.node.Node.{Node}
use Rattle.dmn_versions.specs.declared.node.Root.{Root}
use Rattle.dmn_versions.specs.Trees.{Fork, tree_at, pairs, height_of, IsSound, Opens, Grows, Joins, Makes}
use Rattle.dmn_versions.proofs.Trees.{tree_at-zero}
use Rattle.dmn_versions.proofs.Steps.{open_pairs, open_height, open_sorted}
use Rattle.dmn_versions.proofs.Grow.{Stands, stands_kept, stands_joined, joins_of}
use Rattle.dmn_walk.specs.Copy.{IsMarked, Marks, Copied, Copies}

marked_within : (marks : List Bool) (m : ℕ) → IsMarked marks m → m < length marks
marked_within [] m h = cc
marked_within (x ∷ xs) zero h = omega arith
marked_within (x ∷ xs) (suc m) h = omega (arith, marked_within xs m h)

-- what a read of the marks says
pub is_marked : (marks : List Bool) (i : ℕ) (b : Bool) → i < length marks → b ≡ get_or marks i b → b ≡ true → IsMarked marks i
is_marked marks i b h e t = sym (get_or_read marks i b h e false) ∙ t

pub set_marks : (marks : List Bool) (i : ℕ) → i < length marks → IsMarked (set marks i true) i
set_marks marks i h = get_or-set_same marks i true false h

pub set_keeps : (marks : List Bool) (i m : ℕ) → IsMarked marks m → IsMarked (set marks i true) m
set_keeps marks i m h = elim (cases_eq m i) [
  | inl e ↦ rw e (get_or-set_same marks i true false (omega (arith, marked_within marks m h)))
  | inr ne ↦ get_or-set_other marks i m true false ne ∙ h
]

set_cases : (marks : List Bool) (i m : ℕ) → IsMarked (set marks i true) m → (m ≡ i) ⊎ IsMarked marks m
set_cases marks i m h = elim (cases_eq m i) [
  | inl e ↦ inl e
  | inr ne ↦ inr (sym (get_or-set_other marks i m true false ne) ∙ h)
]

module _ {K V : Type 0} {cmp : K → K → Ordering} {nodes : List (Node K V)} where
  same_node : {root : ℕ} {n m : Node K V} → Opens cmp nodes root n → Opens cmp nodes root m → m ≡ n
  same_node {root} {n} {m} o q =
      let is : Fork root n (tree_at nodes n.left) (tree_at nodes n.right) ≡ Fork root m (tree_at nodes m.left) (tree_at nodes m.right) = sym o.is ∙ q.is in
      cc is

  -- at the start only 0 is marked
  pub marks_none : (marks : List Bool) → length marks ≡ length nodes + 1 → ((i : ℕ) → get_or marks i false ≡ false) → Marks cmp nodes (set marks 0 true) (length nodes)
  marks_none marks long none = record {
    long = length-set marks 0 true ∙ long;
    sound = λ root m. elim (set_cases marks 0 root m) [
      | inl e ↦ rw e (record { named = omega arith; shaped = rw (tree_at-zero nodes) tt; ascending = rw (tree_at-zero nodes) tt })
      | inr k ↦ cc (none root)
    ];
    empty = set_marks marks 0 (omega (arith, long));
    closed = λ root m lt k q. absurd (omega (arith, marked_within (set marks 0 true) root k, length-set marks 0 true, long));
  }

  pub marks_root : (marks : List Bool) (root : ℕ) → Marks cmp nodes marks (length nodes) → IsSound cmp nodes root → Marks cmp nodes (set marks root true) (length nodes)
  marks_root marks root s r = record {
    long = length-set marks root true ∙ s.long;
    sound = λ i m. elim (set_cases marks root i m) [ inl e ↦ rw e r | inr k ↦ s.sound i k ];
    empty = set_keeps marks root 0 s.empty;
    closed = λ i m lt k q. absurd (omega (arith, marked_within (set marks root true) i k, length-set marks root true, s.long));
  }

  -- the sides of a marked node are marked
  pub marked_sides : (marks : List Bool) (number : ℕ) (n : Node K V) → Marks cmp nodes marks number → IsMarked marks number → 0 < number → Opens cmp nodes number n → Marks cmp nodes (set (set marks n.left true) n.right true) (number - 1)
  marked_sides marks number n s h some o =
      let once : List Bool = set marks n.left true in
      let left_in : n.left < length marks = omega (arith, o.left.named, s.long) in
      let right_in : n.right < length once = omega (arith, o.right.named, s.long, length-set marks n.left true) in
      let left_marked : IsMarked (set once n.right true) n.left = set_keeps once n.right n.left (set_marks marks n.left left_in) in
      let right_marked : IsMarked (set once n.right true) n.right = set_marks once n.right right_in in
      record {
        long = length-set once n.right true ∙ length-set marks n.left true ∙ s.long;
        sound = λ root m. elim (set_cases once n.right root m) [
          | inl e ↦ rw e o.right
          | inr k ↦ elim (set_cases marks n.left root k) [ inl e ↦ rw e o.left | inr j ↦ s.sound root j ]
        ];
        empty = set_keeps once n.right 0 (set_keeps marks n.left 0 s.empty);
        closed = λ root m lt k q. elim (cases_eq root number) [
          | inl e ↦ let same : m ≡ n = same_node o (subst (λ i. Opens cmp nodes i m) e q) in rw same (left_marked, right_marked)
          | inr ne ↦
              let above : number < root = omega arith in
              let old : IsMarked marks root = elim (set_cases once n.right root k) [
                | inl e ↦ absurd (omega (arith, o.fork.right_lower))
                | inr j ↦ elim (set_cases marks n.left root j) [ inl e ↦ absurd (omega (arith, o.fork.left_lower)) | inr i ↦ i ]
              ] in
              let both = s.closed root m above old q in
              (set_keeps once n.right m.left (set_keeps marks n.left m.left both.0), set_keeps once n.right m.right (set_keeps marks n.left m.right both.1))
        ];
      }

  module _ {new kept : List (Node K V)} {marks : List Bool} {places : List ℕ} {at : ℕ} {n : Node K V} (s : Marks cmp nodes marks 0) (c : Copies cmp nodes new marks places at) (h : IsMarked marks (at + 1)) (o : Opens cmp nodes (at + 1) n) (g : Grows 0 new kept) where
    copy_stands : (root : ℕ) → root ≤ at → IsMarked marks root → Stands cmp kept (get_or places root 0) (pairs (tree_at nodes root)) (height_of (tree_at nodes root))
    copy_stands root le m =
        let was = c.copied root le m in
        stands_kept g (record { sound = was.sound; reads = was.reads; height = was.height })

    sides : IsMarked marks n.left × IsMarked marks n.right
    sides = s.closed (at + 1) n (omega arith) h o

    left_stands : Stands cmp kept (get_or places n.left 0) (pairs (tree_at nodes n.left)) (height_of (tree_at nodes n.left))
    left_stands = copy_stands n.left (omega (arith, o.fork.left_lower)) sides.0

    right_stands : Stands cmp kept (get_or places n.right 0) (pairs (tree_at nodes n.right)) (height_of (tree_at nodes n.right))
    right_stands = copy_stands n.right (omega (arith, o.fork.right_lower)) sides.1

    pub copy_joins : (l r : ℕ) → l ≡ get_or places n.left 0 → r ≡ get_or places n.right 0 → Joins cmp 1 kept l (n.key, n.value) r
    copy_joins l r el er = rw (el, er) (joins_of left_stands right_stands (open_sorted o (s.sound (at + 1) h)) o.fork.balanced)

    pub copy_done : (l r : ℕ) → l ≡ get_or places n.left 0 → r ≡ get_or places n.right 0 → (last : List (Node K V)) (root : ℕ) → Makes cmp 1 kept last root (pairs (tree_at kept l) ++ (n.key, n.value) ∷ pairs (tree_at kept r)) → height_of (tree_at last root) ≡ max (height_of (tree_at kept l)) (height_of (tree_at kept r)) + 1 → (then : List ℕ) → then ≡ places ++ root ∷ [] → Copies cmp nodes last marks then (at + 1)
    copy_done l r el er last root m hm then e =
        let made : Stands cmp last root (pairs (tree_at nodes n.left) ++ (n.key, n.value) ∷ pairs (tree_at nodes n.right)) (max (height_of (tree_at nodes n.left)) (height_of (tree_at nodes n.right)) + 1) =
        stands_joined (n.key, n.value) (rw el left_stands) (rw er right_stands) m hm in
        record {
          long = omega (arith, ap length e, length_push places root, c.long);
          few = omega (arith, m.grows.few, g.few, c.few);
          copied = λ i le k. elim (cases_eq i (at + 1)) [
            | inl same ↦
                let is : get_or then i 0 ≡ root = ap (λ z. get_or z i 0) e ∙ get_or_push places root 0 i (omega (arith, c.long)) in
                rw is (rw same (record { sound = made.sound; reads = made.reads ∙ sym (open_pairs o); height = made.height ∙ sym (open_height o) }))
            | inr ne ↦
                let le' : i ≤ at = omega arith in
                let is : get_or then i 0 ≡ get_or places i 0 = ap (λ z. get_or z i 0) e ∙ get_or_append_left places (root ∷ []) 0 i (omega (arith, c.long)) in
                let st = stands_kept m.grows (copy_stands i le' k) in
                rw is (record { sound = st.sound; reads = st.reads; height = st.height })
          ];
        }

pub none_marked : (n i : ℕ) → get_or (replicate n false) i false ≡ false
none_marked zero i = refl
none_marked (suc n) zero = refl
none_marked (suc n) (suc i) = none_marked n i

-- at the start only 0 is copied
pub copies_none : {K V : Type 0} (cmp : K → K → Ordering) (old new : List (Node K V)) (marks : List Bool) (places : List ℕ) → new ≡ [] → places ≡ 0 ∷ [] → Copies cmp old new marks places 0
copies_none cmp old new marks places e p = record {
  long = omega (arith, ap length p);
  few = omega (arith, ap length e);
  copied = λ root h m.
      let zero_root : root ≡ 0 = omega arith in
      rw (zero_root, p) (record {
        sound = record { named = omega arith; shaped = rw (tree_at-zero new) tt; ascending = rw (tree_at-zero new) tt };
        reads = ap pairs (tree_at-zero new) ∙ sym (ap pairs (tree_at-zero old));
        height = ap height_of (tree_at-zero new) ∙ sym (ap height_of (tree_at-zero old));
      });
}

-- one root more is moved
pub moves_push : {K V : Type 0} (cmp : K → K → Ordering) (old new : List (Node K V)) (roots moved : List Root) (i : ℕ) (root to : Root) → i < length roots → root ≡ get_or roots i root → length moved ≡ i → ((k : ℕ) (d e : Root) → k < i → Copied cmp old new (get_or roots k d).0 (get_or moved k e).0) → Copied cmp old new root.0 to.0
    → (k : ℕ) (d e : Root) → k < i + 1 → Copied cmp old new (get_or roots k d).0 (get_or (moved ++ to ∷ []) k e).0
moves_push cmp old new roots moved i root to h at len each c k d e lt = elim (cases_eq k i) [
  | inl same ↦
      let is : get_or (moved ++ to ∷ []) k e ≡ to = get_or_push moved to e k (omega arith) in
      let was : get_or roots k d ≡ root = ap (λ j. get_or roots j d) same ∙ sym (get_or_read roots i root h at d) in
      rw (is, was) c
  | inr ne ↦
      let below : k < i = omega arith in
      let is : get_or (moved ++ to ∷ []) k e ≡ get_or moved k e = get_or_append_left moved (to ∷ []) e k (omega arith) in
      rw is (each k d e below)
]

-- the place of a marked root is a copy of it
pub moved_root : {K V : Type 0} (cmp : K → K → Ordering) (old new : List (Node K V)) (marks : List Bool) (places : List ℕ) (root place : ℕ) → Copies cmp old new marks places (length old) → IsMarked marks root → root ≤ length old → place ≡ get_or places root place → Copied cmp old new root place
moved_root cmp old new marks places root place c m h e =
    let is : place ≡ get_or places root 0 = get_or_read places root place (omega (arith, c.long)) e 0 in
    rw is (c.copied root h m)
