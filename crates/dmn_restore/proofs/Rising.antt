-- The trees of one height more.
use Rattle.std.proofs.Common.{◌≡◌, ◌+◌, ◌<◌, ◌≤◌, ◌⊎◌, ℕ, suc, List, [], ◌∷◌, ◌++◌, length, get_or, drop, map, refl, sym, ap, ◌∙◌, subst, arith, inl, inr, append_assoc, append-nil, length-append}
use Rattle.std.specs.List.{All}
use Rattle.std.proofs.lemmas.List.{drop_all, get_or_append_left, get_or_push, length-map, map-append}
use Rattle.std.proofs.lemmas.List.Elements.{All-head, All-nil, All-push, All-tail, All-weaker}
use Rattle.dmn_held.specs.declared.data.HeightData.{HeightData}
use Rattle.dmn_indexes.specs.declared.indexes.Indexes.{Indexes}
use Rattle.dmn_indexes.specs.declared.version.Version.{Version}
use Rattle.dmn_indexes.specs.Marks.{IsBelow, marks_of}
use Rattle.dmn_indexes.specs.Version.{IsWhole, Keeps, outputs_in, rows_in}
use Rattle.dmn_indexes.proofs.Cutting.{whole_below}
use Rattle.dmn_indexes.proofs.Whole.{rows_ascend, outputs_ascend}
use Rattle.dmn_rows.specs.declared.row.MnRow.{MnRow}
use Rattle.dmn_rows.specs.Listing.{IsAscending, Listing, OutputsAscend}
use Rattle.dmn_rows.specs.Rows.{Outputs}
use Rattle.dmn_versions.specs.Trees.{reads}
use Rattle.dmn_restore.specs.declared.making.Marked.{Marked}
use Rattle.dmn_restore.specs.Lists.{lists_behind, next_list}
use Rattle.dmn_restore.specs.Proper.{AreProper, HasPenaltiesTo, IsProper}
use Rattle.dmn_restore.specs.Restored.{AreSound, list_in, listing_in}
use Rattle.dmn_restore.proofs.Steps.{cons_at}

-- ---- lists

pub proper_more : (n : ℕ) (xs : List Listing) (y : Listing) → AreProper n xs → IsProper (n + length xs) y → AreProper n (xs ++ y ∷ [])
proper_more n [] y all proper = (subst (λ (k : ℕ). IsProper k y) (omega arith) proper, tt)
proper_more n (x ∷ xs) y all proper = (all.0, proper_more (suc n) xs y all.1 (subst (λ (k : ℕ). IsProper k y) (omega arith) proper))

pub proper_at : (n : ℕ) (xs : List Listing) (y : Listing) (ys : List Listing) → AreProper n (xs ++ y ∷ ys) → IsProper (n + length xs) y
proper_at n [] y ys all = subst (λ (k : ℕ). IsProper k y) (omega arith) all.0
proper_at n (x ∷ xs) y ys all = subst (λ (k : ℕ). IsProper k y) (omega arith) (proper_at (suc n) xs y ys all.1)

-- rows and outputs of whole versions ascend
pub version_rows : (ix : Indexes) (v : Version) → IsWhole ix v → IsAscending (rows_in ix v)
version_rows ix v whole = rows_ascend whole

pub version_outputs : (ix : Indexes) (v : Version) → IsWhole ix v → OutputsAscend (outputs_in ix v)
version_outputs ix v whole = outputs_ascend (reads ix.outputs v.outputs) whole.outputs.ascending

-- ---- versions in arenas that grow

pub lists_kept : (ix iy : Indexes) → Keeps ix iy → (vs : List Marked) → All (λ (m : Marked). IsWhole ix m.version) vs → map (list_in iy) vs ≡ map (list_in ix) vs
lists_kept ix iy keeps [] all = refl
lists_kept ix iy keeps (m ∷ vs) all =
    let stays = keeps m.version (All-head (λ (m : Marked). IsWhole ix m.version) m vs all) in
    ap (λ (l : List Listing). list_in iy m ∷ l) (lists_kept ix iy keeps vs (All-tail (λ (m : Marked). IsWhole ix m.version) m vs all))
    ∙ ap (λ (rows : List MnRow). record { rows = rows; outputs = outputs_in iy m.version } ∷ map (list_in ix) vs) stays.rows
    ∙ ap (λ (outputs : Outputs). record { rows = rows_in ix m.version; outputs = outputs } ∷ map (list_in ix) vs) stays.outputs

le_cases : (a n : ℕ) → a < n + 1 → (a < n) ⊎ (a ≡ n)
le_cases a n lt = grind arith

pub sound_kept : (ix iy : Indexes) → Keeps ix iy → (vs : List Marked) → AreSound ix vs → AreSound iy vs
sound_kept ix iy keeps vs s = record { whole = λ k d lt. (keeps (get_or vs k d).version (s.whole k d lt)).whole; below = s.below }

pub sound_more : (ix : Indexes) (vs : List Marked) (next : Marked) → IsWhole ix next.version → next.marks ≡ marks_of ix → AreSound ix vs → AreSound ix (vs ++ next ∷ [])
sound_more ix vs next whole marks s = record {
  whole = All-push (λ (m : Marked). IsWhole ix m.version) vs next s.whole whole;
  below = λ i j d le lt. at i j d le (le_cases j (length vs) (omega (arith, lt, length-append vs (next ∷ []))));
}
  where
    here : (i : ℕ) (d : Marked) → i < length vs → get_or (vs ++ next ∷ []) i d ≡ get_or vs i d
    here i d lt = get_or_append_left vs (next ∷ []) d i lt

    end : (i : ℕ) (d : Marked) → i ≡ length vs → get_or (vs ++ next ∷ []) i d ≡ next
    end i d is = get_or_push vs next d i (sym is)

    under : (i : ℕ) (d : Marked) → (i < length vs) ⊎ (i ≡ length vs) → IsBelow next.marks (get_or (vs ++ next ∷ []) i d).version
    under i d (inl lt) = rw (here i d lt, marks) (whole_below ix (get_or vs i d).version (s.whole i d lt))
    under i d (inr is) = rw (end i d is, marks) (whole_below ix next.version whole)

    at : (i j : ℕ) (d : Marked) → i ≤ j → (j < length vs) ⊎ (j ≡ length vs) → IsBelow (get_or (vs ++ next ∷ []) j d).marks (get_or (vs ++ next ∷ []) i d).version
    at i j d le (inl lt) = rw (here j d lt, here i d (omega (arith, le, lt))) (s.below i j d le lt)
    at i j d le (inr is) = rw (end j d is) (under i d (le_cases i (length vs) (omega (arith, le, is))))

-- ---- up to a height

-- the trees up to a height are made, and these are the lists that are made in all
pub record IsUp (low place height : ℕ) (ix : Indexes) (vs : List Marked) (last : Version) (heights : List HeightData) (all : List Listing) : Type 0 where
  pub lists : map (list_in ix) vs ++ lists_behind (listing_in ix last) (drop place heights) ≡ all
  pub proper : AreProper low (map (list_in ix) vs)
  pub sound : AreSound ix vs
  pub long : length vs ≡ place + 1
  pub height_is : height ≡ low + place
  pub whole : IsWhole ix last
  pub penalties : HasPenaltiesTo height (rows_in ix last)

-- the lists from this one on
abbrev pub lists_from : Listing → List HeightData → List Listing
lists_from first heights = first ∷ lists_behind first heights

pub begins : (low : ℕ) (ix : Indexes) (lowest : Marked) (heights : List HeightData) → IsWhole ix lowest.version → lowest.marks ≡ marks_of ix → IsProper low (list_in ix lowest) → IsUp low 0 low ix (lowest ∷ []) lowest.version heights (lists_from (list_in ix lowest) heights)
begins low ix lowest heights whole marks proper = record {
  lists = refl;
  proper = (proper, tt);
  sound = sound_more ix [] lowest whole marks (record { whole = All-nil (λ (m : Marked). IsWhole ix m.version); below = λ i j d le lt. absurd (omega (arith, lt)) });
  long = refl;
  height_is = omega arith;
  whole = whole;
  penalties = proper.penalties;
}

-- what was made of one height more
pub record IsNext (height : ℕ) (ix iy : Indexes) (last : Version) (d : HeightData) (made : Marked) : Type 0 where
  pub list : list_in iy made ≡ next_list (listing_in ix last) d
  pub whole : IsWhole iy made.version
  pub proper : IsProper height (list_in iy made)
  pub marks : made.marks ≡ marks_of iy
  pub keeps : Keeps ix iy

pub goes_up : (low place height : ℕ) (ix iy : Indexes) (vs : List Marked) (last : Version) (heights : List HeightData) (all : List Listing) (d : HeightData) (made : Marked) → place < length heights → IsNext (height + 1) ix iy last (get_or heights place d) made → IsUp low place height ix vs last heights all
    → IsUp low (place + 1) (height + 1) iy (vs ++ made ∷ []) made.version heights all
goes_up low place height ix iy vs last heights all d made lt next up =
    let kept : map (list_in iy) vs ≡ map (list_in ix) vs = lists_kept ix iy next.keeps vs up.sound.whole in
    let joined : map (list_in iy) (vs ++ made ∷ []) ≡ map (list_in ix) vs ++ list_in iy made ∷ [] = map-append (list_in iy) vs (made ∷ []) ∙ ap (λ (l : List Listing). l ++ list_in iy made ∷ []) kept in
    let behind : List HeightData = drop (place + 1) heights in
    let many : length (map (list_in ix) vs) ≡ length vs = length-map vs (list_in ix) in
    record {
      lists =
          ap (λ (l : List Listing). l ++ lists_behind (list_in iy made) behind) joined
          ∙ append_assoc (map (list_in ix) vs) (list_in iy made ∷ []) (lists_behind (list_in iy made) behind)
          ∙ ap (λ (x : Listing). map (list_in ix) vs ++ x ∷ lists_behind x behind) next.list
          ∙ ap (λ (l : List HeightData). map (list_in ix) vs ++ lists_behind (listing_in ix last) l) (sym (cons_at heights place d lt))
          ∙ up.lists;
      proper = subst (AreProper low) (sym joined) (proper_more low (map (list_in ix) vs) (list_in iy made) up.proper (subst (λ (k : ℕ). IsProper k (list_in iy made)) (omega (arith, up.height_is, up.long, many)) next.proper));
      sound = sound_more iy vs made next.whole next.marks (sound_kept ix iy next.keeps vs up.sound);
      long = omega (arith, up.long, length-append vs (made ∷ []));
      height_is = omega (arith, up.height_is);
      whole = next.whole;
      penalties = next.proper.penalties;
    }

-- where all lists are proper, the next one is
pub proper_next : (low place height : ℕ) (ix : Indexes) (vs : List Marked) (last : Version) (heights : List HeightData) (all : List Listing) (d : HeightData) → place < length heights → IsUp low place height ix vs last heights all → AreProper low all → IsProper (height + 1) (next_list (listing_in ix last) (get_or heights place d))
proper_next low place height ix vs last heights all d lt up proper =
    let many : length (map (list_in ix) vs) ≡ length vs = length-map vs (list_in ix) in
    let next : Listing = next_list (listing_in ix last) (get_or heights place d) in
    subst (λ (k : ℕ). IsProper k next) (omega (arith, up.height_is, up.long, many))
    (proper_at low (map (list_in ix) vs) next (lists_behind next (drop (place + 1) heights))
    (subst (AreProper low) (sym up.lists ∙ ap (λ (l : List HeightData). map (list_in ix) vs ++ lists_behind (listing_in ix last) l) (cons_at heights place d lt)) proper))

pub later_penalties : (height : ℕ) (rows : List MnRow) → HasPenaltiesTo height rows → HasPenaltiesTo (height + 1) rows
later_penalties height rows all = All-weaker (λ (r : MnRow). r.penalty_at ≤ height) (λ (r : MnRow). r.penalty_at ≤ height + 1) (λ r le. omega (arith, le)) rows all

-- all are made
pub all_up : (low place height : ℕ) (ix : Indexes) (vs : List Marked) (last : Version) (heights : List HeightData) (all : List Listing) → length heights ≤ place → IsUp low place height ix vs last heights all → map (list_in ix) vs ≡ all
all_up low place height ix vs last heights all le up =
    sym (append-nil (map (list_in ix) vs))
    ∙ ap (λ (l : List HeightData). map (list_in ix) vs ++ lists_behind (listing_in ix last) l) (sym (drop_all place heights le))
    ∙ up.lists
