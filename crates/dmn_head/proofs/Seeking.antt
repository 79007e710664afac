-- What the router's walk finds: a row whose pattern the path matches, and one wherever there is one.
use Rattle.std.proofs.Common.{◌≡◌, ◌≢◌, ◌⊎◌, ℕ, zero, suc, ◌+◌, ◌-◌, ◌<◌, ◌≤◌, true, false, Bool, cond, List, [], ◌∷◌, ◌++◌, length, drop, refl, sym, ap, ◌∙◌, subst, arith, inl, inr, Option, Some, None}
use Rattle.std.specs.Prelude.{◌&&◌, ◌==◌, ltb, nat_eq}
use Rattle.std.specs.List.{ends_with}
use Rattle.std.proofs.lemmas.Bool.{cases_Bool, cases_lt, eqb-true, eq-eqb, ltb-true, lt-ltb, le-ltb, and_parts, and_from}
use Rattle.std.proofs.lemmas.List.{length-append, length-drop, append-nil}
use Rattle.std.specs.Cmp.Lexicographic.{bytes_decides}
use Rattle.std.proofs.Math.Seq.{drop-append_seam, drop-length}
use Rattle.matchit.specs.Rows.{RowsOf, param_token, catch_all_token}
use Rattle.matchit.specs.Seek.{segment, has_slash, same_text, cuts, better, own, step, or_else, longest_from, longest_suffix, with_suffix, param_step, seek, first}

-- ---- rows

-- a row of this pattern and key
abbrev pub Lies : {K : Type 0} → RowsOf K → List ℕ → K → Type 0
Lies [] t k = ⊥
Lies (r ∷ rest) t k = ((r.0 ≡ t) × (r.1 ≡ k)) ⊎ Lies rest t k

-- The path matches the tokens: a byte is itself, and a parameter one byte or more, with no slash among them.
abbrev pub Matches : List ℕ → List ℕ → Type 0
Matches [] path = path ≡ []
Matches (x ∷ t) path =
    ((rest : List ℕ) × (path ≡ x ∷ rest) × Matches t rest)
    ⊎ ((x ≡ param_token) × (v rest : List ℕ) × (path ≡ v ++ rest) × (v ≢ []) × (has_slash v ≡ false) × Matches t rest)

-- nothing, or a slash
abbrev pub Follows : List ℕ → Type 0
Follows [] = Unit {0}
Follows (x ∷ t) = x ≡ 47

-- bytes, and parameters that are whole segments
abbrev pub IsWhole : List ℕ → Type 0
IsWhole [] = Unit {0}
IsWhole (x ∷ t) = (x ≤ param_token) × (x ≡ param_token → Follows t) × IsWhole t

abbrev pub AllWhole : {K : Type 0} → RowsOf K → Type 0
AllWhole [] = Unit {0}
AllWhole (r ∷ rest) = IsWhole r.0 × AllWhole rest

whole_of : {K : Type 0} (rs : RowsOf K) (t : List ℕ) (k : K) → AllWhole rs → Lies rs t k → IsWhole t
whole_of [] t k all lies = absurd lies
whole_of (r ∷ rest) t k all (inl here) = subst IsWhole here.0 all.0
whole_of (r ∷ rest) t k all (inr later) = whole_of rest t k all.1 later

-- ---- one token

kept_in : {K : Type 0} (test : Bool) (b x : ℕ) (t : List ℕ) (key : K) (rest : RowsOf K) (u : List ℕ) (k : K) → (test ≡ true → x ≡ b) → Lies (cond test ((t, key) ∷ rest) rest) u k → ((x ≡ b) × (t ≡ u) × (key ≡ k)) ⊎ Lies rest u k
kept_in true b x t key rest u k same (inl here) = inl (same refl, here.0, here.1)
kept_in true b x t key rest u k same (inr later) = inr later
kept_in false b x t key rest u k same lies = inr lies

cons_both : {x y : ℕ} {t u : List ℕ} → x ≡ y → t ≡ u → x ∷ t ≡ y ∷ u
cons_both e f = cc

-- a row that goes on with a token was there, with the token in front
pub step_back : {K : Type 0} (b : ℕ) (rs : RowsOf K) (u : List ℕ) (k : K) → Lies (step b rs) u k → Lies rs (b ∷ u) k
step_back b [] u k lies = absurd lies
step_back b (([], key) ∷ rest) u k lies = inr (step_back b rest u k lies)
step_back b ((x ∷ t, key) ∷ rest) u k lies = elim (kept_in (x == b) b x t key (step b rest) u k (eqb-true x b) lies) [
  | inl here ↦ inl (cons_both here.0 here.1, here.2)
  | inr later ↦ inr (step_back b rest u k later)
]

kept_on : {K : Type 0} (test : Bool) (t : List ℕ) (key : K) (rest : RowsOf K) (u : List ℕ) (k : K) → Lies rest u k → Lies (cond test ((t, key) ∷ rest) rest) u k
kept_on true t key rest u k lies = inr lies
kept_on false t key rest u k lies = lies

kept_here : {K : Type 0} (test : Bool) (t : List ℕ) (key : K) (rest : RowsOf K) (u : List ℕ) (k : K) → test ≡ true → t ≡ u → key ≡ k → Lies (cond test ((t, key) ∷ rest) rest) u k
kept_here true t key rest u k is e f = inl (e, f)
kept_here false t key rest u k is e f = let bad : ⊥ = cc in absurd bad

-- and the other way round
pub step_on : {K : Type 0} (b : ℕ) (rs : RowsOf K) (u : List ℕ) (k : K) → Lies rs (b ∷ u) k → Lies (step b rs) u k
step_on b [] u k lies = absurd lies
step_on b (([], key) ∷ rest) u k (inl here) = let bad : [] ≡ b ∷ u = here.0 in let no_way : ⊥ = cc in absurd no_way
step_on b (([], key) ∷ rest) u k (inr later) = step_on b rest u k later
step_on b ((x ∷ t, key) ∷ rest) u k (inl here) =
    let e : x ∷ t ≡ b ∷ u = here.0 in
    let head : x ≡ b = cc in
    let tail : t ≡ u = cc in
    kept_here (x == b) t key (step b rest) u k (eq-eqb x b head) tail here.1
step_on b ((x ∷ t, key) ∷ rest) u k (inr later) = kept_on (x == b) t key (step b rest) u k (step_on b rest u k later)

whole_if : {K : Type 0} (test : Bool) (t : List ℕ) (key : K) (rest : RowsOf K) → IsWhole t → AllWhole rest → AllWhole (cond test ((t, key) ∷ rest) rest)
whole_if true t key rest one all = (one, all)
whole_if false t key rest one all = all

step_whole : {K : Type 0} (b : ℕ) (rs : RowsOf K) → AllWhole rs → AllWhole (step b rs)
step_whole b [] all = tt
step_whole b (([], key) ∷ rest) all = step_whole b rest all.1
step_whole b ((x ∷ t, key) ∷ rest) all = whole_if (x == b) t key (step b rest) all.0.2 (step_whole b rest all.1)

-- ---- the row that ends here

own_back : {K : Type 0} (rs : RowsOf K) (k : K) → own rs ≡ Some k → Lies rs [] k
own_back [] k e = let bad : ⊥ = cc in absurd bad
own_back (([], key) ∷ rest) k e = inl (refl, cc e)
own_back ((x ∷ t, key) ∷ rest) k e = inr (own_back rest k e)

own_on : {K : Type 0} (rs : RowsOf K) (k : K) → Lies rs [] k → own rs ≢ None
own_on [] k lies e = absurd lies
own_on (([], key) ∷ rest) k lies e = cc
own_on ((x ∷ t, key) ∷ rest) k (inl here) e = let bad : x ∷ t ≡ [] = here.0 in let no_way : ⊥ = cc in absurd no_way
own_on ((x ∷ t, key) ∷ rest) k (inr later) e = own_on rest k later e

or_else_back : {K : Type 0} (a b : Option K) (k : K) → or_else a b ≡ Some k → (a ≡ Some k) ⊎ (b ≡ Some k)
or_else_back None b k e = inr e
or_else_back (Some x) b k e = inl e

or_else_none : {K : Type 0} (a b : Option K) → or_else a b ≡ None → (a ≡ None) × (b ≡ None)
or_else_none None b e = (refl, e)
or_else_none (Some x) b e = let bad : ⊥ = cc in absurd bad

-- ---- the walk skips bytes

seek_skip : {K : Type 0} (m : ℕ) (rs : RowsOf K) (path : List ℕ) → seek m rs path ≡ seek 0 rs (drop m path)
unfolding seek
seek_skip zero rs [] = refl
seek_skip zero rs (b ∷ path) = refl
seek_skip (suc m) rs [] = refl
seek_skip (suc m) rs (b ∷ path) = seek_skip m rs path

-- ---- segments

-- a text up to its first slash, and what follows that
pub record CutsAt (text w r : List ℕ) : Type 0 where
  pub whole : text ≡ w ++ 47 ∷ r
  pub free : has_slash w ≡ false
  pub front : segment text ≡ w ++ 47 ∷ []

cut_more : (b : ℕ) (text w r : List ℕ) → (b == 47) ≡ false → CutsAt text w r → CutsAt (b ∷ text) (b ∷ w) r
cut_more b text w r other cut = record {
  whole = ap (λ (l : List ℕ). b ∷ l) cut.whole;
  free = rw other cut.free;
  front = rw other (ap (λ (l : List ℕ). b ∷ l) cut.front);
}

cut_here : (b : ℕ) (text : List ℕ) → (b == 47) ≡ true → CutsAt (b ∷ text) [] text
cut_here b text same =
    let e : b ≡ 47 = eqb-true b 47 same in
    record { whole = ap (λ (n : ℕ). n ∷ text) e; free = refl; front = rw same (ap (λ (n : ℕ). n ∷ []) e) }

cut_of : (text : List ℕ) → has_slash text ≡ true → (w r : List ℕ) × CutsAt text w r
cut_of [] e = let bad : ⊥ = cc in absurd bad
cut_of (b ∷ text) e = elim (cases_Bool (b == 47)) [
  | inl same ↦ ([], text, cut_here b text same)
  | inr other ↦
      let rest = cut_of text (rw other at e) in
      (b ∷ rest.0, rest.1, cut_more b text rest.0 rest.1 other rest.2)
]

segment_free : (text : List ℕ) → has_slash text ≡ false → segment text ≡ text
segment_free [] e = refl
segment_free (b ∷ text) e = elim (cases_Bool (b == 47)) [
  | inl same ↦ let bad : true ≡ false = rw same at e in let no_way : ⊥ = cc in absurd no_way
  | inr other ↦ rw other (ap (λ (l : List ℕ). b ∷ l) (segment_free text (rw other at e)))
]

cut_from : (v r : List ℕ) → has_slash v ≡ false → CutsAt (v ++ 47 ∷ r) v r
cut_from [] r e = record { whole = refl; free = refl; front = refl }
cut_from (b ∷ v) r e = elim (cases_Bool (b == 47)) [
  | inl same ↦ let bad : true ≡ false = rw same at e in let no_way : ⊥ = cc in absurd no_way
  | inr other ↦ cut_more b (v ++ 47 ∷ r) v r other (cut_from v r (rw other at e))
]

slash_in : (v r : List ℕ) → has_slash (v ++ 47 ∷ r) ≡ true
slash_in [] r = refl
slash_in (b ∷ v) r = elim (cases_Bool (b == 47)) [
  | inl same ↦ rw same refl
  | inr other ↦ rw other (slash_in v r)
]

slash_behind : (n : ℕ) (text : List ℕ) → has_slash (drop n text) ≡ true → has_slash text ≡ true
slash_behind zero text e = e
slash_behind (suc n) [] e = e
slash_behind (suc n) (b ∷ text) e = elim (cases_Bool (b == 47)) [
  | inl same ↦ rw same refl
  | inr other ↦ rw other (slash_behind n text e)
]

-- ---- the longest suffix

better_is : (seg best suffix : List ℕ) → (better seg best suffix ≡ best) ⊎ ((better seg best suffix ≡ suffix) × (cuts seg suffix ≡ true))
better_is seg best suffix = elim (cases_Bool (ltb (length best) (length suffix) && cuts seg suffix)) [
  | inl is ↦ inr (rw is refl, (and_parts (ltb (length best) (length suffix)) (cuts seg suffix) is).1)
  | inr other ↦ inl (rw other refl)
]

better_long : (seg best suffix : List ℕ) → length best ≤ length (better seg best suffix)
better_long seg best suffix = elim (cases_Bool (ltb (length best) (length suffix) && cuts seg suffix)) [
  | inl is ↦ rw is (let more : length best < length suffix = ltb-true (length best) (length suffix) (and_parts (ltb (length best) (length suffix)) (cuts seg suffix) is).0 in omega (arith, more))
  | inr other ↦ rw other (omega arith)
]

better_takes : (seg best suffix : List ℕ) → cuts seg suffix ≡ true → length suffix ≤ length (better seg best suffix)
better_takes seg best suffix fits = elim (cases_lt (length best) (length suffix)) [
  | inl more ↦ rw (lt-ltb (length best) (length suffix) more, fits) (omega arith)
  | inr less ↦ rw (le-ltb (length best) (length suffix) less) less
]

pub longest_is : {K : Type 0} (seg best : List ℕ) (rs : RowsOf K)
    → (longest_from seg best rs ≡ best) ⊎ ((t : List ℕ) × (k : K) × Lies rs t k × (segment t ≡ longest_from seg best rs) × (cuts seg (longest_from seg best rs) ≡ true))
longest_is seg best [] = inl refl
longest_is seg best ((t, key) ∷ rest) = elim (longest_is seg (better seg best (segment t)) rest) [
  | inl same ↦ elim (better_is seg best (segment t)) [
    | inl old ↦ inl (same ∙ old)
    | inr new ↦ inr (t, key, inl (refl, refl), sym new.0 ∙ sym same, rw (same, new.0) new.1)
  ]
  | inr found ↦ inr (found.0, found.1, inr found.2, found.3, found.4)
]

longest_long : {K : Type 0} (seg best : List ℕ) (rs : RowsOf K) → length best ≤ length (longest_from seg best rs)
longest_long seg best [] = omega arith
longest_long seg best ((t, key) ∷ rest) =
    let a = better_long seg best (segment t) in
    let b = longest_long seg (better seg best (segment t)) rest in
    omega (arith, a, b)

pub longest_takes : {K : Type 0} (seg best : List ℕ) (rs : RowsOf K) (t : List ℕ) (k : K) → Lies rs t k → cuts seg (segment t) ≡ true → length (segment t) ≤ length (longest_from seg best rs)
longest_takes seg best [] t k lies fits = absurd lies
longest_takes seg best ((u, key) ∷ rest) t k (inl here) fits =
    let same : segment u ≡ segment t = ap segment here.0 in
    let a : length (segment t) ≤ length (better seg best (segment u)) = rw same (better_takes seg best (segment t) fits) in
    let b = longest_long seg (better seg best (segment u)) rest in
    omega (arith, a, b)
longest_takes seg best ((u, key) ∷ rest) t k (inr later) fits = longest_takes seg (better seg best (segment u)) rest t k later fits

-- ---- the rows with a suffix

suffix_back : {K : Type 0} (s : List ℕ) (rs : RowsOf K) (t : List ℕ) (k : K) → Lies (with_suffix s rs) t k → Lies rs t k
suffix_back s [] t k lies = absurd lies
suffix_back s ((u, key) ∷ rest) t k lies = elim (cases_Bool (same_text (segment u) s)) [
  | inl is ↦ elim (rw is at lies) [ inl here ↦ inl here | inr later ↦ inr (suffix_back s rest t k later) ]
  | inr other ↦ inr (suffix_back s rest t k (rw other at lies))
]

same_from : (a b : List ℕ) → a ≡ b → same_text a b ≡ true
same_from a b e = (bytes_decides a b).1 e

suffix_on : {K : Type 0} (s : List ℕ) (rs : RowsOf K) (t : List ℕ) (k : K) → segment t ≡ s → Lies rs t k → Lies (with_suffix s rs) t k
suffix_on s [] t k e lies = absurd lies
suffix_on s ((u, key) ∷ rest) t k e (inl here) = kept_here (same_text (segment u) s) u key (with_suffix s rest) t k (same_from (segment u) s (ap segment here.0 ∙ e)) here.0 here.1
suffix_on s ((u, key) ∷ rest) t k e (inr later) = kept_on (same_text (segment u) s) u key (with_suffix s rest) t k (suffix_on s rest t k e later)

suffix_whole : {K : Type 0} (s : List ℕ) (rs : RowsOf K) → AllWhole rs → AllWhole (with_suffix s rs)
suffix_whole s [] all = tt
suffix_whole s ((u, key) ∷ rest) all = whole_if (same_text (segment u) s) u key (with_suffix s rest) all.0 (suffix_whole s rest all.1)

-- ---- one parameter

follow_segment : (t : List ℕ) → Follows t → (t ≡ []) ⊎ ((segment t ≡ 47 ∷ []) × (rest : List ℕ) × (t ≡ 47 ∷ rest))
follow_segment [] e = inl refl
follow_segment (x ∷ t) e = inr (rw e refl, t, ap (λ (n : ℕ). n ∷ t) e)

-- every row here follows a parameter
abbrev pub AllFollow : {K : Type 0} → RowsOf K → Type 0
AllFollow [] = Unit {0}
AllFollow (r ∷ rest) = Follows r.0 × AllFollow rest

follows_of : {K : Type 0} (rs : RowsOf K) (t : List ℕ) (k : K) → AllFollow rs → Lies rs t k → Follows t
follows_of [] t k all lies = absurd lies
follows_of (r ∷ rest) t k all (inl here) = subst Follows here.0 all.0
follows_of (r ∷ rest) t k all (inr later) = follows_of rest t k all.1 later

follow_if : {K : Type 0} (b x : ℕ) (t : List ℕ) (key : K) (rest : RowsOf K) (test : Bool) → (test ≡ true → Follows t) → AllFollow rest → AllFollow (cond test ((t, key) ∷ rest) rest)
follow_if b x t key rest true one all = (one refl, all)
follow_if b x t key rest false one all = all

step_follow : {K : Type 0} (rs : RowsOf K) → AllWhole rs → AllFollow (step param_token rs)
step_follow [] all = tt
step_follow (([], key) ∷ rest) all = step_follow rest all.1
step_follow ((x ∷ t, key) ∷ rest) all = follow_if x param_token t key (step param_token rest) (x == param_token) (λ e. all.0.1 (eqb-true x param_token e)) (step_follow rest all.1)

param_cut : {K : Type 0} (rs : RowsOf K) (path : List ℕ) → ltb 0 (length (longest_suffix (segment path) rs)) ≡ true → param_step rs path ≡ (length (segment path) - length (longest_suffix (segment path) rs), with_suffix (longest_suffix (segment path) rs) rs)
unfolding param_step
param_cut rs path e = rw e refl

param_stuck : {K : Type 0} (rs : RowsOf K) (path : List ℕ) → ltb 0 (length (longest_suffix (segment path) rs)) ≡ false → has_slash path ≡ true → param_step rs path ≡ (0, [])
unfolding param_step
param_stuck rs path e f = rw (e, f) refl

param_all : {K : Type 0} (rs : RowsOf K) (path : List ℕ) → ltb 0 (length (longest_suffix (segment path) rs)) ≡ false → has_slash path ≡ false → param_step rs path ≡ (length path, rs)
unfolding param_step
param_all rs path e f = rw (e, f) refl

-- a suffix that is found is a slash, and the path has one behind a byte or more
pub record Slashed (path suffix : List ℕ) : Type 0 where
  pub is : suffix ≡ 47 ∷ []
  pub w : List ℕ
  pub r : List ℕ
  pub cut : CutsAt path w r
  pub some : 0 < length w

slash_cuts : (path : List ℕ) → cuts (segment path) (47 ∷ []) ≡ true → has_slash path ≡ true
slash_cuts path e = elim (cases_Bool (has_slash path)) [
  | inl is ↦ is
  | inr free ↦
      let p = and_parts (ltb 1 (length (segment path))) (ends_with nat_eq (segment path) (47 ∷ [])) e in
      let last : 47 ∷ [] ≡ drop (length (segment path) - 1) (segment path) = (bytes_decides (47 ∷ []) (drop (length (segment path) - 1) (segment path))).0 p.1 in
      let there : has_slash (drop (length (segment path) - 1) (segment path)) ≡ true = sym (ap has_slash last) in
      let bad : true ≡ false = sym (slash_behind (length (segment path) - 1) (segment path) there) ∙ ap has_slash (segment_free path free) ∙ free in
      let no_way : ⊥ = cc in absurd no_way
]

slashed : {K : Type 0} (rs : RowsOf K) (path : List ℕ) → AllFollow rs → ltb 0 (length (longest_suffix (segment path) rs)) ≡ true → Slashed path (longest_suffix (segment path) rs)
slashed rs path all e = elim (longest_is (segment path) [] rs) [
  | inl none ↦ let bad : 0 < 0 = ltb-true 0 0 (sym (ap (λ (l : List ℕ). ltb 0 (length l)) none) ∙ e) in absurd (omega (arith, bad))
  | inr found ↦ elim (follow_segment found.0 (follows_of rs found.0 found.1 all found.2)) [
    | inl none ↦
        let empty : [] ≡ longest_suffix (segment path) rs = sym (ap segment none) ∙ found.3 in
        let bad : 0 < 0 = ltb-true 0 0 (ap (λ (l : List ℕ). ltb 0 (length l)) empty ∙ e) in absurd (omega (arith, bad))
    | inr one ↦
        let is : longest_suffix (segment path) rs ≡ 47 ∷ [] = sym found.3 ∙ one.0 in
        let fits : cuts (segment path) (47 ∷ []) ≡ true = rw is at found.4 in
        let cut = cut_of path (slash_cuts path fits) in
        let long : 1 < length (segment path) = ltb-true 1 (length (segment path)) (and_parts (ltb 1 (length (segment path))) (ends_with nat_eq (segment path) (47 ∷ [])) fits).0 in
        record { is = is; w = cut.0; r = cut.1; cut = cut.2; some = omega (arith, long, ap length cut.2.front, length-append cut.0 (47 ∷ [])) }
  ]
]

-- what is left of a path behind its first value
behind_value : (b : ℕ) (path w r : List ℕ) → b ∷ path ≡ w ++ r → 0 < length w → drop (length w - 1) path ≡ r
behind_value b path [] r e some = absurd (omega (arith, some))
behind_value b path (x ∷ w) r e some =
    let same : path ≡ w ++ r = cc in
    let n : length (x ∷ w) - 1 ≡ length w = omega arith in
    ap (λ (m : ℕ). drop m path) n ∙ ap (λ (l : List ℕ). drop (length w) l) same ∙ drop-append_seam w r

-- a row that a value and what follows it match
pub record Taken {K : Type 0} (rs : RowsOf K) (path : List ℕ) (k : K) : Type 0 where
  pub t : List ℕ
  pub lies : Lies rs t k
  pub v : List ℕ
  pub rest : List ℕ
  pub cut : path ≡ v ++ rest
  pub some : v ≢ []
  pub free : has_slash v ≡ false
  pub matches : Matches t rest

abbrev pub Found : {K : Type 0} → RowsOf K → List ℕ → K → Type 0
Found rs path k = (t : List ℕ) × Lies rs t k × Matches t path

some_bytes : (w : List ℕ) → 0 < length w → w ≢ []
some_bytes w some e = omega (arith, some, ap length e)

value_found : {K : Type 0} (ps : RowsOf K) (b : ℕ) (path : List ℕ) (k : K) → AllWhole ps → AllFollow ps
    → ((rs : RowsOf K) (p : List ℕ) → length p ≤ length path → AllWhole rs → seek 0 rs p ≡ Some k → Found rs p k)
    → seek ((param_step ps (b ∷ path)).0 - 1) (param_step ps (b ∷ path)).1 path ≡ Some k → Taken ps (b ∷ path) k
value_found {K} ps b path k whole follow ih e =
    let S : List ℕ = longest_suffix (segment (b ∷ path)) ps in
    elim (cases_Bool (ltb 0 (length S))) [
      | inl cut ↦
          let f = slashed ps (b ∷ path) follow cut in
          let now = param_cut ps (b ∷ path) cut in
          let n : length (segment (b ∷ path)) - length S ≡ length f.w = omega (arith, ap length f.cut.front, ap length f.is, length-append f.w (47 ∷ [])) in
          let a : seek (length f.w - 1) (with_suffix S ps) path ≡ Some k = sym (ap (λ (m : ℕ). seek (m - 1) (with_suffix S ps) path) n) ∙ sym (ap (λ (q : ℕ × RowsOf K). seek (q.0 - 1) q.1 path) now) ∙ e in
          let left = behind_value b path f.w (47 ∷ f.r) f.cut.whole f.some in
          let c : seek 0 (with_suffix S ps) (47 ∷ f.r) ≡ Some k = sym (ap (λ (l : List ℕ). seek 0 (with_suffix S ps) l) left) ∙ sym (seek_skip (length f.w - 1) (with_suffix S ps) path) ∙ a in
          let found = ih (with_suffix S ps) (47 ∷ f.r) (omega (arith, ap length left, length-drop (length f.w - 1) path)) (suffix_whole S ps whole) c in
          record { t = found.0; lies = suffix_back S ps found.0 k found.1; v = f.w; rest = 47 ∷ f.r; cut = f.cut.whole; some = some_bytes f.w f.some; free = f.cut.free; matches = found.2 }
      | inr none ↦ elim (cases_Bool (has_slash (b ∷ path))) [
        | inl stuck ↦
            let a : seek 0 [] path ≡ Some k = sym (ap (λ (q : ℕ × RowsOf K). seek (q.0 - 1) q.1 path) (param_stuck ps (b ∷ path) none stuck)) ∙ e in
            let found = ih [] path (omega arith) tt a in absurd found.1
        | inr free ↦
            let one : length (b ∷ path) - 1 ≡ length path = omega arith in
            let a : seek (length path) ps path ≡ Some k = sym (ap (λ (m : ℕ). seek m ps path) one) ∙ sym (ap (λ (q : ℕ × RowsOf K). seek (q.0 - 1) q.1 path) (param_all ps (b ∷ path) none free)) ∙ e in
            let c : seek 0 ps [] ≡ Some k = sym (ap (λ (l : List ℕ). seek 0 ps l) (drop-length path)) ∙ sym (seek_skip (length path) ps path) ∙ a in
            let found = ih ps [] (omega arith) whole c in
            record { t = found.0; lies = found.1; v = b ∷ path; rest = []; cut = sym (append-nil (b ∷ path)); some = λ bad. cc; free = free; matches = found.2 }
      ]
    ]

no_catch : {K : Type 0} (rs : RowsOf K) (k : K) → AllWhole rs → own (step catch_all_token rs) ≡ Some k → ⊥
no_catch rs k all e =
    let w = whole_of rs (catch_all_token ∷ []) k all (step_back catch_all_token rs [] k (own_back (step catch_all_token rs) k e)) in
    omega (arith, w.0)

-- What is found has a row whose pattern the path matches.
found_within : {K : Type 0} (n : ℕ) (rs : RowsOf K) (path : List ℕ) (k : K) → length path ≤ n → AllWhole rs → seek 0 rs path ≡ Some k → Found rs path k
unfolding seek
found_within n rs [] k fits whole e = ([], own_back rs k e, refl)
found_within zero rs (b ∷ path) k fits whole e = absurd (omega (arith, fits))
found_within {K} (suc n) rs (b ∷ path) k fits whole e =
    let ps : RowsOf K = step param_token rs in
    elim (or_else_back (seek 0 (step b rs) path) _ k e) [
      | inl literal ↦
          let found = found_within n (step b rs) path k (omega (arith, fits)) (step_whole b rs whole) literal in
          (b ∷ found.0, step_back b rs found.0 k found.1, inl (path, refl, found.2))
      | inr other ↦ elim (or_else_back (seek ((param_step ps (b ∷ path)).0 - 1) (param_step ps (b ∷ path)).1 path) (own (step catch_all_token rs)) k other) [
        | inl param ↦
            let t = value_found ps b path k (step_whole param_token rs whole) (step_follow rs whole) (λ qs p le all is. found_within n qs p k (omega (arith, fits, le)) all is) param in
            (param_token ∷ t.t, step_back param_token rs t.t k t.lies, inr (refl, t.v, t.rest, t.cut, t.some, t.free, t.matches))
        | inr rest ↦ absurd (no_catch rs k whole rest)
      ]
    ]

pub found_in : {K : Type 0} (rs : RowsOf K) (path : List ℕ) (k : K) → AllWhole rs → first rs path ≡ Some k → Found rs path k
found_in rs path k whole e = found_within (length path) rs path k (omega arith) whole e

-- ---- nothing is missed

-- a text that begins with a slash
abbrev Slash : ℕ → List ℕ → List ℕ → Type 0
Slash x t rest = (r : List ℕ) × (rest ≡ 47 ∷ r)

slash_of : (x : ℕ) (t rest : List ℕ) → x ≡ 47 → Matches (x ∷ t) rest → Slash x t rest
slash_of x t rest e (inl m) = (m.0, m.1 ∙ ap (λ (n : ℕ). n ∷ m.0) e)
slash_of x t rest e (inr m) = absurd (omega (arith, e, m.0))

tail_segment : (x : ℕ) (t : List ℕ) → x ≡ 47 → segment (x ∷ t) ≡ 47 ∷ []
tail_segment x t e = rw e refl

positive : (v : List ℕ) → v ≢ [] → 0 < length v
positive [] some = absurd (some refl)
positive (x ∷ v) some = omega arith

front_empty : (v rest : List ℕ) → v ++ rest ≡ [] → v ≡ []
front_empty [] rest e = refl
front_empty (x ∷ v) rest e = let bad : ⊥ = cc in absurd bad

cuts_slash : (v : List ℕ) → 0 < length v → cuts (v ++ 47 ∷ []) (47 ∷ []) ≡ true
cuts_slash v some =
    let long : length (v ++ 47 ∷ []) ≡ length v + 1 = length-append v (47 ∷ []) in
    let n : length (v ++ 47 ∷ []) - 1 ≡ length v = omega (arith, long) in
    let ends : drop (length (v ++ 47 ∷ []) - 1) (v ++ 47 ∷ []) ≡ 47 ∷ [] = ap (λ (m : ℕ). drop m (v ++ 47 ∷ [])) n ∙ drop-append_seam v (47 ∷ []) in
    and_from (ltb 1 (length (v ++ 47 ∷ []))) (ends_with nat_eq (v ++ 47 ∷ []) (47 ∷ [])) (lt-ltb 1 (length (v ++ 47 ∷ [])) (omega (arith, long, some))) ((bytes_decides (47 ∷ []) (drop (length (v ++ 47 ∷ []) - 1) (v ++ 47 ∷ []))).1 (sym ends))

value_missed : {K : Type 0} (ps : RowsOf K) (b : ℕ) (path t v rest : List ℕ) (k : K) → AllWhole ps → AllFollow ps
    → ((rs : RowsOf K) (p : List ℕ) → length p ≤ length path → AllWhole rs → Lies rs t k → Matches t p → seek 0 rs p ≢ None)
    → Lies ps t k → b ∷ path ≡ v ++ rest → v ≢ [] → has_slash v ≡ false → Matches t rest → Follows t
    → seek ((param_step ps (b ∷ path)).0 - 1) (param_step ps (b ∷ path)).1 path ≢ None
value_missed {K} ps b path [] v rest k whole follow ih lies cut some free matches follows e =
    let S : List ℕ = longest_suffix (segment (b ∷ path)) ps in
    let all : b ∷ path ≡ v = cut ∙ ap (λ (l : List ℕ). v ++ l) matches ∙ append-nil v in
    let none : has_slash (b ∷ path) ≡ false = ap has_slash all ∙ free in
    elim (cases_Bool (ltb 0 (length S))) [
      | inl is ↦
          let f = slashed ps (b ∷ path) follow is in
          let bad : true ≡ false = sym (slash_in f.w f.r) ∙ sym (ap has_slash f.cut.whole) ∙ none in
          let no_way : ⊥ = cc in no_way
      | inr not_cut ↦
          let one : length (b ∷ path) - 1 ≡ length path = omega arith in
          let a : seek (length path) ps path ≡ None = sym (ap (λ (m : ℕ). seek m ps path) one) ∙ sym (ap (λ (q : ℕ × RowsOf K). seek (q.0 - 1) q.1 path) (param_all ps (b ∷ path) not_cut none)) ∙ e in
          let c : seek 0 ps [] ≡ None = sym (ap (λ (l : List ℕ). seek 0 ps l) (drop-length path)) ∙ sym (seek_skip (length path) ps path) ∙ a in
          ih ps [] (omega arith) whole lies refl c
    ]
value_missed {K} ps b path (x ∷ t) v rest k whole follow ih lies cut some free matches follows e =
    let S : List ℕ = longest_suffix (segment (b ∷ path)) ps in
    let slash : Slash x t rest = slash_of x t rest follows matches in
    let at : CutsAt (b ∷ path) v slash.0 = subst (λ (l : List ℕ). CutsAt l v slash.0) (sym (cut ∙ ap (λ (l : List ℕ). v ++ l) slash.1)) (cut_from v slash.0 free) in
    let long : 0 < length v = positive v some in
    let fits : cuts (segment (b ∷ path)) (segment (x ∷ t)) ≡ true = rw (at.front, tail_segment x t follows) (cuts_slash v long) in
    let size = longest_takes (segment (b ∷ path)) [] ps (x ∷ t) k lies fits in
    let is : ltb 0 (length S) ≡ true = lt-ltb 0 (length S) (omega (arith, size, ap length (tail_segment x t follows))) in
    let f = slashed ps (b ∷ path) follow is in
    let n : length (segment (b ∷ path)) - length S ≡ length v = omega (arith, ap length at.front, ap length f.is, length-append v (47 ∷ [])) in
    let a : seek (length v - 1) (with_suffix S ps) path ≡ None = sym (ap (λ (m : ℕ). seek (m - 1) (with_suffix S ps) path) n) ∙ sym (ap (λ (q : ℕ × RowsOf K). seek (q.0 - 1) q.1 path) (param_cut ps (b ∷ path) is)) ∙ e in
    let left : drop (length v - 1) path ≡ rest = behind_value b path v rest cut long in
    let c : seek 0 (with_suffix S ps) rest ≡ None = sym (ap (λ (l : List ℕ). seek 0 (with_suffix S ps) l) left) ∙ sym (seek_skip (length v - 1) (with_suffix S ps) path) ∙ a in
    ih (with_suffix S ps) rest (omega (arith, ap length left, length-drop (length v - 1) path)) (suffix_whole S ps whole) (suffix_on S ps (x ∷ t) k (tail_segment x t follows ∙ sym f.is) lies) matches c

missed_within : {K : Type 0} (n : ℕ) (rs : RowsOf K) (path t : List ℕ) (k : K) → length path ≤ n → AllWhole rs → Lies rs t k → Matches t path → seek 0 rs path ≢ None
unfolding seek
missed_within n rs [] [] k fits whole lies matches e = own_on rs k lies e
missed_within n rs [] (x ∷ t) k fits whole lies (inl m) e = let bad : [] ≡ x ∷ m.0 = m.1 in let no_way : ⊥ = cc in no_way
missed_within n rs [] (x ∷ t) k fits whole lies (inr m) e = m.4 (front_empty m.1 m.2 (sym m.3))
missed_within zero rs (b ∷ path) t k fits whole lies matches e = absurd (omega (arith, fits))
missed_within (suc n) rs (b ∷ path) [] k fits whole lies matches e = let bad : b ∷ path ≡ [] = matches in let no_way : ⊥ = cc in no_way
missed_within (suc n) rs (b ∷ path) (x ∷ t) k fits whole lies (inl m) e =
    let one : b ∷ path ≡ x ∷ m.0 = m.1 in
    let head : x ≡ b = cc in
    let rest : m.0 ≡ path = cc in
    let none = or_else_none (seek 0 (step b rs) path) _ e in
    let there : Lies (step b rs) t k = step_on b rs t k (subst (λ (y : ℕ). Lies rs (y ∷ t) k) head lies) in
    missed_within n (step b rs) path t k (omega (arith, fits)) (step_whole b rs whole) there (subst (λ (l : List ℕ). Matches t l) rest m.2) none.0
missed_within {K} (suc n) rs (b ∷ path) (x ∷ t) k fits whole lies (inr m) e =
    let ps : RowsOf K = step param_token rs in
    let none = or_else_none (seek 0 (step b rs) path) _ e in
    let last = or_else_none (seek ((param_step ps (b ∷ path)).0 - 1) (param_step ps (b ∷ path)).1 path) (own (step catch_all_token rs)) none.1 in
    let there : Lies ps t k = step_on param_token rs t k (subst (λ (y : ℕ). Lies rs (y ∷ t) k) m.0 lies) in
    let follows : Follows t = (whole_of rs (x ∷ t) k whole lies).1 m.0 in
    value_missed ps b path t m.1 m.2 k (step_whole param_token rs whole) (step_follow rs whole) (λ qs p le all at ms. missed_within n qs p t k (omega (arith, fits, le)) all at ms) there m.3 m.4 m.5 m.6 follows last.0

pub missed_in : {K : Type 0} (rs : RowsOf K) (path t : List ℕ) (k : K) → AllWhole rs → Lies rs t k → Matches t path → first rs path ≢ None
missed_in rs path t k whole lies matches = missed_within (length path) rs path t k (omega arith) whole lies matches
