-- The parts of a path are what the router reads.
use Rattle.std.proofs.Common.{◌≡◌, ◌⊎◌, ℕ, zero, suc, ◌<◌, true, false, Bool, List, [], ◌∷◌, ◌++◌, length, drop, cond, get_or, refl, sym, ap, ◌∙◌, subst, arith, inl, inr, Option, Some, None, codes}
use Rattle.std.specs.Prelude.{◌==◌, ◌&&◌, ltb, option_map}
use Rattle.std.specs.Str.{IsAscii}
use Rattle.std.proofs.lemmas.Bool.{cases_Bool, and_parts, eqb-true, ltb-true}
use Rattle.matchit.proofs.OnLiterals.{matchit_on_literals}
use Rattle.matchit.specs.Router.{RouteOf}
use Rattle.matchit.specs.Rows.{RowsOf, param_token}
use Rattle.matchit.specs.Seek.{first, has_slash}
use Rattle.dmn_head.specs.declared.target.Target.{Target}
use Rattle.dmn_head.specs.declared.target.Target.TheVariants as targets
use Rattle.dmn_head.specs.Values.{NoSlash}
use Rattle.dmn_head.specs.Routes.{Part, word, value, parts_of, HasParts, Routed}
use Rattle.dmn_head.specs.Router.{the_rows, with_route, Seeks}
use Rattle.dmn_head.proofs.Seeking.{Lies, Matches, Follows, IsWhole, AllWhole, found_in, missed_in}

-- ---- slashes

pub no_slash : (text : List ℕ) → has_slash text ≡ false → NoSlash text
no_slash [] e k less bad = omega (arith, less)
no_slash (b ∷ text) e zero less bad = let one : (b == 47) ≡ true = rw bad refl in let no_way : true ≡ false = rw one at e in cc
no_slash (b ∷ text) e (suc k) less bad = elim (cases_Bool (b == 47)) [
  | inl same ↦ let no_way : true ≡ false = rw same at e in cc
  | inr other ↦ no_slash text (rw other at e) k (omega (arith, less)) bad
]

pub slash_free : (text : List ℕ) → NoSlash text → has_slash text ≡ false
slash_free [] none = refl
slash_free (b ∷ text) none = elim (cases_Bool (b == 47)) [
  | inl same ↦ absurd (none 0 (omega arith) (eqb-true b 47 same))
  | inr other ↦ rw other (slash_free text (λ k less. none (suc k) (omega (arith, less))))
]

-- ---- tokens

-- the tokens of a path's parts
abbrev pub tokens : List Part → List ℕ
tokens [] = []
tokens (word w ∷ more) = 47 ∷ (w ++ tokens more)
tokens (value ∷ more) = 47 ∷ param_token ∷ tokens more

abbrev pub AllBelow : List ℕ → Type 0
AllBelow [] = Unit {0}
AllBelow (b ∷ rest) = (b < 256) × AllBelow rest

-- the words are bytes
abbrev pub AreWords : List Part → Type 0
AreWords [] = Unit {0}
AreWords (word w ∷ more) = AllBelow w × AreWords more
AreWords (value ∷ more) = AreWords more

literal : (x : ℕ) (t path : List ℕ) → x < 256 → Matches (x ∷ t) path → (rest : List ℕ) × (path ≡ x ∷ rest) × Matches t rest
literal x t path small (inl m) = m
literal x t path small (inr m) = absurd (omega (arith, small, m.0))

literals : (w t path : List ℕ) → AllBelow w → Matches (w ++ t) path → (rest : List ℕ) × (path ≡ w ++ rest) × Matches t rest
literals [] t path small m = (path, refl, m)
literals (x ∷ w) t path small m =
    let one = literal x (w ++ t) path small.0 m in
    let rest = literals w t one.0 small.1 one.2 in
    (rest.0, one.1 ∙ ap (λ (l : List ℕ). x ∷ l) rest.1, rest.2)

literals_on : (w t path rest : List ℕ) → path ≡ w ++ rest → Matches t rest → Matches (w ++ t) path
literals_on [] t path rest e m = subst (λ (l : List ℕ). Matches t l) (sym e) m
literals_on (x ∷ w) t path rest e m = inl (w ++ rest, e, literals_on w t (w ++ rest) rest refl m)

below_behind : (v rest : List ℕ) → AllBelow (v ++ rest) → AllBelow rest
below_behind [] rest all = all
below_behind (x ∷ v) rest all = below_behind v rest all.1

value_back : (more : List Part) (path behind : List ℕ) → ((rest : List ℕ) → AllBelow rest → Matches (tokens more) rest → HasParts more rest) → path ≡ 47 ∷ behind → AllBelow behind → Matches (param_token ∷ tokens more) behind → HasParts (value ∷ more) path
value_back more path behind ih e small (inl m) = absurd (let one : AllBelow (param_token ∷ m.0) = subst AllBelow m.1 small in omega (arith, one.0))
value_back more path behind ih e small (inr m) =
    let all : path ≡ 47 ∷ (m.1 ++ m.2) = e ∙ ap (λ (l : List ℕ). 47 ∷ l) m.3 in
    (m.1, m.2, all, m.4, no_slash m.1 m.5, ih m.2 (below_behind m.1 m.2 (subst AllBelow m.3 small)) m.6)

parts_back : (parts : List Part) (path : List ℕ) → AreWords parts → AllBelow path → Matches (tokens parts) path → HasParts parts path
parts_back [] path words small m = m
parts_back (word w ∷ more) path words small m =
    let one = literal 47 (w ++ tokens more) path (omega arith) m in
    let rest = literals w (tokens more) one.0 words.0 one.2 in
    let all : path ≡ 47 ∷ (w ++ rest.0) = one.1 ∙ ap (λ (l : List ℕ). 47 ∷ l) rest.1 in
    (rest.0, all, parts_back more rest.0 words.1 (below_behind (47 ∷ w) rest.0 (subst AllBelow all small)) rest.2)
parts_back (value ∷ more) path words small m =
    let one = literal 47 (param_token ∷ tokens more) path (omega arith) m in
    let below : AllBelow (47 ∷ one.0) = subst AllBelow one.1 small in
    value_back more path one.0 (λ rest under ms. parts_back more rest words under ms) one.1 below.1 one.2

parts_on : (parts : List Part) (path : List ℕ) → HasParts parts path → Matches (tokens parts) path
parts_on [] path h = h
parts_on (word w ∷ more) path h = inl (w ++ h.0, h.1, literals_on w (tokens more) (w ++ h.0) h.0 refl (parts_on more h.0 h.2))
parts_on (value ∷ more) path h = inl (h.0 ++ h.1, h.2, inr (refl, h.0, h.1, refl, h.3, slash_free h.0 h.4, parts_on more h.1 h.5))

-- ---- the table

-- what the twelve routes are, as the router keeps them
abbrev pub IsRow : RowsOf (RouteOf Target) → List Target → Type 0
IsRow [] [] = Unit {0}
IsRow [] (t ∷ ts) = ⊥
IsRow (r ∷ rows) [] = ⊥
IsRow (r ∷ rows) (t ∷ ts) = (r.0 ≡ tokens (parts_of t)) × (r.1.value ≡ t) × IsRow rows ts

abbrev pub in_order : List Target
in_order = targets.Block ∷ targets.Diff ∷ targets.Disconnect ∷ targets.List ∷ targets.Members ∷ targets.Page ∷ targets.Payees ∷ targets.Pin ∷ targets.Quorums ∷ targets.Release ∷ targets.Row ∷ targets.Tip ∷ []

pub the_table : IsRow the_rows in_order
unfolding matchit_on_literals the_rows with_route
the_table = ((refl, refl, (refl, refl, (refl, refl, (refl, refl, (refl, refl, (refl, refl, (refl, refl, (refl, refl, (refl, refl, (refl, refl, (refl, refl, (refl, refl, tt)))))))))))))

row_target : (rows : RowsOf (RouteOf Target)) (ts : List Target) (t : List ℕ) (k : RouteOf Target) → IsRow rows ts → Lies rows t k → t ≡ tokens (parts_of k.value)
row_target [] ts t k is lies = absurd lies
row_target (r ∷ rows) [] t k is lies = absurd is
row_target (r ∷ rows) (u ∷ us) t k is (inl here) = sym here.0 ∙ is.0 ∙ ap (λ (v : Target). tokens (parts_of v)) (sym is.1 ∙ ap (λ (q : RouteOf Target). q.value) here.1)
row_target (r ∷ rows) (u ∷ us) t k is (inr later) = row_target rows us t k is.2 later

abbrev LiesIn : List Target → Target → Type 0
LiesIn [] t = ⊥
LiesIn (u ∷ us) t = (u ≡ t) ⊎ LiesIn us t

row_of : (rows : RowsOf (RouteOf Target)) (ts : List Target) (u : Target) → IsRow rows ts → LiesIn ts u → (k : RouteOf Target) × Lies rows (tokens (parts_of u)) k
row_of rows [] u is lies = absurd lies
row_of [] (t ∷ ts) u is lies = absurd is
row_of (r ∷ rows) (t ∷ ts) u is (inl here) = (r.1, inl (is.0 ∙ ap (λ (v : Target). tokens (parts_of v)) here, refl))
row_of (r ∷ rows) (t ∷ ts) u is (inr later) = let found = row_of rows ts u is.2 later in (found.0, inr found.1)

each_lies : (t : Target) → LiesIn in_order t
each_lies targets.Block = inl refl
each_lies targets.Diff = inr (inl refl)
each_lies targets.Disconnect = inr (inr (inl refl))
each_lies targets.List = inr (inr (inr (inl refl)))
each_lies targets.Members = inr (inr (inr (inr (inl refl))))
each_lies targets.Page = inr (inr (inr (inr (inr (inl refl)))))
each_lies targets.Payees = inr (inr (inr (inr (inr (inr (inl refl))))))
each_lies targets.Pin = inr (inr (inr (inr (inr (inr (inr (inl refl)))))))
each_lies targets.Quorums = inr (inr (inr (inr (inr (inr (inr (inr (inl refl))))))))
each_lies targets.Release = inr (inr (inr (inr (inr (inr (inr (inr (inr (inl refl)))))))))
each_lies targets.Row = inr (inr (inr (inr (inr (inr (inr (inr (inr (inr (inl refl))))))))))
each_lies targets.Tip = inr (inr (inr (inr (inr (inr (inr (inr (inr (inr (inr (inl refl)))))))))))

-- ---- what the router finds

abbrev below_test : List ℕ → Bool
below_test [] = true
below_test (b ∷ rest) = ltb b 256 && below_test rest

below_by : (text : List ℕ) → below_test text ≡ true → AllBelow text
below_by [] e = tt
below_by (b ∷ rest) e = let p = and_parts (ltb b 256) (below_test rest) e in (ltb-true b 256 p.0, below_by rest p.1)

words_of : (t : Target) → AreWords (parts_of t)
words_of targets.Block = (below_by (codes "block") refl, tt)
words_of targets.Diff = (below_by (codes "diff") refl, tt)
words_of targets.Disconnect = (below_by (codes "disconnect") refl, tt)
words_of targets.List = (below_by (codes "list") refl, tt)
words_of targets.Members = (below_by (codes "members") refl, tt)
words_of targets.Page = (below_by (codes "page") refl, tt)
words_of targets.Payees = (below_by (codes "payees") refl, tt)
words_of targets.Pin = (below_by (codes "pin") refl, tt)
words_of targets.Quorums = (below_by (codes "quorums") refl, tt)
words_of targets.Release = (below_by (codes "release") refl, tt)
words_of targets.Row = (below_by (codes "row") refl, tt)
words_of targets.Tip = (below_by (codes "tip") refl, tt)

follow_tokens : (parts : List Part) → Follows (tokens parts)
follow_tokens [] = tt
follow_tokens (word w ∷ more) = refl
follow_tokens (value ∷ more) = refl

whole_word : (w t : List ℕ) → AllBelow w → IsWhole t → IsWhole (w ++ t)
whole_word [] t small whole = whole
whole_word (x ∷ w) t small whole = (omega (arith, small.0), λ bad. absurd (omega (arith, bad, small.0)), whole_word w t small.1 whole)

whole_tokens : (parts : List Part) → AreWords parts → IsWhole (tokens parts)
whole_tokens [] words = tt
whole_tokens (word w ∷ more) words = (omega arith, λ bad. absurd (let no_way : 47 ≡ 256 = bad in omega (arith, no_way)), whole_word w (tokens more) words.0 (whole_tokens more words.1))
whole_tokens (value ∷ more) words = (omega arith, λ bad. absurd (let no_way : 47 ≡ 256 = bad in omega (arith, no_way)), (omega arith, λ same. follow_tokens more, whole_tokens more words))

whole_rows : (rows : RowsOf (RouteOf Target)) (ts : List Target) → IsRow rows ts → AllWhole rows
whole_rows [] ts is = tt
whole_rows (r ∷ rows) [] is = absurd is
whole_rows (r ∷ rows) (t ∷ ts) is = (subst IsWhole (sym is.0) (whole_tokens (parts_of t) (words_of t)), whole_rows rows ts is.2)

the_whole : AllWhole the_rows
the_whole = whole_rows the_rows in_order the_table

below_ascii : (text : List ℕ) → IsAscii text → AllBelow text
below_ascii [] ascii = tt
below_ascii (b ∷ rest) ascii = (omega (arith, ascii 0), below_ascii rest (λ k. ascii (suc k)))

found_parts : (path : List ℕ) (target : Target) (o : Option (RouteOf Target)) → IsAscii path → first the_rows path ≡ o → option_map (λ (r : RouteOf Target). r.value) o ≡ Some target → HasParts (parts_of target) path
found_parts path target None ascii e is = let bad : ⊥ = cc in absurd bad
found_parts path target (Some k) ascii e is =
    let found = found_in the_rows path k the_whole e in
    let same : k.value ≡ target = cc in
    let t : found.0 ≡ tokens (parts_of target) = row_target the_rows in_order found.0 k the_table found.1 ∙ ap (λ (v : Target). tokens (parts_of v)) same in
    parts_back (parts_of target) path (words_of target) (below_ascii path ascii) (subst (λ (l : List ℕ). Matches l path) t found.2)

pub seeks_routed : (path : List ℕ) (found : Option Target) → Seeks path found → Routed path found
seeks_routed path (Some target) s = (s.0, found_parts path target (first the_rows path) s.0 refl s.1)
seeks_routed path None (inl other) = inl other
seeks_routed path None (inr none) = inr (λ target h.
    let row = row_of the_rows in_order target the_table (each_lies target) in
    missed_in the_rows path (tokens (parts_of target)) row.0 the_whole row.1 (parts_on (parts_of target) path h) none)

-- ---- a path has one route

-- what stands before the first slash
abbrev before_slash : List ℕ → List ℕ
before_slash [] = []
before_slash (b ∷ rest) = cond (b == 47) [] (b ∷ before_slash rest)

-- the first word of these parts
abbrev front : List Part → List ℕ
front [] = []
front (word w ∷ more) = w
front (value ∷ more) = []

abbrev Ends : List ℕ → Type 0
Ends rest = (rest ≡ []) ⊎ ((r : List ℕ) × (rest ≡ 47 ∷ r))

ends_of : (parts : List Part) (rest : List ℕ) → HasParts parts rest → Ends rest
ends_of [] rest h = inl h
ends_of (word w ∷ more) rest h = inr (w ++ h.0, h.1)
ends_of (value ∷ more) rest h = inr (h.0 ++ h.1, h.2)

ended : (rest : List ℕ) → Ends rest → before_slash rest ≡ []
ended rest (inl e) = rw e refl
ended rest (inr s) = rw s.1 refl

before_is : (w rest : List ℕ) → has_slash w ≡ false → Ends rest → before_slash (w ++ rest) ≡ w
before_is [] rest free ends = ended rest ends
before_is (b ∷ w) rest free ends = elim (cases_Bool (b == 47)) [
  | inl same ↦ let bad : true ≡ false = rw same at free in let no_way : ⊥ = cc in absurd no_way
  | inr other ↦ rw other (ap (λ (l : List ℕ). b ∷ l) (before_is w rest (rw other at free) ends))
]

begins : (w : List ℕ) (more : List Part) (path : List ℕ) → has_slash w ≡ false → HasParts (word w ∷ more) path → before_slash (drop 1 path) ≡ w
begins w more path free h = rw h.1 (before_is w h.0 free (ends_of more h.0 h.2))

begins_so : (t : Target) (path : List ℕ) → HasParts (parts_of t) path → before_slash (drop 1 path) ≡ front (parts_of t)
begins_so targets.Block path h = begins (codes "block") [] path refl h
begins_so targets.Diff path h = begins (codes "diff") (value ∷ value ∷ []) path refl h
begins_so targets.Disconnect path h = begins (codes "disconnect") (value ∷ []) path refl h
begins_so targets.List path h = begins (codes "list") (value ∷ []) path refl h
begins_so targets.Members path h = begins (codes "members") (value ∷ value ∷ []) path refl h
begins_so targets.Page path h = begins (codes "page") (value ∷ value ∷ value ∷ []) path refl h
begins_so targets.Payees path h = begins (codes "payees") (value ∷ value ∷ []) path refl h
begins_so targets.Pin path h = begins (codes "pin") (value ∷ []) path refl h
begins_so targets.Quorums path h = begins (codes "quorums") (value ∷ []) path refl h
begins_so targets.Release path h = begins (codes "release") (value ∷ []) path refl h
begins_so targets.Row path h = begins (codes "row") (value ∷ value ∷ []) path refl h
begins_so targets.Tip path h = begins (codes "tip") [] path refl h

-- A word's length and first byte tell its target.
abbrev tell : ℕ → ℕ → Target
tell n b =
    cond (n == 5) targets.Block
    (cond (n == 10) targets.Disconnect
    (cond (n == 6) targets.Payees
    (cond (n == 3) (cond (b == 116) targets.Tip (cond (b == 114) targets.Row targets.Pin))
    (cond (n == 4) (cond (b == 108) targets.List (cond (b == 100) targets.Diff targets.Page))
    (cond (b == 109) targets.Members (cond (b == 113) targets.Quorums targets.Release))))))

told : (t : Target) → tell (length (front (parts_of t))) (get_or (front (parts_of t)) 0 0) ≡ t
told targets.Block = refl
told targets.Diff = refl
told targets.Disconnect = refl
told targets.List = refl
told targets.Members = refl
told targets.Page = refl
told targets.Payees = refl
told targets.Pin = refl
told targets.Quorums = refl
told targets.Release = refl
told targets.Row = refl
told targets.Tip = refl

pub one_route : (a b : Target) (path : List ℕ) → HasParts (parts_of a) path → HasParts (parts_of b) path → a ≡ b
one_route a b path x y =
    let same : front (parts_of a) ≡ front (parts_of b) = sym (begins_so a path x) ∙ begins_so b path y in
    sym (told a) ∙ ap (λ (w : List ℕ). tell (length w) (get_or w 0 0)) same ∙ told b

unrouted : (path : List ℕ) (s : Target) → Routed path (Some s) → Routed path None → ⊥
unrouted path s x (inl not_ascii) = not_ascii x.0
unrouted path s x (inr none) = none s x.1

pub routed_once : (path : List ℕ) (a b : Option Target) → Routed path a → Routed path b → a ≡ b
routed_once path (Some s) (Some t) x y = ap (λ (u : Target). Some u) (one_route s t path x.1 y.1)
routed_once path (Some s) None x y = absurd (unrouted path s x y)
routed_once path None (Some t) x y = absurd (unrouted path t y x)
routed_once path None None x y = refl
