-- Each head asks for one thing.
use Rattle.std.proofs.Common.{◌≡◌, ℕ, suc, ◌+◌, ◌-◌, ◌<◌, ◌≤◌, ◌^◌, true, false, Bool, List, [], ◌∷◌, ◌++◌, length, drop, map, get_or, refl, sym, ap, ◌∙◌, subst, arith, inl, inr, Option, Some, None, codes, option_map}
use Rattle.std.specs.Prelude.{option_and_then, MatchBool, MatchOption, ◌&&◌, ◌==◌}
use Rattle.std.proofs.lemmas.Bool.{cases_lt}
use Rattle.std.proofs.lemmas.Fmt.{decimal_injective}
use Rattle.std.proofs.lemmas.List.{get_or_past}
use Rattle.hex.specs.Hex.{encode_lower, decode_of}
use Rattle.hex.proofs.HexLemmas.{decode_of-encode_lower}
use Rattle.httparse.specs.Grammar.{RequestHead}
use Rattle.httparse.specs.Spans.{name_and_value}
use Rattle.httparse.proofs.GrammarLemmas.{request_unique}
use Rattle.dmn_bytes.specs.declared.hash.Hash256.{Hash256}
use Rattle.dmn_desk.specs.declared.request.Request.{Request}
use Rattle.dmn_desk.specs.declared.request.Request.TheVariants as requests
use Rattle.dmn_head.specs.declared.head.Cut.{Cut}
use Rattle.dmn_head.specs.declared.head.Cut.TheVariants as cuts
use Rattle.dmn_head.specs.declared.fields.Size.{Size}
use Rattle.dmn_head.specs.declared.fields.Size.TheVariants as sizes
use Rattle.dmn_head.specs.declared.target.Target.{Target}
use Rattle.dmn_head.specs.declared.target.Target.TheVariants as targets
use Rattle.dmn_head.specs.declared.plan.Plan.{Plan}
use Rattle.dmn_head.specs.declared.plan.Plan.TheVariants as plans
use Rattle.dmn_head.specs.declared.fault.HttpFault.TheVariants as faults
use Rattle.dmn_head.specs.Head.{ends_at, EndsFirst, IsCut}
use Rattle.dmn_head.proofs.Parts.{routed_once}
use Rattle.dmn_head.specs.Values.{NumberIs, HashIs, NoSlash, CutAtSlash}
use Rattle.dmn_head.specs.Fields.{values_of, SizeIs}
use Rattle.dmn_head.specs.Wants.{ReadsPath, both, asked, sized, most8, most16, most32, is_block, BodyPlan, MethodPlan, RoutePlan, FieldsPlan, HeadPlan}

-- ---- where a head ends

pub clash : (text : List ℕ) (k : ℕ) → ends_at text k ≡ true → ends_at text k ≡ false → ⊥
clash text k holds fails = let bad : true ≡ false = sym holds ∙ fails in cc

ends_once : (text : List ℕ) (m n : ℕ) → EndsFirst text m → EndsFirst text n → m < n → ⊥
ends_once text m n a b less = clash text (m - 4) a.here (b.first (m - 4) (omega (arith, a.four)))

last : (a b c d : Bool) → d ≡ false → (a && b && c && d) ≡ false
last true true true d e = e
last true true false d e = refl
last true false c d e = refl
last false b c d e = refl

-- past its end a text has no line feed
past_end : (text : List ℕ) (k : ℕ) → length text ≤ k + 3 → ends_at text k ≡ false
past_end text k past =
    let gone : get_or text (k + 3) 0 ≡ 0 = get_or_past text (k + 3) 0 past in
    last (get_or text k 0 == 13) (get_or text (k + 1) 0 == 10) (get_or text (k + 2) 0 == 13) (get_or text (k + 3) 0 == 10) (ap (λ (b : ℕ). b == 10) gone)

pub within : (text : List ℕ) (k : ℕ) → ends_at text k ≡ true → k + 4 ≤ length text
within text k holds = elim (cases_lt (k + 3) (length text)) [
  | inl inside ↦ omega (arith, inside)
  | inr past ↦ absurd (clash text k holds (past_end text k past))
]

pub cut_once : (text : List ℕ) (a b : Cut) → IsCut text a → IsCut text b → a ≡ b
cut_once text (cuts.Whole m) (cuts.Whole n) x y = elim (cases_lt m n) [
  | inl less ↦ absurd (ends_once text m n x.0 y.0 less)
  | inr more ↦ elim (cases_lt n m) [
    | inl less ↦ absurd (ends_once text n m y.0 x.0 less)
    | inr same ↦ let e : m ≡ n = omega (arith, more, same) in ap (λ (k : ℕ). cuts.Whole k) e
  ]
]
cut_once text (cuts.Whole m) cuts.TooLong x y = absurd (clash text (m - 4) x.0.here (y.1 (m - 4) (omega (arith, x.0.four, x.1))))
cut_once text (cuts.Whole m) cuts.Short x y = absurd (clash text (m - 4) x.0.here (y.1 (m - 4) (within text (m - 4) x.0.here)))
cut_once text cuts.TooLong (cuts.Whole n) x y = absurd (clash text (n - 4) y.0.here (x.1 (n - 4) (omega (arith, y.0.four, y.1))))
cut_once text cuts.TooLong cuts.TooLong x y = refl
cut_once text cuts.TooLong cuts.Short x y = absurd (omega (arith, x.0, y.0))
cut_once text cuts.Short (cuts.Whole n) x y = absurd (clash text (n - 4) y.0.here (x.1 (n - 4) (within text (n - 4) y.0.here)))
cut_once text cuts.Short cuts.TooLong x y = absurd (omega (arith, x.0, y.0))
cut_once text cuts.Short cuts.Short x y = refl

-- ---- values

number_once : (most : ℕ) (text : List ℕ) (a b : Option ℕ) → most < 2 ^ 64 → NumberIs most text a → NumberIs most text b → a ≡ b
number_once most text (Some m) (Some n) small x y = ap (λ (k : ℕ). Some k) (decimal_injective m n (omega (arith, x.1, small)) (omega (arith, y.1, small)) (sym x.0 ∙ y.0))
number_once most text (Some m) None small x y = absurd (y m x.1 x.0)
number_once most text None (Some n) small x y = absurd (x n y.1 y.0)
number_once most text None None small x y = refl

hash_once : (text : List ℕ) (a b : Option Hash256) → HashIs text a → HashIs text b → a ≡ b
hash_once text (Some g) (Some h) x y =
    let p = decode_of-encode_lower g.0 x.2 in
    let q = decode_of-encode_lower h.0 y.2 in
    let e : encode_lower g.0 ≡ encode_lower h.0 = sym x.0 ∙ y.0 in
    let same : g.0 ≡ h.0 = cc (p, q, ap decode_of e) in
    ap (λ (l : List ℕ). Some (record { 0 = l })) same
hash_once text (Some g) None x y = absurd (y g.0 x.1 x.2 x.0)
hash_once text None (Some h) x y = absurd (x h.0 y.1 y.2 y.0)
hash_once text None None x y = refl

split_once : (a c b d : List ℕ) → NoSlash a → NoSlash c → a ++ 47 ∷ b ≡ c ++ 47 ∷ d → (a ≡ c) × (b ≡ d)
split_once [] [] b d na nc e = (refl, cc e)
split_once [] (y ∷ c) b d na nc e = let bad : y ≡ 47 = cc e in absurd (nc 0 (omega arith) bad)
split_once (x ∷ a) [] b d na nc e = let bad : x ≡ 47 = cc e in absurd (na 0 (omega arith) bad)
split_once (x ∷ a) (y ∷ c) b d na nc e =
    let head : x ≡ y = cc e in
    let tail : a ++ 47 ∷ b ≡ c ++ 47 ∷ d = cc e in
    let p = split_once a c b d (λ k lt. na (suc k) (omega (arith, lt))) (λ k lt. nc (suc k) (omega (arith, lt))) tail in
    (ap (λ (n : ℕ). n ∷ a) head ∙ ap (λ (l : List ℕ). y ∷ l) p.0, p.1)

has_slash : (a b : List ℕ) → NoSlash (a ++ 47 ∷ b) → ⊥
has_slash [] b none = none 0 (omega arith) refl
has_slash (x ∷ a) b none = has_slash a b (λ k lt. none (suc k) (omega (arith, lt)))

slash_once : (text a b c d : List ℕ) → CutAtSlash text a b → CutAtSlash text c d → (a ≡ c) × (b ≡ d)
slash_once text a b c d (na, inl x) (nc, inl y) = split_once a c b d na nc (sym x ∙ y)
slash_once text a b c d (na, inl x) (nc, inr y) = absurd (has_slash a b (subst NoSlash (sym y.0 ∙ x) nc))
slash_once text a b c d (na, inr x) (nc, inl y) = absurd (has_slash c d (subst NoSlash (sym x.0 ∙ y) na))
slash_once text a b c d (na, inr x) (nc, inr y) = (sym x.0 ∙ y.0, x.1 ∙ sym y.1)

number_at : (most : ℕ) (s t : List ℕ) (a b : Option ℕ) → most < 2 ^ 64 → s ≡ t → NumberIs most s a → NumberIs most t b → a ≡ b
number_at most s t a b small e x y = number_once most s a b small x (let P : List ℕ → Type 0 = λ l. NumberIs most l b in subst P (sym e) y)

hash_at : (s t : List ℕ) (a b : Option Hash256) → s ≡ t → HashIs s a → HashIs t b → a ≡ b
hash_at s t a b e x y = hash_once s a b x (let P : List ℕ → Type 0 = λ l. HashIs l b in subst P (sym e) y)

cut_at : (s t a b c d : List ℕ) → s ≡ t → CutAtSlash s a b → CutAtSlash t c d → (a ≡ c) × (b ≡ d)
cut_at s t a b c d e x y = slash_once s a b c d x (let P : List ℕ → Type 0 = λ l. CutAtSlash l c d in subst P (sym e) y)

small32 : most32 < 2 ^ 64
small32 = omega arith

small16 : most16 < 2 ^ 64
small16 = omega arith

small8 : most8 < 2 ^ 64
small8 = omega arith

two : {A B : Type 0} (make : A → B → Request) (a c : Option A) (b d : Option B) → a ≡ c → b ≡ d → both make a b ≡ both make c d
two {A} {B} make a c b d e f = ap (λ (x : Option A). both make x b) e ∙ ap (λ (y : Option B). both make c y) f

path_once : (t : Target) (path : List ℕ) (p q : Option Request) → ReadsPath t path p → ReadsPath t path q → p ≡ q
path_once targets.Tip path p q x y = x ∙ sym y
path_once targets.Block path p q x y = x ∙ sym y
path_once targets.List path p q x y = x.2 ∙ ap (option_map (λ n. requests.List n)) (number_once most32 (drop 6 path) x.0 y.0 small32 x.1 y.1) ∙ sym y.2
path_once targets.Quorums path p q x y = x.2 ∙ ap (option_map (λ n. requests.Quorums n)) (number_once most32 (drop 9 path) x.0 y.0 small32 x.1 y.1) ∙ sym y.2
path_once targets.Pin path p q x y = x.2 ∙ ap (option_map (λ n. requests.Pin n)) (number_once most32 (drop 5 path) x.0 y.0 small32 x.1 y.1) ∙ sym y.2
path_once targets.Release path p q x y = x.2 ∙ ap (option_map (λ n. requests.Release n)) (number_once most32 (drop 9 path) x.0 y.0 small32 x.1 y.1) ∙ sym y.2
path_once targets.Disconnect path p q x y = x.2 ∙ ap (option_map (λ h. requests.Disconnect h)) (hash_once (drop 12 path) x.0 y.0 x.1 y.1) ∙ sym y.2
path_once targets.Row path p q x y =
    let c = slash_once (drop 5 path) x.0 x.1 y.0 y.1 x.2 y.2 in
    x.7 ∙ two (λ n h. requests.Row n h) x.3 y.3 x.5 y.5 (number_at most32 x.0 y.0 x.3 y.3 small32 c.0 x.4 y.4) (hash_at x.1 y.1 x.5 y.5 c.1 x.6 y.6) ∙ sym y.7
path_once targets.Payees path p q x y =
    let c = slash_once (drop 8 path) x.0 x.1 y.0 y.1 x.2 y.2 in
    x.7 ∙ two (λ h m. requests.Payees h m) x.3 y.3 x.5 y.5 (number_at most32 x.0 y.0 x.3 y.3 small32 c.0 x.4 y.4) (number_at most16 x.1 y.1 x.5 y.5 small16 c.1 x.6 y.6) ∙ sym y.7
path_once targets.Members path p q x y =
    let c = slash_once (drop 9 path) x.0 x.1 y.0 y.1 x.2 y.2 in
    x.7 ∙ two (λ k h. requests.Members k h) x.3 y.3 x.5 y.5 (number_at most8 x.0 y.0 x.3 y.3 small8 c.0 x.4 y.4) (number_at most32 x.1 y.1 x.5 y.5 small32 c.1 x.6 y.6) ∙ sym y.7
path_once targets.Diff path p q x y =
    let c = slash_once (drop 6 path) x.0 x.1 y.0 y.1 x.2 y.2 in
    x.7 ∙ two (λ b t. requests.Diff b t) x.3 y.3 x.5 y.5 (hash_at x.0 y.0 x.3 y.3 c.0 x.4 y.4) (hash_at x.1 y.1 x.5 y.5 c.1 x.6 y.6) ∙ sym y.7
path_once targets.Page path p q x y =
    let c = slash_once (drop 6 path) x.0 x.1 y.0 y.1 x.4 y.4 in
    let d = cut_at x.1 y.1 x.2 x.3 y.2 y.3 c.1 x.5 y.5 in
    let pin : x.6 ≡ y.6 = number_at most32 x.0 y.0 x.6 y.6 small32 c.0 x.7 y.7 in
    let from : x.8 ≡ y.8 = number_at most32 x.2 y.2 x.8 y.8 small32 d.0 x.9 y.9 in
    let n : x.10 ≡ y.10 = number_at most16 x.3 y.3 x.10 y.10 small16 d.1 x.11 y.11 in
    x.12 ∙ ap (λ (o : Option ℕ). option_and_then (λ p. both (λ f m. requests.Page p f m) x.8 x.10) o) pin
    ∙ ap (λ (o : Option ℕ). option_and_then (λ p. both (λ f m. requests.Page p f m) o x.10) y.6) from
    ∙ ap (λ (o : Option ℕ). option_and_then (λ p. both (λ f m. requests.Page p f m) y.8 o) y.6) n ∙ sym y.12

-- ---- the checks of a head

size_once : (value : List ℕ) (a b : Size) → SizeIs value a → SizeIs value b → a ≡ b
size_once value (sizes.Of m) (sizes.Of n) x y = ap (λ (k : ℕ). sizes.Of k) (x.1 ∙ sym y.1)
size_once value (sizes.Of m) sizes.TooLong x y = absurd (omega (arith, x.1, x.2, y.1))
size_once value (sizes.Of m) sizes.NoNumber x y = absurd (y x.0)
size_once value sizes.TooLong (sizes.Of n) x y = absurd (omega (arith, y.1, y.2, x.1))
size_once value sizes.TooLong sizes.TooLong x y = refl
size_once value sizes.TooLong sizes.NoNumber x y = absurd (y x.0)
size_once value sizes.NoNumber (sizes.Of n) x y = absurd (x y.0)
size_once value sizes.NoNumber sizes.TooLong x y = absurd (x y.0)
size_once value sizes.NoNumber sizes.NoNumber x y = refl

body_once : (values : List (List ℕ)) (p q : Plan) → BodyPlan values p → BodyPlan values q → p ≡ q
body_once [] p q x y = x ∙ sym y
body_once (value ∷ []) p q x y = x.2 ∙ ap sized (size_once value x.0 y.0 x.1 y.1) ∙ sym y.2
body_once (value ∷ other ∷ more) p q x y = x ∙ sym y

by_target : (block : Bool) (target : Target) (path : List ℕ) (values : List (List ℕ)) (p q : Plan)
    → MatchBool block (BodyPlan values p) ((r : Option Request) × ReadsPath target path r × (p ≡ asked r))
    → MatchBool block (BodyPlan values q) ((r : Option Request) × ReadsPath target path r × (q ≡ asked r)) → p ≡ q
by_target true target path values p q x y = body_once values p q x y
by_target false target path values p q x y = x.2 ∙ ap asked (path_once target path x.0 y.0 x.1 y.1) ∙ sym y.2

method_once : (target : Target) (method path : List ℕ) (fields : List (List ℕ × List ℕ)) (p q : Plan) → MethodPlan target method path fields p → MethodPlan target method path fields q → p ≡ q
method_once target method path fields p q (inl x) (inl y) = by_target (is_block target) target path (values_of (codes "content-length") fields) p q x.1 y.1
method_once target method path fields p q (inl x) (inr y) = absurd (y.0 x.0)
method_once target method path fields p q (inr x) (inl y) = absurd (x.0 y.0)
method_once target method path fields p q (inr x) (inr y) = x.1 ∙ sym y.1

abbrev Found : Option Target → List ℕ → List ℕ → List (List ℕ × List ℕ) → Plan → Type 0
Found found method path fields plan = MatchOption found (plan ≡ plans.Refuse faults.NoRoute) (λ t. MethodPlan t method path fields plan)

by_route : (found : Option Target) (method path : List ℕ) (fields : List (List ℕ × List ℕ)) (p q : Plan) → Found found method path fields p → Found found method path fields q → p ≡ q
by_route None method path fields p q x y = x ∙ sym y
by_route (Some t) method path fields p q x y = method_once t method path fields p q x y

route_once : (method path : List ℕ) (fields : List (List ℕ × List ℕ)) (p q : Plan) → RoutePlan method path fields p → RoutePlan method path fields q → p ≡ q
route_once method path fields p q x y =
    let P : Option Target → Type 0 = λ o. Found o method path fields q in
    by_route x.0 method path fields p q x.2 (subst P (routed_once path y.0 x.0 y.1 x.1) y.2)

fields_once : (method path : List ℕ) (fields : List (List ℕ × List ℕ)) (p q : Plan) → FieldsPlan method path fields p → FieldsPlan method path fields q → p ≡ q
fields_once method path fields p q (inl x) (inl y) = route_once method path fields p q x.1 y.1
fields_once method path fields p q (inl x) (inr y) = absurd (y.0 x.0)
fields_once method path fields p q (inr x) (inl y) = absurd (x.0 y.0)
fields_once method path fields p q (inr x) (inr y) = x.1 ∙ sym y.1

pub head_once : (bytes : List ℕ) (p q : Plan) → HeadPlan bytes p → HeadPlan bytes q → p ≡ q
head_once bytes p q (inl x) (inl y) =
    let same : y.0 ≡ x.0 = (request_unique bytes y.0 x.0 [] [] y.1.reads x.1.reads).0 in
    let P : RequestHead → Type 0 = λ h. FieldsPlan h.method h.target (map name_and_value h.fields) q in
    fields_once x.0.method x.0.target (map name_and_value x.0.fields) p q x.2 (subst P same y.2)
head_once bytes p q (inl x) (inr y) = absurd (y.0 x.0 x.1)
head_once bytes p q (inr x) (inl y) = absurd (x.0 y.0 y.1)
head_once bytes p q (inr x) (inr y) = x.1 ∙ sym y.1
