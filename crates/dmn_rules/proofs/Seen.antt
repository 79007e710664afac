-- Look-ups in stored rows, and the same in rows as they are seen at a height.
use Rattle.std.proofs.Common.{◌≡◌, ℕ, Bool, true, false, not, ◌&&◌, cond, List, [], ◌∷◌, ◌++◌, find, filter, Some, None, refl, sym, ap, ◌∙◌, inl, inr}
use Rattle.std.specs.Option.{option_map}
use Rattle.std.specs.declared.option.Option.{Option}
use Rattle.std.specs.Str.{bytes_eq}
use Rattle.std.specs.Prelude.{◌==◌}
use Rattle.std.specs.Ordering.{is_lt}
use Rattle.std.proofs.lemmas.List.{map-append}
use Rattle.dmn_bytes.specs.Points.{is_zero, hash_cmp}
use Rattle.std.proofs.lemmas.Bool.{cases_Bool, and_parts, eqb-true, false_from_ne_true}
use Rattle.std.proofs.lemmas.Slice.Eq.{bytes_eq-Decides}
use Rattle.dmn_bytes.specs.declared.points.OutPoint.{OutPoint}
use Rattle.dmn_bytes.specs.declared.points.Service.{Service}
use Rattle.dmn_bytes.specs.declared.hash.Hash256.{Hash256}
use Rattle.dmn_rows.specs.declared.row.MnRow.{MnRow}
use Rattle.dmn_rows.specs.declared.rule.Rule.{Rule}
use Rattle.dmn_rows.specs.Row.{plain}
use Rattle.dmn_rows.specs.Rows.{same_hash, same_service, no_service, has_hash, has_operator, has_service, has_collateral, hash_where, plain_rows, put_row}
use Rattle.dmn_rows.specs.Distinct.{AreDistinct}
use Rattle.dmn_rules.specs.Table.{some_row}
use Rattle.dmn_rules.specs.Provider.{is_hash}
use Rattle.dmn_rules.specs.Looking.{unless}

-- the test doesn't read what `plain` changes
abbrev pub IsBlind : (MnRow → Bool) → Type 0
IsBlind test = (h : ℕ) (r : MnRow) → test (plain h r) ≡ test r

pub find-plain : (test : MnRow → Bool) → IsBlind test → (h : ℕ) (rows : List MnRow) → find test (plain_rows h rows) ≡ option_map (plain h) (find test rows)
find-plain test blind h [] = refl
find-plain test blind h (r ∷ rows) =
    ap (λ b. cond b (Some (plain h r)) (find test (plain_rows h rows))) (blind h r)
    ∙ elim (test r) as (λ b. cond b (Some (plain h r)) (find test (plain_rows h rows)) ≡ option_map (plain h) (cond b (Some r) (find test rows))) [ true ↦ refl | false ↦ find-plain test blind h rows ]

-- the hash of a row is the same at each height
hash-plain : (h : ℕ) (o : Option MnRow) → option_map (λ r. r.hash) (option_map (plain h) o) ≡ option_map (λ r. r.hash) o
hash-plain h None = refl
hash-plain h (Some r) = refl

pub hash_where-plain : (test : MnRow → Bool) → IsBlind test → (h : ℕ) (rows : List MnRow) → hash_where test (plain_rows h rows) ≡ hash_where test rows
hash_where-plain test blind h rows = ap (option_map (λ r. r.hash)) (find-plain test blind h rows) ∙ hash-plain h (find test rows)

-- a rule on a key is broken at the same row
pub some_row-plain : (test : MnRow → Bool) → IsBlind test → (rule : Hash256 → Rule) (h : ℕ) (rows : List MnRow) → some_row test rule (plain_rows h rows) ≡ some_row test rule rows
some_row-plain test blind rule h rows = ap (option_map rule) (hash_where-plain test blind h rows)

pub filter-plain : (test : MnRow → Bool) → IsBlind test → (h : ℕ) (rows : List MnRow) → filter test (plain_rows h rows) ≡ plain_rows h (filter test rows)
filter-plain test blind h [] = refl
filter-plain test blind h (r ∷ rows) =
    ap (λ b. cond b (plain h r ∷ filter test (plain_rows h rows)) (filter test (plain_rows h rows))) (blind h r)
    ∙ ap (λ rest. cond (test r) (plain h r ∷ rest) rest) (filter-plain test blind h rows)
    ∙ elim (test r) as (λ b. cond b (plain h r ∷ plain_rows h (filter test rows)) (plain_rows h (filter test rows)) ≡ plain_rows h (cond b (r ∷ filter test rows) (filter test rows))) [ true ↦ refl | false ↦ refl ]

-- a row that is put among stored rows is put among the rows that are seen
pub put_row-plain : (h : ℕ) (row : MnRow) (rows : List MnRow) → plain_rows h (put_row row rows) ≡ put_row (plain h row) (plain_rows h rows)
put_row-plain h row rows =
    let before = λ (q : MnRow). is_lt (hash_cmp q.hash row.hash) in
    let behind = λ (q : MnRow). is_lt (hash_cmp row.hash q.hash) in
    map-append (plain h) (filter before rows) (row ∷ filter behind rows)
    ∙ ap (λ front. front ++ plain h row ∷ plain_rows h (filter behind rows)) (sym (filter-plain before (λ _ _. refl) h rows))
    ∙ ap (λ back. filter before (plain_rows h rows) ++ plain h row ∷ back) (sym (filter-plain behind (λ _ _. refl) h rows))

-- where a test finds nothing, the first row fails it, and it finds nothing behind
pub find_none : (test : MnRow → Bool) (r : MnRow) (rows : List MnRow) → find test (r ∷ rows) ≡ None → (test r ≡ false) × (find test rows ≡ None)
find_none test r rows none = elim (cases_Bool (test r)) [
  | inl passes ↦ let hit : Some r ≡ None = sym (ap (λ b. cond b (Some r) (find test rows)) passes) ∙ none in cc
  | inr fails ↦ (fails, sym (ap (λ b. cond b (Some r) (find test rows)) fails) ∙ none)
]

-- where a weaker test finds nothing, a stronger one finds nothing
pub find-stronger : (weak strong : MnRow → Bool) → ((r : MnRow) → strong r ≡ true → weak r ≡ true) → (rows : List MnRow) → find weak rows ≡ None → find strong rows ≡ None
find-stronger weak strong implies [] none = refl
find-stronger weak strong implies (r ∷ rows) none =
    let parts = find_none weak r rows none in
    elim (cases_Bool (strong r)) [
      | inl passes ↦ let both : weak r ≡ true = implies r passes in let fails : weak r ≡ false = parts.0 in cc
      | inr fails ↦ ap (λ b. cond b (Some r) (find strong rows)) fails ∙ find-stronger weak strong implies rows parts.1
    ]

-- where a test finds nothing, nothing is filtered out by it
pub filter_none : (test : MnRow → Bool) (rows : List MnRow) → find test rows ≡ None → filter (λ r. not (test r)) rows ≡ rows
filter_none test [] none = refl
filter_none test (r ∷ rows) none =
    let parts = find_none test r rows none in
    ap (λ b. cond (not b) (r ∷ filter (λ q. not (test q)) rows) (filter (λ q. not (test q)) rows)) parts.0 ∙ ap (λ rest. r ∷ rest) (filter_none test rows parts.1)

-- of a key that no two rows have, the row that has it is the only one: looking for a row but some is looking for the row, and then at its hash
pub hash_where-unless : (test : MnRow → Bool) (same : MnRow → MnRow → Bool) → ((r q : MnRow) → test r ≡ true → test q ≡ true → same r q ≡ true) → (out : Hash256 → Bool) (rows : List MnRow) → AreDistinct same rows → hash_where (λ r. test r && not (out r.hash)) rows ≡ unless out (hash_where test rows)
hash_where-unless test same alike out [] distinct = refl
hash_where-unless test same alike out (r ∷ rows) distinct = elim (cases_Bool (test r)) [
  | inl passes ↦ rw passes (elim (out r.hash) as (λ b. option_map (λ q. q.hash) (cond (not b) (Some r) (find (λ q. test q && not (out q.hash)) rows)) ≡ cond b None (Some r.hash)) [
    | true ↦ ap (option_map (λ q. q.hash)) (find-stronger (same r) (λ q. test q && not (out q.hash)) (λ q both. alike r q passes (and_parts (test q) (not (out q.hash)) both).0) rows distinct.0)
    | false ↦ refl
  ])
  | inr fails ↦ rw fails (hash_where-unless test same alike out rows distinct.1)
]

-- two rows with one service have the same
pub same_services : (s : Service) (r q : MnRow) → has_service s r ≡ true → has_service s q ≡ true → has_service r.service q ≡ true
same_services s r q a b =
    let is_set = and_parts (not (no_service s)) (same_service r.service s) a in
    let parts = and_parts (bytes_eq r.service.address s.address) (r.service.port == s.port) is_set.1 in
    let address : r.service.address ≡ s.address = (bytes_eq-Decides _ _).0 parts.0 in
    let port : r.service.port ≡ s.port = eqb-true _ _ parts.1 in
    rw (address, port) b

-- looking for a row of the service but some
pub service_unless : (s : Service) (out : Hash256 → Bool) (h : ℕ) (rows : List MnRow) → AreDistinct (λ r. has_service r.service) rows → hash_where (λ r. has_service s r && not (out r.hash)) (plain_rows h rows) ≡ unless out (hash_where (has_service s) rows)
service_unless s out h rows distinct =
    hash_where-plain (λ r. has_service s r && not (out r.hash)) (λ _ _. refl) h rows ∙ hash_where-unless (has_service s) (λ r. has_service r.service) (same_services s) out rows distinct

same_hash_refl : (a : Hash256) → same_hash a a ≡ true
same_hash_refl a = (bytes_eq-Decides a.0 a.0).1 refl

same_hash_differs : (a b : Hash256) → same_hash a b ≡ false → same_hash b a ≡ false
same_hash_differs a b differs = false_from_ne_true (same_hash b a) (λ same.
    let swapped : same_hash a b ≡ true = (bytes_eq-Decides a.0 b.0).1 (sym ((bytes_eq-Decides b.0 a.0).0 same)) in
    let no : true ≡ false = sym swapped ∙ differs in
    cc)

-- the hash that is found in rows isn't one that none of them has
found_elsewhere : (test : MnRow → Bool) (hash : Hash256) (rows : List MnRow) → find (has_hash hash) rows ≡ None → is_hash (hash_where test rows) hash ≡ false
found_elsewhere test hash [] none = refl
found_elsewhere test hash (r ∷ rows) none =
    let parts = find_none (has_hash hash) r rows none in
    elim (cases_Bool (test r)) [
      | inl passes ↦ rw passes (same_hash_differs r.hash hash parts.0)
      | inr fails ↦ rw fails (found_elsewhere test hash rows parts.1)
    ]

-- where no two rows have a key, and none a hash, leaving out the row that has the key is leaving out its hash
pub filter-found : (test : MnRow → Bool) (same : MnRow → MnRow → Bool) → ((r q : MnRow) → test r ≡ true → test q ≡ true → same r q ≡ true) → (rows : List MnRow) → AreDistinct same rows → AreDistinct (λ r. has_hash r.hash) rows → filter (λ r. not (is_hash (hash_where test rows) r.hash)) rows ≡ filter (λ r. not (test r)) rows
filter-found test same alike [] keys hashes = refl
filter-found test same alike (r ∷ rows) keys hashes = elim (cases_Bool (test r)) [
  | inl passes ↦
      let found : hash_where test (r ∷ rows) ≡ Some r.hash = ap (λ b. option_map (λ q. q.hash) (cond b (Some r) (find test rows))) passes in
      ap (λ o. filter (λ q. not (is_hash o q.hash)) (r ∷ rows)) found
      ∙ ap (λ b. cond (not b) (r ∷ filter (λ q. not (has_hash r.hash q)) rows) (filter (λ q. not (has_hash r.hash q)) rows)) (same_hash_refl r.hash)
      ∙ filter_none (has_hash r.hash) rows hashes.0
      ∙ sym (filter_none test rows (find-stronger (same r) test (λ q. alike r q passes) rows keys.0))
      ∙ sym (ap (λ b. cond (not b) (r ∷ filter (λ q. not (test q)) rows) (filter (λ q. not (test q)) rows)) passes)
  | inr fails ↦
      let found : hash_where test (r ∷ rows) ≡ hash_where test rows = ap (λ b. option_map (λ q. q.hash) (cond b (Some r) (find test rows))) fails in
      let rest = filter (λ q. not (is_hash (hash_where test rows) q.hash)) rows in
      ap (λ o. filter (λ q. not (is_hash o q.hash)) (r ∷ rows)) found
      ∙ ap (λ b. cond (not b) (r ∷ rest) rest) (found_elsewhere test r.hash rows hashes.0)
      ∙ ap (λ xs. r ∷ xs) (filter-found test same alike rows keys.1 hashes.1)
      ∙ sym (ap (λ b. cond (not b) (r ∷ filter (λ q. not (test q)) rows) (filter (λ q. not (test q)) rows)) fails)
]

-- two rows with one collateral have the same
pub same_collaterals : (point : OutPoint) (r q : MnRow) → has_collateral point r ≡ true → has_collateral point q ≡ true → has_collateral r.collateral q ≡ true
same_collaterals point r q a b =
    let parts = and_parts (same_hash r.collateral.hash point.hash) (r.collateral.index == point.index) a in
    let hash : r.collateral.hash.0 ≡ point.hash.0 = (bytes_eq-Decides _ _).0 parts.0 in
    let index : r.collateral.index ≡ point.index = eqb-true _ _ parts.1 in
    rw (hash, index) b

-- two rows with one operator have the same
pub same_operators : (key : List ℕ) (r q : MnRow) → has_operator key r ≡ true → has_operator key q ≡ true → has_operator r.operator q ≡ true
same_operators key r q a b =
    let parts = and_parts (not (is_zero key)) (bytes_eq r.operator key) a in
    let operator : r.operator ≡ key = (bytes_eq-Decides _ _).0 parts.1 in
    rw operator b

-- looking for a row of the operator but some
pub operator_unless : (key : List ℕ) (out : Hash256 → Bool) (h : ℕ) (rows : List MnRow) → AreDistinct (λ r. has_operator r.operator) rows → hash_where (λ r. has_operator key r && not (out r.hash)) (plain_rows h rows) ≡ unless out (hash_where (has_operator key) rows)
operator_unless key out h rows distinct =
    hash_where-plain (λ r. has_operator key r && not (out r.hash)) (λ _ _. refl) h rows ∙ hash_where-unless (has_operator key) (λ r. has_operator r.operator) (same_operators key) out rows distinct
