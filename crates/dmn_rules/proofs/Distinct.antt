-- Keys that no two rows have stay so.
use Rattle.std.proofs.Common.{◌≡◌, ℕ, Bool, true, false, not, ◌&&◌, cond, List, [], ◌∷◌, ◌++◌, find, filter, Some, None, refl, sym, ap, ◌∙◌, inl, inr, subst}
use Rattle.std.specs.Prelude.{◌==◌}
use Rattle.std.specs.Ordering.{is_lt}
use Rattle.std.specs.Str.{bytes_eq}
use Rattle.std.proofs.lemmas.Bool.{cases_Bool, and_parts, and_from, not_from_false, false_from_ne_true, eqb-true, eq-eqb}
use Rattle.std.proofs.lemmas.Slice.Eq.{bytes_eq-Decides}
use Rattle.dmn_bytes.specs.Points.{is_zero, hash_cmp}
use Rattle.dmn_bytes.specs.declared.hash.Hash256.{Hash256}
use Rattle.dmn_rows.specs.declared.row.MnRow.{MnRow}
use Rattle.dmn_rows.specs.Row.{plain}
use Rattle.dmn_rows.specs.Rows.{same_service, no_service, has_hash, has_owner, has_operator, has_service, has_collateral, plain_rows, put_row}
use Rattle.dmn_rows.specs.Distinct.{AreDistinct, HasDistinctKeys}
use Rattle.dmn_rows.proofs.Keys.{row_key, same_hash-is, same_hash-from, same_point-is, same_point-from}
use Rattle.dmn_rows.proofs.Sorted.{less_from, differs_below, differs_above, not_above}
use Rattle.dmn_rules.proofs.Seen.{find_none, find-stronger}

-- ---- finding nothing

pub find-filter : (test keep : MnRow → Bool) (rows : List MnRow) → find test rows ≡ None → find test (filter keep rows) ≡ None
find-filter test keep [] none = refl
find-filter test keep (r ∷ rows) none =
    let parts = find_none test r rows none in
    elim (keep r) as (λ b. find test (cond b (r ∷ filter keep rows) (filter keep rows)) ≡ None) [
      | true ↦ ap (λ b. cond b (Some r) (find test (filter keep rows))) parts.0 ∙ find-filter test keep rows parts.1
      | false ↦ find-filter test keep rows parts.1
    ]

-- what is kept passes the second test, so a row that is found among what is kept passes both
pub find-kept : (test keep : MnRow → Bool) (rows : List MnRow) → find (λ q. test q && keep q) rows ≡ None → find test (filter keep rows) ≡ None
find-kept test keep [] none = refl
find-kept test keep (r ∷ rows) none =
    let parts = find_none (λ q. test q && keep q) r rows none in
    elim (cases_Bool (keep r)) [
      | inl kept ↦
          let fails : test r ≡ false = false_from_ne_true (test r) (λ passes. let both : (test r && keep r) ≡ true = and_from _ _ passes kept in let no : true ≡ false = sym both ∙ parts.0 in cc) in
          rw kept (ap (λ b. cond b (Some r) (find test (filter keep rows))) fails ∙ find-kept test keep rows parts.1)
      | inr gone ↦ rw gone (find-kept test keep rows parts.1)
    ]

find-insert : (test : MnRow → Bool) (r : MnRow) (xs ys : List MnRow) → test r ≡ false → find test (xs ++ ys) ≡ None → find test (xs ++ r ∷ ys) ≡ None
find-insert test r [] ys fails none = ap (λ b. cond b (Some r) (find test ys)) fails ∙ none
find-insert test r (x ∷ xs) ys fails none =
    let parts = find_none test x (xs ++ ys) none in
    ap (λ b. cond b (Some x) (find test (xs ++ r ∷ ys))) parts.0 ∙ find-insert test r xs ys fails parts.1

find-joined : (test : MnRow → Bool) (xs ys : List MnRow) → find test xs ≡ None → find test ys ≡ None → find test (xs ++ ys) ≡ None
find-joined test [] ys none later = later
find-joined test (x ∷ xs) ys none later =
    let parts = find_none test x xs none in
    ap (λ b. cond b (Some x) (find test (xs ++ ys))) parts.0 ∙ find-joined test xs ys parts.1 later

pub find-nobody : (rows : List MnRow) → find (λ _. false) rows ≡ None
find-nobody [] = refl
find-nobody (r ∷ rows) = find-nobody rows

-- a row that is found passes no test that finds nothing
found_fails : (test has : MnRow → Bool) (rows : List MnRow) (row : MnRow) → find has rows ≡ Some row → find test rows ≡ None → test row ≡ false
found_fails test has [] row found none = cc
found_fails test has (r ∷ rows) row found none =
    let parts = find_none test r rows none in
    elim (cases_Bool (has r)) [
      | inl passes ↦
          let first : Some r ≡ Some row = sym (ap (λ b. cond b (Some r) (find has rows)) passes) ∙ found in
          let is : r ≡ row = cc in
          subst (λ (q : MnRow). test q ≡ false) is parts.0
      | inr fails ↦ found_fails test has rows row (sym (ap (λ b. cond b (Some r) (find has rows)) fails) ∙ found) parts.1
    ]

pub found_passes : (has : MnRow → Bool) (rows : List MnRow) (row : MnRow) → find has rows ≡ Some row → has row ≡ true
found_passes has [] row found = cc
found_passes has (r ∷ rows) row found = elim (cases_Bool (has r)) [
  | inl passes ↦
      let first : Some r ≡ Some row = sym (ap (λ b. cond b (Some r) (find has rows)) passes) ∙ found in
      let is : r ≡ row = cc in
      subst (λ (q : MnRow). has q ≡ true) is passes
  | inr fails ↦ found_passes has rows row (sym (ap (λ b. cond b (Some r) (find has rows)) fails) ∙ found)
]

-- a key that nobody has is no row's of another hash
pub free_none : (same : MnRow → MnRow → Bool) (row : MnRow) (rows : List MnRow) → find (same row) rows ≡ None → find (λ q. same row q && not (has_hash row.hash q)) rows ≡ None
free_none same row rows none = find-stronger (same row) (λ q. same row q && not (has_hash row.hash q)) (λ q both. (and_parts (same row q) (not (has_hash row.hash q)) both).0) rows none

-- ---- one key

module _ (same : MnRow → MnRow → Bool) (turn : (r q : MnRow) → same r q ≡ true → same q r ≡ true) where
  -- no row of another hash is the same
  abbrev pub IsFree : MnRow → List MnRow → Type 0
  IsFree row rows = find (λ q. same row q && not (has_hash row.hash q)) rows ≡ None

  turned : (r q : MnRow) → same r q ≡ false → same q r ≡ false
  turned r q differs = false_from_ne_true (same q r) (λ is. let both : same r q ≡ true = turn q r is in cc)

  pub AreDistinct-filter : (keep : MnRow → Bool) (rows : List MnRow) → AreDistinct same rows → AreDistinct same (filter keep rows)
  AreDistinct-filter keep [] distinct = tt
  AreDistinct-filter keep (r ∷ rows) distinct =
      elim (keep r) as (λ b. AreDistinct same (cond b (r ∷ filter keep rows) (filter keep rows))) [
        | true ↦ (find-filter (same r) keep rows distinct.0, AreDistinct-filter keep rows distinct.1)
        | false ↦ AreDistinct-filter keep rows distinct.1
      ]

  AreDistinct-insert : (r : MnRow) (xs ys : List MnRow) → AreDistinct same (xs ++ ys) → find (same r) xs ≡ None → find (same r) ys ≡ None → AreDistinct same (xs ++ r ∷ ys)
  AreDistinct-insert r [] ys distinct none later = (later, distinct)
  AreDistinct-insert r (x ∷ xs) ys distinct none later =
      let parts = find_none (same r) x xs none in
      (find-insert (same x) r xs ys (turned r x parts.0) distinct.0, AreDistinct-insert r xs ys distinct.1 parts.1 later)

  -- the rows that pass one test and then those that pass another
  AreDistinct-parted : (a b : MnRow → Bool) → ((r : MnRow) → a r ≡ true → b r ≡ false) → (rows : List MnRow) → AreDistinct same rows → AreDistinct same (filter a rows ++ filter b rows)
  AreDistinct-parted a b apart [] distinct = tt
  AreDistinct-parted a b apart (r ∷ rows) distinct =
      let rest = AreDistinct-parted a b apart rows distinct.1 in
      let in_a = find-filter (same r) a rows distinct.0 in
      let in_b = find-filter (same r) b rows distinct.0 in
      elim (cases_Bool (a r)) [
        | inl first ↦ rw (first, apart r first) (find-joined (same r) (filter a rows) (filter b rows) in_a in_b, rest)
        | inr first ↦ rw first (elim (b r) as (λ y. AreDistinct same (filter a rows ++ cond y (r ∷ filter b rows) (filter b rows))) [
          | true ↦ AreDistinct-insert r (filter a rows) (filter b rows) rest in_a in_b
          | false ↦ rest
        ])
      ]

  pub AreDistinct-put_row : (row : MnRow) (rows : List MnRow) → AreDistinct same rows → IsFree row rows → AreDistinct same (put_row row rows)
  AreDistinct-put_row row rows distinct free =
      let before = λ (q : MnRow). is_lt (hash_cmp q.hash row.hash) in
      let behind = λ (q : MnRow). is_lt (hash_cmp row.hash q.hash) in
      let lower : (q : MnRow) → before q ≡ true → has_hash row.hash q ≡ false = λ q less. differs_below hash_cmp (λ r. r.hash) has_hash row_key row.hash q (less_from _ less) in
      let higher : (q : MnRow) → behind q ≡ true → has_hash row.hash q ≡ false = λ q less. differs_above hash_cmp (λ r. r.hash) has_hash row_key row.hash q (less_from _ less) in
      AreDistinct-insert row (filter before rows) (filter behind rows)
      (AreDistinct-parted before behind (λ q less. not_above hash_cmp (λ r. r.hash) has_hash row_key q.hash row.hash (less_from _ less)) rows distinct)
      (find-kept (same row) before rows (find-stronger _ _ (λ q both. let parts = and_parts (same row q) (before q) both in and_from _ _ parts.0 (not_from_false _ (lower q parts.1))) rows free))
      (find-kept (same row) behind rows (find-stronger _ _ (λ q both. let parts = and_parts (same row q) (behind q) both in and_from _ _ parts.0 (not_from_false _ (higher q parts.1))) rows free))

  -- the row that a hash finds is the only one with its key
  pub only_one : (hash : Hash256) (rows : List MnRow) (row : MnRow) → AreDistinct same rows → find (has_hash hash) rows ≡ Some row → IsFree row rows
  only_one hash [] row distinct found = refl
  only_one hash (r ∷ rows) row distinct found = elim (cases_Bool (has_hash hash r)) [
    | inl passes ↦
        let first : Some r ≡ Some row = sym (ap (λ b. cond b (Some r) (find (has_hash hash) rows)) passes) ∙ found in
        let is : r ≡ row = cc in
        let itself : (same row r && not (has_hash row.hash r)) ≡ false = false_from_ne_true _ (λ both. let no : not (has_hash row.hash r) ≡ true = (and_parts (same row r) (not (has_hash row.hash r)) both).1 in let yes : has_hash row.hash r ≡ true = same_hash-from r.hash row.hash (ap (λ (q : MnRow). q.hash) is) in cc) in
        ap (λ b. cond b (Some r) (find (λ q. same row q && not (has_hash row.hash q)) rows)) itself
        ∙ find-stronger (same row) (λ q. same row q && not (has_hash row.hash q)) (λ q both. (and_parts (same row q) (not (has_hash row.hash q)) both).0) rows (subst (λ (q : MnRow). find (same q) rows ≡ None) is distinct.0)
    | inr fails ↦
        let later : find (has_hash hash) rows ≡ Some row = sym (ap (λ b. cond b (Some r) (find (has_hash hash) rows)) fails) ∙ found in
        let other : same row r ≡ false = turned r row (found_fails (same r) (has_hash hash) rows row later distinct.0) in
        let neither : (same row r && not (has_hash row.hash r)) ≡ false = false_from_ne_true _ (λ both. let yes : same row r ≡ true = (and_parts (same row r) (not (has_hash row.hash r)) both).0 in cc) in
        ap (λ b. cond b (Some r) (find (λ q. same row q && not (has_hash row.hash q)) rows)) neither ∙ only_one hash rows row distinct.1 later
  ]

-- ---- each key goes both ways

turn_hashes : (r q : MnRow) → has_hash r.hash q ≡ true → has_hash q.hash r ≡ true
turn_hashes r q h = same_hash-from r.hash q.hash (sym (same_hash-is q.hash r.hash h))

turn_owners : (r q : MnRow) → has_owner r.owner q ≡ true → has_owner q.owner r ≡ true
turn_owners r q h = (bytes_eq-Decides r.owner q.owner).1 (sym ((bytes_eq-Decides q.owner r.owner).0 h))

turn_operators : (r q : MnRow) → has_operator r.operator q ≡ true → has_operator q.operator r ≡ true
turn_operators r q h =
    let parts = and_parts (not (is_zero r.operator)) (bytes_eq q.operator r.operator) h in
    let operator : q.operator ≡ r.operator = (bytes_eq-Decides _ _).0 parts.1 in
    rw operator (and_from _ _ parts.0 ((bytes_eq-Decides r.operator r.operator).1 refl))

turn_services : (r q : MnRow) → has_service r.service q ≡ true → has_service q.service r ≡ true
turn_services r q h =
    let parts = and_parts (not (no_service r.service)) (same_service q.service r.service) h in
    let both = and_parts (bytes_eq q.service.address r.service.address) (q.service.port == r.service.port) parts.1 in
    let address : q.service.address ≡ r.service.address = (bytes_eq-Decides _ _).0 both.0 in
    let port : q.service.port ≡ r.service.port = eqb-true _ _ both.1 in
    rw (address, port) (and_from (not (no_service r.service)) (same_service r.service r.service) parts.0 (and_from _ _ ((bytes_eq-Decides r.service.address r.service.address).1 refl) (eq-eqb _ _ refl)))

turn_collaterals : (r q : MnRow) → has_collateral r.collateral q ≡ true → has_collateral q.collateral r ≡ true
turn_collaterals r q h = same_point-from r.collateral q.collateral (sym (same_point-is q.collateral r.collateral h))

-- ---- all keys

pub HasDistinctKeys-filter : (keep : MnRow → Bool) (rows : List MnRow) → HasDistinctKeys rows → HasDistinctKeys (filter keep rows)
HasDistinctKeys-filter keep rows keys = record {
  hashes = AreDistinct-filter (λ r. has_hash r.hash) turn_hashes keep rows keys.hashes;
  owners = AreDistinct-filter (λ r. has_owner r.owner) turn_owners keep rows keys.owners;
  operators = AreDistinct-filter (λ r. has_operator r.operator) turn_operators keep rows keys.operators;
  services = AreDistinct-filter (λ r. has_service r.service) turn_services keep rows keys.services;
  collaterals = AreDistinct-filter (λ r. has_collateral r.collateral) turn_collaterals keep rows keys.collaterals;
}

-- no row of another hash has one of the row's keys
pub record IsNew (row : MnRow) (rows : List MnRow) : Type 0 where
  pub owner : find (λ q. has_owner row.owner q && not (has_hash row.hash q)) rows ≡ None
  pub operator : find (λ q. has_operator row.operator q && not (has_hash row.hash q)) rows ≡ None
  pub service : find (λ q. has_service row.service q && not (has_hash row.hash q)) rows ≡ None
  pub collateral : find (λ q. has_collateral row.collateral q && not (has_hash row.hash q)) rows ≡ None

contrary : (row q : MnRow) → (has_hash row.hash q && not (has_hash row.hash q)) ≡ true → false ≡ true
contrary row q both = let parts = and_parts (has_hash row.hash q) (not (has_hash row.hash q)) both in let yes : has_hash row.hash q ≡ true = parts.0 in let no : not (has_hash row.hash q) ≡ true = parts.1 in cc

pub HasDistinctKeys-put_row : (row : MnRow) (rows : List MnRow) → HasDistinctKeys rows → IsNew row rows → HasDistinctKeys (put_row row rows)
HasDistinctKeys-put_row row rows keys new = record {
  hashes = AreDistinct-put_row (λ r. has_hash r.hash) turn_hashes row rows keys.hashes (find-stronger (λ _. false) (λ q. has_hash row.hash q && not (has_hash row.hash q)) (contrary row) rows (find-nobody rows));
  owners = AreDistinct-put_row (λ r. has_owner r.owner) turn_owners row rows keys.owners new.owner;
  operators = AreDistinct-put_row (λ r. has_operator r.operator) turn_operators row rows keys.operators new.operator;
  services = AreDistinct-put_row (λ r. has_service r.service) turn_services row rows keys.services new.service;
  collaterals = AreDistinct-put_row (λ r. has_collateral r.collateral) turn_collaterals row rows keys.collaterals new.collateral;
}

-- a row that is found by its hash has keys of its own
pub IsNew-found : (hash : Hash256) (rows : List MnRow) (row : MnRow) → HasDistinctKeys rows → find (has_hash hash) rows ≡ Some row → IsNew row rows
IsNew-found hash rows row keys found = record {
  owner = only_one (λ r. has_owner r.owner) turn_owners hash rows row keys.owners found;
  operator = only_one (λ r. has_operator r.operator) turn_operators hash rows row keys.operators found;
  service = only_one (λ r. has_service r.service) turn_services hash rows row keys.services found;
  collateral = only_one (λ r. has_collateral r.collateral) turn_collaterals hash rows row keys.collaterals found;
}

-- ---- the penalties of a height are no keys

blind_none : (test : MnRow → Bool) (h : ℕ) (r : MnRow) (rows : List MnRow) → ((q : MnRow) → test (plain h q) ≡ test q) → find test (plain_rows h rows) ≡ None → find test rows ≡ None
blind_none test h r [] blind none = refl
blind_none test h r (q ∷ rows) blind none =
    let parts = find_none test (plain h q) (plain_rows h rows) none in
    ap (λ b. cond b (Some q) (find test rows)) (sym (blind q) ∙ parts.0) ∙ blind_none test h r rows blind parts.1

blind_some : (test : MnRow → Bool) (h : ℕ) (rows : List MnRow) → ((q : MnRow) → test (plain h q) ≡ test q) → find test rows ≡ None → find test (plain_rows h rows) ≡ None
blind_some test h [] blind none = refl
blind_some test h (q ∷ rows) blind none =
    let parts = find_none test q rows none in
    ap (λ b. cond b (Some (plain h q)) (find test (plain_rows h rows))) (blind q ∙ parts.0) ∙ blind_some test h rows blind parts.1

module _ (same : MnRow → MnRow → Bool) (left : (h : ℕ) (r q : MnRow) → same (plain h r) q ≡ same r q) (right : (h : ℕ) (r q : MnRow) → same r (plain h q) ≡ same r q) where
  AreDistinct-stored : (h : ℕ) (rows : List MnRow) → AreDistinct same (plain_rows h rows) → AreDistinct same rows
  AreDistinct-stored h [] distinct = tt
  AreDistinct-stored h (r ∷ rows) distinct =
      (find-stronger (same (plain h r)) (same r) (λ q is. left h r q ∙ is) rows (blind_none (same (plain h r)) h r rows (λ q. right h (plain h r) q) distinct.0), AreDistinct-stored h rows distinct.1)

  AreDistinct-plain : (h : ℕ) (rows : List MnRow) → AreDistinct same rows → AreDistinct same (plain_rows h rows)
  AreDistinct-plain h [] distinct = tt
  AreDistinct-plain h (r ∷ rows) distinct =
      (blind_some (same (plain h r)) h rows (λ q. right h (plain h r) q) (find-stronger (same r) (same (plain h r)) (λ q is. sym (left h r q) ∙ is) rows distinct.0), AreDistinct-plain h rows distinct.1)

pub HasDistinctKeys-stored : (h : ℕ) (rows : List MnRow) → HasDistinctKeys (plain_rows h rows) → HasDistinctKeys rows
HasDistinctKeys-stored h rows keys = record {
  hashes = AreDistinct-stored (λ r. has_hash r.hash) (λ _ _ _. refl) (λ _ _ _. refl) h rows keys.hashes;
  owners = AreDistinct-stored (λ r. has_owner r.owner) (λ _ _ _. refl) (λ _ _ _. refl) h rows keys.owners;
  operators = AreDistinct-stored (λ r. has_operator r.operator) (λ _ _ _. refl) (λ _ _ _. refl) h rows keys.operators;
  services = AreDistinct-stored (λ r. has_service r.service) (λ _ _ _. refl) (λ _ _ _. refl) h rows keys.services;
  collaterals = AreDistinct-stored (λ r. has_collateral r.collateral) (λ _ _ _. refl) (λ _ _ _. refl) h rows keys.collaterals;
}

pub HasDistinctKeys-plain : (h : ℕ) (rows : List MnRow) → HasDistinctKeys rows → HasDistinctKeys (plain_rows h rows)
HasDistinctKeys-plain h rows keys = record {
  hashes = AreDistinct-plain (λ r. has_hash r.hash) (λ _ _ _. refl) (λ _ _ _. refl) h rows keys.hashes;
  owners = AreDistinct-plain (λ r. has_owner r.owner) (λ _ _ _. refl) (λ _ _ _. refl) h rows keys.owners;
  operators = AreDistinct-plain (λ r. has_operator r.operator) (λ _ _ _. refl) (λ _ _ _. refl) h rows keys.operators;
  services = AreDistinct-plain (λ r. has_service r.service) (λ _ _ _. refl) (λ _ _ _. refl) h rows keys.services;
  collaterals = AreDistinct-plain (λ r. has_collateral r.collateral) (λ _ _ _. refl) (λ _ _ _. refl) h rows keys.collaterals;
}
