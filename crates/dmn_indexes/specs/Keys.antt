-- The keys by which rows are found, and their orders.
use Rattle.std.specs.Prelude.{◌≡◌, ℕ, ◌==◌, Bool, true, false, not, cond, List, [], ◌∷◌, Option, None, Some, refl, if◌then◌else◌}
use Rattle.std.specs.Option.{unwrap_or}
use Rattle.std.specs.Ordering.{nat_cmp, on, then_cmp, is_eq}
use Rattle.std.specs.Str.{bytes_eq}
use Rattle.std.specs.Cmp.Lexicographic.{slice_cmp, on_texts}
use Rattle.std.specs.declared.cmp.Ordering.{Ordering}
use Rattle.std.specs.declared.cmp.Ordering.TheVariants.{Less, Equal, Greater}
use Rattle.std.specs.Cmp.{tied_itself}
use Rattle.std.proofs.Common.{sym, ap, ◌∙◌}
use Rattle.std.proofs.lemmas.Bool.{and_parts, and_from, eqb-true, eq-eqb, not_from_false, not-true}
use Rattle.std.proofs.lemmas.Slice.Eq.{bytes_eq-Decides}
use Rattle.std.proofs.lemmas.Map.Lookups.{exact_bytes}
use Rattle.dmn_bytes.specs.Points.{is_zero, hash_cmp, point_cmp}
use Rattle.dmn_bytes.specs.declared.hash.Hash256.{Hash256}
use Rattle.dmn_bytes.specs.declared.points.OutPoint.{OutPoint}
use Rattle.dmn_bytes.specs.declared.points.Service.{Service}
use Rattle.dmn_rows.specs.declared.row.MnRow.{MnRow}
use Rattle.dmn_rows.specs.Distinct.{AreDistinct}
use Rattle.dmn_rows.specs.Keys.{same_hash-from, same_point-is, same_point-from}
use Rattle.dmn_rows.proofs.Lookups.{find-stronger}
use Rattle.dmn_rows.specs.Row.{pay_key}
use Rattle.dmn_rows.specs.Rows.{no_service, same_service, has_hash, has_owner, has_operator, has_service, has_collateral}
use Rattle.dmn_versions.specs.Laws.{KeyLaws, then_laws, number_laws, bytes_laws, hash_laws, point_laws}
use Rattle.dmn_indexes.specs.declared.keys.OwnerKey.{OwnerKey}
use Rattle.dmn_indexes.specs.declared.keys.OperatorKey.{OperatorKey}
use Rattle.dmn_indexes.specs.declared.keys.ServiceKey.{ServiceKey}
use Rattle.dmn_indexes.specs.declared.keys.PayKey.{PayKey}
use Rattle.dmn_indexes.specs.declared.keys.UnconfirmedKey.{UnconfirmedKey}
use Rattle.dmn_indexes.specs.Index.{is_key, clash, IsRowKey}

-- ---- orders

abbrev pub owner_cmp : OwnerKey → OwnerKey → Ordering
owner_cmp = on (λ k. k.0) (slice_cmp nat_cmp)

abbrev pub operator_cmp : OperatorKey → OperatorKey → Ordering
operator_cmp = on (λ k. k.0) (slice_cmp nat_cmp)

abbrev pub service_cmp : ServiceKey → ServiceKey → Ordering
service_cmp = then_cmp (on (λ s. s.address) (slice_cmp nat_cmp)) (on (λ s. s.port) nat_cmp)

abbrev pub pay_cmp : PayKey → PayKey → Ordering
pay_cmp = then_cmp (on (λ k. k.since) nat_cmp) (on (λ k. k.hash) hash_cmp)

abbrev pub unconfirmed_cmp : UnconfirmedKey → UnconfirmedKey → Ordering
unconfirmed_cmp = then_cmp (on (λ k. k.registered) nat_cmp) (on (λ k. k.hash) hash_cmp)

pub owner_laws : KeyLaws owner_cmp
owner_laws = record {
  total = on_texts (λ (k : OwnerKey). k.0);
  exact = λ a b tie. ap (λ (bytes : List ℕ). record { 0 = bytes }) (exact_bytes a.0 b.0 tie);
}

pub operator_laws : KeyLaws operator_cmp
operator_laws = record {
  total = on_texts (λ (k : OperatorKey). k.0);
  exact = λ a b tie. ap (λ (bytes : List ℕ). record { 0 = bytes }) (exact_bytes a.0 b.0 tie);
}

pub service_laws : KeyLaws service_cmp
service_laws = then_laws (slice_cmp nat_cmp) nat_cmp (λ (s : ServiceKey). s.address) (λ (s : ServiceKey). s.port) bytes_laws number_laws
    (λ x y address port. ap (λ (bytes : List ℕ). record { address = bytes; port = x.port }) address ∙ ap (λ (n : ℕ). record { address = y.address; port = n }) port)

pub pay_laws : KeyLaws pay_cmp
pay_laws = then_laws nat_cmp hash_cmp (λ (k : PayKey). k.since) (λ (k : PayKey). k.hash) number_laws hash_laws
    (λ x y since hash. ap (λ (n : ℕ). record { since = n; hash = x.hash }) since ∙ ap (λ (h : Hash256). record { since = y.since; hash = h }) hash)

pub unconfirmed_laws : KeyLaws unconfirmed_cmp
unconfirmed_laws = then_laws nat_cmp hash_cmp (λ (k : UnconfirmedKey). k.registered) (λ (k : UnconfirmedKey). k.hash) number_laws hash_laws
    (λ x y registered hash. ap (λ (n : ℕ). record { registered = n; hash = x.hash }) registered ∙ ap (λ (h : Hash256). record { registered = y.registered; hash = h }) hash)

-- ---- the keys of a row

abbrev pub owner_of : MnRow → Option OwnerKey
owner_of r = Some (record { 0 = r.owner })

-- a zero key is nobody's
abbrev pub operator_of : MnRow → Option OperatorKey
operator_of r = if is_zero r.operator then None else Some (record { 0 = r.operator })

-- a service that isn't set is nobody's
abbrev pub service_of : MnRow → Option ServiceKey
service_of r = if no_service r.service then None else Some (record { address = r.service.address; port = r.service.port })

abbrev pub collateral_of : MnRow → Option OutPoint
collateral_of r = Some r.collateral

-- a banned row isn't paid
abbrev pub pay_of : MnRow → Option PayKey
pay_of r = if r.banned == 0 then Some (record { since = pay_key r; hash = r.hash }) else None

-- a confirmed row waits no more
abbrev pub unconfirmed_of : MnRow → Option UnconfirmedKey
unconfirmed_of r = if is_zero r.confirmed.0 then Some (record { registered = r.registered; hash = r.hash }) else None

-- ---- a row has a key

abbrev pub has_owner_key : OwnerKey → MnRow → Bool
has_owner_key k = has_owner k.0

abbrev pub has_operator_key : OperatorKey → MnRow → Bool
has_operator_key k = has_operator k.0

abbrev pub service_from : ServiceKey → Service
service_from k = record { address = k.address; port = k.port }

abbrev pub has_service_key : ServiceKey → MnRow → Bool
has_service_key k = has_service (service_from k)

abbrev pub has_pay_key : PayKey → MnRow → Bool
has_pay_key k r = is_key pay_cmp k (pay_of r)

abbrev pub has_unconfirmed_key : UnconfirmedKey → MnRow → Bool
has_unconfirmed_key k r = is_key unconfirmed_cmp k (unconfirmed_of r)

-- ---- their laws

eq_from : (o : Ordering) → is_eq o ≡ true → o ≡ Equal
eq_from Less h = cc
eq_from Equal h = refl
eq_from Greater h = cc

maybe_is : {A : Type 0} (b : Bool) (x k : A) → cond b None (Some x) ≡ Some k → (b ≡ false) × (x ≡ k)
maybe_is true x k e = absurd cc
maybe_is false x k e = (refl, ap (λ o. unwrap_or o k) e)

maybe_from : {A : Type 0} (b : Bool) (x k : A) → b ≡ false → x ≡ k → cond b None (Some x) ≡ Some k
maybe_from b x k differs is = rw differs (ap (λ y. Some y) is)

some_is : {A : Type 0} (b : Bool) (x k : A) → cond b (Some x) None ≡ Some k → x ≡ k
some_is true x k e = ap (λ o. unwrap_or o k) e
some_is false x k e = absurd cc

AreDistinct-stronger : {V : Type 0} (weak strong : V → V → Bool) → ((v w : V) → strong v w ≡ true → weak v w ≡ true) → (list : List V) → AreDistinct weak list → AreDistinct strong list
AreDistinct-stronger weak strong implies [] distinct = tt
AreDistinct-stronger weak strong implies (v ∷ list) distinct =
    (find-stronger (weak v) (strong v) (implies v) list distinct.0, AreDistinct-stronger weak strong implies list distinct.1)

module _ {K : Type 0} (cmp : K → K → Ordering) (laws : KeyLaws cmp) where
  pub is_key-is : (k : K) (o : Option K) → is_key cmp k o ≡ true → o ≡ Some k
  is_key-is k None h = cc
  is_key-is k (Some q) h = ap (λ y. Some y) (sym (laws.exact k q (eq_from (cmp k q) h)))

  pub is_key-from : (k : K) (o : Option K) → o ≡ Some k → is_key cmp k o ≡ true
  is_key-from k o e = ap (is_key cmp k) e ∙ ap is_eq (tied_itself laws.total k)

  apart_by : (key : MnRow → Option K) (same : MnRow → MnRow → Bool) → ((r q : MnRow) (k : K) → key r ≡ Some k → key q ≡ Some k → same r q ≡ true) → (rows : List MnRow) → AreDistinct same rows → AreDistinct (λ r q. clash cmp (key r) (key q)) rows
  apart_by key same implies = AreDistinct-stronger same (λ r q. clash cmp (key r) (key q)) (λ r q. go r q (key r) refl)
    where
      go : (r q : MnRow) (o : Option K) → key r ≡ o → clash cmp o (key q) ≡ true → same r q ≡ true
      go r q None e h = cc
      go r q (Some k) e h = implies r q k e (is_key-is k (key q) h)

bytes_from : (a b : List ℕ) → a ≡ b → bytes_eq a b ≡ true
bytes_from a b e = (bytes_eq-Decides a b).1 e

bytes_is : (a b : List ℕ) → bytes_eq a b ≡ true → a ≡ b
bytes_is a b h = (bytes_eq-Decides a b).0 h

owner_is : (r : MnRow) (k : OwnerKey) → owner_of r ≡ Some k → r.owner ≡ k.0
owner_is r k e = ap (λ (o : Option OwnerKey). (unwrap_or o k).0) e

pub owner_row_key : IsRowKey owner_cmp owner_of has_owner_key
owner_row_key = record {
  decides = λ k r h. ap (λ (bytes : List ℕ). Some (record { 0 = bytes })) (bytes_is r.owner k.0 h);
  decided = λ k r e. bytes_from r.owner k.0 (owner_is r k e);
  apart = λ rows distinct. apart_by owner_cmp owner_laws owner_of (λ r. has_owner r.owner) (λ r q k a b. bytes_from q.owner r.owner (owner_is q k b ∙ sym (owner_is r k a))) rows distinct.owners;
}

operator_is : (r : MnRow) (k : OperatorKey) → operator_of r ≡ Some k → (is_zero r.operator ≡ false) × (r.operator ≡ k.0)
operator_is r k e = let parts = maybe_is (is_zero r.operator) (record { 0 = r.operator }) k e in (parts.0, ap (λ (x : OperatorKey). x.0) parts.1)

has_operator_from : (key : List ℕ) (r : MnRow) → is_zero r.operator ≡ false → r.operator ≡ key → has_operator key r ≡ true
has_operator_from key r set is = and_from (not (is_zero key)) (bytes_eq r.operator key) (not_from_false (is_zero key) (sym (ap is_zero is) ∙ set)) (bytes_from r.operator key is)

pub operator_row_key : IsRowKey operator_cmp operator_of has_operator_key
operator_row_key = record {
  decides = λ k r h.
      let parts = and_parts (not (is_zero k.0)) (bytes_eq r.operator k.0) h in
      let is : r.operator ≡ k.0 = bytes_is r.operator k.0 parts.1 in
      maybe_from (is_zero r.operator) (record { 0 = r.operator }) k (ap is_zero is ∙ not-true (is_zero k.0) parts.0) (ap (λ (bytes : List ℕ). record { 0 = bytes }) is);
  decided = λ k r e. let is = operator_is r k e in has_operator_from k.0 r is.0 is.1;
  apart = λ rows distinct. apart_by operator_cmp operator_laws operator_of (λ r. has_operator r.operator)
      (λ r q k a b. let is = operator_is q k b in has_operator_from r.operator q is.0 (is.1 ∙ sym (operator_is r k a).1)) rows distinct.operators;
}

key_from : Service → ServiceKey
key_from s = record { address = s.address; port = s.port }

service_is : (r : MnRow) (k : ServiceKey) → service_of r ≡ Some k → (no_service r.service ≡ false) × (r.service ≡ service_from k)
service_is r k e = let parts = maybe_is (no_service r.service) (record { address = r.service.address; port = r.service.port }) k e in (parts.0, ap service_from parts.1)

has_service_from : (s : Service) (r : MnRow) → no_service r.service ≡ false → r.service ≡ s → has_service s r ≡ true
has_service_from s r set is =
    and_from (not (no_service s)) (same_service r.service s) (not_from_false (no_service s) (sym (ap no_service is) ∙ set))
    (and_from (bytes_eq r.service.address s.address) (r.service.port == s.port) (bytes_from _ _ (ap (λ (x : Service). x.address) is)) (eq-eqb _ _ (ap (λ (x : Service). x.port) is)))

pub service_row_key : IsRowKey service_cmp service_of has_service_key
service_row_key = record {
  decides = λ k r h.
      let s : Service = service_from k in
      let parts = and_parts (not (no_service s)) (same_service r.service s) h in
      let both = and_parts (bytes_eq r.service.address s.address) (r.service.port == s.port) parts.1 in
      let address : r.service.address ≡ k.address = bytes_is r.service.address k.address both.0 in
      let port : r.service.port ≡ k.port = eqb-true _ _ both.1 in
      let is : r.service ≡ s = ap (λ (bytes : List ℕ). record { address = bytes; port = r.service.port }) address ∙ ap (λ (n : ℕ). record { address = k.address; port = n }) port in
      maybe_from (no_service r.service) (record { address = r.service.address; port = r.service.port }) k (ap no_service is ∙ not-true (no_service s) parts.0) (ap (λ (x : Service). record { address = x.address; port = x.port }) is);
  decided = λ k r e. let is = service_is r k e in has_service_from (service_from k) r is.0 is.1;
  apart = λ rows distinct. apart_by service_cmp service_laws service_of (λ r. has_service r.service)
      (λ r q k a b. let is = service_is q k b in has_service_from r.service q is.0 (is.1 ∙ sym (service_is r k a).1)) rows distinct.services;
}

collateral_is : (r : MnRow) (k : OutPoint) → collateral_of r ≡ Some k → r.collateral ≡ k
collateral_is r k e = ap (λ (o : Option OutPoint). unwrap_or o k) e

pub collateral_row_key : IsRowKey point_cmp collateral_of has_collateral
collateral_row_key = record {
  decides = λ k r h. ap (λ (p : OutPoint). Some p) (same_point-is r.collateral k h);
  decided = λ k r e. same_point-from r.collateral k (collateral_is r k e);
  apart = λ rows distinct. apart_by point_cmp point_laws collateral_of (λ r. has_collateral r.collateral) (λ r q k a b. same_point-from q.collateral r.collateral (collateral_is q k b ∙ sym (collateral_is r k a))) rows distinct.collaterals;
}

pay_is : (r : MnRow) (k : PayKey) → pay_of r ≡ Some k → r.hash ≡ k.hash
pay_is r k e = ap (λ (x : PayKey). x.hash) (some_is (r.banned == 0) (record { since = pay_key r; hash = r.hash }) k e)

pub pay_row_key : IsRowKey pay_cmp pay_of has_pay_key
pay_row_key = record {
  decides = λ k r h. is_key-is pay_cmp pay_laws k (pay_of r) h;
  decided = λ k r e. is_key-from pay_cmp pay_laws k (pay_of r) e;
  apart = λ rows distinct. apart_by pay_cmp pay_laws pay_of (λ r. has_hash r.hash) (λ r q k a b. same_hash-from q.hash r.hash (pay_is q k b ∙ sym (pay_is r k a))) rows distinct.hashes;
}

unconfirmed_is : (r : MnRow) (k : UnconfirmedKey) → unconfirmed_of r ≡ Some k → r.hash ≡ k.hash
unconfirmed_is r k e = ap (λ (x : UnconfirmedKey). x.hash) (some_is (is_zero r.confirmed.0) (record { registered = r.registered; hash = r.hash }) k e)

pub unconfirmed_row_key : IsRowKey unconfirmed_cmp unconfirmed_of has_unconfirmed_key
unconfirmed_row_key = record {
  decides = λ k r h. is_key-is unconfirmed_cmp unconfirmed_laws k (unconfirmed_of r) h;
  decided = λ k r e. is_key-from unconfirmed_cmp unconfirmed_laws k (unconfirmed_of r) e;
  apart = λ rows distinct. apart_by unconfirmed_cmp unconfirmed_laws unconfirmed_of (λ r. has_hash r.hash) (λ r q k a b. same_hash-from q.hash r.hash (unconfirmed_is q k b ∙ sym (unconfirmed_is r k a))) rows distinct.hashes;
}
