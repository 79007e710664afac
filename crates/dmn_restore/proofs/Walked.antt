-- What the walks over two versions' trees give leads from the one list to the other, and has its form.
use Rattle.std.proofs.Common.{◌≡◌, ◌==◌, ◌&&◌, ℕ, Bool, true, false, not, cond, List, [], ◌∷◌, map, filter, find, Option, None, Some, refl, sym, ap, ◌∙◌, subst}
use Rattle.std.specs.Prelude.{IsSome, is_some}
use Rattle.std.specs.List.{AllByRecursion}
use Rattle.std.specs.Option.{option_map, option_map_or}
use Rattle.std.specs.Str.{bytes_eq}
use Rattle.std.specs.declared.cmp.Ordering.{Ordering}
use Rattle.std.proofs.lemmas.Bool.{and_parts, eqb-true}
use Rattle.std.proofs.lemmas.Slice.Eq.{bytes_eq-Decides}
use Rattle.dmn_bytes.specs.contracts.points.OutPointPartialEq.TheImpl as points
use Rattle.dmn_bytes.specs.contracts.points.PayPartialEq.TheImpl as pays
use Rattle.dmn_bytes.specs.declared.hash.Hash256.{Hash256}
use Rattle.dmn_bytes.specs.declared.points.OutPoint.{OutPoint}
use Rattle.dmn_bytes.specs.declared.points.Pay.{Pay}
use Rattle.dmn_bytes.specs.Format.{hash}
use Rattle.dmn_bytes.specs.Points.{hash_cmp, point_cmp}
use Rattle.dmn_indexes.specs.declared.indexes.Indexes.{Indexes}
use Rattle.dmn_indexes.specs.declared.version.Version.{Version}
use Rattle.dmn_indexes.specs.Version.{IsWhole, by_hash, outputs_in, outputs_of, rows_in, values}
use Rattle.dmn_indexes.proofs.Table.{find-by_key}
use Rattle.dmn_indexes.proofs.Whole.{outputs_of-pairs, pairs-outputs_of, values-by_hash}
use Rattle.dmn_rows.specs.contracts.row.MnRowPartialEq.TheImpl as rows_alike
use Rattle.dmn_rows.specs.declared.row.MnRow.{MnRow}
use Rattle.dmn_rows.specs.declared.start.StartOutput.{StartOutput}
use Rattle.dmn_rows.specs.Keys.{output_key, row_key}
use Rattle.dmn_rows.specs.Rows.{Outputs, has_hash, has_point}
use Rattle.dmn_rows.specs.Sorted.{IsKey}
use Rattle.dmn_rows.specs.Start.{point_of}
use Rattle.dmn_versions.specs.declared.arena.Arena.{Arena}
use Rattle.dmn_versions.specs.declared.node.Root.{Root}
use Rattle.dmn_versions.specs.Trees.{reads}
use Rattle.dmn_versions.proofs.Steps.{empty_pairs}
use Rattle.dmn_walk.specs.Delta.{gone_of, has_pair, put_of}
use Rattle.dmn_restore.specs.Lists.{hash_of, next_outputs, next_rows}
use Rattle.dmn_restore.proofs.Keyed as keyed
use Rattle.dmn_restore.proofs.Rising.{version_outputs, version_rows}

-- ---- pairs, as a walk gives them

some_map : {A B : Type 0} (f : A → B) (o : Option A) → is_some (option_map f o) ≡ is_some o
some_map f None = refl
some_map f (Some a) = refl

or_map : {A B : Type 0} (f : A → B) (test : B → Bool) (o : Option A) → option_map_or test (option_map f o) false ≡ option_map_or (λ a. test (f a)) o false
or_map f test None = refl
or_map f test (Some a) = refl

module _ {K V W : Type 0} (cmp : K → K → Ordering) (key : V → K) (has : K → V → Bool) (is : IsKey cmp key has) (value : V → W) (eq : W → W → Bool) where
  -- each value under its key
  abbrev pub pairs_of : List V → List (K × W)
  pairs_of = map (λ v. (key v, value v))

  abbrev pub alike : V → V → Bool
  alike v w = eq (value v) (value w)

  pub gone_pairs : (old new : List V) → gone_of cmp (pairs_of old) (pairs_of new) ≡ keyed.gone cmp key has is old new
  gone_pairs [] new = refl
  gone_pairs (v ∷ old) new =
      ap (λ (b : Bool). cond b (gone_of cmp (pairs_of old) (pairs_of new)) (key v ∷ gone_of cmp (pairs_of old) (pairs_of new))) (ap (λ (o : Option W). is_some o) (find-by_key cmp key has is value (key v) new) ∙ some_map value (find (has (key v)) new))
      ∙ ap (λ (l : List K). cond (is_some (find (has (key v)) new)) l (key v ∷ l)) (gone_pairs old new)
      ∙ elim (is_some (find (has (key v)) new)) as (λ (b : Bool). cond b (keyed.gone cmp key has is old new) (key v ∷ keyed.gone cmp key has is old new) ≡ map key (cond (not b) (v ∷ filter (λ v. not (is_some (find (has (key v)) new))) old) (filter (λ v. not (is_some (find (has (key v)) new))) old))) [ true ↦ refl | false ↦ refl ]

  pub put_pairs : (old new : List V) → put_of cmp eq (pairs_of old) (pairs_of new) ≡ pairs_of (keyed.fresh cmp key has is alike old new)
  put_pairs old [] = refl
  put_pairs old (v ∷ new) =
      ap (λ (b : Bool). cond b (put_of cmp eq (pairs_of old) (pairs_of new)) ((key v, value v) ∷ put_of cmp eq (pairs_of old) (pairs_of new))) kept
      ∙ ap (λ (l : List (K × W)). cond (keyed.is_kept cmp key has is alike old v) l ((key v, value v) ∷ l)) (put_pairs old new)
      ∙ elim (keyed.is_kept cmp key has is alike old v) as (λ (b : Bool). cond b (pairs_of (keyed.fresh cmp key has is alike old new)) ((key v, value v) ∷ pairs_of (keyed.fresh cmp key has is alike old new)) ≡ pairs_of (cond (not b) (v ∷ keyed.fresh cmp key has is alike old new) (keyed.fresh cmp key has is alike old new))) [ true ↦ refl | false ↦ refl ]
    where
      kept : has_pair cmp eq (pairs_of old) (key v, value v) ≡ keyed.is_kept cmp key has is alike old v
      kept = ap (λ (o : Option W). option_map_or (λ (w : W). eq w (value v)) o false) (find-by_key cmp key has is value (key v) old) ∙ or_map value (λ (w : W). eq w (value v)) (find (has (key v)) old)

-- ---- values that are the same are equal

same_bytes : (a b : List ℕ) → bytes_eq a b ≡ true → a ≡ b
same_bytes a b h = (bytes_eq-Decides a b).0 h

made_pay : ℕ → List ℕ → Pay
made_pay kind hash = record { kind = kind; hash = hash }

pub pay_exact : (a b : Pay) → (pays.ghosts).eq a b ≡ true → a ≡ b
unfolding made_pay
pay_exact a b same =
    let parts = and_parts (a.kind == b.kind) (bytes_eq a.hash b.hash) same in
    let e1 : a.kind ≡ b.kind = eqb-true a.kind b.kind parts.0 in
    let e2 : a.hash ≡ b.hash = same_bytes a.hash b.hash parts.1 in
    let is : made_pay a.kind a.hash ≡ made_pay b.kind b.hash = cc in
    is

made_point : List ℕ → ℕ → OutPoint
made_point hash index = record { hash = record { 0 = hash }; index = index }

point_exact : (a b : OutPoint) → (points.ghosts).eq a b ≡ true → a ≡ b
unfolding made_point
point_exact a b same =
    let parts = and_parts (bytes_eq a.hash.0 b.hash.0) (a.index == b.index) same in
    let e1 : a.hash.0 ≡ b.hash.0 = same_bytes a.hash.0 b.hash.0 parts.0 in
    let e2 : a.index ≡ b.index = eqb-true a.index b.index parts.1 in
    let is : made_point a.hash.0 a.index ≡ made_point b.hash.0 b.index = cc in
    is

abbrev pub same_row : MnRow → MnRow → Bool
same_row = (rows_alike.ghosts).eq

-- `==` at rows, from a field on
abbrev from_operator_payout : MnRow → MnRow → Bool
from_operator_payout a b = (pays.ghosts).eq a.operator_payout b.operator_payout && ((a.reward == b.reward) && ((points.ghosts).eq a.collateral b.collateral && (pays.ghosts).eq a.script b.script))

abbrev from_payout : MnRow → MnRow → Bool
from_payout a b = (pays.ghosts).eq a.payout b.payout && from_operator_payout a b

abbrev from_service : MnRow → MnRow → Bool
from_service a b = (bytes_eq a.service.address b.service.address && (a.service.port == b.service.port)) && from_payout a b

abbrev from_voting : MnRow → MnRow → Bool
from_voting a b = bytes_eq a.voting b.voting && from_service a b

abbrev from_operator : MnRow → MnRow → Bool
from_operator a b = bytes_eq a.operator b.operator && from_voting a b

abbrev from_owner : MnRow → MnRow → Bool
from_owner a b = bytes_eq a.owner b.owner && from_operator a b

abbrev from_reason : MnRow → MnRow → Bool
from_reason a b = (a.reason == b.reason) && from_owner a b

abbrev from_penalty_at : MnRow → MnRow → Bool
from_penalty_at a b = (a.penalty_at == b.penalty_at) && from_reason a b

abbrev from_penalty : MnRow → MnRow → Bool
from_penalty a b = (a.penalty == b.penalty) && from_penalty_at a b

abbrev from_banned : MnRow → MnRow → Bool
from_banned a b = (a.banned == b.banned) && from_penalty a b

abbrev from_revived : MnRow → MnRow → Bool
from_revived a b = (a.revived == b.revived) && from_banned a b

abbrev from_last_paid : MnRow → MnRow → Bool
from_last_paid a b = (a.last_paid == b.last_paid) && from_revived a b

abbrev from_registered : MnRow → MnRow → Bool
from_registered a b = (a.registered == b.registered) && from_last_paid a b

abbrev from_confirmed : MnRow → MnRow → Bool
from_confirmed a b = bytes_eq a.confirmed.0 b.confirmed.0 && from_registered a b

-- a row by its parts
made_row : List ℕ → List ℕ → ℕ → ℕ → ℕ → ℕ → ℕ → ℕ → ℕ → List ℕ → List ℕ → List ℕ → List ℕ → ℕ → Pay → Pay → ℕ → OutPoint → Pay → MnRow
made_row hash confirmed registered last_paid revived banned penalty penalty_at reason owner operator voting address port payout operator_payout reward collateral script = record {
  hash = record { 0 = hash };
  confirmed = record { 0 = confirmed };
  registered = registered;
  last_paid = last_paid;
  revived = revived;
  banned = banned;
  penalty = penalty;
  penalty_at = penalty_at;
  reason = reason;
  owner = owner;
  operator = operator;
  voting = voting;
  service = record { address = address; port = port };
  payout = payout;
  operator_payout = operator_payout;
  reward = reward;
  collateral = collateral;
  script = script;
}

abbrev row_again : MnRow → MnRow
row_again r = made_row r.hash.0 r.confirmed.0 r.registered r.last_paid r.revived r.banned r.penalty r.penalty_at r.reason r.owner r.operator r.voting r.service.address r.service.port r.payout r.operator_payout r.reward r.collateral r.script

pub row_exact : (a b : MnRow) → same_row a b ≡ true → a ≡ b
unfolding made_row
row_exact a b same =
    let hash = and_parts (bytes_eq a.hash.0 b.hash.0) (from_confirmed a b) same in
    let confirmed = and_parts (bytes_eq a.confirmed.0 b.confirmed.0) (from_registered a b) hash.1 in
    let registered = and_parts (a.registered == b.registered) (from_last_paid a b) confirmed.1 in
    let last_paid = and_parts (a.last_paid == b.last_paid) (from_revived a b) registered.1 in
    let revived = and_parts (a.revived == b.revived) (from_banned a b) last_paid.1 in
    let banned = and_parts (a.banned == b.banned) (from_penalty a b) revived.1 in
    let penalty = and_parts (a.penalty == b.penalty) (from_penalty_at a b) banned.1 in
    let penalty_at = and_parts (a.penalty_at == b.penalty_at) (from_reason a b) penalty.1 in
    let reason = and_parts (a.reason == b.reason) (from_owner a b) penalty_at.1 in
    let owner = and_parts (bytes_eq a.owner b.owner) (from_operator a b) reason.1 in
    let operator = and_parts (bytes_eq a.operator b.operator) (from_voting a b) owner.1 in
    let voting = and_parts (bytes_eq a.voting b.voting) (from_service a b) operator.1 in
    let service = and_parts (bytes_eq a.service.address b.service.address && (a.service.port == b.service.port)) (from_payout a b) voting.1 in
    let serves = and_parts (bytes_eq a.service.address b.service.address) (a.service.port == b.service.port) service.0 in
    let payout = and_parts ((pays.ghosts).eq a.payout b.payout) (from_operator_payout a b) service.1 in
    let operator_payout = and_parts ((pays.ghosts).eq a.operator_payout b.operator_payout) ((a.reward == b.reward) && ((points.ghosts).eq a.collateral b.collateral && (pays.ghosts).eq a.script b.script)) payout.1 in
    let reward = and_parts (a.reward == b.reward) ((points.ghosts).eq a.collateral b.collateral && (pays.ghosts).eq a.script b.script) operator_payout.1 in
    let collateral = and_parts ((points.ghosts).eq a.collateral b.collateral) ((pays.ghosts).eq a.script b.script) reward.1 in
    let e1 : a.hash.0 ≡ b.hash.0 = same_bytes a.hash.0 b.hash.0 hash.0 in
    let e2 : a.confirmed.0 ≡ b.confirmed.0 = same_bytes a.confirmed.0 b.confirmed.0 confirmed.0 in
    let e3 : a.registered ≡ b.registered = eqb-true a.registered b.registered registered.0 in
    let e4 : a.last_paid ≡ b.last_paid = eqb-true a.last_paid b.last_paid last_paid.0 in
    let e5 : a.revived ≡ b.revived = eqb-true a.revived b.revived revived.0 in
    let e6 : a.banned ≡ b.banned = eqb-true a.banned b.banned banned.0 in
    let e7 : a.penalty ≡ b.penalty = eqb-true a.penalty b.penalty penalty.0 in
    let e8 : a.penalty_at ≡ b.penalty_at = eqb-true a.penalty_at b.penalty_at penalty_at.0 in
    let e9 : a.reason ≡ b.reason = eqb-true a.reason b.reason reason.0 in
    let e10 : a.owner ≡ b.owner = same_bytes a.owner b.owner owner.0 in
    let e11 : a.operator ≡ b.operator = same_bytes a.operator b.operator operator.0 in
    let e12 : a.voting ≡ b.voting = same_bytes a.voting b.voting voting.0 in
    let e13 : a.service.address ≡ b.service.address = same_bytes a.service.address b.service.address serves.0 in
    let e14 : a.service.port ≡ b.service.port = eqb-true a.service.port b.service.port serves.1 in
    let e15 : a.payout ≡ b.payout = pay_exact a.payout b.payout payout.0 in
    let e16 : a.operator_payout ≡ b.operator_payout = pay_exact a.operator_payout b.operator_payout operator_payout.0 in
    let e17 : a.reward ≡ b.reward = eqb-true a.reward b.reward reward.0 in
    let e18 : a.collateral ≡ b.collateral = point_exact a.collateral b.collateral collateral.0 in
    let e19 : a.script ≡ b.script = pay_exact a.script b.script collateral.1 in
    let is : row_again a ≡ row_again b = cc in
    is

same_pay : Pay → Pay → Bool
same_pay = (pays.ghosts).eq

output_exact : (a b : StartOutput) → a.point ≡ b.point → (pays.ghosts).eq a.pay b.pay ≡ true → a ≡ b
output_exact a b point same =
    ap (λ (p : OutPoint). record { point = p; pay = a.pay }) point ∙ ap (λ (p : Pay). record { point = b.point; pay = p }) (pay_exact a.pay b.pay same)

-- ---- two whole versions

abbrev pub rows_gone : List MnRow → List MnRow → List Hash256
rows_gone = keyed.gone hash_cmp hash_of has_hash row_key

abbrev pub rows_fresh : List MnRow → List MnRow → List MnRow
rows_fresh = keyed.fresh hash_cmp hash_of has_hash row_key (alike hash_cmp hash_of has_hash row_key (λ (r : MnRow). r) same_row)

abbrev pub points_gone : Outputs → Outputs → List OutPoint
points_gone = keyed.gone point_cmp point_of has_point output_key

abbrev pub outputs_fresh : Outputs → Outputs → Outputs
outputs_fresh = keyed.fresh point_cmp point_of has_point output_key (alike point_cmp point_of has_point output_key (λ (o : StartOutput). o.pay) (pays.ghosts).eq)

module _ (ix : Indexes) (old new : Version) (before : IsWhole ix old) (after : IsWhole ix new) where
  outputs_read : (v : Version) → reads ix.outputs v.outputs ≡ map (λ (o : StartOutput). (o.point, o.pay)) (outputs_in ix v)
  outputs_read v = sym (pairs-outputs_of (reads ix.outputs v.outputs))

  pub removed_is : gone_of hash_cmp (reads ix.rows old.rows) (reads ix.rows new.rows) ≡ rows_gone (rows_in ix old) (rows_in ix new)
  removed_is =
      ap (λ (l : List (Hash256 × MnRow)). gone_of hash_cmp l (reads ix.rows new.rows)) before.reads
      ∙ ap (gone_of hash_cmp (by_hash (rows_in ix old))) after.reads
      ∙ gone_pairs hash_cmp hash_of has_hash row_key (λ (r : MnRow). r) same_row (rows_in ix old) (rows_in ix new)

  pub put_is : values (put_of hash_cmp same_row (reads ix.rows old.rows) (reads ix.rows new.rows)) ≡ rows_fresh (rows_in ix old) (rows_in ix new)
  put_is =
      ap (λ (l : List (Hash256 × MnRow)). values (put_of hash_cmp same_row l (reads ix.rows new.rows))) before.reads
      ∙ ap (λ (l : List (Hash256 × MnRow)). values (put_of hash_cmp same_row (by_hash (rows_in ix old)) l)) after.reads
      ∙ ap values (put_pairs hash_cmp hash_of has_hash row_key (λ (r : MnRow). r) same_row (rows_in ix old) (rows_in ix new))
      ∙ values-by_hash (rows_fresh (rows_in ix old) (rows_in ix new))

  pub spent_is : gone_of point_cmp (reads ix.outputs old.outputs) (reads ix.outputs new.outputs) ≡ points_gone (outputs_in ix old) (outputs_in ix new)
  spent_is =
      ap (λ (l : List (OutPoint × Pay)). gone_of point_cmp l (reads ix.outputs new.outputs)) (outputs_read old)
      ∙ ap (gone_of point_cmp (map (λ (o : StartOutput). (o.point, o.pay)) (outputs_in ix old))) (outputs_read new)
      ∙ gone_pairs point_cmp point_of has_point output_key (λ (o : StartOutput). o.pay) (pays.ghosts).eq (outputs_in ix old) (outputs_in ix new)

  pub added_is : outputs_of (put_of point_cmp (pays.ghosts).eq (reads ix.outputs old.outputs) (reads ix.outputs new.outputs)) ≡ outputs_fresh (outputs_in ix old) (outputs_in ix new)
  added_is =
      ap (λ (l : List (OutPoint × Pay)). outputs_of (put_of point_cmp (pays.ghosts).eq l (reads ix.outputs new.outputs))) (outputs_read old)
      ∙ ap (λ (l : List (OutPoint × Pay)). outputs_of (put_of point_cmp (pays.ghosts).eq (map (λ (o : StartOutput). (o.point, o.pay)) (outputs_in ix old)) l)) (outputs_read new)
      ∙ ap outputs_of (put_pairs point_cmp point_of has_point output_key (λ (o : StartOutput). o.pay) (pays.ghosts).eq (outputs_in ix old) (outputs_in ix new))
      ∙ outputs_of-pairs (outputs_fresh (outputs_in ix old) (outputs_in ix new))

  pub rows_lead : (removed : List Hash256) (put : List MnRow) → removed ≡ gone_of hash_cmp (reads ix.rows old.rows) (reads ix.rows new.rows) → put ≡ values (put_of hash_cmp same_row (reads ix.rows old.rows) (reads ix.rows new.rows)) → next_rows removed put (rows_in ix old) ≡ rows_in ix new
  rows_lead removed put gone fresh =
      ap (λ (l : List Hash256). next_rows l put (rows_in ix old)) (gone ∙ removed_is)
      ∙ ap (λ (l : List MnRow). next_rows (rows_gone (rows_in ix old) (rows_in ix new)) l (rows_in ix old)) (fresh ∙ put_is)
      ∙ keyed.leads hash_cmp hash_of has_hash row_key (alike hash_cmp hash_of has_hash row_key (λ (r : MnRow). r) same_row) (λ a b one same. row_exact a b same) (rows_in ix old) (rows_in ix new) (version_rows ix old before) (version_rows ix new after)

  pub outputs_lead : (spent : List OutPoint) (added : Outputs) → spent ≡ gone_of point_cmp (reads ix.outputs old.outputs) (reads ix.outputs new.outputs) → added ≡ outputs_of (put_of point_cmp (pays.ghosts).eq (reads ix.outputs old.outputs) (reads ix.outputs new.outputs)) → next_outputs spent added (outputs_in ix old) ≡ outputs_in ix new
  outputs_lead spent added gone fresh =
      ap (λ (l : List OutPoint). next_outputs l added (outputs_in ix old)) (gone ∙ spent_is)
      ∙ ap (λ (l : Outputs). next_outputs (points_gone (outputs_in ix old) (outputs_in ix new)) l (outputs_in ix old)) (fresh ∙ added_is)
      ∙ keyed.leads point_cmp point_of has_point output_key (alike point_cmp point_of has_point output_key (λ (o : StartOutput). o.pay) (pays.ghosts).eq) output_exact (outputs_in ix old) (outputs_in ix new) (version_outputs ix old before) (version_outputs ix new after)

  -- what is gone was there
  pub removed_found : (removed : List Hash256) → removed ≡ gone_of hash_cmp (reads ix.rows old.rows) (reads ix.rows new.rows) → AllByRecursion (λ (hash : Hash256). IsSome (find (has_hash hash) (rows_in ix old))) removed
  removed_found removed gone =
      subst (AllByRecursion (λ (hash : Hash256). IsSome (find (has_hash hash) (rows_in ix old)))) (sym (gone ∙ removed_is))
      (keyed.gone_found hash_cmp hash_of has_hash row_key (rows_in ix old) (rows_in ix new))

  pub spent_found : (spent : List OutPoint) → spent ≡ gone_of point_cmp (reads ix.outputs old.outputs) (reads ix.outputs new.outputs) → AllByRecursion (λ (point : OutPoint). IsSome (find (has_point point) (outputs_in ix old))) spent
  spent_found spent gone =
      subst (AllByRecursion (λ (point : OutPoint). IsSome (find (has_point point) (outputs_in ix old)))) (sym (gone ∙ spent_is))
      (keyed.gone_found point_cmp point_of has_point output_key (outputs_in ix old) (outputs_in ix new))

-- ---- a whole version, as what differs from none

all_put : {K V : Type 0} (cmp : K → K → Ordering) (eq : V → V → Bool) (new : List (K × V)) → put_of cmp eq [] new ≡ new
all_put cmp eq [] = refl
all_put {K} {V} cmp eq (p ∷ new) = ap (λ (l : List (K × V)). p ∷ l) (all_put cmp eq new)

pub whole_pairs : {K V : Type 0} (cmp : K → K → Ordering) (eq : V → V → Bool) (arena : Arena K V) (root : Root) → put_of cmp eq (reads arena (record { 0 = 0 })) (reads arena root) ≡ reads arena root
whole_pairs {K} {V} cmp eq arena root = ap (λ (l : List (K × V)). put_of cmp eq l (reads arena root)) (empty_pairs arena.nodes.items 0 refl) ∙ all_put cmp eq (reads arena root)
