-- How two lists of rows differ, by their trees.
use Rattle.std.proofs.Common.{◌≡◌, ◌==◌, ℕ, Bool, true, false, cond, not, inl, inr, List, [], ◌∷◌, map, filter, find, Option, Some, None, refl, sym, ap, ◌∙◌, subst}
use Rattle.std.specs.Prelude.{◌&&◌, is_some}
use Rattle.std.proofs.lemmas.Bool.{and_parts, eqb-true}
use Rattle.std.proofs.lemmas.Slice.Eq.{bytes_eq-Decides}
use Rattle.std.specs.FinMap.Entries as entries
use Rattle.std.specs.Option.{option_map, option_map_or}
use Rattle.std.specs.Str.{bytes_eq}
use Rattle.dmn_bytes.specs.contracts.points.OutPointPartialEq.TheImpl as points
use Rattle.dmn_bytes.specs.contracts.points.PayPartialEq.TheImpl as pays
use Rattle.dmn_bytes.specs.declared.hash.Hash256.{Hash256}
use Rattle.dmn_bytes.specs.Points.{hash_cmp}
use Rattle.dmn_block.specs.State.{State}
use Rattle.dmn_indexes.specs.declared.indexes.Indexes.{Indexes}
use Rattle.dmn_indexes.specs.Version.{by_hash, values}
use Rattle.dmn_indexes.proofs.Table.{find-by_key}
use Rattle.dmn_rows.specs.declared.row.MnRow.{MnRow}
use Rattle.dmn_rows.specs.Keys.{row_key}
use Rattle.dmn_rows.specs.Row.{plain}
use Rattle.dmn_rows.specs.Rows.{has_hash, plain_rows}
use Rattle.dmn_rows.proofs.Lookups.{find-plain}
use Rattle.dmn_sml.specs.declared.entry.SmlEntry.{SmlEntry}
use Rattle.dmn_sml.specs.Entry.{entry_of}
use Rattle.dmn_versions.specs.declared.node.Root.{Root}
use Rattle.dmn_versions.specs.Trees.{reads}
use Rattle.dmn_versions.proofs.Steps.{empty_pairs}
use Rattle.dmn_walk.specs.Delta.{gone_of, has_pair, put_of}
use Rattle.dmn_branch.specs.Asked.{IsShown, LeavesOut, hashes_gone}
use Rattle.dmn_branch.specs.Machine.{rows_of}
use Rattle.dmn_branch.specs.Parts.{IsTreeOf, StandsIn, same_row}
use Rattle.dmn_branch.specs.Stands.{Kept}
use Rattle.dmn_branch.proofs.Pinning.{rows_seen}

-- `==` at rows, from a field on
abbrev from_payout : MnRow → MnRow → Bool
from_payout a b = (pays.ghosts).eq a.payout b.payout && ((pays.ghosts).eq a.operator_payout b.operator_payout && ((a.reward == b.reward) && ((points.ghosts).eq a.collateral b.collateral && (pays.ghosts).eq a.script b.script)))

abbrev from_service : MnRow → MnRow → Bool
from_service a b = (bytes_eq a.service.address b.service.address && (a.service.port == b.service.port)) && from_payout a b

abbrev from_voting : MnRow → MnRow → Bool
from_voting a b = (bytes_eq a.voting b.voting) && from_service a b

abbrev from_operator : MnRow → MnRow → Bool
from_operator a b = (bytes_eq a.operator b.operator) && from_voting a b

abbrev from_owner : MnRow → MnRow → Bool
from_owner a b = (bytes_eq a.owner b.owner) && from_operator a b

abbrev from_reason : MnRow → MnRow → Bool
from_reason a b = (a.reason == b.reason) && from_owner a b

abbrev from_penalty_at : MnRow → MnRow → Bool
from_penalty_at a b = (a.penalty_at == b.penalty_at) && from_reason a b

abbrev from_penalty : MnRow → MnRow → Bool
from_penalty a b = (a.penalty == b.penalty) && from_penalty_at a b

abbrev from_banned : MnRow → MnRow → Bool
from_banned a b = (a.banned == b.banned) && from_penalty a b

abbrev from_revived : MnRow → MnRow → Bool
from_revived a b = (a.revived == b.revived) && from_banned a b

abbrev from_last_paid : MnRow → MnRow → Bool
from_last_paid a b = (a.last_paid == b.last_paid) && from_revived a b

abbrev from_registered : MnRow → MnRow → Bool
from_registered a b = (a.registered == b.registered) && from_last_paid a b

abbrev from_confirmed : MnRow → MnRow → Bool
from_confirmed a b = (bytes_eq a.confirmed.0 b.confirmed.0) && from_registered a b

abbrev from_hash : MnRow → MnRow → Bool
from_hash a b = (bytes_eq a.hash.0 b.hash.0) && from_confirmed a b

-- an entry by its parts
made : List ℕ → List ℕ → List ℕ → ℕ → List ℕ → List ℕ → ℕ → SmlEntry
made hash confirmed address port operator voting banned = record { hash = record { 0 = hash }; confirmed = record { 0 = confirmed }; service = record { address = address; port = port }; operator = operator; voting = voting; valid = banned == 0 }

-- rows that are the same show the same
alike : (a b : MnRow) → same_row a b ≡ true → entry_of a ≡ entry_of b
unfolding made
alike a b same =
    let hash = and_parts (bytes_eq a.hash.0 b.hash.0) (from_confirmed a b) same in
    let confirmed = and_parts (bytes_eq a.confirmed.0 b.confirmed.0) (from_registered a b) hash.1 in
    let registered = and_parts (a.registered == b.registered) (from_last_paid a b) confirmed.1 in
    let last_paid = and_parts (a.last_paid == b.last_paid) (from_revived a b) registered.1 in
    let revived = and_parts (a.revived == b.revived) (from_banned a b) last_paid.1 in
    let banned = and_parts (a.banned == b.banned) (from_penalty a b) revived.1 in
    let penalty = and_parts (a.penalty == b.penalty) (from_penalty_at a b) banned.1 in
    let penalty_at = and_parts (a.penalty_at == b.penalty_at) (from_reason a b) penalty.1 in
    let reason = and_parts (a.reason == b.reason) (from_owner a b) penalty_at.1 in
    let owner = and_parts (bytes_eq a.owner b.owner) (from_operator a b) reason.1 in
    let operator = and_parts (bytes_eq a.operator b.operator) (from_voting a b) owner.1 in
    let voting = and_parts (bytes_eq a.voting b.voting) (from_service a b) operator.1 in
    let service = and_parts (bytes_eq a.service.address b.service.address && (a.service.port == b.service.port)) (from_payout a b) voting.1 in
    let serves = and_parts (bytes_eq a.service.address b.service.address) (a.service.port == b.service.port) service.0 in
    let e1 : a.hash.0 ≡ b.hash.0 = (bytes_eq-Decides a.hash.0 b.hash.0).0 hash.0 in
    let e2 : a.confirmed.0 ≡ b.confirmed.0 = (bytes_eq-Decides a.confirmed.0 b.confirmed.0).0 confirmed.0 in
    let e3 : a.banned ≡ b.banned = eqb-true a.banned b.banned banned.0 in
    let e4 : a.operator ≡ b.operator = (bytes_eq-Decides a.operator b.operator).0 operator.0 in
    let e5 : a.voting ≡ b.voting = (bytes_eq-Decides a.voting b.voting).0 voting.0 in
    let e6 : a.service.address ≡ b.service.address = (bytes_eq-Decides a.service.address b.service.address).0 serves.0 in
    let e7 : a.service.port ≡ b.service.port = eqb-true a.service.port b.service.port serves.1 in
    let is : made a.hash.0 a.confirmed.0 a.service.address a.service.port a.operator a.voting a.banned ≡ made b.hash.0 b.confirmed.0 b.service.address b.service.port b.operator b.voting b.banned = cc in
    is

itself : (o : Option MnRow) → option_map (λ (r : MnRow). r) o ≡ o
itself None = refl
itself (Some r) = refl

found : (hash : Hash256) (rows : List MnRow) → entries.find hash_cmp hash (by_hash rows) ≡ find (has_hash hash) rows
found hash rows = find-by_key hash_cmp (λ (r : MnRow). r.hash) has_hash row_key (λ r. r) hash rows ∙ itself (find (has_hash hash) rows)

some_plain : (h : ℕ) (o : Option MnRow) → is_some (option_map (plain h) o) ≡ is_some o
some_plain h None = refl
some_plain h (Some r) = refl

-- whether there is a row of the hash, in the tree and in the list as it is seen
there : (height : ℕ) (hash : Hash256) (rows : List MnRow) → is_some (entries.find hash_cmp hash (by_hash rows)) ≡ is_some (find (has_hash hash) (plain_rows height rows))
there height hash rows =
    ap (λ (o : Option MnRow). is_some o) (found hash rows) ∙ sym (some_plain height (find (has_hash hash) rows)) ∙ ap (λ (o : Option MnRow). is_some o) (sym (find-plain (has_hash hash) (λ h r. refl) height rows))

pub gone_is : (low high : ℕ) (base target : List MnRow) → gone_of hash_cmp (by_hash base) (by_hash target) ≡ hashes_gone (plain_rows low base) (plain_rows high target)
gone_is low high [] target = refl
gone_is low high (b ∷ base) target =
    let rest = gone_is low high base target in
    let more = hashes_gone (plain_rows low base) (plain_rows high target) in
    let left = filter (λ (r : MnRow). not (is_some (find (has_hash r.hash) (plain_rows high target)))) (plain_rows low base) in
    ap (λ (t : Bool). cond t (gone_of hash_cmp (by_hash base) (by_hash target)) (b.hash ∷ gone_of hash_cmp (by_hash base) (by_hash target))) (there high b.hash target)
    ∙ ap (λ (l : List Hash256). cond (is_some (find (has_hash b.hash) (plain_rows high target))) l (b.hash ∷ l)) rest
    ∙ elim (is_some (find (has_hash b.hash) (plain_rows high target))) as (λ (t : Bool). cond t more (b.hash ∷ more) ≡ map (λ (r : MnRow). r.hash) (cond (not t) (plain low b ∷ left) left)) [ true ↦ refl | false ↦ refl ]

-- a row that the tree has as it is, is shown
shown : (low high : ℕ) (base : List MnRow) (row : MnRow) → has_pair hash_cmp same_row (by_hash base) (row.hash, row) ≡ true → IsShown (plain_rows low base) (plain high row)
shown low high base row has =
    go (find (has_hash row.hash) base) refl (ap (λ (o : Option MnRow). option_map_or (λ (v : MnRow). same_row v row) o false) (sym (found row.hash base)) ∙ has)
  where
    go : (o : Option MnRow) → find (has_hash row.hash) base ≡ o → option_map_or (λ (v : MnRow). same_row v row) o false ≡ true → IsShown (plain_rows low base) (plain high row)
    go None is none = absurd cc
    go (Some old) is same =
        (plain low old, find-plain (has_hash row.hash) (λ h r. refl) low base ∙ ap (option_map (plain low)) is, alike old row same)

pub put_is : (low high : ℕ) (base target : List MnRow) → LeavesOut (plain_rows low base) (plain_rows high target) (plain_rows high (values (put_of hash_cmp same_row (by_hash base) (by_hash target))))
put_is low high base [] = refl
put_is low high base (t ∷ target) = go (has_pair hash_cmp same_row (by_hash base) (t.hash, t)) refl (put_is low high base target)
  where
    rest : List (Hash256 × MnRow)
    rest = put_of hash_cmp same_row (by_hash base) (by_hash target)

    go : (b : Bool) → has_pair hash_cmp same_row (by_hash base) (t.hash, t) ≡ b → LeavesOut (plain_rows low base) (plain_rows high target) (plain_rows high (values rest))
        → LeavesOut (plain_rows low base) (plain high t ∷ plain_rows high target) (plain_rows high (values (cond b rest ((t.hash, t) ∷ rest))))
    go true is behind = inr (shown low high base t is, behind)
    go false is behind = inl (plain_rows high (values rest), refl, behind)

-- ---- trees

pub no_tree : (ix : Indexes) (root : Root) → root.0 ≡ 0 → IsTreeOf ix root []
no_tree ix root none =
    let reads_none : reads ix.rows root ≡ [] = empty_pairs ix.rows.nodes.items root.0 none in
    record {
      height = 0;
      hashes = reads_none ∙ sym (ap (λ (l : List (Hash256 × MnRow)). by_hash (values l)) reads_none);
      rows = ap (λ (l : List (Hash256 × MnRow)). plain_rows 0 (values l)) reads_none;
    }

pub gone_in : (ix : Indexes) (old new : Root) (base target : List MnRow) → IsTreeOf ix old base → IsTreeOf ix new target → gone_of hash_cmp (reads ix.rows old) (reads ix.rows new) ≡ hashes_gone base target
gone_in ix old new base target one two =
    ap (λ (l : List (Hash256 × MnRow)). gone_of hash_cmp l (reads ix.rows new)) one.hashes
    ∙ ap (gone_of hash_cmp (by_hash (values (reads ix.rows old)))) two.hashes
    ∙ gone_is one.height two.height (values (reads ix.rows old)) (values (reads ix.rows new))
    ∙ ap (λ (l : List MnRow). hashes_gone l (plain_rows two.height (values (reads ix.rows new)))) one.rows
    ∙ ap (hashes_gone base) two.rows

pub put_in : (ix : Indexes) (old new : Root) (base target : List MnRow) (height : ℕ) (one : IsTreeOf ix old base) → reads ix.rows new ≡ by_hash (values (reads ix.rows new)) → plain_rows height (values (reads ix.rows new)) ≡ target → LeavesOut base target (plain_rows height (values (put_of hash_cmp same_row (reads ix.rows old) (reads ix.rows new))))
put_in ix old new base target height one hashes rows =
    let b = values (reads ix.rows old) in
    let t = values (reads ix.rows new) in
    let same : put_of hash_cmp same_row (by_hash b) (by_hash t) ≡ put_of hash_cmp same_row (reads ix.rows old) (reads ix.rows new) =
    ap (λ (l : List (Hash256 × MnRow)). put_of hash_cmp same_row l (by_hash t)) (sym one.hashes) ∙ ap (put_of hash_cmp same_row (reads ix.rows old)) (sym hashes) in
    subst (λ (l : List (Hash256 × MnRow)). LeavesOut base target (plain_rows height (values l))) same
    (subst (λ (l : List MnRow). LeavesOut base l (plain_rows height (values (put_of hash_cmp same_row (by_hash b) (by_hash t))))) rows
    (subst (λ (l : List MnRow). LeavesOut l (plain_rows height t) (plain_rows height (values (put_of hash_cmp same_row (by_hash b) (by_hash t))))) one.rows
    (put_is one.height height b t)))

-- the tree of a height that is held
pub tree_of : (ix : Indexes) (kept : Kept) (height : ℕ) (root : Root) (found : Option State) → kept.height ≡ height → kept.rows ≡ values (reads ix.rows root) → reads ix.rows root ≡ by_hash (values (reads ix.rows root)) → StandsIn kept found → IsTreeOf ix root (rows_of found)
tree_of ix kept height root found is rows hashes stands = record { height = height; hashes = hashes; rows = ap (plain_rows height) (sym rows) ∙ rows_seen kept height found is stands }
