-- The block of a height: what is known for it, and one or two requests.
use Rattle.std.proofs.Common.{◌≡◌, ◌⊎◌, inl, inr, ⊎_elim, ℕ, ◌+◌, ◌≤◌, ◌==◌, Bool, true, false, List, [], length, nat_lt, if◌then◌else◌, refl, sym, ap, subst, ◌∙◌, arith}
use Rattle.std.specs.Prelude.{Option, None, Some, Result, Ok, Err}
use Rattle.std.proofs.lemmas.Bool.Decides.{nat_tests}
use Rattle.dmn_block.specs.Body.{connect_body}
use Rattle.dmn_block.specs.declared.body.ConnectBody.{ConnectBody}
use Rattle.dmn_block.specs.declared.refusal.Refusal.{Refusal}
use Rattle.dmn_branch.specs.Machine.{formed, tip}
use Rattle.dmn_bytes.specs.declared.fault.Departure.{Departure}
use Rattle.dmn_bytes.specs.declared.hash.Hash256.{Hash256}
use Rattle.dmn_desk.specs.Ask.{answered, ask, asked_by, asked_kind, connect, connected, shortly}
use Rattle.dmn_desk.specs.declared.answer.Answer.{Answer}
use Rattle.dmn_desk.specs.declared.answer.Answer.TheVariants.{Short}
use Rattle.dmn_desk.specs.declared.answer.ShortAnswer.TheVariants as short
use Rattle.dmn_desk.specs.declared.kind.Kind.TheVariants as kinds
use Rattle.dmn_desk.specs.declared.request.Request.TheVariants as requests
use Rattle.dmn_desk.specs.Kinds.{kind_of}
use Rattle.dmn_desk.specs.Requests.{request_of}
use Rattle.dmn_frames.specs.declared.limits.TheConstants.{LONGEST_BODY}
use Rattle.dmn_journal.specs.Sure.{NeverFails}
use Rattle.dmn_outside.specs.Disk.{DiskView}
use Rattle.dmn_outside.specs.Failing.{KeepsDisk}
use Rattle.dmn_office.specs.declared.office.Office.{Office}
use Rattle.dmn_quorums.specs.Forming.{Formed}
use Rattle.dmn_registry.specs.Machine as registries
use Rattle.dmn_registry.specs.Machine.{Denial, Machine, by_rules, connecting, full, state_of}
use Rattle.dmn_registry.specs.Snapshots.{SnapshotsFit}
use Rattle.dmn_make.specs.Asking.{Does, Fails, Goes, Stands}
use Rattle.dmn_make.specs.Going.{added, formed_for, place_of, right_root, settled, with_block, with_root}
use Rattle.dmn_make.specs.Room.{HasPlace, HasPlaceForBlock}
use Rattle.dmn_generator.specs.Blocks.{body_of}
use Rattle.dmn_generator.specs.Masternodes.{no_hash}
use Rattle.dmn_generator.specs.declared.blocks.Place.{Place}
use Rattle.dmn_make.specs.declared.fault.MakeFault.{MakeFault}
use Rattle.dmn_make.specs.declared.fault.MakeFault.TheVariants as faults
use Rattle.dmn_make.specs.declared.step.Chain.{Chain}
use Rattle.dmn_make.proofs.Fitting.{never_then}
use Rattle.dmn_make.proofs.Joining.{fails_on, goes_on}

-- ---- what is known of quorums

pub formed_next : (m : Machine) (height : ℕ) → height ≡ (tip (state_of m)).height + 1 → formed (state_of m) ≡ formed_for m height
unfolding formed_for
formed_next m height is = let same : (height == (tip (state_of m)).height + 1) ≡ true = grind (arith, nat_tests) in rw same refl

pub none_formed : (m : Machine) (height : ℕ) → (height ≡ (tip (state_of m)).height + 1 → ⊥) → [] ≡ formed_for m height
unfolding formed_for
none_formed m height other = let no : (height == (tip (state_of m)).height + 1) ≡ false = grind (arith, nat_tests, other) in rw no refl

-- ---- a refusal leaves the machine

module _ (m : Machine) (root : Hash256) where
  refused_block : (r : Result Machine (Denial Refusal)) → right_root (shortly (connected m r)).0 ≡ Some root → (shortly (connected m r)).1 ≡ m
  refused_block (Ok next) is = absurd (cc is)
  refused_block (Err (by_rules refusal)) is = refl
  refused_block (Err full) is = refl

  refused_read : (body : List ℕ) (b : Bool) (value : ConnectBody) (place : ℕ) → right_root (asked_by m (if b then Err (Rattle.dmn_bytes.specs.declared.fault.Departure.TheVariants.Form place) else Ok (requests.Connect (Rattle.dmn_block.specs.Frames.frame_of value) body))).0 ≡ Some root
      → (asked_by m (if b then Err (Rattle.dmn_bytes.specs.declared.fault.Departure.TheVariants.Form place) else Ok (requests.Connect (Rattle.dmn_block.specs.Frames.frame_of value) body))).1 ≡ m
  unfolding ask connect
  refused_read body true value place is = refl
  refused_read body false value place is = refused_block (registries.connect m (Rattle.dmn_block.specs.Frames.frame_of value) body) is

  refused_parse : (body : List ℕ) (r : Result (ConnectBody × ℕ) Departure) → right_root (asked_by m (Rattle.dmn_bytes.specs.Format.◌>>=◌ r (λ x. if nat_lt x.1 (length body) then Err (Rattle.dmn_bytes.specs.declared.fault.Departure.TheVariants.Form x.1) else Ok (requests.Connect (Rattle.dmn_block.specs.Frames.frame_of x.0) body)))).0 ≡ Some root
      → (asked_by m (Rattle.dmn_bytes.specs.Format.◌>>=◌ r (λ x. if nat_lt x.1 (length body) then Err (Rattle.dmn_bytes.specs.declared.fault.Departure.TheVariants.Form x.1) else Ok (requests.Connect (Rattle.dmn_block.specs.Frames.frame_of x.0) body)))).1 ≡ m
  refused_parse body (Ok x) is = refused_read body (nat_lt x.1 (length body)) x.0 x.1 is
  refused_parse body (Err departure) is = refl

  refused_kind : (body : List ℕ) → right_root (asked_kind m (Some kinds.Connect) body).0 ≡ Some root → (asked_kind m (Some kinds.Connect) body).1 ≡ m
  unfolding asked_kind request_of
  refused_kind body is = refused_parse body (connect_body.parse body 0) is

  refused_long : (body : List ℕ) (b : Bool) → right_root (if◌then◌else◌ {A = Answer × Machine} b (Short (short.BadRequest 1), m) (asked_kind m (Some kinds.Connect) body)).0 ≡ Some root
      → (if◌then◌else◌ {A = Answer × Machine} b (Short (short.BadRequest 1), m) (asked_kind m (Some kinds.Connect) body)).1 ≡ m
  refused_long body true is = refl
  refused_long body false is = refused_kind body is

  pub refused_stays : (body : List ℕ) → right_root (added body m).0 ≡ Some root → (added body m).1 ≡ m
  unfolding answered kind_of
  refused_stays body is = refused_long body (nat_lt LONGEST_BODY (length body)) is

-- ---- the requests of a block

-- it is added by the first request
pub added_first : (body : Hash256 → List ℕ) (m : Machine) → right_root (added (body no_hash) m).0 ≡ None → (added (body no_hash) m).1 ≡ with_root body m
unfolding with_root
added_first body m none = sym (ap (λ (o : Option Hash256). settled body m o (added (body no_hash) m).1) none)

-- or by the second one
pub added_second : (body : Hash256 → List ℕ) (m : Machine) (root : Hash256) → right_root (added (body no_hash) m).0 ≡ Some root → (added (body root) m).1 ≡ with_root body m
unfolding with_root
added_second body m root some = sym (ap (λ (o : Option Hash256). settled body m o (added (body no_hash) m).1) some)

-- ---- how far it comes

module _ (body : Hash256 → List ℕ) (t : ℕ) (before now : DiskView) (m : Machine) where
  first_by : (o : Option Hash256) → right_root (added (body no_hash) m).0 ≡ o → ((added (body no_hash) m).1 ≡ m) ⊎ ((added (body no_hash) m).1 ≡ with_root body m)
  first_by None none = inr (added_first body m none)
  first_by (Some root) some = inl (refused_stays m root (body no_hash) some)

  -- stopped on the way of the first request
  first_fails : Fails t before now m (added (body no_hash) m).1 → Fails t before now m (with_root body m)
  first_fails fails = record {
    last = fails.last;
    is = ⊎_elim (λ at. inl at) (λ (at : fails.last ≡ (added (body no_hash) m).1). ⊎_elim (λ same. inl (at ∙ same)) (λ same. inr (at ∙ same)) (first_by (right_root (added (body no_hash) m).0) refl)) fails.is;
    leads = fails.leads;
    run = fails.run;
  }

  pub first_goes : (new : Office) (answer : Answer) → answer ≡ (added (body no_hash) m).0 → right_root answer ≡ None → Goes t before now m (added (body no_hash) m).1 new → Goes t before now m (with_root body m) new
  first_goes new answer is none goes = subst (λ (n : Machine). Goes t before now m n new) (added_first body m (ap right_root (sym is) ∙ none)) goes

pub does_first : (fault : MakeFault) (body : Hash256 → List ℕ) (t : ℕ) (before now : DiskView) (old new : Office) → Does {T = Answer} (Err fault) (λ m. (added (body no_hash) m).1) t before now old new → Does {T = Unit {0}} (Err fault) (with_root body) t before now old new
does_first faults.Memory body t before now old new does = λ m stands. first_fails body t before now m (does m stands)
does_first faults.DiskFault body t before now old new does = λ m stands. first_fails body t before now m (does m stands)
does_first (faults.NotJournal place) body t before now old new does = does

-- the first request was answered by the right root
module _ (body : Hash256 → List ℕ) (t later : ℕ) (before mid : DiskView) (old between : Office) (le : t ≤ later) (answer : Answer) (answers : (m : Machine) → Stands old m before.told → answer ≡ (added (body no_hash) m).0)
    (first : (m : Machine) → Stands old m before.told → Goes t before mid m (added (body no_hash) m).1 between) (root : Hash256) (some : right_root answer ≡ Some root) where
  told_root : (m : Machine) → Stands old m before.told → right_root (added (body no_hash) m).0 ≡ Some root
  told_root m stands = ap right_root (sym (answers m stands)) ∙ some

  still : (m : Machine) → Stands old m before.told → Goes t before mid m m between
  still m stands = subst (λ (n : Machine). Goes t before mid m n between) (refused_stays m root (body no_hash) (told_root m stands)) (first m stands)

  still_stands : (m : Machine) → Stands old m before.told → Stands between m mid.told
  still_stands m stands = let goes = still m stands in record { at = goes.on.stands; mark = goes.mark }

  -- where the disk was kept, the second one has its place
  pub second_never : (T : Type 0) (r : Result T MakeFault) (now : DiskView) (m : Machine) → Stands old m before.told → HasPlaceForBlock body m before.room → SnapshotsFit m before.room → KeepsDisk before mid
      → ((k : Machine) → Stands between k mid.told → HasPlace k (Some (connecting (body root))) mid.room → SnapshotsFit k mid.room → NeverFails r faults.DiskFault mid now) → NeverFails r faults.DiskFault before now
  second_never T r now m stands place fits kept second =
      never_then r faults.DiskFault before mid now kept
      (second m (still_stands m stands) (subst (λ (n : ℕ). HasPlace m (Some (connecting (body root))) n) (sym kept.room) (place.right root (told_root m stands))) (subst (λ (n : ℕ). SnapshotsFit m n) (sym kept.room) fits))

  module _ (now : DiskView) (new : Office) where
    pub second_goes : ((m : Machine) → Stands between m mid.told → Goes later mid now m (added (body root) m).1 new) → (m : Machine) → Stands old m before.told → Goes t before now m (with_root body m) new
    second_goes second m stands =
        subst (λ (n : Machine). Goes t before now m n new) (added_second body m root (told_root m stands))
        (goes_on t later before mid now m m (added (body root) m).1 between new le (still m stands) (second m (still_stands m stands)))

    second_fails : ((m : Machine) → Stands between m mid.told → Fails later mid now m (added (body root) m).1) → (m : Machine) → Stands old m before.told → Fails t before now m (with_root body m)
    second_fails second m stands =
        subst (λ (n : Machine). Fails t before now m n) (added_second body m root (told_root m stands))
        (fails_on t later before mid now m m (added (body root) m).1 between le refl (still m stands) (second m (still_stands m stands)))

    pub does_second : (fault : MakeFault) → Does {T = Answer} (Err fault) (λ m. (added (body root) m).1) later mid now between new → Does {T = Unit {0}} (Err fault) (with_root body) t before now old new
    does_second faults.Memory does = second_fails does
    does_second faults.DiskFault does = second_fails does
    does_second (faults.NotJournal place) does = does

-- ---- the block of a height

pub block_is : (count : ℕ) (chain : Chain) (height : ℕ) (m : Machine) (place : Place) (known : List Formed) → place ≡ place_of chain m height → known ≡ formed_for m height → with_root (body_of count place known) m ≡ with_block count chain height m
unfolding with_block
block_is count chain height m place known at formed = ap (λ (p : Place). with_root (body_of count p known) m) at ∙ ap (λ (k : List Formed). with_root (body_of count (place_of chain m height) k) m) formed

-- by another office that stands for the same machine, and by another name of the machine behind it
pub does_from : {T : Type 0} (r : Result T MakeFault) (f h : Machine → Machine) (t : ℕ) (before now : DiskView) (older old new : Office) → ((m : Machine) → Stands older m before.told → Stands old m before.told × (f m ≡ h m)) → Does r f t before now old new → Does r h t before now older new
does_from (Ok value) f h t before now older old new from does = λ m stands. let (at, same) = from m stands in subst (λ (n : Machine). Goes t before now m n new) same (does m at)
does_from (Err faults.Memory) f h t before now older old new from does = λ m stands. let (at, same) = from m stands in subst (λ (n : Machine). Fails t before now m n) same (does m at)
does_from (Err faults.DiskFault) f h t before now older old new from does = λ m stands. let (at, same) = from m stands in subst (λ (n : Machine). Fails t before now m n) same (does m at)
does_from (Err (faults.NotJournal place)) f h t before now older old new from does = does
