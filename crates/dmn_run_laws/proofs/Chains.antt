-- Runs, one behind the other.
use Rattle.std.proofs.Common.{◌≡◌, ℕ, ◌≤◌, List, [], ◌∷◌, refl, sym, subst}
use Rattle.std.proofs.lemmas.List.Elements.{All-weaker}
use Rattle.dmn_outside.specs.Crashes.{IsKnown, Rests}
use Rattle.dmn_outside.specs.Disk.{Since, Three, Told, contents, nothing, whole}
use Rattle.dmn_outside.proofs.Crash.{reads_on, started}
use Rattle.dmn_feed.proofs.Fed.{serves_map}
use Rattle.dmn_office.specs.Lasting.{IsLasting}
use Rattle.dmn_registry.specs.Machine.{Machine, Reaches, at_rest, begun}
use Rattle.dmn_registry.specs.Own.{IsOwn, Leads}
use Rattle.dmn_registry.proofs.Between.{leads_on, leads_self, since_later}
use Rattle.dmn_registry.proofs.Once.{journal_once}
use Rattle.dmn_registry.proofs.Resting.{rests_images}
use Rattle.dmn_serve.specs.Callers.{ServesEach, Visit}
use Rattle.dmn_make.specs.Going.{made}
use Rattle.dmn_run_laws.specs.Chains.{ChainsFromInitKeepAnswered, ChainsFromMakeKeepAnswered, ChainsKeepAnswered, KeepsAll}
use Rattle.dmn_run_laws.specs.Runs.{Does, Doing, IsKept, IsRunOn, Keeps, Run, feeding, reading, serving}
use Rattle.dmn_run_laws.proofs.Fed as fed
use Rattle.dmn_run_laws.proofs.Served as served

-- ---- what is there

each_map : (P Q : Machine → ℕ → Type 0) (m : Machine) (visits : List Visit) (n : Machine) → ((mid : Machine) (t : ℕ) → P mid t → Q mid t) → ServesEach P m visits n → ServesEach Q m visits n
each_map P Q m [] n f s = s
each_map P Q m (visit ∷ visits) n f s = (s.0, s.1, s.2, All-weaker (P s.0) (Q s.0) (f s.0) visit.moments s.3, each_map P Q s.0 visits n f s.4)

known_own : (m : Machine) (image : Three (List ℕ)) (told : Told) → IsOwn m image → IsKnown (λ c. c ≡ image) told → IsKnown (IsOwn m) told
known_own m image nothing own known = known
known_own m image (contents c) own known = subst (IsOwn m) (sym known) own
known_own m image (whole w) own known = (subst (IsOwn m) (sym known.0) own, known.1)

known_rests : (m : Machine) (told : Told) → IsKnown (IsOwn m) told → Rests (IsOwn m) told
known_rests m nothing known = absurd known
known_rests m (contents c) known = known
known_rests m (whole w) known = known

-- machines that are the same at rest are reached alike
same_rest : (m k n : Machine) → at_rest k ≡ at_rest n → Leads m k → Leads m n
same_rest m k n same leads = (leads.0, subst (λ (o : Machine). Reaches (at_rest m) leads.0 o) same leads.1)

kept_by : (run : Run) (left end last : Machine) → Since run.disk run.stopped run.image → IsOwn left run.image → Leads left end → (mid : Machine) (t : ℕ) → IsLasting run.disk last mid t → IsKept run.stopped left end last mid t
kept_by run left end last since own onward mid t lasting = record {
  accepted = lasting.leads;
  kept = λ le.
      let c = lasting.each run.image (since_later run.disk t run.stopped run.image le since) in
      let here : Leads mid left = same_rest mid c.machine left (journal_once c.machine left run.image.zeroth c.own.file own.file) c.from in
      (here, leads_on mid left end here onward);
}

-- ---- one run

record Step (doing : Doing) (run : Run) (m : Machine) : Type 0 where
  left : Machine
  own : IsOwn left run.image
  leads : Leads m left
  keeps : (end : Machine) → Leads left end → Keeps doing run (at_rest m) left end

step_by : (doing : Doing) (run : Run) (m : Machine) → IsKnown (IsOwn m) run.before.told → Does doing run (at_rest m) → run.started ≤ run.stopped → Since run.disk run.stopped run.image → Step doing run m
step_by feeding run m known does order since =
    let any = fed.any_run run (at_rest m) run.status does in
    let b = any.images.each run.image (since_later run.disk run.started run.stopped run.image order since) in
    record {
      left = b.machine;
      own = b.own;
      leads = b.from;
      keeps = λ end onward. record {
        frames = any.frames;
        answers = any.answers;
        moments = any.moments;
        rest = any.rest;
        machine = any.machine;
        last = any.last;
        front = any.front;
        serves = serves_map (IsLasting run.disk any.last) (IsKept run.stopped b.machine end any.last) (at_rest m) any.frames any.answers any.moments any.machine (kept_by run b.machine end any.last since b.own onward) any.serves;
        hand = any.hand;
        onward = b.to;
        more = any.more;
        sent = any.sent;
        later = any.later;
        stamps = any.stamps;
      };
    }
step_by (serving most) run m known does order since =
    let any = served.any_run run (at_rest m) most run.status does in
    let b = any.images.each run.image (since_later run.disk run.started run.stopped run.image order since) in
    record {
      left = b.machine;
      own = b.own;
      leads = b.from;
      keeps = λ end onward. record {
        visits = any.visits;
        next = any.next;
        rest = any.rest;
        machine = any.machine;
        last = any.last;
        came = any.came;
        serves = each_map (IsLasting run.disk any.last) (IsKept run.stopped b.machine end any.last) (at_rest m) any.visits any.machine (kept_by run b.machine end any.last since b.own onward) any.serves;
        hand = any.hand;
        onward = b.to;
      };
    }
step_by reading run m known does order since =
    let still = started run.started run.before (IsOwn m) does.1 (λ image now. rests_images m run.before.told image (known_rests m run.before.told known) now) in
    let run_on = reads_on run.started run.before run.before run.disk (IsOwn m) still does.0 in
    record {
      left = m;
      own = run_on.each run.image (since_later run.disk run.started run.stopped run.image order since);
      leads = leads_self m;
      keeps = λ end onward. refl;
    }

run_step : (image : Three (List ℕ)) (run : Run) (m : Machine) → IsOwn m image → IsRunOn image run → Step run.doing run m
run_step image run m own is = let known = known_own m image run.before.told own is.known in step_by run.doing run m known (is.does m known) is.order is.left

-- ---- all runs

all_leads : (m : Machine) (runs : List Run) (end : Machine) → KeepsAll m runs end → Leads m end
all_leads m [] end keeps = subst (Leads m) (sym keeps) (leads_self m)
all_leads m (run ∷ runs) end keeps = leads_on m keeps.0 end keeps.2 (all_leads keeps.0 runs end keeps.4)

pub chains_keep_answered : ChainsKeepAnswered
chains_keep_answered m image [] own chain = (m, own, refl)
chains_keep_answered m image (run ∷ runs) own chain =
    let step = run_step image run m own chain.0 in
    let rest = chains_keep_answered step.left run.image runs step.own chain.1 in
    (rest.0, rest.1, (step.left, step.own, step.leads, step.keeps rest.0 (all_leads step.left runs rest.0 rest.2), rest.2))

pub from_init : ChainsFromInitKeepAnswered
from_init before after old new image runs made left chain =
    let start = made.1.0 in
    let all = chains_keep_answered (begun start) image runs (rests_images (begun start) after.told image made.1.2 left) chain in
    (start, made.1.1, all.0, all.1, all.2)

pub from_make : ChainsFromMakeKeepAnswered
from_make count before after old new image runs makes left chain =
    let m = (made count).machine in
    chains_keep_answered m image runs (rests_images m after.told image makes.1 left) chain
