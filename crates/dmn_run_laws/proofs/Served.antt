-- A run of `serve`, of any status.
use Rattle.std.proofs.Common.{◌≡◌, inl, inr, ℕ, true, List, [], ◌∷◌, ◌++◌, refl, sym, ap, subst, ◌∙◌}
use Rattle.std.proofs.lemmas.List.{append-nil}
use Rattle.std.proofs.lemmas.List.Elements.{All-nil}
use Rattle.dmn_outside.specs.Crashes.{LeavesOnly}
use Rattle.dmn_outside.specs.Line.{LineView}
use Rattle.dmn_registry.specs.Machine.{Machine}
use Rattle.dmn_registry.specs.Own.{IsBetween}
use Rattle.dmn_status.specs.declared.status.Status.{Status}
use Rattle.dmn_status.specs.declared.status.Status.TheVariants as statuses
use Rattle.dmn_office.specs.Lasting.{IsLasting}
use Rattle.dmn_serve.specs.Callers.{ServesEach, Visit}
use Rattle.dmn_serve.specs.Outcome.{Answered, Came, Outcome, all_callers, all_moments, unserved}
use Rattle.dmn_run_laws.specs.Runs.{CallerInHand, Run}

-- what is known of a run of `serve` of any status
pub record AnyRun (run : Run) (m : Machine) : Type 0 where
  pub visits : List Visit
  pub next : List Visit
  pub rest : List (List ℕ)
  pub machine : Machine
  pub last : Machine
  pub came : Came true (visits ++ next) rest run.old run.new
  pub serves : ServesEach (IsLasting run.disk last) m visits machine
  pub hand : CallerInHand next machine last
  pub images : LeavesOnly run.started run.before run.disk (IsBetween m last)

any_all : (run : Run) (m : Machine) (visits : List Visit) (rest : List (List ℕ)) (n : Machine) → Answered run.started run.before run.disk m visits n n → Came true visits rest run.old run.new → AnyRun run m
any_all run m visits rest n a came = record {
  visits = visits;
  next = [];
  rest = rest;
  machine = n;
  last = n;
  came = subst (λ (l : List Visit). Came true l rest run.old run.new) (sym (append-nil visits)) came;
  serves = a.serves;
  hand = refl;
  images = a.images;
}

came_none : (old new : LineView) → new ≡ old → Came true [] old.talk.later old new
came_none old new same = record {
  texts = refl;
  rest_is = ap (λ (v : LineView). v.talk.later) same;
  served = ap (λ (v : LineView). all_callers v.talk) same ∙ sym (append-nil (all_callers old.talk));
  stamps = λ yes_. ap (λ (v : LineView). all_moments v.moments) same ∙ sym (append-nil (all_moments old.moments));
  whole = λ calm. All-nil (λ (visit : Visit). visit.served.own ≡ 0);
}

any_none : (run : Run) (m : Machine) → run.new ≡ run.old → LeavesOnly run.started run.before run.disk (IsBetween m m) → AnyRun run m
any_none run m same images = record {
  visits = [];
  next = [];
  rest = run.old.talk.later;
  machine = m;
  last = m;
  came = came_none run.old run.new same;
  serves = refl;
  hand = refl;
  images = images;
}

pub any_run : (run : Run) (m : Machine) (most : ℕ) (status : Status) → Outcome status most true run.started m run.before run.disk run.old run.new → AnyRun run m
any_run run m most statuses.Done o = any_all run m o.0 o.1 o.2 o.3 o.6
any_run run m most statuses.LineFault o = any_all run m o.0 o.1 o.2 o.3 o.6
any_run run m most statuses.DiskFault (inl none) = any_none run m none.0 none.1
any_run run m most statuses.DiskFault (inr o) = record {
  visits = o.0;
  next = unserved o.1 ∷ [];
  rest = o.2;
  machine = o.3;
  last = o.4;
  came = o.8;
  serves = o.5.serves;
  hand = (refl, o.6);
  images = o.5.images;
}
any_run run m most statuses.Memory o = any_none run m o.0 o.1
any_run run m most (statuses.NotJournal place) o = absurd o
any_run run m most statuses.Words o = absurd o
any_run run m most (statuses.StartForm place) o = absurd o
any_run run m most statuses.CutInput o = absurd o
any_run run m most statuses.Enough o = absurd o
any_run run m most statuses.AlreadyInit o = absurd o
