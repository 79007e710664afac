-- From what is asked to a step, and from each step to all so far.
use Rattle.std.proofs.Common.{◌≡◌, inr, ⊎_elim, ℕ, ◌+◌, ◌<◌, ◌≤◌, List, [], ◌∷◌, ◌++◌, length, take, drop, get_or, suc, refl, sym, ap, subst, ◌∙◌}
use Rattle.std.proofs.Math.Seq.{split_at}
use Rattle.std.proofs.lemmas.List.{append_assoc, take_more}
use Rattle.std.specs.Prelude.{Result, Ok, Err}
use Rattle.dmn_branch.specs.Asked.{told}
use Rattle.dmn_branch.specs.declared.tip.Tip.{Tip}
use Rattle.dmn_desk.specs.Ask.{ask}
use Rattle.dmn_desk.specs.declared.answer.Answer.{Answer}
use Rattle.dmn_desk.specs.declared.request.Request.TheVariants as requests
use Rattle.dmn_desk.specs.Asked.{entry_by}
use Rattle.dmn_journal.specs.Sure.{NeverFails}
use Rattle.dmn_office.specs.declared.office.Office.{Office}
use Rattle.dmn_outside.specs.Crashes.{LeavesOnly}
use Rattle.dmn_outside.specs.Disk.{AreOver, DiskView}
use Rattle.dmn_outside.specs.Failing.{KeepsDisk}
use Rattle.dmn_registry.proofs.Between.{leads_self, run_on, unmoved}
use Rattle.dmn_registry.specs.Machine.{Machine, state_of}
use Rattle.dmn_registry.specs.Own.{IsBetween}
use Rattle.dmn_make.proofs.Fitting.{never_then}
use Rattle.dmn_make.proofs.Joining.{goes_on}
use Rattle.dmn_make.specs.Asking.{Does, Fails, Goes, Stands}
use Rattle.dmn_make.specs.Going.{Going, after, after_all, page_text, taking_back, telling, with_block}
use Rattle.dmn_make.specs.Room.{HasPlace, HasRoomFor, HasRoomForAll}
use Rattle.dmn_make.specs.Running.{HasStopped, HasTaken, IsAt, TakesStep, TakesSteps}
use Rattle.dmn_make.specs.declared.fault.MakeFault.{MakeFault}
use Rattle.dmn_make.specs.declared.fault.MakeFault.TheVariants as faults
use Rattle.dmn_make.specs.declared.maker.Maker.{Maker}
use Rattle.dmn_make.specs.declared.step.Chain.{Chain}
use Rattle.dmn_make.specs.declared.step.Step.{Step}
use Rattle.dmn_make.specs.declared.step.Step.TheVariants.{Add, Pin, TakeBack, Tell}

-- ---- what a step does

pub add_is : (count : ℕ) (chain : Chain) (height : ℕ) (g : Going) → after count (Add chain height) g ≡ record g { machine = with_block count chain height g.machine }
unfolding after
add_is count chain height g = refl

pub back_is : (count : ℕ) (g : Going) → after count TakeBack g ≡ record g { machine = (ask g.machine (taking_back g.machine)).1 }
unfolding after
back_is count g = refl

pub pin_is : (count height : ℕ) (g : Going) → after count (Pin height) g ≡ record g { machine = (ask g.machine (requests.Pin height)).1 }
unfolding after
pin_is count height g = refl

pub tell_is : (count from : ℕ) (g : Going) → after count (Tell from) g ≡ record g { pages = g.pages ++ page_text (ask g.machine (telling from)).0 }
unfolding after
tell_is count from g = refl

-- the tip's hash is that of the last block
pub back_same : (tip : Tip) (count : ℕ) (g : Going) → tip ≡ told (state_of g.machine) → (ask g.machine (requests.Disconnect tip.hash)).1 ≡ (after count TakeBack g).machine
back_same tip count g is = ap (λ (k : Tip). (ask g.machine (requests.Disconnect k.hash)).1) is ∙ ap (λ (h : Going). h.machine) (sym (back_is count g))

pub place_back : (tip : Tip) (m : Machine) (room : ℕ) → tip ≡ told (state_of m) → HasPlace m (entry_by (taking_back m)) room → HasPlace m (entry_by (requests.Disconnect tip.hash)) room
place_back tip m room is place = subst (λ (k : Tip). HasPlace m (entry_by (requests.Disconnect k.hash)) room) (sym is) place

-- a page is told, and nothing is changed
told_same : (m : Machine) (from : ℕ) → (ask m (telling from)).1 ≡ m
unfolding ask
told_same m from = refl

pub tell_same : (count from : ℕ) (g : Going) → (ask g.machine (telling from)).1 ≡ (after count (Tell from) g).machine
tell_same count from g = told_same g.machine from ∙ ap (λ (h : Going). h.machine) (sym (tell_is count from g))

pub tell_more : (count from : ℕ) (g : Going) (answer : Answer) (old : List ℕ) → old ≡ g.pages → answer ≡ (ask g.machine (telling from)).0 → old ++ page_text answer ≡ (after count (Tell from) g).pages
tell_more count from g answer old same is = ap (λ (l : List ℕ). l ++ page_text answer) same ∙ ap (λ (a : Answer). g.pages ++ page_text a) is ∙ ap (λ (h : Going). h.pages) (sym (tell_is count from g))

-- a page is told, and then there was no memory for it
pub tell_lacks : (t : ℕ) (before now : DiskView) (count from : ℕ) (g : Going) (office : Office) → Goes t before now g.machine (ask g.machine (telling from)).1 office → Fails t before now g.machine (after count (Tell from) g).machine
tell_lacks t before now count from g office goes = record { last = (ask g.machine (telling from)).1; is = inr (tell_same count from g); leads = goes.on.leads; run = goes.on.run }

module _ (next : Machine → Machine) (count : ℕ) (step : Step) (t : ℕ) (before now : DiskView) (old new : Maker) (same : (g : Going) → IsAt old g before.told → next g.machine ≡ (after count step g).machine) where
  pub step_fails : (fault : MakeFault) → Does {T = Unit {0}} (Err fault) next t before now old.office new.office → TakesStep {T = Unit {0}} (Err fault) count step t before now old new
  step_fails faults.Memory does = λ g at. subst (λ (n : Machine). Fails t before now g.machine n) (same g at) (does g.machine at.office)
  step_fails faults.DiskFault does = λ g at. subst (λ (n : Machine). Fails t before now g.machine n) (same g at) (does g.machine at.office)
  step_fails (faults.NotJournal place) does = does

  pub step_goes : (pages : (g : Going) → IsAt old g before.told → new.pages ≡ (after count step g).pages) → ((m : Machine) → Stands old.office m before.told → Goes t before now m (next m) new.office)
      → (g : Going) → IsAt old g before.told → Goes t before now g.machine (after count step g).machine new.office × (new.pages ≡ (after count step g).pages)
  step_goes pages does g at = (subst (λ (n : Machine). Goes t before now g.machine n new.office) (same g at) (does g.machine at.office), pages g at)

  pub step_does : {T : Type 0} (r : Result T MakeFault) → ((g : Going) → IsAt old g before.told → new.pages ≡ (after count step g).pages) → Does r next t before now old.office new.office → TakesStep r count step t before now old new
  step_does (Ok value) pages does = step_goes pages does
  step_does (Err fault) pages does = step_fails fault does

-- ---- all steps so far

pub after_all_on : (count : ℕ) (done : List Step) (step : Step) (g : Going) → after_all count (done ++ step ∷ []) g ≡ after count step (after_all count done g)
after_all_on count [] step g = refl
after_all_on count (s ∷ done) step g = after_all_on count done step (after count s g)

pub still_at : (t : ℕ) (before now : DiskView) (g h : Going) (maker : Maker) → HasTaken t before now g h maker → IsAt maker h now.told
still_at t before now g h maker taken = record { office = record { at = taken.goes.on.stands; mark = taken.goes.mark }; pages = taken.pages }

pub none_taken : (t : ℕ) (before : DiskView) (g : Going) (maker : Maker) → AreOver t before.past → IsAt maker g before.told → HasTaken t before before g g maker
none_taken t before g maker over at = record {
  goes = record {
    on = record { stands = at.office.at; leads = leads_self g.machine; run = unmoved t before before g.machine over at.office.at.registry.disk refl };
    mark = at.office.mark;
  };
  pages = at.pages;
}

module _ (t later : ℕ) (before mid now : DiskView) (count : ℕ) (done : List Step) (step : Step) (g : Going) (old new : Maker) (le : t ≤ later) (taken : HasTaken t before mid g (after_all count done g) old) where
  one_taken : Goes later mid now (after_all count done g).machine (after count step (after_all count done g)).machine new.office → new.pages ≡ (after count step (after_all count done g)).pages
      → HasTaken t before now g (after_all count (done ++ step ∷ []) g) new
  one_taken goes pages =
      let h = after_all count done g in
      subst (λ (k : Going). HasTaken t before now g k new) (sym (after_all_on count done step g))
      (record { goes = goes_on t later before mid now g.machine h.machine (after count step h).machine old.office new.office le taken.goes goes; pages = pages })

  -- it stopped on the way of the step: before it or behind it
  stopped : (steps left : List Step) → steps ≡ done ++ step ∷ left → Fails later mid now (after_all count done g).machine (after count step (after_all count done g)).machine → HasStopped count steps t before now g
  stopped steps left is fails =
      let h = after_all count done g in
      let run = run_on t later before mid now g.machine h.machine fails.last le taken.goes.on.leads fails.leads taken.goes.on.run fails.run in
      ⊎_elim
      (λ (at : fails.last ≡ h.machine). record { done = done; left = step ∷ left; steps_are = is; run = subst (λ (n : Machine). LeavesOnly t before now (IsBetween g.machine n)) at run })
      (λ (at : fails.last ≡ (after count step h).machine). record {
        done = done ++ step ∷ [];
        left = left;
        steps_are = is ∙ sym (append_assoc done (step ∷ []) left);
        run = subst (λ (n : Machine). LeavesOnly t before now (IsBetween g.machine n)) (at ∙ ap (λ (k : Going). k.machine) (sym (after_all_on count done step g))) run;
      })
      fails.is

-- the next of all steps
module _ (t later : ℕ) (before mid now : DiskView) (count n : ℕ) (same : n ≡ count) (steps : List Step) (i : ℕ) (d : Step) (lt : i < length steps) (first old new : Maker) (le : t ≤ later)
    (so_far : (g : Going) → IsAt first g before.told → HasTaken t before mid g (after_all count (take i steps) g) old) where
  pub next_taken : ((g : Going) → IsAt old g mid.told → Goes later mid now g.machine (after n (get_or steps i d) g).machine new.office × (new.pages ≡ (after n (get_or steps i d) g).pages))
      → (g : Going) → IsAt first g before.told → HasTaken t before now g (after_all count (take (i + 1) steps) g) new
  next_taken takes g at =
      let taken = so_far g at in
      let h = after_all count (take i steps) g in
      let step = get_or steps i d in
      let (goes, pages) = takes h (still_at t before mid g h old taken) in
      subst (λ (done : List Step). HasTaken t before now g (after_all count done g) new) (sym (take_more steps i d lt))
      (one_taken t later before mid now count (take i steps) step g old new le taken
      (subst (λ (k : ℕ). Goes later mid now h.machine (after k step h).machine new.office) same goes) (subst (λ (k : ℕ). new.pages ≡ (after k step h).pages) same pages))

  stops : ((g : Going) → IsAt old g mid.told → Fails later mid now g.machine (after n (get_or steps i d) g).machine) → (g : Going) → IsAt first g before.told → HasStopped count steps t before now g
  stops fails g at =
      let taken = so_far g at in
      let h = after_all count (take i steps) g in
      stopped t later before mid now count (take i steps) (get_or steps i d) g old new le taken steps (drop (suc i) steps) (split_at steps i d lt)
      (subst (λ (k : ℕ). Fails later mid now h.machine (after k (get_or steps i d) h).machine) same (fails h (still_at t before mid g h old taken)))

  -- a fault of a step is one of all steps
  pub next_fails : (fault : MakeFault) → TakesStep {T = Unit {0}} (Err fault) n (get_or steps i d) later mid now old new → TakesSteps {T = Unit {0}} (Err fault) count steps t before now first new
  next_fails faults.Memory takes = stops takes
  next_fails faults.DiskFault takes = stops takes
  next_fails (faults.NotJournal place) takes = takes

  -- where there is room for all steps there is for the next
  pub next_never : (T : Type 0) (r : Result T MakeFault) (g : Going) → IsAt first g before.told → HasRoomForAll count steps g before.room → KeepsDisk before mid
      → ((h : Going) → IsAt old h mid.told → HasRoomFor n (get_or steps i d) h.machine mid.room → NeverFails r faults.DiskFault mid now) → NeverFails r faults.DiskFault before now
  next_never T r g at enough kept takes =
      let h = after_all count (take i steps) g in
      let step = get_or steps i d in
      let room : HasRoomFor count step h.machine before.room = enough (take i steps) step (drop (suc i) steps) (split_at steps i d lt) in
      never_then r faults.DiskFault before mid now kept
      (takes h (still_at t before mid g h old (so_far g at)) (subst (λ (k : ℕ). HasRoomFor k step h.machine mid.room) (sym same) (subst (λ (b : ℕ). HasRoomFor count step h.machine b) (sym kept.room) room)))
