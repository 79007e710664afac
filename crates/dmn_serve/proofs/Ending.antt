-- How a run ends where no call fails.
use Rattle.std.proofs.Common.{◌≡◌, ℕ, List, [], ◌++◌, refl, sym, ap, subst, ◌∙◌}
use Rattle.std.specs.List.{All}
use Rattle.std.proofs.lemmas.List.{append-nil, append_cancel_left}
use Rattle.std.proofs.lemmas.List.Elements.{All-nil}
use Rattle.dmn_outside.specs.Disk.{DiskView}
use Rattle.dmn_outside.specs.Line.{LineView, Served}
use Rattle.dmn_status.specs.declared.status.Status.{Status}
use Rattle.dmn_status.specs.declared.status.Status.TheVariants as statuses
use Rattle.dmn_serve.specs.Outcome.{IsRunning, all_callers}
use Rattle.dmn_serve.specs.Room.{IsUnfailed, NeverFaults}

-- no caller came
pub never_opened : (status : Status) (old new : LineView) (before after : DiskView) → (status ≡ statuses.LineFault → ⊥) → (status ≡ statuses.DiskFault → ⊥) → new ≡ old → after.faults ≡ before.faults → NeverFaults status old new before after
never_opened status old new before after line disk same faults = record {
  line_runs = line;
  disk_runs = disk;
  line_faults = ap (λ (v : LineView). v.faults) same;
  caller_faults = ap (λ (v : LineView). v.caller_faults) same;
  disk_faults = faults;
  whole = λ served all.
      let none : [] ≡ served = append_cancel_left (all_callers old.talk) [] served (append-nil (all_callers old.talk) ∙ sym (ap (λ (v : LineView). all_callers v.talk) same) ∙ all) in
      subst (All IsUnfailed) none (All-nil IsUnfailed);
}

-- a run behind an opening
pub never_behind : (status : Status) (old mid new : LineView) (before opened after : DiskView) → mid ≡ old → opened.faults ≡ before.faults → NeverFaults status mid new opened after → NeverFaults status old new before after
never_behind status old mid new before opened after same faults never = record {
  line_runs = never.line_runs;
  disk_runs = never.disk_runs;
  line_faults = never.line_faults ∙ ap (λ (v : LineView). v.faults) same;
  caller_faults = never.caller_faults ∙ ap (λ (v : LineView). v.caller_faults) same;
  disk_faults = never.disk_faults ∙ faults;
  whole = λ served all. never.whole served (all ∙ ap (λ (v : LineView). all_callers v.talk ++ served) (sym same));
}

-- a run that no fault ended served all its callers
pub ends_done : (status : Status) → (status ≡ statuses.LineFault → ⊥) → (status ≡ statuses.DiskFault → ⊥) → IsRunning status → status ≡ statuses.Done
ends_done statuses.Done line disk running = refl
ends_done statuses.LineFault line disk running = absurd (line refl)
ends_done statuses.DiskFault line disk running = absurd (disk refl)
ends_done statuses.Memory line disk running = absurd running
ends_done (statuses.NotJournal place) line disk running = absurd running
ends_done statuses.Words line disk running = absurd running
ends_done (statuses.StartForm place) line disk running = absurd running
ends_done statuses.CutInput line disk running = absurd running
ends_done statuses.Enough line disk running = absurd running
ends_done statuses.AlreadyInit line disk running = absurd running
