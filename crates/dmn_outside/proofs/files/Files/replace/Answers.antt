use Rattle.std.proofs.Common.{ℕ, List, subst, sym, arith, ap, ◌∙◌}
use Rattle.dmn_outside.specs.Disk.{Three}
use Rattle.dmn_outside.specs.Stored.{AreBefore, begun_of, contents_by, told_by, past_by, read_of}
use Rattle.dmn_outside.proofs.Replay.{replaced, push_before, told_after, past_more}
use Rattle.dmn_outside.specs.declared.log.Change.{Change}
use Rattle.dmn_outside.proofs.files.Files.replace.Goals as goal

pub invariant_of-self-2 : goal.invariant_of-self-2
invariant_of-self-2 c =
    let done : Change = record { moment = c.args.moment; file = c.args.file; act = c.args.act } in
    let log = c.args.self.now.log in
    record {
      is_now = replaced (begun_of log.files) log.changes.items c.push.new.self.items done c.in_ok-push.ensures.items _ _ c.args.next.items c.args.self.now.is_now c.put.ensures.now c.requires
          ∙ ap (λ (t : Three (List ℕ)). contents_by t c.push.new.self.items) (sym c.put.ensures.begun);
      is_past = subst (AreBefore c.args.self.now.time) (sym c.in_ok-push.ensures.items) (push_before c.args.self.now.time log.changes.items done c.args.self.now.is_past (omega arith));
    }

pub returns-clause-done : goal.returns-clause-done
returns-clause-done c = λ f.
    let log = c.args.self.now.log in
    ap (λ (t : Three (List ℕ)). told_by t c.push.new.self.items (read_of log.counts)) c.put.ensures.begun
    ∙ told_after (begun_of log.files) log.changes.items c.push.new.self.items _ c.in_ok-push.ensures.items (read_of log.counts) f

pub returns-clause-past : goal.returns-clause-past
returns-clause-past c =
    let log = c.args.self.now.log in
    ap (λ (t : Three (List ℕ)). past_by t c.push.new.self.items) c.put.ensures.begun
    ∙ past_more (begun_of log.files) log.changes.items c.push.new.self.items _ c.in_ok-push.ensures.items (read_of log.counts)
