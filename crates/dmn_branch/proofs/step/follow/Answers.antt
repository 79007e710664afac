use Rattle.std.proofs.Common.{◌≡◌, ◌+◌, ◌++◌, false, List, Option, Ok, refl, ap, sym, ◌∙◌, subst}
use Rattle.std.proofs.lemmas.Result.{err_from_is_err_and}
use Rattle.std.specs.Option.{option_map}
use Rattle.std.specs.Prelude.{IfNone}
use Rattle.dmn_block.specs.declared.frame.BlockFrame.{BlockFrame}
use Rattle.dmn_block.specs.Shape.{by_block}
use Rattle.dmn_block.specs.Spend.{spend}
use Rattle.dmn_block.specs.State.{State}
use Rattle.dmn_bytes.specs.declared.hash.Hash256.{Hash256}
use Rattle.dmn_indexes.specs.Working.{Leads, Worked, listing}
use Rattle.dmn_indexes.proofs.Counting.{leads_then}
use Rattle.dmn_payloads.specs.declared.commitment.Commitment.{Commitment}
use Rattle.dmn_payloads.specs.declared.payloads.CbTx.{CbTx}
use Rattle.dmn_quorums.specs.Duty.{mined_at}
use Rattle.dmn_quorums.specs.Forming.{Formed, missing}
use Rattle.dmn_rows.specs.Listing.{Listing, OutputsAscend}
use Rattle.dmn_rows.specs.declared.rule.Rule.{Rule}
use Rattle.dmn_sml.specs.declared.entry.SmlEntry.{SmlEntry}
use Rattle.dmn_sml.specs.Defs.{root_of, simple}
use Rattle.dmn_standing.specs.Payment.{payee}
use Rattle.dmn_tx.specs.declared.tx.Tx.{Tx}
use Rattle.dmn_branch.specs.declared.held.HeightVersion.{HeightVersion}
use Rattle.dmn_branch.specs.Events.{once_there, spend_events}
use Rattle.dmn_branch.specs.Parts.{Given, IsTip, IsWithin, IsWorking, given_of, counted_at, from_place}
use Rattle.dmn_branch.specs.Quorums.{Committed, none_committed}
use Rattle.dmn_branch.specs.Stands.{Kept, StandsAt, kept_of}
use Rattle.dmn_branch.specs.Step.{marked}
use Rattle.dmn_branch.proofs.Entries.{same_entries}
use Rattle.dmn_branch.proofs.Stepping.{IsEnded, begun_from, duty_refuses, transactions_refuse, last_refuses, follows, tells_more, tells_rule, tip_root, working_spent, next_whole}
use Rattle.dmn_branch.proofs.step.follow.Goals as goal

pub judge_all-requires-clause-working : goal.judge_all-requires-clause-working
judge_all-requires-clause-working c = subst (λ (g : Given). IsWorking g.height c.confirm.new.list.rows) (sym c.requires.setting) c.in_ok-confirm.ensures.working

pub mark-requires : goal.mark-requires
mark-requires c =
    let height = c.args.coinbase.now.height in
    let judged = listing c.judge_all.new.list in
    working_spent height c.args.block.now.txs judged (listing c.spend.new.list)
    (c.in_ok-spend.ensures.after ∙ ap (λ (txs : List Tx). spend txs judged) c.as_slice.ensures)
    (subst (λ (g : Given). IsWorking g.height judged.rows) c.requires.setting c.in_ok-judge_all.ensures.working)

-- where no entry was changed, the list shows what it showed, and so has the root of before
root_before : (tip : Kept) (state : State) (last : HeightVersion) (block : BlockFrame) (coinbase : CbTx) (old new : Worked) → IsTip tip last block coinbase old → StandsAt tip state → Leads old new → new.entries_changed ≡ false → last.root ≡ root_of (simple new.rows)
root_before tip state last block coinbase old new is at leads same =
    sym is.root ∙ tip_root tip state old at is.same ∙ ap (λ (l : List SmlEntry). root_of l) (sym (same_entries _ _ (leads.entries same).1))

pub returns-in_err-judge_all-clause-refused : goal.returns-in_err-judge_all-clause-refused
returns-in_err-judge_all-clause-refused c = λ tip state is at.
    let block = c.args.block.now in
    let height = c.args.coinbase.now.height in
    let given = c.args.setting.now in
    let begun = c.confirm.new.list in
    let begins = begun_from tip height c.args.last.now.hash c.args.list.now begun is.same is.none is.hash c.in_ok-confirm.ensures.rows c.in_ok-confirm.ensures.events c.in_ok-confirm.ensures.outputs in
    let p = err_from_is_err_and c.from_residual-in_err-judge_all.result c.from_residual-in_err-judge_all.ensures.1 in
    let here =
    ap (λ (n : Committed). from_place (given_of given.profile given.formed height block) block begun n 1) (sym c.new-committed.ensures)
    ∙ ap (λ (g : Given). from_place g block begun c.new-committed.result 1) (sym c.requires.setting) in
    rw (p.1, p.2) (tells_more (from_place given block begun c.new-committed.result 1) _ _ c.in_err-judge_all.ensures.refused (λ refusal broken. transactions_refuse given.profile given.formed tip state block at height is.next begun is.shape begins refusal (here ∙ broken)))

pub returns-in_err-refuse-clause-refused : goal.returns-in_err-refuse-clause-refused
returns-in_err-refuse-clause-refused c = λ tip state is at.
    let block = c.args.block.now in
    let height = c.args.coinbase.now.height in
    let given = c.args.setting.now in
    let begun = c.confirm.new.list in
    let begins = begun_from tip height c.args.last.now.hash c.args.list.now begun is.same is.none is.hash c.in_ok-confirm.ensures.rows c.in_ok-confirm.ensures.events c.in_ok-confirm.ensures.outputs in
    let judged = c.judge_all.new.list in
    let done = c.judge_all.new.committed in
    let judging : from_place (given_of given.profile given.formed height block) block begun none_committed 1 ≡ Ok (counted_at height judged done) =
    subst (λ (g : Given). from_place g block begun none_committed 1 ≡ Ok (counted_at g.height judged done)) c.requires.setting
    (subst (λ (n : Committed). from_place given block begun n 1 ≡ Ok (counted_at given.height judged done)) c.new-committed.ensures c.in_ok-judge_all.ensures.rows) in
    let lacking : c.missing.result ≡ missing given.formed done.kinds = c.missing.ensures ∙ ap (λ (f : List Formed). missing f c.kinds.result.now) c.formings.ensures ∙ ap (missing given.formed) c.kinds.ensures in
    let p = err_from_is_err_and c.from_residual-in_err-refuse.result c.from_residual-in_err-refuse.ensures.1 in
    rw (p.1, p.2) (tells_rule (option_map by_block c.missing.result) _ _ c.in_err-refuse.ensures.some
    (λ refusal broken. duty_refuses given.profile given.formed tip state block at height is.next begun is.shape begins judged done refusal judging (ap (option_map by_block) (sym lacking) ∙ broken)))

pub returns-in_err-refuse-2-clause-refused : goal.returns-in_err-refuse-2-clause-refused
returns-in_err-refuse-2-clause-refused c = λ tip state is at.
    let block = c.args.block.now in
    let height = c.args.coinbase.now.height in
    let given = c.args.setting.now in
    let begun = c.confirm.new.list in
    let begins = begun_from tip height c.args.last.now.hash c.args.list.now begun is.same is.none is.hash c.in_ok-confirm.ensures.rows c.in_ok-confirm.ensures.events c.in_ok-confirm.ensures.outputs in
    let judged = c.judge_all.new.list in
    let done = c.judge_all.new.committed in
    let judging : from_place (given_of given.profile given.formed height block) block begun none_committed 1 ≡ Ok (counted_at height judged done) =
    subst (λ (g : Given). from_place g block begun none_committed 1 ≡ Ok (counted_at g.height judged done)) c.requires.setting
    (subst (λ (n : Committed). from_place given block begun n 1 ≡ Ok (counted_at given.height judged done)) c.new-committed.ensures c.in_ok-judge_all.ensures.rows) in
    let lacking : c.missing.result ≡ missing given.formed done.kinds = c.missing.ensures ∙ ap (λ (f : List Formed). missing f c.kinds.result.now) c.formings.ensures ∙ ap (missing given.formed) c.kinds.ensures in
    let spending = c.spend.new.list in
    let who : c.payee-paid.result ≡ payee tip.rows = c.payee-paid.ensures ∙ ap (λ (l : Listing). payee l.rows) is.same in
    let ends : IsEnded (given_of given.profile given.formed height block) (payee tip.rows) block begun judged done spending c.mark.new.list = record {
      judging = judging;
      duty = sym lacking ∙ c.in_ok-refuse.ensures.none;
      same = c.in_ok-judge_all.ensures.outputs;
      spends = c.in_ok-spend.ensures.after ∙ ap (λ (txs : List Tx). spend txs (listing judged)) c.as_slice.ensures;
      removed = c.in_ok-spend.ensures.events ∙ ap (λ (txs : List Tx). judged.events + spend_events txs (listing judged)) c.as_slice.ensures;
      marks = c.in_ok-mark.ensures.rows ∙ ap (λ (w : Option Hash256). marked height w spending.rows) who;
      others = c.in_ok-mark.ensures.outputs;
      mark = c.in_ok-mark.ensures.events ∙ ap (λ (w : Option Hash256). spending.events + once_there w spending.rows) who;
    } in
    let leads = leads_then (leads_then (leads_then c.confirm.ensures.leads c.judge_all.ensures.leads) c.spend.ensures.leads) c.mark.ensures.leads in
    let p = err_from_is_err_and c.from_residual-in_err-refuse-2.result c.from_residual-in_err-refuse-2.ensures.1 in
    rw (p.1, p.2) (tells_rule (option_map by_block c.last_rule.result) _ _ c.in_err-refuse-2.ensures.some
    (λ refusal broken. last_refuses given.profile given.formed tip state block at height is.next begun is.shape begins c.args.coinbase.now judged done spending c.mark.new.list ends is.payload refusal (c.last_rule.ensures.rule (root_before tip state c.args.last.now block c.args.coinbase.now c.args.list.now c.mark.new.list is at leads) done.mined ∙ broken)))

pub returns-clause-whole : goal.returns-clause-whole
returns-clause-whole c =
    next_whole c.args.coinbase.now.height c.args.block.now.hash c.args.coinbase.now.rows c.mark.new.list c.requires.hash c.in_ok-mark.ensures.working
    (subst (λ (o : Option Rule). IfNone o (OutputsAscend c.mark.new.list.outputs)) c.in_ok-refuse-2.ensures.none c.last_rule.ensures.ascending)
    (subst (λ (o : Option Rule). IfNone o (IsWithin c.mark.new.list)) c.in_ok-refuse-2.ensures.none c.last_rule.ensures.within)

pub returns-clause-few : goal.returns-clause-few
returns-clause-few c = (subst (λ (o : Option Rule). IfNone o (IsWithin c.mark.new.list)) c.in_ok-refuse-2.ensures.none c.last_rule.ensures.within).events

pub returns-clause-next : goal.returns-clause-next
returns-clause-next c = λ tip state is at.
    let block = c.args.block.now in
    let height = c.args.coinbase.now.height in
    let given = c.args.setting.now in
    let begun = c.confirm.new.list in
    let begins = begun_from tip height c.args.last.now.hash c.args.list.now begun is.same is.none is.hash c.in_ok-confirm.ensures.rows c.in_ok-confirm.ensures.events c.in_ok-confirm.ensures.outputs in
    let judged = c.judge_all.new.list in
    let done = c.judge_all.new.committed in
    let judging : from_place (given_of given.profile given.formed height block) block begun none_committed 1 ≡ Ok (counted_at height judged done) =
    subst (λ (g : Given). from_place g block begun none_committed 1 ≡ Ok (counted_at g.height judged done)) c.requires.setting
    (subst (λ (n : Committed). from_place given block begun n 1 ≡ Ok (counted_at given.height judged done)) c.new-committed.ensures c.in_ok-judge_all.ensures.rows) in
    let lacking : c.missing.result ≡ missing given.formed done.kinds = c.missing.ensures ∙ ap (λ (f : List Formed). missing f c.kinds.result.now) c.formings.ensures ∙ ap (missing given.formed) c.kinds.ensures in
    let spending = c.spend.new.list in
    let who : c.payee-paid.result ≡ payee tip.rows = c.payee-paid.ensures ∙ ap (λ (l : Listing). payee l.rows) is.same in
    let ends : IsEnded (given_of given.profile given.formed height block) (payee tip.rows) block begun judged done spending c.mark.new.list = record {
      judging = judging;
      duty = sym lacking ∙ c.in_ok-refuse.ensures.none;
      same = c.in_ok-judge_all.ensures.outputs;
      spends = c.in_ok-spend.ensures.after ∙ ap (λ (txs : List Tx). spend txs (listing judged)) c.as_slice.ensures;
      removed = c.in_ok-spend.ensures.events ∙ ap (λ (txs : List Tx). judged.events + spend_events txs (listing judged)) c.as_slice.ensures;
      marks = c.in_ok-mark.ensures.rows ∙ ap (λ (w : Option Hash256). marked height w spending.rows) who;
      others = c.in_ok-mark.ensures.outputs;
      mark = c.in_ok-mark.ensures.events ∙ ap (λ (w : Option Hash256). spending.events + once_there w spending.rows) who;
    } in
    let coinbase = c.args.coinbase.now in
    let leads = leads_then (leads_then (leads_then c.confirm.ensures.leads c.judge_all.ensures.leads) c.spend.ensures.leads) c.mark.ensures.leads in
    let added : c.append.new.self ≡ c.args.mined.now ++ mined_at height done.mined = c.in_ok-append.ensures.ok ∙ ap (λ (l : List Commitment). c.args.mined.now ++ mined_at height l) c.into_mined.ensures in
    let none = c.last_rule.ensures.rule (root_before tip state c.args.last.now block c.args.coinbase.now c.args.list.now c.mark.new.list is at leads) done.mined ∙ ap (option_map by_block) c.in_ok-refuse-2.ensures.none in
    follows given.profile given.formed tip state block at height is.next begun is.shape begins coinbase judged done spending c.mark.new.list ends is.payload (kept_of height block.hash coinbase.rows (listing c.mark.new.list)) c.args.mined.now c.append.new.self refl added none (returns-clause-whole c)
