use Rattle.std.proofs.Common.{◌≡◌, ◌<◌, ◌≤◌, refl, ap, sym, ◌∙◌, arith}
use Rattle.std.specs.Option.{option_map}
use Rattle.dmn_indexes.specs.Parts.{keys_of}
use Rattle.dmn_indexes.proofs.Counting.{leads_then}
use Rattle.dmn_rows.specs.declared.row.MnRow.{MnRow}
use Rattle.dmn_rows.specs.Profile.{confirm_wait}
use Rattle.dmn_rows.specs.Rows.{has_hash, put_row}
use Rattle.dmn_standing.specs.Standing.{confirmed}
use Rattle.dmn_branch.specs.Events.{confirmations}
use Rattle.dmn_branch.proofs.Confirming.{confirmed_one, one_less, none_due, found_holds, working_set}
use Rattle.dmn_branch.proofs.confirm.confirm.Goals as goal

pub loop-row-smaller : goal.loop-row-smaller
loop-row-smaller c =
    let height = c.args.height in
    let row = c.in-Some.row.now in
    let rows = c.loop-row.list.rows in
    let put : c.set_row.new.self.rows ≡ put_row (record row { confirmed = c.args.hash.now }) rows = c.in_ok-set_row.ensures.rows in
    let same = ap (confirmations confirm_wait height) put in
    let less = one_less confirm_wait height c.args.hash.now c.requires.hash row rows c.loop-row.invariant.working.ascending c.in-Some.ensures.row.0 c.in-Some.ensures.row.1 in
    let smaller : confirmations confirm_wait height c.set_row.new.self.rows < confirmations confirm_wait height rows = omega (arith, same, less) in
    smaller

pub loop-row-preserved : goal.loop-row-preserved
loop-row-preserved c =
    let height = c.args.height in
    let hash = c.args.hash.now in
    let row = c.in-Some.row.now in
    let rows = c.loop-row.list.rows in
    let there = c.in-Some.ensures.row.0 in
    let due = c.in-Some.ensures.row.1 in
    let working = c.loop-row.invariant.working in
    let put : c.set_row.new.self.rows ≡ put_row (record row { confirmed = hash }) rows = c.in_ok-set_row.ensures.rows in
    let same = ap (confirmations confirm_wait height) put in
    let less = one_less confirm_wait height hash c.requires.hash row rows working.ascending there due in
    record {
      rows = ap (confirmed confirm_wait height hash) put ∙ confirmed_one confirm_wait height hash c.requires.hash row rows working.ascending there due ∙ c.loop-row.invariant.rows;
      outputs = c.in_ok-set_row.ensures.outputs ∙ c.loop-row.invariant.outputs;
      events = omega (arith, same, less, c.in_ok-set_row.ensures.events, c.loop-row.invariant.events);
      working = working_set height (record row { confirmed = hash }) rows c.set_row.new.self.rows put (ap (option_map keys_of) there)
          (found_holds (λ (r : MnRow). r.penalty_at ≤ height) (has_hash row.hash) row rows there working.penalties) working;
      leads = leads_then c.loop-row.invariant.leads c.set_row.ensures.leads;
    }

pub returns-clause-rows : goal.returns-clause-rows
returns-clause-rows c =
    sym (none_due confirm_wait c.args.height c.args.hash.now c.loop-row.list.rows (c.in_default.ensures.none refl)).0 ∙ c.loop-row.invariant.rows

pub returns-clause-events : goal.returns-clause-events
returns-clause-events c =
    let none = (none_due confirm_wait c.args.height c.args.hash.now c.loop-row.list.rows (c.in_default.ensures.none refl)).1 in
    omega (arith, none, c.loop-row.invariant.events)
