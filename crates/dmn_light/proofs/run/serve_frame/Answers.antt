use Rattle.std.proofs.Common.{inl, inr, ap}
use Rattle.std.proofs.lemmas.Result.{err_from_is_err_and}
use Rattle.dmn_frames.proofs.Spending.{spent_none, spent_whole}
use Rattle.dmn_frames.proofs.Turns.{cut_within, faulted_within}
use Rattle.dmn_outside.specs.Line.{Talk}
use Rattle.dmn_outside.proofs.Passing.{later_quiet, later_then, quiet_then, room_kept}
use Rattle.dmn_light.proofs.Spending.{lacked}
use Rattle.dmn_light.proofs.Turning.{taken, turned_part, turned_whole}
use Rattle.dmn_light.proofs.run.serve_frame.Goals as goal

pub returns-in_err-ask-in-Of-clause-turns : goal.returns-in_err-ask-in-Of-clause-turns
returns-in_err-ask-in-Of-clause-turns g c = λ tells.
    let p = err_from_is_err_and c.from_residual-in_err-ask-in-Of.result c.from_residual-in_err-ask-in-Of.ensures.1 in
    let head = rw c.in-Of.is at (c.in_ok-read_head.ensures.heads tells) in
    rw p.1 (inl (faulted_within _ _ _ _ _ head (c.in_err-ask-in-Of.ensures.asks tells)))

pub returns-in_err-ask-in-Of-clause-later : goal.returns-in_err-ask-in-Of-clause-later
returns-in_err-ask-in-Of-clause-later g c = later_quiet (quiet_then c.in_ok-read_head.ensures.quiet c.in_err-ask-in-Of.ensures.quiet)

pub returns-in_err-ask-in-Of-clause-sure : goal.returns-in_err-ask-in-Of-clause-sure
returns-in_err-ask-in-Of-clause-sure g c = λ tells told. absurd (c.in_err-ask-in-Of.ensures.sure told)

pub returns-in_err-send_all-in-Some-clause-turns : goal.returns-in_err-send_all-in-Some-clause-turns
returns-in_err-send_all-in-Some-clause-turns g c = λ tells.
    let p = err_from_is_err_and c.from_residual-in_err-send_all-in-Some.result c.from_residual-in_err-send_all-in-Some.ensures.1 in
    let head = rw c.in-Of.is at (c.in_ok-read_head.ensures.heads tells) in
    let asked = rw c.in-Some.is at (c.in_ok-ask-in-Of.ensures.asks tells) in
    let part = rw (c.as_slice.ensures, c.frame-frame.ensures.text) at (c.in_err-send_all-in-Some.ensures.sends tells) in
    rw p.1 (inr (turned_part _ _ _ _ _ _ _ _ _ head asked c.frame-frame.ensures.fits part))

pub returns-in_err-send_all-in-Some-clause-later : goal.returns-in_err-send_all-in-Some-clause-later
returns-in_err-send_all-in-Some-clause-later g c = later_then (later_quiet (quiet_then c.in_ok-read_head.ensures.quiet c.in_ok-ask-in-Of.ensures.quiet)) c.in_err-send_all-in-Some.ensures.later

pub returns-in_err-send_all-in-Some-clause-sure : goal.returns-in_err-send_all-in-Some-clause-sure
returns-in_err-send_all-in-Some-clause-sure g c = λ tells told.
    let p = err_from_is_err_and c.from_residual-in_err-send_all-in-Some.result c.from_residual-in_err-send_all-in-Some.ensures.1 in
    let head = rw c.in-Of.is at (c.in_ok-read_head.ensures.heads tells) in
    let asked = rw c.in-Some.is at (c.in_ok-ask-in-Of.ensures.asks tells) in
    let short = rw (c.as_slice.ensures, c.frame-frame.ensures.text) at (c.in_err-send_all-in-Some.ensures.sure told) in
    rw p.1 (lacked _ _ _ _ _ _ (room_kept (c.in_ok-read_head.ensures.sure told) (c.in_ok-ask-in-Of.ensures.sure told)) head asked c.frame-frame.ensures.fits short)

pub returns-in_ok-send_all-in-Some-clause-turns : goal.returns-in_ok-send_all-in-Some-clause-turns
returns-in_ok-send_all-in-Some-clause-turns g c = λ tells.
    let head = rw c.in-Of.is at (c.in_ok-read_head.ensures.heads tells) in
    let asked = rw c.in-Some.is at (c.in_ok-ask-in-Of.ensures.asks tells) in
    let sent = rw (c.as_slice.ensures, c.frame-frame.ensures.text) at (c.in_ok-send_all-in-Some.ensures.sends tells) in
    turned_whole _ _ _ _ _ _ _ _ _ head asked c.frame-frame.ensures.fits sent

pub returns-in_ok-send_all-in-Some-clause-later : goal.returns-in_ok-send_all-in-Some-clause-later
returns-in_ok-send_all-in-Some-clause-later g c = later_then (later_quiet (quiet_then c.in_ok-read_head.ensures.quiet c.in_ok-ask-in-Of.ensures.quiet)) c.in_ok-send_all-in-Some.ensures.later

pub returns-in_ok-send_all-in-Some-clause-sure : goal.returns-in_ok-send_all-in-Some-clause-sure
returns-in_ok-send_all-in-Some-clause-sure g c = λ tells told.
    let head = rw c.in-Of.is at (c.in_ok-read_head.ensures.heads tells) in
    let asked = rw c.in-Some.is at (c.in_ok-ask-in-Of.ensures.asks tells) in
    let took = taken _ _ _ _ _ _ _ _ head asked in
    spent_whole _ (room_kept (c.in_ok-read_head.ensures.sure told) (c.in_ok-ask-in-Of.ensures.sure told)) (c.in_ok-send_all-in-Some.ensures.sure told) (ap (λ (t : Talk). t.sent) took) (ap (λ (t : Talk). t.sent) (c.in_ok-send_all-in-Some.ensures.sends tells))

pub returns-in_err-read_head-clause-later : goal.returns-in_err-read_head-clause-later
returns-in_err-read_head-clause-later g c = later_quiet c.in_err-read_head.ensures.quiet

pub returns-in_err-read_head-clause-sure : goal.returns-in_err-read_head-clause-sure
returns-in_err-read_head-clause-sure g c = λ tells told. absurd (c.in_err-read_head.ensures.sure told)

pub returns-in-Ended-clause-later : goal.returns-in-Ended-clause-later
returns-in-Ended-clause-later g c = later_quiet c.in_ok-read_head.ensures.quiet

pub returns-in-Ended-clause-sure : goal.returns-in-Ended-clause-sure
returns-in-Ended-clause-sure g c = λ tells told.
    let h = rw c.in-Ended.is at (c.in_ok-read_head.ensures.heads tells) in
    spent_none (c.in_ok-read_head.ensures.sure told) (ap (λ (t : Talk). t.sent) h.1)

pub returns-in-Cut-clause-later : goal.returns-in-Cut-clause-later
returns-in-Cut-clause-later g c = later_quiet c.in_ok-read_head.ensures.quiet

pub returns-in-Cut-clause-sure : goal.returns-in-Cut-clause-sure
returns-in-Cut-clause-sure g c = λ tells told.
    let h = rw c.in-Cut.is at (c.in_ok-read_head.ensures.heads tells) in
    spent_none (c.in_ok-read_head.ensures.sure told) (ap (λ (t : Talk). t.sent) h.2)

pub returns-in-None-clause-turns : goal.returns-in-None-clause-turns
returns-in-None-clause-turns g c = λ tells.
    let head = rw c.in-Of.is at (c.in_ok-read_head.ensures.heads tells) in
    let cut = rw c.in-None.is at (c.in_ok-ask-in-Of.ensures.asks tells) in
    cut_within _ _ _ _ _ head cut

pub returns-in-None-clause-later : goal.returns-in-None-clause-later
returns-in-None-clause-later g c = later_quiet (quiet_then c.in_ok-read_head.ensures.quiet c.in_ok-ask-in-Of.ensures.quiet)

pub returns-in-None-clause-sure : goal.returns-in-None-clause-sure
returns-in-None-clause-sure g c = λ tells told.
    let head = rw c.in-Of.is at (c.in_ok-read_head.ensures.heads tells) in
    let cut = rw c.in-None.is at (c.in_ok-ask-in-Of.ensures.asks tells) in
    spent_none (room_kept (c.in_ok-read_head.ensures.sure told) (c.in_ok-ask-in-Of.ensures.sure told)) (ap (λ (t : Talk). t.sent) (cut_within _ _ _ _ _ head cut).2)
