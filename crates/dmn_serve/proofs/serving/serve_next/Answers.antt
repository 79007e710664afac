use Rattle.dmn_serve.proofs.Passing.{passing_one}
use Rattle.dmn_serve.proofs.Spending.{disk_same, place_here, turn_surely, snaps_there}
use Rattle.dmn_serve.proofs.Turning.{is_new, turn_broken, turn_served}
use Rattle.dmn_serve.proofs.serving.serve_next.Goals as goal

pub returns-in-Ok-clause-turns : goal.returns-in-Ok-clause-turns
returns-in-Ok-clause-turns g c = λ tells.
    let moves = rw c.in-Ok-true.field-0-test at (c.in-Ok-true.ensures.moves tells) in
    let stamps = rw c.in-Ok-true.field-0-test at c.in-Ok-true.ensures.moments in
    turn_served g.T.Device.tells_moments (g.T.Device.time c.args.station.now) (g.T.Device.time c.next_caller.new.self) (g.T.Device.disk c.args.station.now) (g.T.Device.disk c.next_caller.new.self) (g.T.Device.disk c.serve_caller.new.station) c.args.office.now c.serve_caller.new.office
    (g.T.Device.line c.args.station.now) (g.T.Device.line c.next_caller.new.self) (g.T.Device.line c.serve_caller.new.station) moves stamps c.next_caller.ensures.faults c.next_caller.ensures.time.later (g.T.Device.past_is_over c.args.station.now) c.next_caller.ensures.disk
    (c.in-Ok.ensures.serves tells (is_new g.T.Device.tells_moments (g.T.Device.line c.args.station.now) (g.T.Device.line c.next_caller.new.self) moves stamps))

pub returns-in-Ok-clause-passing : goal.returns-in-Ok-clause-passing
returns-in-Ok-clause-passing g c =
    let stamps = rw c.in-Ok-true.field-0-test at c.in-Ok-true.ensures.moments in
    passing_one g.T.Device.tells_moments (g.T.Device.time c.args.station.now) (g.T.Device.time c.next_caller.new.self) (g.T.Device.time c.serve_caller.new.station) (g.T.Device.line c.args.station.now) (g.T.Device.line c.next_caller.new.self) (g.T.Device.line c.serve_caller.new.station)
    c.next_caller.ensures.time.later c.next_caller.ensures.time.rose c.next_caller.ensures.faults c.next_caller.ensures.cause.later stamps c.serve_caller.ensures.later

pub returns-in-Err-serve_caller-clause-turns : goal.returns-in-Err-serve_caller-clause-turns
returns-in-Err-serve_caller-clause-turns g c = λ tells.
    let moves = rw c.in-Ok-true.field-0-test at (c.in-Ok-true.ensures.moves tells) in
    let stamps = rw c.in-Ok-true.field-0-test at c.in-Ok-true.ensures.moments in
    turn_broken g.T.Device.tells_moments (g.T.Device.time c.args.station.now) (g.T.Device.time c.next_caller.new.self) (g.T.Device.disk c.args.station.now) (g.T.Device.disk c.next_caller.new.self) (g.T.Device.disk c.serve_caller.new.station) c.args.office.now c.serve_caller.new.office
    (g.T.Device.line c.args.station.now) (g.T.Device.line c.next_caller.new.self) (g.T.Device.line c.serve_caller.new.station) moves stamps c.next_caller.ensures.faults c.next_caller.ensures.time.later (g.T.Device.past_is_over c.args.station.now) c.next_caller.ensures.disk
    c.in-Err-serve_caller.field-0 (c.in-Err-serve_caller.ensures.serves tells (is_new g.T.Device.tells_moments (g.T.Device.line c.args.station.now) (g.T.Device.line c.next_caller.new.self) moves stamps))

pub returns-in-Err-serve_caller-clause-passing : goal.returns-in-Err-serve_caller-clause-passing
returns-in-Err-serve_caller-clause-passing g c =
    let stamps = rw c.in-Ok-true.field-0-test at c.in-Ok-true.ensures.moments in
    passing_one g.T.Device.tells_moments (g.T.Device.time c.args.station.now) (g.T.Device.time c.next_caller.new.self) (g.T.Device.time c.serve_caller.new.station) (g.T.Device.line c.args.station.now) (g.T.Device.line c.next_caller.new.self) (g.T.Device.line c.serve_caller.new.station)
    c.next_caller.ensures.time.later c.next_caller.ensures.time.rose c.next_caller.ensures.faults c.next_caller.ensures.cause.later stamps c.serve_caller.ensures.later

pub returns-in-Err-clause-sure : goal.returns-in-Err-clause-sure
returns-in-Err-clause-sure g c = λ tells told place snaps. absurd (c.in-Err.ensures.sure told)

pub returns-in-Ok-false-clause-sure : goal.returns-in-Ok-false-clause-sure
returns-in-Ok-false-clause-sure g c = λ tells told place snaps. (disk_same _ _ c.next_caller.ensures.disk, c.in-Ok-false.ensures.sure told)

pub returns-in-Ok-clause-sure : goal.returns-in-Ok-clause-sure
returns-in-Ok-clause-sure g c = λ tells told place snaps.
    let moves = rw c.in-Ok-true.field-0-test at (c.in-Ok-true.ensures.moves tells) in
    let kept = c.in-Ok-true.ensures.sure told in
    let here = place_here (g.T.Device.room c.args.station.now) (g.T.Device.room c.next_caller.new.self) (g.T.Device.room c.serve_caller.new.station) (g.T.Device.disk c.args.station.now) (g.T.Device.disk c.next_caller.new.self) (g.T.Device.disk c.serve_caller.new.station) c.args.office.now (g.T.Device.line c.args.station.now) (g.T.Device.line c.next_caller.new.self) (g.T.Device.line c.serve_caller.new.station) moves kept c.next_caller.ensures.disk c.args.office.now.registry.journal.end place in
    turn_surely (g.T.Device.room c.args.station.now) (g.T.Device.room c.next_caller.new.self) (g.T.Device.room c.serve_caller.new.station) (g.T.Device.disk c.args.station.now) (g.T.Device.disk c.next_caller.new.self) (g.T.Device.disk c.serve_caller.new.station) c.args.office.now (g.T.Device.line c.args.station.now) (g.T.Device.line c.next_caller.new.self) (g.T.Device.line c.serve_caller.new.station) moves kept c.next_caller.ensures.disk
    c.serve_caller.ensures.later.callers (c.in-Ok.ensures.sure tells told here (snaps_there c.args.office.now.registry (g.T.Device.disk c.args.station.now) (g.T.Device.disk c.next_caller.new.self) c.next_caller.ensures.disk snaps))

pub returns-in-Err-serve_caller-clause-sure : goal.returns-in-Err-serve_caller-clause-sure
returns-in-Err-serve_caller-clause-sure g c = λ tells told place snaps.
    let moves = rw c.in-Ok-true.field-0-test at (c.in-Ok-true.ensures.moves tells) in
    let kept = c.in-Ok-true.ensures.sure told in
    let here = place_here (g.T.Device.room c.args.station.now) (g.T.Device.room c.next_caller.new.self) (g.T.Device.room c.serve_caller.new.station) (g.T.Device.disk c.args.station.now) (g.T.Device.disk c.next_caller.new.self) (g.T.Device.disk c.serve_caller.new.station) c.args.office.now (g.T.Device.line c.args.station.now) (g.T.Device.line c.next_caller.new.self) (g.T.Device.line c.serve_caller.new.station) moves kept c.next_caller.ensures.disk c.args.office.now.registry.journal.end place in
    absurd (c.in-Err-serve_caller.ensures.sure tells told here (snaps_there c.args.office.now.registry (g.T.Device.disk c.args.station.now) (g.T.Device.disk c.next_caller.new.self) c.next_caller.ensures.disk snaps))
