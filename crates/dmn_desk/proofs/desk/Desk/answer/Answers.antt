use Rattle.std.proofs.Common.{◌∙◌, List, ℕ, refl, sym, ap}
use Rattle.std.specs.Prelude.{Ok}
use Rattle.dmn_desk.specs.declared.request.Request.TheVariants as requests
use Rattle.dmn_desk.proofs.Commanding.{asked_as, leaves_as, rested, told_answers}
use Rattle.dmn_desk.proofs.Marking.{marks_as, question_marks}
use Rattle.dmn_desk.proofs.desk.Desk.answer.Goals as goal

pub returns-in-Connect-clause-moments : goal.returns-in-Connect-clause-moments
returns-in-Connect-clause-moments g c = λ m stands.
    leaves_as _ _ _ m c.args.request.now (requests.Connect c.in-Connect.block c.as_slice.result.now) (c.in-Connect.is ∙ ap (λ (body : List ℕ). requests.Connect c.in-Connect.block body) (sym c.as_slice.ensures)) (c.connect.ensures.moments m stands)

pub returns-in-Disconnect-clause-moments : goal.returns-in-Disconnect-clause-moments
returns-in-Disconnect-clause-moments g c = λ m stands. leaves_as _ _ _ m c.args.request.now (requests.Disconnect _) c.in-Disconnect.is (c.disconnect.ensures.moments m stands)

pub returns-in-Pin-clause-answers : goal.returns-in-Pin-clause-answers
returns-in-Pin-clause-answers g c =
    let told = (g.D.Device.disk c.args.disk.now).told in
    asked_as c.args.request.now (requests.Pin c.in-Pin.height) (Ok c.pin.result) c.args.self.now c.args.self.now c.args.registry.now c.pin.new.registry told told c.in-Pin.is (c.pin.ensures.answers c.args.self.now told)

pub returns-in-Pin-clause-moments : goal.returns-in-Pin-clause-moments
returns-in-Pin-clause-moments g c = λ m stands. rested _ _ _ c.args.registry.now m _ (g.D.Device.past_is_over c.args.disk.now) stands refl

pub returns-in-Release-clause-answers : goal.returns-in-Release-clause-answers
returns-in-Release-clause-answers g c =
    let told = (g.D.Device.disk c.args.disk.now).told in
    asked_as c.args.request.now (requests.Release c.in-Release.pin) (Ok c.release.result) c.args.self.now c.args.self.now c.args.registry.now c.release.new.registry told told c.in-Release.is (c.release.ensures.answers c.args.self.now told)

pub returns-in-Release-clause-moments : goal.returns-in-Release-clause-moments
returns-in-Release-clause-moments g c = λ m stands. rested _ _ _ c.args.registry.now m _ (g.D.Device.past_is_over c.args.disk.now) stands refl

pub returns-in-Tip-clause-moments : goal.returns-in-Tip-clause-moments
returns-in-Tip-clause-moments g c = λ m stands. rested _ _ _ c.args.registry.now m _ (g.D.Device.past_is_over c.args.disk.now) stands refl

pub returns-in-Tip-clause-answers : goal.returns-in-Tip-clause-answers
returns-in-Tip-clause-answers g c =
    told_answers c.args.request.now c.tell_or_memory.result c.args.self.now c.tell_or_memory.new.self c.args.registry.now c.branch-registry.result.now (g.D.Device.disk c.args.disk.now).told c.branch-registry.ensures c.tell_or_memory.ensures.tells c.tell_or_memory.ensures.stay

pub returns-in-Connect-clause-mark : goal.returns-in-Connect-clause-mark
returns-in-Connect-clause-mark g c = λ m stands. marks_as c.args.request.now (requests.Connect c.in-Connect.block _) _ m _ _ _ c.in-Connect.is (c.connect.ensures.mark m stands)

pub returns-in-Disconnect-clause-mark : goal.returns-in-Disconnect-clause-mark
returns-in-Disconnect-clause-mark g c = λ m stands. marks_as c.args.request.now (requests.Disconnect _) c.disconnect.result m _ _ _ c.in-Disconnect.is c.disconnect.ensures.newest

pub returns-in-Pin-clause-mark : goal.returns-in-Pin-clause-mark
returns-in-Pin-clause-mark g c = λ m stands. marks_as c.args.request.now (requests.Pin c.in-Pin.height) _ m _ _ _ c.in-Pin.is c.pin.ensures.newest

pub returns-in-Release-clause-mark : goal.returns-in-Release-clause-mark
returns-in-Release-clause-mark g c = λ m stands. marks_as c.args.request.now (requests.Release c.in-Release.pin) _ m _ _ _ c.in-Release.is c.release.ensures.newest

pub returns-in-Tip-clause-mark : goal.returns-in-Tip-clause-mark
returns-in-Tip-clause-mark g c = λ m stands. question_marks c.args.request.now _ m _ _ c.tell_or_memory.ensures.question
