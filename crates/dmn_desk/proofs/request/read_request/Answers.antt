use Rattle.std.proofs.Common.{◌≡◌, ◌∙◌, Err, arith, rules}
use Rattle.std.proofs.lemmas.Result.{err_from_is_err_and}
use Rattle.dmn_bytes.specs.Reading.{fault_of}
use Rattle.dmn_desk.specs.declared.kind.Kind.TheVariants as kinds
use Rattle.dmn_desk.specs.Requests.{request_of}
use Rattle.dmn_desk.proofs.Bodies.{page_ends, result_within, told_read}
use Rattle.dmn_desk.proofs.request.read_request.Goals as goal

pub returns-in-Connect-clause-within : goal.returns-in-Connect-clause-within
returns-in-Connect-clause-within c = result_within kinds.Connect c.args.body.now c.read_connect.result (λ i. omega (arith, c.type_inv.body i)) c.read_connect.ensures.told

pub returns-in_err-hash-in-Disconnect-clause-told : goal.returns-in_err-hash-in-Disconnect-clause-told
returns-in_err-hash-in-Disconnect-clause-told c =
    let p = err_from_is_err_and c.from_residual.result c.from_residual.ensures.1 in
    let departs : request_of kinds.Disconnect c.args.body.now ≡ Err (fault_of c.in_err-hash-in-Disconnect.field-0.0) = unfold request_of in search rules in
    rw (p.1, p.2, c.in-Disconnect.is) (told_read _ _ departs)

pub returns-in_err-height-in-List-clause-told : goal.returns-in_err-height-in-List-clause-told
returns-in_err-height-in-List-clause-told c =
    let p = err_from_is_err_and c.from_residual-in_err-height-in-List.result c.from_residual-in_err-height-in-List.ensures.1 in
    let departs : request_of kinds.List c.args.body.now ≡ Err (fault_of c.in_err-height-in-List.field-0.0) = unfold request_of in search rules in
    rw (p.1, p.2, c.in-List.is) (told_read _ _ departs)

pub returns-in_err-height-in-Row-clause-told : goal.returns-in_err-height-in-Row-clause-told
returns-in_err-height-in-Row-clause-told c =
    let p = err_from_is_err_and c.from_residual-in_err-height-in-Row.result c.from_residual-in_err-height-in-Row.ensures.1 in
    let departs : request_of kinds.Row c.args.body.now ≡ Err (fault_of c.in_err-height-in-Row.field-0.0) = unfold request_of in search rules in
    rw (p.1, p.2, c.in-Row.is) (told_read _ _ departs)

pub returns-in_err-hash-in-Row-clause-told : goal.returns-in_err-hash-in-Row-clause-told
returns-in_err-hash-in-Row-clause-told c =
    let p = err_from_is_err_and c.from_residual-in_err-hash-in-Row.result c.from_residual-in_err-hash-in-Row.ensures.1 in
    let departs : request_of kinds.Row c.args.body.now ≡ Err (fault_of c.in_err-hash-in-Row.field-0.0) = unfold request_of in search rules in
    rw (p.1, p.2, c.in-Row.is) (told_read _ _ departs)

pub returns-in_err-height-in-Payees-clause-told : goal.returns-in_err-height-in-Payees-clause-told
returns-in_err-height-in-Payees-clause-told c =
    let p = err_from_is_err_and c.from_residual-in_err-height-in-Payees.result c.from_residual-in_err-height-in-Payees.ensures.1 in
    let departs : request_of kinds.Payees c.args.body.now ≡ Err (fault_of c.in_err-height-in-Payees.field-0.0) = unfold request_of in search rules in
    rw (p.1, p.2, c.in-Payees.is) (told_read _ _ departs)

pub returns-in_err-count-in-Payees-clause-told : goal.returns-in_err-count-in-Payees-clause-told
returns-in_err-count-in-Payees-clause-told c =
    let p = err_from_is_err_and c.from_residual-in_err-count-in-Payees.result c.from_residual-in_err-count-in-Payees.ensures.1 in
    let departs : request_of kinds.Payees c.args.body.now ≡ Err (fault_of c.in_err-count-in-Payees.field-0.0) = unfold request_of in search rules in
    rw (p.1, p.2, c.in-Payees.is) (told_read _ _ departs)

pub returns-in_err-kind-in-Members-clause-told : goal.returns-in_err-kind-in-Members-clause-told
returns-in_err-kind-in-Members-clause-told c =
    let p = err_from_is_err_and c.from_residual-in_err-kind-in-Members.result c.from_residual-in_err-kind-in-Members.ensures.1 in
    let departs : request_of kinds.Members c.args.body.now ≡ Err (fault_of c.in_err-kind-in-Members.field-0.0) = unfold request_of in search rules in
    rw (p.1, p.2, c.in-Members.is) (told_read _ _ departs)

pub returns-in_err-base-in-Members-clause-told : goal.returns-in_err-base-in-Members-clause-told
returns-in_err-base-in-Members-clause-told c =
    let p = err_from_is_err_and c.from_residual-in_err-base-in-Members.result c.from_residual-in_err-base-in-Members.ensures.1 in
    let departs : request_of kinds.Members c.args.body.now ≡ Err (fault_of c.in_err-base-in-Members.field-0.0) = unfold request_of in search rules in
    rw (p.1, p.2, c.in-Members.is) (told_read _ _ departs)

pub returns-in_err-height-in-Quorums-clause-told : goal.returns-in_err-height-in-Quorums-clause-told
returns-in_err-height-in-Quorums-clause-told c =
    let p = err_from_is_err_and c.from_residual-in_err-height-in-Quorums.result c.from_residual-in_err-height-in-Quorums.ensures.1 in
    let departs : request_of kinds.Quorums c.args.body.now ≡ Err (fault_of c.in_err-height-in-Quorums.field-0.0) = unfold request_of in search rules in
    rw (p.1, p.2, c.in-Quorums.is) (told_read _ _ departs)

pub returns-in_err-base-in-Diff-clause-told : goal.returns-in_err-base-in-Diff-clause-told
returns-in_err-base-in-Diff-clause-told c =
    let p = err_from_is_err_and c.from_residual-in_err-base-in-Diff.result c.from_residual-in_err-base-in-Diff.ensures.1 in
    let departs : request_of kinds.Diff c.args.body.now ≡ Err (fault_of c.in_err-base-in-Diff.field-0.0) = unfold request_of in search rules in
    rw (p.1, p.2, c.in-Diff.is) (told_read _ _ departs)

pub returns-in_err-block-in-Diff-clause-told : goal.returns-in_err-block-in-Diff-clause-told
returns-in_err-block-in-Diff-clause-told c =
    let p = err_from_is_err_and c.from_residual-in_err-block-in-Diff.result c.from_residual-in_err-block-in-Diff.ensures.1 in
    let departs : request_of kinds.Diff c.args.body.now ≡ Err (fault_of c.in_err-block-in-Diff.field-0.0) = unfold request_of in search rules in
    rw (p.1, p.2, c.in-Diff.is) (told_read _ _ departs)

pub returns-in_err-height-in-Pin-clause-told : goal.returns-in_err-height-in-Pin-clause-told
returns-in_err-height-in-Pin-clause-told c =
    let p = err_from_is_err_and c.from_residual-in_err-height-in-Pin.result c.from_residual-in_err-height-in-Pin.ensures.1 in
    let departs : request_of kinds.Pin c.args.body.now ≡ Err (fault_of c.in_err-height-in-Pin.field-0.0) = unfold request_of in search rules in
    rw (p.1, p.2, c.in-Pin.is) (told_read _ _ departs)

pub returns-in_err-pin-in-Page-clause-told : goal.returns-in_err-pin-in-Page-clause-told
returns-in_err-pin-in-Page-clause-told c =
    let p = err_from_is_err_and c.from_residual-in_err-pin-in-Page.result c.from_residual-in_err-pin-in-Page.ensures.1 in
    let departs : request_of kinds.Page c.args.body.now ≡ Err (fault_of c.in_err-pin-in-Page.field-0.0) = unfold request_of in search rules in
    rw (p.1, p.2, c.in-Page.is) (told_read _ _ departs)

pub returns-in_err-from-in-Page-clause-told : goal.returns-in_err-from-in-Page-clause-told
returns-in_err-from-in-Page-clause-told c =
    let p = err_from_is_err_and c.from_residual-in_err-from-in-Page.result c.from_residual-in_err-from-in-Page.ensures.1 in
    let departs : request_of kinds.Page c.args.body.now ≡ Err (fault_of c.in_err-from-in-Page.field-0.0) = unfold request_of in search rules in
    rw (p.1, p.2, c.in-Page.is) (told_read _ _ departs)

pub returns-in_err-count-in-Page-clause-told : goal.returns-in_err-count-in-Page-clause-told
returns-in_err-count-in-Page-clause-told c =
    let p = err_from_is_err_and c.from_residual-in_err-count-in-Page.result c.from_residual-in_err-count-in-Page.ensures.1 in
    let departs : request_of kinds.Page c.args.body.now ≡ Err (fault_of c.in_err-count-in-Page.field-0.0) = unfold request_of in search rules in
    rw (p.1, p.2, c.in-Page.is) (told_read _ _ departs)

pub returns-in_err-pin-in-Release-clause-told : goal.returns-in_err-pin-in-Release-clause-told
returns-in_err-pin-in-Release-clause-told c =
    let p = err_from_is_err_and c.from_residual-in_err-pin-in-Release.result c.from_residual-in_err-pin-in-Release.ensures.1 in
    let departs : request_of kinds.Release c.args.body.now ≡ Err (fault_of c.in_err-pin-in-Release.field-0.0) = unfold request_of in search rules in
    rw (p.1, p.2, c.in-Release.is) (told_read _ _ departs)

pub returns-in_ok-count-in-Page-clause-told : goal.returns-in_ok-count-in-Page-clause-told
returns-in_ok-count-in-Page-clause-told c =
    let text = c.new-reader.ensures.text in
    let first = c.in_ok-pin-in-Page.ensures.reads in
    let second = c.in_ok-from-in-Page.ensures.reads in
    let third = c.in_ok-count-in-Page.ensures.reads in
    let t1 : c.u32-in-Page.new.self.text ≡ c.args.body.now = first.1 ∙ text in
    let t2 : c.u32-in-Page-2.new.self.text ≡ c.args.body.now = second.1 ∙ t1 in
    let t3 : c.u16-in-Page.new.self.text ≡ c.args.body.now = third.1 ∙ t2 in
    let ends = page_ends c.args.body.now _ _ _ _ _ _ (rw (text, c.new-reader.ensures.at) at first.0) (rw t1 at second.0) (rw t2 at third.0) in
    rw (c.in-Page.is, ends) (rw t3 at c.at_end-in-Page.ensures.told)
