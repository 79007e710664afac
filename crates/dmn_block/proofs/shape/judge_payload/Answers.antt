use Rattle.std.proofs.Common.{◌≡◌, ◌≤◌, ◌+◌, ◌∙◌, true, rules, refl, sym, length}
use Rattle.dmn_bytes.specs.Format.{whole}
use Rattle.dmn_payloads.specs.Payloads.{cb}
use Rattle.dmn_payloads.specs.Fault.{other_version}
use Rattle.dmn_block.specs.Shape.{is_cb_type}
use Rattle.dmn_block.proofs.Coinbase.{answers_ok, answers_version, answers_form, payload_other, payload_version, payload_form, payload_ok, cb_long}
use Rattle.dmn_block.proofs.shape.judge_payload.Goals as goal

pub returns-then-not-is_cb_type-clause-rule : goal.returns-then-not-is_cb_type-clause-rule
returns-then-not-is_cb_type-clause-rule c = rw c.by_first.ensures (payload_other (c.args.tip_height + 1) c.args.tx.now (search rules))

pub returns-then-is_next-clause-rule : goal.returns-then-is_next-clause-rule
returns-then-is_next-clause-rule c =
    let tx = c.args.tx.now in
    let value = c.in-Ok.value in
    let is : is_cb_type tx ≡ true = search rules in
    let h = answers_ok (other_version tx.payload) (whole cb tx.payload) value (rw c.as_slice.ensures at c.in-Ok.ensures.answers) in
    let long : 2 ≤ length tx.payload = rw (sym c.as_slice.ensures ∙ c.in-Ok.ensures.found.1) (cb_long value) in
    payload_ok (c.args.tip_height + 1) tx value is h.0 h.1 long ∙ rw (sym c.is_next.ensures ∙ c.if-is_next.true) refl

pub returns-else-is_next-clause-rule : goal.returns-else-is_next-clause-rule
returns-else-is_next-clause-rule c =
    let tx = c.args.tx.now in
    let value = c.in-Ok.value in
    let is : is_cb_type tx ≡ true = search rules in
    let h = answers_ok (other_version tx.payload) (whole cb tx.payload) value (rw c.as_slice.ensures at c.in-Ok.ensures.answers) in
    let long : 2 ≤ length tx.payload = rw (sym c.as_slice.ensures ∙ c.in-Ok.ensures.found.1) (cb_long value) in
    rw c.by_first-else-is_next.ensures (payload_ok (c.args.tip_height + 1) tx value is h.0 h.1 long ∙ rw (sym c.is_next.ensures ∙ c.if-is_next.false) refl)

pub returns-in-Err-PayloadVersion-clause-rule : goal.returns-in-Err-PayloadVersion-clause-rule
returns-in-Err-PayloadVersion-clause-rule c =
    let tx = c.args.tx.now in
    let found = c.in-Err-PayloadVersion.found in
    let is : is_cb_type tx ≡ true = search rules in
    let h = answers_version (other_version tx.payload) (whole cb tx.payload) found (rw (c.as_slice.ensures, c.in-Err-PayloadVersion.field-0-is) at c.in-Err-PayloadVersion.ensures.answers) in
    rw c.by_first-in-Err-PayloadVersion.ensures (payload_version (c.args.tip_height + 1) tx found is h)

pub returns-in-Err-PayloadForm-clause-rule : goal.returns-in-Err-PayloadForm-clause-rule
returns-in-Err-PayloadForm-clause-rule c =
    let tx = c.args.tx.now in
    let is : is_cb_type tx ≡ true = search rules in
    let h = answers_form (other_version tx.payload) (whole cb tx.payload) c.in-Err-PayloadForm.field-0-0 (rw (c.as_slice.ensures, c.in-Err-PayloadForm.field-0-is) at c.in-Err-PayloadForm.ensures.answers) in
    rw c.by_first-in-Err-PayloadForm.ensures (payload_form (c.args.tip_height + 1) tx h.1.0 is h.0 h.1.1)
