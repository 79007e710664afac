use Rattle.std.proofs.Common.{ap, ◌∙◌, sym, arith, List, ℕ, ◌≡◌, get_or, drop, length, ◌-◌, ◌+◌, length-drop}
use Rattle.std.proofs.lemmas.List.{take_all}
use Rattle.dmn_journal.specs.Journal.{Entry}
use Rattle.dmn_journal.specs.Reading.{entry_departs}
use Rattle.dmn_journal.proofs.Heads.{content_is}
use Rattle.dmn_journal.proofs.records.content.Goals as goal

pub returns-in-Ok-clause-contents : goal.returns-in-Ok-clause-contents
returns-in-Ok-clause-contents g c =
    let same : c.as_slice.result.now ≡ c.in_ok-text.text = c.as_slice.ensures in
    let text = c.in_ok-text.text in
    let body : c.in-Ok.copied ≡ drop 1 text = c.in-Ok.ensures ∙ take_all (length c.as_slice.result.now - 1) (drop 1 c.as_slice.result.now) (omega (arith, length-drop 1 c.as_slice.result.now)) ∙ ap (λ (l : List ℕ). drop 1 l) same in
    let entry : Entry = record { kind = get_or c.as_slice.result.now 0 0; body = c.in-Ok.copied } in
    content_is _ c.args.at c.args.size _ text entry (omega (arith, c.in-len1-up.len_at_least, ap length same)) (omega (arith, c.if-len-size.false, c.len.ensures)) c.in_ok-text.ensures.size (ap (λ (l : List ℕ). entry_departs (record { kind = get_or c.as_slice.result.now 0 0; body = l })) c.in-Ok.ensures ∙ sym c.entry_departs.ensures.is ∙ c.in-None.is) (ap (λ (l : List ℕ). record { kind = get_or l 0 0; body = c.in-Ok.copied }) same ∙ ap (λ (l : List ℕ). record { kind = get_or text 0 0; body = l }) body) (ap (λ (k : ℕ). c.args.at + 5 + k) c.from.ensures) c.in_ok-text.ensures.text
