use Rattle.std.proofs.Common.{◌≡◌, false, List, Some, map, find, ap, ◌∙◌, sym, subst, arith, length}
use Rattle.std.specs.Option.{option_map}
use Rattle.dmn_rows.specs.declared.row.MnRow.{MnRow}
use Rattle.dmn_rows.specs.Distinct.{HasDistinctKeys}
use Rattle.dmn_rows.specs.Listing.{IsAscending}
use Rattle.dmn_rows.specs.Rows.{has_hash, put_row}
use Rattle.dmn_indexes.specs.Parts.{shown}
use Rattle.dmn_indexes.specs.Version.{rows_in}
use Rattle.dmn_indexes.specs.Working.{Worked}
use Rattle.dmn_indexes.proofs.Counting.{event_leads, room_leads, rows_after_put}
use Rattle.dmn_indexes.proofs.SameParts.{map-put_same}
use Rattle.dmn_indexes.proofs.Whole.{rows_ascend, grown_bound}
use Rattle.dmn_indexes.proofs.working.Working.place_row.Goals as goal

pub put_row-self-inside-requires-clause-distinct : goal.put_row-self-inside-requires-clause-distinct
put_row-self-inside-requires-clause-distinct c =
    let row = c.args.row.now in
    let kept = c.reserve.ensures.kept c.self.inside.version c.self.invariant in
    let asked = subst (λ (w : Worked). IsAscending w.rows → HasDistinctKeys w.rows → HasDistinctKeys (put_row row w.rows)) (sym c.self.view_is) c.requires in
    subst (λ (rows : List MnRow). HasDistinctKeys (put_row row rows)) (sym kept.rows) (asked (rows_ascend c.self.invariant) c.self.invariant.distinct)

pub returns-clause-leads : goal.returns-clause-leads
returns-clause-leads c =
    let row = c.args.row.now in
    let mid = c.reserve.new.self in
    let v = c.self.inside.version in
    let kept = c.reserve.ensures.kept v c.self.invariant in
    let event = c.put_row-self-inside.ensures in
    let told = subst (λ (w : Worked). c.changes-changed.result ≡ false → (w.entries_changed ≡ false) × (option_map shown (find (has_hash row.hash) w.rows) ≡ Some (shown row))) (sym c.self.view_is) c.changes-changed.ensures in
    rw (sym c.self.view_is) (event_leads c.self.invariant c.reserve.ensures.grown c.reserve.ensures.kept event.bounded event.kept (grown_bound event.grown)
    (omega (arith, ap length event.rows, rows_after_put row (rows_in mid v) (rows_ascend kept.whole)))
    (omega (arith, ap length event.outputs))
    (omega (arith, c.in_ok-events.ensures, ap (λ (w : Worked). w.events) c.self.view_is))
    (λ unchanged.
    let same = told unchanged in
    (same.0, ap (map shown) event.rows ∙ map-put_same shown row (rows_in mid v) (rows_ascend kept.whole) (ap (λ (rows : List MnRow). option_map shown (find (has_hash row.hash) rows)) kept.rows ∙ same.1))))

pub returns-in_err-reserve-clause-leads : goal.returns-in_err-reserve-clause-leads
returns-in_err-reserve-clause-leads c = rw (sym c.self.view_is) (room_leads c.self.invariant c.reserve.ensures.grown c.reserve.ensures.kept)
