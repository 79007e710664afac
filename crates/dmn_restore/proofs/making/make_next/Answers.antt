use Rattle.std.proofs.Common.{◌≡◌, false, ap, ◌∙◌, subst, sym}
use Rattle.dmn_indexes.specs.declared.indexes.Indexes.{Indexes}
use Rattle.dmn_indexes.specs.Version.{Keeps}
use Rattle.dmn_indexes.specs.Working.{Worked, worked}
use Rattle.dmn_rows.specs.Listing.{IsAscending, OutputsAscend}
use Rattle.dmn_restore.proofs.Rising.{version_outputs, version_rows}
use Rattle.dmn_restore.proofs.making.make_next.Goals as goal

pub go_on-requires-clause-ascending : goal.go_on-requires-clause-ascending
go_on-requires-clause-ascending c =
    let start : c.new-list.result ≡ worked c.args.indexes.now c.args.version 0 false = c.new-list.ensures ∙ ap (λ (i : Indexes). worked i c.args.version 0 false) c.replace-arenas.ensures.value in
    subst (λ (w : Worked). IsAscending w.rows) (sym start) (version_rows c.args.indexes.now c.args.version c.requires.whole)

pub go_on-requires-clause-outputs : goal.go_on-requires-clause-outputs
go_on-requires-clause-outputs c =
    let start : c.new-list.result ≡ worked c.args.indexes.now c.args.version 0 false = c.new-list.ensures ∙ ap (λ (i : Indexes). worked i c.args.version 0 false) c.replace-arenas.ensures.value in
    subst (λ (w : Worked). OutputsAscend w.outputs) (sym start) (version_outputs c.args.indexes.now c.args.version c.requires.whole)

pub returns-clause-keeps : goal.returns-clause-keeps
returns-clause-keeps c =
    let start : c.new-list.result ≡ worked c.args.indexes.now c.args.version 0 false = c.new-list.ensures ∙ ap (λ (i : Indexes). worked i c.args.version 0 false) c.replace-arenas.ensures.value in
    let keeps : Keeps c.args.indexes.now c.mark.new.indexes = subst (λ (i : Indexes). Keeps i c.mark.new.indexes) (ap (λ (w : Worked). w.indexes) start) (subst (λ (i : Indexes). Keeps c.new-list.result.indexes i) (sym c.mark.ensures.arenas) c.in_ok-go_on.ensures.keeps) in
    keeps
