use Rattle.std.proofs.Common.{◌≡◌, Option, sym, ap, ◌∙◌, subst}
use Rattle.dmn_bytes.specs.declared.hash.Hash256.{Hash256}
use Rattle.dmn_rows.specs.Distinct.{HasDistinctKeys}
use Rattle.dmn_rows.specs.Rows.{put_row}
use Rattle.dmn_rules.specs.Change.{applied}
use Rattle.dmn_rules.specs.declared.effect.Effect.TheVariants.{Register}
use Rattle.dmn_rules.proofs.Puts.{put_alone}
use Rattle.dmn_branch.proofs.transactions.register.Goals as goal

pub put_row-requires : goal.put_row-requires
put_row-requires c =
    let row = c.args.row.now in
    let rows = c.args.list.now.rows in
    let is : put_row row rows ≡ applied (Register row c.args.replaced.now) rows = put_alone row rows ∙ ap (λ (o : Option Hash256). applied (Register row o) rows) (sym c.in-None.is) in
    subst HasDistinctKeys (sym is) c.requires

pub put_row-requires-in-Some : goal.put_row-requires-in-Some
put_row-requires-in-Some c =
    let row = c.args.row.now in
    let rows = c.args.list.now.rows in
    let is : put_row row c.drop_row.new.self.rows ≡ applied (Register row c.args.replaced.now) rows = ap (put_row row) c.in_ok-drop_row-in-Some.ensures.rows ∙ ap (λ (o : Option Hash256). applied (Register row o) rows) (sym c.in-Some.is) in
    subst HasDistinctKeys (sym is) c.requires

pub returns-in_ok-put_row-in-None-clause-rows : goal.returns-in_ok-put_row-in-None-clause-rows
returns-in_ok-put_row-in-None-clause-rows c =
    let row = c.args.row.now in
    let rows = c.args.list.now.rows in
    c.in_ok-put_row-in-None.ensures.rows ∙ put_alone row rows ∙ ap (λ (o : Option Hash256). applied (Register row o) rows) (sym c.in-None.is)
