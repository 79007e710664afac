-- Routes that are added one after another.
use Rattle.std.proofs.Common.{◌≡◌, ℕ, List, [], codes, ap, ◌∙◌, Ok, Err, Result, OnOk}
use Rattle.matchit.specs.Rows.{RowsOf}
use Rattle.matchit.specs.Route.{Scan, parse_route}
use Rattle.matchit.specs.Router.{RouteOf, InsertsRead}
use Rattle.matchit.specs.declared.error.InsertError.{InsertError}
use Rattle.dmn_head.specs.Router.{with_read, with_route, the_rows}
use Rattle.dmn_head.specs.declared.target.Target.{Target}
use Rattle.dmn_head.specs.declared.target.Target.TheVariants as targets

read_added : (read : Result Scan InsertError) (target : Target) (old new : RowsOf (RouteOf Target)) → InsertsRead read target old new (Ok tt) → new ≡ with_read read target old
read_added (Ok scan) target old new h = h.1
read_added (Err fault) target old new h = h.0

pub added : (route : List ℕ) (target : Target) (old new : RowsOf (RouteOf Target)) → InsertsRead (parse_route route) target old new (Ok tt) → new ≡ with_route route target old
unfolding with_route
added route target old new h = read_added (parse_route route) target old new h

pub added_if_ok : (r : Result (Unit {0}) InsertError) (route : List ℕ) (target : Target) (old new : RowsOf (RouteOf Target)) → InsertsRead (parse_route route) target old new r → OnOk r (new ≡ with_route route target old)
added_if_ok (Ok done) route target old new h = added route target old new h
added_if_ok (Err fault) route target old new h = tt

-- twelve of them, one after another
pub built : (a b c d e f g h i j k l m : RowsOf (RouteOf Target)) → a ≡ []
    → b ≡ with_route (codes "/tip") targets.Tip a
    → c ≡ with_route (codes "/list/{height}") targets.List b
    → d ≡ with_route (codes "/row/{height}/{hash}") targets.Row c
    → e ≡ with_route (codes "/payees/{height}/{n}") targets.Payees d
    → f ≡ with_route (codes "/members/{type}/{height}") targets.Members e
    → g ≡ with_route (codes "/quorums/{height}") targets.Quorums f
    → h ≡ with_route (codes "/diff/{base}/{target}") targets.Diff g
    → i ≡ with_route (codes "/block") targets.Block h
    → j ≡ with_route (codes "/disconnect/{hash}") targets.Disconnect i
    → k ≡ with_route (codes "/pin/{height}") targets.Pin j
    → l ≡ with_route (codes "/page/{pin}/{from}/{n}") targets.Page k
    → m ≡ with_route (codes "/release/{pin}") targets.Release l
    → m ≡ the_rows
unfolding the_rows
built a b c d e f g h i j k l m e0 e1 e2 e3 e4 e5 e6 e7 e8 e9 e10 e11 e12 =
    let f1 = e1 ∙ ap (with_route (codes "/tip") targets.Tip) e0 in
    let f2 = e2 ∙ ap (with_route (codes "/list/{height}") targets.List) f1 in
    let f3 = e3 ∙ ap (with_route (codes "/row/{height}/{hash}") targets.Row) f2 in
    let f4 = e4 ∙ ap (with_route (codes "/payees/{height}/{n}") targets.Payees) f3 in
    let f5 = e5 ∙ ap (with_route (codes "/members/{type}/{height}") targets.Members) f4 in
    let f6 = e6 ∙ ap (with_route (codes "/quorums/{height}") targets.Quorums) f5 in
    let f7 = e7 ∙ ap (with_route (codes "/diff/{base}/{target}") targets.Diff) f6 in
    let f8 = e8 ∙ ap (with_route (codes "/block") targets.Block) f7 in
    let f9 = e9 ∙ ap (with_route (codes "/disconnect/{hash}") targets.Disconnect) f8 in
    let f10 = e10 ∙ ap (with_route (codes "/pin/{height}") targets.Pin) f9 in
    let f11 = e11 ∙ ap (with_route (codes "/page/{pin}/{from}/{n}") targets.Page) f10 in
    let f12 = e12 ∙ ap (with_route (codes "/release/{pin}") targets.Release) f11 in
    f12
