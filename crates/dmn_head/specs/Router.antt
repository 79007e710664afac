-- The routes as the kit's router keeps them, and what it finds.
use Rattle.std.specs.Prelude.{◌≡◌, ◌⊎◌, ℕ, List, [], Option, Some, None, Result, Ok, Err, codes, option_map}
use Rattle.std.specs.Str.{IsAscii}
use Rattle.matchit.specs.Rows.{RowsOf}
use Rattle.matchit.specs.Route.{Scan, parse_route}
use Rattle.matchit.specs.Router.{RouteOf, route_from}
use Rattle.matchit.specs.Order.{placed}
use Rattle.matchit.specs.Seek.{first}
use Rattle.matchit.specs.declared.error.InsertError.{InsertError}
use Rattle.dmn_head.specs.declared.target.Target.{Target}
use Rattle.dmn_head.specs.declared.target.Target.TheVariants as targets

-- rows with one more route, as its text is read
abbrev pub with_read : Result Scan InsertError → Target → RowsOf (RouteOf Target) → RowsOf (RouteOf Target)
with_read (Ok scan) target rows = placed (scan.pattern, route_from scan target) rows
with_read (Err fault) target rows = rows

unfoldable pub with_route : List ℕ → Target → RowsOf (RouteOf Target) → RowsOf (RouteOf Target)
with_route route target rows = with_read (parse_route route) target rows

unfoldable pub the_rows : RowsOf (RouteOf Target)
the_rows =
    with_route (codes "/release/{pin}") targets.Release
    (with_route (codes "/page/{pin}/{from}/{n}") targets.Page
    (with_route (codes "/pin/{height}") targets.Pin
    (with_route (codes "/disconnect/{hash}") targets.Disconnect
    (with_route (codes "/block") targets.Block
    (with_route (codes "/diff/{base}/{target}") targets.Diff
    (with_route (codes "/quorums/{height}") targets.Quorums
    (with_route (codes "/members/{type}/{height}") targets.Members
    (with_route (codes "/payees/{height}/{n}") targets.Payees
    (with_route (codes "/row/{height}/{hash}") targets.Row
    (with_route (codes "/list/{height}") targets.List
    (with_route (codes "/tip") targets.Tip [])))))))))))

-- what the router finds for a path that is ASCII
abbrev pub Seeks : List ℕ → Option Target → Type 0
Seeks path (Some target) = IsAscii path × (option_map (λ (r : RouteOf Target). r.value) (first the_rows path) ≡ Some target)
Seeks path None = (¬ (IsAscii path)) ⊎ (first the_rows path ≡ None)
