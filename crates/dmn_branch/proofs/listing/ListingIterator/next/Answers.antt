use Rattle.std.proofs.Common.{◌≡◌, [], Some, None, length, sym, ap, ◌∙◌, rules}
use Rattle.std.specs.Option.{option_map}
use Rattle.std.specs.Prelude.{slice_get}
use Rattle.std.proofs.lemmas.Option.{slice_get-map}
use Rattle.dmn_bytes.specs.declared.hash.Hash256.{Hash256}
use Rattle.dmn_rows.specs.declared.row.MnRow.{MnRow}
use Rattle.dmn_indexes.specs.Version.{rows_in}
use Rattle.dmn_versions.specs.Trees.{reads}
use Rattle.dmn_branch.proofs.Ranks.{none_left, some_left}
use Rattle.dmn_branch.proofs.listing.ListingIterator.next.Goals as goal

pub returns-in-None-clause-steps : goal.returns-in-None-clause-steps
returns-in-None-clause-steps c =
    let ix = c.self.inside.indexes.now in
    let v = c.self.inside.version in
    let none : slice_get (rows_in ix v) c.self.inside.rank ≡ None = slice_get-map (λ (p : Hash256 × MnRow). p.1) (reads ix.rows v.rows) c.self.inside.rank ∙ ap (option_map (λ (p : Hash256 × MnRow). p.1)) (sym c.at_rank.ensures ∙ ap (option_map (λ p. (p.0.now, p.1.now))) c.in-None.is) in
    let left : c.args.self.now.rows ≡ [] = sym (ap (λ s. s.rows) c.self.view_is) ∙ none_left (rows_in ix v) c.self.inside.rank none in
    (left, left)

pub returns-in-Some-clause-steps : goal.returns-in-Some-clause-steps
returns-in-Some-clause-steps c =
    let ix = c.self.inside.indexes.now in
    let v = c.self.inside.version in
    let some : slice_get (rows_in ix v) c.self.inside.rank ≡ Some c.in-Some.row.now = slice_get-map (λ (p : Hash256 × MnRow). p.1) (reads ix.rows v.rows) c.self.inside.rank ∙ ap (option_map (λ (p : Hash256 × MnRow). p.1)) (sym c.at_rank.ensures ∙ ap (option_map (λ p. (p.0.now, p.1.now))) c.in-Some.is) in
    sym (ap (λ s. s.rows) c.self.view_is) ∙ some_left (rows_in ix v) c.self.inside.rank c.in-Some.row.now some

pub returns-in-Some-clause-goes : goal.returns-in-Some-clause-goes
returns-in-Some-clause-goes c =
    let shorter = ap length (returns-in-Some-clause-steps c) in
    search rules
