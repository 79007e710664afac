-- Outputs that ascend, put one after another.
use Rattle.std.proofs.Common.{◌≡◌, ℕ, zero, suc, ◌+◌, ◌<◌, cond, [], ◌∷◌, ◌++◌, length, get_or, take, find, Option, None, refl, sym, ap, ◌∙◌, subst}
use Rattle.std.specs.Prelude.{is_some}
use Rattle.std.specs.declared.cmp.Ordering.TheVariants.{Less}
use Rattle.std.proofs.lemmas.List.{take_more}
use Rattle.dmn_bytes.specs.Points.{point_cmp}
use Rattle.dmn_bytes.specs.declared.points.OutPoint.{OutPoint}
use Rattle.dmn_rows.specs.declared.start.StartOutput.{StartOutput}
use Rattle.dmn_rows.specs.Keys.{output_key}
use Rattle.dmn_rows.specs.Listing.{OutputsAscend}
use Rattle.dmn_rows.specs.Rows.{Outputs, has_point, put_output}
use Rattle.dmn_rows.specs.Sorted.{IsAbove, put_sorted}
use Rattle.dmn_rows.specs.Start.{point_of}
use Rattle.dmn_rows.proofs.Sorted.{put_below, differs_below}
use Rattle.dmn_rows.proofs.Lookups.{none_joined}

above_last : (k : OutPoint) (xs : Outputs) (o : StartOutput) → IsAbove point_cmp point_of k (xs ++ o ∷ []) → point_cmp k o.point ≡ Less
above_last k [] o above = above.0
above_last k (x ∷ xs) o above = above_last k xs o above.1

none_there : (xs : Outputs) (o : StartOutput) → OutputsAscend (xs ++ o ∷ []) → find (has_point o.point) xs ≡ None
none_there [] o ascending = refl
none_there (x ∷ xs) o ascending =
    none_joined (has_point o.point) x xs (differs_below point_cmp point_of has_point output_key o.point x (above_last x.point xs o ascending.0)) (none_there xs o ascending.1)

put_last : (xs : Outputs) (o : StartOutput) → OutputsAscend (xs ++ o ∷ []) → put_sorted point_cmp point_of o xs ≡ xs ++ o ∷ []
put_last [] o ascending = refl
put_last (x ∷ xs) o ascending =
    put_below point_cmp point_of has_point output_key o x xs (above_last x.point xs o ascending.0) ∙ ap (λ (l : Outputs). x ∷ l) (put_last xs o ascending.1)

above-take : (k : OutPoint) (n : ℕ) (xs : Outputs) → IsAbove point_cmp point_of k xs → IsAbove point_cmp point_of k (take n xs)
above-take k zero xs above = tt
above-take k (suc n) [] above = tt
above-take k (suc n) (x ∷ xs) above = (above.0, above-take k n xs above.1)

ascends-take : (n : ℕ) (xs : Outputs) → OutputsAscend xs → OutputsAscend (take n xs)
ascends-take zero xs ascending = tt
ascends-take (suc n) [] ascending = tt
ascends-take (suc n) (x ∷ xs) ascending = (above-take x.point n xs ascending.0, ascends-take n xs ascending.1)

pub put_next : (xs : Outputs) (n : ℕ) (d : StartOutput) → OutputsAscend xs → n < length xs → put_output (get_or xs n d).point (get_or xs n d).pay (take n xs) ≡ take (n + 1) xs
put_next xs n d ascending lt =
    let o : StartOutput = get_or xs n d in
    let more : take (n + 1) xs ≡ take n xs ++ o ∷ [] = take_more xs n d lt in
    let order : OutputsAscend (take n xs ++ o ∷ []) = subst OutputsAscend more (ascends-take (n + 1) xs ascending) in
    ap (λ (found : Option StartOutput). cond (is_some found) (take n xs) (put_sorted point_cmp point_of o (take n xs))) (none_there (take n xs) o order)
    ∙ put_last (take n xs) o order ∙ sym more
