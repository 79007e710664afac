-- One height more is held, and those below the lowest one are held no longer.
use Rattle.std.proofs.Common.{◌≡◌, ℕ, ◌+◌, ◌-◌, ◌≤◌, max, List, [], ◌∷◌, ◌++◌, length, drop, map, refl, sym, ap, ◌∙◌, subst, arith}
use Rattle.std.proofs.lemmas.List.{drop-map, map-append}
use Rattle.dmn_indexes.specs.declared.indexes.Indexes.{Indexes}
use Rattle.dmn_indexes.specs.Marks.{marks_of}
use Rattle.dmn_indexes.specs.Version as versions
use Rattle.dmn_rows.specs.declared.profile.Profile.{Profile}
use Rattle.dmn_branch.specs.declared.held.Held.{Held}
use Rattle.dmn_branch.specs.Stands.{AreSound, IsKept, IsWhole, kept_in, lists_in, low_of}
use Rattle.dmn_branch.proofs.Holding.{drop_on, lists_from, lists_length, push_on}
use Rattle.dmn_branch.proofs.Standing.{kept_more, low_up}

-- what is held then, from the new lowest height on
pub record IsMore (profile : Profile) (first top more : ℕ) (ix : Indexes) (held new : List Held) (next : Held) : Type 0 where
  pub kept : IsKept profile first more (lists_in ix (low_of profile first more) new)
  pub sound : AreSound ix (low_of profile first more) new
  pub lists : lists_in ix (low_of profile first more) new
      ≡ drop (low_of profile first more - low_of profile first top) (lists_in ix (low_of profile first top) held ++ kept_in ix (low_of profile first top + length (lists_in ix (low_of profile first top) held)) next ∷ [])
  pub coinbases : map (λ (h : Held). h.coinbase) new ≡ drop (low_of profile first more - low_of profile first top) (map (λ (h : Held). h.coinbase) held ++ next.coinbase ∷ [])

module _ (profile : Profile) (first top : ℕ) (ix : Indexes) (held : List Held) (next : Held) (kept : IsKept profile first top (lists_in ix (low_of profile first top) held)) (sound : AreSound ix (low_of profile first top) held) where
  more_at : versions.IsWhole ix next.version → next.marks ≡ marks_of ix → IsWhole (kept_in ix (low_of profile first top + length (lists_in ix (low_of profile first top) held)) next)
      → IsMore profile first top (max top (low_of profile first top + length (lists_in ix (low_of profile first top) held))) ix held
      (drop (low_of profile first (max top (low_of profile first top + length (lists_in ix (low_of profile first top) held))) - low_of profile first top) (held ++ next ∷ [])) next
  more_at version marks whole =
      let low = low_of profile first top in
      let all = lists_in ix low held in
      let height = low + length all in
      let more = low_of profile first (max top height) in
      let n = more - low in
      let same = lists_length ix low held in
      let up : low ≤ more = low_up (first - 1) profile.kept top height in
      let back : low + n ≡ more = omega (arith, up) in
      let lists : lists_in ix more (drop n (held ++ next ∷ [])) ≡ drop n (all ++ kept_in ix height next ∷ []) =
      ap (λ (m : ℕ). lists_in ix m (drop n (held ++ next ∷ []))) (sym back) ∙ lists_from ix low n held next ∙ ap (λ (m : ℕ). drop n (all ++ kept_in ix (low + m) next ∷ [])) (sym same) in
      record {
        kept = subst (IsKept profile first (max top height)) (sym lists) (kept_more profile first top all (kept_in ix height next) kept refl);
        sound = subst (λ (m : ℕ). AreSound ix m (drop n (held ++ next ∷ []))) back
            (drop_on low n (held ++ next ∷ []) (push_on low held next version marks (subst (λ (m : ℕ). IsWhole (kept_in ix (low + m) next)) same whole) sound));
        lists = lists;
        coinbases = sym (drop-map (λ (h : Held). h.coinbase) n (held ++ next ∷ [])) ∙ ap (drop n) (map-append (λ (h : Held). h.coinbase) held (next ∷ []));
      }

  pub more_on : (more : ℕ) (new : List Held) → more ≡ max top (low_of profile first top + length (lists_in ix (low_of profile first top) held)) → new ≡ drop (low_of profile first more - low_of profile first top) (held ++ next ∷ [])
      → versions.IsWhole ix next.version → next.marks ≡ marks_of ix → IsWhole (kept_in ix (low_of profile first top + length (lists_in ix (low_of profile first top) held)) next) → IsMore profile first top more ix held new next
  more_on more new up items version marks whole =
      subst (λ (l : List Held). IsMore profile first top more ix held l next) (sym items)
      (subst (λ (t : ℕ). IsMore profile first top t ix held (drop (low_of profile first t - low_of profile first top) (held ++ next ∷ [])) next) (sym up) (more_at version marks whole))
