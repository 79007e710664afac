-- Steps of loops over what is taken away and put.
use Rattle.std.proofs.Common.{◌≡◌, ◌+◌, ◌<◌, ℕ, Bool, not, cond, List, [], ◌∷◌, length, get_or, drop, filter, refl, sym, ap, ◌∙◌, add-one, drop-cons, subst, ◌≤◌, take}
use Rattle.std.specs.Prelude.{is_some, Result, Ok, Err, OnOk}
use Rattle.std.specs.List.{All}
use Rattle.std.specs.declared.cmp.Ordering.{Ordering}
use Rattle.std.proofs.lemmas.List.{take_all}
use Rattle.dmn_bytes.specs.Points.{point_cmp}
use Rattle.dmn_bytes.specs.declared.hash.Hash256.{Hash256}
use Rattle.dmn_bytes.specs.declared.points.OutPoint.{OutPoint}
use Rattle.dmn_bytes.specs.declared.points.Pay.{Pay}
use Rattle.dmn_indexes.specs.declared.indexes.Indexes.{Indexes}
use Rattle.dmn_indexes.specs.Version.{Keeps}
use Rattle.dmn_rows.specs.declared.row.MnRow.{MnRow}
use Rattle.dmn_rows.specs.declared.start.StartOutput.{StartOutput}
use Rattle.dmn_rows.specs.Keys.{output_key}
use Rattle.dmn_rows.specs.Listing.{OutputsAscend}
use Rattle.dmn_rows.specs.Rows.{Outputs, drop_output, has_point, put_output, put_row}
use Rattle.dmn_rows.specs.Sorted.{put_sorted}
use Rattle.dmn_rows.specs.Start.{point_of}
use Rattle.dmn_rows.proofs.Sorted.{find-dropped}
use Rattle.dmn_restore.specs.Lists.{drop_all, put_all}
use Rattle.dmn_restore.specs.Puts.{MayPut, MayPutAll}
use Rattle.dmn_restore.proofs.Keyed.{put_over, puts_ascend}

pub keeps_none : (ix : Indexes) → Keeps ix ix
keeps_none ix = λ v whole. record { whole = whole; rows = refl; outputs = refl }

-- the value at a place, and those behind it
pub cons_at : {V : Type 0} (xs : List V) (i : ℕ) (d : V) → i < length xs → drop i xs ≡ get_or xs i d ∷ drop (i + 1) xs
cons_at xs i d lt = drop-cons xs i d lt ∙ ap (λ (n : ℕ). get_or xs i d ∷ drop n xs) (sym (add-one i))

-- an output that is put where none has its outpoint any more takes the place of the one that had it
pub set_is_put : (output : StartOutput) (outputs : Outputs) → OutputsAscend outputs → put_output output.point output.pay (drop_output output.point outputs) ≡ put_sorted point_cmp point_of output outputs
set_is_put output outputs ascending =
    ap (λ (b : Bool). cond b (drop_output output.point outputs) (put_sorted point_cmp point_of output (drop_output output.point outputs))) (ap is_some (find-dropped point_cmp point_of has_point output_key output.point outputs))
    ∙ put_over point_cmp point_of has_point output_key (output ∷ []) outputs ascending

-- what stands at a place past the end
abbrev pub no_hash : Hash256
no_hash = record { 0 = [] }

abbrev pub no_point : OutPoint
no_point = record { hash = no_hash; index = 0 }

abbrev pub no_pay : Pay
no_pay = record { kind = 0; hash = [] }

abbrev pub no_output : StartOutput
no_output = record { point = no_point; pay = no_pay }

abbrev pub no_row : MnRow
no_row = record { hash = no_hash; confirmed = no_hash; registered = 0; last_paid = 0; revived = 0; banned = 0; penalty = 0; penalty_at = 0; reason = 0; owner = []; operator = []; voting = []; service = record { address = []; port = 0 }; payout = no_pay; operator_payout = no_pay; reward = 0; collateral = no_point; script = no_pay }

-- one more is taken away
pub drop_step : {K V : Type 0} (has : K → V → Bool) (ks : List K) (i : ℕ) (d : K) (list next all : List V) → i < length ks → next ≡ filter (λ v. not (has (get_or ks i d) v)) list → drop_all has (drop i ks) list ≡ all → drop_all has (drop (i + 1) ks) next ≡ all
drop_step {K = K} has ks i d list next all lt is before =
    ap (drop_all has (drop (i + 1) ks)) is ∙ ap (λ (l : List K). drop_all has l list) (sym (cons_at ks i d lt)) ∙ before

-- one more is put
pub put_step : {K V : Type 0} (cmp : K → K → Ordering) (key : V → K) (vs : List V) (i : ℕ) (d : V) (list next all : List V) → i < length vs → next ≡ put_sorted cmp key (get_or vs i d) list → put_all cmp key (drop i vs) list ≡ all → put_all cmp key (drop (i + 1) vs) next ≡ all
put_step {V = V} cmp key vs i d list next all lt is before =
    ap (put_all cmp key (drop (i + 1) vs)) is ∙ ap (λ (l : List V). put_all cmp key l list) (sym (cons_at vs i d lt)) ∙ before

-- the next one may be put, and those behind it
pub may_step : (height : ℕ) (vs : List MnRow) (i : ℕ) (d : MnRow) (rows : List MnRow) → i < length vs → MayPutAll height (drop i vs) rows → MayPut height (get_or vs i d) rows × MayPutAll height (drop (i + 1) vs) (put_row (get_or vs i d) rows)
may_step height vs i d rows lt may = subst (λ (l : List MnRow). MayPutAll height l rows) (cons_at vs i d lt) may

pub set_ascends : {V E : Type 0} (result : Result V E) (output : StartOutput) (outputs less next : Outputs) → OutputsAscend outputs → less ≡ drop_output output.point outputs → OnOk result (next ≡ put_output output.point output.pay less) → OnOk result (OutputsAscend next)
set_ascends (Ok v) output outputs less next ascending is put =
    subst OutputsAscend (sym (put ∙ ap (put_output output.point output.pay) is ∙ set_is_put output outputs ascending)) (puts_ascend point_cmp point_of has_point output_key (output ∷ []) outputs ascending)
set_ascends (Err e) output outputs less next ascending is put = tt

-- what holds of as many as there are holds of all
pub all_taken : {V : Type 0} (P : V → Type 0) (xs : List V) (n : ℕ) → length xs ≤ n → All P (take n xs) → All P xs
all_taken P xs n le all = subst (All P) (take_all n xs le) all
