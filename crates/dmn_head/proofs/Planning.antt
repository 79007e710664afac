-- The plan of a head, from what the parser found.
use Rattle.std.proofs.Common.{◌≡◌, ℕ, ◌≤◌, List, [], length, take, drop, map, ap, arith, inl, subst}
use Rattle.std.proofs.lemmas.List.{length-map, length-take, drop_all}
use Rattle.httparse.specs.Grammar.{RequestHead, ReadsRequest}
use Rattle.httparse.specs.Spans.{IsRequestAt, span_bytes, header_bytes, name_and_value}
use Rattle.httparse.specs.declared.spans.HeaderSpan.{HeaderSpan}
use Rattle.httparse.specs.declared.spans.RequestSpans.{RequestSpans}
use Rattle.dmn_head.specs.declared.plan.Plan.{Plan}
use Rattle.dmn_head.specs.Wants.{FieldsPlan, HeadPlan}

few_fields : (head : List ℕ) (headers : List HeaderSpan) (count : ℕ) (h : RequestHead) → length headers ≡ 32 → map (header_bytes head) (take count headers) ≡ map name_and_value h.fields → length h.fields ≤ 32
few_fields head headers count h room e = omega (arith, ap length e, length-map (take count headers) (header_bytes head), length-map h.fields name_and_value, length-take count headers, room)

whole : (head : List ℕ) (n : ℕ) (h : RequestHead) → n ≡ length head → ReadsRequest head h (drop n head) → ReadsRequest head h []
whole head n h e reads = let P : List ℕ → Type 0 = λ rest. ReadsRequest head h rest in subst P (drop_all n head (omega (arith, e))) reads

pub head_plan : (head : List ℕ) (headers : List HeaderSpan) (spans : RequestSpans) (h : RequestHead) (plan : Plan) → length headers ≡ 32 → spans.len ≡ length head → IsRequestAt head headers spans h → FieldsPlan (span_bytes head spans.method) (span_bytes head spans.path) (map (header_bytes head) (take spans.headers headers)) plan → HeadPlan head plan
head_plan head headers spans h plan room len at found =
    inl (
      h,
      record { reads = whole head spans.len h len at.reads; few = few_fields head headers spans.headers h room at.fields },
      rw (at.method, at.path, at.fields) at found,
    )
