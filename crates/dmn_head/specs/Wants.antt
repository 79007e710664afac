-- What a request's head asks for, by the first check that it fails.
use Rattle.std.specs.Prelude.{◌≡◌, ◌≢◌, ◌⊎◌, ℕ, ◌≤◌, Bool, true, false, List, [], ◌∷◌, length, drop, map, Option, Some, None, codes, option_map, option_and_then, MatchBool, MatchOption}
use Rattle.httparse.specs.Grammar.{RequestHead, ReadsRequest}
use Rattle.httparse.specs.Spans.{name_and_value}
use Rattle.dmn_bytes.specs.declared.hash.Hash256.{Hash256}
use Rattle.dmn_desk.specs.declared.request.Request.{Request}
use Rattle.dmn_desk.specs.declared.request.Request.TheVariants as requests
use Rattle.dmn_desk.specs.Requests.{IsRequest}
use Rattle.dmn_head.specs.declared.target.Target.{Target}
use Rattle.dmn_head.specs.declared.target.Target.TheVariants as targets
use Rattle.dmn_head.specs.declared.fault.HttpFault.TheVariants as faults
use Rattle.dmn_head.specs.declared.fields.Size.{Size}
use Rattle.dmn_head.specs.declared.fields.Size.TheVariants as sizes
use Rattle.dmn_head.specs.declared.plan.Plan.{Plan}
use Rattle.dmn_head.specs.declared.plan.Plan.TheVariants as plans
use Rattle.dmn_head.specs.Routes.{Routed}
use Rattle.dmn_head.specs.Values.{NumberIs, HashIs, CutAtSlash}
use Rattle.dmn_head.specs.Fields.{values_of, SizeIs, body_limit}

abbrev pub most8 : ℕ
most8 = 255

abbrev pub most16 : ℕ
most16 = 65535

abbrev pub most32 : ℕ
most32 = 4294967295

abbrev pub both : {A B : Type 0} → (A → B → Request) → Option A → Option B → Option Request
both make x y = option_and_then (λ a. option_map (make a) y) x

-- the request that a path of this route asks for by its values: none where a value is not in its form
abbrev pub ReadsPath : Target → List ℕ → Option Request → Type 0
ReadsPath targets.Tip path q = q ≡ Some requests.Tip
ReadsPath targets.Block path q = q ≡ None
ReadsPath targets.List path q = (height : Option ℕ) × NumberIs most32 (drop 6 path) height × (q ≡ option_map (λ n. requests.List n) height)
ReadsPath targets.Quorums path q = (height : Option ℕ) × NumberIs most32 (drop 9 path) height × (q ≡ option_map (λ n. requests.Quorums n) height)
ReadsPath targets.Pin path q = (height : Option ℕ) × NumberIs most32 (drop 5 path) height × (q ≡ option_map (λ n. requests.Pin n) height)
ReadsPath targets.Release path q = (pin : Option ℕ) × NumberIs most32 (drop 9 path) pin × (q ≡ option_map (λ n. requests.Release n) pin)
ReadsPath targets.Disconnect path q = (hash : Option Hash256) × HashIs (drop 12 path) hash × (q ≡ option_map (λ h. requests.Disconnect h) hash)
ReadsPath targets.Row path q = (first second : List ℕ) × CutAtSlash (drop 5 path) first second × (height : Option ℕ) × NumberIs most32 first height × (hash : Option Hash256) × HashIs second hash × (q ≡ both (λ n h. requests.Row n h) height hash)
ReadsPath targets.Payees path q = (first second : List ℕ) × CutAtSlash (drop 8 path) first second × (height : Option ℕ) × NumberIs most32 first height × (n : Option ℕ) × NumberIs most16 second n × (q ≡ both (λ h m. requests.Payees h m) height n)
ReadsPath targets.Members path q = (first second : List ℕ) × CutAtSlash (drop 9 path) first second × (kind : Option ℕ) × NumberIs most8 first kind × (height : Option ℕ) × NumberIs most32 second height × (q ≡ both (λ k h. requests.Members k h) kind height)
ReadsPath targets.Diff path q = (first second : List ℕ) × CutAtSlash (drop 6 path) first second × (base : Option Hash256) × HashIs first base × (target : Option Hash256) × HashIs second target × (q ≡ both (λ b t. requests.Diff b t) base target)
ReadsPath targets.Page path q = (first others second third : List ℕ) × CutAtSlash (drop 6 path) first others × CutAtSlash others second third × (pin : Option ℕ) × NumberIs most32 first pin × (from : Option ℕ) × NumberIs most32 second from × (n : Option ℕ) × NumberIs most16 third n × (q ≡ option_and_then (λ p. both (λ f m. requests.Page p f m) from n) pin)

-- a request, or a path whose values are not in their form
abbrev pub asked : Option Request → Plan
asked (Some q) = plans.Ask q
asked None = plans.Refuse faults.BadPath

abbrev pub sized : Size → Plan
sized (sizes.Of size) = plans.Body size
sized sizes.TooLong = plans.Refuse faults.BodyTooLong
sized sizes.NoNumber = plans.Refuse faults.Length

-- a body, by the values of Content-Length
abbrev pub BodyPlan : List (List ℕ) → Plan → Type 0
BodyPlan [] plan = plan ≡ plans.Refuse faults.Length
BodyPlan (value ∷ []) plan = (size : Size) × SizeIs value size × (plan ≡ sized size)
BodyPlan (value ∷ other ∷ more) plan = plan ≡ plans.Refuse faults.Length

abbrev pub is_block : Target → Bool
is_block targets.Tip = false
is_block targets.List = false
is_block targets.Row = false
is_block targets.Payees = false
is_block targets.Members = false
is_block targets.Quorums = false
is_block targets.Diff = false
is_block targets.Block = true
is_block targets.Disconnect = false
is_block targets.Pin = false
is_block targets.Page = false
is_block targets.Release = false

abbrev pub method_of : Target → List ℕ
method_of targets.Tip = codes "GET"
method_of targets.List = codes "GET"
method_of targets.Row = codes "GET"
method_of targets.Payees = codes "GET"
method_of targets.Members = codes "GET"
method_of targets.Quorums = codes "GET"
method_of targets.Diff = codes "GET"
method_of targets.Block = codes "POST"
method_of targets.Disconnect = codes "POST"
method_of targets.Pin = codes "POST"
method_of targets.Page = codes "GET"
method_of targets.Release = codes "POST"

-- checks 6 to 8: the path's values, or the length of the body
abbrev pub TargetPlan : Target → List ℕ → List (List ℕ × List ℕ) → Plan → Type 0
TargetPlan target path fields plan = MatchBool (is_block target) (BodyPlan (values_of (codes "content-length") fields) plan)
    ((q : Option Request) × ReadsPath target path q × (plan ≡ asked q))

-- check 5: the method
abbrev pub MethodPlan : Target → List ℕ → List ℕ → List (List ℕ × List ℕ) → Plan → Type 0
MethodPlan target method path fields plan = ((method ≡ method_of target) × TargetPlan target path fields plan) ⊎ ((method ≢ method_of target) × (plan ≡ plans.Refuse faults.Method))

-- check 4: the route
abbrev pub RoutePlan : List ℕ → List ℕ → List (List ℕ × List ℕ) → Plan → Type 0
RoutePlan method path fields plan = (target : Option Target) × Routed path target × MatchOption target (plan ≡ plans.Refuse faults.NoRoute) (λ t. MethodPlan t method path fields plan)

-- check 3: no Transfer-Encoding
abbrev pub FieldsPlan : List ℕ → List ℕ → List (List ℕ × List ℕ) → Plan → Type 0
FieldsPlan method path fields plan = ((values_of (codes "transfer-encoding") fields ≡ []) × RoutePlan method path fields plan) ⊎ ((values_of (codes "transfer-encoding") fields ≢ []) × (plan ≡ plans.Refuse faults.Encoding))

-- the bytes are, whole, a request head of the grammar of the kit's `httparse`, with at most 32 fields
pub record IsHead (bytes : List ℕ) (h : RequestHead) : Type 0 where
  pub reads : ReadsRequest bytes h []
  pub few : length h.fields ≤ 32

-- check 2 and those behind it
abbrev pub HeadPlan : List ℕ → Plan → Type 0
HeadPlan bytes plan = ((h : RequestHead) × IsHead bytes h × FieldsPlan h.method h.target (map name_and_value h.fields) plan) ⊎ (((h : RequestHead) → ¬ (IsHead bytes h)) × (plan ≡ plans.Refuse faults.BadHead))

-- a request keeps what is asked of one, and a body is not longer than is read
abbrev pub IsPlan : Plan → Type 0
IsPlan (plans.Refuse fault) = Unit {0}
IsPlan (plans.Ask request) = IsRequest request
IsPlan (plans.Body size) = size ≤ body_limit
