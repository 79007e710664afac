-- The routes: twelve paths, part by part, and what each asks for.
use Rattle.std.specs.Prelude.{◌≡◌, ◌≢◌, ◌⊎◌, ℕ, List, [], ◌∷◌, ◌++◌, Option, Some, None, codes}
use Rattle.std.specs.Str.{IsAscii}
use Rattle.dmn_head.specs.declared.target.Target.{Target}
use Rattle.dmn_head.specs.declared.target.Target.TheVariants as targets
use Rattle.dmn_head.specs.Values.{NoSlash}

-- a part of a path: this word, or any value
pub data Part : Type 0 where
  word : List ℕ → Part
  value : Part

-- the parts of each path
abbrev pub parts_of : Target → List Part
parts_of targets.Tip = word (codes "tip") ∷ []
parts_of targets.List = word (codes "list") ∷ value ∷ []
parts_of targets.Row = word (codes "row") ∷ value ∷ value ∷ []
parts_of targets.Payees = word (codes "payees") ∷ value ∷ value ∷ []
parts_of targets.Members = word (codes "members") ∷ value ∷ value ∷ []
parts_of targets.Quorums = word (codes "quorums") ∷ value ∷ []
parts_of targets.Diff = word (codes "diff") ∷ value ∷ value ∷ []
parts_of targets.Block = word (codes "block") ∷ []
parts_of targets.Disconnect = word (codes "disconnect") ∷ value ∷ []
parts_of targets.Pin = word (codes "pin") ∷ value ∷ []
parts_of targets.Page = word (codes "page") ∷ value ∷ value ∷ value ∷ []
parts_of targets.Release = word (codes "release") ∷ value ∷ []

-- The path is these parts, each behind a slash. A value is one byte or more, and no slash is in it.
abbrev pub HasParts : List Part → List ℕ → Type 0
HasParts [] path = path ≡ []
HasParts (word w ∷ more) path = (rest : List ℕ) × (path ≡ 47 ∷ (w ++ rest)) × HasParts more rest
HasParts (value ∷ more) path = (v rest : List ℕ) × (path ≡ 47 ∷ (v ++ rest)) × (v ≢ []) × NoSlash v × HasParts more rest

-- what a path asks for: the route whose parts it has, where it is ASCII and there is one
abbrev pub Routed : List ℕ → Option Target → Type 0
Routed path (Some target) = IsAscii path × HasParts (parts_of target) path
Routed path None = (¬ (IsAscii path)) ⊎ ((target : Target) → ¬ (HasParts (parts_of target) path))
