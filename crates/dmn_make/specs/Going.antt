-- The machine and the pages behind each step of a run, with so many masternodes in all.
use Rattle.std.specs.Prelude.{ℕ, ◌+◌, ◌==◌, List, [], ◌∷◌, ◌++◌, Option, None, Some, if◌then◌else◌}
use Rattle.std.specs.List.{flat_map}
use Rattle.dmn_branch.specs.Machine.{formed, tip}
use Rattle.dmn_bytes.specs.declared.hash.Hash256.{Hash256}
use Rattle.dmn_desk.specs.Ask.{answer_of, ask}
use Rattle.dmn_desk.specs.declared.answer.Answer.{Answer}
use Rattle.dmn_desk.specs.declared.answer.Answer.TheVariants.{Grown, Short}
use Rattle.dmn_desk.specs.declared.answer.GrownAnswer.TheVariants as grown
use Rattle.dmn_desk.specs.declared.answer.ShortAnswer.TheVariants as short
use Rattle.dmn_desk.specs.declared.request.Request.{Request}
use Rattle.dmn_desk.specs.declared.request.Request.TheVariants as requests
use Rattle.dmn_generator.specs.Blocks.{body_of, start}
use Rattle.dmn_generator.specs.Masternodes.{no_hash}
use Rattle.dmn_generator.specs.Tags.{tag}
use Rattle.dmn_generator.specs.declared.blocks.Place.{Place}
use Rattle.dmn_journal.specs.declared.limits.TheConstants.{CONNECT}
use Rattle.dmn_quorums.specs.Forming.{Formed}
use Rattle.dmn_registry.specs.Machine.{Machine, begun, state_of}
use Rattle.dmn_rows.specs.declared.rule.Rule.{Rule}
use Rattle.dmn_rows.specs.declared.rule.Rule.TheVariants.{CbRoot}
use Rattle.dmn_sml.specs.Entry.{entry}
use Rattle.dmn_make.specs.Steps.{all_steps, name_of}
use Rattle.dmn_make.specs.declared.step.Chain.{Chain}
use Rattle.dmn_make.specs.declared.step.Step.{Step}
use Rattle.dmn_make.specs.declared.step.Step.TheVariants.{Add, Pin, TakeBack, Tell}

pub record Going : Type 0 where
  pub machine : Machine
  -- the texts of the entries of all pages so far
  pub pages : List ℕ

-- the start record of the stream, and no command
abbrev pub beginning : Going
beginning = record { machine = begun start; pages = [] }

-- ---- blocks

-- what is known of each type's quorum for a block at a height, where that is the next one
unfoldable pub formed_for : Machine → ℕ → List Formed
formed_for m height = if height == (tip (state_of m)).height + 1 then formed (state_of m) else []

-- the block of a height stands behind the tip
abbrev pub place_of : Chain → Machine → ℕ → Place
place_of chain m height = record { height = height; hash = tag (name_of chain) height; prev = (tip (state_of m)).hash }

-- the answer to the request with this body that adds a block, and the machine after it
abbrev pub added : List ℕ → Machine → Answer × Machine
added body m = answer_of m CONNECT body

-- Rule 84 tells the root that the list has.
abbrev pub root_by : Rule → Option Hash256
root_by (CbRoot committed computed) = Some computed
root_by rule = None

abbrev pub right_root : Answer → Option Hash256
right_root (Short (short.Refused refusal)) = root_by refusal.rule
right_root answer = None

-- once more, with the right root, where it was told
abbrev pub settled : (Hash256 → List ℕ) → Machine → Option Hash256 → Machine → Machine
settled body m None n = n
settled body m (Some root) n = (added (body root) m).1

-- A block is added by its body for a root of the list. The right one is zero, or it is told by the refusal of zero. A block that is
-- refused for another reason is passed over.
unfoldable pub with_root : (Hash256 → List ℕ) → Machine → Machine
with_root body m = let first = added (body no_hash) m in settled body m (right_root first.0) first.1

-- the block of a height is added
unfoldable pub with_block : ℕ → Chain → ℕ → Machine → Machine
with_block count chain height m = with_root (body_of count (place_of chain m height) (formed_for m height)) m

-- ---- other steps

-- to take the last block back
abbrev pub taking_back : Machine → Request
taking_back m = requests.Disconnect (tip (state_of m)).hash

-- as many entries a page has
abbrev pub per_page : ℕ
per_page = 100

-- a page of the pin that has the number 1
abbrev pub telling : ℕ → Request
telling from = requests.Page 1 from per_page

-- the texts of a page's entries, joined
abbrev pub page_text : Answer → List ℕ
page_text (Grown (grown.Page entries)) = flat_map entry.text entries
page_text answer = []

-- what is refused is passed over
unfoldable pub after : ℕ → Step → Going → Going
after count (Add chain height) g = record g { machine = with_block count chain height g.machine }
after count TakeBack g = record g { machine = (ask g.machine (taking_back g.machine)).1 }
after count (Pin height) g = record g { machine = (ask g.machine (requests.Pin height)).1 }
after count (Tell from) g = record g { pages = g.pages ++ page_text (ask g.machine (telling from)).0 }

-- behind these steps, one after another
abbrev pub after_all : ℕ → List Step → Going → Going
after_all count [] g = g
after_all count (step ∷ steps) g = after_all count steps (after count step g)

-- behind all steps
unfoldable pub made : ℕ → Going
made count = after_all count all_steps beginning
