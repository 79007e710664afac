-- A client's list is that of replay.
use Rattle.std.proofs.Common.{◌≡◌, ℕ, Bool, true, false, cond, List, [], ap, subst, ◌∙◌}
use Rattle.std.specs.Prelude.{Some, Ok}
use Rattle.std.proofs.lemmas.List.Elements.{recursion_from_All}
use Rattle.dmn_block.specs.declared.frame.BlockFrame.{BlockFrame}
use Rattle.dmn_block.specs.State.{State}
use Rattle.dmn_bytes.specs.declared.hash.Hash256.{Hash256}
use Rattle.dmn_bytes.specs.Law.{IsBytes}
use Rattle.dmn_bytes.specs.Points.{is_zero}
use Rattle.dmn_client.specs.Headers.{header_root}
use Rattle.dmn_client.specs.Sound.{HasList, RowFits, root_of_txs}
use Rattle.dmn_client.specs.Step.{ClientState, EntriesFit, base_list, client_step, new_client}
use Rattle.dmn_client.proofs.Accepted.{AcceptedText, accepted}
use Rattle.dmn_client.proofs.Fits.{next_fits}
use Rattle.dmn_client.proofs.Simple.{has_rows}
use Rattle.dmn_client.proofs.SoundList.{sound_step}
use Rattle.dmn_diff.specs.declared.diff.Diff.{Diff}
use Rattle.dmn_diff.proofs.Steps.{put_ascends}
use Rattle.dmn_rows.specs.declared.start.StartRecord.{StartRecord}
use Rattle.dmn_sml.specs.declared.entry.SmlEntry.{SmlEntry}
use Rattle.dmn_sml.specs.Defs.{IsAscending, simple}
use Rattle.dmn_light_laws.specs.Sound.{IsSoundBehind, KeepsList}
use Rattle.dmn_light_laws.proofs.History.{behind_good}

pub sound_behind : (start : StartRecord) (blocks : List BlockFrame) (block : BlockFrame) (state : State) (old new : ClientState) (text : List ℕ) → IsSoundBehind start blocks block state old text new
sound_behind start blocks block state old new text bodies behind bytes keeps step held header =
    let good = behind_good start blocks block state bodies behind in
    let has : HasList block.txs (simple state.rows) = has_rows block.txs state.rows good.1.fits good.1.told good.0.rows.ascends (recursion_from_All RowFits state.rows good.0.rows.fits) in
    let root : header_root new.held old.headers ≡ Some (root_of_txs block.txs) = ap (λ (h : Hash256). header_root h old.headers) held ∙ header ∙ ap (λ (r : Hash256). Some r) good.1.root in
    sound_step old new text block.txs (simple state.rows) bytes keeps.fits keeps.ascends step root has

-- ---- what clients keep

pub keeps_first : KeepsList new_client
keeps_first = record { ascends = tt; fits = tt }

base_ascends : (list : List SmlEntry) (d : Diff) → IsAscending list → IsAscending (base_list list d)
base_ascends list d ascends = elim (is_zero d.base.0) as (λ (b : Bool). IsAscending (cond b [] list)) [ true ↦ tt | false ↦ ascends ]

pub keeps_next : (old new : ClientState) (text : List ℕ) → IsBytes text → KeepsList old → client_step old text ≡ Ok new → KeepsList new
keeps_next old new text bytes keeps step =
    let a : AcceptedText old new text = accepted old new text bytes step in
    record {
      ascends = subst (λ (l : List SmlEntry). IsAscending l) a.says.list (put_ascends a.d.entries (base_list old.list a.d) a.d.deleted (base_ascends old.list a.d keeps.ascends));
      fits = subst (λ (l : List SmlEntry). EntriesFit l) a.says.list (next_fits old.list a.d a.is.0 keeps.fits);
    }
