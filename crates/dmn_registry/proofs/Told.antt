-- What an audit tells, by rows that a branch lends.
use Rattle.std.proofs.Common.{◌≡◌, ℕ, suc, ◌≤◌, cond, true, false, List, [], ◌∷◌, length, refl, sym, ap, subst, ◌∙◌, arith}
use Rattle.std.proofs.lemmas.List.{length-map}
use Rattle.std.specs.Prelude.{◌==◌, Option, None, Some, Result, Ok, Err, filter, not}
use Rattle.dmn_block.specs.State.{State}
use Rattle.dmn_branch.specs.Asked.{Lends, Lent}
use Rattle.dmn_branch.specs.Machine.{history, rows_of, state_at, tip}
use Rattle.dmn_branch.specs.Step.{most_rows}
use Rattle.dmn_journal.specs.declared.fault.JournalFault.{JournalFault}
use Rattle.dmn_journal.specs.declared.fault.JournalFault.TheVariants.{DiskFault, Memory, NotJournal}
use Rattle.dmn_outside.specs.Crashes.{IsKnown}
use Rattle.dmn_outside.specs.Disk.{Told, contents, nothing, whole}
use Rattle.dmn_registry.specs.Audits.{Audits, AuditsOwn, audit_of, is_banned, rows_now}
use Rattle.dmn_registry.specs.Machine.{Machine, at_rest, state_of}
use Rattle.dmn_registry.specs.Opening.{Replays}
use Rattle.dmn_registry.specs.Own.{IsJournal, IsOwn, StandsFor}
use Rattle.dmn_registry.specs.declared.registry.Registry.{Registry}
use Rattle.dmn_registry.specs.declared.auditing.Audit.{Audit}
use Rattle.dmn_registry.proofs.Once.{journal_once, known_departs}
use Rattle.dmn_rows.specs.Row.{plain}
use Rattle.dmn_rows.specs.Rows.{plain_rows}
use Rattle.dmn_rows.specs.declared.row.MnRow.{MnRow}
use Rattle.dmn_sml.specs.Defs.{root_of, simple}

-- ---- rows as they are stored

-- no penalty bans
banned_plain : (height : ℕ) (rows : List MnRow) → length (filter is_banned (plain_rows height rows)) ≡ length (filter is_banned rows)
banned_plain height [] = refl
banned_plain height (row ∷ rows) =
    let rest = banned_plain height rows in
    elim (row.banned == 0) as (λ b. length (cond (not b) (plain height row ∷ filter is_banned (plain_rows height rows)) (filter is_banned (plain_rows height rows))) ≡ length (cond (not b) (row ∷ filter is_banned rows) (filter is_banned rows))) [
      | true ↦ rest
      | false ↦ ap suc rest
    ]

record IsTold (lent : Lent) (rows : List MnRow) : Type 0 where
  size : lent.size ≡ length rows
  long : length lent.rows ≡ length rows
  banned : length (filter is_banned lent.rows) ≡ length (filter is_banned rows)
  root : lent.root ≡ root_of (simple rows)

is_told : (found : Option State) (lent : Lent) → Lends lent found → IsTold lent (rows_of found)
is_told None lent lends = absurd lends
is_told (Some state) lent lends = record {
  size = lends.size;
  long = sym (length-map lent.rows (plain state.height)) ∙ ap length lends.rows;
  banned = sym (banned_plain state.height lent.rows) ∙ ap (λ (l : List MnRow). length (filter is_banned l)) lends.rows;
  root = lends.root;
}

pub few_told : (found : Option State) (lent : Lent) → Lends lent found → lent.size ≤ most_rows → length lent.rows ≤ most_rows
few_told found lent lends few = let t = is_told found lent lends in omega (arith, few, t.size, t.long)

pub audit_is : (m : Machine) (height banned records : ℕ) (lent : Lent) → height ≡ (tip (state_of m)).height → Lends lent (state_at (state_of m) height) → banned ≡ length (filter is_banned lent.rows) → records ≡ length m.commands
    → record { height = height; rows = lent.size; banned = banned; root = lent.root; records = records } ≡ audit_of m
audit_is m height banned records lent is lends counted more =
    let t : IsTold lent (rows_now m) = is_told (state_at (state_of m) (tip (state_of m)).height) lent (subst (λ (h : ℕ). Lends lent (state_at (state_of m) h)) is lends) in
    let all = counted ∙ t.banned in
    λ i. record { height = is i; rows = t.size i; banned = all i; root = t.root i; records = more i }

-- ---- what replay leads to

pub audits : (registry : Registry) (audit : Audit) (told : Told) → Replays (Ok registry) told → ((m : Machine) → StandsFor registry m → audit ≡ audit_of m) → Audits (Ok audit) told
audits registry audit told replays is = (at_rest replays.0, is (at_rest replays.0) replays.1, replays.2)

pub no_audit : (fault : JournalFault) (told : Told) → Replays (Err fault) told → Audits (Err fault) told
no_audit (NotJournal place) told replays = replays
no_audit DiskFault told replays = tt
no_audit Memory told replays = tt

-- ---- own images

-- pins change nothing of what is told
audit_rests : (m : Machine) → audit_of (at_rest m) ≡ audit_of m
unfolding history
audit_rests m = refl

audit_once : (m n : Machine) (file : List ℕ) → IsJournal m file → IsJournal n file → audit_of n ≡ audit_of m
audit_once m n file one two = sym (audit_rests n) ∙ ap audit_of (journal_once n m file two one) ∙ audit_rests m

pub known_audits : (r : Result Audit JournalFault) (m : Machine) (told : Told) → IsKnown (IsOwn m) told → Audits r told → AuditsOwn r m
known_audits (Ok audit) m nothing known audits = absurd known
known_audits (Ok audit) m (contents c) known audits = audits.1 ∙ audit_once m audits.0 c.zeroth known.file audits.2
known_audits (Ok audit) m (whole w) known audits = audits.1 ∙ audit_once m audits.0 w.files.zeroth.reads known.0.file audits.2
known_audits (Err (NotJournal place)) m told known audits = known_departs m told place known audits
known_audits (Err DiskFault) m told known audits = tt
known_audits (Err Memory) m told known audits = tt
