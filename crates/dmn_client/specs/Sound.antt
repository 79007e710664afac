-- What an accepted diff says of the client's list, and which diffs are accepted: over lists and a block's transactions.
use Rattle.std.specs.Prelude.{◌≡◌, ℕ, ◌<◌, ◌^◌, length, ◌⊎◌, List, [], ◌∷◌, ◌++◌, map, Option, Some, None, Ok, MatchBool}
use Rattle.std.specs.List.{AllByRecursion}
use Rattle.dmn_bytes.specs.declared.hash.Hash256.{Hash256}
use Rattle.dmn_bytes.specs.Law.{IsBytes}
use Rattle.dmn_bytes.specs.Points.{is_zero}
use Rattle.dmn_merkle.specs.Branch.{ProvesFirst}
use Rattle.dmn_client.specs.Collision.{Collision, ZeroText, hashed_of_proof, hashed_of_list}
use Rattle.dmn_merkle.specs.Defs.{merkle_root}
use Rattle.dmn_rows.specs.declared.row.MnRow.{MnRow}
use Rattle.dmn_rows.specs.Listing.{IsAscending as RowsAscend}
use Rattle.dmn_sml.specs.declared.entry.SmlEntry.{SmlEntry}
use Rattle.dmn_sml.specs.Defs.{IsAscending, root_of, simple}
use Rattle.dmn_sml.specs.Entry.{entry}
use Rattle.dmn_tx.specs.declared.tx.Tx.{Tx}
use Rattle.dmn_tx.specs.Defs.{id_of, tx_text}
use Rattle.dmn_tx.specs.Tx.{tx}
use Rattle.dmn_diff.specs.Change.{gone, fresh}
use Rattle.dmn_diff.specs.Defs.{IsDiff, IsDiffText, diff_text}
use Rattle.dmn_diff.specs.declared.diff.Diff.{Diff}
use Rattle.dmn_client.specs.Headers.{header_root}
use Rattle.dmn_client.specs.Coinbase.{committed_of}
use Rattle.dmn_client.specs.Step.{ClientState, EntriesFit, client_step}

-- the root of a block's transactions
abbrev pub root_of_txs : List Tx → Hash256
root_of_txs txs = merkle_root (map id_of txs)

-- the root that a block's first transaction tells
abbrev pub told_by : List Tx → Option Hash256
told_by [] = None
told_by (t ∷ txs) = committed_of t

-- a block with these transactions, each of which has a text, whose coinbase tells the root of this list
pub record HasList (txs : List Tx) (list : List SmlEntry) : Type 0 where
  pub txs_fit : AllByRecursion tx.Fits txs
  pub tells : told_by txs ≡ Some (root_of list)
  pub ascends : IsAscending list
  pub entries_fit : EntriesFit list

-- ---- what is hashed

-- the texts of a list's entries, and the pairs of its root
abbrev pub hashed_of_entries : List SmlEntry → List (List ℕ)
hashed_of_entries list = hashed_of_list (map entry.text list)

-- the coinbase's text, and the pairs on its way up
abbrev pub hashed_of_diff : Diff → List (List ℕ)
hashed_of_diff d = hashed_of_proof (tx_text d.coinbase) d.branch.hashes

-- the texts of a block's transactions, and the pairs of its root
abbrev pub hashed_of_block : List Tx → List (List ℕ)
hashed_of_block txs = hashed_of_list (map tx_text txs)

-- all that is hashed of a client's list, a diff, a block and the block's list
abbrev pub all_hashed : List SmlEntry → Diff → List Tx → List SmlEntry → List (List ℕ)
all_hashed list d txs block_list = (hashed_of_entries list ++ hashed_of_diff d) ++ (hashed_of_block txs ++ hashed_of_entries block_list)

-- ---- the laws

-- The client's list after an accepted diff is the list of the block that the diff names, where the client's header
-- has the root of that block's transactions; or two of the hashed texts collide, or one has a digest of zeros.
abbrev pub IsSoundStep : ClientState → List ℕ → ClientState → List Tx → List SmlEntry → Type 0
IsSoundStep old text new txs list =
    IsBytes text → EntriesFit old.list → IsAscending old.list → client_step old text ≡ Ok new
    → header_root new.held old.headers ≡ Some (root_of_txs txs) → HasList txs list
    → (d : Diff) × IsDiffText text d × ((new.list ≡ list) ⊎ (Collision (all_hashed new.list d txs list) ⊎ ZeroText (all_hashed new.list d txs list)))

-- a diff that leads from one list to a block's list, with that block's coinbase and its branch
pub record IsDiffOf (d : Diff) (base : List SmlEntry) (txs : List Tx) (list : List SmlEntry) : Type 0 where
  pub fits : IsDiff d
  pub coinbase : (rest : List Tx) × (txs ≡ d.coinbase ∷ rest)
  pub branch : ProvesFirst d.branch (map id_of txs)
  pub deleted : d.deleted ≡ gone base list
  pub entries : d.entries ≡ fresh base list

-- The client holds the diff's base: the empty list for a zero base, or the held block's list.
abbrev pub HoldsBase : ClientState → Diff → List SmlEntry → Type 0
HoldsBase c d base = MatchBool (is_zero d.base.0) (base ≡ []) ((d.base ≡ c.held) × (base ≡ c.list))

-- A diff from the base that the client holds to a block's list is accepted, where the client's header has the root of
-- that block's transactions; the client then holds that list.
abbrev pub IsCompleteStep : ClientState → Diff → List SmlEntry → List Tx → List SmlEntry → Type 0
IsCompleteStep c d base txs list =
    IsDiffOf d base txs list → HoldsBase c d base → IsAscending base → IsAscending list → told_by txs ≡ Some (root_of list)
    → header_root d.block c.headers ≡ Some (root_of_txs txs)
    → client_step c (diff_text d) ≡ Ok (record { headers = c.headers; held = d.block; list = list })

-- ---- the simplified list of rows

-- each field of a row that its entry repeats has its length
pub record RowFits (row : MnRow) : Type 0 where
  pub hash : length row.hash.0 ≡ 32
  pub confirmed : length row.confirmed.0 ≡ 32
  pub address : length row.service.address ≡ 16
  pub port : row.service.port < 2 ^ 16
  pub operator : length row.operator ≡ 48
  pub voting : length row.voting ≡ 20

abbrev pub RowsFit : List MnRow → Type 0
RowsFit = AllByRecursion RowFits

-- A block has the simplified list of these rows, where its coinbase tells that list's root.
abbrev pub HasRows : List Tx → List MnRow → Type 0
HasRows txs rows = AllByRecursion tx.Fits txs → told_by txs ≡ Some (root_of (simple rows)) → RowsAscend rows → RowsFit rows → HasList txs (simple rows)
