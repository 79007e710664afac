-- The two profiles, by their tables.
use Rattle.std.specs.Prelude.{ℕ, [], ◌∷◌, Option, None, Some}
use Rattle.dmn_rows.specs.declared.profile.Profile.{Profile}
use Rattle.dmn_rows.specs.declared.profile.QuorumParams.{QuorumParams}

-- a row of the table of quorums: type, size, minimum, interval, window, active
abbrev pub quorum_row : ℕ → ℕ → ℕ → ℕ → ℕ → ℕ → ℕ → Option QuorumParams
quorum_row kind size minimum interval from to active =
    Some (record { kind = kind; size = size; minimum = minimum; interval = interval; from = from; to = to; active = active })

-- how many blocks after its registration a masternode is confirmed, in each profile
abbrev pub confirm_wait : ℕ
confirm_wait = 16

abbrev pub small_profile : Profile
small_profile = record {
  id = 1;
  port = 19999;
  confirm = confirm_wait;
  depth = 6;
  kept = 20;
  every = 8;
  journal_max = 262144;
  quorums = quorum_row 100 4 3 12 4 10 2 ∷ None ∷ None ∷ [];
}

abbrev pub main_profile : Profile
main_profile = record {
  id = 2;
  port = 9999;
  confirm = confirm_wait;
  depth = 288;
  kept = 400;
  every = 288;
  journal_max = 1099511627776;
  quorums = quorum_row 1 50 40 24 10 18 24 ∷ quorum_row 2 400 300 288 20 28 4 ∷ quorum_row 3 400 350 576 20 48 4 ∷ [];
}
