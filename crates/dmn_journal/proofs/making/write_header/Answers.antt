use Rattle.std.proofs.Common.{◌≡◌, ◌++◌, [], ◌∷◌, List, ℕ, ap}
use Rattle.dmn_journal.specs.Create.{behind_gate}
use Rattle.dmn_journal.proofs.Creating.{header_1, header_2, header_3, header_made}
use Rattle.dmn_journal.proofs.making.write_header.Goals as goal

pub returns-in_err-write_synced-clause-moments : goal.returns-in_err-write_synced-clause-moments
returns-in_err-write_synced-clause-moments g c = λ holds.
    let d = g.D.Device.disk c.args.disk.now in
    let is : c.front_of-front.result ++ c.args.start.now ++ 0 ∷ [] ≡ behind_gate c.args.start.now = ap (λ (l : List ℕ). l ++ c.args.start.now ++ 0 ∷ []) c.front_of-front.ensures in
    header_1 _ c.args.start.now (0 ∷ []) _ is _ 0 0 d _ d d holds c.write_synced.ensures.moments

pub returns-in_err-write_three_synced-clause-moments : goal.returns-in_err-write_three_synced-clause-moments
returns-in_err-write_three_synced-clause-moments g c = λ holds.
    let d = g.D.Device.disk c.args.disk.now in
    let is : c.front_of-front.result ++ c.args.start.now ++ 0 ∷ [] ≡ behind_gate c.args.start.now = ap (λ (l : List ℕ). l ++ c.args.start.now ++ 0 ∷ []) c.front_of-front.ensures in
    header_2 _ c.args.start.now (0 ∷ []) _ is _ _ 0 d _ _ d holds c.write_synced.ensures.moments c.in_ok-write_synced.ensures.done c.write_synced.ensures.time c.write_three_synced.ensures.moments

pub returns-clause-moments : goal.returns-clause-moments
returns-clause-moments g c = λ holds.
    let is : c.front_of-front.result ++ c.args.start.now ++ 0 ∷ [] ≡ behind_gate c.args.start.now = ap (λ (l : List ℕ). l ++ c.args.start.now ++ 0 ∷ []) c.front_of-front.ensures in
    header_3 _ c.args.start.now (0 ∷ []) _ is _ _ _ _ _ _ _ holds c.write_synced.ensures.moments c.in_ok-write_synced.ensures.done c.write_synced.ensures.time c.write_three_synced.ensures.moments
    c.in_ok-write_three_synced.ensures.done c.write_three_synced.ensures.time c.write_synced-2.ensures.moments

pub returns-clause-done : goal.returns-clause-done
returns-clause-done g c = λ holds.
    let is : c.front_of-front.result ++ c.args.start.now ++ 0 ∷ [] ≡ behind_gate c.args.start.now = ap (λ (l : List ℕ). l ++ c.args.start.now ++ 0 ∷ []) c.front_of-front.ensures in
    header_made _ c.args.start.now (0 ∷ []) _ is _ _ _ _ holds c.write_synced-2.result c.in_ok-write_synced.ensures.done c.in_ok-write_three_synced.ensures.done c.write_synced-2.ensures.done
