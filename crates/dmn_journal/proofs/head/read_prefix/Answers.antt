use Rattle.std.proofs.Common.{rules, ap, subst, true, false, List, ℕ, [], ◌∷◌, take, drop, length, ◌≡◌, ◌∙◌, sym, arith}
use Rattle.std.proofs.lemmas.List.{take_all}
use Rattle.std.specs.Str.{bytes_eq}
use Rattle.dmn_journal.specs.Journal.{magic}
use Rattle.dmn_journal.specs.Reading.{header_departs, size_at}
use Rattle.dmn_outside.proofs.Reading.{reads_back, reads_both, reads_map}
use Rattle.dmn_journal.proofs.Heads.{gate_wrong, magic_wrong, size_there, size_short, size_long, prefix_is}
use Rattle.std.specs.Cmp.Lexicographic.{same_text}
use Rattle.dmn_journal.proofs.head.read_prefix.Goals as goal

pub returns-then-not-same_bytes-clause-prefix : goal.returns-then-not-same_bytes-clause-prefix
returns-then-not-same_bytes-clause-prefix g c =
    let old = (g.D.Device.disk c.args.disk.now).told in
    let wrong : bytes_eq (take c.in_ok-n.n c.read_front.new.buffer) (1 ∷ []) ≡ false = sym c.same_bytes.ensures ∙ c.if-not-same_bytes.true in
    reads_map old _ _ c.in_ok-n.ensures.text (λ all same. gate_wrong all.zeroth (subst (λ (l : List ℕ). bytes_eq l (1 ∷ []) ≡ false) same wrong))

pub returns-then-not-same_bytes-2-clause-prefix : goal.returns-then-not-same_bytes-2-clause-prefix
returns-then-not-same_bytes-2-clause-prefix g c =
    let old = (g.D.Device.disk c.args.disk.now).told in
    let right : bytes_eq (take c.in_ok-n.n c.read_front.new.buffer) (1 ∷ []) ≡ true = sym c.same_bytes.ensures ∙ c.if-not-same_bytes.false in
    let wrong : bytes_eq (take c.in_ok-m.m c.read_front-2.new.buffer) magic ≡ false = sym c.same_bytes-2.ensures ∙ c.if-not-same_bytes-2.true in
    reads_both old _ _ _ c.in_ok-n.ensures.text (reads_back old _ _ c.read_front.ensures.disk.told c.in_ok-m.ensures.text)
    (λ all same more. magic_wrong all.zeroth (subst (λ (l : List ℕ). bytes_eq l (1 ∷ []) ≡ true) same right) (subst (λ (l : List ℕ). bytes_eq l magic ≡ false) more wrong))

pub returns-then-k-lt4-clause-prefix : goal.returns-then-k-lt4-clause-prefix
returns-then-k-lt4-clause-prefix g c =
    let old = (g.D.Device.disk c.args.disk.now).told in
    let right : bytes_eq (take c.in_ok-n.n c.read_front.new.buffer) (1 ∷ []) ≡ true = sym c.same_bytes.ensures ∙ c.if-not-same_bytes.false in
    let too : bytes_eq (take c.in_ok-m.m c.read_front-2.new.buffer) magic ≡ true = sym c.same_bytes-2.ensures ∙ c.if-not-same_bytes-2.false in
    let two = reads_both old _ _ (λ all. header_departs all.zeroth ≡ size_at (take 4 (drop 8 all.zeroth)) (drop 12 all.zeroth)) c.in_ok-n.ensures.text (reads_back old _ _ c.read_front.ensures.disk.told c.in_ok-m.ensures.text)
    (λ all same more. size_there all.zeroth (subst (λ (l : List ℕ). bytes_eq l (1 ∷ []) ≡ true) same right) (subst (λ (l : List ℕ). bytes_eq l magic ≡ true) more too)) in
    reads_both old _ _ _ two (reads_back old _ _ (c.read_front-2.ensures.disk.told ∙ c.read_front.ensures.disk.told) c.in_ok-k.ensures.text)
    (λ all is sizes. is ∙ size_short all.zeroth c.read_front-3.new.buffer c.in_ok-k.k c.if-k-lt4.true (omega (arith, c.in_ok-k.ensures.most, c.read_front-3.auto.buffer)) sizes)

pub returns-clause-prefix : goal.returns-clause-prefix
returns-clause-prefix g c =
    let old = (g.D.Device.disk c.args.disk.now).told in
    let right : bytes_eq (take c.in_ok-n.n c.read_front.new.buffer) (1 ∷ []) ≡ true = sym c.same_bytes.ensures ∙ c.if-not-same_bytes.false in
    let too : bytes_eq (take c.in_ok-m.m c.read_front-2.new.buffer) magic ≡ true = sym c.same_bytes-2.ensures ∙ c.if-not-same_bytes-2.false in
    let first = c.in_ok-n.ensures.text in
    let second = reads_back old _ _ c.read_front.ensures.disk.told c.in_ok-m.ensures.text in
    let third = reads_back old _ _ (c.read_front-2.ensures.disk.told ∙ c.read_front.ensures.disk.told) c.in_ok-k.ensures.text in
    let two = reads_both old _ _ (λ all. header_departs all.zeroth ≡ size_at (take 4 (drop 8 all.zeroth)) (drop 12 all.zeroth)) first second
    (λ all same more. size_there all.zeroth (subst (λ (l : List ℕ). bytes_eq l (1 ∷ []) ≡ true) same right) (subst (λ (l : List ℕ). bytes_eq l magic ≡ true) more too)) in
    let long : length c.read_front-3.new.buffer ≡ 4 = c.read_front-3.auto.buffer in
    let four : c.in_ok-k.k ≡ 4 = omega (arith, c.in_ok-k.ensures.most, c.if-k-lt4.false) in
    record {
      fits = search rules;
      text = reads_both old _ _ _ (reads_both old _ _ (λ all. (take c.in_ok-n.n c.read_front.new.buffer ≡ take 1 all.zeroth) × (take c.in_ok-m.m c.read_front-2.new.buffer ≡ take 7 (drop 1 all.zeroth))) first second (λ all a b. (a, b))) third
          (λ all ab s. prefix_is all.zeroth _ _ _ c.size_of.result (same_text _ _ (sym right)) (same_text _ _ (sym too)) c.size_of.ensures.back ab.0 ab.1 (sym (take_all 4 c.read_front-3.new.buffer (omega (arith, long))) ∙ ap (λ (k : ℕ). take k c.read_front-3.new.buffer) (sym four) ∙ s));
      rest = reads_both old _ _ _ two third (λ all is sizes. is ∙ size_long all.zeroth c.read_front-3.new.buffer c.in_ok-k.k c.size_of.result four long c.size_of.ensures.is sizes);
    }
