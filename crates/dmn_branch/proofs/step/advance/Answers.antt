use Rattle.std.proofs.Common.{◌≡◌, ◌*◌, ℕ, false, List, refl, ap, sym, ◌∙◌, subst, arith}
use Rattle.dmn_indexes.specs.declared.indexes.Indexes.{Indexes}
use Rattle.dmn_indexes.specs.Marks.{IsBelow, Cut}
use Rattle.dmn_indexes.specs.Version.{Keeps, GrownBy}
use Rattle.dmn_indexes.specs.Working.{Worked, Leads, worked, listing}
use Rattle.dmn_indexes.proofs.Cutting.{whole_below, cut_back}
use Rattle.dmn_indexes.proofs.Whole.{stays_then, grown_more}
use Rattle.dmn_branch.specs.Parts.{Follows, IsMinedAt, IsTip}
use Rattle.dmn_branch.specs.Stands.{IsWhole, Kept, kept_at}
use Rattle.dmn_branch.proofs.Holding.{kept_listing}
use Rattle.dmn_branch.proofs.Stepping.{shape_says, hash_kept, stays_small, working_from}
use Rattle.dmn_branch.proofs.step.advance.Goals as goal

pub follow-followed-requires-clause-hash : goal.follow-followed-requires-clause-hash
follow-followed-requires-clause-hash c = hash_kept c.args.block.now c.args.last.now.hash c.args.last.now.height c.requires.shape

pub follow-followed-requires-clause-working : goal.follow-followed-requires-clause-working
follow-followed-requires-clause-working c =
    let last = c.args.last.now in
    let start : c.new-list.result ≡ worked c.args.indexes.now last.version 0 false = c.new-list.ensures ∙ ap (λ (i : Indexes). worked i last.version 0 false) c.replace.ensures.value in
    working_from (kept_at c.args.indexes.now last) c.args.coinbase.now.height (listing c.new-list.result) c.requires.whole c.requires.next (ap listing start)

pub returns-in-Err-clause-refused : goal.returns-in-Err-clause-refused
returns-in-Err-clause-refused c = λ state at.
    let block = c.args.block.now in
    let old = c.args.indexes.now in
    let last = c.args.last.now in
    let coinbase = c.args.coinbase.now in
    let tip = kept_at old last in
    let start : c.new-list.result ≡ worked old last.version 0 false = c.new-list.ensures ∙ ap (λ (i : Indexes). worked i last.version 0 false) c.replace.ensures.value in
    let says = shape_says block last.hash last.height coinbase c.requires.shape c.requires.payload in
    let is : IsTip tip last block coinbase c.new-list.result = record { hash = refl; root = refl; shape = c.requires.shape; payload = says.0; next = c.requires.next; same = ap listing start; none = ap (λ (w : Worked). w.events) start } in
    c.in-Err.ensures.refused tip state is at

pub returns-in-Err-clause-kept : goal.returns-in-Err-clause-kept
returns-in-Err-clause-kept c = λ v whole.
    let start : c.new-list.result ≡ worked c.args.indexes.now c.args.last.now.version 0 false = c.new-list.ensures ∙ ap (λ (i : Indexes). worked i c.args.last.now.version 0 false) c.replace.ensures.value in
    let keeps : Keeps c.args.indexes.now c.into_indexes.result = subst (λ (i : Indexes). Keeps i c.into_indexes.result) (ap (λ (w : Worked). w.indexes) start) (subst (λ (i : Indexes). Keeps c.new-list.result.indexes i) (sym c.into_indexes.ensures) c.follow-followed.ensures.leads.keeps) in
    let one = keeps v whole in
    let below = subst (λ (m : List ℕ). IsBelow m v) (sym c.marks-marks.ensures) (whole_below c.args.indexes.now v whole) in
    stays_then one (c.cut.ensures.kept v one.whole below)

pub returns-in-Ok-clause-next : goal.returns-in-Ok-clause-next
returns-in-Ok-clause-next c = λ state at.
    let block = c.args.block.now in
    let old = c.args.indexes.now in
    let last = c.args.last.now in
    let coinbase = c.args.coinbase.now in
    let given = c.args.setting.now in
    let tip = kept_at old last in
    let start : c.new-list.result ≡ worked old last.version 0 false = c.new-list.ensures ∙ ap (λ (i : Indexes). worked i last.version 0 false) c.replace.ensures.value in
    let says = shape_says block last.hash last.height coinbase c.requires.shape c.requires.payload in
    let is : IsTip tip last block coinbase c.new-list.result = record { hash = refl; root = refl; shape = c.requires.shape; payload = says.0; next = c.requires.next; same = ap listing start; none = ap (λ (w : Worked). w.events) start } in
    let made = kept_listing c.into_indexes.result (record { height = coinbase.height; hash = block.hash; root = coinbase.rows; version = c.version-version.result; marks = c.marks.result }) c.follow-followed.new.list c.into_indexes.ensures c.version-version.ensures.version c.version-version.ensures.reads in
    let next = kept_at c.into_indexes.result (record { height = coinbase.height; hash = block.hash; root = coinbase.rows; version = c.version-version.result; marks = c.marks.result }) in
    subst (λ (n : ℕ). Follows given.profile given.formed state block n next c.args.mined.now c.follow-followed.new.mined) (sym c.events-events.ensures) (subst (λ (k : Kept). Follows given.profile given.formed state block c.follow-followed.new.list.events k c.args.mined.now c.follow-followed.new.mined) (sym made) (c.in-Ok.ensures.next tip state is at))

pub returns-in-Ok-clause-whole : goal.returns-in-Ok-clause-whole
returns-in-Ok-clause-whole c =
    let block = c.args.block.now in
    let last = c.args.last.now in
    let coinbase = c.args.coinbase.now in
    let made = kept_listing c.into_indexes.result (record { height = coinbase.height; hash = block.hash; root = coinbase.rows; version = c.version-version.result; marks = c.marks.result }) c.follow-followed.new.list c.into_indexes.ensures c.version-version.ensures.version c.version-version.ensures.reads in
    subst IsWhole (sym made) c.in-Ok.ensures.whole

pub returns-in-Ok-clause-mined : goal.returns-in-Ok-clause-mined
returns-in-Ok-clause-mined c = subst (λ (n : ℕ). IsMinedAt n c.args.mined.now c.follow-followed.new.mined) c.requires.next c.in-Ok.ensures.mined

pub returns-in-Ok-clause-kept : goal.returns-in-Ok-clause-kept
returns-in-Ok-clause-kept c =
    let start : c.new-list.result ≡ worked c.args.indexes.now c.args.last.now.version 0 false = c.new-list.ensures ∙ ap (λ (i : Indexes). worked i c.args.last.now.version 0 false) c.replace.ensures.value in
    let keeps : Keeps c.args.indexes.now c.into_indexes.result = subst (λ (i : Indexes). Keeps i c.into_indexes.result) (ap (λ (w : Worked). w.indexes) start) (subst (λ (i : Indexes). Keeps c.new-list.result.indexes i) (sym c.into_indexes.ensures) c.follow-followed.ensures.leads.keeps) in
    keeps

pub returns-in-Err-clause-same : goal.returns-in-Err-clause-same
returns-in-Err-clause-same c =
    let old = c.args.indexes.now in
    let start : c.new-list.result ≡ worked old c.args.last.now.version 0 false = c.new-list.ensures ∙ ap (λ (i : Indexes). worked i c.args.last.now.version 0 false) c.replace.ensures.value in
    let more = c.follow-followed.ensures.leads.more in
    let grown : GrownBy more.0 old c.into_indexes.result = subst (λ (i : Indexes). GrownBy more.0 i c.into_indexes.result) (ap (λ (w : Worked). w.indexes) start) (subst (λ (i : Indexes). GrownBy more.0 c.new-list.result.indexes i) (sym c.into_indexes.ensures) more.1) in
    cut_back old grown (subst (λ (m : List ℕ). Cut m c.into_indexes.result c.cut.new.self) c.marks-marks.ensures c.cut.ensures.cut)

pub returns-in-Ok-clause-grown : goal.returns-in-Ok-clause-grown
returns-in-Ok-clause-grown c =
    let old = c.args.indexes.now in
    let v = c.args.last.now.version in
    let start : c.new-list.result ≡ worked old v 0 false = c.new-list.ensures ∙ ap (λ (i : Indexes). worked i v 0 false) c.replace.ensures.value in
    let leads : Leads (worked old v 0 false) c.follow-followed.new.list = subst (λ (w : Worked). Leads w c.follow-followed.new.list) start c.follow-followed.ensures.leads in
    let events = c.events-events.ensures in
    let small = stays_small c.requires.whole.masternodes c.requires.whole.collaterals c.in-Ok.ensures.few in
    let grown = leads.grown (record { rows = small.0; outputs = small.1 }) in
    subst (λ (i : Indexes). GrownBy (232 * c.events-events.result) old i) (sym c.into_indexes.ensures) (grown_more grown (omega (arith, events)))
