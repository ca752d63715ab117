use Rattle.std.proofs.Common.{◌≡◌, ◌+◌, ◌∙◌, ap, refl, sym, subst, false, true}
use Rattle.std.specs.declared.option.Option.{Option}
use Rattle.std.specs.Prelude.{Some, None, IsSomeAnd}
use Rattle.std.proofs.lemmas.Bool.{false≢true}
use Rattle.sector_disk.specs.Trail.{Content, now}
use Rattle.store_layout.specs.declared.head.Head.{Head}
use Rattle.store_layout.specs.declared.layout.TheConstants.{LABEL}
use Rattle.store_layout.specs.Layout.{is_label}
use Rattle.past_pages.proofs.StillReads.{still_both, still_looked, still_none, still_reads}
use Rattle.desk_past.specs.Chain.{newer, open_head}
use Rattle.desk_past.proofs.Chaining.{SaysSo, newest_shown}
use Rattle.desk_past.proofs.Firsts.{head_told}
use Rattle.desk_past.proofs.chain.begun_at.Goals as goal

pub returns-in_err-first-clause-still : goal.returns-in_err-first-clause-still
returns-in_err-first-clause-still g c = let d = g.D.Disk in
    (still_both d (still_looked d c.sector_at.result (still_none d c.args.store.now c.requires.usable)
    c.sector_at.ensures.looks) c.open_head.ensures.still)

pub returns-in_err-second-clause-still : goal.returns-in_err-second-clause-still
returns-in_err-second-clause-still g c = let d = g.D.Disk in
    (still_both d (still_both d (still_looked d c.sector_at.result (still_none d c.args.store.now c.requires.usable)
    c.sector_at.ensures.looks) c.open_head.ensures.still) c.open_head-2.ensures.still)

pub returns-then-not-has_label-clause-still : goal.returns-then-not-has_label-clause-still
returns-then-not-has_label-clause-still g c = let d = g.D.Disk in
    (still_both d (still_both d (still_looked d c.sector_at.result (still_none d c.args.store.now c.requires.usable)
    c.sector_at.ensures.looks) c.open_head.ensures.still) c.open_head-2.ensures.still)

pub returns-in-None-clause-still : goal.returns-in-None-clause-still
returns-in-None-clause-still g c = let d = g.D.Disk in
    (still_both d (still_both d (still_looked d c.sector_at.result (still_none d c.args.store.now c.requires.usable)
    c.sector_at.ensures.looks) c.open_head.ensures.still) c.open_head-2.ensures.still)

pub returns-in-Some-clause-still : goal.returns-in-Some-clause-still
returns-in-Some-clause-still g c = let d = g.D.Disk in
    (still_both d (still_both d (still_looked d c.sector_at.result (still_none d c.args.store.now c.requires.usable)
    c.sector_at.ensures.looks) c.open_head.ensures.still) c.open_head-2.ensures.still)

pub returns-then-not-has_label-clause-told : goal.returns-then-not-has_label-clause-told
returns-then-not-has_label-clause-told g c = λ honest t at.
    absurd (false≢true (sym c.if-not-has_label.true ∙ c.has_label.ensures
    ∙ ap is_label (c.in_ok-label.ensures.bytes honest)
    ∙ at.label))

pub returns-in-None-clause-told : goal.returns-in-None-clause-told
returns-in-None-clause-told g c = λ honest t at.
    let d = g.D.Disk in
    let quiet = c.shows_what_crashes_leave.ensures.quiet c.requires.usable honest in
    let reads = (now (d.trail c.args.store.now.disk)).reads in
    let one = (still_looked d c.sector_at.result (still_none d c.args.store.now c.requires.usable)
    c.sector_at.ensures.looks) in
    let two = (still_both d (still_looked d c.sector_at.result (still_none d c.args.store.now c.requires.usable)
    c.sector_at.ensures.looks) c.open_head.ensures.still) in
    let first = c.in_ok-first.ensures.head (one.left.disk.device.still honest)
    ∙ ap (λ (r : Content). open_head r c.args.base 0) (still_reads d one quiet honest) in
    let second = c.in_ok-second.ensures.head (two.left.disk.device.still honest)
    ∙ ap (λ (r : Content). open_head r c.args.base 1) (still_reads d two quiet honest) in
    let shown = subst (λ (o : Option Head). IsSomeAnd o (SaysSo t))
    (sym (c.newer.ensures ∙ (λ i. newer (first i) (second i)))) (newest_shown reads c.args.base t at) in
    (rw c.in-None.is at shown)

pub returns-in-Some-clause-told : goal.returns-in-Some-clause-told
returns-in-Some-clause-told g c = λ honest t at.
    let d = g.D.Disk in
    let quiet = c.shows_what_crashes_leave.ensures.quiet c.requires.usable honest in
    let reads = (now (d.trail c.args.store.now.disk)).reads in
    let one = (still_looked d c.sector_at.result (still_none d c.args.store.now c.requires.usable)
    c.sector_at.ensures.looks) in
    let two = (still_both d (still_looked d c.sector_at.result (still_none d c.args.store.now c.requires.usable)
    c.sector_at.ensures.looks) c.open_head.ensures.still) in
    let first = c.in_ok-first.ensures.head (one.left.disk.device.still honest)
    ∙ ap (λ (r : Content). open_head r c.args.base 0) (still_reads d one quiet honest) in
    let second = c.in_ok-second.ensures.head (two.left.disk.device.still honest)
    ∙ ap (λ (r : Content). open_head r c.args.base 1) (still_reads d two quiet honest) in
    let shown = subst (λ (o : Option Head). IsSomeAnd o (SaysSo t))
    (sym (c.newer.ensures ∙ (λ i. newer (first i) (second i)))) (newest_shown reads c.args.base t at) in
    let says = (rw c.in-Some.is at shown) in
    (refl, says.0, says.1)

pub returns-in-Some-clause-at : goal.returns-in-Some-clause-at
returns-in-Some-clause-at g c = refl

pub returns-in-Some-clause-epoch : goal.returns-in-Some-clause-epoch
returns-in-Some-clause-epoch g c = λ honest.
    let d = g.D.Disk in
    let quiet = c.shows_what_crashes_leave.ensures.quiet c.requires.usable honest in
    let reads = (now (d.trail c.args.store.now.disk)).reads in
    let one = (still_looked d c.sector_at.result (still_none d c.args.store.now c.requires.usable)
    c.sector_at.ensures.looks) in
    let two = still_both d one c.open_head.ensures.still in
    let first = c.in_ok-first.ensures.head (one.left.disk.device.still honest)
    ∙ ap (λ (r : Content). open_head r c.args.base 0) (still_reads d one quiet honest) in
    let second = c.in_ok-second.ensures.head (two.left.disk.device.still honest)
    ∙ ap (λ (r : Content). open_head r c.args.base 1) (still_reads d two quiet honest) in
    head_told reads c.args.base c.in-Some.head
    (sym (c.has_label.ensures ∙ ap is_label (c.in_ok-label.ensures.bytes honest)) ∙ c.if-not-has_label.false)
    (sym (c.newer.ensures ∙ (λ i. newer (first i) (second i))) ∙ c.in-Some.is)
