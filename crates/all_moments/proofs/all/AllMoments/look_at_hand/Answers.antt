use Rattle.std.proofs.Common.{◌≡◌, ◌≤◌, subst, sym}
use Rattle.std.proofs.lemmas.Result.{on_ok_weaker}
use Rattle.sector_disk.specs.contracts.memory.MemoryDiskDisk.TheImpl.{ghosts as in_memory}
use Rattle.past_moments.specs.Moments.{AreMomentsOf, IsDesktopAt}
use Rattle.past_moments.specs.declared.moments.Look.{Look}
use Rattle.all_moments.specs.Parts.{AreAllMomentsOf, IsDesktopThen, IsToldThen, IsToldWithin}
use Rattle.all_moments.specs.Parts.IsDesktopThen.{in_use}
use Rattle.all_moments.proofs.AtHand.{all_stays, desktop_at_hand, found_then, some_both, some_with, words_at_hand}
use Rattle.all_moments.proofs.Backward.{words_on}
use Rattle.all_moments.proofs.all.AllMoments.look_at_hand.Goals as goal

-- ---- it is the oldest moment of the part in use

pub returns-then-k-self-clause-shown : goal.returns-then-k-self-clause-shown
returns-then-k-self-clause-shown g c = found_then c.look_first.result (λ first fact is.
    let all = all_stays g.D.Disk c.args.store.now c.args.self.now c.in-Some.part c.look.new.self c.in-Some.is
    c.in_ok-look-in-Some.ensures.stays is in
    in_use (subst (λ k. IsDesktopAt g.D.Disk k first.shown.desktop c.look_first.new.store) (sym c.if-k-self.true) (fact all)))
    c.look_first.ensures.shown

pub returns-then-k-self-clause-words : goal.returns-then-k-self-clause-words
returns-then-k-self-clause-words g c = found_then c.look_first.result (λ (first : Look) same is.
    some_with _ same c.in_ok-look-in-Some.ensures.inside c.in_ok-look-in-Some.ensures.words
    (λ (was : Look) (words : first.words ≡ was.words) inside told.
    let quiet = c.shows_what_crashes_leave.ensures.quiet c.requires in
    let bytes : first.words.items ≡ was.words.items = λ i. (words i).items in
    words_on g.D.Disk c.look_first.ensures.still c.requires quiet c.args.k first.words.items
    (subst (λ w. IsToldThen g.D.Disk c.args.k w c.args.store.now) (sym bytes)
    (words_at_hand g.D.Disk c.args.store.now c.args.self.now c.in-Some.part c.look.new.self c.in-Some.is
    c.in_ok-look-in-Some.ensures.stays is c.args.k was.words.items inside told)))) c.look_first.ensures.words

pub returns-then-k-self-clause-are : goal.returns-then-k-self-clause-are
returns-then-k-self-clause-are g c = on_ok_weaker c.look_first.result (λ fact is.
    fact (all_stays g.D.Disk c.args.store.now c.args.self.now c.in-Some.part c.look.new.self c.in-Some.is
    c.in_ok-look-in-Some.ensures.stays is)) c.look_first.ensures.are

-- ---- it is another one

pub returns-clause-shown : goal.returns-clause-shown
returns-clause-shown g c =
    let part = c.in-Some.part in
    let so : (look : Look) → c.args.k ≤ part.last
    → (AreMomentsOf in_memory part.moments part.store
    → IsDesktopAt in_memory c.args.k look.shown.desktop c.look.new.self.store)
    → AreAllMomentsOf g.D.Disk c.args.self.now c.args.store.now
    → IsDesktopThen g.D.Disk c.args.k look.shown.desktop c.args.store.now = λ look inside shown is.
    desktop_at_hand g.D.Disk c.args.store.now c.args.self.now part c.look.new.self c.in-Some.is
    c.in_ok-look-in-Some.ensures.stays is c.args.k look.shown.desktop inside c.if-k-self.false shown in
    some_both _ so c.in_ok-look-in-Some.ensures.inside c.in_ok-look-in-Some.ensures.shown

pub returns-clause-words : goal.returns-clause-words
returns-clause-words g c =
    let part = c.in-Some.part in
    let so : (look : Look) → c.args.k ≤ part.last
    → (AreMomentsOf in_memory part.moments part.store
    → IsToldWithin c.args.self.now.edge c.args.k look.words.items c.look.new.self.store)
    → AreAllMomentsOf g.D.Disk c.args.self.now c.args.store.now
    → IsToldThen g.D.Disk c.args.k look.words.items c.args.store.now = λ look inside told is.
    words_at_hand g.D.Disk c.args.store.now c.args.self.now part c.look.new.self c.in-Some.is
    c.in_ok-look-in-Some.ensures.stays is c.args.k look.words.items inside told in
    some_both _ so c.in_ok-look-in-Some.ensures.inside c.in_ok-look-in-Some.ensures.words

pub returns-clause-are : goal.returns-clause-are
returns-clause-are g c = λ is. all_stays g.D.Disk c.args.store.now c.args.self.now c.in-Some.part c.look.new.self c.in-Some.is
    c.in_ok-look-in-Some.ensures.stays is
