use Rattle.std.proofs.Common.{rules, ◌≡◌, ◌∙◌, ◌<◌, [], length, subst, sym, arith, true, false, Ok, Err}
use Rattle.std.specs.Prelude.{IfErr}
use Rattle.std.proofs.lemmas.Bool.{eqb-true, eqb-false}
use Rattle.std.proofs.lemmas.List.{nil_from_length}
use Rattle.std.proofs.lemmas.Result.{err_from_is_err_and, IfErr-at_err}
use Rattle.store_slots.specs.Beside.{IsCountedBack}
use Rattle.command_table.specs.Versions.{version_number}
use Rattle.sector_disk.proofs.Confinement as confined
use Rattle.store_slots.specs.Errors.{OfLook}
use Rattle.desk_journal.specs.Undoing.{IsTakenBack, OfUndo}
use Rattle.desk_journal.proofs.Undoing.{Leaving, as_look, earlier, epoch_any, nothing_back, read_beside, up_to, up_to_any}
use Rattle.desk_journal.proofs.Undoing.{nothing_taken, some_taken, undone_moments, undone_knows, viewed}
use Rattle.desk_journal.proofs.Undoing.{gates_same, gates_within, is_left, stands_now, standing}
use Rattle.desk_journal.specs.Posting.{Behaves}
use Rattle.desk_journal.proofs.store.Store.undo.Goals as goal

pub invariant_of-self : goal.invariant_of-self
invariant_of-self g c = λ usable. read_beside g.D.Disk c.load_earlier.ensures.kept (c.self.invariant usable)

pub returns-in_err-earlier-clause-any_moment : goal.returns-in_err-earlier-clause-any_moment
returns-in_err-earlier-clause-any_moment g c =
    let was = c.self.invariant c.if-self.false in
    subst (λ old. Leaving g.D.Disk c.args.count old c.load_earlier.new.disk) c.self.view_is (λ usable honest x at. (
      [],
      x,
      omega arith,
      nothing_back g.D.Disk (up_to_any g.D.Disk was honest c.standing_law.ensures x at)
          c.load_earlier.ensures.kept honest,
    ))

pub returns-in_err-earlier-clause-stops : goal.returns-in_err-earlier-clause-stops
returns-in_err-earlier-clause-stops g c =
    let d = g.D.Disk in
    let was = c.self.invariant c.if-self.false in
    subst (λ old. d.honest old.disk → IfErr c.from_residual.result OfLook) c.self.view_is (λ honest.
    let p = err_from_is_err_and c.from_residual.result c.from_residual.ensures.1 in
    let failed : c.load_earlier.result ≡ Err p.0 = cc (p.1, p.2, c.in_err-earlier.was) in
    subst (λ r. IfErr r OfLook) (sym p.1) (IfErr-at_err OfLook failed
    (as_look c.load_earlier.result (c.load_earlier.ensures.stops honest (standing d was honest) (up_to d was honest)
    (epoch_any d was honest c.standing_law.ensures _ (stands_now d was honest))))))

pub returns-then-is_empty-clause-any_moment : goal.returns-then-is_empty-clause-any_moment
returns-then-is_empty-clause-any_moment g c =
    let was = c.self.invariant c.if-self.false in
    subst (λ old. Leaving g.D.Disk c.args.count old c.load_earlier.new.disk) c.self.view_is (λ usable honest x at. (
      [],
      x,
      omega arith,
      nothing_back g.D.Disk (up_to_any g.D.Disk was honest c.standing_law.ensures x at)
          c.load_earlier.ensures.kept honest,
    ))

pub returns-then-is_empty-clause-ok : goal.returns-then-is_empty-clause-ok
returns-then-is_empty-clause-ok g c =
    let d = g.D.Disk in
    let s = c.self.inside in
    let was = c.self.invariant c.if-self.false in
    let b = c.in_ok-earlier.ensures in
    let e = c.in_ok-earlier.earlier in
    let run = c.load_earlier.ensures.kept in
    let version = version_number s.version in
    let none = eqb-true _ _ (sym c.is_empty.ensures ∙ c.if-is_empty.true) in
    let zero : length e.events.items ≡ 0 = omega (arith, none) in
    subst (λ old. IsTakenBack d c.args.count e.events.items old
    (viewed d c.load_earlier.new.disk s.desktop version s.epoch s.events s.must_reopen)) c.self.view_is
    (subst (λ l. IsTakenBack d c.args.count l (viewed d s.disk s.desktop version s.epoch s.events s.must_reopen)
    (viewed d c.load_earlier.new.disk s.desktop version s.epoch s.events s.must_reopen))
    (sym (nil_from_length e.events.items zero))
    (nothing_taken d s.must_reopen c.standing_law.ensures was run
    (subst (λ n. IsCountedBack s.slot s.epoch s.events c.args.count e.slot e.epoch e.left n) zero b.count) b.crosses
    c.if-self.false (is_left d s.desktop version s.epoch s.events s.must_reopen run)))

pub invariant_of-self-then-is_empty : goal.invariant_of-self-then-is_empty
invariant_of-self-then-is_empty g c = λ usable.
    read_beside g.D.Disk c.load_earlier.ensures.kept (c.self.invariant usable)

pub returns-then-is_empty-clause-behaves : goal.returns-then-is_empty-clause-behaves
returns-then-is_empty-clause-behaves g c =
    let d = g.D.Disk in
    let s = c.self.inside in
    let run = c.load_earlier.ensures.kept in
    subst (λ old. Behaves d OfUndo (Ok c.in_ok-earlier.earlier.events) old
    (viewed d c.load_earlier.new.disk s.desktop (version_number s.version) s.epoch s.events s.must_reopen))
    c.self.view_is (record {
      reopen = search rules;
      faults = search rules;
      device = record { as_large = run.as_large; still = run.still; already = run.already };
      within = confined.widened d.size d.honest d.trail (λ n none. absurd none) run;
    })

pub returns-in_err-undo_to-clause-any_moment : goal.returns-in_err-undo_to-clause-any_moment
returns-in_err-undo_to-clause-any_moment g c =
    let d = g.D.Disk in
    let was = c.self.invariant c.if-self.false in
    let b = c.in_ok-earlier.ensures in
    let none = eqb-false _ _ (sym c.is_empty.ensures ∙ c.if-is_empty.false) in
    let some : 0 < length c.in_ok-earlier.earlier.events.items = omega (arith, none) in
    subst (λ old. Leaving d c.args.count old c.undo_to.new.disk) c.self.view_is (λ usable honest x at. (
      c.in_ok-earlier.earlier.events.items,
      (earlier d was c.standing_law.ensures c.load_earlier.ensures.kept
          c.undo_to.ensures.kept b.count some b.shown honest x at).rest,
      b.count.few,
      undone_moments d was c.standing_law.ensures c.load_earlier.ensures.kept c.undo_to.ensures.kept b.count some b.shown
          honest x at c.undo_to.ensures.any_moment,
    ))

pub returns-clause-any_moment : goal.returns-clause-any_moment
returns-clause-any_moment g c =
    let d = g.D.Disk in
    let was = c.self.invariant c.if-self.false in
    let b = c.in_ok-earlier.ensures in
    let none = eqb-false _ _ (sym c.is_empty.ensures ∙ c.if-is_empty.false) in
    let some : 0 < length c.in_ok-earlier.earlier.events.items = omega (arith, none) in
    subst (λ old. Leaving d c.args.count old c.undo_to.new.disk) c.self.view_is (λ usable honest x at. (
      c.in_ok-earlier.earlier.events.items,
      (earlier d was c.standing_law.ensures c.load_earlier.ensures.kept
          c.undo_to.ensures.kept b.count some b.shown honest x at).rest,
      b.count.few,
      undone_moments d was c.standing_law.ensures c.load_earlier.ensures.kept c.undo_to.ensures.kept b.count some b.shown
          honest x at c.undo_to.ensures.any_moment,
    ))

pub invariant_of-self-2 : goal.invariant_of-self-2
invariant_of-self-2 g c = λ _.
    let was = c.self.invariant c.if-self.false in
    let b = c.in_ok-earlier.ensures in
    let none = eqb-false _ _ (sym c.is_empty.ensures ∙ c.if-is_empty.false) in
    let some : 0 < length c.in_ok-earlier.earlier.events.items = omega (arith, none) in
    undone_knows g.D.Disk was c.standing_law.ensures c.load_earlier.ensures.kept c.undo_to.ensures.kept b.count some b.shown
    b.left.live b.left.told c.in_ok-undo_to.ensures.left

pub returns-clause-ok : goal.returns-clause-ok
returns-clause-ok g c =
    let d = g.D.Disk in
    let was = c.self.invariant c.if-self.false in
    let b = c.in_ok-earlier.ensures in
    let e = c.in_ok-earlier.earlier in
    let none = eqb-false _ _ (sym c.is_empty.ensures ∙ c.if-is_empty.false) in
    let some : 0 < length e.events.items = omega (arith, none) in
    subst (λ old. IsTakenBack d c.args.count e.events.items old
    (viewed d c.undo_to.new.disk e.desktop (version_number c.self.inside.version) e.epoch e.left false)) c.self.view_is
    (some_taken d was c.standing_law.ensures c.load_earlier.ensures.kept c.undo_to.ensures.kept b.count some b.shown
    b.left.live b.left.told c.in_ok-undo_to.ensures.left c.self.inside.must_reopen b.crosses
    c.undo_to.ensures.any_moment)

pub returns-in_err-undo_to-clause-behaves : goal.returns-in_err-undo_to-clause-behaves
returns-in_err-undo_to-clause-behaves g c =
    let d = g.D.Disk in
    let s = c.self.inside in
    let b = c.in_ok-earlier.ensures in
    let was = c.self.invariant c.if-self.false in
    let none = eqb-false _ _ (sym c.is_empty.ensures ∙ c.if-is_empty.false) in
    let some : 0 < length c.in_ok-earlier.earlier.events.items = omega (arith, none) in
    subst (λ old. Behaves d OfUndo c.from_residual-in_err-undo_to.result old
    (viewed d c.undo_to.new.disk s.desktop (version_number s.version) s.epoch s.events true)) c.self.view_is (record {
      reopen = search rules;
      faults = search rules;
      device = gates_same d c.load_earlier.ensures.kept c.undo_to.ensures.kept;
      within = gates_within d was.0 b.count.two (b.count.short some) c.load_earlier.ensures.kept c.undo_to.ensures.kept;
    })

pub returns-clause-behaves : goal.returns-clause-behaves
returns-clause-behaves g c =
    let d = g.D.Disk in
    let s = c.self.inside in
    let b = c.in_ok-earlier.ensures in
    let e = c.in_ok-earlier.earlier in
    let was = c.self.invariant c.if-self.false in
    let none = eqb-false _ _ (sym c.is_empty.ensures ∙ c.if-is_empty.false) in
    let some : 0 < length e.events.items = omega (arith, none) in
    subst (λ old. Behaves d OfUndo (Ok e.events) old
    (viewed d c.undo_to.new.disk e.desktop (version_number s.version) e.epoch e.left false)) c.self.view_is (record {
      reopen = search rules;
      faults = search rules;
      device = gates_same d c.load_earlier.ensures.kept c.undo_to.ensures.kept;
      within = gates_within d was.0 b.count.two (b.count.short some) c.load_earlier.ensures.kept c.undo_to.ensures.kept;
    })
