use Rattle.std.proofs.Common.{◌∙◌, ℕ, List, ap, refl}
use Rattle.std.proofs.lemmas.Result.{err_from_is_err_and, on_ok_weaker}
use Rattle.past_moments.proofs.Telling.{last_is}
use Rattle.past_moments.specs.declared.moments.Look.{Look}
use Rattle.past_looks.specs.Words.{moment_line}
use Rattle.past_viewer.specs.Copies.{copy_kept}
use Rattle.past_looks.proofs.Carrying.{looker_read, looker_same}
use Rattle.past_viewer.proofs.Ending.{of_memory_alone, of_store, output_calm}
use Rattle.past_viewer.proofs.Showing.{says_copied}
use Rattle.past_viewer.proofs.viewer.Viewer.show_copy.Goals as goal

-- ---- it isn't copied

pub returns-in_err-copied-clause-looker : goal.returns-in_err-copied-clause-looker
returns-in_err-copied-clause-looker g c = λ is.
    looker_read g.D.Disk c.args.self.now.looker _ refl refl c.copied_of.ensures.same refl refl is

pub returns-in_err-copied-clause-output : goal.returns-in_err-copied-clause-output
returns-in_err-copied-clause-output g c =
    let p = err_from_is_err_and c.from_residual.result c.from_residual.ensures.1 in
    rw (p.1, p.2) (output_calm _ _ _ (of_store c.in_err-copied.field-0.0).1 refl)

pub returns-in_err-copied-clause-cause : goal.returns-in_err-copied-clause-cause
returns-in_err-copied-clause-cause g c =
    let p = err_from_is_err_and c.from_residual.result c.from_residual.ensures.1 in
    rw (p.1, p.2) (of_store c.in_err-copied.field-0.0).0

-- ---- the line isn't made

pub returns-in_err-line-clause-looker : goal.returns-in_err-line-clause-looker
returns-in_err-line-clause-looker g c = λ is. looker_same g.D.Disk c.copied.ensures.same
    (looker_read g.D.Disk c.args.self.now.looker _ refl refl c.copied_of.ensures.same refl refl is)

pub returns-in_err-line-clause-output : goal.returns-in_err-line-clause-output
returns-in_err-line-clause-output g c =
    let p = err_from_is_err_and c.from_residual-in_err-line.result c.from_residual-in_err-line.ensures.1 in
    rw (p.1, p.2) (output_calm _ _ _ of_memory_alone.1 refl)

pub returns-in_err-line-clause-cause : goal.returns-in_err-line-clause-cause
returns-in_err-line-clause-cause g c =
    let p = err_from_is_err_and c.from_residual-in_err-line.result c.from_residual-in_err-line.ensures.1 in
    rw (p.1, p.2) of_memory_alone.0

-- ---- it is shown, and said

pub returns-clause-looker : goal.returns-clause-looker
returns-clause-looker g c = λ is. c.show_saying.ensures.looker (looker_same g.D.Disk c.copied.ensures.same
    (looker_read g.D.Disk c.args.self.now.looker _ refl refl c.copied_of.ensures.same refl refl is))

pub returns-clause-scenes : goal.returns-clause-scenes
returns-clause-scenes g c = on_ok_weaker c.show_saying.result (λ shown is.
    let of = looker_same g.D.Disk c.copied.ensures.same
    (looker_read g.D.Disk c.args.self.now.looker _ refl refl c.copied_of.ensures.same refl refl is) in
    shown of (says_copied g.D.Disk c.copied.new.self.shown c.copied.new.self.moments.in_use.extent.last
    c.args.self.now.looker.look.shown.desktop _ _ _ _
    (last_is g.D.Disk c.copied.new.self.moments.in_use.extent of.moments.known.in_use.extent)
    (ap (λ (look : Look). look.shown.desktop) c.copied.ensures.same.look ∙ c.copied_of.ensures.same)
    (c.as_slice-3.ensures.value ∙ c.keep-clip.ensures.clip ∙ c.in_ok-copied.ensures.clip)
    (c.as_slice.ensures.value ∙ c.in_ok-copied.ensures.words)
    (c.as_slice-2.ensures.value ∙ c.in_ok-line.ensures
    ∙ ap (λ (n : ℕ). moment_line c.copied.new.self.shown n c.as_slice.result.now) c.last-last.ensures))) c.show_saying.ensures.scenes

pub returns-clause-copied : goal.returns-clause-copied
returns-clause-copied g c = on_ok_weaker c.show_saying.result (λ shown. c.show_saying.ensures.copied ∙ c.keep-clip.ensures.kept
    ∙ ap (λ (text : List ℕ). copy_kept c.args.self.now.copied text) c.in_ok-copied.ensures.text) c.show_saying.ensures.scenes
