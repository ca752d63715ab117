use Rattle.std.specs.Prelude.{ℕ, List, Result, IfErr}
use Rattle.std.proofs.Common.{rules, ap, sym, subst, ◌∙◌}
use Rattle.sector_disk.specs.Faults.{OneOf}
use Rattle.command_table.specs.Parameters.{name_in}
use Rattle.desktop_definitions.specs.declared.call.NameCommand.TheVariants.{OpenDocument, OpenFile, SetFont, ChangeFont}
use Rattle.desktop_definitions.specs.Desktop.{Desktop}
use Rattle.desktop_definitions.specs.Outcome.{reply_codes}
use Rattle.desktop_definitions.specs.Call.{value_of, as_name, name_of}
use Rattle.desktop_definitions.specs.Commands.{done_with_name}
use Rattle.desk_core.specs.Kept.{kept_desktop}
use Rattle.desk_commands.proofs.CallLemmas.{known_choice, refused_given, does_given}
use Rattle.desk_commands.proofs.calls.command_with_name.Goals as goal

pub returns-in-Err : goal.returns-in-Err
unfolding name_of
returns-in-Err g c = record {
  answered =
      let read = c.in_ok-value.ensures.told in
      refused_given g.S.CharSource (λ (x : Desktop). as_name (value_of x c.args.call))
      (λ (x : Desktop). done_with_name x c.args.command) c.in-Err.code _ _ (kept_desktop c.args.desk.now)
      read.reads c.requires.over
      (subst (λ (r : Result (List ℕ) ℕ). IfErr r (OneOf reply_codes)) (sym c.as_name.ensures ∙ c.in-Err.is)
      (known_choice name_in c.in_ok-value.value c.in_ok-value.ensures.kind)) c.in-Err.is
      (λ h. c.as_name.ensures ∙ ap as_name (read.exact h));
  uses = search (rules, g.met.S.CharSource.ground_self, g.met.S.CharSource.ground_through);
}

pub returns-in-OpenDocument : goal.returns-in-OpenDocument
unfolding name_of done_with_name
returns-in-OpenDocument g c =
    let read = c.in_ok-value.ensures.told in
    rw c.in-OpenDocument.is (does_given g.S.CharSource g.met.S.CharSource.ground_through
    (λ (x : Desktop). as_name (value_of x c.args.call))
    (λ (x : Desktop). done_with_name x OpenDocument) c.in-Ok.name
    _ _ c.open_document.new.source _ (kept_desktop c.open_document.new.desk)
    c.open_document.result read.reads read.cause c.in-Ok.is
    (λ h. c.as_name.ensures ∙ ap as_name (read.exact h)) c.open_document.ensures)

pub returns-in-OpenFile : goal.returns-in-OpenFile
unfolding name_of done_with_name
returns-in-OpenFile g c =
    let read = c.in_ok-value.ensures.told in
    rw c.in-OpenFile.is (does_given g.S.CharSource g.met.S.CharSource.ground_through
    (λ (x : Desktop). as_name (value_of x c.args.call))
    (λ (x : Desktop). done_with_name x OpenFile) c.in-Ok.name
    _ _ c.open_file.new.source _ (kept_desktop c.open_file.new.desk)
    c.open_file.result read.reads read.cause c.in-Ok.is
    (λ h. c.as_name.ensures ∙ ap as_name (read.exact h)) c.open_file.ensures)

pub returns-in-SetFont : goal.returns-in-SetFont
unfolding name_of done_with_name
returns-in-SetFont g c =
    let read = c.in_ok-value.ensures.told in
    rw c.in-SetFont.is (does_given g.S.CharSource g.met.S.CharSource.ground_through
    (λ (x : Desktop). as_name (value_of x c.args.call))
    (λ (x : Desktop). done_with_name x SetFont) c.in-Ok.name
    _ _ c.set_look.new.source _ (kept_desktop c.set_look.new.desk)
    c.set_look.result read.reads read.cause c.in-Ok.is
    (λ h. c.as_name.ensures ∙ ap as_name (read.exact h)) (rw c.font_set.ensures at c.set_look.ensures))

pub returns-in-ChangeFont : goal.returns-in-ChangeFont
unfolding name_of done_with_name
returns-in-ChangeFont g c =
    let read = c.in_ok-value.ensures.told in
    rw c.in-ChangeFont.is (does_given g.S.CharSource g.met.S.CharSource.ground_through
    (λ (x : Desktop). as_name (value_of x c.args.call))
    (λ (x : Desktop). done_with_name x ChangeFont) c.in-Ok.name
    _ _ c.change_look.new.source _ (kept_desktop c.change_look.new.desk)
    c.change_look.result read.reads read.cause c.in-Ok.is
    (λ h. c.as_name.ensures ∙ ap as_name (read.exact h)) (rw c.font_set-in-ChangeFont.ensures at c.change_look.ensures))
