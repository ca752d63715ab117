use Rattle.std.specs.Prelude.{ℤ, ℕ, Result, IfErr}
use Rattle.std.proofs.Common.{rules, ap, sym, subst, ◌∙◌}
use Rattle.sector_disk.specs.Faults.{OneOf}
use Rattle.desktop_definitions.specs.Desktop.{Desktop}
use Rattle.desktop_definitions.specs.Outcome.{reply_codes}
use Rattle.desktop_definitions.specs.Call.{number_in, value_of, as_number}
use Rattle.desktop_definitions.specs.Commands.{done_with_number}
use Rattle.desk_core.specs.Kept.{kept_desktop}
use Rattle.desk_commands.proofs.CallLemmas.{known_choice, refused_given}
use Rattle.desk_commands.proofs.calls.command_with_number.Goals as goal

pub returns-in-Err : goal.returns-in-Err
returns-in-Err g c = record {
  answered =
      let read = c.in_ok-value.ensures.told in
      refused_given g.S.CharSource (λ (x : Desktop). as_number (value_of x c.args.call))
      (λ (x : Desktop). done_with_number x c.args.command) c.in-Err.code _ _ (kept_desktop c.args.desk.now)
      read.reads c.requires.over
      (subst (λ (r : Result ℤ ℕ). IfErr r (OneOf reply_codes)) (sym c.as_number.ensures ∙ c.in-Err.is)
      (known_choice number_in c.in_ok-value.value c.in_ok-value.ensures.kind)) c.in-Err.is
      (λ h. c.as_number.ensures ∙ ap as_number (read.exact h));
  uses = search (rules, g.met.S.CharSource.ground_self, g.met.S.CharSource.ground_through);
}
