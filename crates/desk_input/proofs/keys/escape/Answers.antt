use Rattle.std.proofs.Common.{sym, subst, List, None}
use Rattle.desktop_definitions.specs.declared.viewer.Selection.{Selection}
use Rattle.desktop_definitions.specs.declared.reply.Reply.TheVariants.{Done}
use Rattle.event_bytes.specs.declared.keys.Key.TheVariants.{Escape}
use Rattle.desktop_definitions.specs.Keys.{without_marks, after_key}
use Rattle.desktop_definitions.specs.Seen.{seen}
use Rattle.desktop_definitions.specs.Step.{outcome_after}
use Rattle.desktop_definitions.specs.Outcome.{IsAnswered}
use Rattle.desktop_definitions.proofs.KeyLaws.{escape_answered}
use Rattle.desk_core.specs.Kept.{kept_desktop}
use Rattle.desk_input.proofs.StillLemmas.{does_unread}
use Rattle.desk_input.proofs.keys.escape.Goals as goal

pub returns : goal.returns
unfolding without_marks
returns g c =
    let d = kept_desktop c.args.desk.now in
    does_unread g.S.CharSource g.met.S.CharSource.ground_self _ _ d _ _ c.requires
    (λ H all over. subst (λ (selections : List Selection). IsAnswered H all all d
    (record d { caret = None; selections = selections; marker = None })
    (outcome_after (seen all d) (after_key (seen all d) Escape)) Done) (sym c.clear.ensures.items)
    (escape_answered H all d over))
