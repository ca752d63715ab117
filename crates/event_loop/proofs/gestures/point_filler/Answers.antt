use Rattle.std.specs.Prelude.{⊤}
use Rattle.std.proofs.Common.{rules, ◌++◌, ◌∙◌, ℕ, List, ap, append-nil}
use Rattle.desktop_definitions.specs.declared.reply.Reply.TheVariants.{Done}
use Rattle.desktop_definitions.specs.Seen.{seen}
use Rattle.desktop_definitions.specs.Step.{outcome_of}
use Rattle.desk_core.specs.Kept.{kept_desktop}
use Rattle.desk_core.proofs.ArmLemmas.{rest_done}
use Rattle.desk_core.proofs.UnreadLemmas.{over_all}
use Rattle.event_loop.proofs.GestureLemmas.{filler_rest, filler_brings}
use Rattle.event_loop.proofs.gestures.point_filler.Goals as goal

pub returns-in_default : goal.returns-in_default
returns-in_default g c =
    let other = c.in_default in
    let d = kept_desktop c.args.desk.now in
    record {
      answered = rest_done c.requires.over (filler_rest _ _ _ _ other.not-Middle);
      unread = λ all long.
          ap (λ (bytes : List ℕ). outcome_of (seen (all ++ bytes) d) Done) (filler_brings c.args.keys other.not-Middle)
          ∙ ap (λ (l : List ℕ). outcome_of (seen l d) Done) (append-nil all)
          ∙ (rest_done {H = ⊤} (over_all c.requires.over all long) (filler_rest _ _ _ _ other.not-Middle)).exact tt;
      uses = search (rules, g.met.S.CharSource.ground_self, g.met.S.CharSource.ground_through);
    }
