use Rattle.std.proofs.Common.{◌∙◌}
use Rattle.desktop_definitions.specs.Seen.{seen}
use Rattle.desk_core.specs.Kept.{kept_desktop}
use Rattle.caret_moves.proofs.StretchTold.{anchor_seen, anchor_told}
use Rattle.caret_moves.proofs.selecting.anchor_in.Goals as goal

pub returns-clause-told : goal.returns-clause-told
returns-clause-told g c =
    let old = g.S.CharSource.characters c.args.source.now in
    let d = kept_desktop c.args.desk.now in
    let first = c.in_ok-stop.ensures.told in
    record {
      exact = λ h. c.anchor_by.ensures.anchor ∙ anchor_seen old d c.args.id c.args.pos c.in_ok-stop.stop
          ∙ anchor_told (seen old d) c.args.id c.args.pos c.in_ok-stop.stop (first.exact h);
      reads = first.reads;
      cause = first.cause;
    }
