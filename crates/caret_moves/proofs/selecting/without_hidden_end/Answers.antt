use Rattle.std.proofs.Common.{◌∙◌, ◌≡◌, arith}
use Rattle.std.specs.Prelude.{min}
use Rattle.desktop_definitions.specs.Seen.{seen}
use Rattle.desk_core.specs.Kept.{kept_desktop}
use Rattle.caret_moves.proofs.StretchTold.{part_told}
use Rattle.caret_moves.proofs.selecting.without_hidden_end.Goals as goal

pub returns-clause-told : goal.returns-clause-told
returns-clause-told g c =
    let old = g.S.CharSource.characters c.args.source.now in
    let d = kept_desktop c.args.desk.now in
    let first = c.in_ok-stop.ensures.told in
    let least : c.min.result ≡ min c.args.stretch.beg c.in_ok-stop.stop =
    (let is = c.min.ensures in omega (arith, is)) in
    record {
      exact = λ h. (λ k. record { viewer = c.args.stretch.viewer; beg = least k; end = c.in_ok-stop.stop })
          ∙ part_told (seen old d) c.args.stretch c.in_ok-stop.stop (first.exact h);
      reads = first.reads;
      cause = first.cause;
    }
