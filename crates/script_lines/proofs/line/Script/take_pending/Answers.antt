use Rattle.std.proofs.Common.{◌≡◌, ◌∙◌, ◌++◌, ◌+◌, List, ℕ, ap, subst, sym, take}
use Rattle.std.specs.List.{between}
use Rattle.screen_pictures.specs.Printed.{ended_line}
use Rattle.script_lines.specs.Script.{IsLine}
use Rattle.script_lines.specs.Reading.{HoldsLine, Unplayed}
use Rattle.script_lines.proofs.Feeds.{no_feed, before_feed, behind_feed, between_behind, between_none}
use Rattle.script_lines.proofs.line.Script.take_pending.Goals as goal

pub returns-in-Some-clause-feed : goal.returns-in-Some-clause-feed
returns-in-Some-clause-feed c = λ taken.
    let pending : List ℕ = between c.self.inside.next c.self.inside.end c.self.inside.piece in
    let is : c.args.self.now.pending ≡ pending = sym (ap (λ (v : Unplayed). v.pending) c.self.view_is) in (
      take c.in-Some.feed pending,
      before_feed pending c.in-Some.feed (sym c.in-Some.ensures.first),
      is ∙ behind_feed pending c.in-Some.feed (sym c.in-Some.ensures.first)
          ∙ ap (λ l. ended_line (take c.in-Some.feed pending) ++ l)
          (sym (between_behind c.self.inside.piece c.self.inside.next (c.in-Some.feed + 1) c.self.inside.end)),
      c.extend.ensures,
    )

pub returns-in-None-clause-none : goal.returns-in-None-clause-none
returns-in-None-clause-none c = λ none.
    let pending : List ℕ = between c.self.inside.next c.self.inside.end c.self.inside.piece in
    let is : c.args.self.now.pending ≡ pending = sym (ap (λ (v : Unplayed). v.pending) c.self.view_is) in (
      between_none c.self.inside.piece c.self.inside.end,
      subst IsLine (sym is) (no_feed pending (sym c.in-None.ensures.first)),
      subst (λ l. (before : List ℕ) → HoldsLine c.args.line.now before → HoldsLine c.extend-in-None.new.self (before ++ l))
          (sym is) c.extend-in-None.ensures,
    )
