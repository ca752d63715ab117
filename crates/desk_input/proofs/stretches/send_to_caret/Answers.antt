use Rattle.std.proofs.Common.{rules, ◌≡◌, ◌∙◌, length, sym, subst}
use Rattle.piece_ring.specs.Flat.{flat}
use Rattle.desktop_definitions.specs.Desktop.{KeptDesktop}
use Rattle.desktop_definitions.specs.Viewers.{with_selection}
use Rattle.desktop_definitions.specs.Change.{put_at_caret}
use Rattle.desktop_definitions.specs.Seen.{seen, seen_text}
use Rattle.desktop_definitions.specs.Changed.{IsChanged}
use Rattle.desktop_definitions.proofs.RowLaws.{known_no_selection, known_no_caret}
use Rattle.desktop_definitions.proofs.KeyLaws.{sent_empty, sent_none, sent_full, sent_answered}
use Rattle.desk_core.specs.Kept.{kept_desktop}
use Rattle.desk_core.proofs.StretchLemmas.{refused_effect, selected_built}
use Rattle.desk_input.proofs.stretches.send_to_caret.Goals as goal

pub returns-then-drawn : goal.returns-then-drawn
returns-then-drawn g c = record {
  answered =
      refused_effect c.requires.over known_no_selection (sent_empty _ _ c.if-drawn.true);
  uses = search (rules, g.met.S.CharSource.ground_self, g.met.S.CharSource.ground_through);
}

pub returns-in_default : goal.returns-in_default
unfolding seen
returns-in_default g c = record {
  answered =
      refused_effect c.requires.over known_no_caret
      (sent_none _ _ c.if-drawn.false (sym c.caret_place.ensures.is ∙ c.in_default.is));
  uses = search (rules, g.met.S.CharSource.ground_self, g.met.S.CharSource.ground_through);
}

pub returns-then-not-fits_more : goal.returns-then-not-fits_more
returns-then-not-fits_more g c = record {
  answered =
      let stands = c.in-Some.ensures in
      sent_full _ _ _ c.requires.over _ (sym stands.is) stands.stands.placed _ c.if-drawn.false c.requires.at.place
      (sym (c.fits_more.ensures _) ∙ c.if-not-fits_more.true);
  uses = search (rules, g.met.S.CharSource.ground_self, g.met.S.CharSource.ground_through);
}

pub put_at_caret-requires-clause-at : goal.put_at_caret-requires-clause-at
put_at_caret-requires-clause-at g c = record {
  built = selected_built _ c.requires.over c.requires.at c.if-drawn.false c.in_ok-select.ensures;
  stands = record { placed = c.in-Some.ensures.stands.placed; place = c.in-Some.ensures.stands.place };
}

pub put_at_caret-requires-clause-goes : goal.put_at_caret-requires-clause-goes
put_at_caret-requires-clause-goes g c =
    let goes = c.in_ok-copy.ensures.goes _ c.in-Some.caret.viewer c.requires.over in
    record { short = goes.short; within = goes.within; looks = goes.looks }

pub returns : goal.returns
returns g c = record {
  answered =
      let old = g.S.CharSource.characters c.args.source.now in
      let d = kept_desktop c.args.desk.now in
      let same : (record d { selections = c.select.new.selections.items }) ≡ with_selection d c.args.drawn =
      λ k. record d { selections = c.in_ok-select.ensures k } in
      let reads = c.in_ok-put_at_caret.ensures.reads in
      sent_answered _ old _ d (kept_desktop c.put_at_caret.new.self) c.requires.over reads.as_long reads.same d
      c.args.drawn c.in_ok-copy.copy c.if-drawn.false c.requires.at.place c.in_ok-copy.ensures.is c.in-Some.caret
      (sym c.in-Some.ensures.is) c.requires.at.placed
      (subst (λ (d : KeptDesktop). IsChanged (g.S.CharSource.honest c.args.source.now) old d
      (kept_desktop c.put_at_caret.new.self) (put_at_caret (seen old d)
      (seen_text old c.in_ok-copy.copy) c.in-Some.caret)
      (length (flat c.in_ok-copy.copy)) 0) same c.in_ok-put_at_caret.ensures.changed)
      (λ all. sym (c.fits_more.ensures all) ∙ c.if-not-fits_more.false);
  uses = search (rules, g.met.S.CharSource.ground_self, g.met.S.CharSource.ground_through);
}
