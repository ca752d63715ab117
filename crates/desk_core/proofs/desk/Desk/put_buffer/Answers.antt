use Rattle.std.proofs.Common.{rules, ◌++◌, ◌∙◌, List, ap, sym}
use Rattle.piece_ring.specs.declared.piece.Piece.{Piece}
use Rattle.piece_ring.specs.Flat.{flat}
use Rattle.desktop_definitions.specs.Seen.{seen, seen_text}
use Rattle.desktop_definitions.proofs.RowLaws.{known_no_caret, over_built}
use Rattle.desktop_definitions.specs.DeskWords.{has_space}
use Rattle.desktop_definitions.proofs.SearchLaws.{put_none, put_full, put_answered}
use Rattle.desk_core.specs.Kept.{kept_desktop}
use Rattle.desk_core.proofs.StretchLemmas.{refused_effect, buffer_goes}
use Rattle.desk_core.proofs.BufferLemmas.{buffer_seen}
use Rattle.desk_core.proofs.UnreadLemmas.{refusal_is}
use Rattle.desk_core.proofs.desk.Desk.put_buffer.Goals as goal

pub returns-in_default : goal.returns-in_default
returns-in_default g c = record {
  answered =
      refused_effect c.requires.over known_no_caret
      (put_none _ (kept_desktop c.args.self.now) _ (sym c.caret_place.ensures.is ∙ c.in_default.is));
  unread = λ calm all long.
      refusal_is (put_none all (kept_desktop c.args.self.now) _ (sym c.caret_place.ensures.is ∙ c.in_default.is));
  uses = search (rules, g.met.S.CharSource.ground_self, g.met.S.CharSource.ground_through);
}

pub returns-then-not-fits_more : goal.returns-then-not-fits_more
returns-then-not-fits_more g c = record {
  answered =
      let old = g.S.CharSource.characters c.args.source.now in
      let d = kept_desktop c.args.self.now in
      put_full _ old d c.buffer-buffer.result.now _ c.requires.over
      (ap (seen_text old) c.buffer-buffer.ensures ∙ buffer_seen old d c.args.buffer) c.in-Some.caret
      (sym c.in-Some.ensures.is) c.in-Some.ensures.stands.placed
      (ap (λ n. has_space (seen old d) 0 n 0) (sym c.len.ensures)
      ∙ sym (c.fits_more.ensures old) ∙ c.if-not-fits_more.true);
  unread = search (rules, g.met.S.CharSource.ground_self, g.met.S.CharSource.ground_through);
  uses = search (rules, g.met.S.CharSource.ground_self, g.met.S.CharSource.ground_through);
}

pub put_at_caret-requires-clause-at : goal.put_at_caret-requires-clause-at
put_at_caret-requires-clause-at g c = record {
  built = over_built _ (kept_desktop c.args.self.now) c.requires.over;
  stands = c.in-Some.ensures.stands;
}

pub put_at_caret-requires-clause-goes : goal.put_at_caret-requires-clause-goes
put_at_caret-requires-clause-goes g c =
    buffer_goes c.args.buffer _ c.requires.over (c.in_ok-copy_to.ensures.added
    ∙ ap (λ (l : List Piece). flat l ++ flat c.buffer-buffer.result.now) c.in_ok-copy.ensures
    ∙ ap flat c.buffer-buffer.ensures)

pub returns : goal.returns
returns g c = record {
  answered =
      let old = g.S.CharSource.characters c.args.source.now in
      let d = kept_desktop c.args.self.now in
      let reads = c.in_ok-put_at_caret.ensures.reads in
      put_answered _ old d c.buffer-buffer.result.now _ c.requires.over
      (ap (seen_text old) c.buffer-buffer.ensures ∙ buffer_seen old d c.args.buffer) c.in-Some.caret
      (sym c.in-Some.ensures.is) _ _ c.copy_to.new.other reads.as_long reads.same
      (c.in_ok-copy_to.ensures.added
      ∙ ap (λ (l : List Piece). flat l ++ flat c.buffer-buffer.result.now) c.in_ok-copy.ensures)
      c.in_ok-put_at_caret.ensures.changed
      (λ all. ap (λ n. has_space (seen all d) 0 n 0) (sym c.len.ensures)
      ∙ sym (c.fits_more.ensures all) ∙ c.if-not-fits_more.false);
  unread = search (rules, g.met.S.CharSource.ground_self, g.met.S.CharSource.ground_through);
  uses = search (rules, g.met.S.CharSource.ground_self, g.met.S.CharSource.ground_through);
}
