use Rattle.std.proofs.Common.{rules, ℕ, IsSome, subst, sym}
use Rattle.viewer_tracks.specs.Columns.{IsOnTop}
use Rattle.desktop_definitions.specs.Tables.{text_numbered}
use Rattle.desktop_definitions.proofs.RowLaws.{main_kept}
use Rattle.desktop_definitions.proofs.RowPartLaws.{put_in_changed}
use Rattle.desktop_definitions.proofs.KeyLaws.{room_after}
use Rattle.desk_core.specs.Kept.{kept_desktop}
use Rattle.desktop_definitions.proofs.PlaceLaws.{on_top_placed}
use Rattle.desk_core.proofs.desk.Desk.put_in.Goals as goal

pub insert-requires-clause-at : goal.insert-requires-clause-at
insert-requires-clause-at g c = record {
  built = c.requires.at.built;
  there = subst (λ (n : ℕ). IsSome (text_numbered c.args.self.now.texts.entries n)) (sym c.main_of-number.ensures)
      (main_kept _ (kept_desktop c.args.self.now) c.requires.at.built c.args.id
      (on_top_placed c.args.self.now.tracks c.args.id c.requires.at.stands.placed));
  place = search rules;
}

pub show_caret-requires-clause-at : goal.show_caret-requires-clause-at
show_caret-requires-clause-at g c = record {
  placed = subst (IsOnTop c.args.id) (sym c.in_ok-insert.ensures.columns) c.requires.at.stands.placed;
  place = room_after (kept_desktop c.args.self.now) (kept_desktop c.insert.new.self) c.args.id c.args.pos c.main_of-number.result
      c.len-len.result _ c.main_of-number.ensures c.len-len.ensures c.in_ok-insert.ensures.changed.rest.viewers
      c.requires.at.stands.place c.in_ok-insert.ensures.longer;
}

pub returns-clause-changed : goal.returns-clause-changed
returns-clause-changed g c =
    let reads = c.in_ok-insert.ensures.reads in
    put_in_changed (g.S.CharSource.characters c.args.source.now) (g.S.CharSource.characters c.insert.new.source)
    (kept_desktop c.args.self.now) (kept_desktop c.insert.new.self) (kept_desktop c.show_caret.new.self) reads.still
    reads.as_long reads.same
    c.args.id c.args.pos c.main_of-number.result c.len-len.result c.args.buffer.now c.main_of-number.ensures
    c.len-len.ensures c.in_ok-insert.ensures.changed c.in_ok-show_caret.ensures.changed
