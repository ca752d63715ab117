use Rattle.std.proofs.Common.{subst, sym}
use Rattle.char_file.proofs.Reading.{read_on}
use Rattle.viewer_tracks.specs.Columns.{IsOnTop}
use Rattle.desktop_definitions.proofs.RowPartLaws.{cut_out_changed}
use Rattle.desktop_definitions.proofs.KeyLaws.{room_left}
use Rattle.desk_core.specs.Kept.{kept_desktop}
use Rattle.desk_core.proofs.desk.Desk.cut_out.Goals as goal

pub show_caret-requires-clause-at : goal.show_caret-requires-clause-at
show_caret-requires-clause-at g c = record {
  placed = subst (IsOnTop c.args.selection.viewer) (sym c.in_ok-taken.ensures.columns) c.requires.at.placed;
  place = room_left (kept_desktop c.args.self.now) (kept_desktop c.delete.new.self) c.args.selection.viewer c.args.selection.beg
      c.args.selection.end c.main_of-number.result c.main_of-number.ensures
      c.in_ok-taken.ensures.changed.rest.viewers c.requires.some c.requires.at.place c.in_ok-taken.ensures.shorter;
}

pub returns-clause-changed : goal.returns-clause-changed
returns-clause-changed g c =
    let reads = c.in_ok-taken.ensures.reads in
    cut_out_changed (g.S.CharSource.characters c.args.source.now) (g.S.CharSource.characters c.delete.new.source)
    (kept_desktop c.args.self.now) (kept_desktop c.delete.new.self) (kept_desktop c.show_caret.new.self) reads.still
    reads.as_long reads.same
    c.args.selection c.main_of-number.result c.main_of-number.ensures
    c.in_ok-taken.ensures.changed c.in_ok-show_caret.ensures.changed

pub returns-clause-reads : goal.returns-clause-reads
returns-clause-reads g c =
    let s = g.S.CharSource in
    read_on s.characters s.failures s.honest s.same_ground g.met.S.CharSource.ground_through _ _ _
    c.in_ok-taken.ensures.reads c.in_ok-show_caret.ensures.reads
