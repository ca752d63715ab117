use Rattle.std.specs.Prelude.{⊤}
use Rattle.std.proofs.Common.{rules, ◌≡◌, ◌++◌, ℕ, refl, ap, ◌∙◌, arith}
use Rattle.desktop_definitions.specs.Desktop.{KeptDesktop}
use Rattle.desktop_definitions.specs.Opening.{new_id}
use Rattle.desktop_definitions.proofs.OpeningDone.{new_fresh, can_open, can_open_more, opened_desk, written_opened}
use Rattle.desktop_definitions.proofs.OpeningDone.{whole_columns, opening_answered}
use Rattle.desk_core.specs.Kept.{kept_desktop}
use Rattle.desk_core.proofs.UnreadLemmas.{over_all}
use Rattle.desk_commands.proofs.OpeningLemmas.{answered_there, opened_counted}
use Rattle.desk_commands.proofs.documents.open_viewer.Goals as goal

pub add_text-requires : goal.add_text-requires
add_text-requires g c = (can_open (kept_desktop c.args.desk.now) c.requires.over.whole).texts

pub open_on-requires-clause-can : goal.open_on-requires-clause-can
open_on-requires-clause-can g c =
    let d = kept_desktop c.args.desk.now in
    can_open_more d c.add_text.new.texts.entries c.args.main c.requires.over.whole c.in_ok-number.ensures.texts

pub overflow_add-desk : goal.overflow_add-desk
overflow_add-desk g c =
    let d = kept_desktop c.args.desk.now in
    let cell : ℕ × ℕ = (c.args.x, c.args.y) in
    let opened = opened_desk d (kept_desktop c.open_on.new.desk) c.add_text.new.texts.entries c.in_ok-number.number
    c.in_ok-text.text c.args.main cell c.in_ok-number.ensures.texts c.in_ok-number.ensures.number
    c.in_ok-open_on.ensures in
    let written : c.open_on.new.desk.written ≡ d.written
    = ap (λ (x : KeptDesktop). x.written) opened ∙ written_opened d c.in_ok-text.text c.args.main cell in
    omega (arith, written, c.requires.room)

pub returns : goal.returns
returns g c = record {
  answered =
      let d = kept_desktop c.args.desk.now in
      let cell : ℕ × ℕ = (c.args.x, c.args.y) in
      let hold = whole_columns d c.requires.over.whole in
      answered_there (opened_counted d (kept_desktop c.open_on.new.desk) _ _ c.in_ok-text.text c.args.main cell _
      c.in_ok-number.ensures.texts c.in_ok-number.ensures.number c.in_ok-open_on.ensures)
      (opening_answered _ _ c.args.menu.now _ d _ cell c.requires.over c.in_ok-append.ensures.added c.in_ok-text.ensures
      (record {
        hold = c.edits_keep_columns.ensures.opened d.columns (new_id d) c.args.x c.args.y hold
            (new_fresh d c.requires.over.whole);
        places = λ w. c.edits_place_viewers.ensures.opened d.columns (new_id d) c.args.x c.args.y w hold;
      }) c.args.main c.requires.within c.requires.looks c.requires.fits);
  unread =
      λ all long.
      let d = kept_desktop c.args.desk.now in
      let cell : ℕ × ℕ = (c.args.x, c.args.y) in
      let hold = whole_columns d c.requires.over.whole in
      (answered_there (opened_counted d (kept_desktop c.open_on.new.desk) _ _ c.in_ok-text.text c.args.main cell _
      c.in_ok-number.ensures.texts c.in_ok-number.ensures.number c.in_ok-open_on.ensures)
      (opening_answered ⊤ all c.args.menu.now (all ++ c.args.menu.now) d _ cell (over_all c.requires.over all long) refl
      c.in_ok-text.ensures (record {
        hold = c.edits_keep_columns.ensures.opened d.columns (new_id d) c.args.x c.args.y hold
            (new_fresh d c.requires.over.whole);
        places = λ w. c.edits_place_viewers.ensures.opened d.columns (new_id d) c.args.x c.args.y w hold;
      }) c.args.main c.requires.within c.requires.looks c.requires.fits)).exact tt;
  uses = search (rules, g.met.S.CharSource.ground_self, g.met.S.CharSource.ground_through);
}
