use Rattle.std.specs.Prelude.{⊤, ◌&&◌}
use Rattle.std.proofs.Common.{rules, ◌∙◌, refl, sym, ap}
use Rattle.command_table.specs.Versions.{version_number}
use Rattle.desktop_definitions.specs.declared.region.Region.TheVariants.{Body}
use Rattle.desktop_definitions.specs.Desktop.{Desktop}
use Rattle.desktop_definitions.specs.Seen.{seen}
use Rattle.desktop_definitions.specs.Step.{raw, step_in}
use Rattle.desktop_definitions.specs.Gesture.{is_on_display, region_at, pointed, done_in_filler, done_in_menu, done_in_bar}
use Rattle.desktop_definitions.specs.Unread.{gesture_brings, StepsUnread}
use Rattle.desk_core.specs.Kept.{kept_desktop}
use Rattle.desk_core.proofs.MarkLemmas.{outside_answered, both_inside}
use Rattle.desk_core.proofs.UnreadLemmas.{over_all}
use Rattle.event_loop.proofs.GestureLemmas.{does_there, does_pointed, none_between, some_between}
use Rattle.event_loop.proofs.gestures.point.Goals as goal

pub returns-in_default : goal.returns-in_default
unfolding raw step_in StepsUnread
returns-in_default g c =
    let d = kept_desktop c.args.desk.now in
    let from = c.args.gesture.from in
    let to = c.args.gesture.to in
    let inside = is_on_display from.0 from.1 && is_on_display to.0 to.1 in
    let is = none_between inside (region_at d from.0 from.1) (sym c.in_default.is ∙ c.requires.region.found) in
    record {
      answered = outside_answered _ _ d c.requires.over inside _ is;
      unread = λ h all long. (outside_answered ⊤ all d (over_all c.requires.over all long) inside _ is).exact tt;
      uses = search (rules, g.met.S.CharSource.ground_self, g.met.S.CharSource.ground_through);
    }

pub point_filler-requires-clause-cell : goal.point_filler-requires-clause-cell
point_filler-requires-clause-cell g c =
    (both_inside c.args.gesture.from.0 c.args.gesture.from.1 c.args.gesture.to.0 c.args.gesture.to.1
    (some_between _ _ _ (sym c.in-Some.is ∙ c.requires.region.found)).0).0

pub returns-in-Filler : goal.returns-in-Filler
unfolding pointed
returns-in-Filler g c =
    let there = some_between _ _ _ (sym c.in-Some.is ∙ c.requires.region.found) in
    does_there g.S.CharSource (version_number c.args.version) there.0 (sym c.in-Filler.is ∙ there.1)
    (λ x. done_in_filler x c.args.gesture.keys c.args.gesture.from.0 c.args.gesture.from.1) (λ all. refl)
    c.point_filler.ensures.answered (λ h. c.point_filler.ensures.unread) c.point_filler.ensures.uses

pub point_menu-requires-clause-placed : goal.point_menu-requires-clause-placed
point_menu-requires-clause-placed g c = rw c.in-Menu.is at (rw c.in-Some.is at c.requires.region.stands)

pub point_menu-requires-clause-cell : goal.point_menu-requires-clause-cell
point_menu-requires-clause-cell g c =
    (both_inside c.args.gesture.from.0 c.args.gesture.from.1 c.args.gesture.to.0 c.args.gesture.to.1
    (some_between _ _ _ (sym c.in-Some.is ∙ c.requires.region.found)).0).1

pub returns-in-Menu : goal.returns-in-Menu
unfolding pointed gesture_brings
returns-in-Menu g c =
    let there = some_between _ _ _ (sym c.in-Some.is ∙ c.requires.region.found) in
    does_pointed g.S.CharSource (version_number c.args.version) there.0 (sym c.in-Menu.is ∙ there.1)
    (λ (x : Desktop). done_in_menu (version_number c.args.version) x c.args.gesture.keys c.in-Menu.id
    c.args.gesture.to.0 c.args.gesture.to.1) (λ all. refl) refl c.point_menu.ensures

pub frame_row-row-requires : goal.frame_row-row-requires
frame_row-row-requires g c = record { placed = (rw c.in-Bar.is at (rw c.in-Some.is at c.requires.region.stands)).0 }

pub returns-in-Bar : goal.returns-in-Bar
unfolding seen pointed gesture_brings
returns-in-Bar g c =
    let there = some_between _ _ _ (sym c.in-Some.is ∙ c.requires.region.found) in
    does_pointed g.S.CharSource (version_number c.args.version) there.0 (sym c.in-Bar.is ∙ there.1)
    (λ (x : Desktop). done_in_bar x c.args.gesture.keys c.in-Bar.id c.frame_row-row.result)
    (λ all. ap (done_in_bar (seen all (kept_desktop c.args.desk.now)) c.args.gesture.keys c.in-Bar.id)
    c.frame_row-row.ensures) refl
    c.point_bar.ensures

pub returns-in-Body : goal.returns-in-Body
unfolding gesture_brings
returns-in-Body g c =
    let there = some_between _ _ _ (sym c.in-Some.is ∙ c.requires.region.found) in
    does_pointed g.S.CharSource (version_number c.args.version) there.0 (sym c.in-Body.is ∙ there.1)
    (λ (x : Desktop). pointed (version_number c.args.version) x (Body c.in-Body.id) c.args.gesture.keys
    c.args.gesture.from.0 c.args.gesture.from.1 c.args.gesture.to.0 c.args.gesture.to.1) (λ all. refl) refl c.point_text.ensures
