use Rattle.std.proofs.Common.{◌∙◌, List, [], length, refl, sym, ap, subst}
use Rattle.std.specs.Prelude.{IsSome}
use Rattle.piece_ring.specs.declared.piece.Piece.{Piece}
use Rattle.piece_ring.specs.Flat.{flat}
use Rattle.piece_ring.specs.Text.{AreWithin}
use Rattle.readers_scanners.specs.Reading.{contents}
use Rattle.desktop_definitions.specs.declared.viewer.Viewer.{Viewer}
use Rattle.desktop_definitions.specs.declared.entry.Entry.TheVariants.{Viewer as ViewerEntry}
use Rattle.desktop_definitions.specs.Tables.{text_numbered}
use Rattle.desktop_definitions.specs.Viewers.{text_in, viewer_or_none}
use Rattle.desktop_definitions.specs.Listing.{listed_name}
use Rattle.desktop_definitions.specs.Unread.{without_name}
use Rattle.desktop_definitions.proofs.SeenLaws.{within_counted}
use Rattle.desktop_definitions.proofs.ViewLaws.{viewer_entry_seen}
use Rattle.desktop_definitions.proofs.TextLaws.{text_within}
use Rattle.desk_core.specs.Kept.{kept_desktop}
use Rattle.desk_core.proofs.ViewLemmas.{menu_there, main_there}
use Rattle.desk_views.proofs.views.entry_of.Goals as goal

pub text_there-menu-requires : goal.text_there-menu-requires
text_there-menu-requires g c =
    subst (λ (v : Viewer). IsSome (text_numbered c.args.desk.now.texts.entries v.menu)) (sym c.viewer_or_none-viewer.ensures)
    (menu_there (kept_desktop c.args.desk.now) c.requires.over.whole c.args.id.0 c.requires.placed)

pub text_there-main-requires : goal.text_there-main-requires
text_there-main-requires g c =
    subst (λ (v : Viewer). IsSome (text_numbered c.args.desk.now.texts.entries v.main)) (sym c.viewer_or_none-viewer.ensures)
    (main_there (kept_desktop c.args.desk.now) c.requires.over.whole c.args.id.0 c.requires.placed)

pub menu_name-requires : goal.menu_name-requires
menu_name-requires g c =
    let d = kept_desktop c.args.desk.now in
    let n = length (g.S.CharSource.characters c.args.source.now) in
    subst (λ (pieces : List Piece). AreWithin n (flat pieces)) (sym c.text_there-menu.ensures)
    (text_within n d.texts c.viewer_or_none-viewer.result.menu
    (within_counted (g.S.CharSource.characters c.args.source.now) d c.requires.over).texts)

pub returns-clause-entry : goal.returns-clause-entry
returns-clause-entry g c = λ honest.
    let d = kept_desktop c.args.desk.now in
    let characters = g.S.CharSource.characters c.args.source.now in
    let v = c.args.id.0 in
    let is = c.viewer_or_none-viewer.ensures in
    let menu = c.text_there-menu.ensures ∙ ap (λ (w : Viewer). text_in d.texts w.menu) is in
    let main = c.text_there-main.ensures ∙ ap (λ (w : Viewer). text_in d.texts w.main) is in
    (λ k. ViewerEntry (c.left.ensures k) (c.place_of-place.ensures.bottom k) (c.place_of-place.ensures.top k)
    c.in_ok-name.name c.len.result)
    ∙ viewer_entry_seen characters d c.args.track v c.in_ok-name.name c.len.result
    (c.in_ok-name.ensures.name honest
    ∙ ap (λ (pieces : List Piece). listed_name (contents characters (flat pieces))) menu)
    (c.len.ensures ∙ ap (λ (pieces : List Piece). length (flat pieces)) main)

pub returns-clause-unread : goal.returns-clause-unread
returns-clause-unread g c = λ all long.
    let d = kept_desktop c.args.desk.now in
    let v = c.args.id.0 in
    let is = c.viewer_or_none-viewer.ensures in
    let main = c.text_there-main.ensures ∙ ap (λ (w : Viewer). text_in d.texts w.main) is in
    let menu = text_in d.texts (viewer_or_none d.viewers v).menu in
    (λ k. ViewerEntry (c.left.ensures k) (c.place_of-place.ensures.bottom k) (c.place_of-place.ensures.top k)
    [] c.len.result)
    ∙ ap without_name (viewer_entry_seen all d c.args.track v (listed_name (contents all (flat menu))) c.len.result refl
    (c.len.ensures ∙ ap (λ (pieces : List Piece). length (flat pieces)) main))
