use Rattle.std.proofs.Common.{◌∙◌, ◌++◌, [], ◌∷◌, map, refl, sym, ap}
use Rattle.viewer_tracks.specs.declared.display.Track.TheVariants.{User, System}
use Rattle.desktop_definitions.specs.declared.entry.Entry.TheVariants.{Written}
use Rattle.desktop_definitions.specs.Desktop.{KeptDesktop}
use Rattle.desktop_definitions.specs.Seen.{seen}
use Rattle.desktop_definitions.specs.Listing.{entries_of, column_entries}
use Rattle.desktop_definitions.specs.Unread.{without_name, ListsUnread}
use Rattle.desk_core.specs.Kept.{kept_desktop}
use Rattle.desk_core.proofs.ListLemmas.{list_whole, parts_told}
use Rattle.event_loop.proofs.desktop.Desktop.list.Goals as goal

pub returns-clause-entries : goal.returns-clause-entries
returns-clause-entries g c = λ honest.
    let characters = g.S.CharSource.characters c.args.source.now in
    let d = kept_desktop c.self.inside.desk in
    let first = c.in_ok-list_column.ensures.reads in
    list_whole characters d c.in_ok-entries.entries.items c.list_column.new.entries.items
    c.list_column-2.new.entries.items c.push.new.self.items
    (c.in_ok-entries.ensures.entries characters) (c.in_ok-list_column.ensures.entries honest)
    (c.in_ok-list_column-2.ensures.entries (first.still honest)
    ∙ (λ k. c.list_column.new.entries.items ++ column_entries (seen (first.same honest k) d) System))
    c.in_ok-push.ensures.items
    ∙ ap (λ (d : KeptDesktop). entries_of (seen characters d)) c.self.view_is

pub returns-clause-unread : goal.returns-clause-unread
unfolding ListsUnread
returns-clause-unread g c = λ all long.
    let d = kept_desktop c.self.inside.desk in
    let as_written = long ∙ sym (ap (λ (d : KeptDesktop). d.written) c.self.view_is) in
    let files = c.in_ok-entries.entries.items in
    let user = column_entries (seen all d) User in
    let system = column_entries (seen all d) System in
    parts_told without_name files user system (Written d.written ∷ []) c.list_column.new.entries.items
    c.list_column-2.new.entries.items c.push.new.self.items (c.in_ok-list_column.ensures.unread all as_written)
    (c.in_ok-list_column-2.ensures.unread all as_written) c.in_ok-push.ensures.items
    ∙ ap (map without_name) (list_whole all d files (files ++ user) ((files ++ user) ++ system)
    (((files ++ user) ++ system) ++ Written d.written ∷ []) (c.in_ok-entries.ensures.entries all) refl refl refl)
    ∙ ap (λ (d : KeptDesktop). map without_name (entries_of (seen all d))) c.self.view_is
