use Rattle.std.proofs.Common.{rules, ◌∙◌, ℕ, List, Option, Ok, Some, sym, ap}
use Rattle.desktop_definitions.specs.Limits.{wrong_symbol, too_many_files}
use Rattle.desktop_definitions.specs.Needs.{needs, unless}
use Rattle.desktop_definitions.specs.Tables.{has_file_room}
use Rattle.desktop_definitions.specs.Desktop.{Desktop}
use Rattle.desktop_definitions.specs.Viewers.{main_of}
use Rattle.desktop_definitions.specs.Seen.{seen}
use Rattle.desktop_definitions.specs.Effects.{menu_name, after_store, stored_as}
use Rattle.desktop_definitions.proofs.RowLaws.{known_wrong_symbol}
use Rattle.desk_core.specs.Kept.{kept_desktop}
use Rattle.desk_commands.proofs.ReadFirst.{over_after, does_after, refused_after}
use Rattle.desk_commands.proofs.stores.store.Goals as goal

pub store_as-requires : goal.store_as-requires
store_as-requires g c = record {
  placed = c.requires.placed;
  over = over_after g.S.CharSource _ _ (kept_desktop c.args.desk.now) c.in_ok-name.ensures.reads c.requires.over;
}

pub returns-in-Some : goal.returns-in-Some
unfolding after_store
returns-in-Some g c =
    let read = c.in_ok-name.ensures in
    does_after g.S.CharSource g.met.S.CharSource.ground_through
    (λ (x : Desktop) (o : Option (List ℕ)). needs o wrong_symbol λ name.
    unless (has_file_room x.files name) too_many_files (Ok (stored_as x name (main_of x c.args.id))))
    (λ (x : Desktop). menu_name x c.args.id) (Some c.in-Some.name) _ _ c.store_as.new.source
    (kept_desktop c.args.desk.now) (kept_desktop c.store_as.new.desk) c.store_as.result read.reads read.cause
    (λ h. sym c.in-Some.is ∙ read.exact h) c.store_as.ensures

pub returns-in-None : goal.returns-in-None
unfolding after_store
returns-in-None g c = record {
  answered =
      let old = g.S.CharSource.characters c.args.source.now in
      let d = kept_desktop c.args.desk.now in
      refused_after g.S.CharSource (λ x. after_store x c.args.id) wrong_symbol _ _ d c.in_ok-name.ensures.reads
      c.requires.over known_wrong_symbol
      (λ h. ap (λ (o : Option (List ℕ)). needs o wrong_symbol λ name.
      unless (has_file_room (seen old d).files name) too_many_files
      (Ok (stored_as (seen old d) name (main_of (seen old d) c.args.id))))
      (sym (c.in_ok-name.ensures.exact h) ∙ c.in-None.is));
  uses = search (rules, g.met.S.CharSource.ground_self, g.met.S.CharSource.ground_through);
}
