-- What a click would lose, by the command that is found.
use Rattle.std.specs.Prelude.{◌≡◌, ◌&&◌, ⊤, ℕ, Bool, true, false, if◌then◌else◌, List, Option, Some, None, Result, IfOk}
use Rattle.std.proofs.Common.{refl, sym, ap, ◌∙◌}
use Rattle.std.proofs.lemmas.Bool.{and_parts}
use Rattle.std.proofs.lemmas.Result.{IfOk-weaker}
use Rattle.char_file.specs.declared.source.CharSource.{Ghosts}
use Rattle.piece_ring.specs.declared.piece.Piece.{Piece}
use Rattle.piece_ring.specs.Flat.{flat}
use Rattle.readers_scanners.specs.Reading.{bytes_of_text}
use Rattle.command_table.specs.declared.command.Command.{Command}
use Rattle.command_table.specs.Call.{called_at}
use Rattle.command_table.specs.Versions.{newest_version}
use Rattle.desktop_definitions.specs.declared.call.Call.{Call}
use Rattle.desktop_definitions.specs.declared.region.Region.{Region}
use Rattle.desktop_definitions.specs.Desktop.{Desktop, KeptDesktop}
use Rattle.desktop_definitions.specs.Change.{bytes_of}
use Rattle.desktop_definitions.specs.Call.{text_called, target_viewer}
use Rattle.desktop_definitions.specs.Commands.{command_at}
use Rattle.desktop_definitions.specs.Gesture.{is_on_display, region_at}
use Rattle.desktop_definitions.specs.Seen.{seen}
use Rattle.desktop_definitions.specs.Sound.{IsOver}
use Rattle.desktop_definitions.specs.Step.{marked}
use Rattle.desktop_definitions.proofs.CallLaws.{called_read}
use Rattle.desk_core.specs.Reads.{TellsValue}
use Rattle.desk_core.proofs.MarkLemmas.{mark_answered}
use Rattle.desk_core.proofs.PositionLemmas.{region_seen}
use Rattle.desk_views.specs.declared.losses.Loss.{Loss}
use Rattle.desk_views.specs.Losses.{lost_by, lost_by_found, lost_by_call, lost_in, lost_by_click, loss_at}

-- what is told of a desktop is said of another one
pub tells_from : {S T E : Type 0} (s : Ghosts S) (old new : S) (d later : KeptDesktop) (there said : Desktop → T)
    (result : Result T E) → there (seen (s.characters old) later) ≡ said (seen (s.characters old) d)
    → TellsValue s result there old new later → TellsValue s result said old new d
tells_from s old new d later there said result same before = record {
  exact = IfOk-weaker result _ _ (λ told is h. is h ∙ same) before.exact;
  reads = before.reads;
  cause = before.cause;
}

module _ (characters : List ℕ) (d : KeptDesktop) where
  -- ---- the word

  pub found_read : (v : ℕ) (in_menu : Bool) (p : ℕ) (text : List Piece) (found : Option (Command × ℕ))
      → text ≡ text_called d v in_menu → found ≡ called_at newest_version (bytes_of_text characters (flat text)) p
      → found ≡ command_at newest_version (bytes_of (text_called (seen characters d) v in_menu)) p
  found_read v in_menu p text found text_is is =
      is ∙ ap (λ (t : List Piece). called_at newest_version (bytes_of_text characters (flat t)) p) text_is
      ∙ called_read newest_version characters d v in_menu p

  pub lost_by_none : (v : ℕ) (in_menu : Bool) (p : ℕ) (found : Option (Command × ℕ)) → found ≡ None
      → found ≡ command_at newest_version (bytes_of (text_called (seen characters d) v in_menu)) p
      → None ≡ lost_by_call (seen characters d) v in_menu p
  unfolding lost_by_call
  lost_by_none v in_menu p found is found_is = ap (lost_by_found (seen characters d) v in_menu) (sym is ∙ found_is)

  pub lost_by_one : (v : ℕ) (in_menu : Bool) (p : ℕ) (command : Command) (after : ℕ) (meant : Option ℕ)
      → meant ≡ target_viewer d (record { viewer = v; in_menu = in_menu; after = after })
      → Some (command, after) ≡ command_at newest_version (bytes_of (text_called (seen characters d) v in_menu)) p
      → lost_by (seen characters d) command meant ≡ lost_by_call (seen characters d) v in_menu p
  unfolding lost_by_call seen
  lost_by_one v in_menu p command after meant meant_is is =
      ap (lost_by (seen characters d) command) meant_is ∙ ap (lost_by_found (seen characters d) v in_menu) is

  -- ---- the cells

  module _ (from to : ℕ × ℕ) where
    pub click_outside : (is_on_display from.0 from.1 && is_on_display to.0 to.1) ≡ false
        → None ≡ lost_by_click (seen characters d) from to
    unfolding lost_by_click
    click_outside is = ap (λ (b : Bool). let o : Option Loss =
        if b then lost_in (seen characters d) (region_at (seen characters d) from.0 from.1) to else None in o) (sym is)

    pub click_inside : (region : Region) → (is_on_display from.0 from.1 && is_on_display to.0 to.1) ≡ true
        → region ≡ region_at d from.0 from.1
        → lost_in (seen characters d) region to ≡ lost_by_click (seen characters d) from to
    unfolding lost_by_click
    click_inside region on is =
        ap (λ (r : Region). lost_in (seen characters d) r to) (is ∙ sym (region_seen characters d from.0 from.1))
        ∙ ap (λ (b : Bool). let o : Option Loss =
        if b then lost_in (seen characters d) (region_at (seen characters d) from.0 from.1) to else None in o) (sym on)

    -- ---- the marker

    pub unmarked_click : (mark : Option (ℕ × ℕ)) → mark ≡ None
        → lost_by_click (seen characters d) from to ≡ loss_at (seen characters d) mark from to
    unfolding loss_at
    unmarked_click mark is = ap (λ (m : Option (ℕ × ℕ)). loss_at (seen characters d) m from to) (sym is)

    module _ (mark : Option (ℕ × ℕ)) (cell : ℕ × ℕ) (is : mark ≡ Some cell) where
      abbrev Marked : Bool → Option Loss
      Marked b = if b then lost_by_click (marked (seen characters d) cell.0 cell.1) from to else None

      both_same : (b : Bool) → (b && b) ≡ b
      both_same true = refl
      both_same false = refl

      marked_is : (b : Bool) → (is_on_display cell.0 cell.1 && is_on_display cell.0 cell.1) ≡ b
          → Marked b ≡ loss_at (seen characters d) mark from to
      unfolding loss_at
      marked_is b on = ap Marked (sym on ∙ both_same (is_on_display cell.0 cell.1))
          ∙ ap (λ (m : Option (ℕ × ℕ)). loss_at (seen characters d) m from to) (sym is)

      pub marked_outside : (is_on_display cell.0 cell.1 && is_on_display cell.0 cell.1) ≡ false
          → None ≡ loss_at (seen characters d) mark from to
      marked_outside on = marked_is false on

      pub marked_click : (is_on_display cell.0 cell.1 && is_on_display cell.0 cell.1) ≡ true
          → lost_by_click (seen characters (marked d cell.0 cell.1)) from to ≡ loss_at (seen characters d) mark from to
      unfolding seen marked
      marked_click on = marked_is true on

pub over_marked : (characters : List ℕ) (d : KeptDesktop) (cell : ℕ × ℕ) → IsOver characters d
    → (is_on_display cell.0 cell.1 && is_on_display cell.0 cell.1) ≡ true → IsOver characters (marked d cell.0 cell.1)
over_marked characters d cell over on =
    (mark_answered ⊤ characters d over cell.0 cell.1 (both cell.0 cell.1 on)).over
  where
    both : (x y : ℕ) → (is_on_display x y && is_on_display x y) ≡ true → is_on_display x y ≡ true
    both x y is = (and_parts (is_on_display x y) (is_on_display x y) is).0
