-- Laws of calls: what a command takes of a desktop that is kept, and how that is seen.
use Rattle.std.specs.Prelude.{◌≡◌, ◌≤◌, ℕ, Bool, true, if◌then◌else◌, List, length}
use Rattle.std.specs.Prelude.{Option, Some, None, option_map, IfSome}
use Rattle.std.proofs.Common.{refl, sym, ap, ◌∙◌, arith}
use Rattle.piece_ring.specs.Flat.{flat}
use Rattle.piece_ring.specs.Text.{Text}
use Rattle.readers_scanners.specs.Reading.{contents, bytes_of_text}
use Rattle.text_frames.specs.Cells.{position_at}
use Rattle.command_table.specs.Call.{called_at}
use Rattle.command_table.specs.Parameters.{IsTextPlace, value_parameter, names}
use Rattle.desktop_definitions.specs.declared.call.Call.{Call}
use Rattle.desktop_definitions.specs.declared.viewer.Selection.{Selection}
use Rattle.desktop_definitions.specs.Desktop.{KeptDesktop}
use Rattle.desktop_definitions.specs.Viewers.{viewer_or_none, newest, main_of, menu_of, kept_main}
use Rattle.desktop_definitions.specs.Change.{bytes_of}
use Rattle.desktop_definitions.specs.Call.{text_called, seen_at_marker, selection_place, menu_at_marker, value_of}
use Rattle.desktop_definitions.specs.Call.{names_of}
use Rattle.desktop_definitions.specs.Commands.{command_at}
use Rattle.desktop_definitions.specs.Gesture.{menu_column, menu_position}
use Rattle.desktop_definitions.specs.Seen.{seen}
use Rattle.desktop_definitions.proofs.SeenLaws.{within_counted}
use Rattle.desktop_definitions.specs.Sound.{IsBuilt, IsWithin, IsOver}
use Rattle.desktop_definitions.proofs.RowLaws.{over_built}
use Rattle.desktop_definitions.proofs.RowPartLaws.{kept_main_seen, kept_text_seen, kept_newest, text_within}
use Rattle.desktop_definitions.specs.DeskWords.{kept_place, kept_menu}

-- ---- what can be read in a desktop that is kept

-- a position in the text that is called
pub called_place : (characters : List ℕ) (d : KeptDesktop) (v : ℕ) (in_menu : Bool) (p : ℕ) → IsOver characters d
    → p ≤ length (flat (text_called d v in_menu))
    → IsTextPlace (length characters) (flat (text_called d v in_menu), p)
called_place characters d v in_menu p over low = record {
  within = low;
  offsets = text_within (length characters) d
      (if in_menu then (viewer_or_none d.viewers v).menu else (viewer_or_none d.viewers v).main)
      (within_counted characters d over);
}

places_stand : (n : ℕ) (d : KeptDesktop) (o : Option Selection) → IsBuilt n d → newest d ≡ o
    → IfSome (option_map {U = Text ℕ × ℕ} (λ s. (flat (kept_main d s.viewer), s.beg)) o) (IsTextPlace n)
places_stand n d None built is = tt
places_stand n d (Some s) built is =
    let stands = kept_newest n d s built is in
    record {
      within = (let some = stands.1 in let low = stands.2 in omega (arith, some, low));
      offsets = text_within n d (viewer_or_none d.viewers s.viewer).main built.within;
    }

pub place_stands : (characters : List ℕ) (d : KeptDesktop) → IsOver characters d
    → IfSome (kept_place d) (IsTextPlace (length characters))
place_stands characters d over =
    places_stand (length characters) d (newest d) (over_built characters d over) refl

menus_stand : (n : ℕ) (d : KeptDesktop) (o : Option ℕ) → IsWithin n d
    → IfSome (option_map (λ v. flat (text_called d v true)) o) (λ (m : Text ℕ). IsTextPlace n (m, 0))
menus_stand n d None within = tt
menus_stand n d (Some v) within = record {
  within = omega arith;
  offsets = text_within n d (viewer_or_none d.viewers v).menu within;
}

pub menu_stands : (characters : List ℕ) (d : KeptDesktop) → IsOver characters d
    → IfSome (kept_menu d) (λ (m : Text ℕ). IsTextPlace (length characters) (m, 0))
menu_stands characters d over =
    menus_stand (length characters) d (seen_at_marker d) (within_counted characters d over)

-- ---- how it is seen

pub called_text_seen : (characters : List ℕ) (d : KeptDesktop) (v : ℕ) (in_menu : Bool)
    → text_called (seen characters d) v in_menu ≡ contents characters (flat (text_called d v in_menu))
unfolding seen
called_text_seen characters d v in_menu = kept_text_seen characters d
    (if in_menu then (viewer_or_none d.viewers v).menu else (viewer_or_none d.viewers v).main)

abbrev read_place : List ℕ → Text ℕ × ℕ → Text ℕ × ℕ
read_place characters place = (contents characters place.0, place.1)

places_seen : (characters : List ℕ) (d : KeptDesktop) (o : Option Selection)
    → option_map {U = Text ℕ × ℕ} (read_place characters)
    (option_map {U = Text ℕ × ℕ} (λ s. (flat (kept_main d s.viewer), s.beg)) o)
    ≡ option_map {U = Text ℕ × ℕ} (λ s. (main_of (seen characters d) s.viewer, s.beg)) o
places_seen characters d None = refl
places_seen characters d (Some s) = λ k. Some (sym (kept_main_seen characters d s.viewer) k, s.beg)

place_seen : (characters : List ℕ) (d : KeptDesktop)
    → option_map {U = Text ℕ × ℕ} (read_place characters) (kept_place d) ≡ selection_place (seen characters d)
unfolding seen
place_seen characters d = places_seen characters d (newest d)

menus_seen : (characters : List ℕ) (d : KeptDesktop) (o : Option ℕ)
    → option_map (contents characters) (option_map (λ v. flat (text_called d v true)) o)
    ≡ option_map (menu_of (seen characters d)) o
menus_seen characters d None = refl
menus_seen characters d (Some v) = λ k. Some (sym (called_text_seen characters d v true) k)

menu_seen : (characters : List ℕ) (d : KeptDesktop)
    → option_map (contents characters) (kept_menu d) ≡ menu_at_marker (seen characters d)
unfolding seen
menu_seen characters d = menus_seen characters d (seen_at_marker d)

-- the position that a menu shows nearest to a column
pub menu_read : (characters : List ℕ) (d : KeptDesktop) (v x : ℕ)
    → position_at (bytes_of_text characters (flat (text_called d v true))) 0 (menu_column d v x) 0
    ≡ menu_position (seen characters d) v x
unfolding menu_position seen
menu_read characters d v x =
    λ k. position_at (bytes_of (sym (called_text_seen characters d v true) k)) 0 (menu_column d v x) 0

-- ---- what is read

value_contents : (characters : List ℕ) (text : Text ℕ) (p : ℕ) (place : Option (Text ℕ × ℕ)) (menu : Option (Text ℕ))
    → value_parameter (bytes_of_text characters) text p place menu
    ≡ value_parameter bytes_of (contents characters text) p (option_map {U = Text ℕ × ℕ} (read_place characters) place)
    (option_map (contents characters) menu)
unfolding value_parameter
value_contents characters text p None None = refl
value_contents characters text p None (Some m) = refl
value_contents characters text p (Some s) None = refl
value_contents characters text p (Some s) (Some m) = refl

-- the value after the word
pub value_read : (characters : List ℕ) (d : KeptDesktop) (call : Call)
    → value_parameter (bytes_of_text characters) (flat (text_called d call.viewer call.in_menu)) call.after (kept_place d) (kept_menu d)
    ≡ value_of (seen characters d) call
unfolding value_of
value_read characters d call =
    value_contents characters (flat (text_called d call.viewer call.in_menu)) call.after (kept_place d) (kept_menu d)
    ∙ (λ k. value_parameter bytes_of (sym (called_text_seen characters d call.viewer call.in_menu) k) call.after
    (place_seen characters d k) (menu_seen characters d k))

names_contents : (characters : List ℕ) (text : Text ℕ) (p : ℕ) (place : Option (Text ℕ × ℕ))
    → names (bytes_of_text characters) text p place
    ≡ names bytes_of (contents characters text) p (option_map {U = Text ℕ × ℕ} (read_place characters) place)
unfolding names
names_contents characters text p None = refl
names_contents characters text p (Some s) = refl

-- the names of the list after it
pub names_read : (characters : List ℕ) (d : KeptDesktop) (call : Call)
    → names (bytes_of_text characters) (flat (text_called d call.viewer call.in_menu)) call.after (kept_place d)
    ≡ names_of (seen characters d) call
unfolding names_of
names_read characters d call =
    names_contents characters (flat (text_called d call.viewer call.in_menu)) call.after (kept_place d)
    ∙ (λ k. names bytes_of (sym (called_text_seen characters d call.viewer call.in_menu) k) call.after
    (place_seen characters d k))

-- the command whose word is called
pub called_read : (version : ℕ) (characters : List ℕ) (d : KeptDesktop) (v : ℕ) (in_menu : Bool) (p : ℕ)
    → called_at version (bytes_of_text characters (flat (text_called d v in_menu))) p
    ≡ command_at version (bytes_of (text_called (seen characters d) v in_menu)) p
called_read version characters d v in_menu p =
    ap (λ (t : Text ℕ). called_at version (bytes_of t) p) (sym (called_text_seen characters d v in_menu))
