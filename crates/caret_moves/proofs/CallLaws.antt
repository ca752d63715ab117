-- A click at a word calls its command, on the viewer in whose menu it stands or else on the one that has the marker.
use Rattle.std.specs.Prelude.{◌≡◌, ℕ, ◌*◌, ◌/◌, ◌%◌, ◌<◌, ◌≤◌, ◌==◌, ◌&&◌, Bool, true, false}
use Rattle.std.specs.Prelude.{if◌then◌else◌, Option, Some, None, option_map, Ok, IfOk}
use Rattle.std.proofs.Common.{refl, ap, subst, ◌∙◌, arith}
use Rattle.std.proofs.lemmas.Bool.{eqb-true, lt-ltb}
use Rattle.event_bytes.specs.declared.keys.Keys.TheVariants.{Middle}
use Rattle.event_bytes.specs.declared.event.Event.TheVariants.{Mark}
use Rattle.viewer_tracks.specs.declared.display.TheConstants.{ROWS, COLUMNS}
use Rattle.viewer_tracks.specs.Columns.{IsOnTop, track_of, placed_bottom, placed_top}
use Rattle.command_table.specs.declared.command.Command.{Command}
use Rattle.command_table.specs.declared.command.Command.TheVariants.{EditOpen, SystemOpen, SystemOpenLog, SystemClose}
use Rattle.command_table.specs.declared.command.Command.TheVariants.{SystemRecall, SystemCopy, SystemClear}
use Rattle.command_table.specs.declared.command.Command.TheVariants.{SystemDirectory, SystemDeleteFiles}
use Rattle.command_table.specs.declared.command.Command.TheVariants.{SystemSetFont, SystemSetColor, SystemSetOffset}
use Rattle.command_table.specs.declared.command.Command.TheVariants.{EditChangeFont, EditChangeColor}
use Rattle.command_table.specs.declared.command.Command.TheVariants.{EditChangeOffset, EditStore, EditSearch}
use Rattle.command_table.specs.declared.command.Command.TheVariants.{EditRecall, SystemCollect, SystemGrow}
use Rattle.desktop_definitions.specs.declared.region.Region.{Region}
use Rattle.desktop_definitions.specs.declared.region.Region.TheVariants.{Filler, Menu, Bar, Body}
use Rattle.desktop_definitions.specs.declared.call.Call.{Call}
use Rattle.desktop_definitions.specs.declared.reply.Reply.TheVariants.{Done}
use Rattle.desktop_definitions.specs.Limits.{newest_version, no_viewer, no_command, outside}
use Rattle.desktop_definitions.specs.Needs.{needs, unless}
use Rattle.desktop_definitions.specs.Desktop.{Desktop, characters_held}
use Rattle.desktop_definitions.specs.Change.{bytes_of}
use Rattle.desktop_definitions.specs.Call.{text_called, target_viewer, seen_at_marker}
use Rattle.desktop_definitions.specs.Commands.{command_at, commanded, after_call}
use Rattle.desktop_definitions.specs.Gesture.{is_on_display, region_at, pointed, done_in_menu, done_at, menu_position}
use Rattle.desktop_definitions.specs.Gesture.{text_position}
use Rattle.desktop_definitions.specs.Step.{step, step_in, raw, Outcome, outcome_after, outcome_of, marked}
use Rattle.desktop_definitions.specs.Sound.{IsSound}
use Rattle.desktop_definitions.proofs.RowLaws.{fit_sound}
use Rattle.desktop_definitions.proofs.StepLaws.{settled_done}
use Rattle.desk_input.proofs.BarLaws.{seen_left, left_within}
use Rattle.caret_moves.specs.declared.wish.CaretCommand.{CaretCommand}
use Rattle.caret_moves.specs.declared.wish.CaretCommand.TheVariants as caret
use Rattle.caret_moves.specs.Calling.{first_where, middle_press, done_on, is_word_of, is_word_found, calls}
use Rattle.caret_moves.specs.Calling.{calls_in_menu, calls_in_text, calls_at, cell_numbered, word_number, word_cell, mark_cell}
use Rattle.caret_moves.specs.Calling.{marked_in, call_by, called_over, call_led, call_desktop}
use Rattle.caret_moves.specs.Leading.{LeadThen}
use Rattle.caret_moves.proofs.FirstLaws.{passes, before_end}

-- ---- what a word does

command_done : (d : Desktop) (command : CaretCommand) (word : Command) (call : Call) → is_word_of command word ≡ true
    → commanded d word call ≡ needs (target_viewer d call) no_viewer (done_on d command)
unfolding commanded is_word_of
command_done d caret.Search EditOpen call is = absurd (cc is)
command_done d caret.Search SystemOpen call is = absurd (cc is)
command_done d caret.Search SystemOpenLog call is = absurd (cc is)
command_done d caret.Search SystemClose call is = absurd (cc is)
command_done d caret.Search SystemRecall call is = absurd (cc is)
command_done d caret.Search SystemCopy call is = absurd (cc is)
command_done d caret.Search SystemClear call is = absurd (cc is)
command_done d caret.Search SystemDirectory call is = absurd (cc is)
command_done d caret.Search SystemDeleteFiles call is = absurd (cc is)
command_done d caret.Search SystemSetFont call is = absurd (cc is)
command_done d caret.Search SystemSetColor call is = absurd (cc is)
command_done d caret.Search SystemSetOffset call is = absurd (cc is)
command_done d caret.Search EditChangeFont call is = absurd (cc is)
command_done d caret.Search EditChangeColor call is = absurd (cc is)
command_done d caret.Search EditChangeOffset call is = absurd (cc is)
command_done d caret.Search EditStore call is = absurd (cc is)
command_done d caret.Search EditSearch call is = refl
command_done d caret.Search EditRecall call is = absurd (cc is)
command_done d caret.Search SystemCollect call is = absurd (cc is)
command_done d caret.Search SystemGrow call is = absurd (cc is)
command_done d caret.Store EditOpen call is = absurd (cc is)
command_done d caret.Store SystemOpen call is = absurd (cc is)
command_done d caret.Store SystemOpenLog call is = absurd (cc is)
command_done d caret.Store SystemClose call is = absurd (cc is)
command_done d caret.Store SystemRecall call is = absurd (cc is)
command_done d caret.Store SystemCopy call is = absurd (cc is)
command_done d caret.Store SystemClear call is = absurd (cc is)
command_done d caret.Store SystemDirectory call is = absurd (cc is)
command_done d caret.Store SystemDeleteFiles call is = absurd (cc is)
command_done d caret.Store SystemSetFont call is = absurd (cc is)
command_done d caret.Store SystemSetColor call is = absurd (cc is)
command_done d caret.Store SystemSetOffset call is = absurd (cc is)
command_done d caret.Store EditChangeFont call is = absurd (cc is)
command_done d caret.Store EditChangeColor call is = absurd (cc is)
command_done d caret.Store EditChangeOffset call is = absurd (cc is)
command_done d caret.Store EditStore call is = refl
command_done d caret.Store EditSearch call is = absurd (cc is)
command_done d caret.Store EditRecall call is = absurd (cc is)
command_done d caret.Store SystemCollect call is = absurd (cc is)
command_done d caret.Store SystemGrow call is = absurd (cc is)

module _ (d : Desktop) (v : ℕ) (in_menu : Bool) (p : ℕ) (command : CaretCommand) (u : ℕ)
    (target : (after : ℕ) → target_viewer d (record { viewer = v; in_menu = in_menu; after = after }) ≡ Some u) where
  by_found : (found : Option (Command × ℕ)) → is_word_found command found ≡ true
      → needs found no_command (λ (f : Command × ℕ). commanded d f.0 (record { viewer = v; in_menu = in_menu; after = f.1 }))
      ≡ done_on d command u
  by_found None is = absurd (cc is)
  by_found (Some f) is = command_done d command f.0 (record { viewer = v; in_menu = in_menu; after = f.1 }) is
      ∙ ap (λ (t : Option ℕ). needs t no_viewer (done_on d command)) (target f.1)

  word_done : calls d v in_menu command p ≡ true → after_call newest_version d v in_menu p ≡ done_on d command u
  unfolding calls after_call
  word_done is = by_found (command_at newest_version (bytes_of (text_called d v in_menu)) p) is

-- ---- cells

on_display : (x y : ℕ) → x < COLUMNS → y < ROWS → is_on_display x y ≡ true
on_display x y column row = λ k. lt-ltb x COLUMNS column k && lt-ltb y ROWS row k

numbered_in : (n : ℕ) → n < COLUMNS * ROWS → is_on_display (n % COLUMNS) (n / COLUMNS) ≡ true
numbered_in n low = on_display (n % COLUMNS) (n / COLUMNS) (omega arith) (omega (arith, low))

-- a cell of the menu, and one of a text
in_its_menu : (d : Desktop) (command : CaretCommand) (v : ℕ) (cell : ℕ × ℕ) (region : Region)
    → calls_in_menu d command v cell region ≡ true
    → (region ≡ Menu v) × (calls d v true command (menu_position d v cell.0) ≡ true)
in_its_menu d command v cell (Menu u) is = (elim (u == v) as (λ (b : Bool). (u == v) ≡ b
    → (if b then calls d v true command (menu_position d v cell.0) else false) ≡ true
    → (Menu u ≡ Menu v) × (calls d v true command (menu_position d v cell.0) ≡ true)) [
      | true ↦ λ same here. (ap Menu (eqb-true u v same), here)
      | false ↦ λ other none. absurd (cc none)
    ]) refl is
in_its_menu d command v cell Filler is = absurd (cc is)
in_its_menu d command v cell (Bar u) is = absurd (cc is)
in_its_menu d command v cell (Body u) is = absurd (cc is)

-- what a word of a text does in a region, where the marker is in a viewer
in_a_text : (d : Desktop) (command : CaretCommand) (v : ℕ) (cell : ℕ × ℕ) (region : Region)
    → seen_at_marker d ≡ Some v → calls_in_text d command cell region ≡ true
    → pointed newest_version d region Middle cell.0 cell.1 cell.0 cell.1 ≡ done_on d command v
unfolding pointed done_at
in_a_text d command v cell (Body u) seen is =
    word_done d u false (text_position d u cell.0 cell.1) command v (λ after. seen) is
in_a_text d command v cell Filler seen is = absurd (cc is)
in_a_text d command v cell (Bar u) seen is = absurd (cc is)
in_a_text d command v cell (Menu u) seen is = absurd (cc is)

module _ (d : Desktop) (command : CaretCommand) (v : ℕ) (cell : ℕ × ℕ) (on : is_on_display cell.0 cell.1 ≡ true) where
  pressed : raw newest_version d (middle_press cell)
      ≡ pointed newest_version d (region_at d cell.0 cell.1) Middle cell.0 cell.1 cell.0 cell.1
  unfolding raw
  pressed = λ k. unless (on k && on k) outside
      (pointed newest_version d (region_at d cell.0 cell.1) Middle cell.0 cell.1 cell.0 cell.1)

  menu_called : calls_at d command (Some v) cell ≡ true → raw newest_version d (middle_press cell) ≡ done_on d command v
  unfolding calls_at pointed done_in_menu
  menu_called is =
      let here = in_its_menu d command v cell (region_at d cell.0 cell.1) is in
      pressed ∙ ap (λ (r : Region). pointed newest_version d r Middle cell.0 cell.1 cell.0 cell.1) here.0
      ∙ word_done d v true (menu_position d v cell.0) command v (λ after. refl) here.1

  text_called_there : seen_at_marker d ≡ Some v → calls_at d command None cell ≡ true
      → raw newest_version d (middle_press cell) ≡ done_on d command v
  unfolding calls_at
  text_called_there seen is = pressed ∙ in_a_text d command v cell (region_at d cell.0 cell.1) seen is

-- a cell that was found
module _ (d : Desktop) (command : CaretCommand) (place : Option ℕ) (cell : ℕ × ℕ) where
  record IsFound : Type 0 where
    on : is_on_display cell.0 cell.1 ≡ true
    calls : calls_at d command place cell ≡ true

  found_by : (o : Option ℕ) → ((n : ℕ) → o ≡ Some n → (n < COLUMNS * ROWS) × (calls_at d command place (cell_numbered n) ≡ true))
      → option_map cell_numbered o ≡ Some cell → IsFound
  found_by None facts is = absurd (cc is)
  found_by (Some n) facts is =
      let same : cell_numbered n ≡ cell = cc is in
      let here = facts n refl in
      record {
        on = subst (λ (c : ℕ × ℕ). is_on_display c.0 c.1 ≡ true) same (numbered_in n here.0);
        calls = subst (λ (c : ℕ × ℕ). calls_at d command place c ≡ true) same here.1;
      }

  is_found : word_cell d command place ≡ Some cell → IsFound
  unfolding word_number
  is_found is = found_by (first_where (λ (n : ℕ). calls_at d command place (cell_numbered n)) 0 (COLUMNS * ROWS))
      (λ n here. (
        before_end (λ (n : ℕ). calls_at d command place (cell_numbered n)) 0 (COLUMNS * ROWS) n here,
        passes (λ (n : ℕ). calls_at d command place (cell_numbered n)) 0 (COLUMNS * ROWS) n here,
      )) is

-- ---- the marker

pub mark_done : (d : Desktop) → IsSound d → (x y : ℕ) → is_on_display x y ≡ true
    → step d (Mark x y) ≡ outcome_of (marked d x y) Done
unfolding step step_in raw marked characters_held
mark_done d sound x y on = ap (λ (b : Bool). outcome_after d (unless b outside (Ok (marked d x y)))) on
    ∙ settled_done d (marked d x y) sound.shown (fit_sound d sound)

stepped : (x : Desktop) (command : CaretCommand) (v : ℕ) (cell : ℕ × ℕ)
    → raw newest_version x (middle_press cell) ≡ done_on x command v
    → step x (middle_press cell) ≡ outcome_after x (done_on x command v)
unfolding step step_in
stepped x command v cell is = ap (outcome_after x) is

marked_calls : (d : Desktop) (command : CaretCommand) (v : ℕ) (cell : ℕ × ℕ) → calls_at d command None cell ≡ true
    → calls_at (marked_in d v) command None cell ≡ true
unfolding calls_at marked region_at calls text_position
marked_calls d command v cell is = is

module _ (d : Desktop) (v : ℕ) (sound : IsSound d) (top : IsOnTop v d.columns)
    (some : placed_bottom d.columns v < placed_top d.columns v)
  where
    abbrev at : ℕ × ℕ
    at = mark_cell d v

    from : placed_bottom d.columns v ≤ at.1
    from = omega (arith, some)

    before : at.1 < placed_top d.columns v
    before = omega (arith, some)

    seen_there : seen_at_marker (marked_in d v) ≡ Some v
    unfolding marked
    seen_there = (seen_left d.columns v at.1 sound.shaped.places.columns_hold top from before).seen

    pub mark_on : is_on_display at.0 at.1 ≡ true
    mark_on =
        let here = seen_left d.columns v at.1 sound.shaped.places.columns_hold top from before in
        on_display at.0 at.1 (left_within (track_of d.columns v)) (let fits = here.top in omega (arith, before, fits))

    mark_steps : step d (Mark at.0 at.1) ≡ outcome_of (marked_in d v) Done
    mark_steps = mark_done d sound at.0 at.1 mark_on

    -- ---- the theorem of calls

    module _ (command : CaretCommand) where
      called_by : (menu text : Option (ℕ × ℕ)) → word_cell d command (Some v) ≡ menu → word_cell d command None ≡ text
          → IfOk (call_by d v menu text) (λ events. LeadThen d events (called_over d v menu)
          (outcome_after (called_over d v menu) (done_on (called_over d v menu) command v)))
      called_by (Some cell) text is other =
          let found = is_found d command (Some v) cell is in
          (refl, stepped d command v cell (menu_called d command v cell found.on found.calls))
      called_by None (Some cell) is other =
          let found = is_found d command None cell other in
          let same : calls_at (marked_in d v) command None cell ≡ true = marked_calls d command v cell found.calls in
          let done = text_called_there (marked_in d v) command v cell found.on seen_there same in (
            ap (λ (o : Outcome). o.reply) mark_steps,
            (
              ap (λ (o : Outcome). o.desktop) mark_steps,
              ap (λ (o : Outcome). step o.desktop (middle_press cell)) mark_steps ∙ stepped (marked_in d v) command v cell done,
            ),
          )
      called_by None None is other = tt

      pub call_leads : IfOk (call_led d v command) (λ events. LeadThen d events (call_desktop d v command)
          (outcome_after (call_desktop d v command) (done_on (call_desktop d v command) command v)))
      unfolding call_led call_desktop
      call_leads = called_by (word_cell d command (Some v)) (word_cell d command None) refl refl
