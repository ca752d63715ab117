-- What typing and the keys do.
use Rattle.std.specs.Prelude.{ℕ, ◌-◌, ◌==◌, if◌then◌else◌, List, [], length, None, Result, Ok}
use Rattle.event_bytes.specs.declared.keys.Key.{Key}
use Rattle.event_bytes.specs.declared.keys.Key.TheVariants.{Back, Copy, Paste, Cut, Escape}
use Rattle.desktop_definitions.specs.Words.{Caret, Selection}
use Rattle.desktop_definitions.specs.Limits.{no_caret, no_selection}
use Rattle.desktop_definitions.specs.Desktop.{DesktopOf, Desktop}
use Rattle.desktop_definitions.specs.Viewers.{viewer_of, newest, selected}
use Rattle.desktop_definitions.specs.Change.{in_look, deletion, caret_shown, put_at_caret, cut_out, more_written}
use Rattle.desktop_definitions.specs.Needs.{needs}

-- the bytes go to the caret in the current look, and the caret after them
unfoldable pub after_typing : Desktop → List ℕ → Result Desktop ℕ
after_typing d bytes =
    needs d.caret no_caret λ c.
    Ok (more_written (put_at_caret d (in_look d.look bytes) c) (length bytes))

-- the character before the caret is taken out; there is none at the beginning
abbrev pub without_character_before : Desktop → Caret → Desktop
without_character_before d c =
    if c.position == 0 then d else
    caret_shown (deletion d (viewer_of d c.viewer).main (c.position - 1) c.position) c.viewer
    (c.position - 1)

-- the stretch of a selection goes into the copied buffer
abbrev pub with_copied : Desktop → Selection → Desktop
with_copied d s = record d { copied = selected d s }

-- caret, selections and marker go
unfoldable pub without_marks : {T : Type 0} → DesktopOf T → DesktopOf T
without_marks d = record d { caret = None; selections = []; marker = None }

unfoldable pub after_key : Desktop → Key → Result Desktop ℕ
after_key d Back = needs d.caret no_caret λ c. Ok (without_character_before d c)
after_key d Copy = needs (newest d) no_selection λ s. Ok (with_copied d s)
after_key d Paste = needs d.caret no_caret λ c. Ok (put_at_caret d d.copied c)
after_key d Cut = needs (newest d) no_selection λ s. Ok (cut_out (with_copied d s) s)
after_key d Escape = Ok (without_marks d)
