-- A text becomes the file of a name.
use Rattle.std.specs.Prelude.{ℕ, ◌≡◌, ◌+◌, ◌&&◌, Bool, List, length, Option, Some, None, if◌then◌else◌, nat_le, IsTrue}
use Rattle.piece_ring.specs.declared.piece.Piece.{Piece}
use Rattle.event_bytes.specs.Bytes.{is_name}
use Rattle.desktop_definitions.specs.declared.reply.Reply.{Reply}
use Rattle.desktop_definitions.specs.declared.reply.Reply.TheVariants.{Done, No}
use Rattle.desktop_definitions.specs.Limits.{most_written, most_held, too_many_files, full}
use Rattle.desktop_definitions.specs.Words.{Text}
use Rattle.desktop_definitions.specs.Rewriting.{kept_length}
use Rattle.desktop_definitions.specs.Tables.{Files, file_put, has_file_room, lengths}
use Rattle.desktop_definitions.specs.Seen.{seen, seen_table}
use Rattle.desktop_definitions.specs.Desktop.{KeptDesktop}
use Rattle.desktop_definitions.specs.DeskWords.{kept_size, has_space}

-- how many characters go where a text is put at a place of a table: none where it would be a file more, without room
abbrev pub given_up : Option (List Piece) → Bool → Option ℕ
given_up None room = if room then Some 0 else None
given_up (Some old) room = Some (kept_length old)

-- so many written, and so many held where nothing went
abbrev pub put_reply : Option ℕ → ℕ → ℕ → Reply
put_reply None written held = No too_many_files
put_reply (Some gone) written held =
    if nat_le written most_written && nat_le held (most_held + gone) then Done else No full

-- refused without room for a file more, and then without space for its characters
abbrev pub filing : Bool → Bool → Reply
filing room space = if room then (if space then Done else No full) else No too_many_files

-- the table after it
abbrev pub files_after : Reply → Files (List Piece) → List ℕ → List Piece → Files (List Piece)
files_after Done files name text = file_put files name text
files_after (No code) files name text = files

-- The text takes the place of the old file of that name: so many more are written, and so many
-- more held but for what the old file has.
pub record IsFiled (d : KeptDesktop) (name : List ℕ) (text : List Piece) (made more : ℕ)
    (after : KeptDesktop) (reply : Reply) : Type 0 where
  pub answered : (characters : List ℕ)
      → reply ≡ filing (has_file_room (seen_table characters d.files) name)
      (has_space (seen characters d) made more (kept_size d.files name))
  pub put : after ≡ record d { files = files_after reply d.files name text }
  pub valid : IsTrue (is_name name)
  pub gone : (characters : List ℕ) (new : Text ℕ)
      → lengths (file_put (seen_table characters d.files) name new) + kept_size d.files name
      ≡ lengths (seen_table characters d.files) + length new
