-- A text becomes the file of a name: what one look at the name says.
use Rattle.std.specs.Prelude.{◌≡◌, ◌+◌, ◌&&◌, ◌||◌, ℕ, Bool, true, false, List, Option, Some, None, is_some, length, nat_le, nat_lt}
use Rattle.std.specs.Prelude.{Result, Ok, Err, IfOk, OnOk, IsTrue, if◌then◌else◌}
use Rattle.std.specs.Option.{option_map, unwrap_or}
use Rattle.std.proofs.Common.{refl, sym, ap, ◌∙◌}
use Rattle.piece_ring.specs.declared.piece.Piece.{Piece}
use Rattle.piece_ring.specs.Text.{Text}
use Rattle.event_bytes.specs.Bytes.{is_name}
use Rattle.desktop_definitions.specs.declared.reply.Reply.{Reply}
use Rattle.desktop_definitions.specs.declared.reply.Reply.TheVariants.{Done, No}
use Rattle.desktop_definitions.specs.Limits.{most_written, most_held, most_files, full}
use Rattle.desktop_definitions.specs.Rewriting.{kept_length}
use Rattle.desktop_definitions.specs.Tables.{Files, file_named, file_put, has_file_room, lengths}
use Rattle.desktop_definitions.specs.Seen.{seen, seen_table}
use Rattle.desktop_definitions.specs.Desktop.{KeptDesktop, characters_held}
use Rattle.desktop_definitions.specs.DeskWords.{kept_size, has_space}
use Rattle.desk_core.specs.declared.stop.Stop.{Stop}
use Rattle.desk_core.specs.Filing.{given_up, put_reply, filing, files_after, IsFiled}
use Rattle.desk_core.proofs.FileLemmas.{room_found}

reply_by : (found : Option (List Piece)) (room : Bool) (written held : ℕ)
    → put_reply (given_up found room) written held
    ≡ filing (is_some (option_map kept_length found) || room)
    (nat_le written most_written && nat_le held (most_held + unwrap_or (option_map kept_length found) 0))
reply_by None true written held = refl
reply_by None false written held = refl
reply_by (Some old) room written held = refl

-- a text takes the place of an old one
pub over_answered : (found : Option (List Piece)) (old : List Piece) (room : Bool) (written held n : ℕ) (space : Bool)
    → found ≡ Some old → n ≡ kept_length old
    → (nat_le written most_written && nat_le held (most_held + n)) ≡ space
    → (let reply : Reply = if space then Done else No full in reply) ≡ put_reply (given_up found room) written held
over_answered found old room written held n space is long tested =
    sym (ap (λ (o : Option (List Piece)). put_reply (given_up o room) written held) is
    ∙ ap (λ (k : ℕ). let reply : Reply = if nat_le written most_written && nat_le held (most_held + k)
    then Done else No full in reply) (sym long)
    ∙ ap (λ (b : Bool). let reply : Reply = if b then Done else No full in reply) tested)

pub filed_reply : (characters : List ℕ) (files : Files (List Piece)) (name : List ℕ) (written held : ℕ)
    → put_reply (given_up (file_named files name) (nat_lt (length files) most_files)) written held
    ≡ filing (has_file_room (seen_table characters files) name)
    (nat_le written most_written && nat_le held (most_held + kept_size files name))
filed_reply characters files name written held =
    reply_by (file_named files name) (nat_lt (length files) most_files) written held
    ∙ (λ k. filing (sym (room_found characters files name (option_map kept_length (file_named files name)) refl) k)
    (nat_le written most_written && nat_le held (most_held + kept_size files name)))

pub space_by : (characters : List ℕ) (d : KeptDesktop) (name : List ℕ) (made more held : ℕ)
    → held ≡ characters_held (seen characters d)
    → (nat_le (d.written + made) most_written && nat_le (held + more) (most_held + kept_size d.files name))
    ≡ has_space (seen characters d) made more (kept_size d.files name)
unfolding has_space seen
space_by characters d name made more held is =
    (λ k. nat_le (d.written + made) most_written && nat_le (is k + more) (most_held + kept_size d.files name))

module _ (d : KeptDesktop) (name : List ℕ) (text : List Piece) (made more held : ℕ) (after : Files (List Piece))
    (held_is : (characters : List ℕ) → held ≡ characters_held (seen characters d)) where
  answered : (reply : Reply) → reply ≡ put_reply (given_up (file_named d.files name) (nat_lt (length d.files) most_files))
      (d.written + made) (held + more) → (characters : List ℕ)
      → reply ≡ filing (has_file_room (seen_table characters d.files) name)
      (has_space (seen characters d) made more (kept_size d.files name))
  answered reply is characters =
      is ∙ filed_reply characters d.files name (d.written + made) (held + more)
      ∙ ap (filing (has_file_room (seen_table characters d.files) name))
      (space_by characters d name made more held (held_is characters))

  pub is_filed : (result : Result Reply Stop)
      → IfOk result (λ reply. reply ≡ put_reply (given_up (file_named d.files name) (nat_lt (length d.files) most_files))
      (d.written + made) (held + more))
      → IfOk result (λ reply. reply ≡ Done → after ≡ file_put d.files name text)
      → IfOk result (λ reply. (code : ℕ) → reply ≡ No code → after ≡ d.files)
      → OnOk result (IsTrue (is_name name))
      → OnOk result ((characters : List ℕ) (new : Text ℕ) → lengths (file_put (seen_table characters d.files) name new)
      + kept_size d.files name ≡ lengths (seen_table characters d.files) + length new)
      → IfOk result (IsFiled d name text made more (record d { files = after }))
  is_filed (Ok Done) is put stays valid gone = record {
    answered = answered Done is;
    put = ap (λ (files : Files (List Piece)). record d { files = files }) (put refl);
    valid = valid;
    gone = gone;
  }
  is_filed (Ok (No code)) is put stays valid gone = record {
    answered = answered (No code) is;
    put = ap (λ (files : Files (List Piece)). record d { files = files }) (stays code refl);
    valid = valid;
    gone = gone;
  }
  is_filed (Err stop) is put stays valid gone = tt

-- ---- what is filed

done_by : (room space : Bool) → Done ≡ filing room space → (room ≡ true) × (space ≡ true)
done_by true true is = (refl, refl)
done_by true false is = absurd (cc is)
done_by false space is = absurd (cc is)

module _ {d : KeptDesktop} {name : List ℕ} {text : List Piece} {made more : ℕ} {after : KeptDesktop} {reply : Reply}
    (put : IsFiled d name text made more after reply) where
  -- done: there was room, and space
  pub filed_room : reply ≡ Done → (characters : List ℕ) → has_file_room (seen_table characters d.files) name ≡ true
  filed_room is characters = (done_by _ _ (sym is ∙ put.answered characters)).0

  pub filed_space : reply ≡ Done → (characters : List ℕ)
      → has_space (seen characters d) made more (kept_size d.files name) ≡ true
  filed_space is characters = (done_by _ _ (sym is ∙ put.answered characters)).1

  pub filed_after : reply ≡ Done → after ≡ record d { files = file_put d.files name text }
  filed_after is =
      put.put ∙ ap (λ (r : Reply). record d { files = files_after r d.files name text }) is

  pub refused_after : (code : ℕ) → reply ≡ No code → after ≡ d
  refused_after code is =
      put.put ∙ ap (λ (r : Reply). record d { files = files_after r d.files name text }) is
