-- A file by an event: what comes of a text that is put is the outcome of the event.
use Rattle.std.specs.Prelude.{◌≡◌, ◌≤◌, ◌+◌, ◌++◌, ℕ, Bool, true, false, List, length, nat_le}
use Rattle.std.specs.List.{list_all}
use Rattle.std.proofs.Common.{refl, sym, ap, subst, ◌∙◌}
use Rattle.std.proofs.lemmas.Bool.{and_parts, leb-true}
use Rattle.piece_ring.specs.declared.piece.Piece.{Piece}
use Rattle.piece_ring.specs.Text.{Text}
use Rattle.piece_ring.specs.Look.{default_look}
use Rattle.piece_ring.specs.Flat.{flat, run}
use Rattle.event_bytes.specs.Bytes.{is_text_byte, is_file_bytes}
use Rattle.event_bytes.specs.declared.event.Event.TheVariants.{File}
use Rattle.desktop_definitions.specs.declared.reply.Reply.{Reply}
use Rattle.desktop_definitions.specs.declared.reply.Reply.TheVariants.{Done, No}
use Rattle.desktop_definitions.specs.Limits.{full, too_many_files}
use Rattle.desktop_definitions.specs.Tables.{file_put, has_file_room, lengths}
use Rattle.desktop_definitions.specs.Desktop.{KeptDesktop}
use Rattle.desktop_definitions.specs.Change.{plain_text, more_written}
use Rattle.desktop_definitions.specs.Seen.{seen, seen_table}
use Rattle.desktop_definitions.specs.Sound.{IsOver}
use Rattle.desktop_definitions.specs.Step.{fits, filed, step}
use Rattle.desktop_definitions.specs.Outcome.{IsAnswered}
use Rattle.desktop_definitions.specs.DeskWords.{kept_size, has_space}
use Rattle.desktop_definitions.proofs.OutcomeLaws.{refused, length_in_look, file_answered}
use Rattle.desktop_definitions.proofs.RowLaws.{space_made, known_full, known_too_many_files}
use Rattle.desktop_definitions.proofs.StepLaws.{file_no_room, file_full}
use Rattle.desktop_definitions.proofs.StoreLaws.{files_counts}
use Rattle.desk_core.specs.Filing.{IsFiled, filing}
use Rattle.desk_core.proofs.FilingLemmas.{filed_room, filed_space, filed_after}

pub file_short : (bytes : List ℕ) → is_file_bytes bytes ≡ true → length bytes ≤ 900
file_short bytes valid =
    leb-true (length bytes) 900 (and_parts (nat_le (length bytes) 900) (list_all is_text_byte bytes) valid).0

module _ (d : KeptDesktop) (name bytes : List ℕ) (text : List Piece) (after : KeptDesktop) (reply : Reply)
    (put : IsFiled d name text (length bytes) (length bytes) after reply) where
  -- the limits are those of the desktop after it
  pub file_fits : (characters : List ℕ) (new : Text ℕ) → length new ≡ length bytes
      → has_space (seen characters d) (length bytes) (length bytes) (kept_size d.files name)
      ≡ fits (filed (seen characters d) name new)
  unfolding filed seen
  file_fits characters new long =
      let x = seen characters d in
      space_made x (record x { files = file_put x.files name new }) (length bytes) (length bytes) (kept_size d.files name)
      (files_counts x (file_put x.files name new) (length bytes) (kept_size d.files name)
      (put.gone characters new ∙ ap (λ n. lengths x.files + n) long))
      ∙ ap (λ n. fits (more_written (record x { files = file_put x.files name new }) n)) (sym long)

  -- done: the file is there, and its characters count as written
  pub file_answers : (H : Type 0) (all now : List ℕ) → IsOver all d → now ≡ all ++ bytes → reply ≡ Done
      → flat text ≡ run d.written (length bytes) default_look
      → IsAnswered H all now d (record after { written = after.written + length bytes })
      (step (seen all d) (File name bytes)) Done
  file_answers H all now over added is run_is =
      subst (λ (x : KeptDesktop). IsAnswered H all now d (record x { written = x.written + length bytes })
      (step (seen all d) (File name bytes)) Done) (sym (filed_after put is))
      (file_answered H all bytes now d name text (file_put d.files name text) over put.valid added run_is refl
      (λ characters new long. sym (file_fits characters new long) ∙ filed_space put is characters)
      (filed_room put is))

  module _ (H : Type 0) (old : List ℕ) (over : IsOver old d) (code : ℕ) where
    refused_by : (room space : Bool) → has_file_room (seen_table old d.files) name ≡ room
        → has_space (seen old d) (length bytes) (length bytes) (kept_size d.files name) ≡ space
        → No code ≡ filing room space → IsAnswered H old old d d (step (seen old d) (File name bytes)) (No code)
    unfolding seen
    refused_by false space none left is =
        subst (λ (n : ℕ). IsAnswered H old old d d (step (seen old d) (File name bytes)) (No n))
        (let same : too_many_files ≡ code = cc is in same)
        (refused H old d (step (seen old d) (File name bytes)) too_many_files over known_too_many_files
        (λ h. file_no_room (seen old d) name bytes (over.whole.sound old).shown none))
    refused_by true false room none is =
        subst (λ (n : ℕ). IsAnswered H old old d d (step (seen old d) (File name bytes)) (No n))
        (let same : full ≡ code = cc is in same)
        (refused H old d (step (seen old d) (File name bytes)) full over known_full
        (λ h. file_full (seen old d) name bytes (over.whole.sound old).shown room
        (sym (file_fits old (plain_text bytes) (length_in_look default_look bytes)) ∙ none)))
    refused_by true true room space is = absurd (cc is)

    -- refused: for the files, or for the limits on characters
    pub file_refused : reply ≡ No code → IsAnswered H old old d d (step (seen old d) (File name bytes)) (No code)
    file_refused is = refused_by _ _ refl refl (sym is ∙ put.answered old)
