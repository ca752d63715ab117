-- The command that gives up the characters that no text has: a desktop that is written anew is seen as before, but for
-- how many characters count as written.
use Rattle.std.specs.Prelude.{◌≡◌, ℕ, ◌≤◌, List, [], ◌++◌, length, Ok}
use Rattle.std.proofs.Common.{refl, sym, ap, subst, ◌∙◌, arith, append_assoc, append-nil, length-append}
use Rattle.std.specs.List.Sorted.{IsStrictlySortedBy}
use Rattle.std.proofs.lemmas.Bool.{le-leb}
use Rattle.std.proofs.lemmas.Map.Made.{keys_of-map_values}
use Rattle.readers_scanners.specs.Reading.{bytes_of_text}
use Rattle.readers_scanners.proofs.Running.{length-bytes}
use Rattle.desktop_definitions.specs.declared.reply.Reply.TheVariants.{Done}
use Rattle.desktop_definitions.specs.Words.{nat_cmp, keys_of, Piece, flat}
use Rattle.desktop_definitions.specs.Limits.{most_written, most_held}
use Rattle.desktop_definitions.specs.Tables.{Texts, Files, name_cmp}
use Rattle.desktop_definitions.specs.Desktop.{Desktop, KeptDesktop, characters_held}
use Rattle.desktop_definitions.specs.Effects.{after_collect}
use Rattle.desktop_definitions.specs.Seen.{seen, seen_text, seen_table}
use Rattle.desktop_definitions.specs.Step.{outcome_after, outcome_of}
use Rattle.desktop_definitions.specs.Sound.{IsSound, IsWithin, IsOver}
use Rattle.desktop_definitions.specs.Outcome.{IsAnswered}
use Rattle.desktop_definitions.proofs.TableLaws.{lengths_seen, length_seen_text}
use Rattle.desktop_definitions.proofs.StepLaws.{settled_done}
use Rattle.desktop_definitions.proofs.OutcomeLaws.{acted}
use Rattle.desktop_definitions.specs.Rewriting.{flats, bytes_in, IsRewritten}
use Rattle.desktop_definitions.specs.Rewriting.{before_files, before_copied, before_deleted, in_all}
use Rattle.desktop_definitions.proofs.RewritingLaws.{table_seen, text_seen, table_looks, text_looks, table_within, text_within}
use Rattle.desktop_definitions.proofs.RewritingLaws.{length-bytes_in}
use Rattle.desktop_definitions.proofs.AlikeLaws.{sound_alike}

-- it is never refused: what a desktop holds is within both limits
pub collected_done : (d : Desktop) → IsSound d → outcome_of (after_collect d) Done ≡ outcome_after d (Ok (after_collect d))
unfolding after_collect characters_held
collected_done d sound =
    let low = sound.held_within in
    sym (settled_done d (after_collect d) sound.shown
    (rw (le-leb (characters_held d) most_written (omega (arith, low)), le-leb (characters_held d) most_held low) refl))

-- ---- what is asked before

-- all is what the desktop holds
pub held_in_all : (characters : List ℕ) (d : KeptDesktop) → characters_held (seen characters d) ≡ in_all d
unfolding characters_held seen
held_in_all characters d = omega (
  arith,
  lengths_seen characters d.texts,
  lengths_seen characters d.files,
  length_seen_text characters d.copied,
  length_seen_text characters d.deleted,
)

module _ {characters : List ℕ} {d : KeptDesktop} (over : IsOver characters d) where
  pub all_few : in_all d ≤ most_held
  all_few = omega (arith, held_in_all characters d, (over.whole.sound characters).held_within)

  pub numbers_rise : IsStrictlySortedBy nat_cmp (keys_of d.texts)
  unfolding seen
  numbers_rise = subst (IsStrictlySortedBy nat_cmp) (keys_of-map_values (seen_text characters) d.texts)
      (over.whole.sound characters).shaped.viewers.numbers

  pub names_rise : IsStrictlySortedBy name_cmp (keys_of d.files)
  unfolding seen
  names_rise = subst (IsStrictlySortedBy name_cmp) (keys_of-map_values (seen_text characters) d.files)
      (over.whole.sound characters).shaped.files.rising

-- ---- what is so afterwards

module _ (H : Type 0) (old made : List ℕ) (d : KeptDesktop) (texts : Texts (List Piece)) (files : Files (List Piece))
    (copied deleted : List Piece) (over : IsOver old d)
    (new : IsRewritten H old d made texts files copied deleted) where
  -- the desktop that is kept then
  abbrev pub anew : KeptDesktop
  anew = record d { texts = texts; files = files; copied = copied; deleted = deleted; written = length made }

  within : IsWithin (length made) anew
  within = let all = new.as_many in
      record {
        texts = table_within (length made) 0 d.texts texts new.texts_laid (omega (arith, all));
        files = table_within (length made) (before_files d) d.files files new.files_laid (omega (arith, all));
        copied = text_within (length made) (before_copied d) d.copied copied new.copied_laid (omega (arith, all));
        deleted = text_within (length made) (before_deleted d) d.deleted deleted new.deleted_laid (omega (arith, all));
      }

  sound : (characters : List ℕ) → IsSound (seen characters anew)
  unfolding seen
  sound characters =
      sound_alike (seen [] d) (seen_table characters texts) (seen_table characters files)
      (seen_text characters copied) (seen_text characters deleted) (length made)
      (table_looks characters [] d.texts texts 0 new.texts_laid)
      (table_looks characters [] d.files files (before_files d) new.files_laid)
      (text_looks characters [] d.copied copied (before_copied d) new.copied_laid)
      (text_looks characters [] d.deleted deleted (before_deleted d) new.deleted_laid)
      (over.whole.sound []) (omega (arith, new.as_many, all_few over))

  anew_over : IsOver made anew
  anew_over = record { counted = refl; whole = record { within = within; sound = sound } }

  -- what the characters are, where they were told truly

  abbrev of_texts : List ℕ
  of_texts = bytes_in old (flats d.texts)

  abbrev of_files : List ℕ
  of_files = bytes_in old (flats d.files)

  abbrev of_copied : List ℕ
  of_copied = bytes_of_text old (flat d.copied)

  abbrev of_deleted : List ℕ
  of_deleted = bytes_of_text old (flat d.deleted)

  module _ (honest : H) where
    behind_files : made ≡ (of_texts ++ of_files) ++ (of_copied ++ of_deleted)
    behind_files = new.read honest ∙ append_assoc (of_texts ++ of_files) of_copied of_deleted

    behind_texts : made ≡ of_texts ++ (of_files ++ (of_copied ++ of_deleted))
    behind_texts = behind_files ∙ append_assoc of_texts of_files (of_copied ++ of_deleted)

    as_long_files : length (of_texts ++ of_files) ≡ before_copied d
    as_long_files = omega
        (arith, length-append of_texts of_files, length-bytes_in old d.texts, length-bytes_in old d.files)

    as_long_copied : length (of_texts ++ of_files ++ of_copied) ≡ before_deleted d
    as_long_copied = omega
        (arith, as_long_files, length-append (of_texts ++ of_files) of_copied, length-bytes old (flat d.copied))

    texts_seen : seen_table made texts ≡ seen_table old d.texts
    texts_seen = table_seen made [] (of_files ++ (of_copied ++ of_deleted)) old d.texts texts 0 refl new.texts_laid
        behind_texts

    files_seen : seen_table made files ≡ seen_table old d.files
    files_seen = table_seen made of_texts (of_copied ++ of_deleted) old d.files files (before_files d)
        (length-bytes_in old d.texts) new.files_laid behind_texts

    copied_seen : seen_text made copied ≡ seen_text old d.copied
    copied_seen = text_seen made (of_texts ++ of_files) of_deleted old d.copied copied (before_copied d) as_long_files
        new.copied_laid behind_files

    deleted_seen : seen_text made deleted ≡ seen_text old d.deleted
    deleted_seen = text_seen made (of_texts ++ of_files ++ of_copied) [] old d.deleted deleted (before_deleted d)
        as_long_copied new.deleted_laid
        (new.read honest ∙ ap (λ (l : List ℕ). of_texts ++ of_files ++ of_copied ++ l) (sym (append-nil of_deleted)))

    anew_seen : seen made anew ≡ after_collect (seen old d)
    unfolding seen after_collect
    anew_seen = λ k. record (seen old d) {
      texts = texts_seen k;
      files = files_seen k;
      copied = copied_seen k;
      deleted = deleted_seen k;
      written = (new.as_many ∙ sym (held_in_all old d)) k;
    }

  pub collected_answered : IsAnswered H old made d anew (outcome_after (seen old d) (Ok (after_collect (seen old d)))) Done
  collected_answered = acted H old made d anew (outcome_after (seen old d) (Ok (after_collect (seen old d)))) anew_over
      (λ honest. (λ k. outcome_of (anew_seen honest k) Done) ∙ collected_done (seen old d) (over.whole.sound old))
