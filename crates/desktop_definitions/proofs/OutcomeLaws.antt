-- Laws of outcomes: what a row owes where it refuses, and where the event is done.
use Rattle.std.specs.Prelude.{◌≡◌, ◌≤◌, ℕ, ◌+◌, IsTrue, true, List, ◌++◌, length}
use Rattle.std.proofs.Common.{refl, sym, ap, subst, ◌∙◌, length-append, arith}
use Rattle.std.proofs.lemmas.List.{length-map}
use Rattle.sector_disk.specs.Faults.{OneOf}
use Rattle.piece_ring.specs.declared.piece.Look.{Look}
use Rattle.piece_ring.specs.declared.piece.Piece.{Piece}
use Rattle.piece_ring.specs.Look.{default_look}
use Rattle.piece_ring.specs.Flat.{flat, run}
use Rattle.piece_ring.proofs.Lengths.{length-run}
use Rattle.piece_ring.proofs.Offsets.{AreWithin-longer, run-AreWithin}
use Rattle.piece_ring.specs.Text.{Text, AreWithin}
use Rattle.readers_scanners.specs.Reading.{contents}
use Rattle.event_bytes.specs.Bytes.{is_name}
use Rattle.event_bytes.specs.declared.event.Event.TheVariants.{File}
use Rattle.desktop_definitions.specs.declared.reply.Reply.TheVariants.{Done, No}
use Rattle.desktop_definitions.specs.Tables.{Files, name_cmp, file_put, has_file_room}
use Rattle.desktop_definitions.proofs.TableLaws.{insert_seen, length_seen_text, longer, put_within}
use Rattle.desktop_definitions.specs.Desktop.{KeptDesktop}
use Rattle.desktop_definitions.specs.Seen.{seen, seen_text, seen_table}
use Rattle.desktop_definitions.proofs.SeenLaws.{seen_longer, within_counted, new_read}
use Rattle.desktop_definitions.specs.Change.{in_look, plain_text}
use Rattle.desktop_definitions.specs.Step.{filed, fits, step, Outcome, outcome_of}
use Rattle.desktop_definitions.proofs.StepLaws.{file_done, filed_sound}
use Rattle.desktop_definitions.specs.Sound.{IsSound, AllWithin, IsWithin, IsOver}
use Rattle.desktop_definitions.specs.Outcome.{reply_codes, IsAnswered}
use Rattle.desktop_definitions.specs.Looks.{AreLooks}
use Rattle.desktop_definitions.proofs.LookedLaws.{default_is_look, run_looks, seen_looks}

pub refused : (H : Type 0) (old : List ℕ) (d : KeptDesktop) (outcome : Outcome) (code : ℕ) → IsOver old d
    → OneOf reply_codes code → (H → outcome_of (seen old d) (No code) ≡ outcome)
    → IsAnswered H old old d d outcome (No code)
refused H old d outcome code over known is = record {
  exact = is;
  over = over;
  known = known;
  refusal = λ c same. record { desktop = refl; as_long = refl };
}

pub acted : (H : Type 0) (old new : List ℕ) (d after : KeptDesktop) (outcome : Outcome) → IsOver new after
    → (H → outcome_of (seen new after) Done ≡ outcome) → IsAnswered H old new d after outcome Done
acted H old new d after outcome over is = record {
  exact = is;
  over = over;
  known = tt;
  refusal = λ c same. absurd (cc same);
}

pub length_in_look : (look : Look) (bytes : List ℕ) → length (in_look look bytes) ≡ length bytes
length_in_look look bytes = length-map {B = ℕ × Look} bytes (λ (b : ℕ). (b, look))

-- each character of a desktop is one of more
pub within_longer : (n m : ℕ) (d : KeptDesktop) → n ≤ m → IsWithin n d → IsWithin m d
within_longer n m d low within = record {
  texts = longer n m d.texts low within.texts;
  files = longer n m d.files low within.files;
  copied = AreWithin-longer n m (flat d.copied) low within.copied;
  deleted = AreWithin-longer n m (flat d.deleted) low within.deleted;
}

-- a desktop over its characters is seen so among these and more
pub seen_grown : (old bytes new : List ℕ) (d : KeptDesktop) → IsOver old d → new ≡ old ++ bytes → seen new d
    ≡ seen old d
seen_grown old bytes new d over grown =
    ap (λ (l : List ℕ). seen l d) grown ∙ seen_longer old bytes d (within_counted old d over)

-- ---- a file

module _ (H : Type 0) (old bytes new : List ℕ) (d : KeptDesktop) (name : List ℕ) (text : List Piece)
    (files : Files (List Piece)) (over : IsOver old d) (valid : IsTrue (is_name name)) (grown : new ≡ old ++ bytes)
    (is : flat text ≡ run d.written (length bytes) default_look) (put_is : files ≡ file_put d.files name text) where
  -- the desktop that is kept, with that file
  abbrev with_file : KeptDesktop
  with_file = record d { files = files; written = d.written + length bytes }

  long : (characters : List ℕ) → length (seen_text characters text) ≡ length bytes
  long characters = length_seen_text characters text ∙ ap length is ∙ length-run d.written (length bytes) default_look

  file_read : (characters : List ℕ)
      → seen characters with_file ≡ filed (seen characters d) name (seen_text characters text)
  unfolding seen filed
  file_read characters = λ k. record (seen characters d) {
    files = (ap (seen_table characters) put_is ∙ insert_seen (seen_text characters) name_cmp d.files name text) k;
    written = d.written + sym (long characters) k;
  }

  module _ (fit : (characters : List ℕ) (text : Text ℕ) → length text ≡ length bytes
      → fits (filed (seen characters d) name text) ≡ true)
      (room : (characters : List ℕ) → has_file_room (seen_table characters d.files) name ≡ true) where
    room_seen : (characters : List ℕ) → has_file_room (seen characters d).files name ≡ true
    unfolding seen
    room_seen = room

    text_looks : (characters : List ℕ) → AreLooks (seen_text characters text)
    text_looks characters = seen_looks characters text
        (subst AreLooks (sym is) (run_looks d.written (length bytes) default_look default_is_look))

    more : IsWithin (d.written + length bytes) d
    more = within_longer d.written (d.written + length bytes) d (omega arith) over.whole.within

    file_over : IsOver new with_file
    file_over = record {
      counted = ap length grown ∙ length-append old bytes ∙ ap (λ n. n + length bytes) over.counted;
      whole = record {
        within = record {
          texts = more.texts;
          copied = more.copied;
          deleted = more.deleted;
          files = subst (AllWithin (d.written + length bytes)) (sym put_is)
              (put_within d.written (d.written + length bytes) d.files name text (omega arith) over.whole.within.files
              (subst (AreWithin (d.written + length bytes)) (sym is)
              (run-AreWithin (d.written + length bytes) d.written (length bytes) default_look (omega arith))));
        };
        sound = λ characters. subst IsSound (sym (file_read characters))
            (filed_sound (seen characters d) name (seen_text characters text) (over.whole.sound characters) valid
            (room_seen characters) (text_looks characters) (fit characters _ (long characters)));
      };
    }

    file_exact : outcome_of (seen new with_file) Done ≡ step (seen old d) (File name bytes)
    file_exact =
        (λ k. outcome_of (file_read new k) Done)
        ∙ (λ k. outcome_of
        (filed (seen_grown old bytes new d over grown k) name
        ((ap (λ (l : List ℕ). seen_text l text) grown ∙ ap (contents (old ++ bytes)) is
        ∙ new_read old bytes d.written default_look over.counted) k))
        Done)
        ∙ file_done (seen old d) name bytes (over.whole.sound old).shown (room_seen old)
        (fit old (plain_text bytes) (length_in_look default_look bytes))

    pub file_answered : IsAnswered H old new d with_file (step (seen old d) (File name bytes)) Done
    file_answered = acted H old new d with_file (step (seen old d) (File name bytes)) file_over (λ h. file_exact)
