-- A copy of a viewer's main text becomes a file, with a line of the log.
use Rattle.std.specs.Prelude.{◌≡◌, ℕ, ◌+◌, ◌≤◌, Bool, true, false, IsTrue, List, [], length, Result, Ok}
use Rattle.std.proofs.Common.{refl, ap, sym, subst, ◌∙◌}
use Rattle.piece_ring.specs.declared.piece.Piece.{Piece}
use Rattle.piece_ring.specs.Flat.{flat}
use Rattle.piece_ring.specs.Text.{Text, AreWithin}
use Rattle.event_bytes.specs.Bytes.{is_name}
use Rattle.readers_scanners.specs.Reading.{contents}
use Rattle.desktop_definitions.specs.declared.reply.Reply.{Reply}
use Rattle.desktop_definitions.specs.declared.reply.Reply.TheVariants.{Done, No}
use Rattle.desktop_definitions.specs.Limits.{most_held, too_many_files, full}
use Rattle.desktop_definitions.specs.Needs.{unless}
use Rattle.desktop_definitions.specs.Tables.{Files, file_put, has_file_room, lengths}
use Rattle.desktop_definitions.specs.Desktop.{Desktop, KeptDesktop, characters_held}
use Rattle.desktop_definitions.specs.Viewers.{viewer_or_none, main_of, kept_main}
use Rattle.desktop_definitions.specs.Effects.{storing_line, stored_as}
use Rattle.desktop_definitions.specs.Log.{logged}
use Rattle.desktop_definitions.specs.Looks.{AreLooks}
use Rattle.desktop_definitions.specs.Step.{outcome_after}
use Rattle.desktop_definitions.specs.Outcome.{IsAnswered}
use Rattle.desktop_definitions.specs.Seen.{seen, seen_text, seen_table}
use Rattle.desktop_definitions.specs.Sound.{IsBuilt, IsOver}
use Rattle.desktop_definitions.specs.Changed.{IsExtended, IsStanding}
use Rattle.desktop_definitions.proofs.RowLaws.{over_built}
use Rattle.desktop_definitions.specs.DeskWords.{has_space, kept_size}
use Rattle.desktop_definitions.proofs.RowPartLaws.{kept_main_seen, kept_main_long, text_within}
use Rattle.desktop_definitions.proofs.LookedLaws.{kept_text_looks}
use Rattle.desktop_definitions.proofs.StoreLaws.{storing_stands, storing_short, storing_answered}
use Rattle.desktop_definitions.proofs.StoreLaws.{storing_refused, storing_full}
use Rattle.desk_core.specs.Filing.{IsFiled, filing}
use Rattle.desk_core.proofs.FilingLemmas.{refused_after}

module _ (H : Type 0) (old : List ℕ) (d : KeptDesktop) (over : IsOver old d) (name : List ℕ) (v : ℕ) (line : List ℕ)
    (size gone all : ℕ) (room : has_file_room (seen_table old d.files) name ≡ true)
    (size_is : size ≡ length (flat (kept_main d v))) (line_is : line ≡ storing_line name size)
    (all_is : all ≡ size + length line)
    (sum : (among : List ℕ) (new : Text ℕ) → lengths (file_put (seen_table among d.files) name new) + gone
    ≡ lengths (seen_table among d.files) + length new)
    (files : Files (List Piece)) (pieces : List Piece) (is : files ≡ file_put d.files name pieces)
    (valid : IsTrue (is_name name)) (same : flat pieces ≡ flat (kept_main d v)) where
  built : IsBuilt (length old) d
  built = over_built old d over

  size_seen : size ≡ length (main_of (seen old d) v)
  size_seen = size_is ∙ sym (kept_main_long old d v)

  within : AreWithin (length old) (flat pieces)
  within = subst (AreWithin (length old)) (sym same)
      (text_within (length old) d (viewer_or_none d.viewers v).main built.within)

  looks : AreLooks (flat pieces)
  looks = subst AreLooks (sym same) (kept_text_looks (length old) d built (viewer_or_none d.viewers v).main)

  reads : seen_text old pieces ≡ main_of (seen old d) v
  reads = ap (λ (t : Text ℕ). contents old t) same ∙ sym (kept_main_seen old d v)

  -- the line can go into the log then
  pub copy_stands : IsStanding old (record d { files = files })
  copy_stands = storing_stands H old d over name (main_of (seen old d) v) line size gone all room size_seen line_is
      all_is sum files pieces is valid within looks reads

  pub copy_short : has_space (seen [] d) (length line) all gone ≡ true
      → characters_held (seen [] (record d { files = files })) + length line ≤ most_held
  copy_short = storing_short H old d over name (main_of (seen old d) v) line size gone all room size_seen line_is
      all_is sum files pieces is valid within looks reads

  -- the file is there, and the line in the log
  pub copy_answered : (new : List ℕ) (after : KeptDesktop)
      → IsExtended H old new (record d { files = files }) after (λ x. logged x line) (length line)
      → ((among : List ℕ) → has_space (seen among d) (length line) all gone ≡ true)
      → IsAnswered H old new d after (outcome_after (seen old d) (unless (has_file_room (seen old d).files name) too_many_files
      (Ok (stored_as (seen old d) name (main_of (seen old d) v))))) Done
  copy_answered = storing_answered H old d over name (main_of (seen old d) v) line size gone all room size_seen line_is
      all_is sum files pieces is valid within looks reads

-- ---- refused

module _ (H : Type 0) (old : List ℕ) (d : KeptDesktop) (over : IsOver old d) (name : List ℕ) (v : ℕ) (line : List ℕ)
    (size all : ℕ) (size_is : size ≡ length (flat (kept_main d v))) (line_is : line ≡ storing_line name size)
    (all_is : all ≡ size + length line) {copy : List Piece} {left : KeptDesktop} {reply : Reply}
    (put : IsFiled d name copy (length line) all left reply) (code : ℕ) where
  abbrev pub row : Result Desktop ℕ
  row = unless (has_file_room (seen old d).files name) too_many_files
      (Ok (stored_as (seen old d) name (main_of (seen old d) v)))

  refused_by : (room space : Bool) → has_file_room (seen_table old d.files) name ≡ room
      → has_space (seen old d) (length line) all (kept_size d.files name) ≡ space
      → No code ≡ filing room space → IsAnswered H old old d d (outcome_after (seen old d) row) (No code)
  refused_by false space none tested is =
      subst (λ (n : ℕ). IsAnswered H old old d d (outcome_after (seen old d) row) (No n))
      (let same : too_many_files ≡ code = cc is in same)
      (storing_refused H old d over name (main_of (seen old d) v) none)
  refused_by true false room none is =
      subst (λ (n : ℕ). IsAnswered H old old d d (outcome_after (seen old d) row) (No n))
      (let same : full ≡ code = cc is in same)
      (storing_full H old d over name (main_of (seen old d) v) line size (kept_size d.files name) all room
      (size_is ∙ sym (kept_main_long old d v)) line_is all_is put.gone none)
  refused_by true true room space is = absurd (cc is)

  pub copy_refused : reply ≡ No code → IsAnswered H old old d left (outcome_after (seen old d) row) (No code)
  copy_refused is =
      subst (λ (after : KeptDesktop). IsAnswered H old old d after (outcome_after (seen old d) row) (No code))
      (sym (refused_after put code is)) (refused_by _ _ refl refl (sym is ∙ put.answered old))
