-- Laws of a desktop into which the first of some documents were filed, in memory.
use Rattle.std.specs.Prelude.{◌≡◌, ℕ, ◌+◌, List, [], ◌∷◌, ◌++◌, length, true}
use Rattle.std.proofs.Common.{append-nil, append_assoc, refl, sym, ap, ◌∙◌, arith, subst, length-append}
use Rattle.std.proofs.lemmas.List.Sums.{fold-append}
use Rattle.piece_ring.specs.Look.{default_look}
use Rattle.piece_ring.proofs.Lengths.{length-run}
use Rattle.piece_ring.proofs.Offsets.{run-AreWithin}
use Rattle.piece_ring.specs.Text.{AreWithin}
use Rattle.readers_scanners.specs.Reading.{contents}
use Rattle.desktop_definitions.specs.declared.reply.Reply.TheVariants.{Done}
use Rattle.desktop_definitions.specs.Tables.{name_cmp, file_put}
use Rattle.desktop_definitions.specs.Desktop.{Desktop, KeptDesktop}
use Rattle.desktop_definitions.specs.Change.{plain_text}
use Rattle.desktop_definitions.specs.Looks.{AreLooks}
use Rattle.desktop_definitions.specs.Seen.{seen, seen_text}
use Rattle.desktop_definitions.specs.Sound.{IsWithin, IsOver}
use Rattle.desktop_definitions.specs.Outcome.{IsAnswered}
use Rattle.desktop_definitions.specs.Step.{filed, fits, outcome_after, outcome_of}
use Rattle.desktop_definitions.proofs.TableLaws.{insert_seen, length_seen_text, length_seen, put_within}
use Rattle.desktop_definitions.proofs.SeenLaws.{seen_longer, new_read}
use Rattle.desktop_definitions.proofs.LookedLaws.{default_is_look, run_looks, seen_looks}
use Rattle.desktop_definitions.proofs.OutcomeLaws.{within_longer, acted}
use Rattle.desktop_definitions.proofs.StepLaws.{AllShown}
use Rattle.desktop_definitions.proofs.CollectLaws.{held_in_all}
use Rattle.std.proofs.lemmas.Grind.{flat_map-append}
use Rattle.std.proofs.lemmas.List.Concat.{flat_map-cons}
use Rattle.desk_core.specs.Doing.{SettlesBringing}
use Rattle.document_filing.specs.Gathered.{IsLoose, IsGathered, IsFiledAs}
use Rattle.document_filing.specs.Bringing.{Documents, all_bytes, all_filed, has_few_files, all_brought}
use Rattle.document_filing.proofs.BringingLaws.{sound_loose, loose_sound, filed_loose, brought_done}

pub gathered_none : (old : List ℕ) (d : KeptDesktop) → IsOver old d → IsGathered old old d d []
unfolding all_filed
gathered_none old d over = record {
  exact = λ all long. ap (λ (l : List ℕ). seen l d) (append-nil all);
  added = sym (append-nil old);
  counted = omega arith;
  within = over.whole.within;
  loose = λ characters. sound_loose (seen characters d) (over.whole.sound characters);
}

flat_map_one : (document : List ℕ × List ℕ) → all_bytes (document ∷ []) ≡ document.1
flat_map_one document = flat_map-cons (λ (e : List ℕ × List ℕ). e.1) document [] ∙ append-nil document.1

bytes_behind : (documents : Documents) (document : List ℕ × List ℕ)
    → all_bytes (documents ++ document ∷ []) ≡ all_bytes documents ++ document.1
bytes_behind documents document =
    flat_map-append (λ (e : List ℕ × List ℕ). e.1) documents (document ∷ [])
    ∙ ap (λ (l : List ℕ). all_bytes documents ++ l) (flat_map_one document)

module _ {old now new : List ℕ} {before d after : KeptDesktop} {documents : Documents} {document : List ℕ × List ℕ}
    (is : IsGathered old now before d documents) (more : IsFiledAs document now new d after) where
  abbrev bytes : List ℕ
  bytes = document.1

  abbrev with_file : KeptDesktop
  with_file = record d { files = file_put d.files document.0 more.text; written = d.written + length bytes }

  long : (characters : List ℕ) → length (seen_text characters more.text) ≡ length bytes
  long characters = length_seen_text characters more.text ∙ ap length more.flat_is
      ∙ length-run d.written (length bytes) default_look

  file_read : (characters : List ℕ)
      → seen characters with_file ≡ filed (seen characters d) document.0 (seen_text characters more.text)
  unfolding seen filed
  file_read characters = λ k. record (seen characters d) {
    files = insert_seen (seen_text characters) name_cmp d.files document.0 more.text k;
    written = d.written + sym (long characters) k;
  }

  looks : (characters : List ℕ) → AreLooks (seen_text characters more.text)
  looks characters = seen_looks characters more.text
      (subst AreLooks (sym more.flat_is) (run_looks d.written (length bytes) default_look default_is_look))

  -- over any characters of which there are as many
  module _ (all : List ℕ) (all_long : length all ≡ before.written) where
    abbrev so_far : List ℕ
    so_far = all ++ all_bytes documents

    far : length so_far ≡ d.written
    far = length-append all (all_bytes documents) ∙ ap (λ n. n + length (all_bytes documents)) all_long ∙ is.counted

    behind : all ++ all_bytes (documents ++ document ∷ []) ≡ so_far ++ bytes
    behind = ap (λ (l : List ℕ). all ++ l) (bytes_behind documents document)
        ∙ sym (append_assoc all (all_bytes documents) bytes)

    same_seen : seen (so_far ++ bytes) d ≡ seen so_far d
    same_seen = seen_longer so_far bytes d (subst (λ n. IsWithin n d) (sym far) is.within)

    text_read : seen_text (so_far ++ bytes) more.text ≡ plain_text bytes
    text_read = ap (contents (so_far ++ bytes)) more.flat_is ∙ new_read so_far bytes d.written default_look far

    one_more : all_filed (seen all before) (documents ++ document ∷ [])
        ≡ filed (all_filed (seen all before) documents) document.0 (plain_text bytes)
    unfolding all_filed
    one_more = fold-append (λ (x : Desktop) (e : List ℕ × List ℕ). filed x e.0 (plain_text e.1)) (seen all before) documents
        (document ∷ [])

    one_exact : seen (all ++ all_bytes (documents ++ document ∷ [])) with_file
        ≡ all_filed (seen all before) (documents ++ document ∷ [])
    one_exact = ap (λ (l : List ℕ). seen l with_file) behind ∙ file_read (so_far ++ bytes)
        ∙ (λ k. filed (same_seen k) document.0 (text_read k))
        ∙ ap (λ (x : Desktop). filed x document.0 (plain_text bytes)) (is.exact all all_long) ∙ sym one_more

  wider : IsWithin (d.written + length bytes) d
  wider = within_longer d.written (d.written + length bytes) d (omega arith) is.within

  with_one : IsGathered old new before with_file (documents ++ document ∷ [])
  with_one = record {
    exact = one_exact;
    added = more.added ∙ ap (λ (l : List ℕ). l ++ bytes) is.added
        ∙ append_assoc old (all_bytes documents) bytes
        ∙ ap (λ (l : List ℕ). old ++ l) (sym (bytes_behind documents document));
    counted = ap (λ (l : List ℕ). before.written + length l) (bytes_behind documents document)
        ∙ (let sum = length-append (all_bytes documents) bytes in omega (arith, sum, is.counted));
    within = record {
      texts = wider.texts;
      copied = wider.copied;
      deleted = wider.deleted;
      files = put_within d.written (d.written + length bytes) d.files document.0 more.text (omega arith)
          is.within.files
          (subst (AreWithin (d.written + length bytes)) (sym more.flat_is)
          (run-AreWithin (d.written + length bytes) d.written (length bytes) default_look (omega arith)));
    };
    loose = λ characters. subst IsLoose (sym (file_read characters))
        (filed_loose (seen characters d) document.0 (seen_text characters more.text) (is.loose characters) more.named
        (looks characters));
  }

  pub gathered_more : IsGathered old new before after (documents ++ document ∷ [])
  gathered_more = subst (λ (x : KeptDesktop). IsGathered old new before x (documents ++ document ∷ []))
      (sym more.after_is) with_one

-- ---- at the end

few_same : (a b : List ℕ) (d : KeptDesktop) → length (seen a d).files ≡ length (seen b d).files
unfolding seen
few_same a b d = length_seen (seen_text a) d.files ∙ sym (length_seen (seen_text b) d.files)

written_same : (a b : List ℕ) (d : KeptDesktop) → (seen a d).written ≡ (seen b d).written
unfolding seen
written_same a b d = refl

-- whether a desktop keeps the limits doesn't rest on its characters
pub limits_same : (a b : List ℕ) (d : KeptDesktop)
    → (has_few_files (seen a d) ≡ has_few_files (seen b d)) × (fits (seen a d) ≡ fits (seen b d))
unfolding seen
limits_same a b d = (
  rw (few_same a b d) refl,
  rw (written_same a b d, held_in_all a d ∙ sym (held_in_all b d)) refl,
)

-- All documents were filed, and the limits are kept.
module _ (old new : List ℕ) (before after : KeptDesktop) (documents : Documents) (over : IsOver old before)
    (is : IsGathered old new before after documents)
    (few : (all : List ℕ) → has_few_files (all_filed (seen all before) documents) ≡ true)
    (fit : (all : List ℕ) → fits (all_filed (seen all before) documents) ≡ true) where
  here : seen new after ≡ all_filed (seen old before) documents
  here = ap (λ (l : List ℕ). seen l after) is.added ∙ is.exact old over.counted

  done_at : (all : List ℕ) → length all ≡ before.written → outcome_of (seen (all ++ all_bytes documents) after) Done
      ≡ outcome_after (seen all before) (all_brought (seen all before) documents)
  done_at all long =
      ap (λ (x : Desktop). outcome_of x Done) (is.exact all long)
      ∙ brought_done (seen all before) documents (few all)
      (subst (λ (x : Desktop). AllShown x) (is.exact all long) (is.loose (all ++ all_bytes documents)).shown) (fit all)

  new_over : IsOver new after
  new_over = record {
    counted = ap length is.added ∙ length-append old (all_bytes documents)
        ∙ ap (λ n. n + length (all_bytes documents)) over.counted ∙ is.counted;
    whole = record {
      within = is.within;
      sound = λ characters.
          let same = limits_same characters new after in
          loose_sound (seen characters after) (is.loose characters)
          (same.0 ∙ ap has_few_files here ∙ few old) (same.1 ∙ ap fits here ∙ fit old);
    };
  }

  pub gathered_done : (H : Type 0)
      → IsAnswered H old new before after (outcome_after (seen old before) (all_brought (seen old before) documents)) Done
  gathered_done H = acted H old new before after _ new_over
      (λ h. ap (λ (l : List ℕ). outcome_of (seen l after) Done) is.added ∙ done_at old over.counted)

  pub gathered_unread : SettlesBringing (all_bytes documents) (λ all. all_brought (seen all before) documents)
      before after Done
  gathered_unread = done_at
