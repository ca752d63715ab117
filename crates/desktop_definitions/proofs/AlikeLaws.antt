-- A desktop whose texts have other bytes in the same looks is as sound: all that is asked of it rests on which texts
-- there are, how long they are and what looks they have.
use Rattle.std.specs.Prelude.{◌≡◌, ℕ, ◌≤◌, All, IsTrue, is_some, List, [], ◌∷◌, length, Option, Some, None}
use Rattle.std.specs.Option.{option_map}
use Rattle.std.specs.Map.{lookup, values_of}
use Rattle.std.specs.List.Sorted.{IsStrictlySortedBy}
use Rattle.std.proofs.Common.{refl, sym, ap, subst, ◌∙◌, arith}
use Rattle.std.proofs.lemmas.List.{length-map}
use Rattle.std.proofs.lemmas.List.Elements.{All-nil, All-cons, All-head, All-tail, All-map}
use Rattle.std.proofs.lemmas.List.Sums.{sum_by-cons}
use Rattle.std.proofs.lemmas.Map.Made.{keys_of-map_values}
use Rattle.event_bytes.specs.Bytes.{is_name}
use Rattle.desktop_definitions.specs.Words.{unwrap_or, nat_cmp, is_at, keys_of, Look, Text}
use Rattle.desktop_definitions.specs.declared.viewer.Viewer.{Viewer}
use Rattle.desktop_definitions.specs.Limits.{most_written}
use Rattle.desktop_definitions.specs.Looks.{IsLook, AreLooks}
use Rattle.desktop_definitions.specs.Tables.{Texts, Files, name_cmp, text_numbered, with_values, lengths}
use Rattle.desktop_definitions.specs.Desktop.{Desktop, characters_held}
use Rattle.desktop_definitions.specs.Opening.{is_shown}
use Rattle.desktop_definitions.specs.Viewers.{text_in, viewer_or_none, main_length}
use Rattle.desktop_definitions.specs.Sound.{IsViewer, AreViewers, AreMarks, AreFiles, HasLooks, IsShaped, IsSound}
use Rattle.desktop_definitions.proofs.TableLaws.{lookup_seen, length_seen, is_some_map}
use Rattle.desktop_definitions.proofs.RewritingLaws.{looks_of}

-- ---- texts

as_long : (text : Text ℕ) → length (looks_of text) ≡ length text
as_long text = length-map {B = Look} text (λ (c : ℕ × Look). c.1)

same_length : (a b : Text ℕ) → looks_of a ≡ looks_of b → length a ≡ length b
same_length a b same = sym (as_long a) ∙ ap length same ∙ as_long b

to_looks : (text : Text ℕ) → AreLooks text → All IsLook (looks_of text)
to_looks text looks = All-map IsLook (λ (c : ℕ × Look). c.1) text looks

from_looks : (text : Text ℕ) → All IsLook (looks_of text) → AreLooks text
from_looks [] all = All-nil (λ (c : ℕ × Look). IsLook c.1)
from_looks (c ∷ text) all =
    All-cons (λ (c : ℕ × Look). IsLook c.1) c text (All-head IsLook c.1 (looks_of text) all)
    (from_looks text (All-tail IsLook c.1 (looks_of text) all))

same_looks : (a b : Text ℕ) → looks_of a ≡ looks_of b → AreLooks b → AreLooks a
same_looks a b same looks = from_looks a (subst (All IsLook) (sym same) (to_looks b looks))

size_of : (found : Option (Text ℕ)) → length (unwrap_or found []) ≡ length (unwrap_or (option_map looks_of found) [])
size_of None = refl
size_of (Some text) = sym (as_long text)

-- ---- tables

module _ {K : Type 0} where
  -- all looks of a table
  abbrev AllLooks : List (K × List Look) → Type 0
  AllLooks es = All (All IsLook) (values_of es)

  table_to : (es : List (K × Text ℕ)) → All AreLooks (values_of es) → AllLooks (with_values looks_of es)
  table_to [] all = All-nil (All IsLook)
  table_to (e ∷ es) all =
      All-cons (All IsLook) (looks_of e.1) (values_of (with_values looks_of es))
      (to_looks e.1 (All-head AreLooks e.1 (values_of es) all))
      (table_to es (All-tail AreLooks e.1 (values_of es) all))

  table_from : (es : List (K × Text ℕ)) → AllLooks (with_values looks_of es) → All AreLooks (values_of es)
  table_from [] all = All-nil AreLooks
  table_from (e ∷ es) all =
      All-cons AreLooks e.1 (values_of es)
      (from_looks e.1 (All-head (All IsLook) (looks_of e.1) (values_of (with_values looks_of es)) all))
      (table_from es (All-tail (All IsLook) (looks_of e.1) (values_of (with_values looks_of es)) all))

  table_lengths : (es : List (K × Text ℕ)) → lengths (with_values looks_of es) ≡ lengths es
  table_lengths [] = refl
  table_lengths (e ∷ es) = omega (
    arith,
    sum_by-cons length (looks_of e.1) (values_of (with_values looks_of es)),
    sum_by-cons length e.1 (values_of es),
    as_long e.1,
    table_lengths es,
  )

  module _ (a b : List (K × Text ℕ)) (same : with_values looks_of a ≡ with_values looks_of b) where
    same_keys : keys_of a ≡ keys_of b
    same_keys = sym (keys_of-map_values looks_of a) ∙ ap keys_of same ∙ keys_of-map_values looks_of b

    same_lengths : lengths a ≡ lengths b
    same_lengths = sym (table_lengths a) ∙ ap (λ (es : List (K × List Look)). lengths es) same ∙ table_lengths b

    same_count : length a ≡ length b
    same_count = sym (length_seen looks_of a) ∙ ap length same ∙ length_seen looks_of b

    all_looks : All AreLooks (values_of b) → All AreLooks (values_of a)
    all_looks all = table_from a (subst AllLooks (sym same) (table_to b all))

-- ---- the desktop

module _ (d : Desktop) (texts : Texts (Text ℕ)) (files : Files (Text ℕ)) (copied deleted : Text ℕ) (count : ℕ)
    (same_texts : with_values looks_of texts ≡ with_values looks_of d.texts)
    (same_files : with_values looks_of files ≡ with_values looks_of d.files)
    (same_copied : looks_of copied ≡ looks_of d.copied) (same_deleted : looks_of deleted ≡ looks_of d.deleted) where
  -- the desktop with these texts, files and buffers, where so many characters count as written
  abbrev pub alike : Desktop
  alike = record d { texts = texts; files = files; copied = copied; deleted = deleted; written = count }

  found : (n : ℕ) → option_map looks_of (text_numbered texts n) ≡ option_map looks_of (text_numbered d.texts n)
  found n = sym (lookup_seen looks_of (is_at (nat_cmp n)) texts) ∙ ap (lookup (is_at (nat_cmp n))) same_texts
      ∙ lookup_seen looks_of (is_at (nat_cmp n)) d.texts

  there : (n : ℕ) → is_some (text_numbered texts n) ≡ is_some (text_numbered d.texts n)
  there n = sym (is_some_map looks_of (text_numbered texts n)) ∙ ap is_some (found n)
      ∙ is_some_map looks_of (text_numbered d.texts n)

  long : (n : ℕ) → length (text_in texts n) ≡ length (text_in d.texts n)
  long n = size_of (text_numbered texts n) ∙ ap (λ (o : Option (List Look)). length (unwrap_or o [])) (found n)
      ∙ sym (size_of (text_numbered d.texts n))

  viewer_alike : (v : ℕ) (viewer : Viewer) → IsViewer d.texts d.viewers v viewer → IsViewer texts d.viewers v viewer
  viewer_alike v viewer was = record {
    menu = there viewer.menu ∙ was.menu;
    main = there viewer.main ∙ was.main;
    org = omega (arith, long viewer.main, was.org);
    not_log = was.not_log;
    no_main = was.no_main;
    own = was.own;
  }

  viewers_alike : AreViewers d.texts d.viewers → AreViewers texts d.viewers
  viewers_alike was = record {
    log = there 0 ∙ was.log;
    numbers = subst (IsStrictlySortedBy nat_cmp) (sym (same_keys texts d.texts same_texts)) was.numbers;
    ids = was.ids;
    each = λ v viewer here. viewer_alike v viewer (was.each v viewer here);
  }

  main_long : main_length texts d.viewers ≡ main_length d.texts d.viewers
  main_long = λ k v. long (viewer_or_none d.viewers v).main k

  files_alike : AreFiles d.files → AreFiles files
  files_alike was = record {
    names = subst (λ (names : List (List ℕ)). All (λ name. IsTrue (is_name name)) names)
        (sym (same_keys files d.files same_files)) was.names;
    rising = subst (IsStrictlySortedBy name_cmp) (sym (same_keys files d.files same_files)) was.rising;
    few = omega (arith, same_count files d.files same_files, was.few);
  }

  looks_alike : HasLooks d → HasLooks alike
  looks_alike was = record {
    look = was.look;
    texts = all_looks texts d.texts same_texts was.texts;
    files = all_looks files d.files same_files was.files;
    copied = same_looks copied d.copied same_copied was.copied;
    deleted = same_looks deleted d.deleted same_deleted was.deleted;
  }

  shaped_alike : IsShaped d → IsShaped alike
  shaped_alike was = record {
    viewers = viewers_alike was.viewers;
    places = was.places;
    marks = subst (λ (f : ℕ → ℕ). AreMarks d.columns f d.caret d.selections) (sym main_long) was.marks;
    marker = was.marker;
    files = files_alike was.files;
    pattern = was.pattern;
    looks = looks_alike was.looks;
  }

  pub held_alike : characters_held alike ≡ characters_held d
  unfolding characters_held
  held_alike = omega (
    arith,
    same_lengths texts d.texts same_texts,
    same_lengths files d.files same_files,
    same_length copied d.copied same_copied,
    same_length deleted d.deleted same_deleted,
  )

  pub sound_alike : IsSound d → count ≤ most_written → IsSound alike
  sound_alike was low = record {
    shaped = shaped_alike was.shaped;
    shown = subst (λ (numbers : List ℕ). All (λ n. IsTrue (is_shown d.viewers n)) numbers)
        (sym (same_keys texts d.texts same_texts)) was.shown;
    written_within = low;
    held_within = omega (arith, held_alike, was.held_within);
  }
