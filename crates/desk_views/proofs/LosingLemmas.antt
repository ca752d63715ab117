-- What closing a viewer would lose, as it is read.
use Rattle.std.specs.Prelude.{◌≡◌, ℕ, ◌&&◌, not, Bool, true, false, List, length, Option, Some, None}
use Rattle.std.specs.Prelude.{IfSome, option_map, Result, Ok}
use Rattle.std.proofs.Common.{refl, sym, ap, subst, ◌∙◌}
use Rattle.std.proofs.lemmas.Map.Views.{IfSome-lookup_from_All}
use Rattle.std.proofs.lemmas.Result.{IfOk-weaker}
use Rattle.sector_disk.specs.Trail.{CountsFault}
use Rattle.char_file.proofs.Reading.{no_read, read_on}
use Rattle.char_file.specs.declared.source.CharSource.{Ghosts}
use Rattle.piece_ring.specs.declared.piece.Piece.{Piece}
use Rattle.piece_ring.specs.Flat.{flat}
use Rattle.piece_ring.specs.Text.{Text, AreWithin}
use Rattle.readers_scanners.specs.Reading.{contents}
use Rattle.desktop_definitions.specs.Words.{is_at}
use Rattle.desktop_definitions.specs.Tables.{name_cmp, file_named}
use Rattle.desktop_definitions.specs.Desktop.{Desktop, KeptDesktop, file_of}
use Rattle.desktop_definitions.specs.Viewers.{viewer_or_none, text_in, main_of}
use Rattle.desktop_definitions.specs.Seen.{seen, seen_text}
use Rattle.desktop_definitions.specs.Sound.{IsOver}
use Rattle.desktop_definitions.proofs.SeenLaws.{within_counted}
use Rattle.desktop_definitions.proofs.TableLaws.{lookup_seen, length_seen_text}
use Rattle.desk_core.specs.Reads.{TellsValue}
use Rattle.desk_core.proofs.PositionLemmas.{main_reads}
use Rattle.desk_views.specs.Unstored.{is_same_text, is_in_file, is_shown_too, is_single, is_its_own, is_stored, is_unstored}

-- ---- a viewer's text and a file's

module _ (characters : List ℕ) (d : KeptDesktop) (v : ℕ) (name : List ℕ) where
  file_seen : file_of (seen characters d) name ≡ option_map (seen_text characters) (file_named d.files name)
  unfolding file_of seen
  file_seen = lookup_seen (seen_text characters) _ d.files

  pub in_no_file : None ≡ file_named d.files name → false ≡ is_in_file (main_of (seen characters d) v) (file_of (seen characters d) name)
  in_no_file is =
      ap (λ (o : Option (List Piece)). is_in_file (main_of (seen characters d) v) (option_map (seen_text characters) o)) is
      ∙ sym (ap (is_in_file (main_of (seen characters d) v)) file_seen)

  pub in_the_file : (text file : List Piece) → text ≡ text_in d.texts (viewer_or_none d.viewers v).main
      → Some file ≡ file_named d.files name
      → is_same_text (contents characters (flat text)) (contents characters (flat file))
      ≡ is_in_file (main_of (seen characters d) v) (file_of (seen characters d) name)
  in_the_file text file text_is is =
      ap (λ (t : List Piece). is_same_text (contents characters (flat t)) (contents characters (flat file))) text_is
      ∙ sym (ap (λ (t : Text ℕ). is_same_text t (contents characters (flat file))) (main_reads characters d v))
      ∙ ap (λ (o : Option (List Piece)). is_in_file (main_of (seen characters d) v) (option_map (seen_text characters) o)) is
      ∙ sym (ap (is_in_file (main_of (seen characters d) v)) file_seen)

-- each character of a file is one of the source's
pub file_within : (characters : List ℕ) (d : KeptDesktop) (name : List ℕ) (file : List Piece) → IsOver characters d
    → Some file ≡ file_named d.files name → AreWithin (length characters) (flat file)
file_within characters d name file over is =
    subst (λ (o : Option (List Piece)). IfSome o (λ pieces. AreWithin (length characters) (flat pieces))) (sym is)
    (IfSome-lookup_from_All (λ pieces. AreWithin (length characters) (flat pieces)) (is_at (name_cmp name)) d.files
    (within_counted characters d over).files)

-- ---- whose text is its own

pub own_as : (characters : List ℕ) (d : KeptDesktop) (v number len : ℕ) (text : List Piece) (other : Bool)
    → number ≡ (viewer_or_none d.viewers v).main → text ≡ text_in d.texts (viewer_or_none d.viewers v).main
    → len ≡ length (flat text) → other ≡ is_shown_too d v
    → is_single number len other ≡ is_its_own (seen characters d) v
unfolding is_its_own seen
own_as characters d v number len text other number_is text_is len_is other_is =
    let long : len ≡ length (main_of (seen characters d) v) =
    len_is ∙ ap (λ (t : List Piece). length (flat t)) text_is
    ∙ sym (ap length (main_reads characters d v) ∙ length_seen_text characters (text_in d.texts (viewer_or_none d.viewers v).main)) in
    λ k. is_single (number_is k) (long k) (other_is k)

pub lost_not : (d : Desktop) (v : ℕ) → is_its_own d v ≡ false → false ≡ is_unstored d v
unfolding is_unstored
lost_not d v other = sym (ap (λ own. own && not (is_stored d v)) other)

pub lost_by : (d : Desktop) (v : ℕ) (stored : Bool) → is_its_own d v ≡ true → stored ≡ is_stored d v
    → not stored ≡ is_unstored d v
unfolding is_unstored
lost_by d v stored own is = ap not is ∙ sym (ap (λ own. own && not (is_stored d v)) own)

-- ---- reads, one after another

-- where nothing was read
pub tells_still : {S T E : Type 0} (s : Ghosts S) (ground_self : (a : S) → s.same_ground a a) (source : S) (d : KeptDesktop)
    (said : Desktop → T) (told : T) → (told ≡ said (seen (s.characters source) d))
    → TellsValue s {E = E} (Ok told) said source source d
tells_still s ground_self source d said told is = record {
  exact = λ h. is;
  reads = no_read s.characters s.failures s.honest s.same_ground ground_self source;
  cause = refl;
}

-- what is told by what was read first
pub tells_as : {S A T E : Type 0} (s : Ghosts S) (old new : S) (d : KeptDesktop) (first : Desktop → A) (said : Desktop → T)
    (a : A) (told : T)
    → (a ≡ first (seen (s.characters old) d) → told ≡ said (seen (s.characters old) d))
    → TellsValue s {E = E} (Ok a) first old new d → TellsValue s {E = E} (Ok told) said old new d
tells_as s old new d first said a told same before = record {
  exact = λ h. same (before.exact h);
  reads = before.reads;
  cause = before.cause;
}

-- and by what is read then
pub tells_then : {S A T E : Type 0} (s : Ghosts S)
    (ground_through : (a b c : S) → s.same_ground a b → s.same_ground b c → s.same_ground a c) (old mid new : S)
    (d : KeptDesktop) (first : Desktop → A) (there said : Desktop → T) (a : A) (result : Result T E)
    → (a ≡ first (seen (s.characters old) d) → there (seen (s.characters old) d) ≡ said (seen (s.characters old) d))
    → TellsValue s {E = E} (Ok a) first old mid d → TellsValue s result there mid new d → TellsValue s result said old new d
tells_then {E = E} s ground_through old mid new d first there said a result same before after = record {
  exact = IfOk-weaker result _ _ (λ told is h.
      is (before.reads.still h) ∙ ap (λ (l : List ℕ). there (seen l d)) (before.reads.same h) ∙ same (before.exact h))
      after.exact;
  reads = read_on s.characters s.failures s.honest s.same_ground ground_through old mid new before.reads after.reads;
  cause = subst (λ n. CountsFault result n (s.failures new)) before.cause after.cause;
}

-- what is told is said otherwise
pub tells_so : {S T E : Type 0} (s : Ghosts S) (old new : S) (d : KeptDesktop) (there said : Desktop → T)
    (result : Result T E) → there (seen (s.characters old) d) ≡ said (seen (s.characters old) d)
    → TellsValue s result there old new d → TellsValue s result said old new d
tells_so s old new d there said result same before = record {
  exact = IfOk-weaker result _ _ (λ told is h. is h ∙ same) before.exact;
  reads = before.reads;
  cause = before.cause;
}
