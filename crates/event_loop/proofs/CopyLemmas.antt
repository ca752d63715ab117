-- A text of what is selected, of what was copied, and the one with the caret, seen among the characters of its desktop.
use Rattle.std.specs.Prelude.{◌≡◌, ℕ, List, length, Option, Some, None, option_map, IfSome}
use Rattle.std.proofs.Common.{◌∙◌, refl, sym, ap, subst}
use Rattle.piece_ring.specs.declared.piece.Piece.{Piece}
use Rattle.piece_ring.specs.Flat.{flat}
use Rattle.piece_ring.specs.Text.{Text, stretch, AreWithin}
use Rattle.piece_ring.proofs.Offsets.{stretch-AreWithin}
use Rattle.readers_scanners.specs.Reading.{contents}
use Rattle.desktop_definitions.specs.declared.viewer.Caret.{Caret}
use Rattle.desktop_definitions.specs.declared.viewer.Selection.{Selection}
use Rattle.desktop_definitions.specs.Desktop.{KeptDesktop}
use Rattle.desktop_definitions.specs.Seen.{seen}
use Rattle.desktop_definitions.specs.Sound.{IsOver}
use Rattle.desktop_definitions.specs.Viewers.{kept_main, main_of, newest, selected, viewer_or_none}
use Rattle.event_loop.specs.CaretText.{caret_text}
use Rattle.desktop_definitions.proofs.RowPartLaws.{copy_seen, kept_main_seen, text_within}

-- the characters of a stretch of a viewer's main text
abbrev pub stretch_of : KeptDesktop → Selection → Text ℕ
stretch_of d s = stretch s.beg s.end (flat (kept_main d s.viewer))

-- what was copied is among the characters of its desktop
pub copied_within : (characters : List ℕ) (d : KeptDesktop) (text : List Piece) → flat text ≡ flat d.copied
    → IsOver characters d → AreWithin (length characters) (flat text)
copied_within characters d text is over = subst (AreWithin (length characters)) (sym is)
    (subst (λ n. AreWithin n (flat d.copied)) (sym over.counted) over.whole.within.copied)

stretch_seen : (characters : List ℕ) (d : KeptDesktop) (s : Option Selection) (text : Option (List Piece))
    → option_map flat text ≡ option_map (stretch_of d) s
    → option_map (λ t. contents characters (flat t)) text ≡ option_map (selected (seen characters d)) s
stretch_seen characters d None None is = refl
stretch_seen characters d None (Some text) is = absurd (cc is)
stretch_seen characters d (Some s) None is = absurd (cc is)
stretch_seen characters d (Some s) (Some text) is = ap Some (copy_seen characters d s text (cc is))

pub selected_seen : (characters : List ℕ) (d : KeptDesktop) (text : Option (List Piece))
    → option_map flat text ≡ option_map (stretch_of d) (newest d)
    → option_map (λ t. contents characters (flat t)) text
    ≡ option_map (selected (seen characters d)) (newest (seen characters d))
unfolding seen
selected_seen characters d text is = stretch_seen characters d (newest d) text is

stretch_within : (characters : List ℕ) (d : KeptDesktop) (s : Option Selection) (text : Option (List Piece))
    → option_map flat text ≡ option_map (stretch_of d) s → IsOver characters d
    → IfSome text (λ t. AreWithin (length characters) (flat t))
stretch_within characters d s None is over = tt
stretch_within characters d None (Some text) is over = absurd (cc is)
stretch_within characters d (Some s) (Some text) is over =
    let there = subst (λ n. AreWithin n (flat (kept_main d s.viewer))) (sym over.counted)
    (text_within d.written d (viewer_or_none d.viewers s.viewer).main over.whole.within) in
    let same : flat text ≡ stretch_of d s = cc is in
    subst (AreWithin (length characters)) (sym same)
    (stretch-AreWithin (length characters) s.beg s.end (flat (kept_main d s.viewer)) there)

pub selected_within : (characters : List ℕ) (d : KeptDesktop) (text : Option (List Piece))
    → option_map flat text ≡ option_map (stretch_of d) (newest d) → IsOver characters d
    → IfSome text (λ t. AreWithin (length characters) (flat t))
selected_within characters d text is over = stretch_within characters d (newest d) text is over

-- ---- the text in which the caret stands

module _ {B : Type 0} (current : B → List Piece) (characters : List ℕ) (d : KeptDesktop) where
  caret_seen : (c : Option Caret) (text : Option B)
      → option_map current text ≡ option_map (λ (c : Caret). kept_main d c.viewer) c
      → option_map (λ b. contents characters (flat (current b))) text
      ≡ option_map (λ (c : Caret). main_of (seen characters d) c.viewer) c
  caret_seen None None is = refl
  caret_seen None (Some text) is = absurd (cc is)
  caret_seen (Some c) None is = absurd (cc is)
  caret_seen (Some c) (Some text) is =
      let same : current text ≡ kept_main d c.viewer = cc is in
      ap Some (ap (λ (t : List Piece). contents characters (flat t)) same ∙ sym (kept_main_seen characters d c.viewer))

  pub caret_text_seen : (text : Option B)
      → option_map current text ≡ option_map (λ (c : Caret). kept_main d c.viewer) d.caret
      → option_map (λ b. contents characters (flat (current b))) text ≡ caret_text (seen characters d)
  unfolding seen caret_text
  caret_text_seen text is = caret_seen d.caret text is

  caret_within : (c : Option Caret) (text : Option B)
      → option_map current text ≡ option_map (λ (c : Caret). kept_main d c.viewer) c → IsOver characters d
      → IfSome text (λ b. AreWithin (length characters) (flat (current b)))
  caret_within c None is over = tt
  caret_within None (Some text) is over = absurd (cc is)
  caret_within (Some c) (Some text) is over =
      let same : current text ≡ kept_main d c.viewer = cc is in
      subst (λ (t : List Piece). AreWithin (length characters) (flat t)) (sym same)
      (subst (λ n. AreWithin n (flat (kept_main d c.viewer))) (sym over.counted)
      (text_within d.written d (viewer_or_none d.viewers c.viewer).main over.whole.within))

  pub caret_text_within : (text : Option B)
      → option_map current text ≡ option_map (λ (c : Caret). kept_main d c.viewer) d.caret → IsOver characters d
      → IfSome text (λ b. AreWithin (length characters) (flat (current b)))
  caret_text_within text is over = caret_within d.caret text is over
