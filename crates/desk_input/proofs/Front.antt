-- Which characters of a text an event leaves: those before the position from which on it changes texts.
use Rattle.std.specs.Prelude.{◌≡◌, ◌≤◌, ℕ, ◌==◌, ◌++◌, Bool, true, false, cond, List, [], ◌∷◌, length, take, drop, if◌then◌else◌}
use Rattle.std.specs.Prelude.{Option, Some, None, Result, Ok, Err, IfOk}
use Rattle.std.specs.Map.{set_value, keys_of}
use Rattle.std.specs.Option.{unwrap_or}
use Rattle.std.specs.Ordering.{nat_cmp}
use Rattle.std.specs.BTreeMap.{is_at}
use Rattle.std.proofs.Common.{refl, sym, ap, subst, ◌∙◌, arith}
use Rattle.std.proofs.lemmas.List.{length-take, take_all}
use Rattle.std.proofs.lemmas.Bool.{eqb-true}
use Rattle.std.proofs.lemmas.Map.{keys-set_value}
use Rattle.std.proofs.Math.Seq.{take-append-le}
use Rattle.event_bytes.specs.declared.event.Event.{Event}
use Rattle.event_bytes.specs.declared.event.Event.TheVariants.{Typed, Key as Pressed, Mark, Point, File}
use Rattle.piece_ring.specs.Text.{Text, inserted}
use Rattle.desktop_definitions.specs.declared.viewer.Viewer.{Viewer}
use Rattle.desktop_definitions.specs.declared.viewer.Caret.{Caret}
use Rattle.desktop_definitions.specs.declared.reply.Reply.TheVariants.{Done, No}
use Rattle.desktop_definitions.specs.Limits.{no_caret, full}
use Rattle.desktop_definitions.specs.Sound.{IsSound}
use Rattle.desktop_definitions.specs.Tables.{Texts, text_numbered}
use Rattle.desktop_definitions.specs.Desktop.{Desktop, KeptDesktop}
use Rattle.desktop_definitions.specs.Seen.{seen}
use Rattle.desktop_definitions.specs.Viewers.{viewer_of, text_of}
use Rattle.desktop_definitions.specs.Needs.{needs}
use Rattle.desktop_definitions.specs.Change.{edited, after_change, insertion, bytes_of, in_look}
use Rattle.desktop_definitions.specs.Change.{put_at_caret, showing, more_written}
use Rattle.desktop_definitions.specs.Changed.{texts_shown}
use Rattle.desktop_definitions.specs.Keys.{after_typing}
use Rattle.desktop_definitions.specs.Opening.{without_unshown}
use Rattle.desktop_definitions.specs.Step.{fits, outcome_after, raw, step_in, Outcome, outcome_of}
use Rattle.desktop_definitions.proofs.ChangeLaws.{followed_shown, org_shown}
use Rattle.desktop_definitions.proofs.PlaceLaws.{at_is}
use Rattle.desktop_definitions.proofs.RowLaws.{shown_rest}
use Rattle.desktop_definitions.proofs.StepLaws.{AllShown, all_stay}
use Rattle.desk_input.specs.Stale.{is_stale, stale_of, stale_from, position_or_zero, stale_at_caret}
use Rattle.desk_input.proofs.Kept.{others_stay}

-- The same viewers show the same texts of the same numbers, and the text of number n has the same first k characters.
record KeepsFront (k n : ℕ) (d new : Desktop) : Type 0 where
  pub text : take k (text_of new n) ≡ take k (text_of d n)
  pub numbers : keys_of new.texts ≡ keys_of d.texts
  pub viewers : texts_shown new.viewers ≡ texts_shown d.viewers

-- a table in which a text is set that has the same first characters as the one there
front_set : (k m : ℕ) (w : Text ℕ) (es : Texts (Text ℕ)) → take k w ≡ take k (unwrap_or (text_numbered es m) [])
    → take k (unwrap_or (text_numbered (set_value (is_at (nat_cmp m)) es w) m) []) ≡ take k (unwrap_or (text_numbered es m) [])
front_set k m w [] same = refl
front_set k m w (e ∷ es) same = (elim (e.0 == m) as (λ b. (e.0 == m) ≡ b
    → take k (unwrap_or (text_numbered (set_value (is_at (nat_cmp m)) (e ∷ es) w) m) [])
    ≡ take k (unwrap_or (text_numbered (e ∷ es) m) [])) [
      | true ↦ λ here.
          let at : is_at (nat_cmp m) e.0 ≡ true = at_is m e.0 ∙ here in
          let so : take k w ≡ take k e.1 = subst there at same in
          rw at (rw at so)
      | false ↦ λ elsewhere.
          let at : is_at (nat_cmp m) e.0 ≡ false = at_is m e.0 ∙ elsewhere in
          let so : take k w ≡ take k (unwrap_or (text_numbered es m) []) = subst there at same in
          rw at (rw at (front_set k m w es so))
    ]) refl
  where
    there : Bool → Type 0
    there b = take k w ≡ take k (unwrap_or (cond {A = Option (Text ℕ)} b (Some e.1) (text_numbered es m)) [])

module _ (k m : ℕ) where
  front_edited : (d : Desktop) (text : Text ℕ) (viewers : List (ℕ × Viewer)) → take k text ≡ take k (text_of d m)
      → texts_shown viewers ≡ texts_shown d.viewers → KeepsFront k m d (edited d m text viewers)
  front_edited d text viewers same shown = record {
    text = front_set k m text d.texts same;
    numbers = keys-set_value (is_at (nat_cmp m)) d.texts text;
    viewers = shown;
  }

  front_insertion : (d : Desktop) (more : Text ℕ) → k ≤ length (text_of d m) → KeepsFront k m d (insertion d m k more)
  unfolding insertion after_change
  front_insertion d [] within = record { text = refl; numbers = refl; viewers = refl }
  front_insertion d (c ∷ more) within =
      let text = text_of d m in
      let long : length (take k text) ≡ k = omega (arith, length-take k text, within) in
      front_edited d (inserted k (c ∷ more) text) _
      (take-append-le k (take k text) ((c ∷ more) ++ drop k text) (omega (arith, long))
      ∙ take_all k (take k text) (omega (arith, long)))
      (followed_shown m (bytes_of (inserted k (c ∷ more) text)) k (length (c ∷ more)) 0 d.viewers)

-- typing keeps the characters before the caret
module _ (d : Desktop) (sound : IsSound d) where
  front_put : (more : Text ℕ) (c : Caret) → c.position ≤ length (text_of d (viewer_of d c.viewer).main)
      → KeepsFront c.position (viewer_of d c.viewer).main d (put_at_caret d more c)
  unfolding showing
  front_put [] c within = record { text = refl; numbers = refl; viewers = refl }
  front_put (first ∷ more) c within =
      let n = (viewer_of d c.viewer).main in
      let new = insertion d n c.position (first ∷ more) in
      let is = front_insertion c.position n d (first ∷ more) within in
      record {
        text = is.text;
        numbers = is.numbers;
        viewers = org_shown (is_at (nat_cmp c.viewer)) _ new.viewers ∙ is.viewers;
      }

-- what is done keeps it, and a refusal does
front_settled : (k n : ℕ) (d : Desktop) (r : Result Desktop ℕ) → AllShown d → IfOk r (KeepsFront k n d)
    → take k (text_of (outcome_after d r).desktop n) ≡ take k (text_of d n)
unfolding outcome_after
front_settled k n d (Err code) shown is = refl
front_settled k n d (Ok new) shown is = elim (fits (without_unshown new)) as
    (λ b. take k (text_of
    (let after : Outcome = if b then outcome_of (without_unshown new) Done else outcome_of d (No full) in after).desktop n)
    ≡ take k (text_of d n)) [
      | true ↦ ap (λ (x : Desktop). take k (text_of x n)) (all_stay new (shown_rest d new is.numbers is.viewers shown))
          ∙ is.text
      | false ↦ refl
    ]

module _ (d : Desktop) (sound : IsSound d) (bytes : List ℕ) where
  caret_within : (c : Caret) → d.caret ≡ Some c → c.position ≤ length (text_of d (viewer_of d c.viewer).main)
  caret_within c here = (sound.shaped.marks.caret_stands c here).within

  -- of the text in which the caret stands
  at_caret : (c : Caret) → d.caret ≡ Some c
      → take c.position (text_of (outcome_after d (after_typing d bytes)).desktop (viewer_of d c.viewer).main)
      ≡ take c.position (text_of d (viewer_of d c.viewer).main)
  unfolding after_typing
  at_caret c here =
      let n : ℕ = (viewer_of d c.viewer).main in
      let is = front_put d sound (in_look d.look bytes) c (caret_within c here) in
      subst (λ (o : Option Caret). take c.position (text_of (outcome_after d (needs o no_caret
      (λ c. Ok (more_written (put_at_caret d (in_look d.look bytes) c) (length bytes))))).desktop n)
      ≡ take c.position (text_of d n)) (sym here)
      (front_settled c.position n d (Ok (more_written (put_at_caret d (in_look d.look bytes) c) (length bytes)))
      sound.shown
      (record { text = is.text; numbers = is.numbers; viewers = is.viewers }))

  of_caret : (version n : ℕ) (c : Caret) → d.caret ≡ Some c → (viewer_of d c.viewer).main ≡ n
      → take c.position (text_of (step_in version d (Typed bytes)).desktop n) ≡ take c.position (text_of d n)
  unfolding step_in raw
  of_caret version n c here is =
      subst (λ m. take c.position (text_of (outcome_after d (after_typing d bytes)).desktop m) ≡ take c.position (text_of d m)) is
      (at_caret c here)

  elsewhere : (n : ℕ) (c : Caret) → d.caret ≡ Some c → ((viewer_of d c.viewer).main == n) ≡ false
      → is_stale (stale_of d (Typed bytes)) n ≡ false
  unfolding stale_of
  elsewhere n c here apart = subst (λ o. is_stale (stale_at_caret d.viewers o) n ≡ false) (sym here) apart

  -- and so of each text
  typed_front : (version n : ℕ) (o : Option Caret) → d.caret ≡ o
      → take (position_or_zero o) (text_of (step_in version d (Typed bytes)).desktop n)
      ≡ take (position_or_zero o) (text_of d n)
  typed_front version n None here = refl
  typed_front version n (Some c) here = (elim ((viewer_of d c.viewer).main == n) as
      (λ b. ((viewer_of d c.viewer).main == n) ≡ b
      → take c.position (text_of (step_in version d (Typed bytes)).desktop n) ≡ take c.position (text_of d n)) [
        | true ↦ λ there. of_caret version n c here (eqb-true (viewer_of d c.viewer).main n there)
        | false ↦ λ apart. ap (take c.position) (others_stay version d (Typed bytes) n sound (elsewhere n c here apart))
      ]) refl

pub fronts_stay : (version : ℕ) (d : Desktop) (event : Event) (n : ℕ) → IsSound d
    → take (stale_from d event) (text_of (step_in version d event).desktop n) ≡ take (stale_from d event) (text_of d n)
unfolding stale_from
fronts_stay version d (Typed bytes) n sound = typed_front d sound bytes version n d.caret refl
fronts_stay version d (Pressed key) n sound = refl
fronts_stay version d (Mark x y) n sound = refl
fronts_stay version d (Point keys x0 y0 x1 y1) n sound = refl
fronts_stay version d (File name bytes) n sound = refl

-- from where on doesn't rest on the characters
pub from_seen : (characters : List ℕ) (d : KeptDesktop) (event : Event)
    → stale_from (seen characters d) event ≡ stale_from d event
unfolding seen stale_from
from_seen characters d (Typed bytes) = refl
from_seen characters d (Pressed key) = refl
from_seen characters d (Mark x y) = refl
from_seen characters d (Point keys x0 y0 x1 y1) = refl
from_seen characters d (File name bytes) = refl
