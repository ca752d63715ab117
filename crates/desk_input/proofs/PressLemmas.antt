-- Presses one after another, as they are gathered, and as they are told.
use Rattle.std.specs.Prelude.{◌≡◌, ℕ, zero, suc, ◌+◌, ◌-◌, ◌/◌, ◌%◌, ◌<◌, ◌==◌, ◌&&◌, Bool, true, false, if◌then◌else◌, List, []}
use Rattle.std.specs.Prelude.{◌∷◌, ◌++◌, replicate, Option, Some, None, IfSome}
use Rattle.std.proofs.Common.{refl, sym, ap, subst, ◌∙◌, arith}
use Rattle.std.proofs.lemmas.Bool.{and_parts, ltb-true}
use Rattle.event_bytes.specs.declared.event.Event.{Event}
use Rattle.event_bytes.specs.declared.keys.Keys.TheVariants.{Left}
use Rattle.piece_ring.specs.declared.piece.Piece.{Piece}
use Rattle.piece_ring.specs.Flat.{flat}
use Rattle.readers_scanners.specs.Reading.{bytes_of_text}
use Rattle.viewer_tracks.specs.declared.display.TheConstants.{ROWS, COLUMNS}
use Rattle.viewer_tracks.specs.Columns.{IsOnTop, seen_at}
use Rattle.desktop_definitions.specs.Desktop.{DesktopOf, KeptDesktop}
use Rattle.desktop_definitions.specs.Viewers.{text_in, viewer_or_none, main_of, rows_of}
use Rattle.desktop_definitions.specs.Change.{bytes_of}
use Rattle.desktop_definitions.specs.Gesture.{is_on_display}
use Rattle.desktop_definitions.specs.Seen.{seen}
use Rattle.desktop_definitions.specs.Sound.{IsKeptWhole, IsOver}
use Rattle.desk_core.proofs.PositionLemmas.{bytes_read}
use Rattle.desk_input.specs.declared.way.Way.{Way}
use Rattle.desk_input.specs.declared.wish.Wish.{Wish}
use Rattle.desk_input.specs.Lines.{wished, way_to}
use Rattle.desk_input.specs.Scrolling.{viewer_meant, bar_press, share_presses, rest_presses, way_presses}
use Rattle.desk_input.specs.Scrolling.{way_in, wished_in, is_passable, line_presses, presses_in, presses_to, Scrolls}
use Rattle.desk_input.proofs.ScrollLaws.{meant_shown, told_scroll}

-- ---- lists

joined : {X : Type 0} (xs ys zs : List X) → (xs ++ ys) ++ zs ≡ xs ++ (ys ++ zs)
joined {X = X} [] ys zs = refl
joined {X = X} (x ∷ xs) ys zs = ap (λ (l : List X). x ∷ l) (joined xs ys zs)

pub nothing_more : {X : Type 0} (xs : List X) → xs ≡ xs ++ []
nothing_more {X = X} [] = refl
nothing_more {X = X} (x ∷ xs) = ap (λ (l : List X). x ∷ l) (nothing_more xs)

replicated : {X : Type 0} (n : ℕ) (x : X) → replicate n x ++ x ∷ [] ≡ replicate (suc n) x
replicated {X = X} zero x = refl
replicated {X = X} (suc n) x = ap (λ (l : List X). x ∷ l) (replicated n x)

-- one more of the same
pub one_again : (n : ℕ) (x : Event) (xs now later : List Event) → now ≡ xs ++ replicate n x → later ≡ now ++ x ∷ []
    → later ≡ xs ++ replicate (n + 1) x
one_again n x xs now later is more =
    more ∙ ap (λ (l : List Event). l ++ x ∷ []) is ∙ joined xs (replicate n x) (x ∷ [])
    ∙ ap (λ (l : List Event). xs ++ l) (replicated n x)
    ∙ ap (λ (k : ℕ). xs ++ replicate k x) (let e : suc n ≡ n + 1 = omega arith in e)

pub rest_by : {T : Type 0} (d : DesktopOf T) (v n : ℕ) (b : Bool) (xs now : List Event) → (n == 0) ≡ b
    → now ≡ xs ++ (if b then [] else bar_press d v Left n ∷ []) → now ≡ xs ++ rest_presses d v n
rest_by d v n b xs now is made =
    made ∙ ap (λ (c : Bool). xs ++ (if c then [] else bar_press d v Left n ∷ [])) (sym is)

-- the presses of a way, part by part
pub way_whole : (d : KeptDesktop) (v page pages rest : ℕ) (way : Way) (none first second third : List Event)
    → page ≡ rows_of d v - 1 → pages ≡ way.lines / page → rest ≡ way.lines % page → none ≡ []
    → first ≡ none ++ share_presses d v way.share → second ≡ first ++ replicate pages (bar_press d v Left page)
    → third ≡ second ++ rest_presses d v rest → third ≡ way_presses d v way
way_whole d v page pages rest way none first second third page_is pages_is rest_is none_is one two three =
    let share = share_presses d v way.share in
    let down = replicate pages (bar_press d v Left page) in
    three
    ∙ ap (λ (l : List Event). l ++ rest_presses d v rest) (two
    ∙ ap (λ (l : List Event). l ++ down) (one ∙ ap (λ (l : List Event). l ++ share) none_is))
    ∙ joined share down (rest_presses d v rest)
    ∙ (λ k. share ++ (replicate (pages_is k) (bar_press d v Left page) ++ rest_presses d v (rest_is k)))
    ∙ ap (λ (p : ℕ). share ++ (replicate (way.lines / p) (bar_press d v Left p) ++ rest_presses d v (way.lines % p)))
    page_is

-- ---- what was read of a viewer

module _ (old : List ℕ) (d : KeptDesktop) (v h org : ℕ) (text : List Piece) (rows_is : h ≡ rows_of d v)
    (org_is : org ≡ (viewer_or_none d.viewers v).org)
    (text_is : text ≡ text_in d.texts (viewer_or_none d.viewers v).main) where
  bytes_are : bytes_of_text old (flat text) ≡ bytes_of (main_of (seen old d) v)
  bytes_are = ap (λ (t : List Piece). bytes_of_text old (flat t)) text_is ∙ sym (bytes_read old d v)

  pub way_read : (t : ℕ) → way_to (bytes_of_text old (flat text)) h org t ≡ way_in (seen old d) v t
  unfolding way_in seen
  way_read t = λ k. way_to (bytes_are k) (rows_is k) (org_is k) t

  pub wished_read : (wish : Wish) → wished (bytes_of_text old (flat text)) h org wish ≡ wished_in (seen old d) v wish
  unfolding wished_in seen
  wished_read wish = λ k. wished (bytes_are k) (rows_is k) (org_is k) wish

-- ---- presses as they are told

module _ (old : List ℕ) (d : KeptDesktop) (v rows t : ℕ) (way : Way) (rows_is : rows ≡ rows_of d v)
    (way_is : way ≡ way_in (seen old d) v t) where
  passes_as : (b : Bool) → b ≡ is_passable rows way → b ≡ is_passable (rows_of d v) (way_in (seen old d) v t)
  passes_as b is = is ∙ (λ k. is_passable (rows_is k) (way_is k))

  pub told_some : (events : List Event) → is_passable rows way ≡ true → events ≡ way_presses d v way
      → Some events ≡ line_presses (seen old d) v t
  unfolding seen bar_press
  told_some events passes is =
      ap (λ (l : List Event). Some l) (is ∙ ap (way_presses d v) way_is)
      ∙ ap (λ (b : Bool).
      let o : Option (List Event) = if b then Some (way_presses d v (way_in (seen old d) v t)) else None in o)
      (passes_as true (sym passes))

  pub told_none : is_passable rows way ≡ false → None ≡ line_presses (seen old d) v t
  unfolding seen bar_press
  told_none stops = ap (λ (b : Bool).
      let o : Option (List Event) = if b then Some (way_presses d v (way_in (seen old d) v t)) else None in o)
      (passes_as false (sym stops))

pub passes_high : (rows : ℕ) (way : Way) → is_passable rows way ≡ true → 1 < rows
passes_high rows way passes = ltb-true 1 rows (and_parts _ _ passes).0

-- ---- the viewer that is meant

module _ {T : Type 0} (d : DesktopOf T) (x y : ℕ) where
  pub meant_outside : (is_on_display x y && is_on_display x y) ≡ false → None ≡ viewer_meant d (Some (x, y))
  unfolding viewer_meant
  meant_outside is = (elim (is_on_display x y) as (λ (b : Bool). (b && b) ≡ false
      → None ≡ (let o : Option ℕ = if b then seen_at d.columns x y else None in o)) [
        | true ↦ λ wrong. absurd (cc wrong)
        | false ↦ λ outside. refl
      ]) is

  pub meant_inside : (is_on_display x y && is_on_display x y) ≡ true
      → seen_at d.columns x y ≡ viewer_meant d (Some (x, y))
  unfolding viewer_meant
  meant_inside is = ap (λ (b : Bool). let o : Option ℕ = if b then seen_at d.columns x y else None in o)
      (sym (and_parts _ _ is).0)

pub cell_inside : (x y : ℕ) → (is_on_display x y && is_on_display x y) ≡ true → (x < COLUMNS) × (y < ROWS)
cell_inside x y is =
    let both = and_parts _ _ (and_parts _ _ is).0 in (ltb-true x COLUMNS both.0, ltb-true y ROWS both.1)

meant_seen : (old : List ℕ) (d : KeptDesktop) (at : Option (ℕ × ℕ)) → viewer_meant d at ≡ viewer_meant (seen old d) at
unfolding viewer_meant seen
meant_seen old d None = refl
meant_seen old d (Some cell) = refl

shown_seen : (old : List ℕ) (d : KeptDesktop) (v : ℕ) → IsOnTop v (seen old d).columns → IsOnTop v d.columns
unfolding seen
shown_seen old d v top = top

pub meant_kept : (d : KeptDesktop) (at : Option (ℕ × ℕ)) (v : ℕ) → IsKeptWhole d → Some v ≡ viewer_meant d at
    → IsOnTop v d.columns
meant_kept d at v whole is =
    shown_seen [] d v (subst (λ (o : Option ℕ). IfSome o (λ v. IsOnTop v (seen [] d).columns))
    (sym (is ∙ meant_seen [] d at)) (meant_shown (seen [] d) (whole.sound []) at))

module _ (old : List ℕ) (d : KeptDesktop) (at : Option (ℕ × ℕ)) (wish : Wish) (over : IsOver old d) where
  pub scrolls_none : None ≡ viewer_meant d at → Scrolls (seen old d) at wish None
  unfolding presses_to
  scrolls_none is = told_scroll (seen old d) (over.whole.sound old) at wish None
      (ap (presses_in (seen old d) wish) (is ∙ meant_seen old d at))

  pub scrolls_some : (v : ℕ) (told : Option (List Event)) → Some v ≡ viewer_meant d at
      → told ≡ presses_in (seen old d) wish (Some v) → Scrolls (seen old d) at wish told
  unfolding presses_to
  scrolls_some v told is told_is = told_scroll (seen old d) (over.whole.sound old) at wish told
      (told_is ∙ ap (presses_in (seen old d) wish) (is ∙ meant_seen old d at))
