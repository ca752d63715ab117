-- The table of gestures, region by region.
use Rattle.std.specs.Prelude.{◌≡◌, ◌<◌, ◌&&◌, ◌||◌, not, ℕ, Bool, true, false, List, [], Option, Some, None, is_none}
use Rattle.std.specs.Prelude.{if◌then◌else◌}
use Rattle.std.specs.Prelude.{Result, Ok, IfOk}
use Rattle.std.proofs.lemmas.Result.{IfOk-weaker}
use Rattle.std.proofs.Common.{refl, sym, ap, subst, ◌∙◌}
use Rattle.char_file.specs.declared.source.CharSource.{Ghosts}
use Rattle.event_bytes.specs.declared.event.Event.TheVariants.{Point}
use Rattle.event_bytes.specs.declared.keys.Keys.{Keys}
use Rattle.event_bytes.specs.declared.keys.Keys.TheVariants.{Left, LeftMiddle, LeftRight, Middle, Right, RightLeft}
use Rattle.event_bytes.specs.declared.keys.Keys.TheVariants.{RightMiddle, MiddleLeft, MiddleRight}
use Rattle.desktop_definitions.specs.declared.reply.Reply.{Reply}
use Rattle.desktop_definitions.specs.declared.region.Region.{Region}
use Rattle.desktop_definitions.specs.declared.region.Region.TheVariants.{Filler, Body}
use Rattle.desktop_definitions.specs.declared.viewer.Selection.{Selection}
use Rattle.desktop_definitions.specs.Limits.{outside}
use Rattle.desktop_definitions.specs.Needs.{unless}
use Rattle.desktop_definitions.specs.Unread.{gesture_needs_no_byte, gesture_brings, characters_after}
use Rattle.desktop_definitions.specs.Unread.{needs_no_byte, characters_brought}
use Rattle.desk_core.specs.Doing.{Settles, SettlesUnread, SettlesBringing, Uses, Does, DoesUnread}
use Rattle.desktop_definitions.specs.Desktop.{Desktop, KeptDesktop}
use Rattle.desktop_definitions.specs.Seen.{seen}
use Rattle.desktop_definitions.specs.Step.{outcome_after, raw, outcome_of}
use Rattle.desktop_definitions.specs.Outcome.{IsAnswered}
use Rattle.desktop_definitions.specs.Gesture.{is_on_display, region_at, text_position, pointed}
use Rattle.viewer_tracks.specs.declared.display.TheConstants.{COLUMNS, ROWS}
use Rattle.desktop_definitions.specs.Gesture.{done_in_filler, done_in_menu, done_in_bar, done_at, done_with}
use Rattle.desktop_definitions.specs.Viewers.{newest}
use Rattle.desktop_definitions.proofs.KeyLaws.{copied_to_none, looks_taken_none}
use Rattle.desk_core.specs.declared.stop.Stop.{Stop}
use Rattle.desk_core.proofs.MarkLemmas.{both_inside}
use Rattle.desk_core.proofs.PositionLemmas.{region_seen}
use Rattle.desk_core.proofs.UnreadLemmas.{brings_none}
use Rattle.desk_commands.proofs.ReadFirst.{Reads, does_there as does_read}
use Rattle.event_loop.specs.Doing.{DoesEvent}
use Rattle.event_loop.proofs.UnreadEvents.{bringing_event}

-- ---- where both cells are on the display

pub cells_inside : (from to : ℕ × ℕ) {both : Bool} → both ≡ (is_on_display from.0 from.1 && is_on_display to.0 to.1)
    → both ≡ true → ((from.0 < COLUMNS) × (from.1 < ROWS)) × ((to.0 < COLUMNS) × (to.1 < ROWS))
cells_inside from to same is = both_inside from.0 from.1 to.0 to.1 (sym same ∙ is)

pub none_between : (inside : Bool) (there : Region) → None ≡ (if inside then Some there else None) → inside ≡ false
none_between true there is = absurd (cc is)
none_between false there is = refl

pub some_between : (inside : Bool) (there region : Region) → Some region ≡ (if inside then Some there else None)
    → (inside ≡ true) × (region ≡ there)
some_between true there region is = (refl, cc is)
some_between false there region is = absurd (cc is)

pub between_none : (inside : Bool) (there : Region) → inside ≡ false → None ≡ (if inside then Some there else None)
between_none inside there is = sym (ap (λ (b : Bool). if b then Some there else None) is)

pub between_some : (inside : Bool) (there region : Region) → inside ≡ true → region ≡ there
    → Some region ≡ (if inside then Some there else None)
between_some inside there region is same =
    ap (λ (r : Region). Some r) same ∙ sym (ap (λ (b : Bool). if b then Some there else None) is)

-- ---- what isn't in the table

pub filler_rest : (d : Desktop) (keys : Keys) (x y : ℕ) → ¬ (keys ≡ Middle) → done_in_filler d keys x y ≡ Ok d
unfolding done_in_filler
filler_rest d Middle x y other = absurd (other refl)
filler_rest d keys x y other = refl

pub menu_rest : (version : ℕ) (d : Desktop) (keys : Keys) (v x y : ℕ) → ¬ (keys ≡ Left) → ¬ (keys ≡ LeftMiddle)
    → ¬ (keys ≡ Middle) → done_in_menu version d keys v x y ≡ Ok d
unfolding done_in_menu
menu_rest version d Left v x y one two three = absurd (one refl)
menu_rest version d LeftMiddle v x y one two three = absurd (two refl)
menu_rest version d Middle v x y one two three = absurd (three refl)
menu_rest version d keys v x y one two three = refl

pub bar_rest : (d : Desktop) (keys : Keys) (v row : ℕ) → ¬ (keys ≡ Left) → ¬ (keys ≡ Middle) → ¬ (keys ≡ Right)
    → done_in_bar d keys v row ≡ Ok d
unfolding done_in_bar
bar_rest d Left v row one two three = absurd (one refl)
bar_rest d Middle v row one two three = absurd (two refl)
bar_rest d Right v row one two three = absurd (three refl)
bar_rest d keys v row one two three = refl

pub with_rest : (d : Desktop) (keys : Keys) (s : Selection) → ¬ (keys ≡ Right) → ¬ (keys ≡ RightLeft)
    → ¬ (keys ≡ RightMiddle) → done_with d keys s ≡ Ok d
unfolding done_with
with_rest d Right s one two three = absurd (one refl)
with_rest d RightLeft s one two three = absurd (two refl)
with_rest d RightMiddle s one two three = absurd (three refl)
with_rest d keys s one two three = refl

-- ---- the region of the first cell

-- what is done where both cells are on the display, and the first is in that region
pub pointed_there : (version : ℕ) (H : Type 0) (old new : List ℕ) (d after : KeptDesktop) (keys : Keys)
    (x0 y0 x1 y1 : ℕ)
    (result : Result Reply Stop) {inside : Bool} {region : Region} {outcome : Result Desktop ℕ} → inside ≡ true
    → region ≡ region_at d x0 y0 → outcome ≡ pointed version (seen old d) region keys x0 y0 x1 y1
    → IfOk result (λ reply. IsAnswered H old new d after (outcome_after (seen old d) outcome) reply)
    → IfOk result (λ reply. IsAnswered H old new d after (outcome_after (seen old d)
    (unless inside outside (pointed version (seen old d) (region_at (seen old d) x0 y0) keys x0 y0 x1 y1))) reply)
pointed_there version H old new d after keys x0 y0 x1 y1 result inside here is answered =
    let x = seen old d in
    subst (λ (o : Result Desktop ℕ). IfOk result (λ reply. IsAnswered H old new d after (outcome_after x o) reply))
    (is ∙ ap (λ (a : Region). pointed version x a keys x0 y0 x1 y1) (here ∙ sym (region_seen old d x0 y0))
    ∙ sym (ap (λ (b : Bool). unless b outside (pointed version x (region_at x x0 y0) keys x0 y0 x1 y1)) inside))
    answered

-- ---- a text

-- without the right button the keys mean the position that is nearest to the cell where they went up
pointed_at : (version : ℕ) (d : Desktop) (keys : Keys) (v x0 y0 x1 y1 : ℕ) → ¬ (keys ≡ Right) → ¬ (keys ≡ RightLeft)
    → ¬ (keys ≡ RightMiddle)
    → done_at version d keys v (text_position d v x1 y1) ≡ pointed version d (Body v) keys x0 y0 x1 y1
unfolding pointed
pointed_at version d Right v x0 y0 x1 y1 one two three = absurd (one refl)
pointed_at version d RightLeft v x0 y0 x1 y1 one two three = absurd (two refl)
pointed_at version d RightMiddle v x0 y0 x1 y1 one two three = absurd (three refl)
pointed_at version d keys v x0 y0 x1 y1 one two three = refl

-- the keys that are none of the others
pub last_keys : (keys : Keys) → ¬ (keys ≡ Right) → ¬ (keys ≡ RightLeft) → ¬ (keys ≡ RightMiddle) → ¬ (keys ≡ MiddleLeft)
    → ¬ (keys ≡ MiddleRight) → ¬ (keys ≡ Left) → ¬ (keys ≡ LeftMiddle) → ¬ (keys ≡ LeftRight) → keys ≡ Middle
last_keys Right a b c e f h i j = absurd (a refl)
last_keys RightLeft a b c e f h i j = absurd (b refl)
last_keys RightMiddle a b c e f h i j = absurd (c refl)
last_keys MiddleLeft a b c e f h i j = absurd (e refl)
last_keys MiddleRight a b c e f h i j = absurd (f refl)
last_keys Left a b c e f h i j = absurd (h refl)
last_keys LeftMiddle a b c e f h i j = absurd (i refl)
last_keys LeftRight a b c e f h i j = absurd (j refl)
last_keys Middle a b c e f h i j = refl

-- ---- where no character is read

needs_none : (d : KeptDesktop) (inside : Bool) (region there : Region) (keys : Keys) → inside ≡ true → region ≡ there
    → (not inside || gesture_needs_no_byte d there keys) ≡ true → gesture_needs_no_byte d region keys ≡ true
needs_none d inside region there keys is same none =
    (λ k. not (sym is k) || gesture_needs_no_byte d (same k) keys) ∙ none

-- the effect of a region is that of both cells
pub unread_there : (version : ℕ) (d after : KeptDesktop) (keys : Keys) (x0 y0 x1 y1 : ℕ) (result : Result Reply Stop)
    (effect : Desktop → Result Desktop ℕ) {inside : Bool} {region : Region} → inside ≡ true → region ≡ region_at d x0 y0
    → (not inside || gesture_needs_no_byte d (region_at d x0 y0) keys) ≡ true
    → ((all : List ℕ) → effect (seen all d) ≡ pointed version (seen all d) region keys x0 y0 x1 y1)
    → (gesture_needs_no_byte d region keys ≡ true
    → IfOk result (SettlesBringing (gesture_brings region keys) (λ all. effect (seen all d)) d after))
    → IfOk result (SettlesBringing (gesture_brings (region_at d x0 y0) keys) (λ all. unless inside outside
    (pointed version (seen all d) (region_at (seen all d) x0 y0) keys x0 y0 x1 y1)) d after)
unread_there version d after keys x0 y0 x1 y1 result effect {inside} {region} there here none is so =
    IfOk-weaker result (SettlesBringing (gesture_brings region keys) (λ all. effect (seen all d)) d after) _
    (λ reply settles all long.
    ap (λ (a : Region). outcome_of (seen (characters_after all (gesture_brings a keys) reply) after) reply) (sym here)
    ∙ settles all long ∙ ap (outcome_after (seen all d))
    (is all ∙ ap (λ (a : Region). pointed version (seen all d) a keys x0 y0 x1 y1)
    (here ∙ sym (region_seen all d x0 y0))
    ∙ sym (ap (λ (b : Bool). unless b outside
    (pointed version (seen all d) (region_at (seen all d) x0 y0) keys x0 y0 x1 y1)) there)))
    (so (needs_none d inside region (region_at d x0 y0) keys there here none))

-- nothing but the tool text brings characters
pub filler_brings : (keys : Keys) → ¬ (keys ≡ Middle) → gesture_brings Filler keys ≡ []
unfolding gesture_brings
filler_brings Middle other = absurd (other refl)
filler_brings keys other = refl

none_is : {A : Type 0} (o : Option A) → is_none o ≡ true → o ≡ None
none_is None h = refl
none_is (Some a) h = absurd (cc h)

-- what takes the newest selection is refused without one, wherever the position is
pub done_anywhere : (version : ℕ) (all : List ℕ) (d : KeptDesktop) (keys : Keys) (v p q : ℕ)
    → gesture_needs_no_byte d (Body v) keys ≡ true → done_at version (seen all d) keys v p
    ≡ done_at version (seen all d) keys v q
unfolding done_at gesture_needs_no_byte seen
done_anywhere version all d Left v p q h = absurd (cc h)
done_anywhere version all d LeftMiddle v p q h =
    let none = none_is (newest d) h in
    copied_to_none (seen all d) none v p ∙ sym (copied_to_none (seen all d) none v q)
done_anywhere version all d LeftRight v p q h =
    let none = none_is (newest d) h in
    looks_taken_none (seen all d) none v p ∙ sym (looks_taken_none (seen all d) none v q)
done_anywhere version all d Middle v p q h = absurd (cc h)
done_anywhere version all d keys v p q h = refl

-- keys that need a character
pub reading : {S : Type 0} (s : Ghosts S) {none : Bool} {effect : Desktop → Result Desktop ℕ} {old new : S}
    {d after : KeptDesktop} {result : Result Reply Stop} → none ≡ false → Does s effect result old new d after
    → DoesUnread s (none ≡ true) effect result old new d after
reading s some does = record { answered = does.answered; unread = λ h. absurd (cc (some, h)); uses = does.uses }

-- what is done at the position that was read owes what is said of the keys there
module _ {S : Type 0} (s : Ghosts S)
    (ground_through : (a b c : S) → s.same_ground a b → s.same_ground b c → s.same_ground a c) (version : ℕ)
    {keys one : Keys} (is : keys ≡ one) (v x0 y0 x1 y1 p : ℕ) (old mid new : S) (d after : KeptDesktop)
    (result : Result Reply Stop) (reads : Reads s old mid) (calm : s.failures mid ≡ s.failures old)
    (exact : s.honest old → p ≡ text_position (seen (s.characters old) d) v x1 y1) (right : ¬ (keys ≡ Right))
    (out : ¬ (keys ≡ RightLeft)) (sent : ¬ (keys ≡ RightMiddle)) where
  there : (x : Desktop) → done_at version x keys v (text_position x v x1 y1) ≡ pointed version x (Body v) keys x0 y0 x1 y1
  there x = pointed_at version x keys v x0 y0 x1 y1 right out sent

  pub does_at : DoesUnread s (gesture_needs_no_byte d (Body v) one ≡ true) (λ x. done_at version x one v p) result mid new d
      after
      → DoesUnread s (gesture_needs_no_byte d (Body v) keys ≡ true)
      (λ x. pointed version x (Body v) keys x0 y0 x1 y1) result old new d after
  does_at rest =
      let all_of_it = subst (λ (k : Keys). DoesUnread s (gesture_needs_no_byte d (Body v) k ≡ true)
      (λ x. done_at version x k v p) result mid new d after) (sym is) rest in
      let does = does_read s ground_through (λ (x : Desktop) (q : ℕ). done_at version x keys v q)
      (λ x. text_position x v x1 y1) p (λ x. pointed version x (Body v) keys x0 y0 x1 y1) old mid new d after result reads
      calm exact (λ e. ap (λ (q : ℕ). done_at version (seen (s.characters old) d) keys v q) e ∙ there (seen (s.characters old) d))
      (record { answered = all_of_it.answered; uses = all_of_it.uses }) in
      record {
        answered = does.answered;
        unread = λ h. IfOk-weaker result (SettlesUnread (λ x. done_at version x keys v p) d after)
            (SettlesUnread (λ x. pointed version x (Body v) keys x0 y0 x1 y1) d after) (λ reply settles all long.
            settles all long ∙ ap (outcome_after (seen all d))
            (done_anywhere version all d keys v p (text_position (seen all d) v x1 y1) h ∙ there (seen all d)))
            (all_of_it.unread h);
        uses = does.uses;
      }

-- ---- events

module _ {S : Type 0} (s : Ghosts S) {old new : S} {d after : KeptDesktop} {result : Result Reply Stop} (version : ℕ)
    {keys : Keys} {x0 y0 x1 y1 : ℕ} (inside : (is_on_display x0 y0 && is_on_display x1 y1) ≡ true) {region : Region}
    (here : region ≡ region_at d x0 y0) (effect : Desktop → Result Desktop ℕ)
    (is : (all : List ℕ) → effect (seen all d) ≡ pointed version (seen all d) region keys x0 y0 x1 y1) where
  -- a gesture is done by a call that does what is said of it in the region where the keys went down
  pub does_there : IfOk result (Settles s effect old new d after)
      → (gesture_needs_no_byte d region keys ≡ true
      → IfOk result (SettlesBringing (gesture_brings region keys) (λ all. effect (seen all d)) d after))
      → Uses s result old new → DoesEvent s version (Point keys x0 y0 x1 y1) result old new d after
  unfolding raw needs_no_byte characters_brought
  does_there answered unread uses = record {
    answered = pointed_there version (s.honest old) (s.characters old) (s.characters new) d after keys x0 y0 x1 y1 result
        inside here (is (s.characters old)) answered;
    unread = bringing_event version d after (Point keys x0 y0 x1 y1) _ result refl
        (λ h. unread_there version d after keys x0 y0 x1 y1 result effect inside here h is unread);
    uses = uses;
  }

  -- where it brings no characters
  pub does_pointed : [] ≡ gesture_brings region keys
      → DoesUnread s (gesture_needs_no_byte d region keys ≡ true) effect result old new d after
      → DoesEvent s version (Point keys x0 y0 x1 y1) result old new d after
  does_pointed none does = does_there does.answered (λ h.
      subst (λ (bytes : List ℕ). IfOk result (SettlesBringing bytes (λ all. effect (seen all d)) d after)) none
      (brings_none effect d after result (does.unread h))) does.uses
