-- What an event leaves of the texts that it doesn't change.
use Rattle.std.specs.Prelude.{◌≡◌, ℕ, ◌+◌, ◌-◌, ◌==◌, nat_lt, ◌&&◌, Bool, true, false, cond, if◌then◌else◌}
use Rattle.std.specs.Prelude.{List, [], ◌∷◌, length, Option, Some, None, Result, Ok, Err, IfOk}
use Rattle.std.specs.Map.{set_value}
use Rattle.std.proofs.Common.{refl, sym, ap, subst, ◌∙◌, arith}
use Rattle.std.proofs.lemmas.Bool.{eqb-true}
use Rattle.std.proofs.lemmas.Bool.Decides.{nat_tests}
use Rattle.std.proofs.lemmas.Map.{keys-set_value}
use Rattle.event_bytes.specs.declared.event.Event.{Event}
use Rattle.event_bytes.specs.declared.event.Event.TheVariants.{Typed, Key as Pressed, Mark, Point, File}
use Rattle.event_bytes.specs.declared.keys.Key.{Key}
use Rattle.event_bytes.specs.declared.keys.Key.TheVariants.{Back, Copy, Paste, Cut, Escape}
use Rattle.event_bytes.specs.declared.keys.Keys.{Keys}
use Rattle.event_bytes.specs.declared.keys.Keys.TheVariants.{Left, LeftMiddle, LeftRight, Middle}
use Rattle.event_bytes.specs.declared.keys.Keys.TheVariants.{MiddleLeft, MiddleRight, Right, RightLeft, RightMiddle}
use Rattle.std.specs.Option.{unwrap_or}
use Rattle.std.specs.Ordering.{nat_cmp}
use Rattle.std.specs.BTreeMap.{is_at}
use Rattle.std.specs.Map.{keys_of}
use Rattle.piece_ring.specs.declared.piece.Look.{Look}
use Rattle.piece_ring.specs.Text.{Text, deleted}
use Rattle.desktop_definitions.specs.declared.viewer.Viewer.{Viewer}
use Rattle.desktop_definitions.specs.declared.viewer.Caret.{Caret}
use Rattle.desktop_definitions.specs.declared.viewer.Selection.{Selection}
use Rattle.desktop_definitions.specs.declared.region.Region.{Region}
use Rattle.desktop_definitions.specs.declared.region.Region.TheVariants.{Filler, Menu, Bar, Body}
use Rattle.desktop_definitions.specs.Limits.{no_caret, no_selection, outside, too_many_files, full}
use Rattle.text_frames.specs.Cells.{position_at, row_of}
use Rattle.desktop_definitions.specs.declared.reply.Reply.TheVariants.{Done, No}
use Rattle.desktop_definitions.specs.Sound.{IsSound}
use Rattle.desktop_definitions.specs.Tables.{Texts, text_numbered, has_file_room}
use Rattle.desktop_definitions.specs.Desktop.{Desktop, KeptDesktop}
use Rattle.desktop_definitions.specs.Seen.{seen}
use Rattle.desktop_definitions.specs.Viewers.{viewer_of, newest, text_of, with_org, with_selection, unselected}
use Rattle.desktop_definitions.specs.Viewers.{selected, main_of}
use Rattle.desktop_definitions.specs.Needs.{needs, unless}
use Rattle.desktop_definitions.specs.Change.{edited, after_change, insertion, deletion, looks_set, showing}
use Rattle.desktop_definitions.specs.Change.{bytes_of, in_look, caret_shown, put_in, put_at_caret, cut_out}
use Rattle.desktop_definitions.specs.Changed.{texts_shown}
use Rattle.desktop_definitions.specs.Keys.{after_typing, after_key, without_character_before, with_copied, without_marks}
use Rattle.desktop_definitions.specs.Opening.{without_unshown}
use Rattle.desktop_definitions.specs.Gesture.{done_in_filler, done_in_menu, done_in_bar, done_at, done_with}
use Rattle.desktop_definitions.specs.Gesture.{is_on_display, region_at, pointed, resized, scrolled_to_row}
use Rattle.desktop_definitions.specs.Gesture.{scrolled_to_share, copied_to, looks_taken, taken_out, sent_to_caret}
use Rattle.desktop_definitions.specs.Gesture.{drawn_in, is_some_stretch}
use Rattle.desktop_definitions.specs.Step.{filed, marked, fits, outcome_after, raw, step_in, Outcome, outcome_of}
use Rattle.desktop_definitions.proofs.ChangeLaws.{followed_shown, org_shown}
use Rattle.desktop_definitions.proofs.PlaceLaws.{at_is}
use Rattle.desktop_definitions.proofs.RowLaws.{shown_rest}
use Rattle.desktop_definitions.proofs.StepLaws.{AllShown, all_stay}
use Rattle.desk_input.specs.declared.stale.Stale.TheVariants.{Nothing}
use Rattle.desk_input.specs.Stale.{is_stale, stale_by_key, stale_by_gesture, stale_of, stale_at_caret, stale_selected}

-- ---- a table

-- another text stays where one is set
other_stays : {X : Type 0} (n m : ℕ) (w : X) (es : Texts X) → (m == n) ≡ false
    → text_numbered (es) n ≡ text_numbered (set_value (is_at (nat_cmp m)) es w) n
other_stays n m w [] apart = refl
other_stays n m w (e ∷ es) apart = (elim (e.0 == m) as (λ b. (e.0 == m) ≡ b
    → text_numbered (e ∷ es) n ≡ text_numbered (set_value (is_at (nat_cmp m)) (e ∷ es) w) n) [
      | true ↦ λ here.
          (let at : is_at (nat_cmp m) e.0 ≡ true = at_is m e.0 ∙ here in
          let not_n : is_at (nat_cmp n) e.0 ≡ false = at_is n e.0 ∙ (let same = eqb-true e.0 m here in
          grind (arith, nat_tests, same, apart)) in
          rw (at, not_n) refl)
      | false ↦ λ elsewhere.
          (let at : is_at (nat_cmp m) e.0 ≡ false = at_is m e.0 ∙ elsewhere in
          rw at (ap (λ rest. cond (is_at (nat_cmp n) e.0) (Some e.1) rest) (other_stays n m w es apart)))
    ]) refl

-- ---- parts of an event

-- The same viewers show the same texts of the same numbers, and the text of number n is as it was.
pub record LeavesText (n : ℕ) (d new : Desktop) : Type 0 where
  pub text : text_of new n ≡ text_of d n
  pub numbers : keys_of new.texts ≡ keys_of d.texts
  pub viewers : texts_shown new.viewers ≡ texts_shown d.viewers

module _ (n : ℕ) where
  leaves_all : (d : Desktop) → LeavesText n d d
  leaves_all d = record { text = refl; numbers = refl; viewers = refl }

  leaves_then : (d mid new : Desktop) → LeavesText n d mid → LeavesText n mid new → LeavesText n d new
  leaves_then d mid new first second = record {
    text = second.text ∙ first.text;
    numbers = second.numbers ∙ first.numbers;
    viewers = second.viewers ∙ first.viewers;
  }

  leaves_edited : (d : Desktop) (m : ℕ) (text : Text ℕ) (viewers : List (ℕ × Viewer)) → (m == n) ≡ false
      → texts_shown viewers ≡ texts_shown d.viewers → LeavesText n d (edited d m text viewers)
  leaves_edited d m text viewers apart same = record {
    text = ap (λ (found : Option (Text ℕ)). unwrap_or found []) (sym (other_stays n m text d.texts apart));
    numbers = keys-set_value (is_at (nat_cmp m)) d.texts text;
    viewers = same;
  }

  leaves_change : (d : Desktop) (m : ℕ) (text : Text ℕ) (p more fewer : ℕ) → (m == n) ≡ false
      → LeavesText n d (after_change d m text p more fewer)
  unfolding after_change
  leaves_change d m text p more fewer apart =
      leaves_edited d m text _ apart (followed_shown m (bytes_of text) p more fewer d.viewers)

  leaves_insertion : (d : Desktop) (m p : ℕ) (more : Text ℕ) → (m == n) ≡ false → LeavesText n d (insertion d m p more)
  unfolding insertion
  leaves_insertion d m p [] apart = leaves_all d
  leaves_insertion d m p (c ∷ more) apart = leaves_change d m _ p (length (c ∷ more)) 0 apart

  leaves_deletion : (d : Desktop) (m p q : ℕ) → (m == n) ≡ false → LeavesText n d (deletion d m p q)
  unfolding deletion
  leaves_deletion d m p q apart = elim (nat_lt p q) as
      (λ b. LeavesText n d (if b then after_change d m (deleted p q (text_of d m)) p 0 (q - p) else d)) [
        | true ↦ leaves_change d m (deleted p q (text_of d m)) p 0 (q - p) apart
        | false ↦ leaves_all d
      ]

  leaves_org : (d : Desktop) (v org : ℕ) → LeavesText n d (with_org d v org)
  leaves_org d v org = record {
    text = refl;
    numbers = refl;
    viewers = org_shown (is_at (nat_cmp v)) org d.viewers;
  }

  leaves_shown : (d : Desktop) (v p : ℕ) → LeavesText n d (caret_shown d v p)
  unfolding showing
  leaves_shown d v p = record {
    text = refl;
    numbers = refl;
    viewers = org_shown (is_at (nat_cmp v)) _ d.viewers;
  }

  leaves_put : (d : Desktop) (v p : ℕ) (more : Text ℕ) → ((viewer_of d v).main == n) ≡ false
      → LeavesText n d (put_in d v p more)
  leaves_put d v p more apart =
      leaves_then d (insertion d (viewer_of d v).main p more) (put_in d v p more)
      (leaves_insertion d (viewer_of d v).main p more apart)
      (leaves_shown (insertion d (viewer_of d v).main p more) v (p + length more))

  leaves_put_at : (d : Desktop) (more : Text ℕ) (c : Caret) → ((viewer_of d c.viewer).main == n) ≡ false
      → LeavesText n d (put_at_caret d more c)
  leaves_put_at d [] c apart = leaves_all d
  leaves_put_at d (first ∷ more) c apart = leaves_put d c.viewer c.position (first ∷ more) apart

  leaves_cut : (d : Desktop) (s : Selection) → ((viewer_of d s.viewer).main == n) ≡ false → LeavesText n d (cut_out d s)
  leaves_cut d s apart =
      leaves_then d (deletion d (viewer_of d s.viewer).main s.beg s.end) (cut_out d s)
      (leaves_deletion d (viewer_of d s.viewer).main s.beg s.end apart)
      (leaves_shown (deletion d (viewer_of d s.viewer).main s.beg s.end) s.viewer s.beg)

  leaves_without : (d : Desktop) (c : Caret) → ((viewer_of d c.viewer).main == n) ≡ false
      → LeavesText n d (without_character_before d c)
  leaves_without d c apart =
      let between = deletion d (viewer_of d c.viewer).main (c.position - 1) c.position in
      elim (c.position == 0) as (λ b. LeavesText n d (if b then d else caret_shown between c.viewer (c.position - 1))) [
        | true ↦ leaves_all d
        | false ↦ leaves_then d between _
            (leaves_deletion d (viewer_of d c.viewer).main (c.position - 1) c.position apart)
            (leaves_shown between c.viewer (c.position - 1))
      ]

  leaves_looks : (d : Desktop) (s : Selection) (selector : ℕ) (look : Look)
      → ((viewer_of d s.viewer).main == n) ≡ false → LeavesText n d (looks_set d s selector look)
  unfolding looks_set
  leaves_looks d s selector look apart =
      let is = leaves_edited d (viewer_of d s.viewer).main _ d.viewers apart refl in
      record { text = is.text; numbers = is.numbers; viewers = is.viewers }

  leaves_drawn : (d : Desktop) (s : Selection) → LeavesText n d (drawn_in d s)
  unfolding drawn_in
  leaves_drawn d s = elim (is_some_stretch s) as
      (λ b. LeavesText n d (if b then with_selection d s else unselected d s.viewer)) [
        | true ↦ record { text = refl; numbers = refl; viewers = refl }
        | false ↦ record { text = refl; numbers = refl; viewers = refl }
      ]

-- ---- events

-- what is done or refused leaves them
abbrev LeavesIn : ℕ → Desktop → Result Desktop ℕ → Type 0
LeavesIn n d r = IfOk r (LeavesText n d)

module _ (version n : ℕ) (d : Desktop) where
  needed : {A : Type 0} (o : Option A) (code : ℕ) (f : A → Result Desktop ℕ)
      → ((a : A) → o ≡ Some a → LeavesIn n d (f a)) → LeavesIn n d (needs o code f)
  needed None code f some = tt
  needed (Some a) code f some = some a refl

  provided : (test : Bool) (code : ℕ) (r : Result Desktop ℕ) → LeavesIn n d r → LeavesIn n d (unless test code r)
  provided true code r is = is
  provided false code r is = tt

  caret_apart : (c : Caret) → d.caret ≡ Some c → is_stale (stale_at_caret d.viewers d.caret) n ≡ false
      → ((viewer_of d c.viewer).main == n) ≡ false
  caret_apart c here = subst
      (λ o. is_stale (stale_at_caret d.viewers o) n ≡ false → ((viewer_of d c.viewer).main == n) ≡ false)
      (sym here) (λ apart. apart)

  newest_apart : (s : Selection) → newest d ≡ Some s → is_stale (stale_selected d.viewers (newest d)) n ≡ false
      → ((viewer_of d s.viewer).main == n) ≡ false
  newest_apart s here = subst
      (λ o. is_stale (stale_selected d.viewers o) n ≡ false → ((viewer_of d s.viewer).main == n) ≡ false)
      (sym here) (λ apart. apart)

  typed_leaves : (bytes : List ℕ) → is_stale (stale_at_caret d.viewers d.caret) n ≡ false → LeavesIn n d (after_typing d bytes)
  unfolding after_typing
  typed_leaves bytes apart = needed d.caret no_caret _ (λ c here.
      let is = leaves_put_at n d (in_look d.look bytes) c (caret_apart c here apart) in
      record { text = is.text; numbers = is.numbers; viewers = is.viewers })

  pressed_leaves : (key : Key) → is_stale (stale_by_key d.viewers d.caret (newest d) key) n ≡ false
      → LeavesIn n d (after_key d key)
  unfolding after_key stale_by_key without_marks
  pressed_leaves Back apart = needed d.caret no_caret _
      (λ c here. leaves_without n d c (caret_apart c here apart))
  pressed_leaves Copy apart = needed (newest d) no_selection _
      (λ s here. record { text = refl; numbers = refl; viewers = refl })
  pressed_leaves Paste apart = needed d.caret no_caret _
      (λ c here. leaves_put_at n d d.copied c (caret_apart c here apart))
  pressed_leaves Cut apart = needed (newest d) no_selection _
      (λ s here. let is = leaves_cut n (with_copied d s) s (newest_apart s here apart) in
      record { text = is.text; numbers = is.numbers; viewers = is.viewers })
  pressed_leaves Escape apart = record { text = refl; numbers = refl; viewers = refl }

  row_leaves : (v row : ℕ) → LeavesText n d (scrolled_to_row d v row)
  unfolding scrolled_to_row
  row_leaves v row = let begin = position_at (bytes_of (main_of d v)) (viewer_of d v).org 0 row in
      elim (row_of (bytes_of (main_of d v)) (viewer_of d v).org begin == row) as
      (λ b. LeavesText n d (if b then with_org d v begin else d)) [
        | true ↦ leaves_org n d v begin
        | false ↦ leaves_all n d
      ]

  share_leaves : (v row : ℕ) → LeavesText n d (scrolled_to_share d v row)
  unfolding scrolled_to_share
  share_leaves v row = leaves_org n d v _

  copied_leaves : (v p : ℕ) → ((viewer_of d v).main == n) ≡ false → LeavesIn n d (copied_to d v p)
  unfolding copied_to
  copied_leaves v p apart = needed (newest d) no_selection _ (λ s here. leaves_put n d v p (selected d s) apart)

  looks_leaves : (v p : ℕ) → is_stale (stale_selected d.viewers (newest d)) n ≡ false → LeavesIn n d (looks_taken d v p)
  unfolding looks_taken
  looks_leaves v p apart = needed (newest d) no_selection _ (λ s here.
      let is = leaves_looks n d s 7 _ (newest_apart s here apart) in
      record { text = is.text; numbers = is.numbers; viewers = is.viewers })

  taken_leaves : (s : Selection) → ((viewer_of d s.viewer).main == n) ≡ false → LeavesIn n d (taken_out d s)
  unfolding taken_out
  taken_leaves s apart = provided (is_some_stretch s) no_selection _
      (let is = leaves_cut n d s apart in record { text = is.text; numbers = is.numbers; viewers = is.viewers })

  drawn_apart : (s : Selection) (v : ℕ) → ((viewer_of d v).main == n) ≡ false
      → ((viewer_of (drawn_in d s) v).main == n) ≡ false
  unfolding drawn_in
  drawn_apart s v apart = elim (is_some_stretch s) as
      (λ b. ((viewer_of (if b then with_selection d s else unselected d s.viewer) v).main == n) ≡ false) [
        | true ↦ apart
        | false ↦ apart
      ]

  sent_leaves : (s : Selection) → is_stale (stale_at_caret d.viewers d.caret) n ≡ false
      → LeavesIn n d (sent_to_caret d s)
  unfolding sent_to_caret
  sent_leaves s apart = provided (is_some_stretch s) no_selection _ (needed d.caret no_caret _ (λ c here.
      leaves_then n d (drawn_in d s) _ (leaves_drawn n d s)
      (leaves_put_at n (drawn_in d s) (selected d s) c (drawn_apart s c.viewer (caret_apart c here apart)))))

  pointed_leaves : (region : Region) (keys : Keys) (x0 y0 x1 y1 : ℕ)
      → is_stale (stale_by_gesture d.viewers d.caret (newest d) region keys) n ≡ false
      → LeavesIn n d (pointed version d region keys x0 y0 x1 y1)
  unfolding pointed done_in_filler done_in_menu done_in_bar done_at done_with stale_by_gesture resized
  pointed_leaves Filler Left x0 y0 x1 y1 apart = leaves_all n d
  pointed_leaves Filler LeftMiddle x0 y0 x1 y1 apart = leaves_all n d
  pointed_leaves Filler LeftRight x0 y0 x1 y1 apart = leaves_all n d
  pointed_leaves Filler Middle x0 y0 x1 y1 apart = absurd (cc apart)
  pointed_leaves Filler Right x0 y0 x1 y1 apart = leaves_all n d
  pointed_leaves Filler RightLeft x0 y0 x1 y1 apart = leaves_all n d
  pointed_leaves Filler MiddleLeft x0 y0 x1 y1 apart = leaves_all n d
  pointed_leaves Filler MiddleRight x0 y0 x1 y1 apart = leaves_all n d
  pointed_leaves Filler RightMiddle x0 y0 x1 y1 apart = leaves_all n d
  pointed_leaves (Menu v) Left x0 y0 x1 y1 apart = record { text = refl; numbers = refl; viewers = refl }
  pointed_leaves (Menu v) LeftMiddle x0 y0 x1 y1 apart = absurd (cc apart)
  pointed_leaves (Menu v) LeftRight x0 y0 x1 y1 apart = leaves_all n d
  pointed_leaves (Menu v) Middle x0 y0 x1 y1 apart = absurd (cc apart)
  pointed_leaves (Menu v) Right x0 y0 x1 y1 apart = leaves_all n d
  pointed_leaves (Menu v) RightLeft x0 y0 x1 y1 apart = leaves_all n d
  pointed_leaves (Menu v) MiddleLeft x0 y0 x1 y1 apart = leaves_all n d
  pointed_leaves (Menu v) MiddleRight x0 y0 x1 y1 apart = leaves_all n d
  pointed_leaves (Menu v) RightMiddle x0 y0 x1 y1 apart = leaves_all n d
  pointed_leaves (Bar v) Left x0 y0 x1 y1 apart = row_leaves v _
  pointed_leaves (Bar v) LeftMiddle x0 y0 x1 y1 apart = leaves_all n d
  pointed_leaves (Bar v) LeftRight x0 y0 x1 y1 apart = leaves_all n d
  pointed_leaves (Bar v) Middle x0 y0 x1 y1 apart = share_leaves v _
  pointed_leaves (Bar v) Right x0 y0 x1 y1 apart = leaves_org n d v 0
  pointed_leaves (Bar v) RightLeft x0 y0 x1 y1 apart = leaves_all n d
  pointed_leaves (Bar v) MiddleLeft x0 y0 x1 y1 apart = leaves_all n d
  pointed_leaves (Bar v) MiddleRight x0 y0 x1 y1 apart = leaves_all n d
  pointed_leaves (Bar v) RightMiddle x0 y0 x1 y1 apart = leaves_all n d
  pointed_leaves (Body v) Left x0 y0 x1 y1 apart = record { text = refl; numbers = refl; viewers = refl }
  pointed_leaves (Body v) LeftMiddle x0 y0 x1 y1 apart = copied_leaves v _ apart
  pointed_leaves (Body v) LeftRight x0 y0 x1 y1 apart = looks_leaves v _ apart
  pointed_leaves (Body v) Middle x0 y0 x1 y1 apart = absurd (cc apart)
  pointed_leaves (Body v) Right x0 y0 x1 y1 apart = leaves_drawn n d _
  pointed_leaves (Body v) RightLeft x0 y0 x1 y1 apart = taken_leaves _ apart
  pointed_leaves (Body v) MiddleLeft x0 y0 x1 y1 apart = leaves_all n d
  pointed_leaves (Body v) MiddleRight x0 y0 x1 y1 apart = leaves_all n d
  pointed_leaves (Body v) RightMiddle x0 y0 x1 y1 apart = sent_leaves _ apart

  raw_leaves : (event : Event) → is_stale (stale_of d event) n ≡ false → LeavesIn n d (raw version d event)
  unfolding raw stale_of marked filed
  raw_leaves (Typed bytes) apart = typed_leaves bytes apart
  raw_leaves (Pressed key) apart = pressed_leaves key apart
  raw_leaves (Mark x y) apart = provided (is_on_display x y) outside _
      (record { text = refl; numbers = refl; viewers = refl })
  raw_leaves (Point keys x0 y0 x1 y1) apart = (elim (is_on_display x0 y0 && is_on_display x1 y1) as
      (λ b. is_stale (if b then stale_by_gesture d.viewers d.caret (newest d) (region_at d x0 y0) keys else Nothing) n
      ≡ false
      → LeavesIn n d (unless b outside (pointed version d (region_at d x0 y0) keys x0 y0 x1 y1))) [
        | true ↦ λ apart. pointed_leaves (region_at d x0 y0) keys x0 y0 x1 y1 apart
        | false ↦ λ apart. tt
      ]) apart
  raw_leaves (File name bytes) apart = provided (has_file_room d.files name) too_many_files _
      (record { text = refl; numbers = refl; viewers = refl })

-- a text that an effect leaves stays as it is, where each text was shown before
settled_leaves : (n : ℕ) (d : Desktop) (r : Result Desktop ℕ) → AllShown d → LeavesIn n d r
    → text_of (outcome_after d r).desktop n ≡ text_of d n
unfolding outcome_after
settled_leaves n d (Err code) shown is = refl
settled_leaves n d (Ok new) shown is = elim (fits (without_unshown new)) as
    (λ b. text_of
    (let after : Outcome = if b then outcome_of (without_unshown new) Done else outcome_of d (No full) in after).desktop n
    ≡ text_of d n) [
      | true ↦ ap (λ (x : Desktop). text_of x n) (all_stay new (shown_rest d new is.numbers is.viewers shown)) ∙ is.text
      | false ↦ refl
    ]

pub others_stay : (version : ℕ) (d : Desktop) (event : Event) (n : ℕ) → IsSound d
    → is_stale (stale_of d event) n ≡ false → text_of (step_in version d event).desktop n ≡ text_of d n
unfolding step_in
others_stay version d event n sound apart =
    settled_leaves n d (raw version d event) sound.shown (raw_leaves version n d event apart)

-- which texts these are doesn't rest on the characters
pub stale_seen : (characters : List ℕ) (d : KeptDesktop) (event : Event)
    → stale_of (seen characters d) event ≡ stale_of d event
unfolding seen stale_of region_at
stale_seen characters d (Typed bytes) = refl
stale_seen characters d (Pressed key) = refl
stale_seen characters d (Mark x y) = refl
stale_seen characters d (Point keys x0 y0 x1 y1) = refl
stale_seen characters d (File name bytes) = refl
