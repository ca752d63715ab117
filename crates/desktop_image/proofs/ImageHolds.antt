-- The parts of a desktop that holds together make it.
use Rattle.std.proofs.Common.{◌≡◌, ℕ, ◌+◌, ◌<◌, ◌≤◌, ◌∙◌, ◌==◌, ◌&&◌, ◌||◌, not, Bool, true, false, cond, length}
use Rattle.std.proofs.Common.{List, [], ◌∷◌, map, refl, sym, ap, subst, arith, Option, Some, None, get_or}
use Rattle.std.specs.Prelude.{All, IsTrue, IsSome, is_some, nat_eq, nat_le, option_map, reverse, if◌then◌else◌}
use Rattle.std.specs.Option.{ForSome, option_eq}
use Rattle.std.specs.List.{list_all}
use Rattle.std.specs.List.Sorted.{IsStrictlySortedBy}
use Rattle.std.specs.Map.{keys_of}
use Rattle.std.specs.Ordering.{nat_cmp}
use Rattle.std.proofs.lemmas.Bool.{eq-eqb, eqb-true, le-leb, lt-ltb, ne_eqb}
use Rattle.std.proofs.lemmas.List.Sums.{list_all-from_AllPass}
use Rattle.std.proofs.lemmas.Map.Made.{keys_of-map_values}
use Rattle.piece_ring.specs.declared.piece.Piece.{Piece}
use Rattle.viewer_tracks.specs.Viewers.{times_in}
use Rattle.viewer_tracks.specs.Columns.{Columns, IsOnTop, times_placed, times_meant, topmost}
use Rattle.viewer_tracks.proofs.StackLemmas.{topmost_times}
use Rattle.desktop_definitions.specs.declared.viewer.Viewer.{Viewer}
use Rattle.desktop_definitions.specs.declared.viewer.Caret.{Caret}
use Rattle.desktop_definitions.specs.declared.viewer.Selection.{Selection}
use Rattle.desktop_definitions.specs.declared.viewer.ClosedViewer.{ClosedViewer}
use Rattle.desktop_definitions.specs.Limits.{most_written}
use Rattle.desktop_definitions.specs.Tables.{Texts}
use Rattle.desktop_definitions.specs.Desktop.{KeptDesktop}
use Rattle.desktop_definitions.specs.Opening.{is_shown}
use Rattle.desktop_definitions.specs.Viewers.{viewer_in, viewer_or_none, main_length}
use Rattle.desktop_definitions.specs.Seen.{seen, seen_text, seen_table}
use Rattle.desktop_definitions.specs.Sound.{IsViewer, AreViewers, ArePlaces, IsCaretPlaced, IsSelection, AreMarks}
use Rattle.desktop_definitions.specs.Sound.{IsShaped, IsSound}
use Rattle.desktop_definitions.proofs.TextLaws.{text_there, long_seen}
use Rattle.desktop_definitions.proofs.ViewLaws.{placed_there, viewer_at_place, few_selections}
use Rattle.image_format.specs.declared.picture.Ranked.{Ranked}
use Rattle.desktop_definitions.specs.Shown.{caret_position}
use Rattle.image_format.specs.Image.{Image, image_of, picture_of, ranked_in}
use Rattle.desktop_image.specs.Images.{is_desktop, IsDesktopOf, times_tracked, viewers_of, first_caret, selections_of}
use Rattle.desktop_image.specs.Images.{leaves_menu, is_framed, are_texts, has_id, is_closed_known, stands_once}
use Rattle.desktop_image.specs.Images.{are_placed, main_size, is_caret_within, is_selection, is_pictured}
use Rattle.desktop_image.specs.Images.{Levels, highest, is_on_top, most_ranks, same_ranked}
use Rattle.desktop_image.proofs.ImageBack.{selections_back, caret_back, viewers_back}
use Rattle.desktop_image.proofs.ImageMade.{id_is}
use Rattle.desktop_image.proofs.Stacks.{times_reversed, highest_reversed, all_known}

both : (a b : Bool) → a ≡ true → b ≡ true → (a && b) ≡ true
both a b is also = (λ k. is k && also k)

-- ---- texts

module _ (texts : Texts (List Piece)) (viewers : List (ℕ × Viewer)) where
  leaves_it : (v w : ℕ) (viewer other : Viewer) → IsViewer (seen_table [] texts) viewers v viewer
      → viewer_in viewers w ≡ Some other → leaves_menu (v, viewer) (w, other) ≡ true
  leaves_it v w viewer other is found =
      both _ _ (ap not (ne_eqb other.main viewer.menu (is.no_main w other found)))
      (by_menu (other.menu == viewer.menu) refl)
    where
      by_menu : (b : Bool) → (other.menu == viewer.menu) ≡ b → (not b || (w == v)) ≡ true
      by_menu true same = eq-eqb w v (is.own w other found (eqb-true other.menu viewer.menu same))
      by_menu false apart = refl

  module _ (are : AreViewers (seen_table [] texts) viewers) where
    framed : (v : ℕ) (viewer : Viewer) → viewer_in viewers v ≡ Some viewer
        → is_framed texts viewers (v, viewer) ≡ true
    unfolding is_framed
    framed v viewer found =
        let is = are.each v viewer found in
        let low = is.org in
        let same = long_seen [] texts viewer.main in
        both _ _ (text_there [] texts viewer.menu is.menu)
        (both _ _ (text_there [] texts viewer.main is.main)
        (both _ _ (le-leb viewer.org _ (omega (arith, low, same)))
        (both _ _ (ap not (ne_eqb viewer.menu 0 is.not_log))
        (list_all-from_AllPass (leaves_menu (v, viewer)) viewers
        (λ i d low. leaves_it v (get_or viewers i d).0 viewer (get_or viewers i d).1 is
        (viewer_at_place viewers i d are.ids low))))))

    texts_pass : All (λ n. IsTrue (is_shown viewers n)) (keys_of texts) → are_texts texts viewers ≡ true
    unfolding are_texts
    texts_pass used =
        both _ _ (text_there [] texts 0 are.log)
        (both _ _ (list_all-from_AllPass (is_framed texts viewers) viewers
        (λ i d low. framed (get_or viewers i d).0 (get_or viewers i d).1 (viewer_at_place viewers i d are.ids low)))
        (list_all-from_AllPass (is_shown viewers) (keys_of texts) used))

-- ---- places

there_if : (b : Bool) (n : ℕ) → n ≡ (if b then 1 else 0) → 0 < n → b ≡ true
there_if true n is some = refl
there_if false n is some = absurd (omega (arith, is, some))

module _ (viewers : List (ℕ × Viewer)) (columns : Columns) (closed : Option ClosedViewer) (are : ArePlaces viewers columns closed)
  where
    abbrev user : Levels
    user = reverse columns.user

    abbrev system : Levels
    system = reverse columns.system

    placed_is : (v : ℕ) → times_placed v columns ≡ times_tracked user system v
    placed_is v =
        let in_user = times_reversed v columns.user in
        let in_system = times_reversed v columns.system in
        omega (arith, in_user, in_system)

    abbrev times : ℕ → ℕ
    times v = times_tracked user system v + times_meant v (option_map (λ k. k.viewer) closed)

    times_is : (v : ℕ) → times v ≡ (if is_some (viewer_in viewers v) then 1 else 0)
    times_is v = let once = are.once v in let same = placed_is v in omega (arith, once, same)

    known : (v : ℕ) → 0 < times v → has_id viewers v ≡ true
    known v some = id_is viewers v ∙ there_if (is_some (viewer_in viewers v)) (times v) (times_is v) some

    once : (v : ℕ) (viewer : Viewer) → viewer_in viewers v ≡ Some viewer → times v ≡ 1
    once v viewer found = times_is v ∙ ap (λ o. (let n : ℕ = if is_some o then 1 else 0 in n)) found

    closed_known : (o : Option ClosedViewer) → closed ≡ o → is_closed_known viewers o ≡ true
    closed_known None is = refl
    closed_known (Some k) is =
        let one : times_meant k.viewer (option_map (λ k. k.viewer) closed) ≡ 1 =
        ap (λ (o : Option ClosedViewer). times_meant k.viewer (option_map (λ k. k.viewer) o)) is
        ∙ ap (λ b. (let n : ℕ = cond b 1 0 in n)) (eq-eqb k.viewer k.viewer refl) in
        known k.viewer (omega (arith, one))

    places_pass : IsStrictlySortedBy nat_cmp (keys_of viewers) → are_placed user system closed viewers ≡ true
    unfolding are_placed
    places_pass ids =
        both _ _ (list_all-from_AllPass (stands_once user system closed) viewers
        (λ i d low. eq-eqb (times (get_or viewers i d).0) 1
        (once (get_or viewers i d).0 (get_or viewers i d).1 (viewer_at_place viewers i d ids low))))
        (both _ _ (all_known viewers columns.user
        (λ v some. known v (let same = placed_is v in omega (arith, some, same))))
        (both _ _ (all_known viewers columns.system
        (λ v some. known v (let same = placed_is v in omega (arith, some, same))))
        (closed_known closed refl)))

    top_shown : (v : ℕ) → IsOnTop v columns → is_on_top user system v ≡ true
    top_shown v on_top =
        let in_user : times_in v (highest user) ≡ times_in v (topmost columns.user) =
        ap (times_in v) (highest_reversed columns.user) in
        let in_system : times_in v (highest system) ≡ times_in v (topmost columns.system) =
        ap (times_in v) (highest_reversed columns.system) in
        lt-ltb 0 (times_in v (highest user) + times_in v (highest system)) (omega (arith, on_top, in_user, in_system))

    -- ---- marks

    module _ (texts : Texts (List Piece)) where
      caret_passes : (caret : Option Caret)
          → ForSome caret (IsCaretPlaced columns (main_length (seen_table [] texts) viewers))
          → is_caret_within texts viewers user system caret ≡ true
      unfolding is_caret_within
      caret_passes None stands = refl
      caret_passes (Some c) stands =
          let is = stands c refl in
          let same = long_seen [] texts (viewer_or_none viewers c.viewer).main in
          let low = is.within in
          both _ _ (top_shown c.viewer is.placed)
          (le-leb c.position (main_size texts viewers c.viewer) (omega (arith, low, same)))

      selection_passes : (s : Selection) → IsSelection columns (main_length (seen_table [] texts) viewers) s
          → is_selection texts viewers user system s ≡ true
      unfolding is_selection
      selection_passes s is =
          let same = long_seen [] texts (viewer_or_none viewers s.viewer).main in
          let low = is.within in
          both _ _ (top_shown s.viewer is.placed)
          (both _ _ (lt-ltb s.beg s.end is.some)
          (le-leb s.end (main_size texts viewers s.viewer) (omega (arith, low, same))))

-- ---- pictures

itself_position : (o : Option ℕ) → option_eq nat_eq o o ≡ true
itself_position None = refl
itself_position (Some n) = eq-eqb n n refl

itself_ranked : (o : Option Ranked) → same_ranked o o ≡ true
itself_ranked None = refl
itself_ranked (Some r) =
    both _ _ (eq-eqb r.rank r.rank refl) (both _ _ (eq-eqb r.beg r.beg refl) (eq-eqb r.end r.end refl))

pictures_pass : (caret : Option Caret) (selections : List Selection) (viewers : List (ℕ × Viewer))
    → list_all (is_pictured caret selections) (map (picture_of caret selections) viewers) ≡ true
unfolding is_pictured
pictures_pass caret selections [] = refl
pictures_pass caret selections (e ∷ viewers) =
    both _ _ (both _ _ (itself_position (caret_position e.0 caret)) (itself_ranked (ranked_in 1 selections e.0)))
    (pictures_pass caret selections viewers)

-- ---- the whole

passes : (written : ℕ) (i : Image) (viewers : List (ℕ × Viewer)) (caret : Option Caret) (selections : List Selection)
    → viewers_of i.viewers ≡ viewers → first_caret i.viewers ≡ caret → selections_of i.viewers ≡ selections
    → nat_le written most_written ≡ true → are_placed i.user i.system i.closed viewers ≡ true
    → are_texts i.texts viewers ≡ true → is_caret_within i.texts viewers i.user i.system caret ≡ true
    → list_all (is_selection i.texts viewers i.user i.system) selections ≡ true
    → list_all (is_pictured caret selections) i.viewers ≡ true → is_desktop written i ≡ true
unfolding is_desktop
passes written i viewers caret selections vs c ss low placed texts at all pictured =
    (λ k. nat_le written most_written && (are_placed i.user i.system i.closed (vs k) && (are_texts i.texts (vs k)
    && (is_caret_within i.texts (vs k) i.user i.system (c k)
    && (list_all (is_selection i.texts (vs k) i.user i.system) (ss k)
    && list_all (is_pictured (c k) (ss k)) i.viewers)))))
    ∙ both _ _ low (both _ _ placed (both _ _ texts (both _ _ at (both _ _ all pictured))))

module _ (d : KeptDesktop) (sound : IsSound (seen [] d)) where
  shaped : IsShaped (seen [] d)
  shaped = sound.shaped

  viewers_hold : AreViewers (seen_table [] d.texts) d.viewers
  unfolding seen
  viewers_hold = shaped.viewers

  places_hold : ArePlaces d.viewers d.columns d.closed
  unfolding seen
  places_hold = shaped.places

  marks_hold : AreMarks d.columns (main_length (seen_table [] d.texts) d.viewers) d.caret d.selections
  unfolding seen
  marks_hold = shaped.marks

  used : All (λ n. IsTrue (is_shown d.viewers n)) (keys_of d.texts)
  unfolding seen
  used = subst (λ ks. All (λ n. IsTrue (is_shown d.viewers n)) ks) (keys_of-map_values (seen_text []) d.texts)
      sound.shown

  low : nat_le d.written most_written ≡ true
  unfolding seen
  low = le-leb d.written most_written sound.written_within

  stands_there : (v : ℕ) → IsOnTop v d.columns → IsSome (viewer_in d.viewers v)
  stands_there v on_top =
      let in_user = topmost_times v d.columns.user in
      let in_system = topmost_times v d.columns.system in
      placed_there d.viewers d.columns d.closed v places_hold (omega (arith, on_top, in_user, in_system))

  few_ranks : length d.selections ≤ most_ranks
  few_ranks =
      let few = few_selections d.columns (main_length (seen_table [] d.texts) d.viewers) d.caret d.selections
      places_hold.columns_hold marks_hold in
      omega (arith, few)

  all_pass : is_desktop d.written (image_of d) ≡ true
  unfolding image_of
  all_pass =
      passes d.written (image_of d) d.viewers d.caret d.selections
      (viewers_back d.caret d.selections d.viewers)
      (caret_back d.caret d.selections d.viewers
      (λ c is. stands_there c.viewer (marks_hold.caret_stands c is).placed))
      (selections_back d.caret d.selections d.viewers
      (λ i s low. stands_there (get_or d.selections i s).viewer (marks_hold.all_stand i s low).placed)
      marks_hold.one_each few_ranks)
      low (places_pass d.viewers d.columns d.closed places_hold viewers_hold.ids)
      (texts_pass d.texts d.viewers viewers_hold used)
      (caret_passes d.viewers d.columns d.closed places_hold d.texts d.caret marks_hold.caret_stands)
      (list_all-from_AllPass (is_selection d.texts d.viewers (reverse d.columns.user) (reverse d.columns.system))
      d.selections
      (λ i s low. selection_passes d.viewers d.columns d.closed places_hold d.texts (get_or d.selections i s)
      (marks_hold.all_stand i s low)))
      (pictures_pass d.caret d.selections d.viewers)

pub makes_desktop : (written : ℕ) (i : Image) (d : KeptDesktop) → IsDesktopOf written i d → is_desktop written i ≡ false
    → ⊥
makes_desktop written i d of not =
    let all : is_desktop written i ≡ true =
    (λ k. is_desktop (sym of.count k) (sym of.image k)) ∙ all_pass d (of.whole.sound []) in
    absurd (cc (all, not))
