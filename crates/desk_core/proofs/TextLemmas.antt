-- Texts that were changed, and the frames that show them.
use Rattle.std.proofs.Common.{◌≡◌, Bool, true, false, Option, Some, ℕ, ◌+◌, ◌-◌, ◌<◌, ◌≤◌, List, length, refl, sym}
use Rattle.std.proofs.Common.{ap, subst, ◌∙◌, arith}
use Rattle.std.specs.Prelude.{IsSome, is_some, All, ⊤, if◌then◌else◌}
use Rattle.std.specs.Option.{option_map}
use Rattle.std.specs.Map.{set_value}
use Rattle.std.specs.Ordering.{nat_cmp}
use Rattle.std.specs.BTreeMap.{is_at}
use Rattle.piece_ring.specs.declared.piece.Look.{Look}
use Rattle.piece_ring.specs.declared.piece.Piece.{Piece}
use Rattle.piece_ring.specs.Flat.{flat}
use Rattle.piece_ring.proofs.Lengths.{length-inserted, length-deleted, length-looks_changed}
use Rattle.piece_ring.proofs.Offsets.{inserted-AreWithin, deleted-AreWithin, looks_changed-AreWithin}
use Rattle.piece_ring.specs.Text.{Text, inserted, deleted, looks_changed, AreWithin}
use Rattle.readers_scanners.specs.Reading.{bytes_of_text}
use Rattle.viewer_tracks.specs.Columns.{IsPlaced, IsOnTop, times_placed, times_meant}
use Rattle.desktop_definitions.specs.declared.viewer.Viewer.{Viewer}
use Rattle.desktop_definitions.specs.declared.viewer.Selection.{Selection}
use Rattle.desktop_definitions.specs.Tables.{Texts, text_numbered, with_values}
use Rattle.desktop_definitions.specs.Desktop.{Desktop, KeptDesktop}
use Rattle.desktop_definitions.specs.Viewers.{bare_viewer, viewer_in, viewer_or_none, text_in, shows, unmarked}
use Rattle.desktop_definitions.specs.Viewers.{with_selection}
use Rattle.desktop_definitions.specs.Viewers.{rows_of, with_caret}
use Rattle.desktop_definitions.specs.Change.{following_viewer, insertion, deletion, looks_set, caret_shown}
use Rattle.desktop_definitions.specs.Seen.{seen, seen_text}
use Rattle.desktop_definitions.specs.Sound.{IsBuilt}
use Rattle.desktop_definitions.specs.Changed.{IsChanged}
use Rattle.desktop_definitions.specs.DeskWords.{CanFollow, AreMoved, IsSet}
use Rattle.desktop_definitions.proofs.EditLaws.{set_there, set_long, set_orgs, set_within, set_changed}
use Rattle.desktop_definitions.proofs.EditLaws.{insertion_seen, deletion_seen, looks_seen, looks_changed_so, unchanged}
use Rattle.desktop_definitions.proofs.EditLaws.{insertion_none, caret_shown_changed}
use Rattle.desktop_definitions.proofs.TextLaws.{long_seen, text_within}
use Rattle.desktop_definitions.proofs.TableLaws.{lookup_seen, is_some_map, length_seen_text}
use Rattle.desktop_definitions.proofs.ChangeLaws.{is_there}
use Rattle.text_frames.specs.Rules.{shown_org}
use Rattle.desktop_definitions.specs.Looks.{IsLook, AreLooks}
use Rattle.desk_core.specs.Movable.{IsMovable}
use Rattle.desktop_definitions.proofs.LookedLaws.{inserted_looks, deleted_looks, looks_changed_looks, kept_text_looks}

-- the desktop with other texts, whose frames lost caret and selection, and other viewers
abbrev pub Follows : KeptDesktop → Texts (List Piece) → ℕ → List (ℕ × Viewer) → KeptDesktop → Type 0
Follows d texts n viewers new =
    new ≡ record (unmarked (shows d n) (record d { texts = texts })) { viewers = viewers }

module _ (characters : List ℕ) (d : KeptDesktop) (texts : Texts (List Piece)) (n p : ℕ) (buffer : List Piece)
    (count : ℕ) (count_is : count ≡ length (flat buffer)) (built : IsBuilt (length characters) d)
    (there : IsSome (text_numbered d.texts n))
    (set : IsSet d.texts texts n (inserted p (flat buffer) (flat (text_in d.texts n))))
    (within : AreWithin (length characters) (flat buffer)) where
  abbrev longer_text : Text ℕ
  longer_text = inserted p (flat buffer) (flat (text_in d.texts n))

  longer : length longer_text + 0 ≡ length (flat (text_in d.texts n)) + count
  longer = let long = length-inserted p (flat buffer) (flat (text_in d.texts n)) in omega (arith, long, count_is)

  all_within : AreWithin (length characters) longer_text
  all_within = inserted-AreWithin (length characters) p (flat buffer) (flat (text_in d.texts n)) within
      (text_within (length characters) d.texts n built.within.texts)

  pub put_there : IsSome (text_numbered texts n)
  put_there = set_there characters d texts n longer_text count 0 built there set longer all_within

  pub put_long : length (flat (text_in texts n)) ≡ length (flat (text_in d.texts n)) + count
  put_long = let long = set_long characters d texts n longer_text count 0 built there set longer all_within in
      omega (arith, long)

  pub put_orgs : All (CanFollow n count 0 (length (flat (text_in texts n)))) d.viewers
  put_orgs = set_orgs characters d texts n longer_text count 0 built there set longer all_within

  pub put_within : AreWithin (length characters) (flat (text_in texts n))
  put_within = set_within characters d texts n longer_text count 0 built there set longer all_within

  pub put_changed : AreLooks (flat buffer) → (some : 0 < count) (H : Type 0) (new : KeptDesktop)
      (viewers : List (ℕ × Viewer))
      → Follows d texts n viewers new → AreMoved n (length (flat (text_in texts n))) d.viewers viewers
      → (H → viewers ≡ with_values (following_viewer n (bytes_of_text characters (flat (text_in texts n))) p count 0) d.viewers)
      → IsChanged H characters d new (insertion (seen characters d) n p (seen_text characters buffer))
      (length (flat buffer)) 0
  put_changed looks some H new viewers is moved exact =
      subst (λ (m : ℕ). IsChanged H characters d new
      (insertion (seen characters d) n p (seen_text characters buffer)) m 0) count_is
      (set_changed characters d texts n longer_text count 0 built there set longer all_within new viewers is moved
      (inserted_looks p (flat buffer) (flat (text_in d.texts n)) looks
      (kept_text_looks (length characters) d built n)) H
      (insertion (seen characters d) n p (seen_text characters buffer))
      (λ h. insertion_seen characters d n p buffer (text_in texts n) viewers (omega (arith, some, count_is)) set.is
      (exact h ∙ ap (λ (m : ℕ). with_values (following_viewer n (bytes_of_text characters (flat (text_in texts n))) p m 0) d.viewers)
      count_is)))

module _ (characters : List ℕ) (d : KeptDesktop) (texts : Texts (List Piece)) (n p q : ℕ) (some : p < q)
    (low : q ≤ length (flat (text_in d.texts n))) (built : IsBuilt (length characters) d)
    (there : IsSome (text_numbered d.texts n)) (set : IsSet d.texts texts n (deleted p q (flat (text_in d.texts n)))) where
  abbrev shorter_text : Text ℕ
  shorter_text = deleted p q (flat (text_in d.texts n))

  shorter : length shorter_text + (q - p) ≡ length (flat (text_in d.texts n)) + 0
  shorter = let long = length-deleted p q (flat (text_in d.texts n)) (omega (arith, some)) low in omega (arith, long)

  rest_within : AreWithin (length characters) shorter_text
  rest_within = deleted-AreWithin (length characters) p q (flat (text_in d.texts n))
      (text_within (length characters) d.texts n built.within.texts)

  pub cut_there : IsSome (text_numbered texts n)
  cut_there = set_there characters d texts n shorter_text 0 (q - p) built there set shorter rest_within

  pub cut_long : length (flat (text_in texts n)) + (q - p) ≡ length (flat (text_in d.texts n))
  cut_long = let long = set_long characters d texts n shorter_text 0 (q - p) built there set shorter rest_within in
      omega (arith, long)

  pub cut_orgs : All (CanFollow n 0 (q - p) (length (flat (text_in texts n)))) d.viewers
  cut_orgs = set_orgs characters d texts n shorter_text 0 (q - p) built there set shorter rest_within

  pub cut_within : AreWithin (length characters) (flat (text_in texts n))
  cut_within = set_within characters d texts n shorter_text 0 (q - p) built there set shorter rest_within

  pub cut_changed : (H : Type 0) (new : KeptDesktop) (viewers : List (ℕ × Viewer)) → Follows d texts n viewers new
      → AreMoved n (length (flat (text_in texts n))) d.viewers viewers
      → (H → viewers ≡ with_values (following_viewer n (bytes_of_text characters (flat (text_in texts n))) p 0 (q - p)) d.viewers)
      → IsChanged H characters d new (deletion (seen characters d) n p q) 0 (q - p)
  cut_changed H new viewers is moved exact =
      set_changed characters d texts n shorter_text 0 (q - p) built there set shorter rest_within new viewers is moved
      (deleted_looks p q (flat (text_in d.texts n)) (kept_text_looks (length characters) d built n)) H
      (deletion (seen characters d) n p q)
      (λ h. deletion_seen characters d n p q (text_in texts n) viewers some set.is (exact h))

module _ (characters : List ℕ) (d : KeptDesktop) (texts : Texts (List Piece)) (s : Selection) (selector : ℕ)
    (look : Look) (placed : IsOnTop s.viewer d.columns)
    (there : IsSome (text_numbered d.texts (viewer_or_none d.viewers s.viewer).main)) (some : s.beg < s.end)
    (low : s.end ≤ length (flat (text_in d.texts (viewer_or_none d.viewers s.viewer).main)))
    (set : IsSet d.texts texts (viewer_or_none d.viewers s.viewer).main
    (looks_changed s.beg s.end selector look (flat (text_in d.texts (viewer_or_none d.viewers s.viewer).main)))) where
  abbrev its_number : ℕ
  its_number = (viewer_or_none d.viewers s.viewer).main

  pub relooked_so : IsLook look → (new : KeptDesktop)
      → new ≡ with_selection (unmarked (shows d its_number) (record d { texts = texts })) s
      → IsBuilt (length characters) d
      → IsChanged ⊤ characters d new (looks_set (seen characters d) s selector look) 0 0
  relooked_so is_look new is built =
      let pieces : List Piece = text_in texts its_number in
      let old : Text ℕ = flat (text_in d.texts its_number) in
      let long : length (flat pieces) ≡ length old = ap length set.is
      ∙ length-looks_changed s.beg s.end selector look old (omega (arith, some)) low in
      let within : AreWithin (length characters) (flat pieces) = subst (AreWithin (length characters)) (sym set.is)
      (looks_changed-AreWithin (length characters) s.beg s.end selector look old
      (text_within (length characters) d.texts its_number built.within.texts)) in
      subst (λ (now : KeptDesktop). IsChanged ⊤ characters d now (looks_set (seen characters d) s selector look) 0 0)
      (sym (is ∙ (λ k. with_selection (unmarked (shows d its_number) (record d { texts = set.set k })) s)))
      (looks_changed_so characters d s pieces built placed there some low long within
      (subst AreLooks (sym set.is) (looks_changed_looks s.beg s.end selector look old is_look
      (kept_text_looks (length characters) d built its_number)))
      (looks_set (seen characters d) s selector look) (looks_seen characters d s selector look pieces set.is))

pub relooked_by : (characters : List ℕ) (d : KeptDesktop) (texts : Texts (List Piece)) (s : Selection) (selector : ℕ)
    (look : Look) (placed : IsOnTop s.viewer d.columns)
    (there : IsSome (text_numbered d.texts (viewer_or_none d.viewers s.viewer).main)) (some : s.beg < s.end)
    (low : s.end ≤ length (flat (text_in d.texts (viewer_or_none d.viewers s.viewer).main)))
    (w : Viewer) → w ≡ viewer_or_none d.viewers s.viewer
    → IsSet d.texts texts w.main (looks_changed s.beg s.end selector look (flat (text_in d.texts w.main)))
    → IsLook look → (new : KeptDesktop)
    → new ≡ with_selection (unmarked (shows d w.main) (record d { texts = texts })) s
    → IsBuilt (length characters) d
    → IsChanged ⊤ characters d new (looks_set (seen characters d) s selector look) 0 0
relooked_by characters d texts s selector look placed there some low w w_is set is_look new is built =
    relooked_so characters d texts s selector look placed there some low
    (subst (λ (v : Viewer). IsSet d.texts texts v.main
    (looks_changed s.beg s.end selector look (flat (text_in d.texts v.main)))) w_is set) is_look new
    (is ∙ ap (λ (v : Viewer). with_selection (unmarked (shows d v.main) (record d { texts = texts })) s) w_is) built

-- ---- nothing to put in

pub none_put : (H : Type 0) (characters : List ℕ) (d : KeptDesktop) (n p : ℕ) (buffer : List Piece)
    → IsBuilt (length characters) d → length (flat buffer) ≡ 0
    → IsChanged H characters d d (insertion (seen characters d) n p (seen_text characters buffer))
    (length (flat buffer)) 0
none_put H characters d n p buffer built none =
    let outcome : Desktop = insertion (seen characters d) n p (seen_text characters buffer) in
    subst (λ (m : ℕ). IsChanged H characters d d outcome m 0) (sym none)
    (unchanged H characters d outcome built
    (sym (insertion_none (seen characters d) n p (seen_text characters buffer)
    (length_seen_text characters buffer ∙ none))))

-- ---- a viewer on the display

once_there : (b : Bool) (placed meant : ℕ) → 0 < placed → placed + meant ≡ (if b then 1 else 0) → b ≡ true
once_there true placed meant some sum = refl
once_there false placed meant some sum = absurd (omega (arith, some, sum))

module _ (characters : List ℕ) (d : KeptDesktop) (v : ℕ) (built : IsBuilt (length characters) d)
    (placed : IsPlaced v d.columns) where
  viewer_there : viewer_in d.viewers v ≡ Some (viewer_or_none d.viewers v)
  unfolding seen
  viewer_there = is_there (viewer_in d.viewers v) bare_viewer
      (once_there (is_some (viewer_in d.viewers v)) (times_placed v d.columns)
      (times_meant v (option_map (λ k. k.viewer) d.closed)) placed ((built.shaped characters).places.once v))

  main_there : IsSome (text_numbered d.texts (viewer_or_none d.viewers v).main)
  unfolding seen
  main_there =
      let n : ℕ = (viewer_or_none d.viewers v).main in
      sym (is_some_map (seen_text characters) (text_numbered d.texts n))
      ∙ sym (ap (λ (o : Option (Text ℕ)). is_some o) (lookup_seen (seen_text characters) (is_at (nat_cmp n)) d.texts))
      ∙ ((built.shaped characters).viewers.each v (viewer_or_none d.viewers v) viewer_there).main

  org_there : (viewer_or_none d.viewers v).org ≤ length (flat (text_in d.texts (viewer_or_none d.viewers v).main))
  unfolding seen
  org_there =
      let low = ((built.shaped characters).viewers.each v (viewer_or_none d.viewers v) viewer_there).org in
      subst (λ (m : ℕ). (viewer_or_none d.viewers v).org ≤ m)
      (long_seen characters d.texts (viewer_or_none d.viewers v).main) low

  characters_there : AreWithin (length characters) (flat (text_in d.texts (viewer_or_none d.viewers v).main))
  characters_there =
      text_within (length characters) d.texts (viewer_or_none d.viewers v).main built.within.texts

  pub movable : IsMovable (length characters) d.texts (viewer_or_none d.viewers v)
  movable = record { there = main_there; org = org_there; offsets = characters_there }

pub caret_put : (characters : List ℕ) (d : KeptDesktop) (v : ℕ) → IsBuilt (length characters) d → IsOnTop v d.columns
    → (H : Type 0) (p org rows : ℕ) (viewers : List (ℕ × Viewer))
    → p ≤ length (flat (text_in d.texts (viewer_or_none d.viewers v).main))
    → org ≤ length (flat (text_in d.texts (viewer_or_none d.viewers v).main)) → rows ≡ rows_of d v
    → (H → org ≡ shown_org (bytes_of_text characters (flat (text_in d.texts (viewer_or_none d.viewers v).main))) rows p
    (viewer_or_none d.viewers v).org)
    → viewers ≡ set_value (is_at (nat_cmp v)) d.viewers (record (viewer_or_none d.viewers v) { org = org })
    → IsChanged H characters d (record (with_caret d v p) { viewers = viewers })
    (caret_shown (seen characters d) v p) 0 0
caret_put characters d v built placed H p org rows viewers low org_low rows_is exact set =
    subst (λ (vs : List (ℕ × Viewer)). IsChanged H characters d (record (with_caret d v p) { viewers = vs })
    (caret_shown (seen characters d) v p) 0 0) (sym set)
    (caret_shown_changed H characters d v p org built placed low org_low
    (λ h. exact h ∙ ap (λ (r : ℕ). shown_org
    (bytes_of_text characters (flat (text_in d.texts (viewer_or_none d.viewers v).main))) r p
    (viewer_or_none d.viewers v).org) rows_is))
