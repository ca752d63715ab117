-- What a desk tells of itself: where a viewer stands, and the last line of the log.
use Rattle.std.specs.Prelude.{◌≡◌, ℕ, ◌+◌, ◌-◌, ◌≤◌, min, nat_lt, Bool, true, false, if◌then◌else◌, List, [], length, take}
use Rattle.std.specs.Prelude.{drop, slice_range, Option, Some, None, IsSome, is_some, option_map}
use Rattle.std.proofs.Common.{refl, sym, ap, subst, ◌∙◌, inl, inr, arith}
use Rattle.std.proofs.lemmas.Bool.{cases_lt, ltb-true, lt-ltb}
use Rattle.std.proofs.lemmas.List.{length-take, take_all, take-take}
use Rattle.piece_ring.specs.declared.piece.Piece.{Piece}
use Rattle.piece_ring.specs.Flat.{flat}
use Rattle.piece_ring.specs.Text.{Text, AreWithin}
use Rattle.readers_scanners.specs.Reading.{bytes_of_text}
use Rattle.viewer_tracks.specs.declared.display.TheConstants.{COLUMNS}
use Rattle.viewer_tracks.specs.declared.tracks.Place.{Place}
use Rattle.viewer_tracks.specs.Columns.{IsOnTop, seen_at, times_shown}
use Rattle.text_frames.specs.Lines.{line_start}
use Rattle.desktop_definitions.specs.Tables.{text_numbered}
use Rattle.desktop_definitions.specs.Desktop.{KeptDesktop}
use Rattle.desktop_definitions.specs.Viewers.{text_in, text_of}
use Rattle.desktop_definitions.specs.Change.{bytes_of}
use Rattle.desktop_definitions.specs.Opening.{new_id}
use Rattle.desktop_definitions.specs.Seen.{seen}
use Rattle.desktop_definitions.specs.Sound.{IsKeptWhole, IsOver}
use Rattle.desktop_definitions.proofs.SeenLaws.{within_counted}
use Rattle.desktop_definitions.proofs.TextLaws.{text_there, long_seen, text_in_seen, text_within}
use Rattle.desk_views.specs.Unstored.{closed_id}
use Rattle.desk_views.specs.declared.info.ShownViewer.{ShownViewer}
use Rattle.desk_views.specs.Info.{viewer_place, viewer_there, shown_viewer, desk_info, last_end, last_line, last_log_line}

-- ---- viewers

module _ (d : KeptDesktop) (v : ℕ) where
  pub not_shown : ¬ IsOnTop v d.columns → None ≡ shown_viewer d v
  unfolding shown_viewer
  not_shown hidden = (elim (nat_lt 0 (times_shown v d.columns)) as (λ b. nat_lt 0 (times_shown v d.columns) ≡ b
      → None ≡ (let o : Option ShownViewer = if b then Some (viewer_there d v) else None in o)) [
        | true ↦ λ is. absurd (hidden (ltb-true 0 (times_shown v d.columns) is))
        | false ↦ λ is. refl
      ]) refl

  pub shown_at : (viewer : ShownViewer) → IsOnTop v d.columns → viewer ≡ viewer_there d v → Some viewer ≡ shown_viewer d v
  unfolding shown_viewer
  shown_at viewer top is = (elim (nat_lt 0 (times_shown v d.columns)) as (λ b. nat_lt 0 (times_shown v d.columns) ≡ b
      → Some viewer ≡ (let o : Option ShownViewer = if b then Some (viewer_there d v) else None in o)) [
        | true ↦ λ on. ap (λ (w : ShownViewer). Some w) is
        | false ↦ λ off. absurd (cc (sym off ∙ lt-ltb 0 (times_shown v d.columns) top))
      ]) refl

-- who is seen at a cell
module _ (d : KeptDesktop) (x y : ℕ) where
  pub none_seen : None ≡ seen_at d.columns x y → None ≡ option_map (viewer_place d) (seen_at d.columns x y)
  none_seen is = ap (option_map (viewer_place d)) is

  pub one_seen : (v : ℕ) (place : Place) → Some v ≡ seen_at d.columns x y → place ≡ viewer_place d v
      → Some place ≡ option_map (viewer_place d) (seen_at d.columns x y)
  one_seen v place is there = ap (λ (p : Place). Some p) there ∙ ap (option_map (viewer_place d)) is

pub log_there : (d : KeptDesktop) → IsKeptWhole d → IsSome (text_numbered d.texts 0)
unfolding seen
log_there d whole = text_there [] d.texts 0 (whole.sound []).shaped.viewers.log

pub info_told : (characters : List ℕ) (d : KeptDesktop) (next : ℕ) (last with_caret place : Option ℕ) (marked : Bool)
    (text : List Piece) (long : ℕ) → next ≡ new_id d → last ≡ closed_id d
    → with_caret ≡ option_map (λ c. c.viewer) d.caret → place ≡ option_map (λ c. c.position) d.caret → marked ≡ is_some d.marker → text ≡ text_in d.texts 0
    → long ≡ length (flat text)
    → record {
      next_viewer = next;
      closed_viewer = last;
      caret_viewer = with_caret;
      caret_position = place;
      is_marked = marked;
      log_length = long;
    } ≡ desk_info (seen characters d)
unfolding desk_info seen
info_told characters d next last with_caret place marked text long next_is last_is caret_is place_is marked_is text_is long_is =
    let all : long ≡ length (text_of (seen characters d) 0) =
    long_is ∙ ap (λ (t : List Piece). length (flat t)) text_is ∙ sym (long_seen characters d.texts 0) in
    λ k. record {
      next_viewer = next_is k;
      closed_viewer = last_is k;
      caret_viewer = caret_is k;
      caret_position = place_is k;
      is_marked = marked_is k;
      log_length = all k;
    }

-- ---- lines

first_of : (bytes : List ℕ) (s e n : ℕ) → s ≤ e → slice_range bytes s (min e (s + n)) ≡ take n (slice_range bytes s e)
first_of bytes s e n order = elim (cases_lt (e - s) n) [
  | inl low ↦
      let all = length-take (e - s) (drop s bytes) in
      let same : min e (s + n) - s ≡ e - s = omega (arith, low, order) in
      ap (λ j. take j (drop s bytes)) same ∙ sym (take_all n (take (e - s) (drop s bytes)) (omega (arith, all, low)))
  | inr high ↦
      let same : min e (s + n) - s ≡ n = omega (arith, high, order) in
      ap (λ j. take j (drop s bytes)) same ∙ sym (take-take n (e - s) (drop s bytes) high)
]

pub last_read : (bytes : List ℕ) (long last start end cut : ℕ) → long ≡ length bytes → last ≡ line_start bytes long
    → end ≡ last - 1 → start ≡ line_start bytes end → start ≤ end → cut ≡ min end (start + COLUMNS)
    → slice_range bytes start cut ≡ take COLUMNS (last_line bytes)
last_read bytes long last start end cut long_is last_is end_is start_is order cut_is =
    let ends : end ≡ last_end bytes = end_is ∙ ap (λ n. n - 1) (last_is ∙ ap (line_start bytes) long_is) in
    let starts : start ≡ line_start bytes (last_end bytes) = start_is ∙ ap (line_start bytes) ends in
    ap (slice_range bytes start) cut_is ∙ first_of bytes start end COLUMNS order
    ∙ (λ k. take COLUMNS (slice_range bytes (starts k) (ends k)))

pub log_within : (characters : List ℕ) (d : KeptDesktop) (text : List Piece) → IsOver characters d
    → text ≡ text_in d.texts 0 → AreWithin (length characters) (flat text)
log_within characters d text over is = subst (λ (t : List Piece). AreWithin (length characters) (flat t)) (sym is)
    (text_within (length characters) d.texts 0 (within_counted characters d over).texts)

pub log_read : (characters : List ℕ) (d : KeptDesktop) (text : List Piece) → text ≡ text_in d.texts 0
    → take COLUMNS (last_line (bytes_of_text characters (flat text))) ≡ last_log_line (seen characters d)
unfolding last_log_line seen
log_read characters d text is =
    ap (λ (t : List Piece). take COLUMNS (last_line (bytes_of_text characters (flat t)))) is
    ∙ ap (λ (t : Text ℕ). take COLUMNS (last_line (bytes_of t))) (sym (text_in_seen characters d.texts 0))
