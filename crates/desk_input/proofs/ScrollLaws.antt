-- The presses for a wish leave the desktop with the wished line first, and nothing else changed.
use Rattle.std.specs.Prelude.{◌≡◌, ℕ, zero, suc, ◌+◌, ◌-◌, ◌*◌, ◌/◌, ◌%◌, ◌<◌, ◌≤◌, ◌==◌, ◌&&◌, nat_le, Bool, true}
use Rattle.std.specs.Prelude.{false, cond, if◌then◌else◌, List, [], ◌∷◌, ◌++◌, length, replicate, Option, Some, None}
use Rattle.std.specs.Prelude.{IfSome, IsSome, Ok}
use Rattle.std.specs.Map.{set_value}
use Rattle.std.specs.Ordering.{nat_cmp}
use Rattle.std.specs.BTreeMap.{is_at}
use Rattle.std.specs.Option.{option_map, unwrap_or}
use Rattle.std.proofs.Common.{refl, sym, ap, subst, ◌∙◌, arith, inl, inr, mod-lt, div-add-mod'}
use Rattle.std.proofs.lemmas.Bool.{eq-eqb, eqb-true, lt-ltb, leb-true, ltb-true, and_parts}
use Rattle.std.proofs.lemmas.Bool.Decides.{eqb_tells}
use Rattle.std.proofs.lemmas.List.{length-map}
use Rattle.std.proofs.lemmas.Map.Steps.{set_value_same}
use Rattle.event_bytes.specs.declared.keys.Keys.{Keys}
use Rattle.event_bytes.specs.declared.keys.Keys.TheVariants.{Left, Middle}
use Rattle.event_bytes.specs.declared.event.Event.{Event}
use Rattle.piece_ring.specs.declared.piece.Look.{Look}
use Rattle.viewer_tracks.specs.declared.display.TheConstants.{ROWS, COLUMNS}
use Rattle.viewer_tracks.specs.Columns.{IsColumns, IsOnTop, track_of, placed_top, seen_at}
use Rattle.viewer_tracks.proofs.PlacedLemmas.{seen_placed}
use Rattle.text_frames.specs.Lines.{line_start, begins_line, ends_between}
use Rattle.text_frames.specs.Cells.{position_at, row_of}
use Rattle.text_frames.specs.Rules.{is_in_rows}
use Rattle.desktop_definitions.specs.declared.region.Region.TheVariants.{Menu, Bar, Body}
use Rattle.desktop_definitions.specs.declared.reply.Reply.TheVariants.{Done}
use Rattle.desktop_definitions.specs.declared.viewer.Viewer.{Viewer}
use Rattle.desktop_definitions.specs.declared.viewer.Caret.{Caret}
use Rattle.desktop_definitions.specs.Limits.{newest_version, most_written, most_held, outside}
use Rattle.desktop_definitions.specs.Needs.{unless}
use Rattle.desktop_definitions.specs.Desktop.{Desktop, characters_held}
use Rattle.desktop_definitions.specs.Viewers.{bare_viewer, viewer_in, viewer_of, main_of, text_in, rows_of, with_org}
use Rattle.desktop_definitions.specs.Change.{bytes_of}
use Rattle.desktop_definitions.specs.Gesture.{is_on_display, left, part_of, region_at, frame_row, pointed, done_in_bar}
use Rattle.desktop_definitions.specs.Gesture.{scrolled_to_row, scrolled_to_share}
use Rattle.desktop_definitions.specs.Step.{step, step_in, steps, raw, outcome_after, Outcome, outcome_of, fits}
use Rattle.desktop_definitions.specs.Sound.{IsSound}
use Rattle.desktop_definitions.proofs.ChangeLaws.{with_org_counts, is_there}
use Rattle.desktop_definitions.proofs.PlaceLaws.{on_top_placed}
use Rattle.desktop_definitions.proofs.RowLaws.{shown_rest, fit_sound, placed_there}
use Rattle.desktop_definitions.proofs.ShapeLaws.{set_same}
use Rattle.desktop_definitions.proofs.StepLaws.{settled_done}
use Rattle.desk_input.specs.declared.wish.Wish.{Wish}
use Rattle.desk_input.specs.Lines.{wished, share_start, share_row, way_by_share, way_or, way_to}
use Rattle.desk_input.specs.Scrolling.{viewer_meant, bar_press, rest_presses, down_presses, way_presses, wished_in}
use Rattle.desk_input.specs.Scrolling.{way_in, is_passable, line_presses, presses_in, presses_to, LeadTo, Scrolls}
use Rattle.desk_input.proofs.LineLaws.{line_at, on_way, ends_split, no_ends, wished_begins, wished_within, share_low}
use Rattle.desk_input.proofs.LineLaws.{share_row_low}
use Rattle.desk_input.proofs.BarLaws.{seen_left, left_within}

-- ---- a press in the scroll bar

module _ (d : Desktop) (v n : ℕ) (columns : IsColumns d.columns) (top : IsOnTop v d.columns) (low : n < rows_of d v)
  where
    is_bar : region_at d (left d v) (frame_row d v n) ≡ Bar v
    unfolding region_at
    is_bar =
        let x = left d v in
        let y = frame_row d v n in
        let here = seen_left d.columns v y columns top (omega (arith, low)) (omega (arith, low)) in
        let below : (y + 1 == placed_top d.columns v) ≡ false = elim (eqb_tells (y + 1) (placed_top d.columns v)) [
          | inl same ↦ absurd (let no : ⊥ = omega (arith, same.1, low) in no)
          | inr other ↦ other.0
        ] in
        ap (part_of d x y) here.seen
        ∙ (λ k. if below k then Menu v else (if eq-eqb x x refl k then Bar v else Body v))

    on_display : is_on_display (left d v) (frame_row d v n) ≡ true
    on_display =
        let y = frame_row d v n in
        let here = seen_left d.columns v y columns top (omega (arith, low)) (omega (arith, low)) in
        λ k. lt-ltb (left d v) COLUMNS (left_within (track_of d.columns v)) k
        && lt-ltb y ROWS (let fits = here.top in omega (arith, low, fits)) k

    is_done_in_bar : (keys : Keys) → raw newest_version d (bar_press d v keys n) ≡ done_in_bar d keys v n
    unfolding raw pointed bar_press
    is_done_in_bar keys =
        let x = left d v in
        let y = frame_row d v n in
        (λ k. unless (on_display k && on_display k) outside (pointed newest_version d (is_bar k) keys x y x y))
        ∙ ap (done_in_bar d keys v) (let back : frame_row d v y ≡ n = omega (arith, low) in back)

-- ---- a viewer that begins elsewhere

set_again : (v : ℕ) (viewers : List (ℕ × Viewer)) (x y : Viewer)
    → set_value (is_at (nat_cmp v)) (set_value (is_at (nat_cmp v)) viewers x) y ≡ set_value (is_at (nat_cmp v)) viewers y
set_again v [] x y = refl
set_again v (e ∷ es) x y = (elim (is_at (nat_cmp v) e.0) as (λ (b : Bool). is_at (nat_cmp v) e.0 ≡ b
    → set_value (is_at (nat_cmp v)) (let l : List (ℕ × Viewer)
    = cond b ((e.0, x) ∷ es) (e ∷ set_value (is_at (nat_cmp v)) es x) in l) y
    ≡ (let l : List (ℕ × Viewer) = cond b ((e.0, y) ∷ es) (e ∷ set_value (is_at (nat_cmp v)) es y) in l)) [
      | true ↦ λ is. ap (λ (b : Bool). let l : List (ℕ × Viewer)
          = cond b ((e.0, y) ∷ es) ((e.0, x) ∷ set_value (is_at (nat_cmp v)) es y) in l) is
      | false ↦ λ is. ap (λ (b : Bool). let l : List (ℕ × Viewer) = cond b ((e.0, y) ∷ set_value (is_at (nat_cmp v)) es x)
          (e ∷ set_value (is_at (nat_cmp v)) (set_value (is_at (nat_cmp v)) es x) y) in l) is
          ∙ ap (λ (l : List (ℕ × Viewer)). e ∷ l) (set_again v es x y)
    ]) refl

-- a viewer that is there
module _ (d : Desktop) (v : ℕ) (there : IsSome (viewer_in d.viewers v)) where
  pub org_own : with_org d v (viewer_of d v).org ≡ d
  org_own = λ k. record d {
    viewers = set_value_same (is_at (nat_cmp v)) d.viewers (viewer_of d v)
        (is_there (viewer_in d.viewers v) bare_viewer there) k;
  }

  pub org_found : (a : ℕ) → viewer_of (with_org d v a) v ≡ record (viewer_of d v) { org = a }
  org_found a = ap (λ (found : Option Viewer). unwrap_or found bare_viewer)
      (set_same d.viewers v (record (viewer_of d v) { org = a }) there)

  org_again : (a b : ℕ) → with_org (with_org d v a) v b ≡ with_org d v b
  org_again a b =
      (λ k. record d {
        viewers = set_value (is_at (nat_cmp v))
            (set_value (is_at (nat_cmp v)) d.viewers (record (viewer_of d v) { org = a }))
            (record (org_found a k) { org = b });
      })
      ∙ ap (λ (viewers : List (ℕ × Viewer)). record d { viewers = viewers })
      (set_again v d.viewers (record (viewer_of d v) { org = a }) (record (viewer_of d v) { org = b }))

  -- the line in a row comes first
  row_comes : (a t n : ℕ) → a ≤ t → t ≤ length (bytes_of (main_of d v)) → begins_line (bytes_of (main_of d v)) t ≡ true
      → ends_between (bytes_of (main_of d v)) a t ≡ n → done_in_bar (with_org d v a) Left v n ≡ Ok (with_org d v t)
  unfolding done_in_bar scrolled_to_row
  row_comes a t n from within begins ends =
      let x : Desktop = with_org d v a in
      let bs = bytes_of (main_of d v) in
      let at = line_at bs a t from begins n within ends in
      let comes : scrolled_to_row x v n ≡ with_org d v t =
      ap (λ (w : Viewer).
      let p = position_at (bytes_of (text_in d.texts w.main)) w.org 0 n in
      if row_of (bytes_of (text_in d.texts w.main)) w.org p == n then with_org x v p else x) (org_found a)
      ∙ (λ k. if row_of bs a (sym at k) == n then with_org x v (sym at k) else x)
      ∙ ap (λ (b : Bool). if b then with_org x v t else x) (eq-eqb (ends_between bs a t) n ends)
      ∙ org_again a t in
      λ k. Ok (comes k)

  -- the line at a share of the text comes first
  share_comes : (a row : ℕ) → done_in_bar (with_org d v a) Middle v row
      ≡ Ok (with_org d v (share_start (bytes_of (main_of d v)) (rows_of d v) row))
  unfolding done_in_bar scrolled_to_share
  share_comes a row =
      let x : Desktop = with_org d v a in
      let bs = bytes_of (main_of d v) in
      let long : length (main_of d v) ≡ length bs = sym (length-map (main_of d v) (λ (c : ℕ × Look). c.0)) in
      let comes : scrolled_to_share x v row ≡ with_org d v (share_start bs (rows_of d v) row) =
      ap (λ (w : Viewer). with_org x v (line_start (bytes_of (text_in d.texts w.main))
      (length (text_in d.texts w.main) * row / rows_of d v))) (org_found a)
      ∙ (λ k. with_org x v (line_start bs (long k * row / rows_of d v)))
      ∙ org_again a (share_start bs (rows_of d v) row) in
      λ k. Ok (comes k)

-- ---- presses one after another

pub step_leads : (d new last : Desktop) (event : Event) (more : List Event) → step d event ≡ outcome_of new Done
    → LeadTo new more last → LeadTo d (event ∷ more) last
step_leads d new last event more is rest = (
  ap (λ (o : Outcome). o.reply) is,
  subst (λ (x : Desktop). LeadTo x more last) (sym (ap (λ (o : Outcome). o.desktop) is)) rest,
)

-- where events lead to a desktop, it is the one after their steps
pub leads_steps : (d last : Desktop) (events : List Event) → LeadTo d events last → steps d events ≡ last
leads_steps d last [] lead = lead
leads_steps d last (event ∷ more) lead = leads_steps (step d event).desktop last more lead.1

module _ (d : Desktop) (v : ℕ) (sound : IsSound d) (top : IsOnTop v d.columns) where
  pub there : IsSome (viewer_in d.viewers v)
  there = placed_there sound.shaped.places v (on_top_placed d.columns v top)

  org_fits : (b : ℕ) → fits (with_org d v b) ≡ true
  org_fits b =
      let counts = with_org_counts d v b in
      let held : characters_held (with_org d v b) ≡ characters_held d = (let c = counts.counted in omega (arith, c)) in
      (λ k. nat_le (counts.written k) most_written && nat_le (held k) most_held) ∙ fit_sound d sound

  org_steps : (a b n : ℕ) (keys : Keys) → n < rows_of d v → done_in_bar (with_org d v a) keys v n ≡ Ok (with_org d v b)
      → step (with_org d v a) (bar_press d v keys n) ≡ outcome_of (with_org d v b) Done
  unfolding step step_in bar_press
  org_steps a b n keys low is =
      let x : Desktop = with_org d v a in
      let counts = with_org_counts d v b in
      ap (outcome_after x) (is_done_in_bar x v n sound.shaped.places.columns_hold top low keys ∙ is)
      ∙ settled_done x (with_org d v b) (shown_rest d (with_org d v b) counts.numbers counts.viewers sound.shown)
      (org_fits b)

  module _ (t : ℕ) (within : t ≤ length (bytes_of (main_of d v)))
      (begins : begins_line (bytes_of (main_of d v)) t ≡ true) where
    rest_leads : (a r : ℕ) → a ≤ t → ends_between (bytes_of (main_of d v)) a t ≡ r → r < rows_of d v
        → LeadTo (with_org d v a) (rest_presses d v r) (with_org d v t)
    rest_leads a r from ends low = (elim (r == 0) as (λ (b : Bool). (r == 0) ≡ b
        → LeadTo (with_org d v a) (if b then [] else bar_press d v Left r ∷ []) (with_org d v t)) [
          | true ↦ λ none. ap (λ (org : ℕ). with_org d v org) (no_ends (bytes_of (main_of d v)) a t from within begins
              (let zero_is = eqb-true r 0 none in omega (arith, ends, zero_is)))
          | false ↦ λ some. step_leads (with_org d v a) (with_org d v t) (with_org d v t) (bar_press d v Left r) []
              (org_steps a t r Left low (row_comes d v there a t r from within begins ends)) refl
        ]) refl

    module _ (page : ℕ) (some : 0 < page) (fit : page < rows_of d v) where
      pages_lead : (m r a : ℕ) → a ≤ t → ends_between (bytes_of (main_of d v)) a t ≡ m * page + r → r < rows_of d v
          → LeadTo (with_org d v a) (replicate m (bar_press d v Left page) ++ rest_presses d v r) (with_org d v t)
      pages_lead zero r a from ends low = rest_leads a r from (omega (arith, ends)) low
      pages_lead (suc m) r a from ends low =
          let bs = bytes_of (main_of d v) in
          let more : suc m * page ≡ page + m * page = omega arith in
          let found = on_way bs a t page within some (omega (arith, ends, more)) in
          let p = found.0 in
          let way = found.1 in
          let low_p : p ≤ length bs = (let upto = way.upto in omega (arith, upto, within)) in
          let left_over : ends_between bs p t ≡ m * page + r = (let all = ends_split bs a p t way.from way.upto in
          let first = way.ends in omega (arith, all, first, ends, more)) in
          step_leads (with_org d v a) (with_org d v p) (with_org d v t) (bar_press d v Left page)
          (replicate m (bar_press d v Left page) ++ rest_presses d v r)
          (org_steps a p page Left fit (row_comes d v there a p page way.from low_p way.begins way.ends))
          (pages_lead m r p way.upto left_over low)

    down_leads : (a : ℕ) → a ≤ t → 1 < rows_of d v → LeadTo (with_org d v a)
        (down_presses d v (rows_of d v) (ends_between (bytes_of (main_of d v)) a t)) (with_org d v t)
    down_leads a from high =
        let n : ℕ = ends_between (bytes_of (main_of d v)) a t in
        let page : ℕ = rows_of d v - 1 in
        let some : 0 < page = omega (arith, high) in
        let parts = div-add-mod' n page in
        let low = mod-lt n some in
        pages_lead page some (omega (arith, high)) (n / page) (n % page) a from (sym parts) (omega (arith, low))

    way_leads : 1 < rows_of d v → LeadTo d (way_presses d v (way_in d v t)) (with_org d v t)
    unfolding way_to way_in
    way_leads high =
        let bs = bytes_of (main_of d v) in
        let h : ℕ = rows_of d v in
        let org : ℕ = (viewer_of d v).org in
        let row : ℕ = share_row bs h t in
        let low = share_row_low bs h t (omega (arith, high)) in
        subst (λ (x : Desktop). LeadTo x (way_presses d v (way_to bs h org t)) (with_org d v t)) (org_own d v there)
        ((elim (is_in_rows bs h org t) as (λ (b : Bool). is_in_rows bs h org t ≡ b
        → LeadTo (with_org d v org)
        (way_presses d v (way_or (if b then Some (ends_between bs org t) else None) (way_by_share bs h t)))
        (with_org d v t)) [
          | true ↦ λ is. down_leads org (leb-true org t (and_parts _ _ is).0) high
          | false ↦ λ is. step_leads (with_org d v org) (with_org d v (share_start bs h row)) (with_org d v t)
              (bar_press d v Middle row) (down_presses d v h (ends_between bs (share_start bs h row) t))
              (org_steps org (share_start bs h row) row Middle low (share_comes d v there org row))
              (down_leads (share_start bs h row) (share_low bs h t) high)
        ]) refl)

    -- The presses for a line lead to it.
    pub line_leads : IfSome (line_presses d v t) (λ events. LeadTo d events (with_org d v t))
    line_leads = (elim (is_passable (rows_of d v) (way_in d v t)) as (λ (b : Bool).
        is_passable (rows_of d v) (way_in d v t) ≡ b
        → IfSome (if b then Some (way_presses d v (way_in d v t)) else None) (λ events. LeadTo d events (with_org d v t))) [
          | true ↦ λ is. way_leads (ltb-true 1 (rows_of d v) (and_parts _ _ is).0)
          | false ↦ λ is. tt
        ]) refl

  wish_leads : (wish : Wish)
      → IfSome (line_presses d v (wished_in d v wish)) (λ events. LeadTo d events (with_org d v (wished_in d v wish)))
  unfolding wished_in
  wish_leads wish =
      let bs = bytes_of (main_of d v) in
      let org : ℕ = (viewer_of d v).org in
      let long : length bs ≡ length (main_of d v) = length-map (main_of d v) (λ (c : ℕ × Look). c.0) in
      let found = is_there (viewer_in d.viewers v) bare_viewer there in
      let low = (sound.shaped.viewers.each v (viewer_of d v) found).org in
      line_leads (wished bs (rows_of d v) org wish) (wished_within bs (rows_of d v) org wish (omega (arith, long, low)))
      (wished_begins bs (rows_of d v) org wish)

-- ---- the theorem of scrolling

module _ (d : Desktop) (sound : IsSound d) where
  seen_shown : (found : Option ℕ) (x y : ℕ) → seen_at d.columns x y ≡ found → IfSome found (λ v. IsOnTop v d.columns)
  seen_shown None x y is = tt
  seen_shown (Some v) x y is = (seen_placed d.columns v x y sound.shaped.places.columns_hold is).placed

  at_cell : (b : Bool) (x y : ℕ)
      → IfSome (if b then seen_at d.columns x y else None) (λ v. IsOnTop v d.columns)
  at_cell true x y = seen_shown (seen_at d.columns x y) x y refl
  at_cell false x y = tt

  with_caret_shown : (caret : Option Caret) → d.caret ≡ caret
      → IfSome (option_map (λ (c : Caret). c.viewer) caret) (λ v. IsOnTop v d.columns)
  with_caret_shown None is = tt
  with_caret_shown (Some c) is = (sound.shaped.marks.caret_stands c is).placed

  pub meant_shown : (at : Option (ℕ × ℕ)) → IfSome (viewer_meant d at) (λ v. IsOnTop v d.columns)
  unfolding viewer_meant
  meant_shown None = with_caret_shown d.caret refl
  meant_shown (Some cell) = at_cell (is_on_display cell.0 cell.1) cell.0 cell.1

  leads_in : (wish : Wish) (meant : Option ℕ) → IfSome meant (λ v. IsOnTop v d.columns)
      → IfSome meant (λ v. IfSome (presses_in d wish meant) (λ events. LeadTo d events (with_org d v (wished_in d v wish))))
  leads_in wish None shown = tt
  leads_in wish (Some v) shown = wish_leads d v sound shown wish

  -- The presses for a wish scroll.
  pub presses_scroll : (at : Option (ℕ × ℕ)) (wish : Wish) → Scrolls d at wish (presses_to d at wish)
  unfolding presses_to
  presses_scroll at wish = record { exact = refl; lead = leads_in wish (viewer_meant d at) (meant_shown at) }

  pub told_scroll : (at : Option (ℕ × ℕ)) (wish : Wish) (told : Option (List Event)) → told ≡ presses_to d at wish
      → Scrolls d at wish told
  told_scroll at wish told is =
      subst (λ (o : Option (List Event)). Scrolls d at wish o) (sym is) (presses_scroll at wish)
