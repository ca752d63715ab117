-- Parts of an event leave a desktop in shape: what changes texts, frames and marks, and opens or closes no viewer.
use Rattle.std.specs.Prelude.{◌≡◌, ◌<◌, ◌≤◌, ℕ, zero, suc, ◌+◌, ◌-◌, ◌/◌, ◌==◌, ◌&&◌, nat_le, nat_lt, Bool, true, false}
use Rattle.std.specs.Prelude.{IfSome, if◌then◌else◌, List, [], ◌∷◌, length, get_or, Option, Some, None, IsSome, fold}
use Rattle.std.specs.Option.{unwrap_or}
use Rattle.std.specs.List.{AllByRecursion}
use Rattle.std.specs.Map.{keys_of, set_value}
use Rattle.std.specs.Ordering.{nat_cmp}
use Rattle.std.specs.BTreeMap.{is_at}
use Rattle.std.proofs.Common.{refl, sym, ap, subst, ◌∙◌, arith}
use Rattle.std.proofs.lemmas.Bool.{ltb-true, leb-true, eqb-true, eqb-false, and_parts}
use Rattle.std.proofs.lemmas.List.{length-map}
use Rattle.std.proofs.lemmas.List.Elements.{All-map}
use Rattle.std.proofs.lemmas.Map.Views.{IfSome-lookup_from_All}
use Rattle.piece_ring.specs.Look.{default_look}
use Rattle.piece_ring.specs.declared.piece.Look.{Look}
use Rattle.piece_ring.proofs.Lengths.{length-inserted, length-deleted, length-looks_changed}
use Rattle.piece_ring.specs.Text.{Text, inserted, deleted, looks_changed}
use Rattle.viewer_tracks.specs.Columns.{Columns, IsPlaced, IsOnTop, times_placed}
use Rattle.text_frames.specs.Lines.{line_start, line_above, begins_line}
use Rattle.text_frames.specs.Rules.{moved_position, changed_org, is_in_rows as line_shown, shown_org}
use Rattle.text_frames.proofs.Greatest.{greatest_within}
use Rattle.desktop_definitions.specs.declared.viewer.Viewer.{Viewer}
use Rattle.desktop_definitions.specs.declared.viewer.Caret.{Caret}
use Rattle.desktop_definitions.specs.declared.viewer.Selection.{Selection}
use Rattle.desktop_definitions.specs.Tables.{text_numbered, with_values}
use Rattle.desktop_definitions.specs.Desktop.{Desktop}
use Rattle.desktop_definitions.specs.Viewers.{viewer_of, viewer_or_none, text_in, text_of, main_of, main_length, shows}
use Rattle.desktop_definitions.specs.Viewers.{rows_of, with_caret, selected, newest}
use Rattle.desktop_definitions.specs.Change.{bytes_of, plain_text, in_look, edited, following_viewer, after_change, insertion}
use Rattle.desktop_definitions.specs.Change.{deletion}
use Rattle.desktop_definitions.specs.Change.{looks_set, showing, caret_shown, put_in, put_at_caret, cut_out}
use Rattle.desktop_definitions.specs.Change.{more_written}
use Rattle.desktop_definitions.specs.Log.{log_shown, logged, all_logged}
use Rattle.desktop_definitions.specs.Sound.{IsShaped, IsCaretPlaced, IsSelection}
use Rattle.desktop_definitions.specs.Looks.{IsLook, AreLooks}
use Rattle.desktop_definitions.proofs.ChangeLaws.{followed_shown}
use Rattle.desktop_definitions.proofs.EditLaws.{edited_shaped, with_org_shaped, with_caret_shaped, with_selection_shaped}
use Rattle.desktop_definitions.proofs.EditLaws.{stays_moved}
use Rattle.desktop_definitions.proofs.LookedLaws.{written_shaped, inserted_looks, deleted_looks, looks_changed_looks}
use Rattle.desktop_definitions.proofs.LookedLaws.{stretch_looks, no_looks, default_is_look}
use Rattle.desktop_definitions.proofs.PlaceLaws.{on_top_placed}
use Rattle.desktop_definitions.proofs.OpeningOnLaws.{viewer_can}
use Rattle.desktop_definitions.proofs.RowLaws.{main_seen, same_main}
use Rattle.desktop_definitions.proofs.RowPartLaws.{last_holds}
use Rattle.desktop_definitions.proofs.ShapeLaws.{OrgsWithin, orgs_within, set_same}
use Rattle.desktop_definitions.specs.DeskWords.{IsMoved}

-- ---- positions

above_within : (bs : List ℕ) (n p : ℕ) → line_above bs n p ≤ p
above_within bs zero p = greatest_within (begins_line bs) p
above_within bs (suc n) p =
    let rest = above_within bs n (line_start bs p - 1) in
    let start = greatest_within (begins_line bs) p in
    omega (arith, rest, start)

-- the first position shown stays within the text
shown_within : (bs : List ℕ) (h p org long : ℕ) → p ≤ long → org ≤ long → shown_org bs h p org ≤ long
shown_within bs h p org long low within = elim (line_shown bs h org p) as
    (λ b. (if b then org else line_above bs (h / 2) p) ≤ long) [
      | true ↦ within
      | false ↦ (let above = above_within bs (h / 2) p in omega (arith, above, low))
    ]

changed_within : (bs : List ℕ) (p more fewer org size long : ℕ) → size + fewer ≡ long + more → p ≤ size → org ≤ long
    → changed_org bs p more fewer org ≤ size
changed_within bs p more fewer org size long sum low within = (elim (nat_le org p) as (λ b. nat_le org p ≡ b
    → (if b then org else line_start bs (moved_position p more fewer org)) ≤ size) [
      | true ↦ λ is. (let le = leb-true org p is in omega (arith, le, low))
      | false ↦ λ is. (let start = greatest_within (begins_line bs) (moved_position p more fewer org) in
          let at : moved_position p more fewer org ≤ size = by_test (fewer == 0) refl in omega (arith, start, at))
    ]) refl where
      by_test : (b : Bool) → (fewer == 0) ≡ b → moved_position p more fewer org ≤ size
      by_test true is = let none = eqb-true fewer 0 is in
          subst (λ c. (if c then org + more else (if nat_lt org (p + fewer) then p else org - fewer)) ≤ size) (sym is)
          (let le : org + more ≤ size = omega (arith, none, sum, within) in le)
      by_test false is =
          subst (λ c. (if c then org + more else (if nat_lt org (p + fewer) then p else org - fewer)) ≤ size) (sym is)
          (elim (nat_lt org (p + fewer)) as (λ b. (if b then p else org - fewer) ≤ size) [
            | true ↦ low
            | false ↦ (let le : org - fewer ≤ size = omega (arith, sum, within) in le)
          ])

-- ---- frames follow their text

module _ (n p more fewer size long : ℕ) (bs : List ℕ) (sum : size + fewer ≡ long + more) (low : p ≤ size) where
  follows : (e : ℕ × Viewer) → (e.1.main ≡ n → e.1.org ≤ long)
      → IsMoved n size e (e.0, following_viewer n bs p more fewer e.1)
  follows e within = (elim (e.1.main == n) as (λ b. (e.1.main == n) ≡ b → IsMoved n size e
      (e.0, if b then record e.1 { org = changed_org bs p more fewer e.1.org } else e.1)) [
        | true ↦ λ is. record {
          id = refl;
          menu = refl;
          main = refl;
          other = λ other. absurd (other (eqb-true e.1.main n is));
          org = λ same. changed_within bs p more fewer e.1.org size long sum low (within same);
        }
        | false ↦ λ is. record {
          id = refl;
          menu = refl;
          main = refl;
          other = λ other. refl;
          org = λ same. absurd (eqb-false e.1.main n is same);
        }
      ]) refl

  all_follow : (viewers : List (ℕ × Viewer)) → AllByRecursion (λ e. e.1.main ≡ n → e.1.org ≤ long) viewers
      → (k : ℕ) (d : ℕ × Viewer) → k < length viewers
      → IsMoved n size (get_or viewers k d) (get_or (with_values (following_viewer n bs p more fewer) viewers) k d)
  all_follow [] within k d few = absurd (omega (arith, few))
  all_follow (e ∷ es) within zero d few = follows e within.0
  all_follow (e ∷ es) within (suc k) d few = all_follow es within.1 k d (omega (arith, few))

orgs_of : (n : ℕ) (long : ℕ → ℕ) (viewers : List (ℕ × Viewer)) → OrgsWithin long viewers
    → AllByRecursion (λ e. e.1.main ≡ n → e.1.org ≤ long n) viewers
orgs_of n long [] within = tt
orgs_of n long (e ∷ es) within =
    ((λ same. subst (λ m. e.1.org ≤ long m) same within.0), orgs_of n long es within.1)

module _ (d : Desktop) (shaped : IsShaped d) where
  change_shaped : (n : ℕ) (text : Text ℕ) (p more fewer : ℕ) → IsSome (text_numbered d.texts n) → AreLooks text
      → length text + fewer ≡ length (text_of d n) + more → p ≤ length text
      → IsShaped (after_change d n text p more fewer)
  unfolding after_change
  change_shaped n text p more fewer there looks sum low =
      let viewers : List (ℕ × Viewer) = with_values (following_viewer n (bytes_of text) p more fewer) d.viewers in
      let within = orgs_of n (λ m. length (text_in d.texts m)) d.viewers
      (orgs_within d.texts d.viewers shaped.viewers) in
      edited_shaped d n text viewers there
      (record {
        as_long = length-map d.viewers (λ (e : ℕ × Viewer). (e.0, following_viewer n (bytes_of text) p more fewer e.1));
        each = all_follow n p more fewer (length text) (length (text_of d n)) (bytes_of text) sum low d.viewers within;
      }) shaped looks

  pub insertion_shaped : (n p : ℕ) (more : Text ℕ) → IsSome (text_numbered d.texts n) → p ≤ length (text_of d n)
      → AreLooks more → AreLooks (text_of d n) → IsShaped (insertion d n p more)
  unfolding insertion
  insertion_shaped n p [] there low looks others = shaped
  insertion_shaped n p (c ∷ more) there low looks others =
      let long = length-inserted p (c ∷ more) (text_of d n) in
      change_shaped n (inserted p (c ∷ more) (text_of d n)) p (length (c ∷ more)) 0 there
      (inserted_looks p (c ∷ more) (text_of d n) looks others) (omega (arith, long)) (omega (arith, long, low))

  pub deletion_shaped : (n p q : ℕ) → IsSome (text_numbered d.texts n) → q ≤ length (text_of d n)
      → AreLooks (text_of d n) → IsShaped (deletion d n p q)
  unfolding deletion
  deletion_shaped n p q there low others = (elim (nat_lt p q) as (λ b. nat_lt p q ≡ b
      → IsShaped (if b then after_change d n (deleted p q (text_of d n)) p 0 (q - p) else d)) [
        | true ↦ λ is. (let some = ltb-true p q is in
            let long = length-deleted p q (text_of d n) (omega (arith, some)) low in
            change_shaped n (deleted p q (text_of d n)) p 0 (q - p) there (deleted_looks p q (text_of d n) others)
            (omega (arith, long, some)) (omega (arith, long, some, low)))
        | false ↦ λ is. shaped
      ]) refl

  -- ---- what a viewer on the display shows

  pub main_there : (v : ℕ) → IsPlaced v d.columns → IsSome (text_numbered d.texts (viewer_of d v).main)
  main_there v placed = main_seen d shaped.viewers shaped.places v placed

  pub showing_shaped : (v p : ℕ) → IsPlaced v d.columns → p ≤ length (main_of d v) → IsShaped (showing d v p)
  unfolding showing
  showing_shaped v p placed low = with_org_shaped d shaped v _
      (shown_within (bytes_of (main_of d v)) (rows_of d v) p (viewer_of d v).org (length (main_of d v)) low
      (viewer_can d v shaped placed).within)

pub caret_shown_shaped : (d : Desktop) → IsShaped d → (v p : ℕ) → IsOnTop v d.columns → p ≤ length (main_of d v)
    → IsShaped (caret_shown d v p)
caret_shown_shaped d shaped v p placed low =
    showing_shaped (with_caret d v p) (with_caret_shaped d shaped v p placed low) v p
    (on_top_placed d.columns v placed) low

-- ---- looks of what is put in

pub in_look_looks : (look : Look) (bytes : List ℕ) → IsLook look → AreLooks (in_look look bytes)
in_look_looks look bytes is = All-map (λ c. IsLook c.1) (λ (b : ℕ). (b, look)) bytes (λ i b low. is)

pub plain_looks : (bytes : List ℕ) → AreLooks (plain_text bytes)
plain_looks bytes = in_look_looks default_look bytes default_is_look

found_looks : (o : Option (Text ℕ)) → IfSome o AreLooks → AreLooks (unwrap_or o [])
found_looks None is = no_looks
found_looks (Some text) is = is

pub text_looks : (d : Desktop) → IsShaped d → (n : ℕ) → AreLooks (text_of d n)
text_looks d shaped n = found_looks (text_numbered d.texts n)
    (IfSome-lookup_from_All AreLooks (is_at (nat_cmp n)) d.texts shaped.looks.texts)

-- ---- what a viewer shows after a change of its text

changed_main : (d : Desktop) (n : ℕ) (text : Text ℕ) (p more fewer v : ℕ) → IsSome (text_numbered d.texts n)
    → (viewer_of d v).main ≡ n → main_of (after_change d n text p more fewer) v ≡ text
unfolding after_change
changed_main d n text p more fewer v there is =
    let viewers : List (ℕ × Viewer) = with_values (following_viewer n (bytes_of text) p more fewer) d.viewers in
    let number : (viewer_or_none viewers v).main ≡ n = same_main d.viewers viewers v
    (followed_shown n (bytes_of text) p more fewer d.viewers) ∙ is in
    ap (λ (m : ℕ). text_in (set_value (is_at (nat_cmp n)) d.texts text) m) number
    ∙ ap (λ (o : Option (Text ℕ)). unwrap_or o []) (set_same d.texts n text there)

change_columns : (d : Desktop) (n : ℕ) (text : Text ℕ) (p more fewer : ℕ)
    → (after_change d n text p more fewer).columns ≡ d.columns
unfolding after_change
change_columns d n text p more fewer = refl

pub insertion_columns : (d : Desktop) (n p : ℕ) (more : Text ℕ) → (insertion d n p more).columns ≡ d.columns
unfolding insertion
insertion_columns d n p [] = refl
insertion_columns d n p (c ∷ more) = change_columns d n (inserted p (c ∷ more) (text_of d n)) p (length (c ∷ more)) 0

pub insertion_long : (d : Desktop) (p : ℕ) (more : Text ℕ) (v : ℕ) → IsSome (text_numbered d.texts (viewer_of d v).main)
    → length (main_of (insertion d (viewer_of d v).main p more) v) ≡ length (main_of d v) + length more
unfolding insertion
insertion_long d p [] v there = omega arith
insertion_long d p (c ∷ more) v there =
    let n : ℕ = (viewer_of d v).main in
    ap length (changed_main d n (inserted p (c ∷ more) (text_of d n)) p (length (c ∷ more)) 0 v there refl)
    ∙ length-inserted p (c ∷ more) (text_of d n)

pub deletion_columns : (d : Desktop) (n p q : ℕ) → (deletion d n p q).columns ≡ d.columns
unfolding deletion
deletion_columns d n p q = elim (nat_lt p q) as
    (λ b. (if b then after_change d n (deleted p q (text_of d n)) p 0 (q - p) else d).columns ≡ d.columns) [
      | true ↦ change_columns d n (deleted p q (text_of d n)) p 0 (q - p)
      | false ↦ refl
    ]

-- where the stretch began is within the text still
pub deletion_low : (d : Desktop) (p q v : ℕ) → IsSome (text_numbered d.texts (viewer_of d v).main)
    → p ≤ q → q ≤ length (main_of d v) → p ≤ length (main_of (deletion d (viewer_of d v).main p q) v)
unfolding deletion
deletion_low d p q v there order low =
    let n : ℕ = (viewer_of d v).main in
    elim (nat_lt p q) as (λ b. p ≤ length
    (main_of (if b then after_change d n (deleted p q (text_of d n)) p 0 (q - p) else d) v)) [
      | true ↦ (let long = length-deleted p q (text_of d n) order low in
          let now = ap length (changed_main d n (deleted p q (text_of d n)) p 0 (q - p) v there refl) in
          omega (arith, long, now, order, low))
      | false ↦ omega (arith, order, low)
    ]

-- ---- characters that are put in and taken out

module _ (d : Desktop) (shaped : IsShaped d) where
  pub put_in_shaped : (v p : ℕ) (more : Text ℕ) → IsOnTop v d.columns → p ≤ length (main_of d v) → AreLooks more
      → IsShaped (put_in d v p more)
  put_in_shaped v p more placed low looks =
      let n : ℕ = (viewer_of d v).main in
      let there = main_there d shaped v (on_top_placed d.columns v placed) in
      let long = insertion_long d p more v there in
      caret_shown_shaped (insertion d n p more)
      (insertion_shaped d shaped n p more there low looks (text_looks d shaped n)) v (p + length more)
      (subst (λ (c : Columns). IsOnTop v c) (sym (insertion_columns d n p more)) placed)
      (omega (arith, long, low))

  -- the caret stands in a viewer on the display
  pub put_at_caret_shaped : (more : Text ℕ) (c : Caret) → IsCaretPlaced d.columns (main_length d.texts d.viewers) c
      → AreLooks more → IsShaped (put_at_caret d more c)
  put_at_caret_shaped [] c stands looks = shaped
  put_at_caret_shaped (first ∷ more) c stands looks =
      put_in_shaped c.viewer c.position (first ∷ more) stands.placed stands.within looks

  pub taken_shaped : (v p q : ℕ) → IsOnTop v d.columns → p ≤ q → q ≤ length (main_of d v)
      → IsShaped (caret_shown (deletion d (viewer_of d v).main p q) v p)
  taken_shaped v p q placed order low =
      let n : ℕ = (viewer_of d v).main in
      let there = main_there d shaped v (on_top_placed d.columns v placed) in
      caret_shown_shaped (deletion d n p q)
      (deletion_shaped d shaped n p q there low (text_looks d shaped n)) v p
      (subst (λ (c : Columns). IsOnTop v c) (sym (deletion_columns d n p q)) placed)
      (deletion_low d p q v there order low)

  pub cut_out_shaped : (s : Selection) → IsSelection d.columns (main_length d.texts d.viewers) s
      → IsShaped (cut_out d s)
  cut_out_shaped s stands =
      let some = stands.some in taken_shaped s.viewer s.beg s.end stands.placed (omega (arith, some)) stands.within

  -- ---- looks of a stretch

  pub looks_set_shaped : (s : Selection) (selector : ℕ) (look : Look)
      → IsSelection d.columns (main_length d.texts d.viewers) s → IsLook look
      → IsShaped (looks_set d s selector look)
  unfolding looks_set
  looks_set_shaped s selector look stands is =
      let n : ℕ = (viewer_of d s.viewer).main in
      let some = stands.some in
      let text : Text ℕ = looks_changed s.beg s.end selector look (text_of d n) in
      let there = main_there d shaped s.viewer (on_top_placed d.columns s.viewer stands.placed) in
      let long : length text ≡ length (text_of d n) = length-looks_changed s.beg s.end selector look (text_of d n)
      (omega (arith, some)) stands.within in
      let now : text_in (set_value (is_at (nat_cmp n)) d.texts text) n ≡ text =
      ap (λ (o : Option (Text ℕ)). unwrap_or o []) (set_same d.texts n text there) in
      let same = ap length now in
      let within = stands.within in
      with_selection_shaped (edited d n text d.viewers) s
      (edited_shaped d n text d.viewers there
      (stays_moved n (length text) (λ m. length (text_in d.texts m)) (omega (arith, long)) d.viewers
      (orgs_within d.texts d.viewers shaped.viewers)) shaped
      (looks_changed_looks s.beg s.end selector look (text_of d n) is (text_looks d shaped n)))
      (record { placed = stands.placed; some = stands.some; within = omega (arith, same, long, within) })

  pub selected_looks : (s : Selection) → AreLooks (selected d s)
  selected_looks s = stretch_looks s.beg s.end (main_of d s.viewer) (text_looks d shaped (viewer_of d s.viewer).main)

  pub newest_stands : (s : Selection) → newest d ≡ Some s → IsSelection d.columns (main_length d.texts d.viewers) s
  newest_stands s is = last_holds (IsSelection d.columns (main_length d.texts d.viewers)) None d.selections s
      (λ z none. absurd (cc none)) shaped.marks.all_stand is

-- ---- lines of the log

log_shown_shaped : (d : Desktop) (v : ℕ) → IsShaped d → IsShaped (log_shown d v)
log_shown_shaped d v shaped = (elim (shows d 0 v && nat_lt 0 (times_placed v d.columns)) as
    (λ b. (shows d 0 v && nat_lt 0 (times_placed v d.columns)) ≡ b
    → IsShaped (if b then showing d v (length (text_of d 0)) else d)) [
      | true ↦ λ is. (let both = and_parts _ _ is in
          let log : (viewer_of d v).main ≡ 0 = eqb-true (viewer_of d v).main 0 both.0 in
          showing_shaped d shaped v (length (text_of d 0)) (ltb-true 0 (times_placed v d.columns) both.1)
          (let same = ap (λ m. length (text_of d m)) log in omega (arith, same)))
      | false ↦ λ is. shaped
    ]) refl

pub fold_keeps : {A B : Type 0} (P : A → Type 0) (f : A → B → A) → ((a : A) (b : B) → P a → P (f a b))
    → (bs : List B) (a : A) → P a → P (fold f a bs)
fold_keeps P f keep [] a is = is
fold_keeps P f keep (b ∷ bs) a is = fold_keeps P f keep bs (f a b) (keep a b is)

pub logged_shaped : (d : Desktop) (line : List ℕ) → IsShaped d → IsShaped (logged d line)
unfolding logged
logged_shaped d line shaped =
    let now : Desktop = more_written (insertion d 0 (length (text_of d 0)) (plain_text line)) (length line) in
    fold_keeps IsShaped log_shown log_shown_shaped (keys_of now.viewers) now
    (written_shaped _ (insertion_shaped d shaped 0 (length (text_of d 0)) (plain_text line) shaped.viewers.log
    (omega arith) (plain_looks line) (text_looks d shaped 0)))

pub all_logged_shaped : (d : Desktop) (lines : List (List ℕ)) → IsShaped d → IsShaped (all_logged d lines)
unfolding all_logged
all_logged_shaped d lines shaped = fold_keeps IsShaped logged logged_shaped lines d shaped
