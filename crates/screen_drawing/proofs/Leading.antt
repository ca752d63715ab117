-- What a writer took leads grids from one state to another.
use Rattle.std.proofs.Common.{◌≡◌, ◌<◌, ◌+◌, ◌≤◌, ℕ, List, [], ◌∷◌, ◌++◌, refl, ap, sym, ◌∙◌, arith, length, get_or}
use Rattle.std.proofs.Common.{Option, Some}
use Rattle.std.proofs.Common.{true, false, None, subst, below_more, append_assoc, replicate, suc, zero, cond, nat_eq}
use Rattle.std.proofs.Common.{◌-◌, append-nil, nat_lt, Bool}
use Rattle.std.proofs.lemmas.Bool.Decides.{nat_tests}
use Rattle.std.specs.Prelude.{◌&&◌, unwrap_or}
use Rattle.std.proofs.lemmas.Bool.{eqb-true}
use Rattle.std.proofs.lemmas.List.{length-replicate, get_or-replicate}
use Rattle.std.proofs.lemmas.List.FromFn.{get_or-map-range_with_len, length-map-range_with_len}
use Rattle.std.proofs.lemmas.List.FromFn.{map-range_with_len_more}
use Rattle.std.specs.Io.KnownBytes.{Appends, Keeps}
use Rattle.std.proofs.KnownBytes.{Appends-nil, Appends-trans, Appends-kept}
use Rattle.byte_streams.specs.Sent.{AppendsFront}
use Rattle.byte_streams.proofs.Taking.{front_part}
use Rattle.screen_pictures.specs.Screen.{values}
use Rattle.screen_drawing.specs.declared.face.Face.{Face}
use Rattle.screen_drawing.specs.declared.scene.Scene.{Scene}
use Rattle.screen_drawing.specs.declared.operation.Operation.{Operation}
use Rattle.screen_drawing.specs.declared.operation.Operation.TheVariants.{Hide, Hold, Take, Wipe}
use Rattle.screen_drawing.specs.declared.pen.Pen.{Pen}
use Rattle.screen_drawing.specs.declared.pen.TheConstants.{WHITE}
use Rattle.screen_drawing.specs.Changes.{changes}
use Rattle.screen_drawing.specs.Scene.{IsCursorBy, IsCursorCell, pointer_in, scene_row, scene_rows, height_of}
use Rattle.screen_drawing.specs.Grid.{Grid, done}
use Rattle.screen_drawing.specs.Painting.{HasGridRoom, IsPainted, IsShown, Leads, Paints, PaintsFront}
use Rattle.screen_drawing.specs.Painting.{are_of_size, are_wide, beginning, begun_rows, ending, painting, rows_changes}
use Rattle.screen_drawing.specs.Pen.{blank_face, plain_pen}
use Rattle.screen_drawing.specs.Shows.{ShowsRows, ShowsFrom}
use Rattle.screen_drawing.specs.Spelling.{AreSendable, operation_bytes, spelled_all}
use Rattle.screen_drawing.proofs.Sendable.{ArePrintable, both_sendable, changes_sendable, row_long}
use Rattle.screen_drawing.proofs.Showing.{both as and_parts, done_both, least, moves, row_kept, row_shown, same_height, same_width}

-- the bytes of two lists, one after the other
both_spelled : (a b : List Operation) → spelled_all (a ++ b) ≡ spelled_all a ++ spelled_all b
both_spelled [] b = refl
both_spelled (o ∷ os) b =
    ap (λ l. operation_bytes o ++ l) (both_spelled os b) ∙ sym (append_assoc (operation_bytes o) (spelled_all os) (spelled_all b))

pub nothing_sent : (old : Option (List ℕ)) (operations : List Operation) → length operations ≡ 0
    → Appends old old (spelled_all operations)
nothing_sent old [] none = Appends-nil old
nothing_sent old (o ∷ os) none = absurd (omega (arith, none))

pub leads_none : (old : Option (List ℕ)) (P Q : Grid → Type 0) → ((g : Grid) → P g → Q g) → Leads [] old old P Q
leads_none old P Q same = record { sendable = tt; sent = Appends-nil old; led = same }

pub leads_on : (a b : List Operation) (old mid new : Option (List ℕ)) (P Q R : Grid → Type 0) → Leads a old mid P Q
    → Leads b mid new Q R → Leads (a ++ b) old new P R
leads_on a b old mid new P Q R first second = record {
  sendable = both_sendable a b first.sendable second.sendable;
  sent = subst (Appends old new) (sym (both_spelled a b))
      (Appends-trans old mid new (spelled_all a) (spelled_all b) first.sent second.sent);
  led = λ g p. subst R (sym (done_both a b g)) (second.led (done a g) (first.led g p));
}

pub leads_kept : (a : List Operation) (old mid new : Option (List ℕ)) (P Q : Grid → Type 0) → Leads a old mid P Q
    → Keeps mid new → Leads a old new P Q
leads_kept a old mid new P Q first kept = record {
  sendable = first.sendable;
  sent = Appends-kept old mid new (spelled_all a) first.sent kept;
  led = first.led;
}

pub leads_weaker : (a : List Operation) (old new : Option (List ℕ)) (P Q R : Grid → Type 0) → Leads a old new P Q
    → ((g : Grid) → Q g → R g) → Leads a old new P R
leads_weaker a old new P Q R first weaker = record {
  sendable = first.sendable;
  sent = first.sent;
  led = λ g p. weaker (done a g) (first.led g p);
}

-- rooms and rows of grids that differ in cursor and pen alone
pub room_after : (width rows : ℕ) (operations : List Operation) (g : Grid) → HasGridRoom width rows g
    → HasGridRoom width rows (done operations g)
room_after width rows operations g room =
    let wide : (done operations g).width ≡ g.width = same_width operations g in
    let high : (done operations g).height ≡ g.height = same_height operations g in
    record { wide = omega (arith, room.wide); high = omega (arith, room.high) }

pub shows_moved : (rows : List (List Face)) (g h : Grid) → ((x y : ℕ) → h.cells x y ≡ g.cells x y) → ShowsRows rows g
    → ShowsRows rows h
shows_moved rows g h same s = λ y within. moves (y + 1) 1 (get_or rows y []) g h (λ x l. same x (y + 1)) (s y within)

-- the beginning of a painting
pub begun : (width rows : ℕ) (known : List (List Face)) (g : Grid) → IsShown width rows known g
    → IsShown width rows known (done (beginning true) g)
begun width rows known g s = record {
  room = room_after width rows (beginning true) g s.room;
  shows = shows_moved known g (done (beginning true) g) (λ x y. refl) s.shows;
}

blank_from : (n row column : ℕ) (g : Grid) → ((x y : ℕ) → g.cells x y ≡ blank_face WHITE)
    → ShowsFrom row column (replicate n (blank_face WHITE)) g
blank_from zero row column g all = tt
blank_from (suc n) row column g all = (all column row, blank_from n row (column + 1) g all)

abbrev blank_rows : ℕ → ℕ → List (List Face)
blank_rows width rows = replicate rows (replicate width (blank_face WHITE))

pub wiped : (width rows : ℕ) (known : List (List Face)) (g : Grid) → IsShown width rows known g
    → IsShown width rows (blank_rows width rows) (done (beginning false) g)
wiped width rows known g s = record {
  room = room_after width rows (beginning false) g s.room;
  shows = λ y within.
      let blank_row : List Face = replicate width (blank_face WHITE) in
      let inside : y < rows = omega (arith, within, length-replicate rows blank_row) in
      subst (λ row. ShowsFrom (y + 1) 1 row (done (beginning false) g))
      (sym (get_or-replicate rows y blank_row [] inside))
      (blank_from width (y + 1) 1 (done (beginning false) g) (λ x y. refl));
}

pub known_rows : (width rows : ℕ) (known : List (List Face)) → are_of_size width rows known ≡ true
    → known ≡ begun_rows width rows known
known_rows width rows known same = sym (ap (λ b. cond b known (blank_rows width rows)) same)

pub other_rows : (width rows : ℕ) (known : List (List Face)) → are_of_size width rows known ≡ false
    → blank_rows width rows ≡ begun_rows width rows known
other_rows width rows known other = sym (ap (λ b. cond b known (blank_rows width rows)) other)

pub known_long : (width rows : ℕ) (known : List (List Face)) → are_of_size width rows known ≡ true
    → (length known ≡ rows) × (are_wide width known ≡ true)
unfolding are_of_size
known_long width rows known same =
    let (long, wide) = and_parts (nat_eq (length known) rows) (are_wide width known) same in
    (eqb-true (length known) rows long, wide)

pub blank_wide : (width rows : ℕ) → are_wide width (blank_rows width rows) ≡ true
blank_wide width zero = refl
blank_wide width (suc rows) =
    let same : nat_eq (length (replicate width (blank_face WHITE))) width ≡ true =
    grind (arith, length-replicate width (blank_face WHITE)) in
    λ i. same i && blank_wide width rows i

-- a row that is there, whatever stands for one that isn't
pub any_default : (known : List (List Face)) (y : ℕ) (row : List Face) → y < length known
    → get_or known y row ≡ get_or known y []
any_default [] y row within = absurd (omega (arith, within))
any_default (one ∷ known) zero row within = refl
any_default (one ∷ known) (suc y) row within = any_default known y row (omega (arith, within))

-- each of them has so many columns
pub row_wide : (width : ℕ) (known : List (List Face)) (y : ℕ) → are_wide width known ≡ true → y < length known
    → length (get_or known y []) ≡ width
row_wide width [] y wide within = absurd (omega (arith, within))
row_wide width (row ∷ known) zero wide within =
    eqb-true (length row) width (and_parts (nat_eq (length row) width) (are_wide width known) wide).0
row_wide width (row ∷ known) (suc y) wide within =
    row_wide width known y (and_parts (nat_eq (length row) width) (are_wide width known) wide).1 (omega (arith, within))

pub begun_known : (old new : Option (List ℕ)) (width rows : ℕ) (known : List (List Face))
    → are_of_size width rows known ≡ true → Appends old new (spelled_all (beginning true))
    → Leads (beginning (are_of_size width rows known)) old new (IsShown width rows known)
    (IsShown width rows (begun_rows width rows known))
begun_known old new width rows known same sent =
    subst (λ b. Leads (beginning b) old new (IsShown width rows known)
    (IsShown width rows (cond b known (blank_rows width rows)))) (sym same)
    (record { sendable = (tt, (tt, tt)); sent = sent; led = begun width rows known })

pub begun_blank : (old new : Option (List ℕ)) (width rows : ℕ) (known : List (List Face)) (pen : Pen)
    → are_of_size width rows known ≡ false → pen ≡ plain_pen WHITE
    → Appends old new (spelled_all (Hold ∷ Hide ∷ Take pen ∷ Wipe ∷ []))
    → Leads (beginning (are_of_size width rows known)) old new (IsShown width rows known)
    (IsShown width rows (begun_rows width rows known))
begun_blank old new width rows known pen other pen_is sent =
    subst (λ b. Leads (beginning b) old new (IsShown width rows known)
    (IsShown width rows (cond b known (blank_rows width rows)))) (sym other)
    (record {
      sendable = (tt, (tt, (tt, (tt, tt))));
      sent = subst (λ p. Appends old new (spelled_all (Hold ∷ Hide ∷ Take p ∷ Wipe ∷ []))) pen_is sent;
      led = wiped width rows known;
    })

pub begun_known_front : (old new : Option (List ℕ)) (width rows : ℕ) (known : List (List Face))
    → are_of_size width rows known ≡ true → AppendsFront old new (spelled_all (beginning true))
    → AppendsFront old new (spelled_all (beginning (are_of_size width rows known)))
begun_known_front old new width rows known same now =
    subst (λ b. AppendsFront old new (spelled_all (beginning b))) (sym same) now

pub begun_blank_front : (old new : Option (List ℕ)) (width rows : ℕ) (known : List (List Face)) (pen : Pen)
    → are_of_size width rows known ≡ false → pen ≡ plain_pen WHITE
    → AppendsFront old new (spelled_all (Hold ∷ Hide ∷ Take pen ∷ Wipe ∷ []))
    → AppendsFront old new (spelled_all (beginning (are_of_size width rows known)))
begun_blank_front old new width rows known pen other pen_is now =
    subst (λ b. AppendsFront old new (spelled_all (beginning b))) (sym other)
    (subst (λ p. AppendsFront old new (spelled_all (Hold ∷ Hide ∷ Take p ∷ Wipe ∷ []))) pen_is now)

-- the first y rows are new and the others old
pub record IsBetween (width rows y : ℕ) (new old : ℕ → List Face) (g : Grid) : Type 0 where
  pub room : HasGridRoom width rows g
  pub above : (k : ℕ) → k < y → ShowsFrom (k + 1) 1 (new k) g
  pub below : (k : ℕ) → y ≤ k → k < rows → ShowsFrom (k + 1) 1 (old k) g

pub none_new : (width rows : ℕ) (new : ℕ → List Face) (olds : List (List Face)) (g : Grid) → length olds ≡ rows
    → IsShown width rows olds g → IsBetween width rows 0 new (λ k. get_or olds k []) g
none_new width rows new olds g long s = record {
  room = s.room;
  above = λ k h. absurd (omega (arith, h));
  below = λ k from within. s.shows k (omega (arith, within));
}

pub all_new : (width rows y : ℕ) (new old : ℕ → List Face) (g : Grid) → rows ≤ y → IsBetween width rows y new old g
    → IsShown width rows (values rows new) g
unfolding values
all_new width rows y new old g past s = record {
  room = s.room;
  shows = λ k within.
      let inside : k < rows = omega (arith, within, length-map-range_with_len new 0 rows) in
      subst (λ row. ShowsFrom (k + 1) 1 row g)
      (sym (get_or-map-range_with_len new 0 rows k k [] inside (omega arith))) (s.above k (omega arith));
}

pub no_values : {X : Type 0} (f : ℕ → X) → values 0 f ≡ []
unfolding values
no_values f = refl

pub values_long : {X : Type 0} (f : ℕ → X) (n : ℕ) → length (values n f) ≡ n
unfolding values
values_long f n = length-map-range_with_len f 0 n

pub values_more : {X : Type 0} (f : ℕ → X) (n : ℕ) → values (n + 1) f ≡ values n f ++ f n ∷ []
unfolding values
values_more f n = map-range_with_len_more f 0 n n (omega arith)

pub one_new : (width rows y : ℕ) (new old : ℕ → List Face) (g : Grid) → y < rows → length (old y) ≡ width
    → length (new y) ≡ width → IsBetween width rows y new old g
    → IsBetween width rows (y + 1) new old (done (changes (y + 1) (old y) (new y)) g)
one_new width rows y new old g within old_long new_long s =
    let next : Grid = done (changes (y + 1) (old y) (new y)) g in
    let wide : length (new y) ≤ g.width = omega (arith, s.room.wide) in
    let high : y + 1 ≤ g.height = omega (arith, s.room.high) in
    let others = λ (k : ℕ) (differs : k ≡ y → ⊥) (fs : List Face) (shows : ShowsFrom (k + 1) 1 fs g).
    moves (k + 1) 1 fs g next
    (λ x l. row_kept (y + 1) (old y) (new y) g x (k + 1) wide high (λ e. absurd (differs (omega (arith, e))))) shows in
    record {
      room = room_after width rows (changes (y + 1) (old y) (new y)) g s.room;
      above = below_more (λ k. ShowsFrom (k + 1) 1 (new k) next) y
          (λ k h. others k (λ e. omega (arith, h, e)) (new k) (s.above k h))
          (row_shown (y + 1) (old y) (new y) g (old_long ∙ sym new_long) wide high
          (s.below y (omega arith) within));
      below = λ k from inside. others k (λ e. omega (arith, from, e)) (old k) (s.below k (omega arith) inside);
    }

no_changes : (olds news : ℕ → List Face) → rows_changes 0 olds news ≡ []
unfolding rows_changes
no_changes olds news = refl

more_changes : (n : ℕ) (olds news : ℕ → List Face)
    → rows_changes (suc n) olds news ≡ rows_changes n olds news ++ changes (n + 1) (olds n) (news n)
unfolding rows_changes
more_changes n olds news = refl

pub next_changes : (n : ℕ) (olds news : ℕ → List Face)
    → rows_changes (n + 1) olds news ≡ rows_changes n olds news ++ changes (n + 1) (olds n) (news n)
next_changes n olds news =
    let next : n + 1 ≡ suc n = omega arith in
    ap (λ m. rows_changes m olds news) next ∙ more_changes n olds news

-- no row was painted, and one more
pub rows_led_none : (old : Option (List ℕ)) (width rows : ℕ) (news : ℕ → List Face) (olds : List (List Face))
    → length olds ≡ rows
    → Leads (rows_changes 0 (λ k. get_or olds k []) news) old old (IsShown width rows olds)
    (IsBetween width rows 0 news (λ k. get_or olds k []))
rows_led_none old width rows news olds long =
    subst (λ l. Leads l old old (IsShown width rows olds) (IsBetween width rows 0 news (λ k. get_or olds k [])))
    (sym (no_changes (λ k. get_or olds k []) news))
    (leads_none old (IsShown width rows olds) (IsBetween width rows 0 news (λ k. get_or olds k []))
    (λ g shown. none_new width rows news olds g long shown))

pub rows_led_all : (old new : Option (List ℕ)) (width rows y : ℕ) (news : ℕ → List Face) (olds : List (List Face)) → y ≡ rows
    → Leads (rows_changes y (λ k. get_or olds k []) news) old new (IsShown width rows olds)
    (IsBetween width rows y news (λ k. get_or olds k []))
    → Leads (rows_changes rows (λ k. get_or olds k []) news) old new (IsShown width rows olds)
    (IsShown width rows (values rows news))
rows_led_all old new width rows y news olds past goes =
    let changed = rows_changes rows (λ k. get_or olds k []) news in
    leads_weaker changed old new (IsShown width rows olds) (IsBetween width rows y news (λ k. get_or olds k []))
    (IsShown width rows (values rows news))
    (subst (λ n. Leads (rows_changes n (λ k. get_or olds k []) news) old new (IsShown width rows olds)
    (IsBetween width rows y news (λ k. get_or olds k []))) past goes)
    (λ g between. all_new width rows y news (λ k. get_or olds k []) g (omega arith) between)

pub row_led : (old mid new : Option (List ℕ)) (P : Grid → Type 0) (width rows y : ℕ) (news olds : ℕ → List Face)
    (row old_row : List Face) (sent : List Operation) → rows ≤ 33 → width ≤ 80 → y < rows → row ≡ news y → old_row ≡ olds y
    → length old_row ≡ width → length row ≡ width → ArePrintable (news y) → sent ≡ changes (y + 1) old_row row
    → Appends mid new (spelled_all sent) → Leads (rows_changes y olds news) old mid P (IsBetween width rows y news olds)
    → Leads (rows_changes (y + 1) olds news) old new P (IsBetween width rows (y + 1) news olds)
row_led old mid new P width rows y news olds row old_row sent few narrow within row_is old_is old_long long printable is taken
    before =
    let operations : List Operation = changes (y + 1) (olds y) (news y) in
    let same : sent ≡ operations = is ∙ (λ i. changes (y + 1) (old_is i) (row_is i)) in
    let short : length (news y) ≤ 80 = omega (arith, ap length row_is, long, narrow) in
    let low : y + 1 < 256 = omega arith in
    let this : Leads operations mid new (IsBetween width rows y news olds) (IsBetween width rows (y + 1) news olds) = record {
      sendable = changes_sendable (y + 1) (olds y) (news y) low short printable;
      sent = subst (λ l. Appends mid new (spelled_all l)) same taken;
      led = λ g between. one_new width rows y news olds g within (sym (ap length old_is) ∙ old_long)
          (sym (ap length row_is) ∙ long) between;
    } in
    subst (λ l. Leads l old new P (IsBetween width rows (y + 1) news olds)) (sym (next_changes y olds news))
    (leads_on (rows_changes y olds news) operations old mid new P (IsBetween width rows y news olds)
    (IsBetween width rows (y + 1) news olds) before this)

-- the cursor is within what is in sight
abbrev IsWithin : Scene → ℕ × ℕ → Type 0
IsWithin scene place = (place.0 < scene.columns) × (place.1 < scene.rows)

within_by : (scene : Scene) (seen : Bool) (at place : ℕ × ℕ) → (seen ≡ true → IsWithin scene at)
    → IsCursorBy (cond seen (Some at) None) scene (Some place) → IsWithin scene place
within_by scene true at place within stands =
    let same : place ≡ at = ap (λ (o : Option (ℕ × ℕ)). unwrap_or o at) stands in
    subst (λ (p : ℕ × ℕ). IsWithin scene p) (sym same) (within refl)
within_by scene false at place within stands = (stands.0, stands.1)

seen_within : (scene : Scene) (at : ℕ × ℕ) → nat_lt at.0 scene.columns && nat_lt at.1 scene.rows ≡ true → IsWithin scene at
seen_within scene at is =
    let (wide, high) = and_parts (nat_lt at.0 scene.columns) (nat_lt at.1 scene.rows) is in
    (grind (arith, nat_tests), grind (arith, nat_tests))

cursor_by : (scene : Scene) (pointer : Option (ℕ × ℕ)) (place : ℕ × ℕ)
    → IsCursorBy (pointer_in scene.columns scene.rows pointer) scene (Some place) → IsWithin scene place
unfolding pointer_in
cursor_by scene None place stands = (stands.0, stands.1)
cursor_by scene (Some at) place stands =
    within_by scene (nat_lt at.0 scene.columns && nat_lt at.1 scene.rows) at place (seen_within scene at) stands

cursor_in_sight : (scene : Scene) (place : ℕ × ℕ) → IsCursorCell scene (Some place)
    → IsWithin scene place
cursor_in_sight scene place stands = cursor_by scene scene.pointer place stands

-- the end of a painting
pub ended : (scene : Scene) (caret : Option (ℕ × ℕ)) (g : Grid) → scene.rows ≤ height_of scene
    → scene.columns ≤ scene.width → IsCursorCell scene caret
    → IsShown scene.width (height_of scene) (scene_rows scene) g → IsPainted scene (done (ending caret) g)
ended scene None g higher fits stands s = record {
  room = room_after scene.width (height_of scene) (ending None) g s.room;
  shows = record {
    rows = shows_moved (scene_rows scene) g (done (ending None) g) (λ x y. refl) s.shows;
    place = None;
    stands = stands;
    cursor = refl;
  };
}
ended scene (Some place) g higher fits stands s =
    let there = cursor_in_sight scene place stands in
    let wide : place.0 + 1 ≤ g.width = omega (arith, s.room.wide, there.0, fits) in
    let high : place.1 + 1 ≤ g.height = omega (arith, s.room.high, there.1, higher) in
    record {
      room = room_after scene.width (height_of scene) (ending (Some place)) g s.room;
      shows = record {
        rows = shows_moved (scene_rows scene) g (done (ending (Some place)) g) (λ x y. refl) s.shows;
        place = Some place;
        stands = stands;
        cursor = (refl, least (place.0 + 1) g.width wide, least (place.1 + 1) g.height high);
      };
    }

ending_leads : (old new : Option (List ℕ)) (scene : Scene) (caret : Option (ℕ × ℕ)) → scene.rows ≤ height_of scene
    → scene.rows ≤ 32 → scene.columns ≤ scene.width → scene.width ≤ 80 → IsCursorCell scene caret → Appends old new
    (spelled_all (ending caret))
    → Leads (ending caret) old new (IsShown scene.width (height_of scene) (scene_rows scene)) (IsPainted scene)
ending_leads old new scene caret higher few fits narrow stands sent = record {
  sendable = sendable caret stands;
  sent = sent;
  led = λ g shown. ended scene caret g higher fits stands shown;
}
  where
    sendable : (place : Option (ℕ × ℕ)) → IsCursorCell scene place → AreSendable (ending place)
    sendable None is = (tt, (tt, tt))
    sendable (Some place) is =
        let there = cursor_in_sight scene place is in
        ((omega (arith, there.0, fits, narrow), omega (arith, there.1, few)), (tt, (tt, tt)))

-- the changes of rows begin with those of the first ones
later : ℕ → ℕ → (ℕ → List Face) → (ℕ → List Face) → List Operation
later m zero olds news = []
later m (suc k) olds news = later m k olds news ++ changes (m + k + 1) (olds (m + k)) (news (m + k))

changes_on : (m k : ℕ) (olds news : ℕ → List Face)
    → rows_changes (m + k) olds news ≡ rows_changes m olds news ++ later m k olds news
unfolding later
changes_on m zero olds news =
    let same : m + 0 ≡ m = omega arith in
    ap (λ n. rows_changes n olds news) same ∙ sym (append-nil (rows_changes m olds news))
changes_on m (suc k) olds news =
    let next : m + suc k ≡ suc (m + k) = omega arith in
    let last : List Operation = changes (m + k + 1) (olds (m + k)) (news (m + k)) in
    ap (λ n. rows_changes n olds news) next ∙ more_changes (m + k) olds news
    ∙ ap (λ l. l ++ last) (changes_on m k olds news)
    ∙ append_assoc (rows_changes m olds news) (later m k olds news) last

-- a front of some operations, after those before them
front_of : (a b rest all : List Operation) (old mid new : Option (List ℕ)) → all ≡ a ++ (b ++ rest)
    → Appends old mid (spelled_all a) → AppendsFront mid new (spelled_all b) → AppendsFront old new (spelled_all all)
front_of a b rest all old mid new is before now =
    front_part old mid new (spelled_all all) (spelled_all b) (spelled_all rest)
    (record {
      front = spelled_all a;
      parts = ap spelled_all is ∙ both_spelled a (b ++ rest)
          ∙ ap (λ l. spelled_all a ++ l) (both_spelled b rest);
      taken = before;
    }) now

pub row_front : (old mid new : Option (List ℕ)) (rows y : ℕ) (news olds : ℕ → List Face) (row old_row : List Face)
    (sent : List Operation) → y < rows → row ≡ news y → old_row ≡ olds y → sent ≡ changes (y + 1) old_row row
    → Appends old mid (spelled_all (rows_changes y olds news)) → AppendsFront mid new (spelled_all sent)
    → AppendsFront old new (spelled_all (rows_changes rows olds news))
row_front old mid new rows y news olds row old_row sent within row_is old_is is before now =
    let k : ℕ = rows - (y + 1) in
    let all : rows ≡ y + 1 + k = omega arith in
    let operations : List Operation = changes (y + 1) (olds y) (news y) in
    let same : sent ≡ operations = is ∙ (λ i. changes (y + 1) (old_is i) (row_is i)) in
    front_of (rows_changes y olds news) operations (later (y + 1) k olds news) (rows_changes rows olds news) old mid new
    (ap (λ n. rows_changes n olds news) all ∙ changes_on (y + 1) k olds news
    ∙ ap (λ l. l ++ later (y + 1) k olds news) (next_changes y olds news)
    ∙ append_assoc (rows_changes y olds news) operations (later (y + 1) k olds news))
    before (subst (λ l. AppendsFront mid new (spelled_all l)) same now)

-- a painting in parts
module _ (old : Option (List ℕ)) (height : ℕ) (scene : Scene) (known all : List (List Face)) (caret : Option (ℕ × ℕ))
    (high : height ≡ height_of scene) (is : known ≡ all) (stands : IsCursorCell scene caret) where
  abbrev width : ℕ
  width = scene.width

  abbrev rows : ℕ
  rows = height_of scene

  abbrev start : List Operation
  start = beginning (are_of_size width rows all)

  abbrev middle : List Operation
  middle = rows_changes rows (λ k. get_or (begun_rows width rows all) k []) (scene_row scene)

  started : beginning (are_of_size width height known) ≡ start
  started = λ i. beginning (are_of_size width (high i) (is i))

  pub begin_front : (new : Option (List ℕ)) → AppendsFront old new (spelled_all (beginning (are_of_size width height known)))
      → PaintsFront old new all scene
  begin_front new now = record {
    place = caret;
    stands = stands;
    taken = front_of [] start (middle ++ ending caret) (painting all scene caret) old old new refl (Appends-nil old)
        (subst (λ l. AppendsFront old new (spelled_all l)) started now);
  }

  module _ (first : Option (List ℕ)) (olds slice : List (List Face)) (same : slice ≡ olds)
      (begun_is : olds ≡ begun_rows width height known)
      (begins : Leads (beginning (are_of_size width height known)) old first (IsShown width height known)
      (IsShown width height (begun_rows width height known))) where
    there : slice ≡ begun_rows width rows all
    there = same ∙ begun_is ∙ (λ i. begun_rows width (high i) (is i))

    began : Leads start old first (IsShown width rows all) (IsShown width rows (begun_rows width rows all))
    began =
        subst (λ l. Leads (beginning (are_of_size width rows l)) old first (IsShown width rows l)
        (IsShown width rows (begun_rows width rows l))) is
        (subst (λ n. Leads (beginning (are_of_size width n known)) old first (IsShown width n known)
        (IsShown width n (begun_rows width n known))) high begins)

    pub rows_front : (new : Option (List ℕ)) → AppendsFront first new
        (spelled_all (rows_changes (height_of scene) (λ k. get_or slice k []) (scene_row scene)))
        → PaintsFront old new all scene
    rows_front new now = record {
      place = caret;
      stands = stands;
      taken = front_of start middle (ending caret) (painting all scene caret) old first new refl began.sent
          (subst (λ l. AppendsFront first new (spelled_all (rows_changes rows (λ k. get_or l k []) (scene_row scene))))
          there now);
    }

    module _ (second : Option (List ℕ))
        (goes : Leads (rows_changes (height_of scene) (λ k. get_or slice k []) (scene_row scene)) first second
        (IsShown scene.width (height_of scene) slice) (IsShown scene.width (height_of scene) (scene_rows scene))) where
      went : Leads middle first second (IsShown width rows (begun_rows width rows all)) (IsShown width rows (scene_rows scene))
      went = subst (λ l. Leads (rows_changes rows (λ k. get_or l k []) (scene_row scene)) first second (IsShown width rows l)
          (IsShown width rows (scene_rows scene))) there goes

      both : Leads (start ++ middle) old second (IsShown width rows all) (IsShown width rows (scene_rows scene))
      both = leads_on start middle old first second (IsShown width rows all) (IsShown width rows (begun_rows width rows all))
          (IsShown width rows (scene_rows scene)) began went

      pub end_front : (new : Option (List ℕ)) → AppendsFront second new (spelled_all (ending caret))
          → PaintsFront old new all scene
      end_front new now = record {
        place = caret;
        stands = stands;
        taken = front_of (start ++ middle) (ending caret) [] (painting all scene caret) old second new
            (sym (append_assoc start middle (ending caret))
            ∙ ap (λ l. (start ++ middle) ++ l) (sym (append-nil (ending caret))))
            both.sent now;
      }

      pub painted : (new : Option (List ℕ)) → scene.rows ≤ 32 → scene.columns ≤ scene.width → scene.width ≤ 80
          → Appends second new (spelled_all (ending caret))
          → Paints old new all scene
      painted new few fits narrow sent =
          let higher : scene.rows ≤ height_of scene = omega arith in
          record {
            place = caret;
            stands = stands;
            leads = leads_on start (middle ++ ending caret) old first new (IsShown width rows all)
                (IsShown width rows (begun_rows width rows all)) (IsPainted scene) began
                (leads_on middle (ending caret) first second new (IsShown width rows (begun_rows width rows all))
                (IsShown width rows (scene_rows scene)) (IsPainted scene) went
                (ending_leads second new scene caret higher few fits narrow stands sent));
          }

-- rows below those that are painted stay
rows_kept : (n : ℕ) (olds news : ℕ → List Face) (g : Grid) (x y : ℕ) → n < y → n ≤ g.height
    → ((k : ℕ) → k < n → length (news k) ≤ g.width) → (done (rows_changes n olds news) g).cells x y ≡ g.cells x y
rows_kept zero olds news g x y below high wide = ap (λ l. (done l g).cells x y) (no_changes olds news)
rows_kept (suc n) olds news g x y below high wide =
    let mid : Grid = done (rows_changes n olds news) g in
    let same_w : mid.width ≡ g.width = same_width (rows_changes n olds news) g in
    let same_h : mid.height ≡ g.height = same_height (rows_changes n olds news) g in
    let fits : length (news n) ≤ mid.width = omega (arith, wide n) in
    let up : n + 1 ≤ mid.height = omega arith in
    let outside : y ≡ n + 1 → x < 1 = λ e. absurd (omega (arith, e)) in
    ap (λ l. (done l g).cells x y) (more_changes n olds news)
    ∙ ap (λ (k : Grid). k.cells x y) (done_both (rows_changes n olds news) (changes (n + 1) (olds n) (news n)) g)
    ∙ row_kept (n + 1) (olds n) (news n) mid x y fits up outside
    ∙ rows_kept n olds news g x y (omega arith) (omega arith) (λ k h. wide k (omega arith))

same_beginning : (g : Grid) (x y : ℕ) → (done (beginning true) g).cells x y ≡ g.cells x y
same_beginning g x y = refl

same_ending : (caret : Option (ℕ × ℕ)) (g : Grid) (x y : ℕ) → (done (ending caret) g).cells x y ≡ g.cells x y
same_ending None g x y = refl
same_ending (Some place) g x y = refl

pub rest_kept : (known : List (List Face)) (scene : Scene) (caret : Option (ℕ × ℕ)) (g : Grid) (x y : ℕ)
    → HasGridRoom scene.width (height_of scene) g → are_of_size scene.width (height_of scene) known ≡ true
    → height_of scene < y
    → (done (painting known scene caret) g).cells x y ≡ g.cells x y
rest_kept known scene caret g x y room known_is below =
    let rows : ℕ = height_of scene in
    let start : List Operation = beginning (are_of_size scene.width rows known) in
    let middle : List Operation =
    rows_changes rows (λ k. get_or (begun_rows scene.width rows known) k []) (scene_row scene) in
    let begun_grid : Grid = done start g in
    let same_w : begun_grid.width ≡ g.width = same_width start g in
    let same_h : begun_grid.height ≡ g.height = same_height start g in
    ap (λ (k : Grid). k.cells x y) (done_both start (middle ++ ending caret) g
    ∙ done_both middle (ending caret) begun_grid)
    ∙ same_ending caret (done middle begun_grid) x y
    ∙ rows_kept rows (λ k. get_or (begun_rows scene.width rows known) k []) (scene_row scene) begun_grid x y below
    (omega (arith, room.high)) (λ k h. omega (arith, room.wide, row_long scene k))
    ∙ ap (λ b. (done (beginning b) g).cells x y) known_is
