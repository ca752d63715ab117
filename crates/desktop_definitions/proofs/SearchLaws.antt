-- Laws of searching: what is read of a pattern, the least place at which one stands, and the row by its cases. And what
-- a row owes that puts the characters of a buffer in at the caret.
use Rattle.std.specs.Prelude.{◌≡◌, ◌<◌, ◌≤◌, ℕ, zero, suc, ◌+◌, ◌-◌, ◌==◌, nat_lt, min, Bool, true, false, cond}
use Rattle.std.specs.Prelude.{if◌then◌else◌, List, [], ◌∷◌, ◌++◌, length, take, drop, slice_get, slice_range}
use Rattle.std.specs.Prelude.{slice_index, Option, Some, None, Result, Ok, Err}
use Rattle.std.specs.Option.{unwrap_or, option_map}
use Rattle.std.specs.List.{find, range_with_len, remove}
use Rattle.std.specs.Str.{bytes_eq}
use Rattle.std.proofs.Common.{refl, sym, ap, subst, ◌∙◌, arith, inl, inr, length-append}
use Rattle.std.proofs.lemmas.Bool.{cases_lt, lt-ltb, le-ltb, eqb-true}
use Rattle.std.proofs.lemmas.List.{length-map, length-take, length-drop, take_all, take-take, drop-drop}
use Rattle.std.proofs.lemmas.List.{take-map, drop-map}
use Rattle.std.proofs.lemmas.Slice.Eq.{bytes_eq-Decides}
use Rattle.piece_ring.specs.declared.piece.Look.{Look}
use Rattle.piece_ring.specs.declared.piece.Piece.{Piece}
use Rattle.piece_ring.specs.Flat.{flat}
use Rattle.piece_ring.specs.Text.{Text}
use Rattle.readers_scanners.specs.Reading.{contents, bytes_of_text}
use Rattle.viewer_tracks.specs.Columns.{IsOnTop}
use Rattle.desktop_definitions.specs.declared.viewer.Caret.{Caret}
use Rattle.desktop_definitions.specs.declared.viewer.Selection.{Selection}
use Rattle.desktop_definitions.specs.declared.reply.Reply.{Reply}
use Rattle.desktop_definitions.specs.declared.reply.Reply.TheVariants.{Done, No}
use Rattle.desktop_definitions.specs.Limits.{most_pattern, no_caret, no_selection, not_found, full}
use Rattle.desktop_definitions.proofs.TableLaws.{length_seen_text}
use Rattle.desktop_definitions.specs.Desktop.{Desktop, KeptDesktop, characters_held}
use Rattle.desktop_definitions.specs.Viewers.{main_of, newest, selected, kept_main}
use Rattle.desktop_definitions.specs.Needs.{needs, unless}
use Rattle.desktop_definitions.specs.Change.{bytes_of, showing, caret_shown, put_at_caret}
use Rattle.desktop_definitions.specs.Effects.{found_at, pattern_after, after_search}
use Rattle.desktop_definitions.specs.Seen.{seen, seen_text}
use Rattle.desktop_definitions.specs.Step.{outcome_after, Outcome}
use Rattle.desktop_definitions.specs.Sound.{IsBuilt, IsOver}
use Rattle.desktop_definitions.specs.Changed.{IsChanged, CountsHeld}
use Rattle.desktop_definitions.specs.Outcome.{IsAnswered}
use Rattle.desktop_definitions.proofs.RowLaws.{rest_answered, fewer_answered, full_rest_answered, over_built}
use Rattle.desktop_definitions.specs.DeskWords.{has_space, start_in}
use Rattle.desktop_definitions.proofs.RowLaws.{unchanged, changed_as, changed_further}
use Rattle.desktop_definitions.proofs.RowPartLaws.{kept_main_seen, kept_caret, put_at_caret_counts}
use Rattle.desktop_definitions.proofs.KeyLaws.{row_as, main_there_seen}
use Rattle.desktop_definitions.proofs.LookedLaws.{looks_stay, shape_stays}
use Rattle.desktop_definitions.proofs.LookedLaws.{within_stays}

-- ---- bytes that were read from a place on

abbrev pub AreRead : List ℕ → ℕ → List ℕ → Type 0
AreRead bytes_of_text place window = window ≡ take (length window) (drop place bytes_of_text)

take_next : (xs : List ℕ) (n b : ℕ) → slice_get xs n ≡ Some b → take n xs ++ b ∷ [] ≡ take (suc n) xs
take_next [] zero b is = absurd (cc is)
take_next [] (suc n) b is = absurd (cc is)
take_next (x ∷ xs) zero b is = let same : b ≡ x = cc is in ap (λ (y : ℕ). y ∷ []) same
take_next (x ∷ xs) (suc n) b is = ap (λ (l : List ℕ). x ∷ l) (take_next xs n b is)

get_drop : (p n : ℕ) (xs : List ℕ) → slice_get (drop p xs) n ≡ slice_get xs (p + n)
get_drop zero n [] = refl
get_drop zero n (x ∷ xs) = let at : n ≡ zero + n = omega arith in ap (slice_get (x ∷ xs)) at
get_drop (suc p) n [] = refl
get_drop (suc p) n (x ∷ xs) =
    let at : suc (p + n) ≡ suc p + n = omega arith in get_drop p n xs ∙ ap (slice_get (x ∷ xs)) at

-- a text has as many bytes as characters
pub bytes_long : (characters : List ℕ) (text : Text ℕ) → length (bytes_of_text characters text) ≡ length text
bytes_long characters text =
    length-map (contents characters text) (λ (c : ℕ × Look). c.0)
    ∙ length-map text (λ (c : ℕ × Look). (slice_index characters c.0, c.1))

-- one more
pub read_more : (bytes : List ℕ) (place : ℕ) (window : List ℕ) (b : ℕ)
    → slice_get bytes (place + length window) ≡ Some b → AreRead bytes place window
    → AreRead bytes place (window ++ b ∷ [])
read_more bytes place window b there is =
    let longer = length-append window (b ∷ []) in
    let long : suc (length window) ≡ length (window ++ b ∷ []) = omega (arith, longer) in
    ap (λ (l : List ℕ). l ++ b ∷ []) is
    ∙ take_next (drop place bytes) (length window) b (get_drop place (length window) bytes ∙ there)
    ∙ ap (λ n. take n (drop place bytes)) long

drop_first : (n : ℕ) (xs : List ℕ) → drop 1 (take (suc n) xs) ≡ take n (drop 1 xs)
drop_first zero [] = refl
drop_first (suc n) [] = refl
drop_first zero (x ∷ xs) = refl
drop_first (suc n) (x ∷ xs) = refl

-- without the first of them
pub read_rest : (bytes : List ℕ) (place : ℕ) (window : List ℕ) → 0 < length window → AreRead bytes place window
    → AreRead bytes (place + 1) (remove window 0)
read_rest bytes place [] some is = absurd (omega (arith, some))
read_rest bytes place (b ∷ rest) some is =
    ap (drop 1) is
    ∙ drop_first (length rest) (drop place bytes)
    ∙ ap (take (length rest)) (drop-drop 1 place bytes)

take_both : (m n k : ℕ) (xs : List ℕ) → k ≡ min n m → take k xs ≡ take m (take n xs)
take_both m n k xs is = elim (cases_lt n m) [
  | inl low ↦
      let all = length-take n xs in
      let same : k ≡ n = omega (arith, is, low) in
      ap (λ j. take j xs) same ∙ sym (take_all m (take n xs) (omega (arith, all, low)))
  | inr high ↦
      let same : k ≡ m = omega (arith, is, high) in
      ap (λ j. take j xs) same ∙ sym (take-take m n xs high)
]

-- as many as a pattern has, of a stretch
pub read_pattern : (bytes : List ℕ) (beg end : ℕ) (window : List ℕ) → length window ≡ min (end - beg) most_pattern
    → AreRead bytes beg window → window ≡ take most_pattern (slice_range bytes beg end)
read_pattern bytes beg end window long is =
    is ∙ take_both most_pattern (end - beg) (length window) (drop beg bytes) long

-- ---- the least place at which a pattern stands

-- whether it stands at a place
abbrev stands : List ℕ → List ℕ → ℕ → Bool
stands bytes pattern p = bytes_eq pattern (take (length pattern) (drop p bytes))

found_from : (bytes pattern : List ℕ) (p : ℕ) → p ≤ length bytes → found_at bytes pattern p
    ≡ cond (stands bytes pattern p) (Some p) (found_at bytes pattern (p + 1))
found_from bytes pattern p low =
    let more : length bytes + 1 - p ≡ suc (length bytes + 1 - (p + 1)) = omega (arith, low) in
    ap (λ n. find (stands bytes pattern) (range_with_len p n)) more

short_stands : (bytes pattern : List ℕ) (p : ℕ) → length bytes < p + length pattern → 0 < length pattern
    → stands bytes pattern p ≡ false
short_stands bytes pattern p short some = (elim (stands bytes pattern p) as
    (λ b. stands bytes pattern p ≡ b → b ≡ false) [
      | true ↦ λ is.
          let same = ap length ((bytes_eq-Decides pattern (take (length pattern) (drop p bytes))).0 is) in
          let taken = length-take (length pattern) (drop p bytes) in
          let left = length-drop p bytes in
          absurd (omega (arith, same, taken, left, short, some))
      | false ↦ λ is. refl
    ]) refl

short_found : (bytes pattern : List ℕ) (p n : ℕ) → length bytes < p + length pattern → 0 < length pattern
    → find (stands bytes pattern) (range_with_len p n) ≡ None
short_found bytes pattern p zero short some = refl
short_found bytes pattern p (suc n) short some =
    ap (λ b. cond b (Some p) (find (stands bytes pattern) (range_with_len (p + 1) n)))
    (short_stands bytes pattern p short some)
    ∙ short_found bytes pattern (p + 1) n (omega (arith, short)) some

-- A pattern is sought from a position on: it stands nowhere before the place from which on this window was read.
pub record IsSought (bytes pattern : List ℕ) (pos place : ℕ) (window : List ℕ) : Type 0 where
  pub read : AreRead bytes place window
  pub from : found_at bytes pattern pos ≡ found_at bytes pattern place

pub sought_first : (bytes pattern : List ℕ) (pos : ℕ) → IsSought bytes pattern pos pos []
sought_first bytes pattern pos = record { read = refl; from = refl }

module _ (bytes pattern : List ℕ) (pos place : ℕ) (window : List ℕ) (is : IsSought bytes pattern pos place window) where
  -- one byte more was read
  pub sought_more : (b : ℕ) → slice_get bytes (place + length window) ≡ Some b
      → IsSought bytes pattern pos place (window ++ b ∷ [])
  sought_more b there = record { read = read_more bytes place window b there is.read; from = is.from }

  pub sought_on : (b : ℕ) (next : List ℕ) → next ≡ window ++ b ∷ [] → slice_get bytes (place + length window) ≡ Some b
      → IsSought bytes pattern pos place next
  sought_on b next same there = subst (IsSought bytes pattern pos place) (sym same) (sought_more b there)

  module _ (long : length window ≡ length pattern) (within : place + length pattern ≤ length bytes) where
    test_window : stands bytes pattern place ≡ bytes_eq pattern window
    test_window = ap (bytes_eq pattern) (sym (is.read ∙ ap (λ n. take n (drop place bytes)) long))

    -- the window is the pattern
    pub sought_found : bytes_eq pattern window ≡ true → found_at bytes pattern pos ≡ Some place
    sought_found same =
        is.from
        ∙ found_from bytes pattern place (omega (arith, within))
        ∙ ap (λ b. cond b (Some place) (found_at bytes pattern (place + 1))) (test_window ∙ same)

    -- it isn't, and its first byte goes
    pub sought_next : 0 < length pattern → bytes_eq pattern window ≡ false
        → IsSought bytes pattern pos (place + 1) (remove window 0)
    sought_next some other = record {
      read = read_rest bytes place window (omega (arith, some, long)) is.read;
      from =
          is.from
          ∙ found_from bytes pattern place (omega (arith, within))
          ∙ ap (λ b. cond b (Some place) (found_at bytes pattern (place + 1))) (test_window ∙ other);
    }

  -- the text is at its end, and the window is shorter than the pattern
  pub sought_none : place + length window ≡ length bytes → length window < length pattern
      → found_at bytes pattern pos ≡ None
  sought_none last short =
      is.from
      ∙ short_found bytes pattern place (length bytes + 1 - place) (omega (arith, last, short))
      (omega (arith, short))

-- ---- the pattern

pub main_bytes : (characters : List ℕ) (d : KeptDesktop) (v : ℕ)
    → bytes_of (main_of (seen characters d) v) ≡ bytes_of_text characters (flat (kept_main d v))
main_bytes characters d v = ap bytes_of (kept_main_seen characters d v)

selected_bytes : (characters : List ℕ) (d : KeptDesktop) (s : Selection) → bytes_of (selected (seen characters d) s)
    ≡ slice_range (bytes_of_text characters (flat (kept_main d s.viewer))) s.beg s.end
selected_bytes characters d s =
    let text = main_of (seen characters d) s.viewer in
    sym (take-map (λ (c : ℕ × Look). c.0) (s.end - s.beg) (drop s.beg text))
    ∙ ap (take (s.end - s.beg)) (sym (drop-map (λ (c : ℕ × Look). c.0) s.beg text))
    ∙ ap (λ (l : List ℕ). slice_range l s.beg s.end) (main_bytes characters d s.viewer)

-- without a selection it is the old one
pub pattern_old : (characters : List ℕ) (d : KeptDesktop) → newest d ≡ None
    → d.pattern ≡ pattern_after (seen characters d)
unfolding seen
pattern_old characters d none = sym (ap (λ (o : Option Selection).
    unwrap_or (option_map (λ s. take most_pattern (bytes_of (selected (seen characters d) s))) o) d.pattern) none)

-- and with one its first bytes
pub pattern_selected : (characters : List ℕ) (d : KeptDesktop) (s : Selection) → newest d ≡ Some s
    → take most_pattern (slice_range (bytes_of_text characters (flat (kept_main d s.viewer))) s.beg s.end)
    ≡ pattern_after (seen characters d)
unfolding seen
pattern_selected characters d s is =
    sym (ap (λ (o : Option Selection).
    unwrap_or (option_map (λ s. take most_pattern (bytes_of (selected (seen characters d) s))) o) d.pattern) is
    ∙ ap (take most_pattern) (selected_bytes characters d s))

-- another pattern, of few bytes
pub pattern_changed : (H : Type 0) (characters : List ℕ) (d : KeptDesktop) (pattern : List ℕ)
    → IsBuilt (length characters) d → length pattern ≤ most_pattern
    → IsChanged H characters d (record d { pattern = pattern }) (record (seen characters d) { pattern = pattern }) 0 0
unfolding seen characters_held
pattern_changed H characters d pattern built few = record {
  exact = λ h. refl;
  built = record {
    within = within_stays built.within refl;
    shaped = λ all. shape_stays (built.shaped all) refl few (looks_stay (built.shaped all).looks refl);
  };
  counted = λ all. omega arith;
  rest = record { numbers = refl; viewers = refl; written = refl };
}

-- ---- a search

caret_within : (v long : ℕ) (c : Caret) (same : Bool) → (c.viewer == v) ≡ same → (c.viewer ≡ v → c.position ≤ long)
    → unwrap_or (if same then Some c.position else None) 0 ≤ long
caret_within v long c true is low = low (eqb-true c.viewer v is)
caret_within v long c false is low = omega arith

-- it starts within the text
pub start_within : (n : ℕ) (d : KeptDesktop) (v : ℕ) → IsBuilt n d
    → start_in v d.caret ≤ length (flat (kept_main d v))
start_within n d v built = (elim d.caret as
    (λ (o : Option Caret). d.caret ≡ o → start_in v o ≤ length (flat (kept_main d v))) [
      | None ↦ λ none. omega arith
      | Some c ↦ λ is. caret_within v (length (flat (kept_main d v))) c (c.viewer == v) refl
          (λ same. subst (λ w. c.position ≤ length (flat (kept_main d w))) same (kept_caret n d c built is).1)
    ]) refl

-- what a search does for a pattern, and where it is found
abbrev shown_after : Desktop → ℕ → List ℕ → ℕ → Result Desktop ℕ
shown_after d v pattern p = Ok (caret_shown (record d { pattern = pattern }) v (p + length pattern))

search_for : Desktop → ℕ → List ℕ → Result Desktop ℕ
search_for d v pattern =
    unless (nat_lt 0 (length pattern)) no_selection
    (needs (found_at (bytes_of (main_of d v)) pattern (start_in v d.caret)) not_found (shown_after d v pattern))

module _ (characters : List ℕ) (d : KeptDesktop) (v : ℕ) (pattern : List ℕ)
    (is : pattern ≡ pattern_after (seen characters d)) where
  searched_for : after_search (seen characters d) v ≡ search_for (seen characters d) v pattern
  unfolding after_search search_for
  searched_for = ap (search_for (seen characters d) v) (sym is)

  -- without a pattern
  pub searched_none : length pattern ≡ 0 → after_search (seen characters d) v ≡ Err no_selection
  unfolding search_for
  searched_none none =
      let test : nat_lt 0 (length pattern) ≡ false = le-ltb 0 (length pattern) (omega (arith, none)) in
      searched_for ∙ rw test refl

  module _ (some : 0 < length pattern) where
    test_some : nat_lt 0 (length pattern) ≡ true
    test_some = lt-ltb 0 (length pattern) some

    search_by : (found : Option ℕ)
        → found_at (bytes_of_text characters (flat (kept_main d v))) pattern (start_in v d.caret) ≡ found
        → after_search (seen characters d) v ≡ needs found not_found (shown_after (seen characters d) v pattern)
    unfolding search_for seen
    search_by found at =
        searched_for
        ∙ ap (λ b. unless b no_selection
        (needs (found_at (bytes_of (main_of (seen characters d) v)) pattern (start_in v d.caret)) not_found
        (shown_after (seen characters d) v pattern))) test_some
        ∙ ap (λ (o : Option ℕ). needs o not_found (shown_after (seen characters d) v pattern))
        (ap (λ (l : List ℕ). found_at l pattern (start_in v d.caret)) (main_bytes characters d v) ∙ at)

    -- where it isn't found
    pub searched_lost : found_at (bytes_of_text characters (flat (kept_main d v))) pattern (start_in v d.caret) ≡ None
        → after_search (seen characters d) v ≡ Err not_found
    searched_lost lost = search_by None lost

    pub searched_found : (p : ℕ)
        → found_at (bytes_of_text characters (flat (kept_main d v))) pattern (start_in v d.caret) ≡ Some p
        → after_search (seen characters d) v
        ≡ Ok (caret_shown (record (seen characters d) { pattern = pattern }) v (p + length pattern))
    searched_found p found = search_by (Some p) found

-- what was found in a text, by other names
pub found_as : (mid old : List ℕ) (text main : List Piece) (slice pattern : List ℕ) (start v : ℕ) (caret : Option Caret)
    (found : Option ℕ) → mid ≡ old → text ≡ main → slice ≡ pattern → start ≡ start_in v caret
    → found ≡ found_at (bytes_of_text mid (flat text)) slice start
    → found_at (bytes_of_text old (flat main)) pattern (start_in v caret) ≡ found
found_as mid old text main slice pattern start v caret found same text_is pattern_is start_is is =
    sym (is ∙ (λ k. found_at (bytes_of_text (same k) (flat (text_is k))) (pattern_is k) (start_is k)))

-- an outcome by another name, where that is honest
answered_as : {H : Type 0} {old new : List ℕ} {before after : KeptDesktop} {reply : Reply} (x y : Outcome)
    → IsAnswered H old new before after x reply → (H → x ≡ y) → IsAnswered H old new before after y reply
answered_as x y answered same = record {
  exact = λ h. answered.exact h ∙ same h;
  over = answered.over;
  known = answered.known;
  refusal = answered.refusal;
}

-- the caret may be shown before the pattern is set
pattern_last : (d : Desktop) (v p : ℕ) (pattern : List ℕ)
    → record (caret_shown d v p) { pattern = pattern } ≡ caret_shown (record d { pattern = pattern }) v p
unfolding showing
pattern_last d v p pattern = refl

module _ (H G : Type 0) (old mid new : List ℕ) (d shown : KeptDesktop) (v p size : ℕ) (pattern : List ℕ)
    (over : IsOver old d) (so : H → G) (long : length mid ≡ length old) (same : H → mid ≡ old)
    (longer : length new ≡ length mid) (same_new : G → new ≡ mid) (few : length pattern ≤ most_pattern)
    (some : 0 < length pattern) (counted : size ≡ length pattern) (is : H → pattern ≡ pattern_after (seen old d))
    (found : H → found_at (bytes_of_text old (flat (kept_main d v))) pattern (start_in v d.caret) ≡ Some p)
    (changed : IsChanged G mid d shown (caret_shown (seen mid d) v (p + size)) 0 0) where
  shown_changed : IsChanged H old d shown (caret_shown (seen old d) v (p + length pattern)) 0 0
  shown_changed =
      changed_as (caret_shown (seen old d) v (p + length pattern))
      (changed_further old mid d d shown (seen old d) (λ x. caret_shown x v (p + size)) 0 0 0 0 0 0 so long same
      (unchanged H old d (over_built old d over)) changed refl refl)
      (λ h k. caret_shown (seen old d) v (p + counted k))

  outcome : Desktop
  outcome = caret_shown (record (seen old d) { pattern = pattern }) v (p + length pattern)

  search_changed : IsChanged H old d (record shown { pattern = pattern }) outcome 0 0
  unfolding outcome
  search_changed =
      changed_as outcome
      (changed_further old old d shown (record shown { pattern = pattern })
      (caret_shown (seen old d) v (p + length pattern)) (λ x. record x { pattern = pattern }) 0 0 0 0 0 0 (λ h. h) refl
      (λ h. refl) shown_changed (pattern_changed H old shown pattern shown_changed.built few) refl refl)
      (λ h. pattern_last (seen old d) v (p + length pattern) pattern)

  -- where it is found the caret is shown, and the pattern set
  pub search_answered : IsAnswered H old new d (record shown { pattern = pattern })
      (outcome_after (seen old d) (after_search (seen old d) v)) Done
  unfolding outcome
  search_answered =
      answered_as (outcome_after (seen old d) (Ok outcome)) (outcome_after (seen old d) (after_search (seen old d) v))
      (fewer_answered H old new d (record shown { pattern = pattern }) outcome 0 over (longer ∙ long)
      (λ h. same_new (so h) ∙ same h) search_changed)
      (λ h. ap (outcome_after (seen old d)) (sym (searched_found old d v pattern (is h) some p (found h))))

-- ---- a buffer that is put in at the caret

abbrev pub put_row : Desktop → Text ℕ → Result Desktop ℕ
put_row d text = needs d.caret no_caret λ c. Ok (put_at_caret d text c)

pub put_none : (old : List ℕ) (d : KeptDesktop) (text : Text ℕ) → d.caret ≡ None
    → put_row (seen old d) text ≡ Err no_caret
unfolding seen
put_none old d text none = rw none refl

module _ (H : Type 0) (old : List ℕ) (d : KeptDesktop) (buffer : List Piece) (text : Text ℕ) (over : IsOver old d)
    (text_is : seen_text old buffer ≡ text) where
  module _ (c : Caret) (is : d.caret ≡ Some c) where
    put_some : put_row (seen old d) text ≡ Ok (put_at_caret (seen old d) text c)
    unfolding seen
    put_some = rw is refl

    pub put_full : IsOnTop c.viewer d.columns → has_space (seen old d) 0 (length (flat buffer)) 0 ≡ false
        → IsAnswered H old old d d (outcome_after (seen old d) (put_row (seen old d) text)) (No full)
    put_full placed none = row_as (seen old d) (put_row (seen old d) text)
        (full_rest_answered H old d (put_at_caret (seen old d) text c) (length (flat buffer)) 0 over
        (subst (λ n. CountsHeld (seen old d) (put_at_caret (seen old d) text c) n 0)
        (ap length (sym text_is) ∙ length_seen_text old buffer)
        (put_at_caret_counts (seen old d) text c (main_there_seen old d c.viewer over placed))) none)
        put_some

    pub put_answered : (new : List ℕ) (after : KeptDesktop) (copy : List Piece) → length new ≡ length old
        → (H → new ≡ old) → flat copy ≡ flat buffer
        → IsChanged H old d after (put_at_caret (seen old d) (seen_text old copy) c) (length (flat copy)) 0
        → ((all : List ℕ) → has_space (seen all d) 0 (length (flat buffer)) 0 ≡ true)
        → IsAnswered H old new d after (outcome_after (seen old d) (put_row (seen old d) text)) Done
    put_answered new after copy long same copy_is changed space = row_as (seen old d) (put_row (seen old d) text)
        (rest_answered H old new d after (put_at_caret (seen old d) text c) (length (flat buffer)) 0 over long same
        (subst (λ n. IsChanged H old d after (put_at_caret (seen old d) text c) n 0) (ap length copy_is)
        (changed_as (put_at_caret (seen old d) text c) changed
        (λ h. ap (λ (t : Text ℕ). put_at_caret (seen old d) t c)
        (ap (contents old) copy_is ∙ text_is)))) space)
        put_some
