-- Laws of changes of a desktop that is kept: what is seen of it is what the definitions make of the desktop that was
-- seen, and whatever was read it is built as before.
use Rattle.std.specs.Prelude.{◌≡◌, ℕ, ◌+◌, ◌-◌, ◌<◌, ◌≤◌, ◌==◌, not, Bool, true, false, cond, List, []}
use Rattle.std.specs.Prelude.{◌∷◌, ◌++◌, length, get_or, is_some, slice_index, count_by, Option, IsSome}
use Rattle.std.specs.Prelude.{All, ⊤, if◌then◌else◌}
use Rattle.std.specs.Option.{unwrap_or}
use Rattle.std.specs.List.{AllByRecursion}
use Rattle.std.specs.Map.{set_value}
use Rattle.std.specs.Ordering.{nat_cmp}
use Rattle.std.specs.BTreeMap.{is_at}
use Rattle.std.proofs.Common.{refl, sym, ap, subst, ◌∙◌, arith, inl, inr}
use Rattle.std.proofs.lemmas.Bool.{cases_eq, lt-ltb, eqb-false, ne_eqb}
use Rattle.std.proofs.lemmas.List.Elements.{All-filter, All-push, All-from_recursion}
use Rattle.std.proofs.lemmas.List.Sums.{sum_by-append}
use Rattle.std.proofs.lemmas.Map.{keys-set_value}
use Rattle.std.proofs.lemmas.Map.Views.{All-values-set_value}
use Rattle.piece_ring.specs.declared.piece.Look.{Look}
use Rattle.piece_ring.specs.declared.piece.Piece.{Piece}
use Rattle.piece_ring.specs.Flat.{flat}
use Rattle.piece_ring.proofs.Renaming.{renamed-inserted, renamed-deleted, renamed-looks_changed}
use Rattle.piece_ring.specs.Text.{Text, inserted, deleted, looks_changed, AreWithin}
use Rattle.readers_scanners.specs.Reading.{contents, bytes_of_text}
use Rattle.viewer_tracks.specs.Columns.{IsOnTop}
use Rattle.text_frames.specs.Rules.{shown_org}
use Rattle.desktop_definitions.specs.declared.viewer.Viewer.{Viewer}
use Rattle.desktop_definitions.specs.declared.viewer.Caret.{Caret}
use Rattle.desktop_definitions.specs.declared.viewer.Selection.{Selection}
use Rattle.desktop_definitions.specs.Tables.{Texts, text_numbered, with_values}
use Rattle.desktop_definitions.proofs.TableLaws.{length_seen_text}
use Rattle.desktop_definitions.specs.Desktop.{Desktop, KeptDesktop, characters_held}
use Rattle.desktop_definitions.specs.Viewers.{viewer_or_none, text_in, main_length, shows, with_org}
use Rattle.desktop_definitions.specs.Viewers.{rows_of, with_caret, unselected, with_selection, selections_outside}
use Rattle.desktop_definitions.specs.Viewers.{text_of, unmarked}
use Rattle.desktop_definitions.specs.Change.{bytes_of, edited, following_viewer, after_change, insertion, deletion, looks_set}
use Rattle.desktop_definitions.specs.Change.{showing, caret_shown}
use Rattle.desktop_definitions.specs.Seen.{seen, seen_text, seen_table}
use Rattle.desktop_definitions.specs.Sound.{IsCaretPlaced, IsSelection, IsShaped, IsBuilt}
use Rattle.desktop_definitions.specs.Changed.{texts_shown, IsChanged}
use Rattle.desktop_definitions.proofs.ShapeLaws.{AreReorged, OrgsWithin, set_other, set_same}
use Rattle.desktop_definitions.specs.DeskWords.{CanFollow, AreMoved, IsSet}
use Rattle.desktop_definitions.proofs.ShapeLaws.{reorged_shown}
use Rattle.desktop_definitions.proofs.ShapeLaws.{reorged_one, moved_reorged, orgs_within, viewers_stay}
use Rattle.desktop_definitions.proofs.ShapeLaws.{places_stay, main_stays, marks_stay, one_if, count_cons, fewer_outside}
use Rattle.desktop_definitions.proofs.ChangeLaws.{held_edited, org_shown}
use Rattle.desktop_definitions.proofs.TextLaws.{text_in_seen, long_seen, there_seen}
use Rattle.desktop_definitions.specs.Looks.{AreLooks}
use Rattle.desktop_definitions.proofs.LookedLaws.{seen_looks, looks_stay, edited_looks, within_stays}

pub is_set : (old new : Texts (List Piece)) (n : ℕ) (text : Text ℕ) (w : List Piece) → IsSome (text_numbered old n)
    → new ≡ set_value (is_at (nat_cmp n)) old w → flat w ≡ text → IsSet old new n text
is_set old new n text w there set is =
    let now : text_in new n ≡ w =
    ap (λ (es : Texts (List Piece)). text_in es n) set
    ∙ ap (λ (o : Option (List Piece)). unwrap_or o []) (set_same old n w there) in
    record {
      set = set ∙ ap (set_value (is_at (nat_cmp n)) old) (sym now);
      is = ap flat now ∙ is;
    }

-- ---- texts as they are seen

pub set_seen : {K T U : Type 0} (f : T → U) (test : K → Bool) (es : List (K × T)) (w : T)
    → with_values f (set_value test es w) ≡ set_value test (with_values f es) (f w)
set_seen {K} {T} {U} f test [] w = refl
set_seen {K} {T} {U} f test (e ∷ es) w = elim (test e.0) as
    (λ b. with_values f (cond b ((e.0, w) ∷ es) (e ∷ set_value test es w))
    ≡ cond b ((e.0, f w) ∷ with_values f es) ((e.0, f e.1) ∷ set_value test (with_values f es) (f w))) [
      | true ↦ refl
      | false ↦ ap (λ (l : List (K × U)). (e.0, f e.1) ∷ l) (set_seen f test es w)
    ]

pub edited_seen : (characters : List ℕ) (d : KeptDesktop) (n : ℕ) (pieces : List Piece) (viewers : List (ℕ × Viewer))
    → seen characters (edited d n pieces viewers)
    ≡ edited (seen characters d) n (seen_text characters pieces) viewers
unfolding seen
edited_seen characters d n pieces viewers = λ k. record (seen characters (edited d n pieces viewers)) {
  texts = set_seen (seen_text characters) (is_at (nat_cmp n)) d.texts pieces k;
}

-- ---- the shape

differ : (m n : ℕ) → (m == n) ≡ false → ¬ (m ≡ n)
differ m n test is = eqb-false m n test is

module _ (d : Desktop) (n : ℕ) (text : Text ℕ) (viewers : List (ℕ × Viewer)) (there : IsSome (text_numbered d.texts n))
    (moved : AreMoved n (length text) d.viewers viewers) where
  abbrev long : ℕ → ℕ
  long m = length (text_in d.texts m)

  abbrev later : ℕ → ℕ
  later m = length (text_in (set_value (is_at (nat_cmp n)) d.texts text) m)

  later_here : later n ≡ length text
  later_here = ap (λ (o : Option (Text ℕ)). length (unwrap_or o [])) (set_same d.texts n text there)

  later_other : (m : ℕ) → ¬ (m ≡ n) → later m ≡ long m
  later_other m other = ap (λ (o : Option (Text ℕ)). length (unwrap_or o [])) (set_other d.texts n m text other)

  module _ (shaped : IsShaped d) where
    reorged : AreReorged later d.viewers viewers
    reorged = moved_reorged n (length text) long later later_other later_here d.viewers viewers moved
        (orgs_within d.texts d.viewers shaped.viewers)

    pub edited_shown : texts_shown viewers ≡ texts_shown d.viewers
    edited_shown = reorged_shown later d.viewers viewers reorged

    mains_stay : (v : ℕ) → shows d n v ≡ false
        → main_length (set_value (is_at (nat_cmp n)) d.texts text) viewers v ≡ main_length d.texts d.viewers v
    mains_stay v other = ap later (main_stays later d.viewers viewers reorged v)
        ∙ later_other (viewer_or_none d.viewers v).main (differ (viewer_or_none d.viewers v).main n other)

    pub edited_shaped : AreLooks text → IsShaped (edited d n text viewers)
    edited_shaped looks = record {
      viewers = viewers_stay d.texts (set_value (is_at (nat_cmp n)) d.texts text) d.viewers viewers
          (keys-set_value (is_at (nat_cmp n)) d.texts text) reorged shaped.viewers;
      places = places_stay later d.viewers viewers reorged d.columns d.closed shaped.places;
      marks = marks_stay d.columns (main_length d.texts d.viewers)
          (main_length (set_value (is_at (nat_cmp n)) d.texts text) viewers) (shows d n) mains_stay d.caret
          d.selections shaped.marks;
      marker = shaped.marker;
      files = shaped.files;
      pattern = shaped.pattern;
      looks = edited_looks d shaped.looks n text viewers looks;
    }

module _ (d : Desktop) (shaped : IsShaped d) where
  pub with_org_shaped : (v org : ℕ) → org ≤ main_length d.texts d.viewers v → IsShaped (with_org d v org)
  with_org_shaped v org low =
      let long : ℕ → ℕ = λ m. length (text_in d.texts m) in
      let news : List (ℕ × Viewer) = (with_org d v org).viewers in
      let same : AreReorged long d.viewers news = reorged_one long (is_at (nat_cmp v)) org d.viewers
      (orgs_within d.texts d.viewers shaped.viewers) low in
      record {
        viewers = viewers_stay d.texts d.texts d.viewers news refl same shaped.viewers;
        places = places_stay long d.viewers news same d.columns d.closed shaped.places;
        marks = record {
          caret_stands = λ c is. (let old = shaped.marks.caret_stands c is in record {
            placed = old.placed;
            within = subst (λ m. c.position ≤ long m) (sym (main_stays long d.viewers news same c.viewer)) old.within;
          });
          all_stand = λ i s low. (let old = shaped.marks.all_stand i s low in record {
            placed = old.placed;
            some = old.some;
            within = subst (λ m. (get_or d.selections i s).end ≤ long m)
                (sym (main_stays long d.viewers news same (get_or d.selections i s).viewer)) old.within;
          });
          one_each = shaped.marks.one_each;
        };
        marker = shaped.marker;
        files = shaped.files;
        pattern = shaped.pattern;
        looks = looks_stay shaped.looks refl;
      }

  pub with_caret_shaped : (v p : ℕ) → IsOnTop v d.columns → p ≤ main_length d.texts d.viewers v
      → IsShaped (with_caret d v p)
  with_caret_shaped v p placed low = record {
    viewers = shaped.viewers;
    places = shaped.places;
    marks = record {
      caret_stands = λ c is.
          let caret : Caret = record { viewer = v; position = p } in
          let now : IsCaretPlaced d.columns (main_length d.texts d.viewers) caret =
          record { placed = placed; within = low } in
          let it : caret ≡ c = cc is in subst (IsCaretPlaced d.columns (main_length d.texts d.viewers)) it now;
      all_stand = shaped.marks.all_stand;
      one_each = shaped.marks.one_each;
    };
    marker = shaped.marker;
    files = shaped.files;
    pattern = shaped.pattern;
    looks = looks_stay shaped.looks refl;
  }

  pub unselected_shaped : (v : ℕ) → IsShaped (unselected d v)
  unselected_shaped v = record {
    viewers = shaped.viewers;
    places = shaped.places;
    marks = record {
      caret_stands = shaped.marks.caret_stands;
      all_stand = All-filter (λ s. not (s.viewer == v)) (IsSelection d.columns (main_length d.texts d.viewers))
          d.selections shaped.marks.all_stand;
      one_each = λ w. (let few = fewer_outside (λ u. u == v) (λ s. s.viewer == w) d.selections in
          let one = shaped.marks.one_each w in omega (arith, few, one));
    };
    marker = shaped.marker;
    files = shaped.files;
    pattern = shaped.pattern;
    looks = looks_stay shaped.looks refl;
  }

apart : (m n : ℕ) → ¬ (m ≡ n) → (m == n) ≡ false
apart m n other = ne_eqb m n other

-- none is left of those that were to go
none_outside : (test : ℕ → Bool) (selections : List Selection)
    → count_by (λ s. test s.viewer) (selections_outside test selections) ≡ 0
none_outside test [] = refl
none_outside test (s ∷ ss) =
    let rest = none_outside test ss in
    let all = count_cons (λ s. test s.viewer) s (selections_outside test ss) in
    (elim (test s.viewer) as (λ b. test s.viewer ≡ b → count_by (λ s. test s.viewer)
    (cond (not b) (s ∷ selections_outside test ss) (selections_outside test ss)) ≡ 0) [
      | true ↦ λ here. rest
      | false ↦ λ there. (let none = ap one_if there in omega (arith, rest, all, none))
    ]) refl

one_if_small : (b : Bool) → one_if b ≤ 1
one_if_small true = omega arith
one_if_small false = omega arith

pub with_selection_shaped : (d : Desktop) (s : Selection) → IsShaped d
    → IsSelection d.columns (main_length d.texts d.viewers) s → IsShaped (with_selection d s)
with_selection_shaped d s shaped is =
    let rest = unselected_shaped d shaped s.viewer in
    let outside : List Selection = selections_outside (λ w. w == s.viewer) d.selections in
    record {
      viewers = shaped.viewers;
      places = shaped.places;
      marks = record {
        caret_stands = shaped.marks.caret_stands;
        all_stand = All-push (IsSelection d.columns (main_length d.texts d.viewers)) outside s rest.marks.all_stand is;
        one_each = λ v.
            let few : count_by (λ t. t.viewer == v) outside ≤ 1 = rest.marks.one_each v in
            let sum : count_by (λ t. t.viewer == v) (outside ++ s ∷ [])
            ≡ count_by (λ t. t.viewer == v) outside + count_by (λ t. t.viewer == v) (s ∷ []) =
            sum_by-append (λ t. one_if (t.viewer == v)) outside (s ∷ []) in
            let last : count_by (λ t. t.viewer == v) (s ∷ []) ≡ one_if (s.viewer == v) + 0 =
            count_cons (λ t. t.viewer == v) s [] in
            let small = one_if_small (s.viewer == v) in
            elim (cases_eq s.viewer v) [
              | inl same ↦ (let none : count_by (λ t. t.viewer == v) outside ≡ 0 =
                  subst (λ (u : ℕ). count_by (λ t. t.viewer == u) outside ≡ 0) same
                  (none_outside (λ w. w == s.viewer) d.selections) in omega (arith, sum, last, small, none))
              | inr other ↦ (let no : one_if (s.viewer == v) ≡ 0 = ap one_if (apart s.viewer v other) in
                  omega (arith, sum, last, few, no))
            ];
      };
      marker = shaped.marker;
      files = shaped.files;
      pattern = shaped.pattern;
      looks = looks_stay shaped.looks refl;
    }

-- ---- a text of a desktop that is kept

module _ (characters : List ℕ) (d : KeptDesktop) (n : ℕ) (pieces : List Piece) (viewers : List (ℕ × Viewer))
    (more fewer : ℕ) (built : IsBuilt (length characters) d) (there : IsSome (text_numbered d.texts n))
    (moved : AreMoved n (length (flat pieces)) d.viewers viewers) (within : AreWithin (length characters) (flat pieces))
    (looks : AreLooks (flat pieces))
    (long : length (flat pieces) + fewer ≡ length (flat (text_in d.texts n)) + more) where
  moved_as : (all : List ℕ) → AreMoved n (length (seen_text all pieces)) d.viewers viewers
  moved_as all = subst (λ size. AreMoved n size d.viewers viewers) (sym (length_seen_text all pieces)) moved

  all_shaped : (all : List ℕ) → IsShaped (edited (seen all d) n (seen_text all pieces) viewers)
  unfolding seen
  all_shaped all = edited_shaped (seen all d) n (seen_text all pieces) viewers (there_seen all d.texts n there)
      (moved_as all) (built.shaped all) (seen_looks all pieces looks)

  all_shown : texts_shown viewers ≡ texts_shown d.viewers
  unfolding seen
  all_shown = edited_shown (seen [] d) n (seen_text [] pieces) viewers (there_seen [] d.texts n there) (moved_as [])
      (built.shaped [])

  all_held : (all : List ℕ) → characters_held (edited (seen all d) n (seen_text all pieces) viewers) + fewer
      ≡ characters_held (seen all d) + more
  unfolding seen
  all_held all = held_edited (seen all d) n (seen_text all pieces) viewers more fewer (there_seen all d.texts n there)
      (let size = length_seen_text all pieces in let old = long_seen all d.texts n in omega (arith, size, old, long))

  pub edited_built : IsBuilt (length characters) (edited d n pieces viewers)
  edited_built = record {
    within = record {
      texts = All-values-set_value (is_at (nat_cmp n)) (λ pieces. AreWithin (length characters) (flat pieces)) d.texts
          pieces built.within.texts within;
      files = built.within.files;
      copied = built.within.copied;
      deleted = built.within.deleted;
    };
    shaped = λ all. subst IsShaped (sym (edited_seen all d n pieces viewers)) (all_shaped all);
  }

  pub edited_changed : (H : Type 0) (outcome : Desktop) → (H → seen characters (edited d n pieces viewers) ≡ outcome)
      → IsChanged H characters d (edited d n pieces viewers) outcome more fewer
  edited_changed H outcome exact = record {
    exact = exact;
    built = edited_built;
    counted = λ all. ap (λ e. characters_held e + fewer) (edited_seen all d n pieces viewers) ∙ all_held all;
    rest = record {
      numbers = keys-set_value (is_at (nat_cmp n)) d.texts pieces;
      viewers = all_shown;
      written = refl;
    };
  }

-- nothing changes
pub unchanged : (H : Type 0) (characters : List ℕ) (d : KeptDesktop) (outcome : Desktop)
    → IsBuilt (length characters) d → seen characters d ≡ outcome → IsChanged H characters d d outcome 0 0
unchanged H characters d outcome built exact = record {
  exact = λ h. exact;
  built = built;
  counted = λ all. refl;
  rest = record { numbers = refl; viewers = refl; written = refl };
}

-- ---- where frames begin, and the characters of a text

orgs_as : (f g : ℕ → ℕ) → ((m : ℕ) → f m ≡ g m) → (viewers : List (ℕ × Viewer)) → OrgsWithin f viewers
    → OrgsWithin g viewers
orgs_as f g same [] within = tt
orgs_as f g same (e ∷ es) within =
    (subst (λ n. e.1.org ≤ n) (same e.1.main) within.0, orgs_as f g same es within.1)

pub kept_orgs : (characters : List ℕ) (d : KeptDesktop) → IsBuilt (length characters) d
    → OrgsWithin (λ m. length (flat (text_in d.texts m))) d.viewers
unfolding seen
kept_orgs characters d built =
    orgs_as (λ m. length (text_in (seen_table characters d.texts) m)) (λ m. length (flat (text_in d.texts m)))
    (long_seen characters d.texts) d.viewers
    (orgs_within (seen_table characters d.texts) d.viewers (built.shaped characters).viewers)

all_follow : (n more fewer size : ℕ) (long : ℕ → ℕ) → long n + more ≤ size + fewer → (viewers : List (ℕ × Viewer))
    → OrgsWithin long viewers → AllByRecursion (CanFollow n more fewer size) viewers
all_follow n more fewer size long fits [] within = tt
all_follow n more fewer size long fits (e ∷ es) within = (
  (λ is. (let low = subst (λ (m : ℕ). e.1.org ≤ long m) is within.0 in omega (arith, low, fits))),
  all_follow n more fewer size long fits es within.1,
)

pub can_follow : (n more fewer size : ℕ) (long : ℕ → ℕ) → long n + more ≤ size + fewer → (viewers : List (ℕ × Viewer))
    → OrgsWithin long viewers → All (CanFollow n more fewer size) viewers
can_follow n more fewer size long fits viewers within =
    All-from_recursion (CanFollow n more fewer size) viewers (all_follow n more fewer size long fits viewers within)

pub stays_moved : (n size : ℕ) (long : ℕ → ℕ) → long n ≤ size → (viewers : List (ℕ × Viewer)) → OrgsWithin long viewers
    → AreMoved n size viewers viewers
stays_moved n size long fits viewers within = record {
  as_long = refl;
  each = λ k d low. record {
    id = refl;
    menu = refl;
    main = refl;
    other = λ other. refl;
    org = λ is. (let can = can_follow n 0 0 size long (omega (arith, fits)) viewers within k d low is in
        omega (arith, can));
  };
}

-- ---- insertions and deletions, as they are seen

insertion_some : (d : Desktop) (n p : ℕ) (more : Text ℕ) → 0 < length more
    → insertion d n p more ≡ after_change d n (inserted p more (text_of d n)) p (length more) 0
unfolding insertion
insertion_some d n p [] some = absurd (omega (arith, some))
insertion_some d n p (c ∷ more) some = refl

pub insertion_none : (d : Desktop) (n p : ℕ) (more : Text ℕ) → length more ≡ 0 → insertion d n p more ≡ d
unfolding insertion
insertion_none d n p [] none = refl
insertion_none d n p (c ∷ more) none = absurd (omega (arith, none))

deletion_some : (d : Desktop) (n p q : ℕ) → p < q
    → deletion d n p q ≡ after_change d n (deleted p q (text_of d n)) p 0 (q - p)
unfolding deletion
deletion_some d n p q some = ap
    (λ (b : Bool). if b then after_change d n (deleted p q (text_of d n)) p 0 (q - p) else d) (lt-ltb p q some)

module _ (characters : List ℕ) (d : KeptDesktop) (n p more fewer : ℕ) (pieces : List Piece)
    (viewers : List (ℕ × Viewer)) (text : Text ℕ) (text_is : seen_text characters pieces ≡ text)
    (follow : viewers ≡ with_values (following_viewer n (bytes_of_text characters (flat pieces)) p more fewer) d.viewers) where
  change_seen : seen characters (edited d n pieces viewers)
      ≡ after_change (seen characters d) n text p more fewer
  unfolding seen after_change
  change_seen = edited_seen characters d n pieces viewers
      ∙ ap (λ l. edited (seen characters d) n (seen_text characters pieces) l) follow
      ∙ ap (λ (t : Text ℕ). edited (seen characters d) n t
      (with_values (following_viewer n (bytes_of t) p more fewer) d.viewers)) text_is

pub insertion_seen : (characters : List ℕ) (d : KeptDesktop) (n p : ℕ) (buffer pieces : List Piece)
    (viewers : List (ℕ × Viewer)) → 0 < length (flat buffer)
    → flat pieces ≡ inserted p (flat buffer) (flat (text_in d.texts n))
    → viewers ≡ with_values (following_viewer n (bytes_of_text characters (flat pieces)) p (length (flat buffer)) 0) d.viewers
    → seen characters (edited d n pieces viewers) ≡ insertion (seen characters d) n p (seen_text characters buffer)
unfolding seen
insertion_seen characters d n p buffer pieces viewers some is follow =
    let size = length_seen_text characters buffer in
    let text_is : seen_text characters pieces
    ≡ inserted p (seen_text characters buffer) (text_in (seen_table characters d.texts) n) =
    ap (contents characters) is
    ∙ renamed-inserted (λ offset. slice_index characters offset) p (flat buffer) (flat (text_in d.texts n))
    ∙ ap (inserted p (seen_text characters buffer)) (sym (text_in_seen characters d.texts n)) in
    change_seen characters d n p (length (flat buffer)) 0 pieces viewers
    (inserted p (seen_text characters buffer) (text_in (seen_table characters d.texts) n)) text_is follow
    ∙ ap (λ count. after_change (seen characters d) n
    (inserted p (seen_text characters buffer) (text_in (seen_table characters d.texts) n)) p count 0) (sym size)
    ∙ sym (insertion_some (seen characters d) n p (seen_text characters buffer) (omega (arith, size, some)))

pub deletion_seen : (characters : List ℕ) (d : KeptDesktop) (n p q : ℕ) (pieces : List Piece)
    (viewers : List (ℕ × Viewer)) → p < q → flat pieces ≡ deleted p q (flat (text_in d.texts n))
    → viewers ≡ with_values (following_viewer n (bytes_of_text characters (flat pieces)) p 0 (q - p)) d.viewers
    → seen characters (edited d n pieces viewers) ≡ deletion (seen characters d) n p q
unfolding seen
deletion_seen characters d n p q pieces viewers some is follow =
    let text_is : seen_text characters pieces ≡ deleted p q (text_in (seen_table characters d.texts) n) =
    ap (contents characters) is
    ∙ renamed-deleted (λ offset. slice_index characters offset) p q (flat (text_in d.texts n))
    ∙ ap (deleted p q) (sym (text_in_seen characters d.texts n)) in
    change_seen characters d n p 0 (q - p) pieces viewers (deleted p q (text_in (seen_table characters d.texts) n))
    text_is follow
    ∙ sym (deletion_some (seen characters d) n p q some)

-- ---- looks, and a position that is shown

pub looks_seen : (characters : List ℕ) (d : KeptDesktop) (s : Selection) (selector : ℕ) (look : Look)
    (pieces : List Piece)
    → flat pieces ≡ looks_changed s.beg s.end selector look
    (flat (text_in d.texts (viewer_or_none d.viewers s.viewer).main))
    → seen characters (with_selection (edited d (viewer_or_none d.viewers s.viewer).main pieces d.viewers) s)
    ≡ looks_set (seen characters d) s selector look
unfolding seen looks_set
looks_seen characters d s selector look pieces is =
    let n : ℕ = (viewer_or_none d.viewers s.viewer).main in
    let text_is : seen_text characters pieces
    ≡ looks_changed s.beg s.end selector look (text_in (seen_table characters d.texts) n) =
    ap (contents characters) is
    ∙ renamed-looks_changed (λ offset. slice_index characters offset) s.beg s.end selector look
    (flat (text_in d.texts n))
    ∙ ap (looks_changed s.beg s.end selector look) (sym (text_in_seen characters d.texts n)) in
    ap (λ (now : Desktop). with_selection now s)
    (edited_seen characters d n pieces d.viewers
    ∙ ap (λ (t : Text ℕ). edited (seen characters d) n t d.viewers) text_is)

module _ (characters : List ℕ) (d : KeptDesktop) (s : Selection) (pieces : List Piece)
    (built : IsBuilt (length characters) d) (placed : IsOnTop s.viewer d.columns)
    (there : IsSome (text_numbered d.texts (viewer_or_none d.viewers s.viewer).main)) (some : s.beg < s.end)
    (low : s.end ≤ length (flat (text_in d.texts (viewer_or_none d.viewers s.viewer).main)))
    (long : length (flat pieces) ≡ length (flat (text_in d.texts (viewer_or_none d.viewers s.viewer).main)))
    (within : AreWithin (length characters) (flat pieces)) (looks : AreLooks (flat pieces)) where
  abbrev its_text : ℕ
  its_text = (viewer_or_none d.viewers s.viewer).main

  abbrev with_looks : KeptDesktop
  with_looks = edited d its_text pieces d.viewers

  looked : IsChanged ⊤ characters d with_looks (seen characters with_looks) 0 0
  looked = edited_changed characters d its_text pieces d.viewers 0 0 built there
      (stays_moved its_text (length (flat pieces)) (λ m. length (flat (text_in d.texts m)))
      (omega (arith, long)) d.viewers (kept_orgs characters d built)) within looks (omega (arith, long)) ⊤
      (seen characters with_looks) (λ h. refl)

  selected_there : (all : List ℕ)
      → IsSelection (seen all with_looks).columns
      (main_length (seen all with_looks).texts (seen all with_looks).viewers) s
  unfolding seen
  selected_there all = record {
    placed = placed;
    some = some;
    within =
        let now : text_in with_looks.texts its_text ≡ pieces =
        ap (λ (o : Option (List Piece)). unwrap_or o []) (set_same d.texts its_text pieces there) in
        let size = long_seen all with_looks.texts its_text in
        let same = ap (λ (l : List Piece). length (flat l)) now in omega (arith, low, long, size, same);
  }

  looks_built : IsBuilt (length characters) (with_selection with_looks s)
  unfolding seen
  looks_built = record {
    within = within_stays looked.built.within refl;
    shaped = λ all. with_selection_shaped (seen all with_looks) s (looked.built.shaped all) (selected_there all);
  }

  pub looks_changed_so : (outcome : Desktop) → seen characters (with_selection with_looks s) ≡ outcome
      → IsChanged ⊤ characters d (with_selection with_looks s) outcome 0 0
  unfolding seen characters_held
  looks_changed_so outcome exact = record {
    exact = λ h. exact;
    built = looks_built;
    counted = λ all. looked.counted all;
    rest = record { numbers = looked.rest.numbers; viewers = looked.rest.viewers; written = looked.rest.written };
  }

module _ (H : Type 0) (characters : List ℕ) (d : KeptDesktop) (v p org : ℕ) (built : IsBuilt (length characters) d)
    (placed : IsOnTop v d.columns)
    (low : p ≤ length (flat (text_in d.texts (viewer_or_none d.viewers v).main)))
    (org_low : org ≤ length (flat (text_in d.texts (viewer_or_none d.viewers v).main)))
    (exact : H → org ≡ shown_org (bytes_of_text characters (flat (text_in d.texts (viewer_or_none d.viewers v).main)))
    (rows_of d v) p (viewer_or_none d.viewers v).org) where
  abbrev caret_there : KeptDesktop
  caret_there = with_org (with_caret d v p) v org

  shown_seen : H → seen characters caret_there ≡ caret_shown (seen characters d) v p
  unfolding seen showing
  shown_seen h = ap (λ (o : ℕ). with_org (with_caret (seen characters d) v p) v o)
      (exact h ∙ ap (λ (t : Text ℕ). shown_org (bytes_of t) (rows_of d v) p (viewer_or_none d.viewers v).org)
      (sym (text_in_seen characters d.texts (viewer_or_none d.viewers v).main)))

  shown_built : IsBuilt (length characters) caret_there
  unfolding seen
  shown_built = record {
    within = within_stays built.within refl;
    shaped = λ all.
        let size = long_seen all d.texts (viewer_or_none d.viewers v).main in
        with_org_shaped (with_caret (seen all d) v p)
        (with_caret_shaped (seen all d) (built.shaped all) v p placed (omega (arith, low, size))) v org
        (omega (arith, org_low, size));
  }

  pub caret_shown_changed : IsChanged H characters d caret_there (caret_shown (seen characters d) v p) 0 0
  unfolding seen characters_held
  caret_shown_changed = record {
    exact = shown_seen;
    built = shown_built;
    counted = λ all. refl;
    rest = record { numbers = refl; viewers = org_shown (is_at (nat_cmp v)) org d.viewers; written = refl };
  }

-- ---- a text that was set

module _ (characters : List ℕ) (d : KeptDesktop) (texts : Texts (List Piece)) (n : ℕ) (text : Text ℕ) (more fewer : ℕ)
    (built : IsBuilt (length characters) d) (there : IsSome (text_numbered d.texts n)) (set : IsSet d.texts texts n text)
    (long : length text + fewer ≡ length (flat (text_in d.texts n)) + more)
    (within : AreWithin (length characters) text) where
  pub set_there : IsSome (text_numbered texts n)
  set_there = ap (λ (es : Texts (List Piece)). is_some (text_numbered es n)) set.set
      ∙ ap (λ (o : Option (List Piece)). is_some o) (set_same d.texts n (text_in texts n) there)

  pub set_long : length (flat (text_in texts n)) + fewer ≡ length (flat (text_in d.texts n)) + more
  set_long = ap (λ (l : Text ℕ). length l + fewer) set.is ∙ long

  pub set_orgs : All (CanFollow n more fewer (length (flat (text_in texts n)))) d.viewers
  set_orgs = can_follow n more fewer (length (flat (text_in texts n))) (λ m. length (flat (text_in d.texts m)))
      (let size = set_long in omega (arith, size)) d.viewers (kept_orgs characters d built)

  pub set_within : AreWithin (length characters) (flat (text_in texts n))
  set_within = subst (AreWithin (length characters)) (sym set.is) within

  module _ (new : KeptDesktop) (viewers : List (ℕ × Viewer))
      (is : new ≡ record (unmarked (shows d n) (record d { texts = texts })) { viewers = viewers })
      (moved : AreMoved n (length (flat (text_in texts n))) d.viewers viewers) where
    pub set_changed : AreLooks text → (H : Type 0) (outcome : Desktop)
        → (H → seen characters (edited d n (text_in texts n) viewers) ≡ outcome)
        → IsChanged H characters d new outcome more fewer
    set_changed looks H outcome exact =
        subst (λ (now : KeptDesktop). IsChanged H characters d now outcome more fewer)
        (sym (is ∙ (λ k. record (unmarked (shows d n) (record d { texts = set.set k })) { viewers = viewers })))
        (edited_changed characters d n (text_in texts n) viewers more fewer built there moved set_within
        (subst AreLooks (sym set.is) looks) set_long H outcome exact)
