-- Laws of changes: what a desktop holds after each, that it is shaped as before, and how it is seen.
use Rattle.std.specs.Prelude.{◌≡◌, ℕ, ◌+◌, ◌-◌, ◌≤◌, ◌==◌, nat_lt, Bool, true, false, cond, if◌then◌else◌, List, []}
use Rattle.std.specs.Prelude.{◌∷◌, length, Option, Some, None, IsSome}
use Rattle.std.specs.Option.{unwrap_or}
use Rattle.std.specs.Map.{lookup, set_value, keys_of}
use Rattle.std.specs.Ordering.{nat_cmp}
use Rattle.std.specs.BTreeMap.{is_at}
use Rattle.std.proofs.Common.{refl, ap, ◌∙◌, arith}
use Rattle.std.proofs.lemmas.Bool.{ltb-false}
use Rattle.std.proofs.lemmas.Map.{keys-set_value}
use Rattle.std.proofs.lemmas.Map.Entries.{sum_by-set_value}
use Rattle.piece_ring.specs.declared.piece.Look.{Look}
use Rattle.piece_ring.proofs.Lengths.{length-inserted, length-deleted, length-looks_changed}
use Rattle.piece_ring.specs.Text.{Text, inserted, deleted, looks_changed}
use Rattle.text_frames.specs.Rules.{changed_org, shown_org}
use Rattle.desktop_definitions.specs.declared.viewer.Viewer.{Viewer}
use Rattle.desktop_definitions.specs.declared.viewer.Selection.{Selection}
use Rattle.desktop_definitions.specs.Tables.{text_numbered, with_values, lengths}
use Rattle.desktop_definitions.specs.Desktop.{Desktop, characters_held}
use Rattle.desktop_definitions.specs.Viewers.{bare_viewer, viewer_of, text_of, main_of}
use Rattle.desktop_definitions.specs.Viewers.{with_org, rows_of, with_caret, unselected, with_selection}
use Rattle.desktop_definitions.specs.Change.{edited, following_viewer, after_change, insertion, deletion, looks_set, showing}
use Rattle.desktop_definitions.specs.Change.{bytes_of, caret_shown}
use Rattle.desktop_definitions.specs.Changed.{texts_shown, CountsHeld}

-- ---- viewers that show the same texts

pub followed_shown : (n : ℕ) (bytes : List ℕ) (p more fewer : ℕ) (viewers : List (ℕ × Viewer))
    → texts_shown (with_values (following_viewer n bytes p more fewer) viewers) ≡ texts_shown viewers
followed_shown n bytes p more fewer [] = refl
followed_shown n bytes p more fewer (e ∷ es) = elim (e.1.main == n) as
    (λ b. texts_shown ((e.0, if b then record e.1 { org = changed_org bytes p more fewer e.1.org } else e.1)
    ∷ with_values (following_viewer n bytes p more fewer) es) ≡ texts_shown (e ∷ es)) [
      | true ↦ ap (λ l. (e.0, e.1.menu, e.1.main) ∷ l) (followed_shown n bytes p more fewer es)
      | false ↦ ap (λ l. (e.0, e.1.menu, e.1.main) ∷ l) (followed_shown n bytes p more fewer es)
    ]

pub org_shown : (test : ℕ → Bool) (org : ℕ) (viewers : List (ℕ × Viewer))
    → texts_shown (set_value test viewers (record (unwrap_or (lookup test viewers) bare_viewer) { org = org }))
    ≡ texts_shown viewers
org_shown test org [] = refl
org_shown test org (e ∷ es) = elim (test e.0) as
    (λ b. (let viewer = record (unwrap_or (cond b (Some e.1) (lookup test es)) bare_viewer) { org = org } in
    texts_shown (cond b ((e.0, viewer) ∷ es) (e ∷ set_value test es viewer))) ≡ texts_shown (e ∷ es)) [
      | true ↦ refl
      | false ↦ ap (λ l. (e.0, e.1.menu, e.1.main) ∷ l) (org_shown test org es)
    ]

-- ---- what is held

pub is_there : {X : Type 0} (found : Option X) (none : X) → IsSome found → found ≡ Some (unwrap_or found none)
is_there None none some = absurd (cc some)
is_there (Some x) none some = refl

module _ (d : Desktop) (n : ℕ) (text : Text ℕ) (viewers : List (ℕ × Viewer)) (more fewer : ℕ)
    (there : IsSome (text_numbered d.texts n)) (long : length text + fewer ≡ length (text_of d n) + more) where
  pub held_edited : characters_held (edited d n text viewers) + fewer ≡ characters_held d + more
  unfolding characters_held
  held_edited =
      let sum : lengths (set_value (is_at (nat_cmp n)) d.texts text) + length (text_of d n)
      ≡ lengths d.texts + length text =
      sum_by-set_value length (is_at (nat_cmp n)) d.texts (text_of d n) text (is_there (text_numbered d.texts n) [] there) in
      omega (arith, sum, long)

  pub edited_counts : texts_shown viewers ≡ texts_shown d.viewers → CountsHeld d (edited d n text viewers) more fewer
  edited_counts same = record {
    counted = held_edited;
    numbers = keys-set_value (is_at (nat_cmp n)) d.texts text;
    viewers = same;
    written = refl;
  }

-- nothing but marks, looks and orgs
module _ (d new : Desktop) (texts : new.texts ≡ d.texts) (all : characters_held new ≡ characters_held d)
    (viewers : texts_shown new.viewers ≡ texts_shown d.viewers) (written : new.written ≡ d.written) where
  same_counts : CountsHeld d new 0 0
  same_counts = record {
    counted = ap (λ n. n + 0) all;
    numbers = ap keys_of texts;
    viewers = viewers;
    written = written;
  }

pub counts_none : (d : Desktop) → CountsHeld d d 0 0
counts_none d = same_counts d d refl refl refl refl

pub counts_further : (old mid new : Desktop) (more fewer again less : ℕ) → CountsHeld old mid more fewer
    → CountsHeld mid new again less → CountsHeld old new (more + again) (fewer + less)
counts_further old mid new more fewer again less first second = record {
  counted = omega (arith, first.counted, second.counted);
  numbers = second.numbers ∙ first.numbers;
  viewers = second.viewers ∙ first.viewers;
  written = second.written ∙ first.written;
}

-- as many more and fewer by other numbers
pub counts_as : (old new : Desktop) (more fewer again less : ℕ) → CountsHeld old new more fewer
    → more + less ≡ again + fewer → CountsHeld old new again less
counts_as old new more fewer again less counts same = record {
  counted = omega (arith, counts.counted, same);
  numbers = counts.numbers;
  viewers = counts.viewers;
  written = counts.written;
}

pub change_counts : (d : Desktop) (n : ℕ) (text : Text ℕ) (p more fewer : ℕ) → IsSome (text_numbered d.texts n)
    → length text + fewer ≡ length (text_of d n) + more → CountsHeld d (after_change d n text p more fewer) more fewer
unfolding after_change
change_counts d n text p more fewer there long =
    edited_counts d n text (with_values (following_viewer n (bytes_of text) p more fewer) d.viewers) more fewer there long
    (followed_shown n (bytes_of text) p more fewer d.viewers)

pub insertion_counts : (d : Desktop) (n p : ℕ) (more : Text ℕ) → IsSome (text_numbered d.texts n)
    → CountsHeld d (insertion d n p more) (length more) 0
unfolding insertion
insertion_counts d n p [] there = counts_none d
insertion_counts d n p (c ∷ more) there =
    change_counts d n (inserted p (c ∷ more) (text_of d n)) p (length (c ∷ more)) 0 there
    (let long = length-inserted p (c ∷ more) (text_of d n) in omega (arith, long))

pub deletion_counts : (d : Desktop) (n p q : ℕ) → IsSome (text_numbered d.texts n) → p ≤ q → q ≤ length (text_of d n)
    → CountsHeld d (deletion d n p q) 0 (q - p)
unfolding deletion
deletion_counts d n p q there order within =
    (elim (nat_lt p q) as (λ b. nat_lt p q ≡ b
    → CountsHeld d (if b then after_change d n (deleted p q (text_of d n)) p 0 (q - p) else d) 0 (q - p)) [
      | true ↦ λ some. change_counts d n (deleted p q (text_of d n)) p 0 (q - p) there
          (let long = length-deleted p q (text_of d n) order within in omega (arith, long))
      | false ↦ λ none. counts_as d d 0 0 0 (q - p) (counts_none d)
          (let all = ltb-false p q none in omega (arith, all, order))
    ]) refl

pub with_org_counts : (d : Desktop) (v org : ℕ) → CountsHeld d (with_org d v org) 0 0
unfolding characters_held
with_org_counts d v org =
    same_counts d (with_org d v org) refl refl (org_shown (is_at (nat_cmp v)) org d.viewers) refl

pub showing_counts : (d : Desktop) (v p : ℕ) → CountsHeld d (showing d v p) 0 0
unfolding showing
showing_counts d v p = with_org_counts d v (shown_org (bytes_of (main_of d v)) (rows_of d v) p (viewer_of d v).org)

pub with_caret_counts : (d : Desktop) (v p : ℕ) → CountsHeld d (with_caret d v p) 0 0
unfolding characters_held
with_caret_counts d v p = same_counts d (with_caret d v p) refl refl refl refl

pub caret_shown_counts : (d : Desktop) (v p : ℕ) → CountsHeld d (caret_shown d v p) 0 0
caret_shown_counts d v p =
    counts_further d (with_caret d v p) (caret_shown d v p) 0 0 0 0 (with_caret_counts d v p)
    (showing_counts (with_caret d v p) v p)

pub unselected_counts : (d : Desktop) (v : ℕ) → CountsHeld d (unselected d v) 0 0
unfolding characters_held
unselected_counts d v = same_counts d (unselected d v) refl refl refl refl

pub with_selection_counts : (d : Desktop) (s : Selection) → CountsHeld d (with_selection d s) 0 0
unfolding characters_held
with_selection_counts d s = same_counts d (with_selection d s) refl refl refl refl

pub looks_set_counts : (d : Desktop) (s : Selection) (selector : ℕ) (look : Look)
    → IsSome (text_numbered d.texts (viewer_of d s.viewer).main) → s.beg ≤ s.end → s.end ≤ length (main_of d s.viewer)
    → CountsHeld d (looks_set d s selector look) 0 0
unfolding looks_set
looks_set_counts d s selector look there order within =
    let n : ℕ = (viewer_of d s.viewer).main in
    let text : Text ℕ = looks_changed s.beg s.end selector look (text_of d n) in
    let long : length text ≡ length (text_of d n) =
    length-looks_changed s.beg s.end selector look (text_of d n) order within in
    counts_further d (edited d n text d.viewers) (looks_set d s selector look) 0 0 0 0
    (edited_counts d n text d.viewers 0 0 there (omega (arith, long)) refl)
    (with_selection_counts (edited d n text d.viewers) s)
