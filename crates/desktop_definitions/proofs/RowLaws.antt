-- Laws of rows: what a row owes that changed the desktop, where the limits on characters refuse it, and what holds of
-- the viewers and texts that it changes.
use Rattle.std.specs.Prelude.{◌≡◌, ◌<◌, ◌≤◌, ℕ, ◌+◌, ◌==◌, ◌&&◌, ◌||◌, nat_le, Bool, true, false, if◌then◌else◌, cond}
use Rattle.std.specs.Prelude.{IsTrue, IsSome, is_some, All, List, [], ◌∷◌, ◌++◌, length, Option, Some, None, Ok}
use Rattle.std.specs.Option.{unwrap_or}
use Rattle.std.specs.List.{list_any}
use Rattle.std.specs.Map.{keys_of, values_of}
use Rattle.std.specs.Ordering.{nat_cmp}
use Rattle.std.specs.BTreeMap.{is_at}
use Rattle.std.proofs.Common.{refl, sym, ap, subst, ◌∙◌, length-append, arith, inl, inr}
use Rattle.std.proofs.lemmas.Bool.{and_parts, and_from, leb-true, leb-false, le-leb, lt-leb}
use Rattle.std.proofs.lemmas.List.Elements.{All-weaker}
use Rattle.std.proofs.lemmas.List.Sums.{sum_by-cons}
use Rattle.std.proofs.lemmas.Map.Made.{keys_of-map_values}
use Rattle.sector_disk.specs.Faults.{OneOf}
use Rattle.piece_ring.specs.declared.piece.Piece.{Piece}
use Rattle.piece_ring.specs.Flat.{flat}
use Rattle.viewer_tracks.specs.Columns.{Columns, IsPlaced}
use Rattle.desktop_definitions.specs.declared.viewer.Viewer.{Viewer}
use Rattle.desktop_definitions.specs.declared.viewer.ClosedViewer.{ClosedViewer}
use Rattle.desktop_definitions.specs.declared.reply.Reply.TheVariants.{Done, No}
use Rattle.desktop_definitions.specs.Limits.{most_written, most_held, no_caret, no_selection, no_command, no_file, full}
use Rattle.desktop_definitions.specs.Limits.{too_many_files, outside, wrong_symbol, no_viewer as viewer_missing}
use Rattle.desktop_definitions.specs.Limits.{not_found, bad_value, too_deep, too_low}
use Rattle.desktop_definitions.specs.Tables.{Texts, text_numbered}
use Rattle.desktop_definitions.proofs.TableLaws.{lookup_seen, is_some_map, kept_lengths, lengths_seen}
use Rattle.desktop_definitions.specs.Desktop.{Desktop, KeptDesktop, characters_held}
use Rattle.desktop_definitions.specs.Viewers.{viewer_in, viewer_or_none, text_in, bare_viewer}
use Rattle.desktop_definitions.specs.Opening.{is_shown}
use Rattle.desktop_definitions.specs.Change.{more_written}
use Rattle.desktop_definitions.specs.Seen.{seen, seen_text, seen_table}
use Rattle.desktop_definitions.proofs.SeenLaws.{within_counted}
use Rattle.desktop_definitions.specs.Step.{fits, outcome_after, outcome_of}
use Rattle.desktop_definitions.proofs.StepLaws.{AllShown, settled_done, settled_full}
use Rattle.desktop_definitions.specs.Sound.{AreViewers, ArePlaces, IsSound, IsWithin, IsBuilt, IsOver}
use Rattle.desktop_definitions.specs.Changed.{texts_shown, IsChanged, CountsHeld}
use Rattle.desktop_definitions.specs.Outcome.{reply_codes, IsAnswered}
use Rattle.desktop_definitions.proofs.OutcomeLaws.{refused, acted, within_longer}
use Rattle.desktop_definitions.proofs.LookedLaws.{written_shaped, within_stays}
use Rattle.desktop_definitions.specs.DeskWords.{has_space}

-- ---- the codes

pub known_no_caret : OneOf reply_codes no_caret
known_no_caret = inl refl

pub known_no_selection : OneOf reply_codes no_selection
known_no_selection = inr (inl refl)

pub known_no_command : OneOf reply_codes no_command
known_no_command = inr (inr (inl refl))

pub known_no_file : OneOf reply_codes no_file
known_no_file = inr (inr (inr (inl refl)))

pub known_full : OneOf reply_codes full
known_full = inr (inr (inr (inr (inl refl))))

pub known_too_many_files : OneOf reply_codes too_many_files
known_too_many_files = inr (inr (inr (inr (inr (inl refl)))))

pub known_outside : OneOf reply_codes outside
known_outside = inr (inr (inr (inr (inr (inr (inl refl))))))

pub known_wrong_symbol : OneOf reply_codes wrong_symbol
known_wrong_symbol = inr (inr (inr (inr (inr (inr (inr (inl refl)))))))

pub known_no_viewer : OneOf reply_codes viewer_missing
known_no_viewer = inr (inr (inr (inr (inr (inr (inr (inr (inl refl))))))))

pub known_not_found : OneOf reply_codes not_found
known_not_found = inr (inr (inr (inr (inr (inr (inr (inr (inr (inl refl)))))))))

pub known_bad_value : OneOf reply_codes bad_value
known_bad_value = inr (inr (inr (inr (inr (inr (inr (inr (inr (inr (inl refl))))))))))

pub known_too_deep : OneOf reply_codes too_deep
known_too_deep = inr (inr (inr (inr (inr (inr (inr (inr (inr (inr (inr (inl refl)))))))))))

pub known_too_low : OneOf reply_codes too_low
known_too_low = inr (inr (inr (inr (inr (inr (inr (inr (inr (inr (inr (inr refl)))))))))))

-- ---- texts that are shown

abbrev among : List (ℕ × ℕ × ℕ) → ℕ → Bool
among shown n = list_any (λ (e : ℕ × ℕ × ℕ). (e.1 == n) || (e.2 == n)) shown

any_shown : (n : ℕ) (viewers : List (ℕ × Viewer))
    → list_any (λ (e : ℕ × Viewer). (e.1.menu == n) || (e.1.main == n)) viewers ≡ among (texts_shown viewers) n
any_shown n [] = refl
any_shown n (e ∷ es) = ap (λ b. ((e.1.menu == n) || (e.1.main == n)) || b) (any_shown n es)

-- the same viewers show the same texts, so no text is left over where none was
pub shown_rest : (d new : Desktop) → keys_of new.texts ≡ keys_of d.texts
    → texts_shown new.viewers ≡ texts_shown d.viewers → AllShown d → AllShown new
shown_rest d new numbers viewers all =
    let same : (n : ℕ) → is_shown d.viewers n ≡ is_shown new.viewers n = λ n. ap (λ b. (n == 0) || b)
    (any_shown n d.viewers ∙ ap (λ shown. among shown n) (sym viewers) ∙ sym (any_shown n new.viewers)) in
    subst (All (λ n. IsTrue (is_shown new.viewers n))) (sym numbers)
    (All-weaker (λ n. IsTrue (is_shown d.viewers n)) (λ n. IsTrue (is_shown new.viewers n))
    (λ n shown. subst IsTrue (same n) shown) (keys_of d.texts) all)

-- ---- the limits

pub space_written : (d : Desktop) (made more fewer : ℕ) → has_space d made more fewer ≡ true
    → d.written + made ≤ most_written
unfolding has_space
space_written d made more fewer space = leb-true _ _ (and_parts _ _ space).0

pub space_held : (d : Desktop) (made more fewer : ℕ) → has_space d made more fewer ≡ true
    → characters_held d + more ≤ most_held + fewer
unfolding has_space
space_held d made more fewer space = leb-true _ _ (and_parts _ _ space).1

pub fit_sound : (d : Desktop) → IsSound d → fits d ≡ true
fit_sound d sound = and_from _ _ (le-leb _ _ sound.written_within) (le-leb _ _ sound.held_within)

-- a sound desktop has space for what makes nothing and holds no more
pub space_sound : (d : Desktop) (fewer : ℕ) → IsSound d → has_space d 0 0 fewer ≡ true
unfolding has_space
space_sound d fewer sound = and_from _ _
    (le-leb (d.written + 0) most_written (let low = sound.written_within in omega (arith, low)))
    (le-leb (characters_held d + 0) (most_held + fewer) (let low = sound.held_within in omega (arith, low)))

shifted : (h x m f : ℕ) → h + f ≡ x → nat_le x (m + f) ≡ nat_le h m
shifted h x m f is = (elim (nat_le h m) as (λ b. nat_le h m ≡ b → nat_le x (m + f) ≡ b) [
  | true ↦ λ low. le-leb x (m + f) (let l = leb-true h m low in omega (arith, l, is))
  | false ↦ λ high. lt-leb x (m + f) (let l = leb-false h m high in omega (arith, l, is))
]) refl

-- the limits after a row, by what it makes and what it holds more and fewer
pub space_made : (d new : Desktop) (made more fewer : ℕ) → CountsHeld d new more fewer
    → has_space d made more fewer ≡ fits (more_written new made)
unfolding has_space characters_held
space_made d new made more fewer counts = λ k.
    nat_le (sym counts.written k + made) most_written
    && shifted (characters_held new) (characters_held d + more) most_held fewer counts.counted k

plus_zero : (n : ℕ) → n + 0 ≡ n
plus_zero n = omega arith

-- the same where it makes none
pub space_rest : (d new : Desktop) (more fewer : ℕ) → CountsHeld d new more fewer → has_space d 0 more fewer ≡ fits new
unfolding has_space characters_held
space_rest d new more fewer counts = λ k.
    nat_le ((plus_zero d.written ∙ sym counts.written) k) most_written
    && shifted (characters_held new) (characters_held d + more) most_held fewer counts.counted k

-- ---- refusals for the limits

unfit_answered : (H : Type 0) (old : List ℕ) (d : KeptDesktop) (new : Desktop) → IsOver old d
    → AllShown new → fits new ≡ false
    → IsAnswered H old old d d (outcome_after (seen old d) (Ok new)) (No full)
unfit_answered H old d new over shown unfit = refused H old d _ full over known_full (λ h.
    sym (settled_full (seen old d) new shown unfit))

shown_counted : (d new : Desktop) (more fewer : ℕ) → CountsHeld d new more fewer → IsSound d → AllShown new
shown_counted d new more fewer counts sound = shown_rest d new counts.numbers counts.viewers sound.shown

-- a row that makes characters is refused where there is no space
pub full_answered : (H : Type 0) (old : List ℕ) (d : KeptDesktop) (new : Desktop) (made more fewer : ℕ) → IsOver old d
    → CountsHeld (seen old d) new more fewer → has_space (seen old d) made more fewer ≡ false
    → IsAnswered H old old d d (outcome_after (seen old d) (Ok (more_written new made))) (No full)
full_answered H old d new made more fewer over counts none =
    unfit_answered H old d (more_written new made) over
    (shown_counted (seen old d) new more fewer counts (over.whole.sound old))
    (sym (space_made (seen old d) new made more fewer counts) ∙ none)

-- and so is one that makes none
pub full_rest_answered : (H : Type 0) (old : List ℕ) (d : KeptDesktop) (new : Desktop) (more fewer : ℕ) → IsOver old d
    → CountsHeld (seen old d) new more fewer → has_space (seen old d) 0 more fewer ≡ false
    → IsAnswered H old old d d (outcome_after (seen old d) (Ok new)) (No full)
full_rest_answered H old d new more fewer over counts none =
    unfit_answered H old d new over (shown_counted (seen old d) new more fewer counts (over.whole.sound old))
    (sym (space_rest (seen old d) new more fewer counts) ∙ none)

-- ---- rows that are done

settled_sound : (d new : Desktop) → IsSound new → outcome_after d (Ok new) ≡ (outcome_of new Done)
settled_sound d new sound = settled_done d new sound.shown (fit_sound new sound)

-- what is over its characters after a row, and seen as its outcome, is the event done
pub row_answered : (H : Type 0) (old new : List ℕ) (before after : KeptDesktop) (outcome : Desktop) → IsOver new after
    → (H → seen new after ≡ outcome)
    → IsAnswered H old new before after (outcome_after (seen old before) (Ok outcome)) Done
row_answered H old new before after outcome over is = acted H old new before after _ over (λ h.
    let sound : IsSound outcome = subst IsSound (is h) (over.whole.sound new) in
    (λ k. outcome_of (is h k) Done) ∙ sym (settled_sound (seen old before) outcome sound))

module _ {H : Type 0} (old now new : List ℕ) (before after : KeptDesktop) (outcome : Desktop) (made more fewer : ℕ)
    (over : IsOver old before) (changed : IsChanged H now before after outcome more fewer)
    (grown : length now ≡ length old + made) (long : length new ≡ length now)
    (space : (all : List ℕ) → has_space (seen all before) made more fewer ≡ true) where
  shown_seen : (all : List ℕ) → AllShown (seen all after)
  unfolding seen
  shown_seen all = shown_rest (seen all before) (seen all after)
      (keys_of-map_values (seen_text all) after.texts ∙ changed.rest.numbers
      ∙ sym (keys_of-map_values (seen_text all) before.texts))
      changed.rest.viewers (over.whole.sound all).shown

  counted : length new ≡ after.written + made
  counted = omega (arith, grown, long, over.counted, changed.rest.written)

  within : IsWithin (after.written + made) after
  within = subst (λ n. IsWithin n after) (sym long ∙ counted) changed.built.within

  written_within : (all : List ℕ) → after.written + made ≤ most_written
  unfolding seen
  written_within all =
      let low = space_written (seen all before) made more fewer (space all) in
      omega (arith, low, changed.rest.written)

  held_within : (all : List ℕ) → characters_held (seen all after) ≤ most_held
  held_within all =
      let low = space_held (seen all before) made more fewer (space all) in
      omega (arith, low, changed.counted all)

  -- a row that makes characters leaves the desktop over them and the old ones
  pub changed_over : IsOver new (more_written after made)
  unfolding seen characters_held
  changed_over = record {
    counted = counted;
    whole = record {
      within = within_stays within refl;
      sound = λ all. record {
        shaped = written_shaped (after.written + made) (changed.built.shaped all);
        shown = shown_seen all;
        written_within = written_within all;
        held_within = held_within all;
      };
    };
  }

-- a row that makes characters is done
pub changed_answered : (H : Type 0) (old made now new : List ℕ) (before after : KeptDesktop) (outcome : Desktop)
    (more fewer : ℕ) → IsOver old before → now ≡ old ++ made → length new ≡ length now → (H → new ≡ now)
    → IsChanged H now before after outcome more fewer
    → ((all : List ℕ) → has_space (seen all before) (length made) more fewer ≡ true)
    → IsAnswered H old new before (more_written after (length made))
    (outcome_after (seen old before) (Ok (more_written outcome (length made)))) Done
unfolding seen
changed_answered H old made now new before after outcome more fewer over grown long same changed space =
    row_answered H old new before (more_written after (length made)) (more_written outcome (length made))
    (changed_over old now new before after outcome (length made) more fewer over changed
    (ap length grown ∙ length-append old made) long space)
    (λ h. ap (λ (l : List ℕ). seen l (more_written after (length made))) (same h)
    ∙ ap (λ (d : Desktop). more_written d (length made)) (changed.exact h))

none_more : (d : KeptDesktop) → more_written d 0 ≡ d
none_more d = λ k. record d { written = plus_zero d.written k }

-- a row that makes none leaves the desktop over the old ones
pub rest_over : {H : Type 0} (old now new : List ℕ) (before after : KeptDesktop) (outcome : Desktop)
    (more fewer : ℕ) → IsOver old before → IsChanged H now before after outcome more fewer → length now ≡ length old
    → length new ≡ length now → ((all : List ℕ) → has_space (seen all before) 0 more fewer ≡ true)
    → IsOver new after
rest_over old now new before after outcome more fewer over changed as_long long space =
    subst (IsOver new) (none_more after)
    (changed_over old now new before after outcome 0 more fewer over changed (omega (arith, as_long)) long space)

-- a row that makes none is done
pub rest_answered : (H : Type 0) (old new : List ℕ) (before after : KeptDesktop) (outcome : Desktop) (more fewer : ℕ)
    → IsOver old before → length new ≡ length old → (H → new ≡ old) → IsChanged H old before after outcome more fewer
    → ((all : List ℕ) → has_space (seen all before) 0 more fewer ≡ true)
    → IsAnswered H old new before after (outcome_after (seen old before) (Ok outcome)) Done
rest_answered H old new before after outcome more fewer over long same changed space =
    row_answered H old new before after outcome
    (rest_over old old new before after outcome more fewer over changed refl long space)
    (λ h. ap (λ (l : List ℕ). seen l after) (same h) ∙ changed.exact h)

-- and so is one that makes none and holds no more
pub fewer_answered : (H : Type 0) (old new : List ℕ) (before after : KeptDesktop) (outcome : Desktop) (fewer : ℕ)
    → IsOver old before → length new ≡ length old → (H → new ≡ old) → IsChanged H old before after outcome 0 fewer
    → IsAnswered H old new before after (outcome_after (seen old before) (Ok outcome)) Done
fewer_answered H old new before after outcome fewer over long same changed =
    rest_answered H old new before after outcome 0 fewer over long same changed
    (λ all. space_sound (seen all before) fewer (over.whole.sound all))

-- ---- parts of a row

pub over_built : (old : List ℕ) (d : KeptDesktop) → IsOver old d → IsBuilt (length old) d
over_built old d over = record {
  within = within_counted old d over;
  shaped = λ all. (over.whole.sound all).shaped;
}

pub built_longer : (n m : ℕ) (d : KeptDesktop) → n ≤ m → IsBuilt n d → IsBuilt m d
built_longer n m d low built = record { within = within_longer n m d low built.within; shaped = built.shaped }

-- the outcome by another name
pub changed_as : {H : Type 0} {cs : List ℕ} {a b : KeptDesktop} {x : Desktop} {more fewer : ℕ} (y : Desktop)
    → IsChanged H cs a b x more fewer → (H → x ≡ y) → IsChanged H cs a b y more fewer
changed_as y changed is = record {
  exact = λ h. changed.exact h ∙ is h;
  built = changed.built;
  counted = changed.counted;
  rest = changed.rest;
}

-- and under another premise
pub changed_under : {H G : Type 0} {cs : List ℕ} {a b : KeptDesktop} {x : Desktop} {more fewer : ℕ} → (G → H)
    → IsChanged H cs a b x more fewer → IsChanged G cs a b x more fewer
changed_under so changed = record {
  exact = λ g. changed.exact (so g);
  built = changed.built;
  counted = changed.counted;
  rest = changed.rest;
}

-- nothing changed
pub unchanged : (H : Type 0) (cs : List ℕ) (d : KeptDesktop) → IsBuilt (length cs) d
    → IsChanged H cs d d (seen cs d) 0 0
unchanged H cs d built = record {
  exact = λ h. refl;
  built = built;
  counted = λ all. omega arith;
  rest = record { numbers = refl; viewers = refl; written = refl };
}

-- Two parts, one after another; between them the characters were only read.
pub changed_further : {H G : Type 0} (cs ds : List ℕ) (a b c : KeptDesktop) (x : Desktop) (f : Desktop → Desktop)
    (m n g h more fewer : ℕ)
    → (H → G) → length ds ≡ length cs → (H → ds ≡ cs)
    → IsChanged H cs a b x m g → IsChanged G ds b c (f (seen ds b)) n h
    → more ≡ m + n → fewer ≡ g + h
    → IsChanged H cs a c (f x) more fewer
changed_further cs ds a b c x f m n g h more fewer so long same first next more_is fewer_is = record {
  exact = λ honest.
      ap (λ (l : List ℕ). seen l c) (sym (same honest))
      ∙ next.exact (so honest)
      ∙ ap f (ap (λ (l : List ℕ). seen l b) (same honest) ∙ first.exact honest);
  built = subst (λ n. IsBuilt n c) long next.built;
  counted = λ all. omega (arith, first.counted all, next.counted all, more_is, fewer_is);
  rest = record {
    numbers = next.rest.numbers ∙ first.rest.numbers;
    viewers = next.rest.viewers ∙ first.rest.viewers;
    written = next.rest.written ∙ first.rest.written;
  };
}

-- the same of counts
pub counts_then : (a b c : Desktop) (m n g h more fewer : ℕ) → CountsHeld a b m g → CountsHeld b c n h
    → more ≡ m + n → fewer ≡ g + h → CountsHeld a c more fewer
counts_then a b c m n g h more fewer first next more_is fewer_is = record {
  counted = omega (arith, first.counted, next.counted, more_is, fewer_is);
  numbers = next.numbers ∙ first.numbers;
  viewers = next.viewers ∙ first.viewers;
  written = next.written ∙ first.written;
}

-- ---- viewers in tracks, and their texts

some_placed : (found : Bool) (a b : ℕ) → a + b ≡ (if found then 1 else 0) → 0 < a → found ≡ true
some_placed true a b is low = refl
some_placed false a b is low = absurd (omega (arith, is, low))

-- a viewer in a track is in the table
pub placed_there : {viewers : List (ℕ × Viewer)} {columns : Columns} {closed : Option ClosedViewer}
    → ArePlaces viewers columns closed → (v : ℕ) → IsPlaced v columns → IsSome (viewer_in viewers v)
placed_there places v placed = some_placed _ _ _ (places.once v) placed

-- the main text of a viewer is there
pub main_there : {X : Type 0} (texts : Texts (List X)) (viewers : List (ℕ × Viewer)) → AreViewers texts viewers
    → (v : ℕ) → IsSome (viewer_in viewers v) → IsSome (text_numbered texts (viewer_or_none viewers v).main)
main_there texts viewers are v some = (elim (viewer_in viewers v) as
    (λ (found : Option Viewer). viewer_in viewers v ≡ found → IsSome found
    → IsSome (text_numbered texts (unwrap_or found bare_viewer).main)) [
      | None ↦ λ is none. absurd (cc none)
      | Some viewer ↦ λ is there. (are.each v viewer is).main
    ]) refl some

pub main_seen : (d : Desktop) → AreViewers d.texts d.viewers → ArePlaces d.viewers d.columns d.closed → (v : ℕ)
    → IsPlaced v d.columns → IsSome (text_numbered d.texts (viewer_or_none d.viewers v).main)
main_seen d are places v placed = main_there d.texts d.viewers are v (placed_there places v placed)

-- the same of a desktop that is kept
pub main_kept : (n : ℕ) (d : KeptDesktop) → IsBuilt n d → (v : ℕ) → IsPlaced v d.columns
    → IsSome (text_numbered d.texts (viewer_or_none d.viewers v).main)
unfolding seen
main_kept n d built v placed =
    let m = (viewer_or_none d.viewers v).main in
    let there : IsSome (text_numbered (seen_table [] d.texts) m)
    = main_seen (seen [] d) (built.shaped []).viewers (built.shaped []).places v placed in
    sym (ap is_some (lookup_seen (seen_text []) (is_at (nat_cmp m)) d.texts)
    ∙ is_some_map (seen_text []) (text_numbered d.texts m)) ∙ there

main_among : List (ℕ × ℕ × ℕ) → ℕ → ℕ
main_among [] v = 0
main_among (e ∷ es) v = cond (is_at (nat_cmp v) e.0) e.2 (main_among es v)

main_shown : (viewers : List (ℕ × Viewer)) (v : ℕ)
    → (viewer_or_none viewers v).main ≡ main_among (texts_shown viewers) v
unfolding main_among
main_shown [] v = refl
main_shown (e ∷ es) v = elim (is_at (nat_cmp v) e.0) as
    (λ b. (unwrap_or (cond b (Some e.1) (viewer_in es v)) bare_viewer).main
    ≡ cond b e.1.main (main_among (texts_shown es) v)) [ true ↦ refl | false ↦ main_shown es v ]

-- viewers that show the same texts have the same main texts
pub same_main : (a b : List (ℕ × Viewer)) (v : ℕ) → texts_shown b ≡ texts_shown a
    → (viewer_or_none b v).main ≡ (viewer_or_none a v).main
same_main a b v same =
    main_shown b v ∙ ap (λ (l : List (ℕ × ℕ × ℕ)). main_among l v) same ∙ sym (main_shown a v)

one_of : (texts : Texts (List Piece)) (n : ℕ) → length (flat (text_in texts n)) ≤ kept_lengths texts
one_of [] n = omega arith
one_of (e ∷ es) n =
    let sum = sum_by-cons (λ (pieces : List Piece). length (flat pieces)) e.1 (values_of es) in
    let rest = one_of es n in
    elim (is_at (nat_cmp n) e.0) as
    (λ b. length (flat (unwrap_or (cond b (Some e.1) (text_numbered es n)) [])) ≤ kept_lengths (e ∷ es)) [
      | true ↦ omega (arith, sum)
      | false ↦ omega (arith, sum, rest)
    ]

-- no text has more characters than the desktop
pub text_held : (d : KeptDesktop) (n : ℕ) → length (flat (text_in d.texts n)) ≤ characters_held (seen [] d)
unfolding seen characters_held
text_held d n =
    let one = one_of d.texts n in
    let all = lengths_seen [] d.texts in
    omega (arith, one, all)
