-- Laws of the step: each row by its cases, what it holds after a row, and that it leaves a sound desktop.
use Rattle.std.specs.Prelude.{◌≡◌, ℕ, suc, ◌+◌, ◌≤◌, ◌&&◌, nat_le, IsTrue, Bool, true, false, List, [], ◌∷◌, length}
use Rattle.std.specs.Prelude.{filter}
use Rattle.std.specs.Prelude.{All, Ok}
use Rattle.std.specs.Map.{keys_of}
use Rattle.std.specs.List.Sorted.{IsStrictlySortedBy}
use Rattle.std.proofs.Common.{refl, sym, ap, arith, rules}
use Rattle.std.proofs.lemmas.Bool.{leb-true}
use Rattle.std.proofs.lemmas.Cmp.{nat_cmp_total, lists_total}
use Rattle.std.proofs.lemmas.List.Elements.{All-nil, All-cons}
use Rattle.std.proofs.lemmas.Map.Views.{All-keys-insert_entry}
use Rattle.piece_ring.specs.Text.{Text}
use Rattle.viewer_tracks.specs.Viewers.{Entry}
use Rattle.viewer_tracks.specs.Columns.{IsStack, track_of}
use Rattle.event_bytes.specs.Bytes.{is_name}
use Rattle.event_bytes.specs.declared.event.Event.TheVariants.{File}
use Rattle.desktop_definitions.specs.declared.reply.Reply.TheVariants.{Done, No}
use Rattle.desktop_definitions.specs.Limits.{most_written, most_held, full, too_many_files}
use Rattle.desktop_definitions.specs.Tables.{Texts, name_cmp, file_put, has_file_room, lengths}
use Rattle.desktop_definitions.proofs.TableLaws.{rising_put, put_few}
use Rattle.desktop_definitions.specs.Desktop.{Desktop, empty_desktop, characters_held}
use Rattle.desktop_definitions.specs.Opening.{is_shown, without_unshown}
use Rattle.desktop_definitions.specs.Change.{plain_text}
use Rattle.desktop_definitions.specs.Step.{filed, fits, outcome_after, raw, step, step_in, outcome_of}
use Rattle.desktop_definitions.specs.Sound.{IsShaped, IsSound}
use Rattle.desktop_definitions.specs.Looks.{AreLooks}
use Rattle.desktop_definitions.proofs.LookedLaws.{default_is_look, no_looks, looks_stay, put_looks}

-- ---- the end of an event

-- no text is left over
abbrev pub AllShown : Desktop → Type 0
AllShown d = All (λ n. IsTrue (is_shown d.viewers n)) (keys_of d.texts)

keep_all : {T : Type 0} (test : ℕ → Bool) (texts : Texts T) → All (λ n. IsTrue (test n)) (keys_of texts)
    → filter (λ e. test e.0) texts ≡ texts
keep_all test [] all = refl
keep_all test (e ∷ es) all =
    rw (all 0 e.0 (omega arith))
    (ap (λ l. e ∷ l) (keep_all test es (λ i n low. all (suc i) n (omega (arith, low)))))

-- where no text is left over none goes
pub all_stay : (d : Desktop) → AllShown d → without_unshown d ≡ d
unfolding without_unshown
all_stay d all = λ k. record d { texts = keep_all (is_shown d.viewers) d.texts all k }

pub settled_done : (d new : Desktop) → AllShown new → fits new ≡ true → outcome_after d (Ok new) ≡ (outcome_of new Done)
unfolding outcome_after
settled_done d new all fit = rw (all_stay new all, fit) refl

pub settled_full : (d new : Desktop) → AllShown new → fits new ≡ false → outcome_after d (Ok new) ≡ (outcome_of d (No full))
unfolding outcome_after
settled_full d new all unfit = rw (all_stay new all, unfit) refl

-- ---- a file

module _ (d : Desktop) (name bytes : List ℕ) (all : AllShown d) where
  pub file_no_room : has_file_room d.files name ≡ false → outcome_of d (No too_many_files) ≡ step d (File name bytes)
  unfolding step step_in outcome_after raw
  file_no_room none = rw none refl

  pub file_full : has_file_room d.files name ≡ true → fits (filed d name (plain_text bytes)) ≡ false
      → outcome_of d (No full) ≡ step d (File name bytes)
  unfolding step step_in raw filed
  file_full room unfit = rw room (sym (settled_full d (filed d name (plain_text bytes)) all unfit))

  pub file_done : has_file_room d.files name ≡ true → fits (filed d name (plain_text bytes)) ≡ true
      → outcome_of (filed d name (plain_text bytes)) Done ≡ step d (File name bytes)
  unfolding step step_in raw filed
  file_done room fit = rw room (sym (settled_done d (filed d name (plain_text bytes)) all fit))

-- ---- the limits

-- the limits, by numbers that are at hand
pub fits_by : (d : Desktop) (written all : ℕ) → written ≡ d.written → all ≡ characters_held d
    → (nat_le written most_written && nat_le all most_held) ≡ fits d
fits_by d written all w h = rw (w, h) refl

pub held_filed : (d : Desktop) (name : List ℕ) (text : Text ℕ) (gone : ℕ)
    → lengths (file_put d.files name text) + gone ≡ lengths d.files + length text
    → characters_held (filed d name text) + gone ≡ characters_held d + length text
unfolding filed characters_held
held_filed d name text gone sum = omega (arith, sum)

pub files_held : (d : Desktop) → lengths d.files ≤ characters_held d
unfolding characters_held
files_held d = omega arith

both : (a b : Bool) → a && b ≡ true → (a ≡ true) × (b ≡ true)
both true b h = (refl, h)
both false b h = absurd cc

pub fit_written : (d : Desktop) → fits d ≡ true → d.written ≤ most_written
fit_written d fit = leb-true _ _ (both _ _ fit).0

pub fit_held : (d : Desktop) → fits d ≡ true → characters_held d ≤ most_held
fit_held d fit = leb-true _ _ (both _ _ fit).1

-- ---- what is sound stays so

pub filed_shaped : (d : Desktop) (name : List ℕ) (text : Text ℕ) → IsShaped d → IsTrue (is_name name)
    → has_file_room d.files name ≡ true → AreLooks text → IsShaped (filed d name text)
unfolding filed
filed_shaped d name text shaped valid room looks = record {
  viewers = shaped.viewers;
  places = shaped.places;
  marks = shaped.marks;
  marker = shaped.marker;
  files = record {
    names = All-keys-insert_entry name_cmp name text (λ name. IsTrue (is_name name)) d.files shaped.files.names valid;
    rising = rising_put (lists_total nat_cmp_total) name text d.files shaped.files.rising;
    few = put_few d.files name text shaped.files.rising shaped.files.few room;
  };
  pattern = shaped.pattern;
  looks = looks_stay (put_looks d shaped.looks name text looks) refl;
}

pub filed_sound : (d : Desktop) (name : List ℕ) (text : Text ℕ) → IsSound d → IsTrue (is_name name)
    → has_file_room d.files name ≡ true → AreLooks text → fits (filed d name text) ≡ true → IsSound (filed d name text)
unfolding filed
filed_sound d name text sound valid room looks fit = record {
  shaped = filed_shaped d name text sound.shaped valid room looks;
  shown = sound.shown;
  written_within = fit_written _ fit;
  held_within = fit_held _ fit;
}

bare_stack : IsStack (let s : List (List Entry) = [] ∷ [] in s)
bare_stack = record {
  some = omega arith;
  few = omega arith;
  tracks = search rules;
  overlays = λ level high within. absurd (omega (arith, high, within));
}

pub empty_sound : IsSound empty_desktop
unfolding empty_desktop IsStrictlySortedBy characters_held track_of
empty_sound = record {
  shaped = record {
    viewers = record {
      log = refl;
      numbers = (tt, tt);
      ids = tt;
      each = λ v viewer here. absurd (cc here);
    };
    places = record {
      columns_hold = record {
        user = bare_stack;
        system = bare_stack;
        once = λ v. omega arith;
      };
      once = λ v. refl;
      closed_place = λ k here. absurd (cc here);
    };
    marks = record {
      caret_stands = λ c here. absurd (cc here);
      all_stand = search rules;
      one_each = λ v. omega arith;
    };
    marker = λ m here. absurd (cc here);
    files = record { names = search rules; rising = tt; few = omega arith };
    pattern = omega arith;
    looks = record {
      look = default_is_look;
      texts = All-cons AreLooks [] [] no_looks (All-nil AreLooks);
      files = All-nil AreLooks;
      copied = no_looks;
      deleted = no_looks;
    };
  };
  shown = search rules;
  written_within = omega arith;
  held_within = omega arith;
}
