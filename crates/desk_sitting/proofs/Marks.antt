-- Looks at a store, and what is told of a desktop with a scene.
use Rattle.std.proofs.Common.{◌≡◌, ◌<◌, ◌∙◌, ℕ, Bool, true, false, List, Ok, Err, inl, refl, sym, ap, subst}
use Rattle.std.specs.Prelude.{◌&&◌, if◌then◌else◌, Option, Some, None, Result}
use Rattle.std.proofs.lemmas.Bool.{cond-true, cond-false, false≢true}
use Rattle.sector_disk.specs.declared.disk.Disk.{Ghosts}
use Rattle.sector_disk.specs.Trail.{IsCrashImage, now}
use Rattle.screen_pictures.specs.declared.cell.Cell.{Cell}
use Rattle.desktop_definitions.specs.Desktop.{Desktop}
use Rattle.desktop_definitions.specs.Shown.{shown_screen}
use Rattle.desk_journal.specs.Errors.{Error, NoMemory}
use Rattle.desk_journal.specs.Looking.{OnlyLooks}
use Rattle.desk_journal.specs.View.{StoreView}
use Rattle.desk_journal.specs.Views.{Place}
use Rattle.desk_journal.proofs.Passing.{at_start}
use Rattle.store_documents.proofs.Looks.{read_twice}
use Rattle.press_plans.specs.Plans.{caret_place}
use Rattle.status_line.specs.declared.saying.Saying.{Saying}
use Rattle.status_line.specs.Choosing.{rest_saying, rests}
use Rattle.desk_sitting.specs.declared.sitting.Sitting.{Sitting}
use Rattle.desk_sitting.specs.Stored.{names_unstored, menu_begin, unstored_at, unstored_caret}
use Rattle.desk_sitting.specs.Telling.{rest_marked}

module _ {D : Type 0} (d : Ghosts D) where
  -- nobody looks
  pub looks_none : {T : Type 0} (value : T) (store : StoreView D) → store.must_reopen ≡ false → OnlyLooks d (Ok value) store store
  looks_none value store usable = record {
    desktop = λ honest. refl;
    kept = refl;
    layout = refl;
    epoch = refl;
    events = refl;
    usable = refl;
    disk = record {
      device = record { as_large = refl; still = λ honest. honest; already = λ honest. honest };
      unwritten = λ honest. at_start (d.trail store.disk) (IsCrashImage (now (d.trail store.disk))) (λ c image. image);
    };
    reopen = (λ wrong. absurd (cc wrong), λ is. absurd (false≢true (sym usable ∙ is)));
    faults = record { rose = λ wrong. absurd (cc wrong); calm = λ other. refl; errors = tt };
  }

  -- one look after another
  module _ {A T : Type 0} (value : A) (result : Result T Error) (old mid new : StoreView D)
      (first : OnlyLooks d (Ok value) old mid) (second : OnlyLooks d result mid new) where
    calm : d.failures mid.disk ≡ d.failures old.disk
    calm = first.faults.calm (λ wrong. absurd (cc wrong))

    pub looks_then : OnlyLooks d result old new
    looks_then = record {
      desktop = λ honest. second.desktop (first.disk.device.still honest) ∙ first.desktop honest;
      kept = second.kept ∙ first.kept;
      layout = second.layout ∙ first.layout;
      epoch = second.epoch ∙ first.epoch;
      events = second.events ∙ first.events;
      usable = second.usable ∙ first.usable;
      disk = read_twice d first.disk second.disk;
      reopen = (λ is. sym first.usable ∙ second.reopen.0 is, λ is. second.reopen.1 (first.usable ∙ is));
      faults = record {
        rose = λ fault. subst (λ (n : ℕ). n < d.failures new.disk) calm (second.faults.rose fault);
        calm = λ fine. second.faults.calm fine ∙ calm;
        errors = second.faults.errors;
      };
    }

  -- a look from which something follows
  pub looks_so : {A T : Type 0} (value : A) (other : T) (old new : StoreView D) → OnlyLooks d (Ok value) old new
      → OnlyLooks d (Ok other) old new
  looks_so value other old new looks = record {
    desktop = looks.desktop;
    kept = looks.kept;
    layout = looks.layout;
    epoch = looks.epoch;
    events = looks.events;
    usable = looks.usable;
    disk = looks.disk;
    reopen = (λ wrong. absurd (cc wrong), λ is. absurd (cc (looks.reopen.1 is)));
    faults = record {
      rose = λ wrong. absurd (cc wrong);
      calm = λ other. looks.faults.calm (λ wrong. absurd (cc wrong));
      errors = tt;
    };
  }

  -- and one that failed
  pub looks_no_more : {A T : Type 0} (error : Error) (old new : StoreView D) → OnlyLooks {T = A} d (Err error) old new
      → OnlyLooks {T = T} d (Err error) old new
  looks_no_more error old new looks = record {
    desktop = looks.desktop;
    kept = looks.kept;
    layout = looks.layout;
    epoch = looks.epoch;
    events = looks.events;
    usable = looks.usable;
    disk = looks.disk;
    reopen = (λ is. looks.reopen.0 (cc is), λ is. cc (looks.reopen.1 is));
    faults = record {
      rose = λ fault. looks.faults.rose (cc fault);
      calm = λ fine. looks.faults.calm (λ fault. fine (cc fault));
      errors = looks.faults.errors;
    };
  }

  -- and one behind which memory runs out
  pub looks_starved : {A T : Type 0} (value : A) (old new : StoreView D) → OnlyLooks d (Ok value) old new
      → OnlyLooks {T = T} d (Err NoMemory) old new
  looks_starved value old new looks = record {
    desktop = looks.desktop;
    kept = looks.kept;
    layout = looks.layout;
    epoch = looks.epoch;
    events = looks.events;
    usable = looks.usable;
    disk = looks.disk;
    reopen = (λ wrong. absurd (cc wrong), λ is. absurd (cc (looks.reopen.1 is)));
    faults = record {
      rose = λ wrong. absurd (cc wrong);
      calm = λ other. looks.faults.calm (λ wrong. absurd (cc wrong));
      errors = inl refl;
    };
  }

-- ---- what is told

pub so_unstored : (place : Place) (cell : ℕ × ℕ) (found : Bool) (screen : List (List Cell)) (there d : Desktop)
    (result : Option (ℕ × ℕ)) → result ≡ (if found then Some cell else None) → cell ≡ menu_begin place
    → found ≡ names_unstored screen cell there → screen ≡ shown_screen d → there ≡ d
    → result ≡ unstored_at (Some place) (shown_screen d) d
so_unstored place cell found screen there d result is cell_is found_is screen_is same =
    is
    ∙ ap (λ (b : Bool). if b then Some cell else None) (found_is ∙ (λ k. names_unstored (screen_is k) cell (same k)))
    ∙ ap (λ (c : ℕ × ℕ). if names_unstored (shown_screen d) c d then Some c else None) cell_is

pub caret_so : (place : Option Place) (d : Desktop) (found : Option (ℕ × ℕ)) → place ≡ caret_place d
    → found ≡ unstored_at place (shown_screen d) d → found ≡ unstored_caret d
unfolding unstored_caret
caret_so place d found is so = so ∙ ap (λ (p : Option Place). unstored_at p (shown_screen d) d) is

module _ (d : Desktop) (s : Sitting) where
  pub unmarked : rests s.saying ≡ false → s ≡ rest_marked d s
  unmarked is = λ k. record s {
    saying = sym (cond-false (rests s.saying) (rest_saying (unstored_caret d)) s.saying is) k;
  }

  pub says_mark : (said : Saying) (found : Option (ℕ × ℕ)) → rests s.saying ≡ true → said ≡ rest_saying found
      → found ≡ unstored_caret d → record s { saying = said } ≡ rest_marked d s
  says_mark said found is says so = λ k. record s {
    saying = (says ∙ ap rest_saying so
        ∙ sym (cond-true (rests s.saying) (rest_saying (unstored_caret d)) s.saying is)) k;
  }
