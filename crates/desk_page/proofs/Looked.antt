-- A page whose past is shown, put together of what the calls below it do. `d` is what is known of the disk.
use Rattle.std.proofs.Common.{◌≡◌, ◌∙◌, ◌⊎◌, inl, inr, ap, refl, subst, sym, List, [], Bool, true, false, Some}
use Rattle.sector_disk.specs.declared.disk.Disk.{Ghosts}
use Rattle.screen_pictures.specs.declared.cell.Cell.{Cell}
use Rattle.desktop_definitions.specs.Desktop.{Desktop}
use Rattle.desktop_definitions.specs.Shown.{shown_screen}
use Rattle.screen_drawing.specs.Drawn.{drawing_of}
use Rattle.desk_journal.specs.Errors.{Error, NoMemory, Fault, MustReopen, OfLook}
use Rattle.desk_journal.specs.View.{StoreView, IsDurable}
use Rattle.past_pages.proofs.StillReads.{still_both, still_none}
use Rattle.past_moments.specs.declared.moments.Look.{Look}
use Rattle.past_looks.specs.Looking.{ComesBackTo, ComesOfPress, IsAlike, IsLookerOf, IsSameLook, StaysOrTurns, desktop_before, looker_line}
use Rattle.past_looks.specs.declared.looker.Doing.{Doing}
use Rattle.past_looks.specs.declared.looker.Doing.TheVariants.{Stays, Leaves, Turned}
use Rattle.past_looks.specs.declared.looker.Looker.{Looker}
use Rattle.past_looks.proofs.Carrying.{looker_alike}
use Rattle.page_disks.specs.Recording.{Recording}
use Rattle.desk_page.specs.declared.looks.Desk.{Desk}
use Rattle.desk_page.specs.declared.looks.Desk.TheVariants.{Past}
use Rattle.desk_page.specs.declared.looks.Looking.{Looking}
use Rattle.desk_page.specs.declared.scene.Scene.{Scene}
use Rattle.desk_page.specs.Looks.{ComesOfPresses, HandsOutLook, IsSamePage, KnowsPast, LeavesLook, LooksAtPast, PressesLook, TurnsPage, TurnsStore, seated_anew}
use Rattle.desk_page.specs.Looks.LeavesLook.{leaves}
use Rattle.desk_page.specs.Looks.LooksAtPast.{shows}
use Rattle.desk_page.specs.Looks.PressesLook.{goes_back, looks_on, turns}
use Rattle.desk_page.specs.Turns.{HostPage}

-- why nothing is found
pub not_found : (error : Error) (must : Bool) → OfLook error → (error ≡ MustReopen → must ≡ true)
    → (error ≡ NoMemory) ⊎ (error ≡ Fault) ⊎ (error ≡ MustReopen) × (must ≡ true)
not_found error must why reopen = elim why [
  | inl memory ↦ inl memory
  | inr (inl fault) ↦ inr (inl fault)
  | inr (inr is) ↦ inr (inr (is, reopen is))
]

-- ---- what a host is handed of a moment

alike_same : (old mid new : Looker) → IsAlike old mid → IsSameLook mid new → IsAlike old new
alike_same old mid new alike same = record {
  moments = same.moments ∙ alike.moments;
  shown = same.shown ∙ alike.shown;
  desktop = ap (λ (look : Look). look.shown.desktop) same.look ∙ alike.desktop;
  words = ap (λ (look : Look). look.words) same.look ∙ alike.words;
  moment = (λ i. desktop_before (same.look i).shown.desktop (same.untouched i)) ∙ alike.moment;
}

pub hands_out : (old mid new : Looker) (scene : Scene) (screen : List (List Cell)) → IsAlike old mid → IsSameLook mid new
    → looker_line new ≡ looker_line mid → screen ≡ shown_screen old.look.shown.desktop
    → scene.drawing.items ≡ drawing_of screen → scene.line.items ≡ looker_line mid → scene.calls.items ≡ []
    → HandsOutLook old new scene
hands_out old mid new scene screen alike same line_same shown drawn line calls =
    let both = alike_same old mid new alike same in record {
      shows = record {
        drawn = drawn ∙ ap drawing_of (shown ∙ ap shown_screen (sym both.desktop));
        line = line ∙ sym line_same;
        calls = calls;
      };
      same = both;
    }

module _ (d : Ghosts Recording) where
  same_page_both : {a b c : HostPage} → IsSamePage d a b → IsSamePage d b c → IsSamePage d a c
  same_page_both first second = record {
    read = still_both d first.read second.read;
    sitting = second.sitting ∙ first.sitting;
    parser = second.parser ∙ first.parser;
  }

  pub looks_at : (page : HostPage) (looking : Looking) (looker : Looker) (scene : Scene) → IsSamePage d page looking.page
      → IsLookerOf d looker looking.page.store → HandsOutLook looker looking.looker scene
      → IsDurable d looking.page.store → LooksAtPast d page (Past looking) (Some scene)
  looks_at page looking looker scene same is of durable = shows looking scene same
      (record { shows = of.shows; durable = durable }) (looker_alike d looker looking.looker of.same is)

  -- ---- presses

  -- one press
  pub comes_of_one : (doing : Doing) (old new : Looking) → old.page.store.must_reopen ≡ false
      → new.page.sitting ≡ old.page.sitting → new.page.parser ≡ old.page.parser
      → (KnowsPast d old → StaysOrTurns d old.looker.shown old.page.store new.page.store)
      → ComesOfPress d doing old.looker new.looker old.page.store new.page.store → ComesOfPresses d doing old new
  comes_of_one Stays old new usable sitting parser moments does =
      (record { read = does.0; sitting = sitting; parser = parser }, does.1, does.2)
  comes_of_one Leaves old new usable sitting parser moments does =
      record { read = does; sitting = sitting; parser = parser }
  comes_of_one Turned old new usable sitting parser moments does = (
    record { mid = old.page.store; read = still_none d old.page.store usable; turned = does; any_moment = moments },
    sitting,
    parser,
  )

  turns_after : (old mid : Looking) (store : StoreView Recording) → ComesOfPresses d Stays old mid
      → TurnsStore d mid.looker mid.page.store store → TurnsStore d old.looker old.page.store store
  turns_after old mid store first then_turned = record {
    mid = then_turned.mid;
    read = still_both d first.0.read then_turned.read;
    turned = λ is. subst (λ k. ComesBackTo d k then_turned.mid store) first.1 (then_turned.turned (first.2 is));
    any_moment = λ is. subst (λ k. StaysOrTurns d k then_turned.mid store) first.1 (then_turned.any_moment (first.2 is));
  }

  -- one behind another
  pub comes_behind : (doing : Doing) (old mid new : Looking) → ComesOfPresses d Stays old mid
      → ComesOfPresses d doing mid new → ComesOfPresses d doing old new
  comes_behind Stays old mid new first second =
      (same_page_both first.0 second.0, second.1 ∙ first.1, λ is. second.2 (first.2 is))
  comes_behind Leaves old mid new first second = same_page_both first.0 second
  comes_behind Turned old mid new first second = (
    turns_after old mid new.page.store first second.0,
    second.1 ∙ first.0.sitting,
    second.2 ∙ first.0.parser,
  )

  -- ---- what becomes of a look

  turns_page : (old mid : Looking) (page : HostPage) → ComesOfPresses d Stays old mid → TurnsPage d mid page
      → TurnsPage d old page
  turns_page old mid page first then_turned = record {
    store = turns_after old mid page.store first then_turned.store;
    sitting = then_turned.sitting ∙ ap seated_anew first.0.sitting;
    parser = then_turned.parser ∙ first.0.parser;
  }

  -- the person looked on before
  pub presses_behind : (old mid : Looking) (desk : Desk) (scene : Scene) → ComesOfPresses d Stays old mid
      → PressesLook d mid desk scene → PressesLook d old desk scene
  presses_behind old mid desk scene first (looks_on looking shown same past known) =
      looks_on looking shown (same_page_both first.0 same) past (λ is. known (first.2 is))
  presses_behind old mid desk scene first (goes_back page after shown same handed) =
      goes_back page after shown (same_page_both first.0 same) handed
  presses_behind old mid desk scene first (turns page after shown then_turned handed) =
      turns page after shown (turns_page old mid page first then_turned) handed

  pub goes : (old : Looking) (page : HostPage) (desk : Desk) (scene : Scene) → IsSamePage d old.page page
      → LeavesLook d page desk scene → PressesLook d old desk scene
  goes old page desk scene same (leaves after shown handed) = goes_back page after shown same handed

  -- the sitting begins anew before the page that was turned back
  pub turned_back : (old new : Looking) (page again : HostPage) (desk : Desk) (scene : Scene)
      → ComesOfPresses d Turned old new → page ≡ new.page → again.store ≡ page.store
      → again.sitting ≡ seated_anew page.sitting → again.parser ≡ page.parser → LeavesLook d again desk scene
      → PressesLook d old desk scene
  turned_back old new page again desk scene does is store sitting parser (leaves after shown handed) =
      turns again after shown (record {
        store = subst (TurnsStore d old.looker old.page.store) (sym (store ∙ ap (λ (p : HostPage). p.store) is)) does.0;
        sitting = sitting ∙ ap (λ (p : HostPage). seated_anew p.sitting) is ∙ ap seated_anew does.1;
        parser = parser ∙ ap (λ (p : HostPage). p.parser) is ∙ does.2;
      }) handed
