-- What is known of a look at a past, from call to call. `d` is what is known of the disk.
use Rattle.std.proofs.Common.{◌≡◌, ℕ, Bool, List, Option, Some, None, subst, sym}
use Rattle.sector_disk.specs.declared.disk.Disk.{Ghosts}
use Rattle.past_looks.specs.Looking.{IsLookerOf}
use Rattle.past_looks.proofs.Carrying.{looker_alike}
use Rattle.desktop_definitions.specs.Desktop.{Desktop}
use Rattle.desk_page.specs.Calls as calls
use Rattle.desk_page.specs.Known as known
use Rattle.desk_page.specs.Known.{IsCalled, KnowsShown, StaysKnown}
use Rattle.desk_page.specs.Looks.{KnowsPast, LooksAtDesk, LooksAtPast, PressesDesk, PressesLook}
use Rattle.desk_page.specs.Looks.LooksAtPast.{has_none, shows}
use Rattle.desk_page.specs.Looks.PressesLook.{goes_back, looks_on, turns}
use Rattle.page_disks.specs.Recording.{Recording}
use Rattle.desk_page.specs.Turns.{HostPage}
use Rattle.desk_page.specs.declared.kept.Kept.{Kept}
use Rattle.desk_page.specs.declared.looks.Desk.{Desk}
use Rattle.desk_page.specs.declared.looks.Desk.TheVariants.{Present, Past}
use Rattle.desk_page.specs.declared.looks.Looking.{Looking}
use Rattle.desk_page.specs.declared.scene.Scene.{Scene}

module _ (d : Ghosts Recording) where
  known_same : {old new : Option Desk} → new ≡ old → KnowsShown d old → KnowsShown d new
  known_same same is = subst (KnowsShown d) (sym same) is

  known_present : {new : Option Desk} (page : HostPage) → new ≡ Some (Present page) → KnowsShown d new
  known_present page is = subst (KnowsShown d) (sym is) tt

  known_none : {new : Option Desk} → new ≡ None → KnowsShown d new
  known_none is = subst (KnowsShown d) (sym is) tt

  -- ---- presses

  look_pressed : (old : Looking) (after : Desk) (scene : Scene) → PressesLook d old after scene → KnowsPast d old
      → KnowsShown d (Some after)
  look_pressed old after scene (looks_on looking shown same past stays) is = stays is
  look_pressed old after scene (goes_back page then_shown shown same handed) is = tt
  look_pressed old after scene (turns page then_shown shown turned handed) is = tt

  desk_pressed : (bytes : List ℕ) (before after : Desk) (scene : Scene) → PressesDesk d bytes before after scene
      → KnowsShown d (Some before) → KnowsShown d (Some after)
  desk_pressed bytes (Present page) (Present after) scene presses is = tt
  desk_pressed bytes (Present page) (Past looking) scene presses is = absurd presses
  desk_pressed bytes (Past looking) after scene presses is = look_pressed looking after scene presses is

  pressed_known : (bytes : List ℕ) (old new : Kept) (status : ℕ) → calls.AnswersPress d bytes old new status
      → KnowsShown d old.desk → KnowsShown d new.desk
  pressed_known bytes old new status (calls.pressed before was is_pressed) is =
      known_same is_pressed.kept (desk_pressed bytes before is_pressed.after new.scene is_pressed.presses
      (subst (KnowsShown d) was is))
  pressed_known bytes old new status (calls.no_page none same) is = known_same same.desk is
  pressed_known bytes old new status (calls.failed before error was why ended) is = known_none ended.desk

  -- ---- a look

  past_shown : (old : HostPage) (after : Desk) (scene : Option Scene) → LooksAtPast d old after scene
      → KnowsShown d (Some after)
  past_shown old after scene (shows looking shown same past is) = is
  past_shown old after scene (has_none page same) = tt

  looked_known : (old new : Kept) (status : ℕ) → calls.AnswersLook d old new status
      → KnowsShown d old.desk → KnowsShown d new.desk
  looked_known old new status (calls.shown before was look) is =
      known_same look.kept (past_shown _ look.after _ look.looks)
  looked_known old new status (calls.unkept before was look) is =
      known_same look.kept (past_shown _ look.after _ look.none)
  looked_known old new status (calls.no_desk none same) is = known_same same.desk is
  looked_known old new status (calls.lost before error was why ended) is = known_none ended.desk

  -- ---- a past that is forgotten

  forgot_known : (old new : Kept) (status : ℕ) → calls.AnswersForget d old new status
      → KnowsShown d old.desk → KnowsShown d new.desk
  forgot_known old new status (calls.anew before was all) is = known_present all.after all.kept
  forgot_known old new status (calls.stays before was all) is = known_present all.after all.kept
  forgot_known old new status (calls.none_kept none same) is = known_same same.desk is
  forgot_known old new status (calls.stopped before error was why ended) is = known_none ended.desk

  -- ---- what is asked for

  desk_asked : (before after : Desk) → LooksAtDesk d before after → KnowsShown d (Some before) → KnowsShown d (Some after)
  desk_asked (Present page) (Present after) looks is = tt
  desk_asked (Present page) (Past looking) looks is = absurd looks
  desk_asked (Past looking) (Present page) looks is = absurd looks
  desk_asked (Past looking) (Past after) looks is =
      subst (λ (page : HostPage). IsLookerOf d after.looker page.store) (sym looks.page)
      (looker_alike d looking.looker after.looker looks.looker is)

  only_asked : (old new : Kept) → calls.IsOnlyAsked d old new → KnowsShown d old.desk → KnowsShown d new.desk
  only_asked old new look is =
      known_same look.kept (desk_asked look.before look.after look.looks (subst (KnowsShown d) look.was is))

  asked_known : (told : Desktop → Option (List ℕ)) (old new : Kept) (status : ℕ)
      → calls.AnswersAsk d told old new status → KnowsShown d old.desk → KnowsShown d new.desk
  asked_known told old new status (calls.given look is_told) is = only_asked old new look is
  asked_known told old new status (calls.nothing_kept none same) is = known_same same.desk is
  asked_known told old new status (calls.missing look none text) is = only_asked old new look is
  asked_known told old new status (calls.unlooked look error why text) is = only_asked old new look is

  given_known : (name : List ℕ) (old new : Kept) (status : ℕ) → calls.AnswersGive d name old new status
      → KnowsShown d old.desk → KnowsShown d new.desk
  given_known name old new status (calls.no_name_of none same) is = known_same same.desk is
  given_known name old new status (calls.asked told answers) is = asked_known _ old new told answers is

  -- ---- the other calls

  loaded_known : (first : ℕ) (bytes : List ℕ) (old new : Kept) (status : ℕ)
      → calls.AnswersLoad first bytes old new status → KnowsShown d old.desk → KnowsShown d new.desk
  loaded_known first bytes old new status (calls.loads disk has kept same) is = known_same same.desk is
  loaded_known first bytes old new status (calls.starves none same) is = known_same same.desk is

  begun_known : (past : Bool) (old new : Kept) (status : ℕ) → calls.AnswersBegin d past old new status
      → KnowsShown d old.desk → KnowsShown d new.desk
  begun_known past old new status (calls.begun first) is = known_present first.after first.kept
  begun_known past old new status (calls.refused error why used same) is = known_same same.desk is

  brought_known : (name file : List ℕ) (old new : Kept) (status : ℕ) → calls.AnswersBring d name file old new status
      → KnowsShown d old.desk → KnowsShown d new.desk
  brought_known name file old new status (calls.brought before was all) is = known_present all.after all.kept
  brought_known name file old new status (calls.declined code none same) is = known_same same.desk is
  brought_known name file old new status (calls.no_desktop none same) is = known_same same.desk is
  brought_known name file old new status (calls.turned_down before was all) is = known_present all.after all.kept
  brought_known name file old new status (calls.broken before error was why ended) is = known_none ended.desk

  kept_known : (name file : List ℕ) (old new : Kept) (status : ℕ) → calls.AnswersBringMore name file old new status
      → KnowsShown d old.desk → KnowsShown d new.desk
  kept_known name file old new status (calls.more document fits kept same) is = known_same same.desk is
  kept_known name file old new status (calls.none code none kept same) is = known_same same.desk is

  pub stays_known : StaysKnown d
  stays_known old new (known.loads first bytes status answers) is = loaded_known first bytes old new status answers is
  stays_known old new (known.begins past status answers) is = begun_known past old new status answers is
  stays_known old new (known.presses bytes status answers) is = pressed_known bytes old new status answers is
  stays_known old new (known.looks status answers) is = looked_known old new status answers is
  stays_known old new (known.forgets status answers) is = forgot_known old new status answers is
  stays_known old new (known.brings name file status answers) is = brought_known name file old new status answers is
  stays_known old new (known.keeps name file status answers) is = kept_known name file old new status answers is
  stays_known old new (known.gives name status answers) is = given_known name old new status answers is
  stays_known old new (known.copies status answers) is = asked_known _ old new status answers is
