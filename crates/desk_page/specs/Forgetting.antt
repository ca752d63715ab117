-- A page whose past is forgotten. `d` is what is known of the disk.
use Rattle.std.specs.Prelude.{◌≡◌, Option, Some, None, false}
use Rattle.sector_disk.specs.declared.disk.Disk.{Ghosts}
use Rattle.desk_journal.specs.Checkpointing.{LeavesDesktop}
use Rattle.desk_past.specs.Beginning.{AreUncounted}
use Rattle.desk_past.specs.Forgetting.{HasForgotten}
use Rattle.past_pages.specs.Parts.{HasParts}
use Rattle.page_disks.specs.Recording.{Recording}
use Rattle.desk_page.specs.Looks.{seated_anew}
use Rattle.desk_page.specs.Turns.{HostPage, IsHanded}
use Rattle.desk_page.specs.declared.scene.Scene.{Scene}

module _ (d : Ghosts Recording) where
  -- A past begins anew with what the page shows, and behind the store nothing else is left. The page shows the same desktop,
  -- and at every moment of that a crash leaves it. The sitting before it begins anew, and the host is handed the page.
  pub record Forgets (old after : HostPage) (scene : Scene) : Type 0 where
    pub page : HostPage
    pub any_moment : LeavesDesktop d old.store page.store
    pub forgotten : HasForgotten d old.store page.store
    pub desktop : page.store.desktop ≡ old.store.desktop
    pub sitting : page.sitting ≡ seated_anew old.sitting
    pub parser : page.parser ≡ old.parser
    pub handed_over : IsHanded d page after scene

  -- The past stays: there is no room for one, or too many events came before to be counted. The page shows the same desktop, and
  -- at every moment of the call a crash leaves it.
  pub record KeepsItsPast (old after : HostPage) : Type 0 where
    pub any_moment : LeavesDesktop d old.store after.store
    pub refused : HasParts (d.size old.store.disk) → AreUncounted d old.store
    pub desktop : after.store.desktop ≡ old.store.desktop
    pub usable : after.store.must_reopen ≡ false
    pub sitting : after.sitting ≡ old.sitting
    pub parser : after.parser ≡ old.parser

  -- by whether a host is handed anything
  abbrev pub ForgetsOrNot : HostPage → HostPage → Option Scene → Type 0
  ForgetsOrNot old after (Some scene) = Forgets old after scene
  ForgetsOrNot old after None = KeepsItsPast old after
