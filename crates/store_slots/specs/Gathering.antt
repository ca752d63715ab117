-- A desktop whose characters are all in memory.
use Rattle.std.specs.Prelude.{◌≡◌, false}
use Rattle.char_pages.specs.Pages.{saved_of, renewed_of}
use Rattle.store_slots.specs.declared.live.LiveDesktop.{LiveDesktop}
use Rattle.store_slots.specs.Live.{IsLive, HasEmptyCache}

-- It stands over its characters, of which none is on a disk, and it has nothing of a disk in memory. A checkpoint puts
-- them into its area, from the front on.
pub record IsInMemory (desktop : LiveDesktop) : Type 0 where
  pub live : IsLive desktop
  pub none_saved : saved_of desktop.pages ≡ 0
  pub here : renewed_of desktop.pages ≡ false
  pub empty : HasEmptyCache desktop
