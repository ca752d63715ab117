-- What a call does to a page, put together of what the calls below it do. `d` is what is known of the disk.
use Rattle.std.proofs.Common.{◌≡◌, ◌≢◌, ◌∙◌, ◌⊎◌, inl, inr, ap, subst, sym, List, [], ℕ, Result, Ok, Err, IfOk, is_none}
use Rattle.std.proofs.Common.{true, false, Bool, Option, Some, None, IfErr, length, not, refl, ◌==◌}
use Rattle.std.specs.Prelude.{is_some}
use Rattle.std.proofs.lemmas.Bool.{true≢false}
use Rattle.sector_disk.specs.declared.disk.Disk.{Ghosts}
use Rattle.desktop_definitions.specs.Desktop.{Desktop}
use Rattle.desktop_definitions.specs.Shown.{shown_screen}
use Rattle.desk_journal.specs.Device.{IsOnlyRead}
use Rattle.desk_journal.specs.Errors.{Error, NoMemory, Fault, MustReopen, OfOpen, OfPost, Worn}
use Rattle.desk_journal.specs.Opening.{IsNoStore, IsOpened}
use Rattle.desk_journal.specs.Posting.{IsLast}
use Rattle.desk_journal.specs.Session.{Session, session_of}
use Rattle.desk_journal.specs.View.{StoreView}
use Rattle.status_line.specs.declared.saying.Saying.TheVariants.{Greeting}
use Rattle.viewer_tracks.specs.declared.display.TheConstants.{COLUMNS}
use Rattle.terminal_presses.specs.declared.press.Heard.{Heard}
use Rattle.terminal_keyboard.specs.Presses.{at_rest, parser_after, presses_heard}
use Rattle.desk_sitting.specs.declared.sitting.TheConstants.{MOST_TURNS}
use Rattle.desk_sitting.specs.declared.sitting.Sitting.{Sitting}
use Rattle.desk_sitting.specs.Sittings.{new_sitting}
use Rattle.screen_drawing.specs.Drawn.{drawing_of}
use Rattle.page_disks.specs.Recording.{Recording}
use Rattle.page_disks.specs.Spelling.{spelling_of_calls}
use Rattle.desk_page.specs.Hearing.{Hears, heard_of}
use Rattle.desk_page.specs.Lines.{page_line, page_shown}
use Rattle.desk_page.specs.declared.scene.Scene.{Scene}
use Rattle.page_disks.specs.contracts.disk.RecordedDiskDisk.TheImpl.{ghosts}
use Rattle.desk_page.specs.declared.page.TheConstants.{HEIGHT}
use Rattle.desk_page.specs.Turns.{HostPage, AreTravelled, IsHanded, IsMadeOrFound, IsNotBegun, IsNotPressed, IsToldAll}
use Rattle.desk_page.specs.Turns.{IsStopped, IsWithheld, OfTravels, Presses, damaged, faulty, foreign, starved}

-- ---- why a page isn't handed out

-- for want of memory, or of the disk's
pub withheld_so : (page : HostPage) (error : Error) → (error ≡ NoMemory) ⊎ (error ≡ Fault) → IsWithheld page error
withheld_so page error why = elim why [
  | inl memory ↦ inl memory
  | inr fault ↦ inr (inl fault)
]

-- a later page can be used
pub withheld_later : (old page : HostPage) (error : Error) → page.store.must_reopen ≡ false → IsWithheld page error
    → IsWithheld old error
withheld_later old page error usable why = elim why [
  | inl memory ↦ inl memory
  | inr (inl fault) ↦ inr (inl fault)
  | inr (inr both) ↦ absurd (true≢false (sym both.1 ∙ usable))
]

-- a call stopped that ends an epoch
pub stopped_so : (page : HostPage) (error : Error) → OfPost error
    → (error ≡ MustReopen → page.store.must_reopen ≡ true) → (error ≡ Worn → IsLast page.store) → IsStopped page error
stopped_so page error why reopen worn = elim why [
  | inl memory ↦ inl (inl memory)
  | inr (inl fault) ↦ inl (inr (inl fault))
  | inr (inr (inl is)) ↦ inl (inr (inr (is, reopen is)))
  | inr (inr (inr is)) ↦ inr (is, worn is)
]

-- what was loaded is found to be no store
pub is_not_begun : (disk : Recording) (error : Error) → IsNoStore ghosts disk error → OfOpen error
    → IsNotBegun ghosts (Some disk) error
is_not_begun disk error none why = elim why [
  | inl (inl is) ↦ subst (IsNotBegun ghosts (Some disk)) (sym is) starved
  | inl (inr (inl is)) ↦ subst (IsNotBegun ghosts (Some disk)) (sym is) faulty
  | inl (inr (inr is)) ↦ subst (IsNotBegun ghosts (Some disk)) (sym is) (foreign disk refl (none.foreign is tt))
  | inr damage ↦ subst (IsNotBegun ghosts (Some disk)) (sym damage.1)
      (damaged disk damage.0 refl (none.damaged damage.0 damage.1 tt))
]

pub not_begun_of : (disk : Recording) (result : Result HostPage Error) → IfErr result (IsNoStore ghosts disk)
    → IfErr result OfOpen → IfErr result (IsNotBegun ghosts (Some disk))
not_begun_of disk (Ok page) none why = none
not_begun_of disk (Err error) none why = is_not_begun disk error none why

-- a page before the store that was loaded
pub found_of : (disk : Recording) (result : Result HostPage Error) → IfOk result (λ page. IsOpened ghosts disk page.store)
    → IfOk result (λ page. IsOnlyRead ghosts disk page.store.disk)
    → IfOk result (λ page. page.sitting ≡ new_sitting HEIGHT COLUMNS Greeting true)
    → IfOk result (λ page. page.parser ≡ at_rest) → IfOk result (IsMadeOrFound ghosts (Some disk))
found_of disk (Ok page) opened read sitting parser = record {
  opened = opened;
  read = read;
  durable = opened.durable;
  sitting = sitting;
  parser = parser;
  usable = opened.usable;
}
found_of disk (Err error) none read sitting parser = none

-- something is asked for
pub asked_for : {T : Type 0} (asked : Option T) (none : Bool) → is_some asked ≡ not none → none ≡ false
    → is_none asked ≡ false
asked_for None none is some = absurd (true≢false (sym (is ∙ ap not some)))
asked_for (Some x) none is some = refl

-- it isn't MustReopen that a step ended with
pub no_endless : {T : Type 0} {A : Type 0} (result : Result T Error) (error : Error) → result ≡ Err error
    → (error ≡ NoMemory) ⊎ (error ≡ Fault) → result ≡ Err MustReopen → A
no_endless result error is why wrong = elim why [
  | inl memory ↦ absurd cc
  | inr fault ↦ absurd cc
]

-- ---- what is handed out

module _ (d : Ghosts Recording) where
  pub handed_over : (page told_all after : HostPage) (scene : Scene) → IsToldAll d page told_all
      → scene.drawing.items ≡ drawing_of (shown_screen told_all.store.desktop)
      → scene.line.items ≡ page_line (shown_screen told_all.store.desktop) after.sitting
      → scene.calls.items ≡ spelling_of_calls page.store.disk.since → scene.rings ≡ page.sitting.rings
      → after.sitting ≡ page_shown told_all.store.desktop told_all.sitting
      → after.parser ≡ told_all.parser → session_of after.store ≡ session_of told_all.store
      → after.store.must_reopen ≡ false → IsOnlyRead d told_all.store.disk after.store.disk → IsHanded d page after scene
  handed_over page told_all after scene same drawn line told rings sitting parser session usable read = record {
    durable = same.left;
    drawn = drawn ∙ ap (λ (desktop : Desktop). drawing_of (shown_screen desktop)) same.desktop;
    line = line ∙ ap (λ (desktop : Desktop). page_line (shown_screen desktop) after.sitting) same.desktop;
    told = told;
    rings = rings;
    desktop = ap (λ (s : Session). s.desktop) session ∙ same.desktop;
    sitting = sitting ∙ (λ k. page_shown (same.desktop k) (same.sitting k));
    parser = parser ∙ same.parser;
    usable = usable;
    forgot = subst (λ (disk : Recording). IsOnlyRead d disk after.store.disk) same.forgot read;
  }

  -- what is asked for isn't done
  pub not_travelled : (bytes : List ℕ) (heard : List Heard) (old mid : HostPage) (last : Sitting)
      (new : StoreView Recording) (error : Error) → heard ≡ heard_of bytes
      → Hears d (presses_heard old.parser heard) old.sitting mid.sitting old.store mid.store → OfTravels error
      → (error ≡ MustReopen → (count : ℕ) × (count ≡ MOST_TURNS)
      × AreTravelled d count mid.sitting last mid.store new)
      → IsNotPressed d bytes old error
  not_travelled bytes heard old mid last new error is hears why endless = elim why [
    | inl memory ↦ inl (inl memory)
    | inr (inl fault) ↦ inl (inr (inl fault))
    | inr (inr reopen) ↦ inr (
      reopen,
      record {
        sitting = mid.sitting;
        store = mid.store;
        hears = subst (λ h. Hears d (presses_heard old.parser h) old.sitting mid.sitting old.store mid.store) is hears;
        last = last;
        new = new;
        steps = (endless reopen).0;
        many = (endless reopen).1;
        travelled = (endless reopen).2;
      },
    )
  ]

  -- the page that all this comes to isn't drawn
  pub not_settled : (bytes : List ℕ) (old page : HostPage) (result : Result (HostPage × Scene) Error)
      → page.store.must_reopen ≡ false → IfErr result (IsWithheld page) → IfErr result (IsNotPressed d bytes old)
  not_settled bytes old page (Ok both) usable why = why
  not_settled bytes old page (Err error) usable why = inl (withheld_later old page error usable why)

  pub presses : (bytes : List ℕ) (heard : List Heard) (old mid page : HostPage) → heard ≡ heard_of bytes
      → Hears d (presses_heard old.parser heard) old.sitting mid.sitting old.store mid.store
      → page.parser ≡ parser_after old.parser heard
      → (count : ℕ) × AreTravelled d count mid.sitting page.sitting mid.store page.store
      → is_none page.sitting.travels ≡ true → (result : Result (HostPage × Scene) Error)
      → IfOk result (λ both. IsHanded d page both.0 both.1) → IfOk result (λ both. Presses d bytes old both.0 both.1)
  presses bytes heard old mid page is hears parsed travelled rests (Ok both) settled = record {
    sitting = mid.sitting;
    store = mid.store;
    hears = subst (λ h. Hears d (presses_heard old.parser h) old.sitting mid.sitting old.store mid.store) is hears;
    page = page;
    parser = parsed ∙ ap (parser_after old.parser) is;
    steps = travelled.0;
    travelled = travelled.1;
    rests = rests;
    handed_over = settled;
  }
  presses bytes heard old mid page is hears parsed travelled rests (Err error) none = none
