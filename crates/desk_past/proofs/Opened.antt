-- A store that was copied to another disk and opened. `e` is what is known of that disk.
use Rattle.std.proofs.Common.{◌≡◌, inl, inr, ◌+◌, ◌-◌, ◌<◌, ◌≤◌, ℕ, List, [], ◌∷◌, ◌++◌, length, take, refl, sym, ◌∙◌, ap}
use Rattle.std.proofs.Common.{subst, arith, false, length-append}
use Rattle.std.specs.declared.option.Option.{Option}
use Rattle.std.specs.Prelude.{Some, None, IfNone, IfSome, IsSomeAnd, SomeIff}
use Rattle.std.proofs.Math.Seq.{take-append_seam}
use Rattle.sector_disk.specs.declared.disk.Disk.{Ghosts}
use Rattle.sector_disk.specs.Confined.{IsConfined}
use Rattle.sector_disk.specs.Trail.{Content, Nowhere, now}
use Rattle.sector_disk.proofs.Touching.{still_all}
use Rattle.event_bytes.specs.declared.event.Event.{Event}
use Rattle.desktop_definitions.specs.Desktop.{Desktop}
use Rattle.desktop_definitions.specs.Step.{steps, steps_in}
use Rattle.store_layout.specs.declared.layout.TheConstants.{STORE_SECTORS}
use Rattle.store_layout.specs.Finding.{StandingLaw}
use Rattle.store_layout.specs.Meaning.{Standing, Stands, and_all, desktop_of}
use Rattle.desk_journal.proofs.Aside.{stands_behind}
use Rattle.desk_journal.specs.Opening.{IsOpened}
use Rattle.desk_journal.specs.Undoing.{IsTakenBack, ShowsStanding}
use Rattle.desk_journal.specs.View.{StoreView, IsDurable}
use Rattle.past_pages.specs.Laying.{StandsFrom}
use Rattle.past_pages.proofs.StillReads.{resized}
use Rattle.past_pages.proofs.Told.{shown_as}
use Rattle.desk_past.specs.Deeds.{PastDeed, after_deeds}
use Rattle.desk_past.specs.Past.{HasPages, end_of_pages, KeepsAll, Start, all_deeds, first_page}
use Rattle.desk_past.specs.Reading.{ShowsNow}
use Rattle.desk_past.proofs.Carrying.{end_above}
use Rattle.desk_past.proofs.Undoing.{rest_within}

pub some_then : {X : Type 0} {P Q : X → Type 0} (o : Option X) → IsSomeAnd o P → ((x : X) → P x → Q x) → IsSomeAnd o Q
some_then (Some x) has then_is = then_is x has
some_then None has then_is = has

pub if_some_then : {X : Type 0} {P Q : X → Type 0} (o : Option X) → IfSome o P → ((x : X) → P x → Q x) → IfSome o Q
if_some_then (Some x) has then_is = then_is x has
if_some_then None has then_is = tt

pub if_some_always : {X : Type 0} {P : X → Type 0} (o : Option X) → ((x : X) → P x) → IfSome o P
if_some_always (Some x) all = all x
if_some_always None all = tt

-- of the one that was found
pub if_some_at : {X : Type 0} {P : X → Type 0} (o : Option X) → ((x : X) → o ≡ Some x → P x) → IfSome o P
if_some_at (Some x) all = all x refl
if_some_at None all = tt

pub some_at : {X : Type 0} (P : X → Type 0) {o : Option X} {x : X} → IsSomeAnd o P → o ≡ Some x → P x
some_at P has is = subst (λ found. IsSomeAnd found P) is has

-- what is left of so many
pub rest_is : (o : Option ℕ) (all some rest : ℕ) → SomeIff o (some ≤ all) (all - some) → rest + some ≡ all
    → IsSomeAnd o (λ n. n ≡ rest)
rest_is (Some n) all some rest found sum = let is = found.1 in omega (arith, is, sum)
rest_is None all some rest found sum = found (omega (arith, sum))

pub if_none_then : {X P Q : Type 0} (o : Option X) → IfNone o P → (P → Q) → IfNone o Q
if_none_then (Some x) has then_is = tt
if_none_then None has then_is = then_is has

-- what was copied shows what was shown there
pub copied_stands : {E : Type 0} (e : Ghosts E) {m : E} (c : Content) (t : Standing) → Stands STORE_SECTORS c t
    → STORE_SECTORS ≤ e.size m → ((n : ℕ) → n < STORE_SECTORS → (now (e.trail m)).reads n ≡ c n)
    → Stands (e.size m) (now (e.trail m)).reads t
copied_stands e {m = m} c t at large same =
    resized (e.size m) (now (e.trail m)).reads t large (stands_behind c (now (e.trail m)).reads t at same)

module _ {E : Type 0} (e : Ghosts E) (law : StandingLaw) where
  -- a store that was opened shows what stood there
  pub stands_shows : {m : E} {store : StoreView E} (t : Standing) → Stands (e.size m) (now (e.trail m)).reads t
      → e.honest m
      → IsOpened e m store → IsConfined e.size e.honest e.trail Nowhere m store.disk → ShowsNow e t store
  stands_shows {m = m} {store = store} t stands honest opened run =
      let found = opened.found honest in
      record {
        usable = opened.usable;
        honest = run.still honest;
        shows = subst (λ (x : ℕ × Content). Stands x.0 x.1 t)
            (λ i. (sym run.as_large i, sym (still_all (e.trail m) (e.trail store.disk) (run.moments honest)) i)) stands;
        desktop = sym found.is
            ∙ ap desktop_of (law (e.size m) (now (e.trail m)).reads found.standing t found.stands stands);
      }

  pub opened_shows : {m : E} {store : StoreView E} (c : Content) (t : Standing) → Stands STORE_SECTORS c t
      → STORE_SECTORS ≤ e.size m → ((n : ℕ) → n < STORE_SECTORS → (now (e.trail m)).reads n ≡ c n) → e.honest m
      → IsOpened e m store → IsConfined e.size e.honest e.trail Nowhere m store.disk → ShowsNow e t store
  opened_shows c t at large same = stands_shows t (copied_stands e c t at large same)

  -- without its last events it shows the desktop behind the others
  pub undone_to : {old new : StoreView E} (t : Standing) → ShowsNow e t old → IsDurable e old → (count back : ℕ)
      {events : List Event} → IsTakenBack e back events old new → back ≡ length t.events - count
      → count ≤ length t.events → new.desktop ≡ steps_in t.version t.start (take count t.events)
  undone_to {old = old} {new = new} t shown durable count back {events = events} taken is low =
      let many = (shown_as (now (e.trail old.disk)) t law (durable shown.honest) shown.shows).events in
      let x = taken.back shown.honest t shown.shows in
      let rest = x.0 in
      let same = rest_within events t rest (omega (arith, taken.few, is)) x.1.leaves.is_rest in
      let own = (taken.own (omega (arith, is, many))).1 in
      let long : length events ≡ back = elim taken.as_many [
        | inl all ↦ all
        | inr none ↦ omega (arith, none, own, taken.few, is, many)
      ] in
      let all : t.events ≡ rest.events ++ events = ap (λ s. s.events) same in
      let sum = ap length all in
      let left : length rest.events ≡ count = omega (arith, sum, long, is, low, length-append rest.events events) in
      let first : take count t.events ≡ rest.events =
      ap (take count) all ∙ ap (λ n. take n (rest.events ++ events)) (sym left) ∙ take-append_seam rest.events events in
      x.1.desktop ∙ (λ i. steps_in (sym (ap (λ s. s.version) same) i) (sym (ap (λ s. s.start) same) i) (sym first i))

-- the store stands at the beginning of its disk
pub stands_first : {size : ℕ} (c : Content) (s : Standing) → Stands size c s → StandsFrom c 0 s
stands_first c s at = resized STORE_SECTORS (λ n. c (0 + n)) s (omega arith)
    (stands_behind c (λ n. c (0 + n)) s at (λ n low. ap c (omega arith)))

-- ---- pages behind a start

module _ {D : Type 0} (d : Ghosts D) {start : Start} {deeds : List PastDeed} {desktop : Desktop} {old : StoreView D}
    (keeps : KeepsAll d start deeds desktop old) (base : ℕ) (is : start.base ≡ base) where
  pub start_there : StandsFrom (now (d.trail old.disk)).reads base keeps.remembers.past.written.0.standing
  start_there = subst (λ n. StandsFrom (now (d.trail old.disk)).reads n keeps.remembers.past.written.0.standing) is
      keeps.remembers.past.written.0.stands

  pub start_room : base + STORE_SECTORS ≤ keeps.remembers.standing.past.next
  start_room =
      let far = end_above keeps.remembers.pages (first_page start) in
      omega (arith, far, keeps.remembers.past.up_to, is)

  pub pages_there : HasPages (now (d.trail old.disk)).reads (base + STORE_SECTORS) keeps.remembers.pages
  pages_there = subst (λ n. HasPages (now (d.trail old.disk)).reads (n + STORE_SECTORS) keeps.remembers.pages) is
      keeps.remembers.past.written.1

  pub pages_end : end_of_pages (base + STORE_SECTORS) keeps.remembers.pages ≡ keeps.remembers.standing.past.next
  pages_end = ap (λ n. end_of_pages (n + STORE_SECTORS) keeps.remembers.pages) (sym is) ∙ keeps.remembers.past.up_to
