-- Pages that are stepped on another store. `e` is what is known of that store's disk.
use Rattle.std.proofs.Common.{◌≡◌, ◌+◌, ◌-◌, ◌<◌, ◌≤◌, ℕ, zero, suc, List, [], ◌∷◌, ◌++◌, length, take, refl, sym}
use Rattle.std.proofs.Common.{◌∙◌, ap}
use Rattle.std.proofs.Common.{subst, arith, length-append, true}
use Rattle.std.specs.Prelude.{Bool, false}
use Rattle.std.proofs.lemmas.List.{append-nil, length-take, take-append-le, take_all}
use Rattle.std.proofs.Math.Seq.{take-append-add}
use Rattle.sector_disk.specs.declared.disk.Disk.{Ghosts}
use Rattle.sector_disk.specs.Trail.{Content}
use Rattle.desktop_definitions.specs.Desktop.{Desktop}
use Rattle.event_bytes.specs.declared.event.Event.{Event}
use Rattle.desktop_definitions.specs.Step.{Outcome, steps, steps_in}
use Rattle.desktop_definitions.specs.declared.reply.Reply.{Reply}
use Rattle.document_filing.specs.Bringing.{Documents}
use Rattle.desk_journal.specs.Bringing.{AreBrought}
use Rattle.desk_journal.specs.Undoing.{IsLedOn}
use Rattle.desk_journal.specs.View.{StoreView}
use Rattle.past_pages.specs.Copies.{Sectors}
use Rattle.past_pages.specs.Page.{Page, of_copy, of_events, of_import, of_turn, page_sectors}
use Rattle.past_pages.specs.Reading.{HasPage, IsRead}
use Rattle.past_pages.specs.declared.pages.PageDeeds.{PageDeeds}
use Rattle.past_pages.specs.declared.pages.PageDeeds.TheVariants.{Events, FarTurn, Import, Mark, Turn}
use Rattle.desk_past.specs.Deeds.{PastDeed, after_deeds, all_posted, brought, posted, turned}
use Rattle.desk_past.specs.Past.{HasPages, deeds_in, end_of_pages}
use Rattle.desk_past.specs.Past.{AreGood, HasMoment, Remembers, Start, all_deeds, moment}
use Rattle.desk_past.specs.Reading.{IsLed, many_deeds}
use Rattle.desk_past.specs.Routes.{HasNoTurn}
use Rattle.desk_past.proofs.Carrying.{end_above}
use Rattle.desk_past.proofs.Moments.{after_both, after_posted, joined, many_posted, posted_first, stepped_on}

-- ---- deeds none of which is a turn

pub none_behind : (some more : List PastDeed) → HasNoTurn (some ++ more) → HasNoTurn more
none_behind [] more free = free
none_behind (posted event ∷ some) more free = none_behind some more free
none_behind (brought documents ∷ some) more free = none_behind some more free
none_behind (turned to ∷ some) more free = absurd free

none_first : (n m : ℕ) (some more : List PastDeed) → n ≤ m → HasNoTurn (take m (some ++ more)) → HasNoTurn (take n some)
none_first zero m some more few free = tt
none_first (suc n) m [] more few free = tt
none_first (suc n) zero (deed ∷ some) more few free = absurd (omega (arith, few))
none_first (suc n) (suc m) (posted event ∷ some) more few free = none_first n m some more (omega (arith, few)) free
none_first (suc n) (suc m) (brought documents ∷ some) more few free = none_first n m some more (omega (arith, few)) free
none_first (suc n) (suc m) (turned to ∷ some) more few free = absurd free

-- ---- pages, one after another

-- So many events of the pages have been stepped, and the others stand from this sector on.
pub record HasStepped {E : Type 0} (e : Ghosts E) (c : Content) (end count : ℕ) (pages : List Page) (at left : ℕ)
    (old new : StoreView E)
    : Type 0 where
  pub todo : List Page
  pub done : List PastDeed
  pub written : HasPages c at todo
  pub good : AreGood todo
  pub up_to : end_of_pages at todo ≡ end
  pub all : done ++ all_deeds todo ≡ all_deeds pages
  pub counted : length done + left ≡ count
  pub usable : old.must_reopen ≡ false → new.must_reopen ≡ false
  pub still : e.honest old.disk → e.honest new.disk
  pub desktop : e.honest old.disk → new.desktop ≡ after_deeds old.desktop done

pub none_stepped : {E : Type 0} (e : Ghosts E) {c : Content} {end : ℕ} (count : ℕ) (pages : List Page) {at : ℕ}
    (store : StoreView E) → HasPages c at pages → AreGood pages → end_of_pages at pages ≡ end
    → HasStepped e c end count pages at count store store
none_stepped e count pages store written good up_to = record {
  todo = pages;
  done = [];
  written = written;
  good = good;
  up_to = up_to;
  all = refl;
  counted = omega arith;
  usable = λ u. u;
  still = λ h. h;
  desktop = λ h. refl;
}

-- where events are left to step, a page is left
pub some_left : (todo : List Page) (done all : List PastDeed) (left : ℕ) → 0 < left → done ++ all_deeds todo ≡ all
    → length done + left ≤ length all → (p : Page) × (more : List Page) × (todo ≡ p ∷ more)
some_left [] done all left some same room =
    absurd (let long = ap length same in omega (arith, some, room, long, length-append done []))
some_left (p ∷ more) done all left some same room = (p, more, refl)

module _ {E : Type 0} (e : Ghosts E) {c : Content} {end count : ℕ} {pages : List Page} {at left : ℕ}
    {old mid : StoreView E} (was : HasStepped e c end count pages at left old mid) where
  page_left : 0 < left → count ≤ length (all_deeds pages) → (p : Page) × (more : List Page) × (was.todo ≡ p ∷ more)
  page_left some room = some_left was.todo was.done (all_deeds pages) left some was.all
      (omega (arith, was.counted, room))

  has_page : (p : Page) (more : List Page) → was.todo ≡ p ∷ more → HasPage c at end p
  has_page p more is =
      let far = end_above more (at + page_sectors p) in
      let ends = sym (ap (end_of_pages at) is) ∙ was.up_to in record {
        held = (subst (HasPages c at) is was.written).0;
        good = (subst AreGood is was.good).0;
        within = omega (arith, far, ends);
      }

  -- the whole page was stepped
  page_stepped : {new : StoreView E} (p : Page) (more : List Page) → was.todo ≡ p ∷ more → {deeds : List PastDeed}
      → IsLed e deeds mid new → deeds ≡ deeds_in p → {next less : ℕ} → next ≡ at + page_sectors p → length deeds +
      less ≡ left
      → HasStepped e c end count pages next less old new
  page_stepped p more is {deeds = deeds} led same {next = next} {less = less} behind fewer = record {
    todo = more;
    done = was.done ++ deeds_in p;
    written = subst (λ n. HasPages c n more) (sym behind) (subst (HasPages c at) is was.written).1;
    good = (subst AreGood is was.good).1;
    up_to = ap (λ n. end_of_pages n more) behind ∙ sym (ap (end_of_pages at) is) ∙ was.up_to;
    all = joined was.done (deeds_in p) (all_deeds more) ∙ sym (ap (λ l. was.done ++ all_deeds l) is) ∙ was.all;
    counted = let long = ap length same in omega (arith, fewer, was.counted, long, length-append was.done (deeds_in p));
    usable = λ u. led.usable (was.usable u);
    still = λ h. led.still (was.still h);
    desktop = λ h. led.desktop (was.still h) ∙ (λ i. after_deeds (was.desktop h i) (same i))
        ∙ sym (after_both old.desktop was.done (deeds_in p));
  }

  -- what is to be done is what was done, and this of the pages that are left
  all_parts : (p : Page) (more : List Page) → was.todo ≡ p ∷ more
      → take count (all_deeds pages) ≡ was.done ++ take left (deeds_in p ++ all_deeds more)
  all_parts p more is =
      ap (take count) (sym was.all ∙ ap (λ l. was.done ++ all_deeds l) is)
      ∙ ap (λ n. take n (was.done ++ (deeds_in p ++ all_deeds more))) (sym was.counted)
      ∙ take-append-add was.done (deeds_in p ++ all_deeds more) left

  -- none of it is a turn
  none_turns : (p : Page) (more : List Page) → was.todo ≡ p ∷ more → HasNoTurn (take count (all_deeds pages)) → (n : ℕ)
      → n ≤ left → HasNoTurn (take n (deeds_in p))
  none_turns p more is free n few = none_first n left (deeds_in p) (all_deeds more) few
      (none_behind was.done (take left (deeds_in p ++ all_deeds more)) (subst HasNoTurn (all_parts p more is) free))

  -- the first events of the page were the last ones
  last_stepped : {new : StoreView E} (p : Page) (more : List Page) → was.todo ≡ p ∷ more
      → IsLed e (take left (deeds_in p)) mid new → left ≤ length (deeds_in p)
      → IsLed e (take count (all_deeds pages)) old new
  last_stepped p more is led few = record {
    usable = λ u. led.usable (was.usable u);
    still = λ h. led.still (was.still h);
    desktop = λ h. led.desktop (was.still h) ∙ ap (λ x. after_deeds x (take left (deeds_in p))) (was.desktop h)
        ∙ sym (after_both old.desktop was.done (take left (deeds_in p)))
        ∙ ap (λ l. after_deeds old.desktop (was.done ++ l)) (sym
        (take-append-le left (deeds_in p) (all_deeds more) few))
        ∙ ap (after_deeds old.desktop) (sym (all_parts p more is));
  }

-- what was read of a page is as much as it says
pub read_many : (deeds : PageDeeds) (p : Page) → IsRead deeds p → many_deeds deeds ≡ length (deeds_in p)
read_many (Events events) (of_events version all) is = ap length is ∙ sym (many_posted all)
read_many (Events events) (of_import version all) is = absurd is
read_many (Events events) (of_turn version k to) is = absurd is
read_many (Events events) (of_copy version false sectors to) is = absurd is
read_many (Events events) (of_copy version true sectors to) is = absurd is
read_many (Import documents) (of_events version all) is = absurd is
read_many (Import documents) (of_import version all) is = refl
read_many (Import documents) (of_turn version k to) is = absurd is
read_many (Import documents) (of_copy version false sectors to) is = absurd is
read_many (Import documents) (of_copy version true sectors to) is = absurd is
read_many (Turn moment) (of_events version all) is = absurd is
read_many (Turn moment) (of_import version all) is = absurd is
read_many (Turn moment) (of_turn version k to) is = refl
read_many (Turn moment) (of_copy version false sectors to) is = absurd is
read_many (Turn moment) (of_copy version true sectors to) is = absurd is
read_many Mark (of_events version all) is = absurd is
read_many Mark (of_import version all) is = absurd is
read_many Mark (of_turn version k to) is = absurd is
read_many Mark (of_copy version false sectors to) is = refl
read_many Mark (of_copy version true sectors to) is = absurd is
read_many FarTurn (of_events version all) is = absurd is
read_many FarTurn (of_import version all) is = absurd is
read_many FarTurn (of_turn version k to) is = absurd is
read_many FarTurn (of_copy version false sectors to) is = absurd is
read_many FarTurn (of_copy version true sectors to) is = refl

-- ---- the page that comes next: what was read of it, and as much of that done

module _ {E : Type 0} (e : Ghosts E) {c : Content} {end count : ℕ} {pages : List Page} {at left : ℕ}
    {old mid : StoreView E} (was : HasStepped e c end count pages at left old mid) (some : 0 < left)
    (room : count ≤ length (all_deeds pages)) where
  -- there is one
  pub one_more : (p : Page) × HasPage c at end p
  one_more = let x = page_left e was some room in (x.0, has_page e was x.0 x.1 x.2)

  module _ {new : StoreView E} (deeds : PageDeeds) (next n : ℕ) (many : n ≡ many_deeds deeds)
      (read : (p : Page) → HasPage c at end p → IsRead deeds p × (next ≡ at + page_sectors p)) where
    module _ {done : Bool} (free : HasNoTurn (take count (all_deeds pages))) where
      -- all of it was done
      pub next_stepped : ((p : Page) → IsRead deeds p → HasNoTurn (take n (deeds_in p))
          → (done ≡ true) × IsLed e (take n (deeds_in p)) mid new) → n < left
          → (done ≡ true) × HasStepped e c end count pages next (left - n) old new
      next_stepped led less =
          let x = page_left e was some room in
          let is = read x.0 (has_page e was x.0 x.1 x.2) in
          let long = many ∙ read_many deeds x.0 is.0 in
          let fact = led x.0 is.0 (none_turns e was x.0 x.1 x.2 free n (omega (arith, less))) in (
            fact.0,
            page_stepped e was x.0 x.1 x.2 fact.1 (take_all n (deeds_in x.0) (omega (arith, long))) is.1
                (let short = length-take n (deeds_in x.0) in omega (arith, long, less, short)),
          )

      -- what was done of it was the last
      pub next_ends : ((p : Page) → IsRead deeds p → HasNoTurn (take left (deeds_in p))
          → (done ≡ true) × IsLed e (take left (deeds_in p)) mid new) → left ≤ n
          → (done ≡ true) × IsLed e (take count (all_deeds pages)) old new
      next_ends led few =
          let x = page_left e was some room in
          let is = read x.0 (has_page e was x.0 x.1 x.2) in
          let long = many ∙ read_many deeds x.0 is.0 in
          let fact = led x.0 is.0 (none_turns e was x.0 x.1 x.2 free left (omega arith)) in
          (fact.0, last_stepped e was x.0 x.1 x.2 fact.1 (omega (arith, long, few)))

-- none is left
pub all_stepped : {E : Type 0} (e : Ghosts E) {c : Content} {end count : ℕ} {pages : List Page} {at left : ℕ}
    {old new : StoreView E} (was : HasStepped e c end count pages at left old new) → left ≡ 0
    → IsLed e (take count (all_deeds pages)) old new
all_stepped e {count = count} {old = old} was none = record {
  usable = was.usable;
  still = was.still;
  desktop = λ honest. was.desktop honest
      ∙ ap (after_deeds old.desktop) (sym (append-nil was.done))
      ∙ ap (after_deeds old.desktop) (sym (take-append-add was.done (all_deeds was.todo) 0))
      ∙ ap (λ n. after_deeds old.desktop (take n (was.done ++ all_deeds was.todo)))
      (ap (λ n. length was.done + n) (sym none) ∙ was.counted)
      ∙ ap (λ l. after_deeds old.desktop (take count l)) was.all;
}

-- ---- what a page says is done once more

module _ {E : Type 0} (e : Ghosts E) {old new : StoreView E} where
  pub led_events : {events : List Event} (all : PageDeeds) (p : Page) (count : ℕ) (items : List Event)
      → ((version : ℕ) (page : List Event) → IsRead all (of_events version page) → items ≡ page)
      → ((version : ℕ) (documents : Documents) → IsRead all (of_import version documents) → ⊥)
      → ((version k : ℕ) (to : Desktop) → IsRead all (of_turn version k to) → ⊥)
      → ((version : ℕ) (far : Bool) (sectors : Sectors) (to : Desktop) → IsRead all (of_copy version far sectors to)
      → ⊥)
      → IsRead all p → events ≡ take count items → IsLedOn e events old new
      → (old.must_reopen ≡ false → new.must_reopen ≡ false) → IsLed e (take count (deeds_in p)) old new
  led_events {events = events} all (of_events version page) count items same other others copies read first led
      usable = record {
        usable = usable;
        still = led.still;
        desktop = λ h. led.desktop h
            ∙ ap (steps old.desktop) (first ∙ ap (take count) (same version page read))
            ∙ sym (after_posted old.desktop (take count page))
            ∙ ap (after_deeds old.desktop) (sym (posted_first count page));
      }
  led_events all (of_import version documents) count items same other others copies read first led usable =
      absurd (other version documents read)
  led_events all (of_turn version k to) count items same other others copies read first led usable =
      absurd (others version k to read)
  led_events all (of_copy version far sectors to) count items same other others copies read first led usable =
      absurd (copies version far sectors to read)

  -- an import is one deed
  pub led_import : (all : PageDeeds) (p : Page) (count : ℕ) (documents : Documents) {reply : Reply}
      → ((version : ℕ) (page : List Event) → IsRead all (of_events version page) → ⊥)
      → ((version : ℕ) (page : Documents) → IsRead all (of_import version page) → documents ≡ page)
      → ((version k : ℕ) (to : Desktop) → IsRead all (of_turn version k to) → ⊥)
      → ((version : ℕ) (far : Bool) (sectors : Sectors) (to : Desktop) → IsRead all (of_copy version far sectors to)
      → ⊥)
      → IsRead all p → count ≡ 1 → (e.honest old.disk → e.honest new.disk) → AreBrought e documents reply old new
      → IsLed e (take count (deeds_in p)) old new
  led_import all (of_events version events) count documents other same others copies read one still done =
      absurd (other version events read)
  led_import all (of_turn version k to) count documents other same others copies read one still done =
      absurd (others version k to read)
  led_import all (of_copy version far sectors to) count documents other same others copies read one still done =
      absurd (copies version far sectors to read)
  led_import all (of_import version page) count documents other same others copies read one still done = record {
    usable = λ u. done.usable;
    still = still;
    desktop = λ h. ap (λ (o : Outcome). o.desktop) (done.brought.done h)
        ∙ ap (λ l. after_deeds old.desktop (brought l ∷ [])) (same version page read)
        ∙ ap (λ n. after_deeds old.desktop (take n (brought page ∷ []))) (sym one);
  }

-- nothing
pub led_none : {E : Type 0} (e : Ghosts E) (store : StoreView E) (p : Page) (count : ℕ) → count ≡ 0
    → IsLed e (take count (deeds_in p)) store store
led_none e store p count none = record {
  usable = λ u. u;
  still = λ h. h;
  desktop = λ h. ap (λ n. after_deeds store.desktop (take n (deeds_in p))) (sym none);
}

-- a turn can't be done so
turn_first : (count : ℕ) (to : Desktop) → 0 < count → HasNoTurn (take count (turned to ∷ [])) → ⊥
turn_first zero to some free = omega (arith, some)
turn_first (suc count) to some free = free

pub led_turn : (all : PageDeeds) (p : Page) (count : ℕ)
    → ((version : ℕ) (page : List Event) → IsRead all (of_events version page) → ⊥)
    → ((version : ℕ) (documents : Documents) → IsRead all (of_import version documents) → ⊥)
    → ((version : ℕ) (sectors : Sectors) (to : Desktop) → IsRead all (of_copy version false sectors to) → ⊥)
    → IsRead all p → 0 < count → HasNoTurn (take count (deeds_in p)) → ⊥
led_turn all (of_events version page) count events documents marks read some free = events version page read
led_turn all (of_import version page) count events documents marks read some free = documents version page read
led_turn all (of_turn version k to) count events documents marks read some free = turn_first count to some free
led_turn all (of_copy version false sectors to) count events documents marks read some free = marks version sectors to
    read
led_turn all (of_copy version true sectors to) count events documents marks read some free = turn_first count to some
    free

-- ---- moments

-- as many deeds came before the journal in use as the head tells, and as many up to the present
pub deeds_up_to : {size : ℕ} {start : Start} {deeds : List PastDeed} {desktop : Desktop} {c : Content}
    (r : Remembers size start deeds desktop c)
    → r.standing.past.before + length r.standing.events ≡ start.before + length deeds
deeds_up_to r =
    let long = ap length r.all in
    omega (
      arith,
      long,
      length-append (all_deeds r.pages) (all_posted r.standing.events),
      many_posted r.standing.events,
      r.past.counted,
    )

module _ {size : ℕ} {start : Start} {deeds : List PastDeed} {desktop : Desktop} {c : Content}
    (r : Remembers size start deeds desktop c) (k : ℕ) where
  -- a moment of the pages
  pub moment_in_pages : start.before ≤ k → k < r.standing.past.before
      → after_deeds start.desktop (take (k - start.before) (all_deeds r.pages)) ≡ moment start deeds k
  moment_in_pages low high =
      ap (after_deeds start.desktop) (sym (take-append-le (k - start.before) (all_deeds r.pages)
      (all_posted r.standing.events)
      (omega (arith, low, high, r.past.counted))))
      ∙ ap (λ l. after_deeds start.desktop (take (k - start.before) l)) r.all

  -- and one of the journal
  pub moment_in_journal : r.standing.past.before ≤ k
      → steps_in r.standing.version r.standing.start (take (k - r.standing.past.before) r.standing.events)
      ≡ moment start deeds k
  moment_in_journal low =
      let n = k - r.standing.past.before in
      sym (stepped_on start.desktop r.pages r.standing (take n r.standing.events) r.past.newest r.past.leads)
      ∙ ap (λ l. after_deeds start.desktop (all_deeds r.pages ++ l)) (sym (posted_first n r.standing.events))
      ∙ ap (after_deeds start.desktop) (sym (take-append-add (all_deeds r.pages) (all_posted r.standing.events) n))
      ∙ ap (λ m. after_deeds start.desktop (take m (all_deeds r.pages ++ all_posted r.standing.events)))
      (omega (arith, low, r.past.counted))
      ∙ ap (λ l. after_deeds start.desktop (take (k - start.before) l)) r.all

  -- which is one that the journal has
  pub few_in_journal : HasMoment start deeds k → r.standing.past.before ≤ k
      → k - r.standing.past.before ≤ length r.standing.events
  few_in_journal within low =
      let long = ap length r.all in
      omega (
        arith,
        within.high,
        low,
        long,
        length-append (all_deeds r.pages) (all_posted r.standing.events),
        many_posted r.standing.events,
        r.past.counted,
      )

  -- there is such a moment
  pub moment_of_journal : r.standing.past.before ≤ k → k - r.standing.past.before ≤ length r.standing.events
      → HasMoment start deeds k
  moment_of_journal low few =
      let long = ap length r.all in
      record {
        low = omega (arith, low, r.past.counted);
        high = omega (
          arith,
          low,
          few,
          long,
          length-append (all_deeds r.pages) (all_posted r.standing.events),
          many_posted r.standing.events,
          r.past.counted,
        );
      }

  pub moment_of_pages : start.before ≤ k → k < r.standing.past.before → HasMoment start deeds k
  moment_of_pages low high =
      let long = ap length r.all in
      record {
        low = low;
        high = omega (
          arith,
          high,
          long,
          length-append (all_deeds r.pages) (all_posted r.standing.events),
          r.past.counted,
        );
      }
