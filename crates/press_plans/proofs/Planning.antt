-- The plan of a task is made by one look at the store.
use Rattle.std.proofs.Common.{rules, ◌≡◌, ◌≢◌, Bool, true, false, refl, sym, ◌∙◌, ap, Ok, Err, List, []}
use Rattle.std.specs.Prelude.{Result}
use Rattle.std.specs.Prelude.{ℕ, nat_lt, min, unwrap_or, if◌then◌else◌, Option, Some, None}
use Rattle.std.proofs.lemmas.Bool.{cond-true, cond-false, false≢true}
use Rattle.sector_disk.specs.declared.disk.Disk.{Ghosts}
use Rattle.event_bytes.specs.declared.event.Event.{Event}
use Rattle.desktop_definitions.specs.Desktop.{Desktop}
use Rattle.desktop_definitions.specs.Shown.{shown_screen}
use Rattle.desk_journal.specs.Errors.{Error, NoMemory}
use Rattle.desk_journal.specs.Looking.{OnlyLooks}
use Rattle.caret_moves.specs.declared.wish.KeyWish.{KeyWish}
use Rattle.caret_moves.specs.declared.wish.WhyNot.{WhyNot}
use Rattle.desk_journal.specs.Leading.{DoesWish, led}
use Rattle.desk_journal.specs.Scrolling.{Scrolls, Wish, presses_to}
use Rattle.desk_journal.specs.View.{StoreView}
use Rattle.desk_journal.specs.Views.{DeskInfo, Place as ViewerPlace, ShownViewer, desk_info, last_log_line}
use Rattle.terminal_presses.specs.Sights.{Sight}
use Rattle.screen_reading.specs.Frames.{text_rows_in_sight}
use Rattle.desk_journal.proofs.Passing.{at_start}
use Rattle.press_tasks.specs.declared.finding.Finding.{Finding}
use Rattle.press_tasks.specs.declared.refill.Refilling.{Refilling}
use Rattle.press_tasks.specs.declared.task.Filling.{Filling}
use Rattle.press_tasks.specs.declared.task.Stage.{Stage}
use Rattle.press_tasks.specs.declared.task.Stage.TheVariants.{First, On}
use Rattle.press_tasks.specs.declared.task.Task.{Task}
use Rattle.press_tasks.specs.declared.task.Task.TheVariants as kind
use Rattle.press_plans.specs.declared.plan.Plan.{Plan as MadePlan}
use Rattle.press_plans.specs.Plans.{Makes, caret_place, comeback_plan, goes_along, page_plan, page_wish, paged_plan, place_meant}
use Rattle.press_plans.specs.Plans.{Plan, Events, Says, answer_plan, lead_plan, opened_plan, opened_viewer, plan_of, plan_on}
use Rattle.press_plans.specs.Plans.{seen_plan, unbroken_plan, broken_plan, type_plan, placed_plan, go_then}
use Rattle.press_plans.specs.Plans.{poured_plan, room_plan, standing}
use Rattle.filled_pastes.specs.Poured.{word_length}
use Rattle.press_plans.specs.Filling.{room_if, place_behind, is_place}
use Rattle.press_tasks.specs.Refilling.{one_behind}
use Rattle.earlier_presses.specs.Replacing.{TypingView, first_typed}
use Rattle.status_line.specs.declared.deed.Deed.{Deed}
use Rattle.caret_moves.specs.declared.wish.KeyWish.TheVariants.{Break, Place}

-- what is neither an event of the hand, nor a scroll, nor typed, nor what follows one or a call is planned by the screen
pub by_screen : (task : Task) (d : Desktop) → ((event : Event) → task ≢ kind.Post event)
    → ((at : Option (ℕ × ℕ)) (wish : Wish) → task ≢ kind.Scroll at wish)
    → ((wish : KeyWish) → task ≢ kind.Lead wish)
    → ((before : DeskInfo) (cell : Option (ℕ × ℕ)) → task ≢ kind.After before cell)
    → ((cell : ℕ × ℕ) → task ≢ kind.Enter cell)
    → ((at : Option (ℕ × ℕ)) (is_up : Bool) (sight : Sight) → task ≢ kind.Page at is_up sight)
    → (task ≢ kind.Show)
    → ((t : TypingView) (fills : Bool) (deed : Deed) → task ≢ kind.TypeOn t fills deed)
    → ((place : ℕ) (t : TypingView) (fills : Bool) (deed : Deed) → task ≢ kind.GoBack place t fills deed)
    → ((event : Event) (fills : Filling) → task ≢ kind.TypeOver event fills)
    → ((behind : Bool) → task ≢ kind.Erase behind)
    → ((stage : Stage) (bytes : List ℕ) (typed : ℕ) → task ≢ kind.Pour stage bytes typed)
    → ((finding : Finding) → task ≢ kind.Find finding)
    → ((refilling : Refilling) → task ≢ kind.Refill refilling)
    → ((start at : ℕ × ℕ) → task ≢ kind.Extend start at)
    → ((event : Event) (deed : Option Deed) → task ≢ kind.Call event deed)
    → plan_of task d ≡ plan_on task (shown_screen d)
unfolding plan_of
by_screen (kind.Post event) d post scroll lead after enter page show types back over erase pours finds refills extends calls = absurd (post event refl)
by_screen (kind.Scroll at wish) d post scroll lead after enter page show types back over erase pours finds refills extends calls = absurd (scroll at wish refl)
by_screen (kind.Lead wish) d post scroll lead after enter page show types back over erase pours finds refills extends calls = absurd (lead wish refl)
by_screen (kind.Seek at) d post scroll lead after enter page show types back over erase pours finds refills extends calls = refl
by_screen (kind.After before cell) d post scroll lead after enter page show types back over erase pours finds refills extends calls =
    absurd (after before cell refl)
by_screen (kind.Enter cell) d post scroll lead after enter page show types back over erase pours finds refills extends calls = absurd (enter cell refl)
by_screen (kind.Page at is_up sight) d post scroll lead after enter page show types back over erase pours finds refills extends calls = absurd (page at is_up sight refl)
by_screen kind.Show d post scroll lead after enter page show types back over erase pours finds refills extends calls = absurd (show refl)
by_screen (kind.TypeOn t fills deed) d post scroll lead after enter page show types back over erase pours finds refills extends calls = absurd (types t fills deed refl)
by_screen (kind.GoBack place t fills deed) d post scroll lead after enter page show types back over erase pours finds refills extends calls =
    absurd (back place t fills deed refl)
by_screen (kind.Word at) d post scroll lead after enter page show types back over erase pours finds refills extends calls = refl
by_screen (kind.Reveal cell) d post scroll lead after enter page show types back over erase pours finds refills extends calls = refl
by_screen (kind.TypeOver event fills) d post scroll lead after enter page show types back over erase pours finds refills extends calls = absurd (over event fills refl)
by_screen (kind.Erase behind) d post scroll lead after enter page show types back over erase pours finds refills extends calls = absurd (erase behind refl)
by_screen (kind.Pour stage bytes typed) d post scroll lead after enter page show types back over erase pours finds refills extends calls =
    absurd (pours stage bytes typed refl)
by_screen (kind.Find finding) d post scroll lead after enter page show types back over erase pours finds refills extends calls =
    absurd (finds finding refl)
by_screen (kind.Refill refilling) d post scroll lead after enter page show types back over erase pours finds refills extends calls =
    absurd (refills refilling refl)
by_screen (kind.Extend start at) d post scroll lead after enter page show types back over erase pours finds refills extends calls =
    absurd (extends start at refl)
by_screen (kind.Call event deed) d post scroll lead after enter page show types back over erase pours finds refills extends calls =
    absurd (calls event deed refl)

-- what is left of what is typed, and before it a line that is broken
module _ (t : TypingView) (fills : Bool) (deed : Deed) (d : Desktop) where
  pub unbroken : None ≡ room_if fills (first_typed t)
      → unbroken_plan (first_typed t) t fills deed ≡ plan_of (kind.TypeOn t fills deed) d
  unfolding plan_of
  unbroken none = ap (λ (o : Option ℕ). type_plan o (first_typed t) t fills deed d) none

  pub broken : (n place : ℕ) (info : DeskInfo) (told : Result (List Event) WhyNot) → Some n ≡ room_if fills (first_typed t)
      → place ≡ one_behind info.caret_position → info ≡ desk_info d → told ≡ led d (Break n)
      → broken_plan told place (first_typed t) t fills deed ≡ plan_of (kind.TypeOn t fills deed) d
  unfolding plan_of
  broken n place info told some place_is info_is told_is =
      let at : place ≡ place_behind d = place_is ∙ ap (λ (i : DeskInfo). one_behind i.caret_position) info_is in
      (λ k. broken_plan (told_is k) (at k) (first_typed t) t fills deed)
      ∙ ap (λ (o : Option ℕ). type_plan o (first_typed t) t fills deed d) some

-- the caret goes to a position, and then a task goes on
module _ (wish : KeyWish) (place : ℕ) (next : Task) (d : Desktop) (info : DeskInfo) (info_is : info ≡ desk_info d) where
  stands_is : (b : Bool) → is_place place info.caret_position ≡ b
      → (if b then Events [] (Some next) else placed_plan wish (led d wish) next) ≡ go_then wish place next d
  stands_is b is = ap (λ (b : Bool). if b then Events [] (Some next) else placed_plan wish (led d wish) next)
      (sym is ∙ ap (λ (i : DeskInfo). is_place place i.caret_position) info_is)

  pub stands : is_place place info.caret_position ≡ true → Events [] (Some next) ≡ go_then wish place next d
  stands is = stands_is true is

  pub goes : (told : Result (List Event) WhyNot) → is_place place info.caret_position ≡ false
      → told ≡ led d wish → placed_plan wish told next ≡ go_then wish place next d
  goes told is told_is =
      ap (λ (r : Result (List Event) WhyNot). placed_plan wish r next) told_is ∙ stands_is false is

-- the first word of a part of a paste comes where it has room
pub makes_room : (bytes : List ℕ) (typed n place : ℕ) (info : DeskInfo) (told : Result (List Event) WhyNot) (d : Desktop)
    → n ≡ min (word_length bytes) 255 → place ≡ one_behind info.caret_position → info ≡ desk_info d → told ≡ led d (Break n)
    → room_plan told place bytes typed ≡ plan_of (kind.Pour First bytes typed) d
unfolding plan_of
makes_room bytes typed n place info told d n_is place_is info_is told_is =
    let at : place ≡ place_behind d = place_is ∙ ap (λ (i : DeskInfo). one_behind i.caret_position) info_is in
    let by : told ≡ led d (Break (min (word_length bytes) 255)) = told_is ∙ ap (λ (m : ℕ). led d (Break m)) n_is in
    λ k. room_plan (by k) (at k) bytes typed

-- and the part is typed there
pub pours : (bytes : List ℕ) (typed place : ℕ) (info : DeskInfo) (told : Result (List Event) WhyNot) (d : Desktop)
    → place ≡ unwrap_or info.caret_position 0 → info ≡ desk_info d → told ≡ led d (Place place)
    → poured_plan told bytes typed ≡ plan_of (kind.Pour On bytes typed) d
unfolding plan_of
pours bytes typed place info told d place_is info_is told_is =
    let at : place ≡ standing d = place_is ∙ ap (λ (i : DeskInfo). unwrap_or i.caret_position 0) info_is in
    let by : told ≡ led d (Place (standing d)) = told_is ∙ ap (λ (p : ℕ). led d (Place p)) at in
    ap (λ (r : Result (List Event) WhyNot). poured_plan r bytes typed) by

-- a page, with which the caret goes along or doesn't
pub pages : (at : Option (ℕ × ℕ)) (is_up : Bool) (sight : Sight) (d : Desktop) (caret : Option (ℕ × ℕ))
    (place stands : Option ViewerPlace) (rows : ℕ) (wish : Wish) (found : Option (List Event)) → place ≡ place_meant at d
    → stands ≡ caret_place d → caret ≡ goes_along sight place stands → rows ≡ text_rows_in_sight sight place
    → wish ≡ page_wish is_up rows → found ≡ presses_to d at wish → paged_plan caret found ≡ plan_of (kind.Page at is_up sight) d
unfolding plan_of page_plan
pages at is_up sight d caret place stands rows wish found place_is stands_is caret_is rows_is wish_is found_is =
    let goes : caret ≡ goes_along sight (place_meant at d) (caret_place d) =
    caret_is ∙ (λ k. goes_along sight (place_is k) (stands_is k)) in
    let wished : wish ≡ page_wish is_up (text_rows_in_sight sight (place_meant at d)) =
    wish_is ∙ ap (page_wish is_up) (rows_is ∙ ap (text_rows_in_sight sight) place_is) in
    let told : found ≡ presses_to d at (page_wish is_up (text_rows_in_sight sight (place_meant at d))) =
    found_is ∙ ap (presses_to d at) wished in
    λ k. paged_plan (goes k) (told k)

-- what is left to do once a word was called
module _ (before : DeskInfo) (cell : Option (ℕ × ℕ)) (d : Desktop) where
  pub opened_answer : (viewer : ShownViewer) → opened_viewer before d ≡ Some viewer
      → opened_plan viewer ≡ plan_of (kind.After before cell) d
  unfolding plan_of
  opened_answer viewer some = sym (ap (λ p. answer_plan p before cell d) some)

  module _ (none : opened_viewer before d ≡ None) (info : DeskInfo) (is : info ≡ desk_info d) where
    abbrev longer : Bool
    longer = nat_lt before.log_length (desk_info d).log_length

    told : nat_lt before.log_length info.log_length ≡ longer
    told = ap (λ (i : DeskInfo). nat_lt before.log_length i.log_length) is

    pub no_answer : nat_lt before.log_length info.log_length ≡ false → comeback_plan before cell d ≡ plan_of (kind.After before cell) d
    unfolding plan_of
    no_answer short = sym (ap (λ p. answer_plan p before cell d) none
        ∙ cond-false longer (Says (last_log_line d)) (comeback_plan before cell d) (sym told ∙ short))

    pub log_answer : (line : List ℕ) → nat_lt before.log_length info.log_length ≡ true → line ≡ last_log_line d
        → Says line ≡ plan_of (kind.After before cell) d
    unfolding plan_of
    log_answer line long said = ap Says said ∙ sym (ap (λ p. answer_plan p before cell d) none
        ∙ cond-true longer (Says (last_log_line d)) (comeback_plan before cell d) (sym told ∙ long))

module _ {D : Type 0} (d : Ghosts D) where
  -- something is made of what was seen
  pub plans_seen : {A : Type 0} (value : A) {of : Desktop → Plan} (plan : MadePlan) {old new : StoreView D}
      → OnlyLooks d (Ok value) old new
      → (d.honest old.disk → seen_plan plan ≡ of old.desktop) → Makes d of (Ok plan) old new
  plans_seen value plan looks is = record {
    exact = is;
    looks = record {
      desktop = looks.desktop;
      kept = looks.kept;
      layout = looks.layout;
      epoch = looks.epoch;
      events = looks.events;
      usable = looks.usable;
      disk = looks.disk;
      reopen = (λ wrong. absurd (cc wrong), λ is. absurd (cc (looks.reopen.1 is)));
      faults = record {
        rose = λ wrong. absurd (cc wrong);
        calm = λ other. looks.faults.calm (λ wrong. absurd (cc wrong));
        errors = tt;
      };
    };
  }

  -- the look fails
  pub plans_unseen : {A : Type 0} {of : Desktop → Plan} {error : Error} {old new : StoreView D}
      → OnlyLooks {T = A} d (Err error) old new → Makes d of (Err error) old new
  plans_unseen {error = error} looks = record {
    exact = tt;
    looks = record {
      desktop = looks.desktop;
      kept = looks.kept;
      layout = looks.layout;
      epoch = looks.epoch;
      events = looks.events;
      usable = looks.usable;
      disk = looks.disk;
      reopen = (λ is. looks.reopen.0 (cc is), λ is. cc (looks.reopen.1 is));
      faults = record {
        rose = λ fault. looks.faults.rose (cc fault);
        calm = λ fine. looks.faults.calm (λ fault. fine (cc fault));
        errors = looks.faults.errors;
      };
    };
  }

  -- memory runs out behind a look
  pub plans_starved : {A : Type 0} (value : A) {of : Desktop → Plan} {old new : StoreView D}
      → OnlyLooks d (Ok value) old new → Makes d of (Err NoMemory) old new
  plans_starved value looks = record {
    exact = tt;
    looks = record {
      desktop = looks.desktop;
      kept = looks.kept;
      layout = looks.layout;
      epoch = looks.epoch;
      events = looks.events;
      usable = looks.usable;
      disk = looks.disk;
      reopen = (λ wrong. absurd (cc wrong), λ is. absurd (cc (looks.reopen.1 is)));
      faults = record {
        rose = λ wrong. absurd (cc wrong);
        calm = λ other. looks.faults.calm (λ wrong. absurd (cc wrong));
        errors = search rules;
      };
    };
  }

  -- no look is needed
  pub plans_at_once : {of : Desktop → Plan} (plan : MadePlan) (store : StoreView D) → store.must_reopen ≡ false
      → (d.honest store.disk → seen_plan plan ≡ of store.desktop) → Makes d of (Ok plan) store store
  plans_at_once plan store usable is = record {
    exact = is;
    looks = record {
      desktop = λ honest. refl;
      kept = refl;
      layout = refl;
      epoch = refl;
      events = refl;
      usable = refl;
      disk = record {
        device = record { as_large = refl; still = λ honest. honest; already = λ honest. honest };
        unwritten = λ honest. at_start (d.trail store.disk) _ (λ c image. image);
      };
      reopen = (λ wrong. absurd (cc wrong), λ is. absurd (false≢true (sym usable ∙ is)));
      faults = record { rose = λ wrong. absurd (cc wrong); calm = λ other. refl; errors = tt };
    };
  }

  -- of presses that the store told
  pub plans_by_presses : (task : Task) (plan : MadePlan) (of : Option (List Event) → Plan) {found : Option (List Event)}
      {at : Option (ℕ × ℕ)} {wish : Wish} (store : StoreView D)
      → ((desktop : Desktop) → plan_of task desktop ≡ of (presses_to desktop at wish))
      → seen_plan plan ≡ of found → (d.honest store.disk → Scrolls store.desktop at wish found)
      → d.honest store.disk → seen_plan plan ≡ plan_of task store.desktop
  plans_by_presses task plan of store means is scrolls honest =
      is ∙ ap of (scrolls honest).exact ∙ sym (means store.desktop)

  -- of what the store told about a wish, by what is made of it
  pub plans_by_told : (task : Task) (wish : KeyWish) (of : Result (List Event) WhyNot → Plan) (plan : MadePlan)
      {told : Result (List Event) WhyNot} (store : StoreView D)
      → ((desktop : Desktop) → plan_of task desktop ≡ of (led desktop wish))
      → seen_plan plan ≡ of told → (d.honest store.disk → DoesWish store.desktop wish told)
      → d.honest store.disk → seen_plan plan ≡ plan_of task store.desktop
  plans_by_told task wish of plan store means is leads honest =
      is ∙ ap of (leads honest).exact ∙ sym (means store.desktop)

  -- of what the store told about a wish
  pub plans_by_lead : (wish : KeyWish) (plan : MadePlan) {told : Result (List Event) WhyNot} (store : StoreView D)
      → seen_plan plan ≡ lead_plan wish told → (d.honest store.disk → DoesWish store.desktop wish told)
      → d.honest store.disk → seen_plan plan ≡ plan_of (kind.Lead wish) store.desktop
  unfolding plan_of
  plans_by_lead wish plan store is leads honest = is ∙ ap (lead_plan wish) (leads honest).exact
