-- What was sent last has the terminal show the scene of the desktop that stands, unless a scene is due.
use Rattle.std.proofs.Common.{◌≡◌, ◌∙◌, ℕ, zero, suc, Bool, true, false, List, [], ◌∷◌, Option, Some, None, inl, inr}
use Rattle.std.proofs.Common.{refl, sym, ap, subst}
use Rattle.std.specs.Prelude.{◌||◌, ◌&&◌, ◌==◌, ◌⊎◌, not, is_some, length, if◌then◌else◌, Result, Ok, Err, ⊤}
use Rattle.host_files.specs.declared.HostFault.{HostFault}
use Rattle.std.proofs.lemmas.Bool.{cond-true, cond-false, or_parts, or_from, or_left, or_right, and_parts, true≢false}
use Rattle.store_layout.proofs.Bits.{true_or_false}
use Rattle.sector_disk.specs.declared.disk.Disk.{Ghosts}
use Rattle.event_bytes.specs.declared.event.Event.{Event}
use Rattle.screen_pictures.specs.declared.cell.Cell.{Cell}
use Rattle.desktop_definitions.specs.Desktop.{Desktop}
use Rattle.desktop_definitions.specs.declared.reply.Reply.{Reply}
use Rattle.desktop_definitions.specs.declared.reply.Reply.TheVariants.{Done, No}
use Rattle.desktop_definitions.specs.Shown.{shown_screen}
use Rattle.desktop_definitions.specs.Step.{step}
use Rattle.screen_drawing.specs.declared.face.Face.{Face}
use Rattle.screen_drawing.specs.declared.scene.Scene.{Scene}
use Rattle.terminal_presses.specs.declared.action.Action.{Action}
use Rattle.terminal_presses.specs.declared.action.Action.TheVariants as action
use Rattle.terminal_presses.specs.declared.asks.Asks.{Asks as AskedFor}
use Rattle.terminal_presses.specs.declared.hand.Hand.{Hand}
use Rattle.terminal_presses.specs.declared.press.Press.{Press}
use Rattle.desk_sitting.specs.Sittings.{meant_by}
use Rattle.terminal_presses.specs.Pointers.{pointer_cell}
use Rattle.terminal_presses.specs.Sights.{terminal_place}
use Rattle.screen_reading.specs.Windows.{following_sight}
use Rattle.desk_journal.specs.Session.{Session, is_worn}
use Rattle.desk_journal.specs.View.{StoreView}
use Rattle.done_presses.specs.declared.again.StorePlace.{StorePlace}
use Rattle.status_line.specs.declared.deed.Deed.{Deed}
use Rattle.done_presses.specs.Past.{back_deed, left_past, with_refused}
use Rattle.earlier_presses.specs.Replacing.{noted}
use Rattle.status_line.specs.declared.question.Question.{Question}
use Rattle.status_line.specs.declared.saying.Saying.{Saying}
use Rattle.status_line.specs.declared.saying.Saying.TheVariants.{Worn}
use Rattle.status_line.specs.declared.saying.Saying.TheVariants as sayings
use Rattle.status_line.specs.Choosing.{refused_saying, rest_saying, rests}
use Rattle.status_line.specs.Question.{asks_to_leave, comes_first}
use Rattle.status_line.specs.Sayings.{line_of, said_by_pointer}
use Rattle.desk_sitting.specs.declared.sitting.Sitting.{Sitting}
use Rattle.press_tasks.specs.declared.task.Task.{Task}
use Rattle.desk_sitting.specs.Doing.{DoesPresses, seat_of}
use Rattle.desk_sitting.specs.Doing.{none as no_press, one_more as one_press}
use Rattle.desk_sitting.specs.Questions.{click_made}
use Rattle.press_tasks.specs.Tasks.{calling_wish}
use Rattle.desk_sitting.specs.Questions.{forgetful, questioned, unasked}
use Rattle.earlier_presses.specs.Twice.{is_nothing, is_of_terminal}
use Rattle.terminal_sittings.specs.Scenes.{IsSceneOf, IsSeen, known_by}
use Rattle.terminal_sittings.specs.Serving.{Exchange, IsSeenUnlessDue, IsShownIfDue, TurnState, Turns, anew, sitting_shown}
use Rattle.terminal_sittings.specs.Serving.{still, store_screen}
use Rattle.terminal_keyboard.specs.declared.completion.Completion.{Completion}
use Rattle.desk_sitting.specs.Sittings.{after_completion, completed}
use Rattle.desk_sitting.specs.Sittings.{Seat, acted, acted_alone, after_fetch, after_planned, after_post, after_posts}
use Rattle.desk_sitting.specs.Sittings.{after_press}
use Rattle.desk_sitting.specs.Sittings.{after_stage, after_task, asks_first, does, done_by, done_so, fetched}
use Rattle.desk_sitting.specs.Sittings.{followed_cell, is_scene_due}
use Rattle.desk_sitting.specs.Sittings.{is_still, is_unseen, looked, most_plans, noted_at, question_at}
use Rattle.desk_sitting.specs.Sittings.{refused, replied, ring_reason}
use Rattle.desk_sitting.specs.Sittings.{with_marks, task_in, task_left, turned_away, turned_by, unplaced, with_hand}
use Rattle.press_tasks.specs.Tasks.{task_of}
use Rattle.press_plans.specs.Plans.{Plan, Aims, Asks, Events, Keeps, PutsAway, Refused as NotDone, Says, Shows, Tells, plan_of}
use Rattle.terminal_sittings.specs.Travelling.{IsBetween}
use Rattle.desk_sitting.specs.Travels.{Travelled, did_again, foreseen, goes_again, is_unmoved, none_again, none_back, recalled, settled, store_place}
use Rattle.desk_sitting.specs.Travels.{did_import, took_deed, took_back, took_import, still_kept}
use Rattle.desk_sitting.specs.Travels.{none as not_asked, back, nothing, again, import_again, import_back}
use Rattle.desk_sitting.specs.Sittings.{is_missed}
use Rattle.desk_sitting.specs.Clips.{clip_saying, clip_sent, copied_text}
use Rattle.desk_sitting.specs.Stored.{unstored_caret}
use Rattle.desk_sitting.specs.Telling.{rest_told, scene_told, told_saying}
use Rattle.desk_sitting.specs.TheDesk.{◌>>=◌, the_desk}

-- ---- a scene that isn't due

record IsQuiet (s : Sitting) : Type 0 where
  pub changed : s.changed ≡ false
  pub follows : s.follows ≡ false
  pub rings : s.rings ≡ false
  pub forgets : s.forgets ≡ false
  pub asks : s.asks ≡ false
  pub copies : s.copies ≡ false

quiet : (s : Sitting) → is_scene_due s ≡ false → IsQuiet s
quiet s is =
    let five = or_parts (s.changed || s.follows || s.rings || s.forgets || s.asks) s.copies is in
    let four = or_parts (s.changed || s.follows || s.rings || s.forgets) s.asks five.0 in
    let three = or_parts (s.changed || s.follows || s.rings) s.forgets four.0 in
    let two = or_parts (s.changed || s.follows) s.rings three.0 in
    let one = or_parts s.changed s.follows two.0 in
    record { changed = one.0; follows = one.1; rings = two.1; forgets = three.1; asks = four.1; copies = five.1 }

not_due : (s : Sitting) → IsQuiet s → is_scene_due s ≡ false
not_due s is =
    or_from _ _ (or_from _ _ (or_from _ _ (or_from _ _ (or_from _ _ is.changed is.follows) is.rings) is.forgets) is.asks)
    is.copies

record IsDue (s : Sitting) : Type 0 where
  pub is : is_scene_due s ≡ true

rings_due : (s : Sitting) → s.rings ≡ true → IsDue s
rings_due s rings = record { is = or_left _ _ (or_left _ _ (or_left _ _ (or_right _ _ rings))) }

follows_due : (s : Sitting) → s.follows ≡ true → IsDue s
follows_due s follows = record { is = or_left _ _ (or_left _ _ (or_left _ _ (or_left _ _ (or_right _ _ follows)))) }

changed_due : (s : Sitting) → s.changed ≡ true → IsDue s
changed_due s changed = record { is = or_left _ _ (or_left _ _ (or_left _ _ (or_left _ _ (or_left _ _ changed)))) }

-- nothing is to be done at a look then, and nothing to be told
told_same : (d : Desktop) (s : Sitting) → is_scene_due s ≡ false → told_saying d s ≡ s.saying
told_same d s due = cond-false (is_scene_due s) (rest_told d s.saying) s.saying due

pub looks_same : (d : Desktop) (s : Sitting) → is_scene_due s ≡ false → looked (shown_screen d) (scene_told d s) ≡ s
unfolding looked scene_told
looks_same d s due =
    let is = quiet s due in
    let screen = shown_screen d in
    λ k. record s {
      sight = cond-false s.follows (following_sight (followed_cell screen s.hand) s.sight) s.sight is.follows k;
      follows = sym is.follows k;
      rings = sym is.rings k;
      forgets = sym is.forgets k;
      asks = sym is.asks k;
      copies = sym is.copies k;
      changed = sym is.changed k;
      saying = clip_saying (is.copies k) (copied_text d) (told_same d s due k);
    }

-- before anything is heard
pub seen_so : {D : Type 0} {s : Sitting} {old mid : StoreView D} {known known' : List (List Face)}
    {held held' : Option (List ℕ)} {waiting waiting' : ℕ} → IsShownIfDue the_desk s old mid known known' held held' waiting waiting'
    → (is_scene_due s ≡ false → IsSeen the_desk s (store_screen old) known held × (waiting ≡ 0))
    → IsSeen the_desk (looked (store_screen old) (scene_told old.desktop s)) (store_screen old) known' held'
seen_so {s = s} {old = old} {known = known} {held = held} (anew due shown) seen = record {
  scene = shown.painted.scene;
  is = shown.painted.is;
  rows = shown.painted.rows;
  was_known = known_by (scene_told old.desktop s).forgets known;
  before = held;
  between = shown.between;
  paints = shown.painted.paints;
  rings = (scene_told old.desktop s).rings;
  asks = (scene_told old.desktop s).asks;
  clip = clip_sent old.desktop s;
  after = shown.after;
}
seen_so {s = s} {old = old} {known = known} {known' = known'} {held' = held'}
    (still due same_store same_known same_held same_waiting) seen =
    subst (λ t. IsSeen the_desk t (store_screen old) known' held') (sym (looks_same old.desktop s due))
    (subst (λ k. IsSeen the_desk s (store_screen old) k held') (sym same_known)
    (subst (λ h. IsSeen the_desk s (store_screen old) known h) (sym same_held) (seen due).0))

pub handed_so : {D : Type 0} {s : Sitting} {old mid : StoreView D} {known known' : List (List Face)}
    {held held' : Option (List ℕ)} {waiting waiting' : ℕ} → IsShownIfDue the_desk s old mid known known' held held' waiting waiting'
    → (is_scene_due s ≡ false → IsSeen the_desk s (store_screen old) known held × (waiting ≡ 0)) → waiting' ≡ 0
handed_so (anew due shown) seen = shown.handed
handed_so (still due same_store same_known same_held same_waiting) seen = same_waiting ∙ (seen due).1

-- ---- what is done leaves it known that something changed

either_keeps : (b : Bool) (x y : Sitting) (c : Bool) → x.changed ≡ c → y.changed ≡ c
    → (if b then x else y).changed ≡ c
either_keeps true x y c one other = one
either_keeps false x y c one other = other

either_seat : (b : Bool) (x y : Seat) (c : Bool) → x.sitting.changed ≡ c → y.sitting.changed ≡ c
    → (if b then x else y).sitting.changed ≡ c
either_seat true x y c one other = one
either_seat false x y c one other = other

turned_keeps : (typed : Option ℕ) (why : Saying) (s : Sitting) → (turned_by typed why s).changed ≡ s.changed
unfolding turned_by
turned_keeps None why s = refl
turned_keeps (Some n) why s = refl

replied_keeps : (event : Event) (reply : Reply) (s : Sitting) → (replied event reply s).changed ≡ s.changed
unfolding replied
replied_keeps event Done s = refl
replied_keeps event (No code) s = turned_keeps s.typed (refused_saying event code) _

post_keeps : (event : Event) (seat : Seat) → (after_post event seat).sitting.changed ≡ seat.sitting.changed
unfolding after_post
post_keeps event seat = either_keeps (is_worn seat.session) _ _ seat.sitting.changed
    (turned_keeps seat.sitting.typed Worn (unplaced seat.sitting))
    (replied_keeps event (step seat.session.desktop event).reply seat.sitting)

posts_keep : (events : List Event) (seat : Seat) → (after_posts events seat).sitting.changed ≡ seat.sitting.changed
posts_keep [] seat = refl
posts_keep (event ∷ events) seat =
    let next : Seat = after_post event seat in
    either_seat (does seat.session event) (after_posts events next) next seat.sitting.changed
    (posts_keep events next ∙ post_keeps event seat) (post_keeps event seat)

planned_keeps : (plan : Plan) (seat : Seat) → (after_planned plan seat).sitting.changed ≡ seat.sitting.changed
planned_keeps (NotDone why) seat = refl
planned_keeps (Events events next) seat = posts_keep events seat
planned_keeps (Says line) seat = refl
planned_keeps (Aims cell) seat = refl
planned_keeps (Shows cell) seat = refl
planned_keeps (Tells saying) seat = refl
planned_keeps (Asks before) seat = refl
planned_keeps (Keeps words next) seat = refl
planned_keeps (PutsAway next) seat = refl

stage_keeps : (left : Option Task) (seat : Seat) → (after_stage left seat).sitting.changed ≡ seat.sitting.changed
stage_keeps None seat = refl
stage_keeps (Some task) seat = planned_keeps (plan_of task seat.session.desktop) seat

task_keeps : (n : ℕ) (left : Option Task) (seat : Seat)
    → (after_task n left seat).sitting.changed ≡ seat.sitting.changed
task_keeps zero left seat = refl
task_keeps (suc n) left seat =
    task_keeps n (task_left left seat.session) (after_stage left seat) ∙ stage_keeps left seat

alone_keeps : (a : Action) (s : Sitting) → (acted_alone a s).changed ≡ s.changed
unfolding acted_alone
alone_keeps action.Ring s = either_keeps s.completes s (refused (ring_reason s) s) s.changed refl refl
alone_keeps action.LookAnew s = refl
alone_keeps action.Leave s = refl
alone_keeps action.Undo s = refl
alone_keeps action.Redo s = refl
alone_keeps (action.TypeFile name) s = refl
alone_keeps (action.Move page) s = refl
alone_keeps (action.Fit rows columns) s = refl
alone_keeps action.Fill s = refl
alone_keeps action.FileFailed s = refl
alone_keeps action.Replace s = refl
alone_keeps _ s = refl

so_keeps : (left : Option Task) (a : Action) (seat : Seat) → (done_so left a seat).sitting.changed ≡ seat.sitting.changed
so_keeps None a seat = alone_keeps a seat.sitting
so_keeps (Some task) a seat = task_keeps most_plans (Some task) seat

by_keeps : (a : Action) (seat : Seat) → (done_by a seat).sitting.changed ≡ seat.sitting.changed
unfolding done_by
by_keeps a seat = so_keeps (task_in seat.sitting a) a (noted_at a seat)

unasked_keeps : (a : Action) (s : Sitting) → (unasked a s).changed ≡ s.changed
unfolding unasked
unasked_keeps a s = either_keeps (is_of_terminal a) _ _ s.changed refl
    (either_keeps (is_nothing a && not (asks_to_leave s.question)) s (forgetful s) s.changed refl refl)

asked_keeps : (o : Option Question) (s : Sitting) → (questioned o s).changed ≡ s.changed
asked_keeps None s = refl
asked_keeps (Some question) s = refl

acted_keeps : (a : Action) (seat : Seat) → (acted a seat).sitting.changed ≡ seat.sitting.changed
unfolding acted
acted_keeps a seat = either_seat (asks_first a seat) _ _ seat.sitting.changed
    (asked_keeps (question_at a seat) seat.sitting)
    (by_keeps a (record seat { sitting = unasked a seat.sitting }) ∙ unasked_keeps a seat.sitting)

-- ---- a press that comes to nothing

no_question : (b : Bool) (last : Option Question) → comes_first last (if b then None else None) ≡ false
no_question true last = refl
no_question false last = refl

asks_nothing : (seat : Seat) → asks_first action.Nothing seat ≡ false
unfolding click_made calling_wish
asks_nothing seat = no_question seat.sitting.questions seat.sitting.question

does_nothing : (seat : Seat) → done_by action.Nothing seat ≡ seat
unfolding done_by task_of acted_alone noted
does_nothing seat = refl

stays_asked : (s : Sitting) → asks_to_leave s.question ≡ false → unasked action.Nothing s ≡ s
unfolding unasked
stays_asked s stays = cond-true (not (asks_to_leave s.question)) s (forgetful s) (ap not stays)

nothing_acted : (seat : Seat) → asks_to_leave seat.sitting.question ≡ false → acted action.Nothing seat ≡ seat
unfolding acted
nothing_acted seat stays = cond-false (asks_first action.Nothing seat) _ _ (asks_nothing seat)
    ∙ does_nothing (record seat { sitting = unasked action.Nothing seat.sitting })
    ∙ ap (λ s. record seat { sitting = s }) (stays_asked seat.sitting stays)

is_that : (a : Action) → is_nothing a ≡ true → a ≡ action.Nothing
is_that action.Nothing is = refl
is_that _ is = absurd cc

none_of : {A : Type 0} (o : Option A) → is_some o ≡ false → o ≡ None
none_of None is = refl
none_of (Some x) is = absurd (true≢false is)

not_true : (b : Bool) → not b ≡ true → b ≡ false
not_true true is = sym is
not_true false is = refl

not_false : (b : Bool) → not b ≡ false → b ≡ true
not_false true is = refl
not_false false is = sym is

record NothingSeen (hand : Hand) : Type 0 where
  pub asked : hand.asked ≡ None
  pub armed : hand.armed ≡ None
  pub pointer : pointer_cell hand.pointer ≡ None

nothing_seen : (hand : Hand) → is_unseen hand ≡ true → NothingSeen hand
nothing_seen hand is =
    let two = or_parts (is_some hand.asked || is_some hand.armed) (is_some (pointer_cell hand.pointer))
    (not_true _ is) in
    let one = or_parts (is_some hand.asked) (is_some hand.armed) two.0 in
    record {
      asked = none_of hand.asked one.0;
      armed = none_of hand.armed one.1;
      pointer = none_of (pointer_cell hand.pointer) two.1;
    }

-- where nothing is asked for it is nothing what that would be
no_line : (w : ℕ) (screen : List (List Cell)) (log : List ℕ) (saying : Saying) (asks asks' : AskedFor) (names names' : ℕ)
    (sought : List ℕ)
    → line_of w screen log None asks names sought None saying ≡ line_of w screen log None asks' names' sought None saying
unfolding line_of
no_line w screen log (sayings.Asks question) asks asks' names names' sought = refl
no_line w screen log _ asks asks' names names' sought = refl

-- the line below where nothing of the hand is seen
line_unseen : (w : ℕ) (screen : List (List Cell)) (log sought : List ℕ) (saying : Saying) (names names' : ℕ)
    (hand hand' : Hand)
    → NothingSeen hand → NothingSeen hand'
    → line_of w screen log hand.asked hand.asks names sought hand.armed
    (said_by_pointer (is_some (pointer_cell hand.pointer)) saying)
    ≡ line_of w screen log hand'.asked hand'.asks names' sought hand'.armed
    (said_by_pointer (is_some (pointer_cell hand'.pointer)) saying)
line_unseen w screen log sought saying names names' hand hand' is is' =
    let said = said_by_pointer false saying in
    rw (is.asked, is.armed, is.pointer, is'.asked, is'.armed, is'.pointer)
    (no_line w screen log said hand.asks hand'.asks names names' sought)

-- the same scene is due
scene_stays : (press : Press) (next : Hand × Action) (s : Sitting) (screen : List (List Cell)) (scene : Scene)
    → NothingSeen s.hand → NothingSeen next.0 → IsSceneOf the_desk s screen scene
    → IsSceneOf the_desk (with_hand next (with_marks press s)) screen scene
scene_stays press next s screen scene none none' is = record {
  cells = is.cells;
  first = is.first;
  rows = is.rows;
  left = is.left;
  columns = is.columns;
  width = is.width;
  has_line = is.has_line;
  pointer = is.pointer ∙ ap (λ p. p >>= terminal_place s.sight) (none.pointer ∙ sym none'.pointer);
  line = is.line ∙ line_unseen s.sight.width screen s.logged.items s.sought s.saying s.names (if is_of_terminal next.1 then s.names else 0) s.hand next.0 none none';
}

-- ---- presses

module _ (known : List (List Face)) (held : Option (List ℕ)) where
  -- unless a scene is due, it is what was sent last
  abbrev Stands : Sitting → Desktop → Type 0
  Stands s desktop = is_scene_due s ≡ false → IsSeen the_desk s (shown_screen desktop) known held

  hand_stands : (press : Press) (next : Hand × Action) (seat : Seat) → Stands seat.sitting seat.session.desktop
      → (let after : Seat = acted next.1 (record seat { sitting = with_hand next (with_marks press seat.sitting) }) in
      Stands after.sitting after.session.desktop)
  hand_stands press next seat stands due =
      let s : Sitting = seat.sitting in
      let there : Seat = record seat { sitting = with_hand next (with_marks press s) } in
      let unchanged : s.changed || not (is_still next s) ≡ false =
      sym (acted_keeps next.1 there) ∙ (quiet (acted next.1 there).sitting due).changed in
      let parts = or_parts s.changed (not (is_still next s)) unchanged in
      let three = and_parts (is_nothing next.1 && is_unseen next.0 && is_unseen s.hand) (not (asks_to_leave s.question))
      (not_false (is_still next s) parts.1) in
      let two = and_parts (is_nothing next.1 && is_unseen next.0) (is_unseen s.hand) three.0 in
      let one = and_parts (is_nothing next.1) (is_unseen next.0) two.0 in
      let same : acted next.1 there ≡ there =
      ap (λ a. acted a there) (is_that next.1 one.0)
      ∙ nothing_acted there (not_true (asks_to_leave s.question) three.1) in
      let now : IsQuiet (with_hand next (with_marks press s)) = quiet (with_hand next (with_marks press s))
      (subst (λ (t : Seat). is_scene_due t.sitting ≡ false) same due) in
      let before : IsSeen the_desk s (shown_screen seat.session.desktop) known held =
      stands (not_due s (record {
        changed = parts.0;
        follows = (or_parts (is_some (pointer_cell next.0.pointer)) s.follows now.follows).1;
        rings = now.rings;
        forgets = now.forgets;
        asks = now.asks;
        copies = now.copies;
      })) in
      subst (λ (t : Seat). IsSeen the_desk t.sitting (shown_screen t.session.desktop) known held) (sym same) (record {
        scene = before.scene;
        is = scene_stays press next s (shown_screen seat.session.desktop) before.scene (nothing_seen s.hand two.1)
            (nothing_seen next.0 one.1) before.is;
        rows = before.rows;
        was_known = before.was_known;
        before = before.before;
        between = before.between;
        paints = before.paints;
        rings = before.rings;
        asks = before.asks;
        clip = before.clip;
        after = before.after;
      })

  press_stands : (press : Press) (seat : Seat) → Stands seat.sitting seat.session.desktop
      → Stands (after_press press seat).sitting (after_press press seat).session.desktop
  unfolding after_press
  press_stands press seat stands =
      let next : Hand × Action = meant_by press seat.sitting in
      let after : Seat = acted next.1 (record seat { sitting = with_hand next (with_marks press seat.sitting) }) in
      elim (true_or_false seat.sitting.leaves) [
        | inl left ↦ subst (λ (t : Seat). Stands t.sitting t.session.desktop)
            (sym (cond-true seat.sitting.leaves seat after left)) stands
        | inr here ↦ subst (λ (t : Seat). Stands t.sitting t.session.desktop)
            (sym (cond-false seat.sitting.leaves seat after here)) (hand_stands press next seat stands)
      ]

  presses_stand : {D : Type 0} (d : Ghosts D) {presses : List Press} {s s' : Sitting} {old new : StoreView D}
      → DoesPresses the_desk d presses s s' old new → Stands s old.desktop → Stands s' new.desktop
  presses_stand d no_press stands = stands
  presses_stand d (one_press {s' = s'} {s'' = s''} {mid = mid} {new = new} press before done) stands =
      subst (λ (t : Seat). Stands t.sitting t.session.desktop) (sym done.seat)
      (press_stands press (seat_of s' mid) (presses_stand d before stands))

  -- a text of the host is to be heard, or it can't be read
  fetched_stands : (answer : Result ⊤ HostFault) (s : Sitting) (desktop : Desktop) → Stands (fetched answer s) desktop
  fetched_stands (Ok done) s desktop due = absurd (true≢false due)
  fetched_stands (Err why) s desktop due = absurd (true≢false
      (sym (rings_due (fetched (Err why) s) refl).is ∙ due))

  fetch_stands : (answer : Result ⊤ HostFault) (s : Sitting) (desktop : Desktop) → Stands s desktop → Stands (after_fetch answer s) desktop
  unfolding after_fetch
  fetch_stands answer s desktop stands = elim (true_or_false (is_some s.wanted)) [
    | inl wants ↦ subst (λ t. Stands t desktop) (sym (cond-true (is_some s.wanted) (fetched answer s) s wants))
        (fetched_stands answer s desktop)
    | inr none ↦ subst (λ t. Stands t desktop) (sym (cond-false (is_some s.wanted) (fetched answer s) s none)) stands
  ]

  completion_stands : (told : Completion) (s : Sitting) (desktop : Desktop) → Stands s desktop
      → Stands (after_completion told s) desktop
  unfolding after_completion
  completion_stands told s desktop stands = elim (true_or_false s.completes) [
    | inl asks ↦ subst (λ t. Stands t desktop) (sym (cond-true s.completes (completed told s) s asks))
        (λ due. absurd (true≢false due))
    | inr none ↦ subst (λ t. Stands t desktop) (sym (cond-false s.completes (completed told s) s none)) stands
  ]

-- ---- turns

module _ {D : Type 0} (d : Ghosts D) {old new : TurnState D} where
  pub turn_seen : {events : List Event} → Turns the_desk d events old new → IsSeenUnlessDue the_desk new
  turn_seen turn =
      let start : Stands new.known new.held (sitting_shown the_desk old) turn.mid.desktop = λ due.
      subst (λ desktop. IsSeen the_desk (sitting_shown the_desk old) (shown_screen desktop) new.known new.held)
      (sym (ap (λ (s : Session). s.desktop) turn.scene.looked.session)) turn.scene.seen in
      let after : Stands new.known new.held new.sitting new.store.desktop =
      subst (λ t. Stands new.known new.held t new.store.desktop) (sym turn.brings.completed.completes)
      (completion_stands new.known new.held turn.brings.completed.told turn.brings.mid new.store.desktop
      (subst (λ t. Stands new.known new.held t new.store.desktop) (sym turn.brings.brought.brings)
      (fetch_stands new.known new.held turn.brings.brought.answer turn.sitting new.store.desktop
      (presses_stand new.known new.held d turn.does start)))) in
      λ due. (after due, turn.scene.handed)

-- after what was taken back or done again a scene is due
turned_due : (typed : Option ℕ) (why : Saying) (s : Sitting) → IsDue (turned_by typed why s)
unfolding turned_by
turned_due None why s = rings_due (refused why s) refl
turned_due (Some n) why s = rings_due (turned_by (Some n) why s) refl

replied_due : (event : Event) (reply : Reply) (s : Sitting) → IsDue (replied event reply s)
unfolding replied
replied_due event Done s = follows_due (replied event Done s) refl
replied_due event (No code) s =
    turned_due s.typed (refused_saying event code) (unplaced (record s {
      past = with_refused s.past;
      missed = is_missed (No code);
    }))

either_due : (b : Bool) (x y : Sitting) → IsDue x → IsDue y → IsDue (if b then x else y)
either_due true x y one other = one
either_due false x y one other = other

post_due : (event : Event) (seat : Seat) → IsDue (after_post event seat).sitting
unfolding after_post
post_due event seat = either_due (is_worn seat.session) (turned_away Worn seat.sitting)
    (replied event (step seat.session.desktop event).reply seat.sitting)
    (turned_due seat.sitting.typed Worn (unplaced seat.sitting))
    (replied_due event (step seat.session.desktop event).reply seat.sitting)

told_due : (deed : Option Deed) (events : List Event) (from to : StorePlace) (s : Sitting)
    → IsDue (took_deed deed events from to s)
told_due None events from to s = rings_due (took_deed None events from to s) refl
told_due (Some deed) events from to s = follows_due (took_deed (Some deed) events from to s) refl

back_due : (events : List Event) (from to : StorePlace) (s : Sitting) → IsDue (took_back events from to s)
back_due events from to s =
    either_due (length events == 0) (refused (none_back to) s) _ (rings_due (refused (none_back to) s) refl)
    (told_due (back_deed events s.past) events from to
    (record s { past = left_past (length events) s.past; kept = still_kept from to s }))

again_due : (deed : Deed) (from to : StorePlace) (s : Sitting) → IsDue s → IsDue (did_again deed from to s)
again_due deed from to s due = either_due (is_unmoved from to) s _ due (changed_due _ refl)

module _ {D : Type 0} (d : Ghosts D) {s s' : Sitting} {old new : StoreView D} where
  -- or nothing was asked for
  travelled_due : Travelled the_desk d s s' old new → ((s' ≡ s) × (new ≡ old)) ⊎ IsDue s'
  travelled_due (not_asked none same unmoved) = inl (same, unmoved)
  travelled_due (back told events asked taken is) = inr (subst IsDue (sym is)
      (back_due events (store_place old) (store_place new) (settled (recalled told s))))
  travelled_due (import_back told documents asked taken is) = inr (subst IsDue (sym is)
      (follows_due (took_import documents (store_place old) (store_place new) (settled (recalled told s))) refl))
  travelled_due (import_again told documents asked none came is) = inr (subst IsDue (sym is) (follows_due
      (did_import documents (store_place new) (goes_again (store_place old) (foreseen (store_place old) told s))) refl))
  travelled_due (nothing told asked none is left) = inr (subst IsDue (sym is)
      (rings_due (none_again (store_place old) (foreseen (store_place old) told s)) refl))
  travelled_due (again told event asked next takes past is) = inr (subst IsDue (sym is)
      (again_due event.deed (store_place old) (store_place new) _
      (post_due event.event (seat_of (goes_again (store_place old) (foreseen (store_place old) told s)) old))))

pub between_seen : {D : Type 0} (d : Ghosts D) {old new : TurnState D} → IsBetween the_desk d old new
    → IsSeenUnlessDue the_desk old
    → IsSeenUnlessDue the_desk new
between_seen d {old = old} {new = new} between seen due =
    elim (travelled_due d between.travelled.what) [
      | inl same ↦
          let before = seen (subst (λ t. is_scene_due t ≡ false) same.0 due) in (
            subst (λ k. IsSeen the_desk new.sitting (store_screen new.store) k new.held) (sym between.still.known)
                (subst (λ h. IsSeen the_desk new.sitting (store_screen new.store) old.known h)
                (sym (ap (λ (x : Exchange). x.held) between.still.out))
                (subst (λ t. IsSeen the_desk new.sitting (store_screen t) old.known old.held) (sym same.1)
                (subst (λ t. IsSeen the_desk t (store_screen old.store) old.known old.held) (sym same.0) before.0))),
            ap (λ (x : Exchange). x.waiting) between.still.out ∙ before.1,
          )
      | inr is ↦ absurd (true≢false (sym is.is ∙ due))
    ]
