-- Of a past nothing is forgotten while events are posted in a sitting.
use Rattle.std.proofs.Common.{◌≡◌, ◌∙◌, refl, sym, ap, subst, List, [], ◌∷◌, ◌++◌, append_assoc, append-nil}
use Rattle.sector_disk.specs.declared.disk.Disk.{Ghosts}
use Rattle.event_bytes.specs.declared.event.Event.{Event}
use Rattle.desk_journal.specs.View.{StoreView}
use Rattle.desk_past.specs.Deeds.{all_posted, posted}
use Rattle.past_pages.specs.Reading.{IsOnlyReadFrom}
use Rattle.past_runs.specs.Calls.{DoesCall, Past, PastCall, TriesCall, begins, brings, ends, looks, posts, posts_over}
use Rattle.past_runs.specs.Calls.{takes_back, turns, turns_to, with_deeds}
use Rattle.past_runs.specs.Runs.{BeginNone, FindRoom, ForgetsNothing, IsPastRun, LeadsAll}
use Rattle.past_runs.proofs.Running.{nothing_forgotten, one_more as run_on}
use Rattle.desk_sitting.specs.Pasts.{KeepsBegun, KeepsPosted, PostsOn}
use Rattle.desk_sitting.specs.Pasts.{none, one_more, then_read}
use Rattle.terminal_sittings.specs.Forgetting.{ArePosts, BeginsPost, IsPost, PostsForgetNothing, WithLooks}
use Rattle.terminal_sittings.specs.Forgetting.{look, same, none as no_call}

-- ---- calls and their events

both_with : {calls all more rest : List PastCall} → WithLooks calls all → WithLooks more rest
    → WithLooks (calls ++ more) (all ++ rest)
both_with no_call two = two
both_with (same call one) two = same call (both_with one two)
both_with (look one) two = look (both_with one two)

-- looks lead nowhere
led_without : {calls all : List PastCall} (past after : Past) → WithLooks calls all → LeadsAll all past after
    → LeadsAll calls past after
led_without past after no_call led = led
led_without past after (same call with) led = (led.0, led.1, led_without led.0 after with led.2)
led_without past after (look {calls = calls} with) led =
    subst (λ (p : Past). LeadsAll calls p after) led.1 (led_without led.0 after with led.2)

-- the last call posts the last event
record Parted (calls : List PastCall) (events : List Event) (event : Event) : Type 0 where
  before : List PastCall
  last : PastCall
  parts : calls ≡ before ++ last ∷ []
  are : ArePosts before events
  is : IsPost last event

parted : (calls : List PastCall) (events : List Event) (event : Event) → ArePosts calls (events ++ event ∷ [])
    → Parted calls events event
parted [] [] event are = absurd are
parted [] (next ∷ events) event are = absurd are
parted (call ∷ []) [] event are = record { before = []; last = call; parts = refl; are = tt; is = are.0 }
parted (call ∷ other ∷ calls) [] event are = absurd are.1
parted (call ∷ calls) (next ∷ events) event are =
    let rest = parted calls events event are.1 in
    record {
      before = call ∷ rest.before;
      last = rest.last;
      parts = ap (λ (cs : List PastCall). call ∷ cs) rest.parts;
      are = (are.0, rest.are);
      is = rest.is;
    }

-- calls that post in one part lead a past to itself with these events
led_in_part : (calls : List PastCall) (events : List Event) (past all : Past) → ArePosts calls events → BeginNone calls
    → LeadsAll calls past all → all ≡ with_deeds past (all_posted events)
led_in_part [] [] past all are stay led =
    led ∙ (λ i. record { start = past.start; deeds = sym (append-nil past.deeds) i })
led_in_part [] (event ∷ events) past all are stay led = absurd are
led_in_part (call ∷ calls) [] past all are stay led = absurd are
led_in_part (posts event ∷ calls) (next ∷ events) past all are stay led =
    led_in_part calls events led.0 all are.1 stay.1 led.2 ∙ ap (λ (p : Past). with_deeds p (all_posted events)) led.1
    ∙ (λ i. record { start = past.start; deeds = append_assoc past.deeds (posted event ∷ []) (all_posted events) i })
    ∙ ap (λ e. with_deeds past (posted e ∷ all_posted events)) (sym are.0)
led_in_part (posts_over event ∷ calls) (next ∷ events) past all are stay led = absurd stay.0
led_in_part (brings documents ∷ calls) (next ∷ events) past all are stay led = absurd are.0
led_in_part (turns_to k to ∷ calls) (next ∷ events) past all are stay led = absurd are.0
led_in_part (turns k ∷ calls) (next ∷ events) past all are stay led = absurd are.0
led_in_part (takes_back count back ∷ calls) (next ∷ events) past all are stay led = absurd are.0
led_in_part (ends ∷ calls) (next ∷ events) past all are stay led = absurd are.0
led_in_part (begins base ∷ calls) (next ∷ events) past all are stay led = absurd are.0
led_in_part (looks ∷ calls) (next ∷ events) past all are stay led = absurd are.0

module _ {D : Type 0} (d : Ghosts D) where
  -- ---- what a sitting does, as calls

  looks_do : {old new : StoreView D} → IsOnlyReadFrom d old new → DoesCall d looks old new
  looks_do still = record {
    tries = record { amid = still.left.disk; device = still.left.disk.device };
    done = still;
  }

  posts_do : (call : PastCall) (event : Event) {old new : StoreView D} → IsPost call event → KeepsPosted d event old new
      → DoesCall d call old new
  posts_do (posts event) next {old = old} {new = new} is post =
      subst (λ (e : Event). DoesCall d (posts e) old new) is (record {
        tries = record { amid = post.any_moment.within; device = post.device };
        done = post.kept.within;
      })
  posts_do (posts_over event) next {old = old} {new = new} is post =
      subst (λ (e : Event). DoesCall d (posts_over e) old new) is (record {
        tries = record { amid = post.any_moment.over; device = post.device };
        done = post.kept.over;
      })
  posts_do (brings documents) next is post = absurd is
  posts_do (turns_to k to) next is post = absurd is
  posts_do (turns k) next is post = absurd is
  posts_do (takes_back count back) next is post = absurd is
  posts_do ends next is post = absurd is
  posts_do (begins base) next is post = absurd is
  posts_do looks next is post = absurd is

  begun_tried : (call : PastCall) (begun : List Event) {old new : StoreView D} → BeginsPost call begun
      → KeepsBegun d begun old new → TriesCall d call old new
  begun_tried call [] {old = old} {new = new} is read =
      subst (λ (c : PastCall). TriesCall d c old new) (sym is) (record { amid = read; device = read.device })
  begun_tried (posts event) (next ∷ events) {old = old} {new = new} is begun =
      subst (λ (e : Event). TriesCall d (posts e) old new) is (record { amid = begun.0.within; device = begun.1 })
  begun_tried (posts_over event) (next ∷ events) {old = old} {new = new} is begun =
      subst (λ (e : Event). TriesCall d (posts_over e) old new) is (record { amid = begun.0.over; device = begun.1 })
  begun_tried (brings documents) (next ∷ events) is begun = absurd is
  begun_tried (turns_to k to) (next ∷ events) is begun = absurd is
  begun_tried (turns k) (next ∷ events) is begun = absurd is
  begun_tried (takes_back count back) (next ∷ events) is begun = absurd is
  begun_tried ends (next ∷ events) is begun = absurd is
  begun_tried (begins base) (next ∷ events) is begun = absurd is
  begun_tried looks (next ∷ events) is begun = absurd is

  -- the run that a sitting is, by any calls that post its events
  run_of : (calls : List PastCall) {events : List Event} {old new : StoreView D} → PostsOn d events old new
      → ArePosts calls events → (all : List PastCall) × WithLooks calls all × IsPastRun d all old new
  run_of [] none are = ([], no_call, refl)
  run_of (call ∷ calls) none are = absurd are
  run_of calls (one_more {events = events} {old = old} {mid = mid} {new = new} event first post) are =
      let ends_so = parted calls events event are in
      let before = run_of ends_so.before first ends_so.are in (
        before.0 ++ ends_so.last ∷ [],
        subst (λ (cs : List PastCall). WithLooks cs (before.0 ++ ends_so.last ∷ [])) (sym ends_so.parts)
            (both_with before.1 (same ends_so.last no_call)),
        run_on d before.0 ends_so.last old mid new before.2 (posts_do ends_so.last event ends_so.is post),
      )
  run_of calls (then_read {events = events} {old = old} {mid = mid} {new = new} first still) are =
      let before = run_of calls first are in (
        before.0 ++ looks ∷ [],
        subst (λ (cs : List PastCall). WithLooks cs (before.0 ++ looks ∷ [])) (append-nil calls)
            (both_with before.1 (look no_call)),
        run_on d before.0 looks old mid new before.2 (looks_do still),
      )

  pub forget_nothing : PostsForgetNothing d
  forget_nothing past calls events begun old new honest keeps up_to are =
      let over = run_of calls up_to.goes are in
      let law : FindRoom d over.0 past old up_to.mid over.2 → ForgetsNothing d over.0 past old up_to.mid over.2 =
      λ room. nothing_forgotten d over.0 past old up_to.mid honest keeps over.2 room in
      let led : (room : FindRoom d over.0 past old up_to.mid over.2) → LeadsAll calls past (law room).behind.all =
      λ room. led_without past (law room).behind.all over.1 (law room).behind.led in
      record {
        calls = over.0;
        are = over.1;
        mid = up_to.mid;
        run = over.2;
        amid = λ room. (law room).amid;
        kept = λ room. record {
          all = (law room).behind.all;
          led = led room;
          in_part = λ stay. led_in_part calls events past (law room).behind.all are stay (led room);
          keeps = (law room).behind.keeps;
        };
        at_last = λ room last is found. (law room).one_more last new found (begun_tried last begun is up_to.begins);
      }
