-- Of a past nothing is forgotten while events are posted in a sitting, in its part and over to the next one: by the words of
-- past_runs. `d` is what is known of a disk.
use Rattle.std.specs.Prelude.{List, [], ◌∷◌, ◌≡◌}
use Rattle.sector_disk.specs.declared.disk.Disk.{Ghosts}
use Rattle.event_bytes.specs.declared.event.Event.{Event}
use Rattle.desk_journal.specs.View.{StoreView}
use Rattle.desk_past.specs.Deeds.{all_posted}
use Rattle.past_runs.specs.Calls.{FindsRoom, KeepsDeeds, LeavesPast, Past, PastCall, looks, posts, posts_over, with_deeds}
use Rattle.past_runs.specs.Runs.{BeginNone, FindRoom, IsPastRun, LeadsAll, LeaveEach}
use Rattle.desk_sitting.specs.Pasts.{PostsUpTo}

-- This call posts this event: in a part that isn't full, or over to the next one where it is.
abbrev pub IsPost : PastCall → Event → Type 0
IsPost (posts event) next = next ≡ event
IsPost (posts_over event) next = next ≡ event
IsPost _ next = ⊥

-- these calls post these events, one after another
abbrev pub ArePosts : List PastCall → List Event → Type 0
ArePosts [] [] = Unit {0}
ArePosts (call ∷ calls) (event ∷ events) = IsPost call event × ArePosts calls events
ArePosts _ _ = ⊥

-- the call of an event that is begun; where none is, a look
abbrev pub BeginsPost : PastCall → List Event → Type 0
BeginsPost call [] = call ≡ looks
BeginsPost call (event ∷ events) = IsPost call event

-- all calls are these, and between them some that only look
pub data WithLooks : List PastCall → List PastCall → Type 0 where
  none : WithLooks [] []
  same : {calls all : List PastCall} (call : PastCall) → WithLooks calls all
      → WithLooks (call ∷ calls) (call ∷ all)
  look : {calls all : List PastCall} → WithLooks calls all → WithLooks calls (looks ∷ all)

module _ {D : Type 0} (d : Ghosts D) where
  -- A store keeps a past to which these calls lead: it has all of these events. Where each was posted in its part, that is the
  -- past from before them, which goes on with these events.
  pub record KeepsPosts (past : Past) (posted : List PastCall) (events : List Event)
      (store : StoreView D) : Type 0 where
    pub all : Past
    pub led : LeadsAll posted past all
    pub in_part : BeginNone posted → all ≡ with_deeds past (all_posted events)
    pub keeps : KeepsDeeds d all store

  -- Where each of these calls finds the room that it asks for, the store keeps the past with all events that were posted.
  -- Amid each call a crash leaves the past to which those before it led, or one to which it may lead; amid the last one,
  -- the past with all events, or with the one that was begun too.
  pub record ForgetsNoPost (past : Past) (posted : List PastCall) (events begun : List Event)
      (old new : StoreView D) : Type 0 where
    pub calls : List PastCall
    pub are : WithLooks posted calls
    pub mid : StoreView D
    pub run : IsPastRun d calls old mid
    pub amid : FindRoom d calls past old mid run → LeaveEach d calls past old mid run
    pub kept : FindRoom d calls past old mid run → KeepsPosts past posted events mid
    pub at_last : (room : FindRoom d calls past old mid run) (last : PastCall)
        → BeginsPost last begun → FindsRoom d last (kept room).all mid
        → LeavesPast d last (kept room).all mid new

  -- Over an honest disk, from a store that keeps a past, by any calls that post the events: whichever of them finds its part
  -- full, and goes over to the next one.
  abbrev pub PostsForgetNothing : Type 0
  PostsForgetNothing = (past : Past) (posted : List PastCall) (events begun : List Event)
      (old new : StoreView D) → d.honest old.disk → KeepsDeeds d past old
      → PostsUpTo d events begun old new → ArePosts posted events
      → ForgetsNoPost past posted events begun old new
