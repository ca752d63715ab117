-- Runs of calls: what they leave of a past. `d` is what is known of a disk.
use Rattle.std.proofs.Common.{List, [], ◌∷◌, ◌++◌, refl, sym, subst}
use Rattle.sector_disk.specs.declared.disk.Disk.{Ghosts}
use Rattle.sector_disk.specs.Trail.{Leaves, now}
use Rattle.desk_journal.specs.View.{StoreView}
use Rattle.past_pages.specs.Reading.{IsQuiet}
use Rattle.past_runs.specs.Calls.{DoesCall, RemembersPast, KeepsDeeds, Past, PastCall}
use Rattle.past_runs.specs.Runs.{FindRoom, IsPastRun, KeepsLed, LeaveEach, PastRunsCompose, PastRunsCut, PastRunsLaw}
use Rattle.past_runs.proofs.Calling.{led_by, left_amid}

module _ {D : Type 0} (d : Ghosts D) where
  pub composed : PastRunsCompose d
  composed [] more old mid new one two = subst (λ s. IsPastRun d more s new) one two
  composed (call ∷ calls) more old mid new one two =
      (one.0, one.1, composed calls more one.0 mid new one.2 two)

  pub cut : PastRunsCut d
  cut [] more old new run = (old, refl, run)
  cut (call ∷ calls) more old new run =
      let rest = cut calls more run.0 new run.2 in (rest.0, (run.0, run.1, rest.1), rest.2)

  -- one call more
  pub one_more : (calls : List PastCall) (call : PastCall) (old mid new : StoreView D) → IsPastRun d calls old mid
      → DoesCall d call mid new → IsPastRun d (calls ++ call ∷ []) old new
  one_more calls call old mid new run does = composed calls (call ∷ []) old mid new run (new, does, refl)

  -- the disk stays honest
  still : (calls : List PastCall) (old new : StoreView D) → IsPastRun d calls old new → d.honest old.disk
      → d.honest new.disk
  still [] old new run honest = subst (λ s. d.honest s.disk) (sym run) honest
  still (call ∷ calls) old new run honest =
      still calls run.0 new run.2 (run.1.tries.device.still honest)

  settled : (past : Past) (store : StoreView D) → KeepsDeeds d past store → IsQuiet d store
      → Leaves (now (d.trail store.disk)) (RemembersPast (d.size store.disk) past)
  settled past store keeps quiet = λ c image.
      subst (RemembersPast (d.size store.disk) past) (λ i n. sym (image n (quiet n)) i) keeps.remembers

  pub behind : (calls : List PastCall) (past : Past) (old new : StoreView D) → d.honest old.disk → KeepsDeeds d past old
      → (run : IsPastRun d calls old new) → FindRoom d calls past old new run → KeepsLed d calls past new
  behind [] past old new honest keeps run room =
      let there = subst (KeepsDeeds d past) (sym run) keeps in
      record { all = past; led = refl; keeps = there; settled = settled past new there }
  behind (call ∷ calls) past old new honest keeps run room =
      let step = led_by d past old run.0 honest keeps call (room.0 keeps) run.1.tries.device run.1.done in
      let rest = behind calls step.0 run.0 new (run.1.tries.device.still honest) step.2 run.2
      (room.1 step.0 step.1) in
      record {
        all = rest.all;
        led = (step.0, step.1, rest.led);
        keeps = rest.keeps;
        settled = rest.settled;
      }

  amid_each : (calls : List PastCall) (past : Past) (old new : StoreView D) → d.honest old.disk → KeepsDeeds d past old
      → (run : IsPastRun d calls old new) → FindRoom d calls past old new run → LeaveEach d calls past old new run
  amid_each [] past old new honest keeps run room = tt
  amid_each (call ∷ calls) past old new honest keeps run room =
      let step = led_by d past old run.0 honest keeps call (room.0 keeps) run.1.tries.device run.1.done in (
        keeps,
        left_amid d past old run.0 honest keeps call (room.0 keeps) run.1.tries.amid,
        step.0,
        step.1,
        amid_each calls step.0 run.0 new (run.1.tries.device.still honest) step.2 run.2 (room.1 step.0 step.1),
      )

  pub nothing_forgotten : PastRunsLaw d
  nothing_forgotten calls past old new honest keeps run room =
      let last = behind calls past old new honest keeps run room in
      record {
        behind = last;
        amid = amid_each calls past old new honest keeps run room;
        one_more = λ call next room tries.
            left_amid d last.all new next (still calls old new run honest) last.keeps call (room last.keeps) tries.amid;
      }
