-- An import that is done again, behind calls that only read. `d` is what is known of a disk.
use Rattle.std.proofs.Common.{◌≡◌, ◌∙◌, ◌<◌, ℕ, inl, inr, true, false, refl, sym, ap, subst}
use Rattle.std.specs.Prelude.{Result, Ok, Err}
use Rattle.std.proofs.lemmas.Bool.{false≢true}
use Rattle.sector_disk.specs.declared.disk.Disk.{Ghosts}
use Rattle.desktop_definitions.specs.declared.reply.Reply.{Reply}
use Rattle.desktop_definitions.specs.declared.reply.Reply.TheVariants.{Done, No}
use Rattle.document_filing.specs.Bringing.{Documents}
use Rattle.store_layout.specs.declared.layout.TheConstants.{LAST_EPOCH}
use Rattle.store_slots.specs.declared.error.Error.TheVariants.{Worn}
use Rattle.store_slots.specs.Errors.{OfDesktop, OfPost}
use Rattle.desk_journal.specs.Bringing.{LeavesAllOrNone}
use Rattle.desk_journal.specs.Errors.{Error, MustReopen, OfLook}
use Rattle.desk_journal.specs.Looking.{OnlyLooks}
use Rattle.desk_journal.specs.Posting.{IsLast}
use Rattle.desk_journal.specs.View.{StoreView}
use Rattle.past_pages.specs.Reading.{IsOnlyReadFrom}
use Rattle.past_pages.proofs.Failing.{none_failed}
use Rattle.desk_past.specs.Bringing.{BringsOn, IsBroughtIn}
use Rattle.desk_past.specs.Keeping.{UsesDevice}
use Rattle.desk_past.proofs.Begun.{same_both}
use Rattle.desk_past.proofs.InMemory.{fails_none}
use Rattle.desk_past.proofs.Looks.{left_twice, only_read}
use Rattle.past_steps.specs.Steps.{IsBroughtAgain, LeavesBroughtAgain, brings}

-- errors of a look, and of an import, at a store in use that isn't in its last epoch
look_left : (e : Error) → (e ≡ MustReopen → ⊥) → OfLook e → OfDesktop e
look_left e usable (inl is) = inl is
look_left e usable (inr (inl is)) = inr is
look_left e usable (inr (inr is)) = absurd (usable is)

post_left : (e : Error) → (e ≡ MustReopen → ⊥) → (e ≡ Worn → ⊥) → OfPost e → OfDesktop e
post_left e usable later (inl is) = inl is
post_left e usable later (inr (inl is)) = inr is
post_left e usable later (inr (inr (inl is))) = absurd (usable is)
post_left e usable later (inr (inr (inr is))) = absurd (later is)

module _ {D : Type 0} (d : Ghosts D) {old new : StoreView D} where
  -- looks from which nothing follows
  pub looked_end : {T U : Type 0} {value : T} (other : U) → OnlyLooks d (Ok value) old new
      → UsesDevice d OfDesktop (Ok other) old new
  looked_end other looks = record { same = looks.disk.device; faults = fails_none (none_failed looks.faults) }

  pub looked_lost : {T U : Type 0} {error : Error} {result : Result U Error} → old.must_reopen ≡ false → result ≡ Err error
      → OnlyLooks {T = T} d (Err error) old new → UsesDevice d OfDesktop result old new
  looked_lost {U = U} {error = error} usable is looks =
      subst (λ (r : Result U Error). UsesDevice d OfDesktop r old new) (sym is) (record {
        same = looks.disk.device;
        faults = record {
          rose = λ fault. looks.faults.rose (cc fault);
          calm = λ fine. looks.faults.calm (λ fault. fine (cc fault));
          errors = look_left error (λ reopen. false≢true (sym usable ∙ looks.reopen.0 (ap (λ e. Err e) reopen)))
              looks.faults.errors;
        };
      })

module _ {D : Type 0} (d : Ghosts D) {old mid : StoreView D} (usable : old.must_reopen ≡ false) {A : Type 0} {value : A}
    (looks : OnlyLooks d (Ok value) old mid) where
  still : IsOnlyReadFrom d old mid
  still = only_read d (Ok value) old mid usable looks

  before : d.failures mid.disk ≡ d.failures old.disk
  before = none_failed looks.faults

  -- they come
  pub came : {new : StoreView D} (documents : Documents) {reply : Reply} → reply ≡ Done
      → IsBroughtIn d documents reply mid new → LeavesAllOrNone d documents mid new → BringsOn d documents mid new
      → IsBroughtAgain d documents old new
  came {new = new} documents done is leaves past = record {
    between = mid;
    read = still;
    brought = subst (λ r. IsBroughtIn d documents r mid new) done is;
    any_moment = leaves;
    nothing_forgotten = past;
  }

  -- they are refused
  pub came_not : {new : StoreView D} (documents : Documents) {reply : Reply} (code : ℕ) → reply ≡ No code
      → IsBroughtIn d documents reply mid new → IsOnlyReadFrom d old new
  came_not documents code refused is =
      let r = is.answers.refusal code refused in
      record {
        left = left_twice d still.left (record {
          desktop = r.desktop;
          kept = r.kept;
          layout = r.layout;
          epoch = r.epoch;
          events = r.events;
          disk = r.unwritten;
        });
        usable = is.answers.usable;
      }

  -- it fails
  pub may_come : {new : StoreView D} (documents : Documents) → LeavesAllOrNone d documents mid new
      → BringsOn d documents mid new → LeavesBroughtAgain d old new
  may_come documents leaves past = brings documents mid still leaves past

  pub then_came : {T U : Type 0} {new : StoreView D} {done : U} (answer : Result U Error) (other : T) → answer ≡ Ok done
      → UsesDevice d OfPost answer mid new → UsesDevice d OfDesktop (Ok other) old new
  then_came answer other is uses = record {
    same = same_both d looks.disk.device uses.same;
    faults = fails_none (uses.faults.calm (λ fault. let wrong : ⊥ = cc (is, fault) in wrong) ∙ before);
  }

  pub then_broke : {T U : Type 0} {new : StoreView D} (error : Error) (result : Result T Error) (answer : Result U Error)
      → ¬ (old.epoch ≡ LAST_EPOCH) → (answer ≡ Err Worn → IsLast mid) → (answer ≡ Err MustReopen → mid.must_reopen ≡ true)
      → answer ≡ Err error → result ≡ Err error → UsesDevice d OfPost answer mid new
      → UsesDevice d OfDesktop result old new
  then_broke {T = T} {U = U} {new = new} error result answer later worn reopen failed is uses =
      let uses_so : UsesDevice d {T = U} OfPost (Err error) mid new =
      subst (λ (r : Result U Error). UsesDevice d OfPost r mid new) failed uses in
      subst (λ (r : Result T Error). UsesDevice d OfDesktop r old new) (sym is) (record {
        same = same_both d looks.disk.device uses.same;
        faults = record {
          rose = λ fault. subst (λ (n : ℕ). n < d.failures new.disk) before (uses_so.faults.rose (cc fault));
          calm = λ fine. uses_so.faults.calm (λ fault. fine (cc fault)) ∙ before;
          errors = post_left error
              (λ must. false≢true (sym usable ∙ sym looks.usable ∙ reopen (failed ∙ ap (λ e. Err e) must)))
              (λ last. later (sym looks.epoch ∙ (worn (failed ∙ ap (λ e. Err e) last)).1)) uses_so.faults.errors;
        };
      })
