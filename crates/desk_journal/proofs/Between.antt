-- A post where a checkpoint comes first, by the store between.
use Rattle.std.proofs.Common.{◌≡◌, inl, inr, Result, Ok, Err, refl, subst, arith}
use Rattle.std.specs.Prelude.{⊤, OnOk, IfOk, IsErrOf}
use Rattle.std.proofs.lemmas.Result.{IfErr-weaker, IfErr-at_err}
use Rattle.sector_disk.specs.declared.disk.Disk.{Ghosts}
use Rattle.event_bytes.specs.declared.event.Event.{Event}
use Rattle.desktop_definitions.specs.declared.reply.Reply.{Reply}
use Rattle.store_slots.specs.declared.error.Error.{Error}
use Rattle.store_slots.specs.declared.error.Error.TheVariants.{NoMemory, Fault, Worn}
use Rattle.store_slots.specs.Errors.{OfCheckpoint, OfLook, OfPost}
use Rattle.desk_journal.specs.Checkpointing.{IsCheckpointed, IsRenewed, LeavesDesktop}
use Rattle.desk_journal.specs.Migrating.{ChecksFirst}
use Rattle.desk_journal.specs.Posting.{Behaves, HasJournalRoom, IsAcknowledged, IsBroken, IsLast, IsPosted, IsStarved}
use Rattle.desk_journal.specs.Posting.{LeavesEither, IsDueBefore, TurnsAway}
use Rattle.desk_journal.specs.View.{StoreView}

-- an error of a post to a store with room is one of any post
widened : (e : Error) → OfLook e → OfPost e
widened e named = elim named [
  | inl memory ↦ inl memory
  | inr (inl fault) ↦ inr (inl fault)
  | inr (inr reopen) ↦ inr (inr (inl reopen))
]

-- and none is Worn
not_worn : OfLook Worn → ⊥
not_worn named = elim named [
  | inl memory ↦ (let wrong : ⊥ = cc memory in wrong)
  | inr (inl fault) ↦ (let wrong : ⊥ = cc fault in wrong)
  | inr (inr reopen) ↦ (let wrong : ⊥ = cc reopen in wrong)
]

-- a store with room has no checkpoint due
pub no_need : {D : Type 0} (store : StoreView D) → HasJournalRoom store → IsDueBefore store → ⊥
no_need store room need = elim need [
  | inl full ↦ omega (arith, full, room.0)
  | inr other ↦ other room.1
]

-- a new journal has room
pub new_room : {D : Type 0} (d : Ghosts D) (old new : StoreView D) → IsRenewed d old new → HasJournalRoom new
new_room d old new renewed = (omega (arith, renewed.events), renewed.layout)

-- what a checkpoint says clause by clause is all that it promises
pub checkpoints : {D : Type 0} (d : Ghosts D) (answer : Result ⊤ Error) (old new : StoreView D)
    → LeavesDesktop d old new → OnOk answer (IsRenewed d old new) → (IsErrOf answer Fault → IsBroken new)
    → TurnsAway (IsErrOf answer Worn) (IsLast old) old new → Behaves d OfCheckpoint answer old new
    → IsCheckpointed d answer old new
checkpoints d answer old new any_moment ok fault worn behaves = record {
  any_moment = any_moment;
  ok = ok;
  fault = fault;
  worn = worn;
  behaves = behaves;
}

module _ {D : Type 0} (d : Ghosts D) (event : Event) (answer : Result Reply Error) where
  -- what the rest of a post says is what a post to a store with room says
  pub put_posts : (mid new : StoreView D) → HasJournalRoom mid → LeavesEither d event mid new
      → IfOk answer (λ reply. IsAcknowledged d event reply mid new) → (IsErrOf answer NoMemory → IsStarved d mid new)
      → (IsErrOf answer Fault → IsBroken new) → Behaves d OfLook answer mid new → IsPosted d event answer mid new
  put_posts mid new room any_moment ok memory fault behaves = record {
    any_moment = any_moment;
    ok = ok;
    memory = memory;
    fault = fault;
    worn = record {
      only = λ is. absurd (never is);
      always = λ both. absurd (no_need mid room both.1);
      unchanged = λ is. absurd (never is);
    };
    behaves = record {
      reopen = behaves.reopen;
      faults = record {
        rose = behaves.faults.rose;
        calm = behaves.faults.calm;
        errors = IfErr-weaker answer OfLook OfPost widened behaves.faults.errors;
      };
      device = behaves.device;
      within = behaves.within;
    };
  }
    where
      never : IsErrOf answer Worn → ⊥
      never is = not_worn (IfErr-at_err OfLook is behaves.faults.errors)

  -- the checkpoint is done, and the rest of the post follows
  pub done_first : (old mid new : StoreView D) {outcome : Result ⊤ Error} {unit : ⊤} → outcome ≡ Ok unit
      → IsCheckpointed d outcome old mid → (HasJournalRoom mid → IsPosted d event answer mid new)
      → ChecksFirst d event answer old new
  done_first old mid new {unit = unit} done before behind = record {
    between = mid;
    outcome = Ok unit;
    before = checked;
    room = has;
    behind = behind has;
    refused = tt;
  }
    where
      checked : IsCheckpointed d (Ok unit) old mid
      checked = subst (λ (r : Result ⊤ Error). IsCheckpointed d r old mid) done before

      has : HasJournalRoom mid
      has = new_room d old mid checked.ok

  -- it isn't, and the post ends with it
  pub stopped_first : (old new : StoreView D) {outcome : Result ⊤ Error} {error : Error} → outcome ≡ Err error
      → IsCheckpointed d outcome old new → answer ≡ Err error → ChecksFirst d event answer old new
  stopped_first old new {error = error} stopped before is = record {
    between = new;
    outcome = Err error;
    before = subst (λ (r : Result ⊤ Error). IsCheckpointed d r old new) stopped before;
    room = tt;
    behind = tt;
    refused = (is, refl);
  }
