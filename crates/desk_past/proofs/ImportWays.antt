-- An import behind a call that only reads. `d` is what is known of a disk.
use Rattle.std.proofs.Common.{◌≡◌, inl, inr, ◌+◌, ℕ, List, refl, sym, ◌∙◌, ap, subst, arith, true, false}
use Rattle.std.specs.Prelude.{Result, Ok, Err, IfErr, IfOk, IsErrOf}
use Rattle.std.proofs.lemmas.Bool.{false≢true}
use Rattle.sector_disk.specs.declared.disk.Disk.{Ghosts}
use Rattle.sector_disk.specs.Trail.{LeavesOnly}
use Rattle.sector_disk.proofs.Touching.{chained, weakened}
use Rattle.desktop_definitions.specs.Desktop.{Desktop}
use Rattle.desktop_definitions.specs.declared.reply.Reply.{Reply}
use Rattle.desktop_definitions.specs.declared.reply.Reply.TheVariants.{Done, No}
use Rattle.document_filing.specs.Bringing.{BringsUnread, Documents, brought_in}
use Rattle.store_layout.specs.declared.head.PastEnd.{PastEnd}
use Rattle.store_layout.specs.declared.layout.TheConstants.{LAST_EPOCH, STORE_SECTORS}
use Rattle.store_layout.specs.Meaning.{MeansEither}
use Rattle.store_slots.specs.Device.{IsOnlyRead}
use Rattle.store_slots.specs.Errors.{OfPost}
use Rattle.store_slots.specs.declared.error.Error.{Error}
use Rattle.store_slots.specs.declared.error.Error.TheVariants.{Fault, MustReopen, NoMemory, Worn}
use Rattle.desk_journal.specs.Behind.{GoesToNextWith, LeavesNextWith, StaysBehind, brought_from}
use Rattle.desk_journal.specs.Bringing.{AreBrought, LeavesAllOrNone}
use Rattle.desk_journal.specs.Checkpointing.{LeavesDesktop}
use Rattle.desk_journal.specs.Posting.{AnswersMustReopen, IsLast, TurnsAway}
use Rattle.desk_journal.specs.Undoing.{IsLeft}
use Rattle.desk_journal.specs.declared.store.Info.{Info}
use Rattle.desk_journal.specs.View.{StoreView, IsDurable}
use Rattle.past_pages.specs.Page.{import_of}
use Rattle.past_pages.specs.Reading.{IsOnlyReadFrom, IsQuiet}
use Rattle.past_pages.proofs.StillReads.{read_twice}
use Rattle.past_pages.proofs.Told.{ok_of}
use Rattle.desk_past.specs.Ahead.{IsAhead}
use Rattle.desk_past.specs.Bringing.{BringsOn, CanBring, IsBroughtIn}
use Rattle.desk_past.specs.Deeds.{PastDeed, brought}
use Rattle.desk_past.specs.Keeping.{CanTurn}
use Rattle.desk_past.specs.Past.{KeepsAll, Start}
use Rattle.desk_past.proofs.Begun.{desktop_spared, spared_read}
use Rattle.desk_past.proofs.OverPages.{keeps_over, moments_over}
use Rattle.desk_past.proofs.Remembering.{read_keeps, read_moments}

-- two facts of what was returned
pub both_ok : {T E : Type 0} (answer : Result T E) {P Q R : T → Type 0} → IfOk answer P → IfOk answer Q
    → ((x : T) → P x → Q x → R x) → IfOk answer R
both_ok (Ok x) p q f = f x p q
both_ok (Err e) p q f = tt

-- what is told of the epoch in use
pub told_epoch : {answer : Result Info Error} {info shown : Info} → answer ≡ Ok info → answer ≡ Ok shown
    → info.epoch ≡ shown.epoch
told_epoch {info = info} was value = ap (λ (x : Info). x.epoch) (ap (ok_of info) (sym was ∙ value))

pub not_last : {answer : Result Info Error} {info shown : Info} → answer ≡ Ok info → answer ≡ Ok shown
    → ¬ (info.epoch ≡ LAST_EPOCH) → ¬ (shown.epoch ≡ LAST_EPOCH)
not_last was value other is = other (told_epoch was value ∙ is)

-- ---- errors

left_by : {D : Type 0} (d : Ghosts D) {old mid : StoreView D} (new : StoreView D) (e : Error) → OfPost e
    → (e ≡ NoMemory → new.must_reopen ≡ true) → (e ≡ Fault → new.must_reopen ≡ true) → (e ≡ MustReopen → new ≡ mid)
    → (e ≡ Worn → new ≡ mid) → IsLeft d old mid → new.must_reopen ≡ false → IsLeft d old new
left_by d new e (inl is) memory fault reopen worn left usable = absurd (false≢true (sym usable ∙ memory is))
left_by d new e (inr (inl is)) memory fault reopen worn left usable = absurd (false≢true (sym usable ∙ fault is))
left_by d {old = old} new e (inr (inr (inl is))) memory fault reopen worn left usable =
    subst (IsLeft d old) (sym (reopen is)) left
left_by d {old = old} new e (inr (inr (inr is))) memory fault reopen worn left usable =
    subst (IsLeft d old) (sym (worn is)) left

-- after an error by which the store can be used nothing was written
pub left_then : {D T : Type 0} (d : Ghosts D) (answer : Result T Error) {old mid : StoreView D} (new : StoreView D)
    → IfErr answer OfPost → (IsErrOf answer NoMemory → new.must_reopen ≡ true)
    → (IsErrOf answer Fault → new.must_reopen ≡ true) → AnswersMustReopen answer mid new
    → TurnsAway (IsErrOf answer Worn) (IsLast mid) mid new → IsLeft d old mid
    → IfErr answer (λ e. new.must_reopen ≡ false → IsLeft d old new)
left_then d (Ok x) new errors memory fault reopen worn left = tt
left_then d (Err e) new errors memory fault reopen worn left = left_by d new e errors (λ is. memory (ap Err is))
    (λ is. fault (ap Err is)) (λ is. reopen.unchanged (ap Err is)) (λ is. worn.unchanged (ap Err is)) left

-- a call that doesn't say so, of a store that has another epoch to come
pub none_worn : {D T : Type 0} {old : StoreView D} (new : StoreView D) (answer : Result T Error) → CanTurn old
    → (IsErrOf answer Worn → ⊥) → TurnsAway (IsErrOf answer Worn) (IsLast old) old new
none_worn new answer can other = record {
  only = λ refused. absurd (other refused);
  always = λ when. absurd (can.1 when.1);
  unchanged = λ refused. absurd (other refused);
}

pub none_reopen : {D T : Type 0} {old : StoreView D} (new : StoreView D) (answer : Result T Error) → CanTurn old
    → (IsErrOf answer MustReopen → ⊥) → AnswersMustReopen answer old new
none_reopen new answer can other = record {
  only = λ refused. absurd (other refused);
  always = λ must. absurd (false≢true (sym can.0 ∙ must));
  unchanged = λ refused. absurd (other refused);
}

-- ---- behind a call that only reads

module _ {D : Type 0} (d : Ghosts D) {old mid : StoreView D} (still : IsOnlyReadFrom d old mid) where
  pub worn_behind : {T : Type 0} (new : StoreView D) (answer : Result T Error) → ¬ (old.epoch ≡ LAST_EPOCH)
      → TurnsAway (IsErrOf answer Worn) (IsLast mid) mid new → TurnsAway (IsErrOf answer Worn) (IsLast old) old new
  worn_behind new answer later worn = record {
    only = λ refused. absurd (later (sym still.left.epoch ∙ (worn.only refused).1));
    always = λ when. absurd (later when.1);
    unchanged = λ refused. absurd (later (sym still.left.epoch ∙ (worn.only refused).1));
  }

  pub reopen_behind : {T : Type 0} (new : StoreView D) (answer : Result T Error) → old.must_reopen ≡ false
      → AnswersMustReopen answer mid new → AnswersMustReopen answer old new
  reopen_behind new answer usable reopen = record {
    only = λ refused. absurd (false≢true (sym still.usable ∙ reopen.only refused));
    always = λ must. absurd (false≢true (sym usable ∙ must));
    unchanged = λ refused. absurd (false≢true (sym still.usable ∙ reopen.only refused));
  }

  pub unwritten_behind : {disk : D} → IsOnlyRead d mid.disk disk → IsOnlyRead d old.disk disk
  unwritten_behind run = read_twice d still.left.disk run

  pub brought_behind : (documents : Documents) (reply : Reply) {new : StoreView D}
      → AreBrought d documents reply mid new → AreBrought d documents reply old new
  brought_behind documents reply {new = new} came = record {
    brought = record {
      done = λ honest. came.brought.done (still.left.disk.device.still honest)
          ∙ ap (λ x. brought_in x documents) (still.left.desktop honest);
      unread = subst (λ kept. BringsUnread kept new.kept documents reply) still.left.kept came.brought.unread;
      known = came.brought.known;
      refusal = λ code is. came.brought.refusal code is ∙ still.left.kept;
    };
    durable = came.durable;
    usable = came.usable;
    done = λ is. let next = came.done is in record {
      layout = next.layout;
      epoch = next.epoch ∙ ap (λ n. n + 1) still.left.epoch;
      events = next.events;
    };
    refusal = λ code is. let as_was = came.refusal code is in record {
      desktop = λ honest. as_was.desktop (still.left.disk.device.still honest) ∙ still.left.desktop honest;
      kept = as_was.kept ∙ still.left.kept;
      layout = as_was.layout ∙ still.left.layout;
      epoch = as_was.epoch ∙ still.left.epoch;
      events = as_was.events ∙ still.left.events;
      unwritten = unwritten_behind as_was.unwritten;
    };
  }

  module _ (durable : old.must_reopen ≡ false → IsDurable d old)
      (quiet : old.must_reopen ≡ false → d.honest old.disk → IsQuiet d old) where
    -- ---- at each moment
    read_leaves : LeavesDesktop d old mid
    read_leaves = desktop_spared d STORE_SECTORS 0 old mid (omega arith) durable
        (spared_read d STORE_SECTORS 0 still.left.disk quiet)

    pub none_brought : (documents : Documents) → LeavesAllOrNone d documents old mid
    none_brought documents usable honest = weakened (read_leaves usable honest) (λ c means. inl means)

    pub all_or_none_behind : (documents : Documents) (new : StoreView D) → LeavesAllOrNone d documents mid new
        → LeavesAllOrNone d documents old new
    all_or_none_behind documents new second usable honest =
        chained (weakened (read_leaves usable honest) (λ c means. inl means))
        (subst (λ (x : ℕ × Desktop). LeavesOnly (d.trail mid.disk) (d.trail new.disk)
        (MeansEither x.0 x.1 (brought_in x.1 documents).desktop))
        (λ i. (still.left.disk.device.as_large i, still.left.desktop honest i))
        (second still.usable (still.left.disk.device.still honest)))

    pub none_forgotten : (documents : Documents) → BringsOn d documents old mid
    none_forgotten documents honest start deeds desktop keeps can =
        weakened (read_moments d keeps honest (quiet keeps.usable honest) mid still.left.disk) (λ c r. inl r)

    -- No: the past is as it was
    refused_behind : (documents : Documents) (reply : Reply) {new : StoreView D} → AreBrought d documents reply mid new
        → (code : ℕ) → reply ≡ No code → d.honest old.disk → (start : Start) (deeds : List PastDeed)
        (desktop : Desktop) → KeepsAll d start deeds desktop old → KeepsAll d start deeds desktop new
    refused_behind documents reply came code is honest start deeds desktop keeps =
        read_keeps d keeps honest (quiet keeps.usable honest) (unwritten_behind (came.refusal code is).unwritten)
        came.usable

    -- where the past can't go on
    pub kept_or_not : (documents : Documents) (reply : Reply) {new : StoreView D} → AreBrought d documents reply mid new
        → (d.honest old.disk → (start : Start) (deeds : List PastDeed) (desktop : Desktop)
        → (keeps : KeepsAll d start deeds desktop old) → CanBring d documents keeps → ⊥)
        → IsBroughtIn d documents reply old new
    kept_or_not documents reply came none = record {
      answers = brought_behind documents reply came;
      done = λ is honest start deeds desktop keeps can. absurd (none honest start deeds desktop keeps can);
      refused = refused_behind documents reply came;
    }

    -- ---- behind the pages that are written ahead of it
    module _ (documents : Documents) (past : PastEnd) (from limit : ℕ) {bytes made : List ℕ} (new : StoreView D)
        (second : mid.must_reopen ≡ false → d.honest mid.disk → IsQuiet d mid)
        (within : StaysBehind d from limit mid.disk new.disk) (same : bytes ≡ made)
        (pages : d.honest old.disk → (start : Start) (deeds : List PastDeed) (desktop : Desktop)
        → (keeps : KeepsAll d start deeds desktop old)
        → IsAhead d (import_of documents) past from limit made keeps) where
      ahead : d.honest old.disk → {start : Start} {deeds : List PastDeed} {desktop : Desktop}
          (keeps : KeepsAll d start deeds desktop old)
          → IsAhead d (import_of documents) past from limit bytes keeps
      ahead honest {start = start} {deeds = deeds} {desktop = desktop} keeps =
          subst (λ l. IsAhead d (import_of documents) past from limit l keeps) (sym same)
          (pages honest start deeds desktop keeps)

      pub brings_behind : LeavesNextWith d (brought_from past documents) from bytes mid new
          → BringsOn d documents old new
      brings_behind next honest start deeds desktop keeps can =
          moments_over d (import_of documents) (brought documents) refl keeps tt honest (quiet keeps.usable honest)
          still (second still.usable (still.left.disk.device.still honest)) past from limit bytes (ahead honest keeps)
          new within next

      pub kept_behind : (reply : Reply) → AreBrought d documents reply mid new
          → (reply ≡ Done → GoesToNextWith d (brought_from past documents) from bytes mid new)
          → IsBroughtIn d documents reply old new
      kept_behind reply came goes = record {
        answers = brought_behind documents reply came;
        done = λ is honest start deeds desktop keeps can.
            keeps_over d (import_of documents) (brought documents) refl keeps tt honest (quiet keeps.usable honest)
            still (second still.usable (still.left.disk.device.still honest)) past from limit bytes
            (ahead honest keeps) new within came.usable (goes is);
        refused = refused_behind documents reply came;
      }
