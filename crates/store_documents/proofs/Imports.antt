-- Looks at a store, and documents that are brought behind them.
use Rattle.std.proofs.Common.{◌≡◌, ◌∙◌, refl, ap, sym, subst, inl, ◌+◌, ◌++◌, length, ℕ, arith, false}
use Rattle.std.specs.Prelude.{IfErr, Result, Ok, Err}
use Rattle.std.proofs.lemmas.Bool.{false≢true, false_from_ne_true}
use Rattle.std.proofs.lemmas.Result.{IfErr-weaker}
use Rattle.sector_disk.specs.declared.disk.Disk.{Ghosts}
use Rattle.sector_disk.specs.Trail.{Trail, now, IsCrashImage, Leaves, LeavesOnly}
use Rattle.sector_disk.proofs.Touching.{at_last, chained, weakened}
use Rattle.desktop_definitions.specs.declared.reply.Reply.{Reply}
use Rattle.desktop_definitions.specs.Desktop.{Desktop, KeptDesktop}
use Rattle.document_filing.specs.Bringing.{Documents, brought_in, BringsUnread}
use Rattle.store_layout.specs.Meaning.{MeansEither, Stands}
use Rattle.store_slots.proofs.Settling.{shows_means}
use Rattle.desk_journal.specs.Bringing.{LeavesAllOrNone, AreBrought}
use Rattle.desk_journal.specs.Device.{IsOnlyRead}
use Rattle.desk_journal.specs.Posting.{AnswersMustReopen}
use Rattle.desk_journal.specs.Undoing.{IsLeft}
use Rattle.desk_journal.specs.View.{StoreView, IsDurable}
use Rattle.desk_journal.specs.Errors.{Error}
use Rattle.store_documents.specs.declared.sorting.Sorted.{Sorted}
use Rattle.store_documents.specs.declared.importing.Coming.{Coming}
use Rattle.store_documents.specs.Standings.{HasOnlyLooked, AreSorted}
use Rattle.store_documents.specs.Importing.{AreComing, AreTogether, new_ones}
use Rattle.store_documents.proofs.Looks.{read_twice}

no_moment : (t : Trail) → LeavesOnly t t (IsCrashImage (now t))
no_moment t = record {
  later = omega arith;
  kept = λ k le. refl;
  each = λ k above below. let same : k ≡ t.clock = omega arith in
      subst (λ (n : ℕ). Leaves (t.at n) (IsCrashImage (now t))) (sym same) (λ image left. left);
}

module _ {D : Type 0} (d : Ghosts D) where
  unread : (disk : D) → IsOnlyRead d disk disk
  unread disk = record {
    device = record { as_large = refl; still = λ honest. honest; already = λ honest. honest };
    unwritten = λ honest. no_moment (d.trail disk);
  }

  -- no look
  pub not_looked : (store : StoreView D) → HasOnlyLooked d store store
  not_looked store = record {
    desktop = λ honest. refl;
    kept = refl;
    layout = refl;
    epoch = refl;
    events = refl;
    usable = refl;
    disk = unread store.disk;
  }

  -- looks leave the desktop from before
  pub none_while_looking : {old new : StoreView D} (documents : Documents) → IsDurable d old → HasOnlyLooked d old new
      → LeavesAllOrNone d documents old new
  none_while_looking {old = old} documents durable looked usable honest =
      weakened (looked.disk.unwritten honest)
      (λ image left. inl (shows_means (d.size old.disk) old.epoch old.events old.desktop image (durable honest image left)))

  pub durable_on : {old new : StoreView D} → IsDurable d old → HasOnlyLooked d old new → IsDurable d new
  durable_on {old = old} {new = new} durable looked honest image left =
      let before = looked.disk.device.already honest in
      let was = durable before image (at_last (looked.disk.unwritten before) image left) in record {
        standing = was.standing;
        stands = subst (λ (n : ℕ). Stands n image was.standing) (sym looked.disk.device.as_large) was.stands;
        version_is = was.version_is ∙ sym looked.layout;
        epoch = was.epoch ∙ sym looked.epoch;
        events = was.events ∙ sym looked.events;
        is = was.is ∙ sym (looked.desktop before);
      }

  -- documents that are brought behind looks
  pub all_behind : {old mid : StoreView D} (new : StoreView D) (documents : Documents) → IsDurable d old → HasOnlyLooked d old mid
      → LeavesAllOrNone d documents mid new → LeavesAllOrNone d documents old new
  all_behind {old = old} {mid = mid} new documents durable looked bring usable honest =
      let after = bring (looked.usable ∙ usable) (looked.disk.device.still honest) in
      let sized = subst (λ (n : ℕ). LeavesOnly (d.trail mid.disk) (d.trail new.disk)
      (MeansEither n mid.desktop (brought_in mid.desktop documents).desktop)) looked.disk.device.as_large after in
      chained (none_while_looking documents durable looked usable honest)
      (subst (λ (x : Desktop). LeavesOnly (d.trail mid.disk) (d.trail new.disk)
      (MeansEither (d.size old.disk) x (brought_in x documents).desktop)) (looked.desktop honest) sized)

  pub brought_behind : {old mid new : StoreView D} (documents : Documents) (reply : Reply) → HasOnlyLooked d old mid
      → AreBrought d documents reply mid new → AreBrought d documents reply old new
  brought_behind {old = old} {mid = mid} {new = new} documents reply looked bring = record {
    brought = record {
      done = λ honest. bring.brought.done (looked.disk.device.still honest)
          ∙ ap (λ (x : Desktop). brought_in x documents) (looked.desktop honest);
      unread = subst (λ (k : KeptDesktop). BringsUnread k new.kept documents reply) looked.kept bring.brought.unread;
      known = bring.brought.known;
      refusal = λ code is. bring.brought.refusal code is ∙ looked.kept;
    };
    durable = bring.durable;
    usable = bring.usable;
    done = λ is. let next = bring.done is in record {
      layout = next.layout;
      epoch = next.epoch ∙ ap (λ (n : ℕ). n + 1) looked.epoch;
      events = next.events;
    };
    refusal = λ code is. let left = bring.refusal code is in record {
      desktop = λ honest. left.desktop (looked.disk.device.still honest) ∙ looked.desktop honest;
      kept = left.kept ∙ looked.kept;
      layout = left.layout ∙ looked.layout;
      epoch = left.epoch ∙ looked.epoch;
      events = left.events ∙ looked.events;
      unwritten = read_twice d looked.disk left.unwritten;
    };
  }

  pub looked_both : {old mid new : StoreView D} → HasOnlyLooked d old mid → HasOnlyLooked d mid new
      → HasOnlyLooked d old new
  looked_both first second = record {
    desktop = λ honest. second.desktop (first.disk.device.still honest) ∙ first.desktop honest;
    kept = second.kept ∙ first.kept;
    layout = second.layout ∙ first.layout;
    epoch = second.epoch ∙ first.epoch;
    events = second.events ∙ first.events;
    usable = second.usable ∙ first.usable;
    disk = read_twice d first.disk second.disk;
  }

  -- a call behind looks that failed
  pub failed_behind : {T : Type 0} (answer : Result T Error) {old mid new : StoreView D} → HasOnlyLooked d old mid
      → (new.must_reopen ≡ false → HasOnlyLooked d mid new)
      → IfErr answer (λ error. new.must_reopen ≡ false → HasOnlyLooked d old new)
  failed_behind (Ok value) looked failed = tt
  failed_behind (Err error) looked failed = λ usable. looked_both looked (failed usable)

  -- a call that failed, and after which the store can be used
  pub failed_looked : {T : Type 0} (answer : Result T Error) (old new : StoreView D) → AnswersMustReopen answer old new
      → IfErr answer (λ error. new.must_reopen ≡ false → IsLeft d old new)
      → IfErr answer (λ error. new.must_reopen ≡ false → HasOnlyLooked d old new)
  failed_looked answer old new reopen failed = IfErr-weaker answer _ _ (λ error is usable.
      let left = is usable in record {
        desktop = left.desktop;
        kept = left.kept;
        layout = left.layout;
        epoch = left.epoch;
        events = left.events;
        usable = usable ∙ sym (false_from_ne_true old.must_reopen
            (λ was. false≢true (sym usable ∙ ap (λ s. s.must_reopen) (reopen.unchanged (reopen.always was)) ∙ was)));
        disk = left.disk;
      }) failed

  pub same_moments : (old new : StoreView D) (came documents : Documents) → (d.honest old.disk → came ≡ documents)
      → LeavesAllOrNone d came old new → LeavesAllOrNone d documents old new
  same_moments old new came documents is run usable honest =
      subst (λ (x : Documents). LeavesOnly (d.trail old.disk) (d.trail new.disk)
      (MeansEither (d.size old.disk) old.desktop (brought_in old.desktop x).desktop)) (is honest) (run usable honest)

-- sorted documents, put together
pub together_are : (desktop : Desktop) (documents : Documents) (sorted : Sorted) (coming : Coming)
    → AreSorted desktop documents sorted → AreTogether sorted coming → AreComing desktop documents coming
together_are desktop documents sorted coming are together = record {
  all = together.documents ∙ ap (λ (l : Documents). l ++ sorted.other.items) are.fresh
      ∙ ap (λ (l : Documents). new_ones desktop documents ++ l) are.other;
  fresh = together.fresh ∙ ap (λ (l : Documents). length l) are.fresh;
  same = ap (λ s. s.items) together.same ∙ are.same;
}
