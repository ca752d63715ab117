-- A store that is looked at.
use Rattle.std.proofs.Common.{◌≡◌, ◌∙◌, ℕ, refl, sym, subst}
use Rattle.std.specs.Prelude.{Result, false}
use Rattle.sector_disk.specs.declared.disk.Disk.{Ghosts}
use Rattle.sector_disk.proofs.Touching.{at_last}
use Rattle.store_layout.specs.Meaning.{Shows}
use Rattle.desk_journal.specs.Device.{IsOnlyRead, IsSameDevice}
use Rattle.desk_journal.specs.Errors.{Error}
use Rattle.desk_journal.specs.Looking.{OnlyLooks}
use Rattle.desk_journal.specs.Session.{Session, session_of}
use Rattle.desk_journal.specs.View.{StoreView, IsDurable}
use Rattle.past_pages.proofs.StillReads.{still_both, still_looked, still_none}
use Rattle.desk_sitting.specs.Doing.{IsLookedAt}

module _ {D : Type 0} (d : Ghosts D) where
  -- what was only read leaves what it left
  pub still_durable : (old new : StoreView D) → IsOnlyRead d old.disk new.disk → session_of new ≡ session_of old
      → IsDurable d old → IsDurable d new
  still_durable old new read same durable honest c image =
      let before = read.device.already honest in
      let was = durable before c (at_last (read.unwritten before) c image) in
      let all : (n : ℕ) (s : Session) → d.size old.disk ≡ n → session_of old ≡ s
      → Shows n s.layout s.epoch s.events s.desktop c
      = λ n s large is. subst (λ (k : ℕ). Shows k s.layout s.epoch s.events s.desktop c) large
      (subst (λ (t : Session). Shows (d.size old.disk) t.layout t.epoch t.events t.desktop c) is was) in
      all (d.size new.disk) (session_of new) (sym read.device.as_large) (sym same)

  -- a look
  pub looked_at : {T : Type 0} (result : Result T Error) (old new : StoreView D) → old.must_reopen ≡ false
      → OnlyLooks d result old new → d.honest old.disk → IsDurable d old → IsLookedAt d old new
  looked_at result old new usable looks honest durable =
      let same : session_of new ≡ session_of old = cc (looks.desktop honest) in
      record {
        session = same;
        read = still_looked d result (still_none d old usable) looks;
        durable = still_durable old new looks.disk same durable;
      }

  -- one look after another
  pub looked_on : (old mid new : StoreView D) → IsLookedAt d old mid → IsLookedAt d mid new → IsLookedAt d old new
  looked_on old mid new first second = record {
    session = second.session ∙ first.session;
    read = still_both d first.read second.read;
    durable = second.durable;
  }

  -- nobody looks
  pub same_disk : (disk : D) → IsSameDevice d disk disk
  same_disk disk = record { as_large = refl; still = λ honest. honest; already = λ honest. honest }

  pub unlooked : (store : StoreView D) → store.must_reopen ≡ false → IsDurable d store → IsLookedAt d store store
  unlooked store usable durable = record {
    session = refl;
    read = still_none d store usable;
    durable = durable;
  }

  -- one device after another is the same
  pub same_device : (old mid new : D) → IsSameDevice d old mid → IsSameDevice d mid new → IsSameDevice d old new
  same_device old mid new first second = record {
    as_large = second.as_large ∙ first.as_large;
    still = λ honest. second.still (first.still honest);
    already = λ honest. first.already (second.already honest);
  }
