-- Events that are posted over a past, one after another.
use Rattle.std.proofs.Common.{refl, sym, subst, List, [], ◌∷◌, ◌++◌, append_assoc, append-nil}
use Rattle.sector_disk.specs.declared.disk.Disk.{Ghosts}
use Rattle.event_bytes.specs.declared.event.Event.{Event}
use Rattle.desk_journal.specs.Device.{IsOnlyRead, IsSameDevice}
use Rattle.desk_journal.specs.View.{StoreView}
use Rattle.desk_past.specs.Keeping.{KeepsPost}
use Rattle.past_pages.specs.Reading.{IsOnlyReadFrom}
use Rattle.past_pages.proofs.StillReads.{nothing_written}
use Rattle.desk_sitting.specs.Pasts.{KeepsPosted, PostsOn, PostsUpTo}
use Rattle.desk_sitting.specs.Pasts.{none, one_more, then_read}

module _ {D : Type 0} (d : Ghosts D) where
  -- ---- none

  pub posts_look : {old new : StoreView D} → IsOnlyReadFrom d old new → PostsOn d [] old new
  posts_look still = then_read none still

  -- nothing more is begun
  pub up_to_none : {events : List Event} {old new : StoreView D} → PostsOn d events old new → PostsUpTo d events [] old new
  up_to_none {new = new} goes = record {
    mid = new;
    goes = goes;
    begins = record {
      device = record { as_large = refl; still = λ h. h; already = λ h. h };
      unwritten = λ honest. nothing_written (d.trail new.disk);
    };
  }

  pub up_to_look : {old new : StoreView D} → IsOnlyRead d old.disk new.disk → PostsUpTo d [] [] old new
  up_to_look {old = old} read = record { mid = old; goes = none; begins = read }

  -- ---- one

  pub posts_one : (event : Event) {old new : StoreView D} → KeepsPosted d event old new → PostsOn d (event ∷ []) old new
  posts_one event post = one_more event none post

  pub up_to_one : (event : Event) {old new : StoreView D} → KeepsPost d event old new → IsSameDevice d old.disk new.disk
      → PostsUpTo d [] (event ∷ []) old new
  up_to_one event {old = old} amid device = record { mid = old; goes = none; begins = (amid, device) }

  -- ---- one after another

  pub posts_both : (events : List Event) {more : List Event} {old mid new : StoreView D} → PostsOn d events old mid
      → PostsOn d more mid new → PostsOn d (events ++ more) old new
  posts_both events {old = old} first (none {store = store}) =
      subst (λ (es : List Event). PostsOn d es old store) (sym (append-nil events)) first
  posts_both events {old = old} first (one_more {events = more} {new = new} event second post) =
      subst (λ (es : List Event). PostsOn d es old new) (append_assoc events more (event ∷ []))
      (one_more event (posts_both events first second) post)
  posts_both events first (then_read second still) = then_read (posts_both events first second) still

  pub posts_then : (events : List Event) {more begun : List Event} {old mid new : StoreView D} → PostsOn d events old mid
      → PostsUpTo d more begun mid new → PostsUpTo d (events ++ more) begun old new
  posts_then events first rest = record {
    mid = rest.mid;
    goes = posts_both events first rest.goes;
    begins = rest.begins;
  }
