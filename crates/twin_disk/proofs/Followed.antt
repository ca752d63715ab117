-- What is known of all moments of both legs, after a call.
use Rattle.std.proofs.Common.{◌≡◌, ◌≢◌, ◌==◌, ℕ, List, [], ◌∷◌, ◌++◌, Bool, true, false, if◌then◌else◌, refl, sym}
use Rattle.std.proofs.Common.{subst, arith, Result}
use Rattle.std.specs.declared.option.Option.{Option}
use Rattle.std.specs.declared.option.Option.TheVariants.{None, Some}
use Rattle.sector_disk.specs.declared.disk.Disk.{Ghosts}
use Rattle.sector_disk.specs.Trail.{Nowhere, Only}
use Rattle.twin_disk.specs.declared.legs.Left.{Left}
use Rattle.twin_disk.specs.declared.legs.Left.TheVariants.{Both, First, Second}
use Rattle.twin_disk.specs.declared.legs.Legs.{Legs}
use Rattle.twin_disk.specs.Legs.{Rests, reads_of, IsHonest}
use Rattle.twin_disk.proofs.Seen.{Moves, Writes, bounded_image}
use Rattle.twin_disk.specs.Twin.{pending_now, with_mark, Agrees, IsLegFollowed}
use Rattle.twin_disk.specs.Survival.{SurvivesEach, HoldsDropped, twin_moments, first_clock, second_clock, first_when, second_when}
use Rattle.twin_disk.specs.Survival.{dropped_at, twin_size}
use Rattle.twin_disk.specs.declared.twin.TwinDisk.{TwinDisk}
use Rattle.twin_disk.proofs.Steps.{reads_same, reads_on, apart, was_settled}
use Rattle.twin_disk.proofs.Surviving.{first_read, second_read, images_within}
use Rattle.twin_disk.proofs.Following.{Follows, when_within, dropped_within, followed_on, followed_write, followed_sync}

first_rests : {A B : Type 0} (l : Left) (x x' : A) (y y' : B) → Rests l x x' y y' → l ≡ Second → x' ≡ x
first_rests Both x x' y y' rests is = absurd (cc)
first_rests First x x' y y' rests is = absurd (cc)
first_rests Second x x' y y' rests is = rests

second_rests : {A B : Type 0} (l : Left) (x x' : A) (y y' : B) → Rests l x x' y y' → l ≡ First → y' ≡ y
second_rests Both x x' y y' rests is = absurd (cc)
second_rests First x x' y y' rests is = rests
second_rests Second x x' y y' rests is = absurd (cc)

second_single : Second ≢ Both
second_single is = cc

first_single : First ≢ Both
first_single is = cc

module _ {A B : Type 0} (a : Ghosts A) (b : Ghosts B) where
  -- both legs
  pub record BothFollowed (start calls : List (Legs A B)) (l : Legs A B) : Type 0 where
    pub first : IsLegFollowed a b a (λ l. l.first) Second start calls l
    pub second : IsLegFollowed a b b (λ l. l.second) First start calls l

  module _ {area : ℕ → Type 0} (old new : Legs A B) (moves : Moves a b area old new) (h : IsHonest a b old) (lost : Bool)
      (pending : ℕ → Bool) (agrees : Agrees a b lost pending old) where
    first_follows : Follows a b a (λ l. l.first) Second second_single area pending old new
    first_follows = record {
      run = moves.first.moments h.first;
      fewer = moves.fewer;
      rests = first_rests old.left old.first new.first old.second new.second moves.rests;
      settled = agrees.first;
      reads = λ other n quiet. first_read a b lost pending old old.left refl other agrees n quiet;
    }

    second_follows : Follows a b b (λ l. l.second) First first_single area pending old new
    second_follows = record {
      run = moves.second.moments h.second;
      fewer = moves.fewer;
      rests = second_rests old.left old.first new.first old.second new.second moves.rests;
      settled = agrees.second;
      reads = λ other n quiet. second_read a b lost pending old old.left refl other agrees n quiet;
    }

  unmarked : (mark : Option ℕ) (area : ℕ → Type 0) (old new : Legs A B) → Moves a b area (with_mark mark old) new
      → Moves a b area old new
  unmarked mark area old new moves =
      record { first = moves.first; second = moves.second; fewer = moves.fewer; rests = moves.rests }

  remarked : (mark : Option ℕ) (area : ℕ → Type 0) (old mid : Legs A B) → Moves a b area old mid
      → Moves a b area old (with_mark mark mid)
  remarked mark area old mid moves =
      record { first = moves.first; second = moves.second; fewer = moves.fewer; rests = moves.rests }

  module _ (start calls : List (Legs A B)) (old : Legs A B) (lost : Bool) (left : lost ≡ false)
      (agree : IsHonest a b old → Agrees a b lost (pending_now a b start calls) old)
      (first : IsHonest a b old → IsLegFollowed a b a (λ l. l.first) Second start calls old)
      (second : IsHonest a b old → IsLegFollowed a b b (λ l. l.second) First start calls old) where
    on : (mid : Legs A B) → Moves a b Nowhere old mid → IsHonest a b old → BothFollowed start calls mid
    on mid moves h =
        let same = reads_same a b moves h left (agree h) in
        record {
          first = followed_on a b a (λ l. l.first) Second second_single start calls old mid
              (first_follows old mid moves h lost (pending_now a b start calls) (agree h)) (first h) same (λ n none. none);
          second = followed_on a b b (λ l. l.second) First first_single start calls old mid
              (second_follows old mid moves h lost (pending_now a b start calls) (agree h)) (second h) same (λ n none. none);
        }

    pub read_followed : (new : Legs A B) → Moves a b Nowhere old new → IsHonest a b new → BothFollowed start calls new
    read_followed new moves h =
        on new moves (record { first = moves.first.already h.first; second = moves.second.already h.second })

    pub write_followed : {E : Type 0} (n : ℕ) (bytes : List ℕ) (done : Result (Unit {0}) E) (legs new : Legs A B)
        (ys : List (Legs A B)) → legs ≡ with_mark (Some n) old → ys ≡ calls ++ with_mark (Some n) old ∷ []
        → Writes a b n bytes done legs new → IsHonest a b new → BothFollowed start ys new
    write_followed n bytes done legs new ys is more writes h' =
        let writes' = subst (λ l. Writes a b n bytes done l new) is writes in
        let moves : Moves a b (Only n) old new = unmarked (Some n) (Only n) old new writes'.moves in
        let h : IsHonest a b old =
        record { first = moves.first.already h'.first; second = moves.second.already h'.second } in
        let reads : (k : ℕ) → (if k == n then true else pending_now a b start calls k) ≡ false
        → reads_of a b new k ≡ reads_of a b old k =
        λ k is. reads_on a b moves h left (agree h) k (apart k n (pending_now a b start calls) is) in
        record {
          first = followed_write a b a (λ l. l.first) Second second_single start calls old new
              (first_follows old new moves h lost (pending_now a b start calls) (agree h)) (first h) ys (with_mark (Some n) old)
              more refl (omega arith) (moves.first.moments h.first).later refl refl
              (λ k is. apart k n (pending_now a b start calls) is) (λ k is. was_settled k n (pending_now a b start calls) is) reads;
          second = followed_write a b b (λ l. l.second) First first_single start calls old new
              (second_follows old new moves h lost (pending_now a b start calls) (agree h)) (second h) ys (with_mark (Some n) old)
              more refl (omega arith) (moves.second.moments h.second).later refl refl
              (λ k is. apart k n (pending_now a b start calls) is) (λ k is. was_settled k n (pending_now a b start calls) is) reads;
        }

    synced : (mid : Legs A B) (ys : List (Legs A B)) → ys ≡ calls ++ with_mark None mid ∷ [] → Moves a b Nowhere old mid
        → IsHonest a b old → BothFollowed start ys (with_mark None mid)
    synced mid ys more moves' h =
        let moves : Moves a b Nowhere old (with_mark None mid) = remarked None Nowhere old mid moves' in
        let same : reads_of a b (with_mark None mid) ≡ reads_of a b old = reads_same a b moves h left (agree h) in
        record {
          first = followed_sync a b a (λ l. l.first) Second second_single start calls old (with_mark None mid)
              (first_follows old (with_mark None mid) moves h lost (pending_now a b start calls) (agree h)) (first h) ys
              (with_mark None mid) more same (moves.first.moments h.first).later (omega arith) refl refl (λ n none. none);
          second = followed_sync a b b (λ l. l.second) First first_single start calls old (with_mark None mid)
              (second_follows old (with_mark None mid) moves h lost (pending_now a b start calls) (agree h)) (second h) ys
              (with_mark None mid) more same (moves.second.moments h.second).later (omega arith) refl refl (λ n none. none);
        }

    pub sync_followed : (settled : Bool) (mid new : Legs A B) (ys : List (Legs A B))
        → new ≡ (if settled then with_mark None mid else mid)
        → ys ≡ (if settled then calls ++ with_mark None mid ∷ [] else calls)
        → Moves a b Nowhere old mid → IsHonest a b new → BothFollowed start ys new
    sync_followed true mid new ys is more moves h' =
        let h'' : IsHonest a b (with_mark None mid) = subst (IsHonest a b) is h' in
        let h : IsHonest a b old =
        record { first = moves.first.already h''.first; second = moves.second.already h''.second } in
        subst (BothFollowed start ys) (sym is) (synced mid ys more moves h)
    sync_followed false mid new ys is more moves h' =
        let h'' : IsHonest a b mid = subst (IsHonest a b) is h' in
        let h : IsHonest a b old =
        record { first = moves.first.already h''.first; second = moves.second.already h''.second } in
        subst (BothFollowed start ys) (sym is) (subst (λ z. BothFollowed start z mid) (sym more) (on mid moves h))

-- what a twin knows of its legs
module _ {A B : Type 0} (a : Ghosts A) (b : Ghosts B) where
  pub survives_each : (d : TwinDisk A B a b) → SurvivesEach d
  survives_each d = record {
    first = λ h u in_first. record {
      real = when_within (first_clock a) d.calls.items u;
      images = λ image is. images_within _ ((twin_moments d).at (first_when d u)) ((d.first_followed h).each u in_first.0 in_first.1)
          _ (bounded_image (twin_size d) _ image is);
    };
    second = λ h u in_second. record {
      real = when_within (second_clock b) d.calls.items u;
      images = λ image is. images_within _ ((twin_moments d).at (second_when d u)) ((d.second_followed h).each u in_second.0 in_second.1)
          _ (bounded_image (twin_size d) _ image is);
    };
  }

  pub holds_dropped : (d : TwinDisk A B a b) → HoldsDropped d
  holds_dropped d = record {
    first = λ h gone. record {
      real = dropped_within d.calls.items;
      images = λ image is. images_within _ ((twin_moments d).at (dropped_at d)) ((d.first_followed h).dropped gone)
          _ (bounded_image (twin_size d) _ image is);
    };
    second = λ h gone. record {
      real = dropped_within d.calls.items;
      images = λ image is. images_within _ ((twin_moments d).at (dropped_at d)) ((d.second_followed h).dropped gone)
          _ (bounded_image (twin_size d) _ image is);
    };
  }
