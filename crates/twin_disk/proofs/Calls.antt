-- What a call to legs is to the twin.
use Rattle.std.proofs.Common.{◌≡◌, ◌<◌, ℕ, List, [], ◌∷◌, ◌++◌, Bool, true, false, if◌then◌else◌, refl, sym, ◌∙◌, ap}
use Rattle.std.proofs.Common.{subst, Result, Ok, Err, OnOk, OnErr, MatchResult, is_ok}
use Rattle.std.specs.declared.option.Option.TheVariants.{None, Some}
use Rattle.sector_disk.specs.declared.disk.Disk.{Ghosts}
use Rattle.sector_disk.specs.Trail.{now, Touches, Nowhere, Only, written, after_sync}
use Rattle.twin_disk.specs.declared.legs.Legs.{Legs}
use Rattle.twin_disk.specs.Legs.{reads_of, IsHonest}
use Rattle.twin_disk.specs.Twin.{pending_first, pending_now, twin_trail, with_mark, Agrees}
use Rattle.twin_disk.proofs.Seen.{Reads, Writes, Syncs}
use Rattle.twin_disk.proofs.Moments.{now_is, pending-append, stays, goes_on}
use Rattle.twin_disk.proofs.Steps.{reads_same, reads_on, agrees_still, read_gives, write_reads, agrees_wrote, agrees_synced}
use Rattle.twin_disk.proofs.Steps.{still_pending}

pub on_ok : {T E : Type 0} (result told : Result T E) {P Q : Type 0} → told ≡ result → (P → Q) → OnOk result P → OnOk told Q
on_ok (Ok r) told {P} {Q} same f it = subst (λ r. OnOk r Q) (sym same) (f it)
on_ok (Err r) told {P} {Q} same f it = subst (λ r. OnOk r Q) (sym same) tt

pub on_err : {T E : Type 0} (result told : Result T E) {P Q : Type 0} → told ≡ result → (P → Q) → OnErr result P → OnErr told Q
on_err (Ok r) told {P} {Q} same f it = subst (λ r. OnErr r Q) (sym same) tt
on_err (Err r) told {P} {Q} same f it = subst (λ r. OnErr r Q) (sym same) (f it)

-- none is left where none did it
pub gone : {T E : Type 0} (result : Result T E) (lost lost' : Bool) (failed failed' : ℕ)
    → MatchResult result (λ _. (lost' ≡ lost) × (failed' ≡ failed)) (λ _. (lost' ≡ true) × (failed < failed'))
    → OnErr result (lost' ≡ true)
gone (Ok _) lost lost' failed failed' is = tt
gone (Err _) lost lost' failed failed' is = is.0

-- honesty through a write
module _ {A B : Type 0} (a : Ghosts A) (b : Ghosts B) {E : Type 0} (n : ℕ) (bytes : List ℕ) (done : Result (Unit {0}) E)
    (old legs new : Legs A B) (is : legs ≡ with_mark (Some n) old) (writes : Writes a b n bytes done legs new) where
  pub write_honest : IsHonest a b old → IsHonest a b new
  write_honest h =
      let h' : IsHonest a b legs = subst (IsHonest a b) (sym is) (record { first = h.first; second = h.second }) in
      record { first = writes.moves.first.still h'.first; second = writes.moves.second.still h'.second }

  pub write_was : IsHonest a b new → IsHonest a b old
  write_was h =
      let h' : IsHonest a b (with_mark (Some n) old) = subst (IsHonest a b) is
      (record { first = writes.moves.first.already h.first; second = writes.moves.second.already h.second }) in
      record { first = h'.first; second = h'.second }

module _ {A B : Type 0} (a : Ghosts A) (b : Ghosts B) (start calls : List (Legs A B)) (old : Legs A B) (lost : Bool)
    (left : lost ≡ false) (agree : IsHonest a b old → Agrees a b lost (pending_now a b start calls) old) where
  pub read_told : {E : Type 0} (n : ℕ) (bytes : List ℕ) (done told : Result (Unit {0}) E) (new : Legs A B) → told ≡ done
      → Reads a b n bytes done old new
      → OnOk told (IsHonest a b old → bytes ≡ (now (twin_trail a b start calls old)).reads n)
  read_told n bytes done told new same reads = on_ok done told same
      (λ gives h. gives h ∙ ap (λ m. m.reads n) (sym (now_is a b (pending_first a b start) calls old)))
      (read_gives a b n bytes done reads lost (pending_now a b start calls) left agree)

  pub read_touches : {E : Type 0} (n : ℕ) (bytes : List ℕ) (done : Result (Unit {0}) E) (new : Legs A B)
      → Reads a b n bytes done old new
      → IsHonest a b old → Touches Nowhere (twin_trail a b start calls old) (twin_trail a b start calls new)
  read_touches n bytes done new reads h = stays a b Nowhere (pending_first a b start) calls old new
      (reads_same a b reads.moves h left (agree h))

  -- a write
  module _ {E : Type 0} (n : ℕ) (bytes : List ℕ) (done : Result (Unit {0}) E) (legs new : Legs A B) (ys : List (Legs A B))
      (is : legs ≡ with_mark (Some n) old) (more : ys ≡ calls ++ with_mark (Some n) old ∷ [])
      (writes : Writes a b n bytes done legs new) where
    from_old : Writes a b n bytes done (with_mark (Some n) old) new
    from_old = subst (λ l. Writes a b n bytes done l new) is writes

    agree_marked : IsHonest a b (with_mark (Some n) old) → Agrees a b lost (pending_now a b start calls) (with_mark (Some n) old)
    agree_marked h =
        let was = agree (record { first = h.first; second = h.second }) in
        record { same = was.same; same_settled = was.same_settled; first = was.first; second = was.second }

    marked_honest : IsHonest a b old → IsHonest a b (with_mark (Some n) old)
    marked_honest h = record { first = h.first; second = h.second }

    pub write_touches : IsHonest a b old → Touches (Only n) (twin_trail a b start calls old) (twin_trail a b start ys new)
    write_touches h = goes_on a b (Only n) (pending_first a b start) calls ys (with_mark (Some n) old) old new more refl
        (reads_on a b from_old.moves (marked_honest h) left (agree_marked (marked_honest h)))
        (λ k out was. still_pending k n (pending_now a b start calls) out was)

    pub write_told : (told : Result (Unit {0}) E) → told ≡ done
        → OnOk told (IsHonest a b old
        → now (twin_trail a b start ys new) ≡ written (now (twin_trail a b start calls old)) n bytes)
    write_told told same = on_ok done told same
        (λ reads h. now_is a b (pending_first a b start) ys new
        ∙ (λ i. record {
          reads = reads (marked_honest h) i;
          pending = (ap (λ z. pending_now a b start z) more ∙ pending-append a b (pending_first a b start) calls (with_mark (Some n) old)) i;
        })
        ∙ ap (λ m. written m n bytes) (sym (now_is a b (pending_first a b start) calls old)))
        (write_reads a b n bytes lost (pending_now a b start calls) left done from_old agree_marked)

    pub write_agrees : (lost' : Bool) → OnErr done (lost' ≡ true) → IsHonest a b new
        → Agrees a b lost' (pending_now a b start ys) new
    write_agrees lost' none h =
        let before : IsHonest a b (with_mark (Some n) old) =
        record { first = from_old.moves.first.already h.first; second = from_old.moves.second.already h.second } in
        subst (λ p. Agrees a b lost' p new)
        (sym (ap (λ z. pending_now a b start z) more ∙ pending-append a b (pending_first a b start) calls (with_mark (Some n) old)))
        (agrees_wrote a b n bytes left done from_old before (agree_marked before) lost' none)

  -- a sync
  module _ (settled : Bool) (mid new : Legs A B) (ys : List (Legs A B))
      (is : new ≡ (if settled then with_mark None mid else mid))
      (more : ys ≡ (if settled then calls ++ with_mark None mid ∷ [] else calls)) where
    settled_legs : settled ≡ true → new ≡ with_mark None mid
    settled_legs ok = is ∙ ap (λ s. if s then with_mark None mid else mid) ok

    settled_calls : settled ≡ true → ys ≡ calls ++ with_mark None mid ∷ []
    settled_calls ok = more ∙ ap (λ s. if s then calls ++ with_mark None mid ∷ [] else calls) ok

    failed_legs : settled ≡ false → new ≡ mid
    failed_legs not = is ∙ ap (λ s. if s then with_mark None mid else mid) not

    failed_calls : settled ≡ false → ys ≡ calls
    failed_calls not = more ∙ ap (λ s. if s then calls ++ with_mark None mid ∷ [] else calls) not

    pub sync_touches : {E : Type 0} (done : Result (Unit {0}) E) → settled ≡ is_ok done → Syncs a b done old mid
        → IsHonest a b old → Touches Nowhere (twin_trail a b start calls old) (twin_trail a b start ys new)
    sync_touches (Ok r) ok syncs h =
        subst (λ l. Touches Nowhere (twin_trail a b start calls old) (twin_trail a b start ys l)) (sym (settled_legs ok))
        (goes_on a b Nowhere (pending_first a b start) calls ys (with_mark None mid) old (with_mark None mid) (settled_calls ok)
        (reads_same a b syncs.moves h left (agree h))
        (λ n out. ap (λ r. r n) (reads_same a b syncs.moves h left (agree h)))
        (λ n out was. refl))
    sync_touches (Err e) not syncs h =
        subst (λ l. Touches Nowhere (twin_trail a b start calls old) (twin_trail a b start ys l)) (sym (failed_legs not))
        (subst (λ z. Touches Nowhere (twin_trail a b start calls old) (twin_trail a b start z mid)) (sym (failed_calls not))
        (stays a b Nowhere (pending_first a b start) calls old mid (reads_same a b syncs.moves h left (agree h))))

    same_reads : {E : Type 0} (l : Legs A B) → l ≡ mid → (done : Result (Unit {0}) E) → Syncs a b done old mid → IsHonest a b old
        → reads_of a b l ≡ reads_of a b old
    same_reads l same done syncs h = ap (reads_of a b) same ∙ reads_same a b syncs.moves h left (agree h)

    pub sync_told : {E : Type 0} (done told : Result (Unit {0}) E) → settled ≡ is_ok done → Syncs a b done old mid → told ≡ done
        → OnOk told (IsHonest a b old
        → now (twin_trail a b start ys new) ≡ after_sync (now (twin_trail a b start calls old)))
    sync_told (Ok r) told ok syncs same = on_ok (Ok r) told {P = Unit {0}} same (λ _ h.
        now_is a b (pending_first a b start) ys new
        ∙ (λ i. record {
          reads = (ap (reads_of a b) (settled_legs ok) ∙ reads_same a b syncs.moves h left (agree h)
              ∙ sym (ap (λ m. m.reads) (now_is a b (pending_first a b start) calls old))) i;
          pending = (ap (λ z. pending_now a b start z) (settled_calls ok)
              ∙ pending-append a b (pending_first a b start) calls (with_mark None mid)) i;
        })) tt
    sync_told (Err e) told not syncs same = subst (λ r. OnOk r (IsHonest a b old
        → now (twin_trail a b start ys new) ≡ after_sync (now (twin_trail a b start calls old)))) (sym same) tt

    pub sync_failed : {E : Type 0} (done told : Result (Unit {0}) E) → settled ≡ is_ok done → Syncs a b done old mid → told ≡ done
        → OnErr told (IsHonest a b old
        → now (twin_trail a b start ys new) ≡ now (twin_trail a b start calls old))
    sync_failed (Ok r) told ok syncs same = subst (λ r. OnErr r (IsHonest a b old
        → now (twin_trail a b start ys new) ≡ now (twin_trail a b start calls old))) (sym same) tt
    sync_failed (Err e) told not syncs same = on_err (Err e) told {P = Unit {0}} same (λ _ h.
        now_is a b (pending_first a b start) ys new
        ∙ (λ i. record {
          reads = same_reads new (failed_legs not) (Err e) syncs h i;
          pending = ap (λ z. pending_now a b start z) (failed_calls not) i;
        })
        ∙ sym (now_is a b (pending_first a b start) calls old)) tt

    pub sync_agrees : {E : Type 0} (done : Result (Unit {0}) E) → settled ≡ is_ok done → Syncs a b done old mid
        → (lost' : Bool) → IsHonest a b new → Agrees a b lost' (pending_now a b start ys) new
    sync_agrees (Ok r) ok syncs lost' h =
        let h' : IsHonest a b (with_mark None mid) = subst (IsHonest a b) (settled_legs ok) h in
        let before : IsHonest a b old =
        record { first = syncs.moves.first.already h'.first; second = syncs.moves.second.already h'.second } in
        let it = agrees_synced a b left (Ok r) refl syncs before (agree before) lost' in
        subst (λ l. Agrees a b lost' (pending_now a b start ys) l) (sym (settled_legs ok))
        (subst (λ p. Agrees a b lost' p (with_mark None mid))
        (sym (ap (λ z. pending_now a b start z) (settled_calls ok)
        ∙ pending-append a b (pending_first a b start) calls (with_mark None mid)))
        (record { same = it.same; same_settled = it.same_settled; first = it.first; second = it.second }))
    sync_agrees (Err e) not syncs lost' h =
        let h' : IsHonest a b mid = subst (IsHonest a b) (failed_legs not) h in
        let before : IsHonest a b old =
        record { first = syncs.moves.first.already h'.first; second = syncs.moves.second.already h'.second } in
        subst (λ l. Agrees a b lost' (pending_now a b start ys) l) (sym (failed_legs not))
        (subst (λ z. Agrees a b lost' (pending_now a b start z) mid) (sym (failed_calls not))
        (agrees_still a b syncs.moves before left (agree before) lost'))

-- honesty through a sync
module _ {A B : Type 0} (a : Ghosts A) (b : Ghosts B) {E : Type 0} (done : Result (Unit {0}) E)
    (settled : Bool) (old mid new : Legs A B) (is : new ≡ (if settled then with_mark None mid else mid))
    (syncs : Syncs a b done old mid) where
  by_mark : (s : Bool) → IsHonest a b mid → IsHonest a b (if s then with_mark None mid else mid)
  by_mark true h = record { first = h.first; second = h.second }
  by_mark false h = h

  from_mark : (s : Bool) → IsHonest a b (if s then with_mark None mid else mid) → IsHonest a b mid
  from_mark true h = record { first = h.first; second = h.second }
  from_mark false h = h

  pub sync_honest : IsHonest a b old → IsHonest a b new
  sync_honest h = subst (IsHonest a b) (sym is) (by_mark settled
      (record { first = syncs.moves.first.still h.first; second = syncs.moves.second.still h.second }))

  pub sync_was : IsHonest a b new → IsHonest a b old
  sync_was h =
      let h' : IsHonest a b mid = from_mark settled (subst (IsHonest a b) is h) in
      record { first = syncs.moves.first.already h'.first; second = syncs.moves.second.already h'.second }

pub mark_size : {A B : Type 0} (f : Legs A B → ℕ) → ((l : Legs A B) → f (with_mark None l) ≡ f l) → (s : Bool) (l : Legs A B)
    → f (if s then with_mark None l else l) ≡ f l
mark_size f same true l = same l
mark_size f same false l = refl
