-- What a call to legs leaves of what they read, and of what is known of them.
use Rattle.std.proofs.Common.{◌≡◌, ◌≢◌, ◌==◌, ℕ, List, Bool, true, false, if◌then◌else◌, refl, sym, ◌∙◌, ap, subst, arith}
use Rattle.std.proofs.Common.{Result, Ok, Err, OnOk, OnErr, is_ok}
use Rattle.std.specs.declared.option.Option.TheVariants.{Some}
use Rattle.std.proofs.lemmas.Bool.Decides.{nat_tests}
use Rattle.sector_disk.specs.declared.disk.Disk.{Ghosts}
use Rattle.sector_disk.specs.Trail.{Moment, Nowhere}
use Rattle.sector_disk.proofs.Touching.{still_reads, still_settled}
use Rattle.twin_disk.specs.declared.legs.Left.{Left}
use Rattle.twin_disk.specs.declared.legs.Left.TheVariants.{Both, First, Second}
use Rattle.twin_disk.specs.declared.legs.Legs.{Legs}
use Rattle.twin_disk.specs.Legs.{Each, IsFewer, read_by, first_now, second_now, reads_of, IsHonest}
use Rattle.twin_disk.specs.Twin.{pending_after, Agrees}
use Rattle.twin_disk.proofs.Seen.{Moves, Reads, Writes, Syncs}

abbrev Content : Type 0
Content = ℕ → List ℕ

-- which leg is read makes no difference, as far as both read the same
other_leg : (l l' : Left) (x y : Moment) → IsFewer l l' → (l ≡ Both → x.reads ≡ y.reads) → read_by l' x y ≡ read_by l x y
other_leg Both Both x y fewer same = refl
other_leg Both First x y fewer same = refl
other_leg Both Second x y fewer same = sym (same refl)
other_leg First Both x y fewer same = absurd (cc)
other_leg First First x y fewer same = refl
other_leg First Second x y fewer same = absurd (cc)
other_leg Second Both x y fewer same = absurd (cc)
other_leg Second First x y fewer same = absurd (cc)
other_leg Second Second x y fewer same = refl

-- a sector that reads the same on both legs
same_at : (l : Left) (x y x' y' : Moment) (n : ℕ) → x'.reads n ≡ x.reads n → y'.reads n ≡ y.reads n
    → read_by l x' y' n ≡ read_by l x y n
same_at Both x y x' y' n first second = first
same_at First x y x' y' n first second = first
same_at Second x y x' y' n first second = second

wrote_by : (l : Left) (x y x' y' : Moment) (n : ℕ) (bytes : List ℕ)
    → Each l (x'.reads ≡ (λ k. if k == n then bytes else x.reads k)) (y'.reads ≡ (λ k. if k == n then bytes else y.reads k))
    → read_by l x' y' ≡ (λ k. if k == n then bytes else read_by l x y k)
wrote_by Both x y x' y' n bytes did = did.0
wrote_by First x y x' y' n bytes did = did
wrote_by Second x y x' y' n bytes did = did

each_map : (l : Left) {P Q P' Q' : Type 0} → (P → P') → (Q → Q') → Each l P Q → Each l P' Q'
each_map Both f g both = (f both.0, g both.1)
each_map First f g it = f it
each_map Second f g it = g it

each_first : (l : Left) (P Q : Type 0) → l ≢ Second → Each l P Q → P
each_first Both P Q other each = each.0
each_first First P Q other each = each
each_first Second P Q other each = absurd (other refl)

each_second : (l : Left) (P Q : Type 0) → l ≢ First → Each l P Q → Q
each_second Both P Q other each = each.1
each_second First P Q other each = absurd (other refl)
each_second Second P Q other each = each

was_both : (l l' : Left) → IsFewer l l' → l' ≡ Both → l ≡ Both
was_both Both l' fewer is = refl
was_both First l' fewer is = absurd (cc)
was_both Second l' fewer is = absurd (cc)

had_first : (l l' : Left) → IsFewer l l' → l' ≢ Second → l ≢ Second
had_first Both l' fewer other = λ is. cc
had_first First l' fewer other = λ is. cc
had_first Second l' fewer other = λ is. other fewer

had_second : (l l' : Left) → IsFewer l l' → l' ≢ First → l ≢ First
had_second Both l' fewer other = λ is. cc
had_second First l' fewer other = λ is. other fewer
had_second Second l' fewer other = λ is. cc

-- a sector other than the one written
pub apart : (k n : ℕ) (pending : ℕ → Bool) → (if k == n then true else pending k) ≡ false → ¬ (k ≡ n)
apart k n pending is = grind (arith, nat_tests)

pub was_settled : (k n : ℕ) (pending : ℕ → Bool) → (if k == n then true else pending k) ≡ false → pending k ≡ false
was_settled k n pending is = grind (arith, nat_tests)

pub still_pending : (k n : ℕ) (pending : ℕ → Bool) → ¬ (k ≡ n) → pending k ≡ false
    → (if k == n then true else pending k) ≡ false
still_pending k n pending out is = grind (arith, nat_tests)

module _ {A B : Type 0} (a : Ghosts A) (b : Ghosts B) where
  module _ {area : ℕ → Type 0} {old new : Legs A B} (moves : Moves a b area old new) where
    pub honest_on : IsHonest a b old → IsHonest a b new
    honest_on h = record { first = moves.first.still h.first; second = moves.second.still h.second }

    pub honest_before : IsHonest a b new → IsHonest a b old
    honest_before h = record { first = moves.first.already h.first; second = moves.second.already h.second }

    module _ (h : IsHonest a b old) where
      first_reads : (n : ℕ) → ¬ area n → (first_now a b new).reads n ≡ (first_now a b old).reads n
      first_reads = still_reads (a.trail old.first) (a.trail new.first) (moves.first.moments h.first)

      second_reads : (n : ℕ) → ¬ area n → (second_now a b new).reads n ≡ (second_now a b old).reads n
      second_reads = still_reads (b.trail old.second) (b.trail new.second) (moves.second.moments h.second)

      first_settled : (n : ℕ) → ¬ area n → (first_now a b old).pending n ≡ false → (first_now a b new).pending n ≡ false
      first_settled = still_settled (a.trail old.first) (a.trail new.first) (moves.first.moments h.first)

      second_settled : (n : ℕ) → ¬ area n → (second_now a b old).pending n ≡ false → (second_now a b new).pending n ≡ false
      second_settled = still_settled (b.trail old.second) (b.trail new.second) (moves.second.moments h.second)

      module _ {lost : Bool} {pending : ℕ → Bool} (left : lost ≡ false) (agrees : Agrees a b lost pending old) where
        -- what is read outside the area stayed
        pub reads_on : (n : ℕ) → ¬ area n → reads_of a b new n ≡ reads_of a b old n
        reads_on n out =
            same_at new.left (first_now a b old) (second_now a b old) (first_now a b new) (second_now a b new) n
            (first_reads n out) (second_reads n out)
            ∙ ap (λ r. r n) (other_leg old.left new.left (first_now a b old) (second_now a b old) moves.fewer
            (agrees.same left))

        -- what is known of legs stays known, of the sectors outside the area that are settled
        pub agrees_on : (lost' : Bool) (pending' : ℕ → Bool)
            → (lost' ≡ false → new.left ≡ Both → (first_now a b new).reads ≡ (second_now a b new).reads)
            → ((n : ℕ) → pending' n ≡ false → ¬ area n) → ((n : ℕ) → pending' n ≡ false → pending n ≡ false)
            → Agrees a b lost' pending' new
        agrees_on lost' pending' same out was = record {
          same = same;
          same_settled = λ both n is. second_reads n (out n is)
              ∙ agrees.same_settled (was_both old.left new.left moves.fewer both) n (was n is)
              ∙ sym (first_reads n (out n is));
          first = λ other n is. first_settled n (out n is)
              (agrees.first (had_first old.left new.left moves.fewer other) n (was n is));
          second = λ other n is. second_settled n (out n is)
              (agrees.second (had_second old.left new.left moves.fewer other) n (was n is));
        }

  -- a call that touches no sector
  module _ {old new : Legs A B} (moves : Moves a b Nowhere old new) (h : IsHonest a b old)
      {lost : Bool} {pending : ℕ → Bool} (left : lost ≡ false) (agrees : Agrees a b lost pending old) where
    pub reads_same : reads_of a b new ≡ reads_of a b old
    reads_same = λ i n. reads_on moves h left agrees n (λ none. none) i

    both_same : new.left ≡ Both → (first_now a b new).reads ≡ (second_now a b new).reads
    both_same both = (λ i n. first_reads moves h n (λ none. none) i)
        ∙ agrees.same left (was_both old.left new.left moves.fewer both)
        ∙ (λ i n. sym (second_reads moves h n (λ none. none)) i)

    pub agrees_still : (lost' : Bool) → Agrees a b lost' pending new
    agrees_still lost' = agrees_on moves h left agrees lost' pending (λ _. both_same) (λ n is none. none) (λ n is. is)

  -- a read
  pub read_gives : {E : Type 0} (n : ℕ) (bytes : List ℕ) (result : Result (Unit {0}) E) {old new : Legs A B}
      → Reads a b n bytes result old new → (lost : Bool) (pending : ℕ → Bool) → lost ≡ false
      → (IsHonest a b old → Agrees a b lost pending old) → OnOk result (IsHonest a b old → bytes ≡ reads_of a b old n)
  read_gives n bytes (Ok _) {old} {new} reads lost pending left agrees = λ h. reads.bytes_read h
      ∙ ap (λ r. r n) (other_leg old.left new.left (first_now a b old) (second_now a b old) reads.moves.fewer
      ((agrees h).same left))
  read_gives n bytes (Err _) {old} {new} reads lost pending left agrees = tt

  -- a write
  module _ {E : Type 0} (n : ℕ) (bytes : List ℕ) {old new : Legs A B} where
    did : (result : Result (Unit {0}) E) (r : Unit {0}) → result ≡ Ok r → Writes a b n bytes result old new
        → IsHonest a b old
        → Each new.left ((first_now a b new).reads ≡ (λ k. if k == n then bytes else (first_now a b old).reads k))
        ((second_now a b new).reads ≡ (λ k. if k == n then bytes else (second_now a b old).reads k))
    did (Ok _) r is writes h = each_map new.left (λ f. f h.first) (λ f. f h.second) writes.done
    did (Err _) r is writes h = absurd (cc)

    pub write_reads : (lost : Bool) (pending : ℕ → Bool) → lost ≡ false
        → (result : Result (Unit {0}) E) → Writes a b n bytes result old new
        → (IsHonest a b old → Agrees a b lost pending old)
        → OnOk result (IsHonest a b old → reads_of a b new ≡ (λ k. if k == n then bytes else reads_of a b old k))
    write_reads lost pending left (Ok r) writes agrees = λ h.
        wrote_by new.left (first_now a b old) (second_now a b old) (first_now a b new) (second_now a b new) n bytes
        (did (Ok r) r refl writes h)
        ∙ ap (λ (c : Content). λ k. if k == n then bytes else c k)
        (other_leg old.left new.left (first_now a b old) (second_now a b old) writes.moves.fewer ((agrees h).same left))
    write_reads lost pending left (Err _) writes agrees = tt

    both_wrote : {lost : Bool} {pending : ℕ → Bool} → lost ≡ false → (result : Result (Unit {0}) E) → Writes a b n bytes result old new → IsHonest a b old
        → Agrees a b lost pending old → (lost' : Bool) → OnErr result (lost' ≡ true) → lost' ≡ false → new.left ≡ Both
        → (first_now a b new).reads ≡ (second_now a b new).reads
    both_wrote left (Err _) writes h agrees lost' gone is both = absurd (cc)
    both_wrote left (Ok r) writes h agrees lost' gone is both =
        let each = subst (λ l. Each l ((first_now a b new).reads ≡ (λ k. if k == n then bytes else (first_now a b old).reads k))
        ((second_now a b new).reads ≡ (λ k. if k == n then bytes else (second_now a b old).reads k))) both
        (did (Ok r) r refl writes h) in
        each.0
        ∙ ap (λ (c : Content). λ k. if k == n then bytes else c k)
        (agrees.same left (was_both old.left new.left writes.moves.fewer both))
        ∙ sym each.1

    pub agrees_wrote : {lost : Bool} {pending : ℕ → Bool} → lost ≡ false → (result : Result (Unit {0}) E) → Writes a b n bytes result old new → IsHonest a b old
        → Agrees a b lost pending old → (lost' : Bool) → OnErr result (lost' ≡ true)
        → Agrees a b lost' (pending_after (Some n) pending) new
    agrees_wrote {lost} {pending} left result writes h agrees lost' gone = agrees_on writes.moves h left agrees lost' (pending_after (Some n) pending)
        (both_wrote left result writes h agrees lost' gone) (λ k is. apart k n pending is) (λ k is. was_settled k n pending is)

  -- a sync
  module _ {old new : Legs A B} {lost : Bool} {pending : ℕ → Bool} (left : lost ≡ false) where
    pub agrees_synced : {E : Type 0} (result : Result (Unit {0}) E) → is_ok result ≡ true → Syncs a b result old new
        → IsHonest a b old → Agrees a b lost pending old → (lost' : Bool) → Agrees a b lost' (λ _. false) new
    agrees_synced (Err _) is syncs h agrees lost' = absurd (cc)
    agrees_synced (Ok r) is syncs h agrees lost' =
        let did = each_map new.left (λ f. f h.first) (λ f. f h.second) syncs.done in
        record {
          same = λ _. both_same syncs.moves h left agrees;
          same_settled = λ both n _. ap (λ r. r n) (sym (both_same syncs.moves h left agrees both));
          first = λ other n _. each_first new.left _ _ other did n;
          second = λ other n _. each_second new.left _ _ other did n;
        }
