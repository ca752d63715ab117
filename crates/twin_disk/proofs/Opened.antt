-- What calls leave of the marks of legs.
use Rattle.std.proofs.Common.{◌≡◌, ◌⊎◌, inl, inr, ℕ, ◌<◌, ◌≤◌, ◌+◌, ◌==◌, List, if◌then◌else◌, Bool, true, false, refl, sym, ◌∙◌, ap, subst, arith}
use Rattle.std.proofs.Common.{Result, Ok, Err, OnOk}
use Rattle.std.proofs.lemmas.Bool.{cases_lt}
use Rattle.std.specs.declared.option.Option.{Option}
use Rattle.sector_disk.specs.declared.disk.Disk.{Ghosts}
use Rattle.sector_disk.specs.Trail.{Moment, now, Nowhere, Only, Touches, CountsFault}
use Rattle.sector_disk.specs.Confined.{IsConfined}
use Rattle.sector_disk.proofs.Confinement.{joined, stays_put, widened}
use Rattle.sector_disk.proofs.Touching.{still_reads}
use Rattle.twin_disk.specs.declared.legs.Left.{Left}
use Rattle.twin_disk.specs.declared.legs.Left.TheVariants.{Both, First, Second}
use Rattle.twin_disk.specs.declared.legs.Legs.{Legs}
use Rattle.twin_disk.specs.declared.legs.Closed.{Closed}
use Rattle.twin_disk.specs.Flags.{IsOpen, says_closed}
use Rattle.twin_disk.specs.Copying.{HoldSame}
use Rattle.twin_disk.specs.Legs.{Calls, HasWritten, Joins, LegsOpened, OrFlag}
use Rattle.twin_disk.specs.Marks.{HasOpened, KeepsBefore, Opens, OrMark, WritesOpened}
use Rattle.twin_disk.specs.Twin.{with_mark}

bool_two : (b : Bool) → (b ≡ true) ⊎ (b ≡ false)
bool_two true = inl refl
bool_two false = inr refl

kept_on : {flag : ℕ} {x y z : Moment} → KeepsBefore flag x y → KeepsBefore flag y z → KeepsBefore flag x z
kept_on f g = record {
  reads = λ n small. g.reads n small ∙ f.reads n small;
  settled = λ n small was. g.settled n small (f.settled n small was);
}

module _ {D : Type 0} (d : Ghosts D) (flag : ℕ) where
  kept_at : {area : ℕ → Type 0} (old new : D) → ((k : ℕ) → k < flag → ¬ area k) → Touches area (d.trail old) (d.trail new)
      → (u : ℕ) → (d.trail old).clock ≤ u → u ≤ (d.trail new).clock
      → KeepsBefore flag (now (d.trail old)) ((d.trail new).at u)
  kept_at old new out run u low high = record {
    reads = λ n small. run.reads u low high n (out n small);
    settled = λ n small was. run.settled u low high n (out n small) was;
  }

  open_at : {area : ℕ → Type 0} (old new : D) → ¬ area (flag + 1) → Touches area (d.trail old) (d.trail new)
      → IsOpen (flag + 1) (now (d.trail old)) → (u : ℕ) → (d.trail old).clock ≤ u → u ≤ (d.trail new).clock
      → IsOpen (flag + 1) ((d.trail new).at u)
  open_at old new out run was u low high = record {
    settled = run.settled u low high (flag + 1) out was.settled;
    says = ap says_closed (run.reads u low high (flag + 1) out) ∙ was.says;
  }

  -- calls that touch neither the mark nor what is before the flag
  pub opens_still : (closed : Bool) (old new : D) {area : ℕ → Type 0} → ((k : ℕ) → k < flag → ¬ area k)
      → ¬ area (flag + 1) → IsConfined d.size d.honest d.trail area old new → Opens d flag closed closed old new
  opens_still closed old new out out' run h open_now =
      let moved = run.moments h in
      record {
        still = run.still h;
        later = moved.later;
        kept = moved.kept;
        each = λ u low high. elim (bool_two closed) [
          | inl is ↦ inr (is, kept_at old new out moved u low high)
          | inr is ↦ inl (open_at old new out' moved (open_now is) u low high)
        ];
        last = λ is. (is, kept_at old new out moved (d.trail new).clock moved.later (omega arith));
        gone = λ is. open_at old new out' moved (open_now is) (d.trail new).clock moved.later (omega arith);
      }

  pub opens_itself : (closed : Bool) (old : D) → Opens d flag closed closed old old
  opens_itself closed old = opens_still closed old old (λ k small none. none) (λ none. none)
      (stays_put d.size d.honest d.trail Nowhere old)

  -- calls of a leg whose mark is gone
  pub opens_written : (closed : Bool) → closed ≡ false → (old new : D) {area : ℕ → Type 0} → ¬ area (flag + 1)
      → IsConfined d.size d.honest d.trail area old new → Opens d flag closed closed old new
  opens_written closed not old new out run h open_now =
      let moved = run.moments h in
      record {
        still = run.still h;
        later = moved.later;
        kept = moved.kept;
        each = λ u low high. inl (open_at old new out moved (open_now not) u low high);
        last = λ is. absurd cc;
        gone = λ is. open_at old new out moved (open_now not) (d.trail new).clock moved.later (omega arith);
      }

  -- calls that touch the mark alone
  pub opens_taken : (closed closed' : Bool) → closed ≡ true → (old new : D)
      → IsConfined d.size d.honest d.trail (Only (flag + 1)) old new
      → (closed' ≡ false → d.honest old → IsOpen (flag + 1) (now (d.trail new))) → Opens d flag closed closed' old new
  opens_taken closed closed' is old new run taken h open_now =
      let moved = run.moments h in
      let out : (k : ℕ) → k < flag → ¬ Only (flag + 1) k = λ k small at. omega (arith, small, at) in
      record {
        still = run.still h;
        later = moved.later;
        kept = moved.kept;
        each = λ u low high. inr (is, kept_at old new out moved u low high);
        last = λ _. (is, kept_at old new out moved (d.trail new).clock moved.later (omega arith));
        gone = λ not. taken not h;
      }

  -- one call after another
  pub opened_on : {c c' c'' : Bool} {old mid new : D} → HasOpened d flag c c' old mid → HasOpened d flag c' c'' mid new
      → HasOpened d flag c c'' old new
  opened_on {c = c} {old = old} {mid = mid} {new = new} f g = record {
    still = g.still;
    later = let low = f.later in let high = g.later in omega (arith, low, high);
    kept = λ t le. g.kept t (let low = f.later in omega (arith, le, low)) ∙ f.kept t le;
    each = λ u low high. elim (cases_lt (d.trail mid).clock u) [
      | inr early ↦ subst (λ m. IsOpen (flag + 1) m ⊎ ((c ≡ true) × KeepsBefore flag (now (d.trail old)) m))
          (sym (g.kept u early)) (f.each u low early)
      | inl late ↦ elim (g.each u (omega (arith, late)) high) [
        | inl gone ↦ inl gone
        | inr still ↦ let was = f.last still.0 in inr (was.0, kept_on was.1 still.1)
      ]
    ];
    last = λ is. let still = g.last is in let was = f.last still.0 in (was.0, kept_on was.1 still.1);
    gone = g.gone;
  }

  pub opens_on : {c c' c'' : Bool} {old mid new : D} → Opens d flag c c' old mid → Opens d flag c' c'' mid new
      → Opens d flag c c'' old new
  opens_on f g h open_now = let first = f h open_now in opened_on first (g first.still first.gone)

  -- what a twin knows of a leg whose mark is gone
  pub stays_open : {closed closed' : Bool} {old new : D} → Opens d flag closed closed' old new → (d.honest new → d.honest old)
      → (d.honest old → closed ≡ false → IsOpen (flag + 1) (now (d.trail old))) → d.honest new → closed' ≡ false
      → IsOpen (flag + 1) (now (d.trail new))
  stays_open opens back was h is = (opens (back h) (was (back h))).gone is

its_own : (flag n k : ℕ) → Only n k → OrMark flag n k
its_own flag n k is = inl is

its_mark : (flag n k : ℕ) → Only (flag + 1) k → OrMark flag n k
its_mark flag n k is = inr is

-- a write after the mark was taken off, or that failed
module _ {D E : Type 0} (d : Ghosts D) (flag n : ℕ) (small : n < flag) (bytes : List ℕ) (closed closed' : Bool) (old mid new : D)
    (run : IsConfined d.size d.honest d.trail (Only (flag + 1)) old mid) (opens : Opens d flag closed closed' old mid) where
  pub wrote_kept : (opened result : Result (Unit {0}) E) → WritesOpened d opened n bytes result mid new
      → IsConfined d.size d.honest d.trail (OrMark flag n) old new
  wrote_kept (Ok _) result did = joined d.size d.honest d.trail (widened d.size d.honest d.trail (its_mark flag n) run)
      (widened d.size d.honest d.trail (its_own flag n) did.kept)
  wrote_kept (Err _) result did = subst (IsConfined d.size d.honest d.trail (OrMark flag n) old) (sym did.1)
      (widened d.size d.honest d.trail (its_mark flag n) run)

  pub wrote_cause : (opened result : Result (Unit {0}) E) → WritesOpened d opened n bytes result mid new
      → CountsFault opened (d.failures old) (d.failures mid) → CountsFault result (d.failures old) (d.failures new)
  wrote_cause (Ok _) (Ok _) did calm = did.cause ∙ calm
  wrote_cause (Ok _) (Err _) did calm = let rose = did.cause in omega (arith, rose, calm)
  wrote_cause (Err _) (Ok _) did rose = absurd (let wrong = did.0 in cc)
  wrote_cause (Err _) (Err _) did rose = subst (λ x. d.failures old < d.failures x) (sym did.1) rose

  pub wrote_there : (opened result : Result (Unit {0}) E) → WritesOpened d opened n bytes result mid new
      → OnOk result (d.honest old → HasWritten flag n bytes (now (d.trail old)) (now (d.trail new)))
  wrote_there (Ok _) (Ok _) did = λ h k low. ap (λ m. m.reads k) (did.wrote (run.still h))
      ∙ ap (λ r. if k == n then bytes else r)
      (still_reads (d.trail old) (d.trail mid) (run.moments h) k (λ is. omega (arith, low, is)))
  wrote_there opened (Err _) did = tt
  wrote_there (Err _) (Ok _) did = absurd (let wrong = did.0 in cc)

  pub wrote_opened : (opened result : Result (Unit {0}) E) → WritesOpened d opened n bytes result mid new
      → OnOk opened (closed' ≡ false) → Opens d flag closed closed' old new
  wrote_opened (Ok _) result did gone = opens_on d flag opens
      (opens_written d flag closed' gone mid new (λ is. omega (arith, small, is)) did.kept)
  wrote_opened (Err _) result did gone = subst (Opens d flag closed closed' old) (sym did.1) opens

flag_only : (l : Left) (flag k : ℕ) → OrFlag l flag Nowhere k → k ≡ flag
flag_only Both flag k (inl none) = absurd none
flag_only Both flag k (inr is) = is
flag_only First flag k none = absurd none
flag_only Second flag k none = absurd none

module _ {A B : Type 0} (a : Ghosts A) (b : Ghosts B) (flag : ℕ) where
  -- a read and a sync of legs
  pub calls_opened : {E : Type 0} (closed : Closed) (result : Result (Unit {0}) E) (old new : Legs A B)
      → Calls a b flag Nowhere result old new → LegsOpened a b flag closed closed old new
  calls_opened closed result old new calls =
      let out : (k : ℕ) → k < flag → ¬ OrFlag old.left flag Nowhere k =
      λ k small at. let is = flag_only old.left flag k at in omega (arith, small, is) in
      let out' : ¬ OrFlag old.left flag Nowhere (flag + 1) =
      λ at. let is = flag_only old.left flag (flag + 1) at in omega (arith, is) in
      record {
        first = opens_still a flag closed.first old.first new.first out out' calls.first;
        second = opens_still b flag closed.second old.second new.second out out' calls.second;
      }

  -- the same legs under other names
  pub opened_as : {closed closed' : Closed} {old : Legs A B} (mid new : Legs A B) → new.first ≡ mid.first
      → new.second ≡ mid.second → LegsOpened a b flag closed closed' old mid → LegsOpened a b flag closed closed' old new
  opened_as {closed} {closed'} {old} mid new is is' opened = record {
    first = subst (Opens a flag closed.first closed'.first old.first) (sym is) opened.first;
    second = subst (Opens b flag closed.second closed'.second old.second) (sym is') opened.second;
  }

  pub opened_from : {closed closed' : Closed} {new : Legs A B} (mark : Option ℕ) (old legs : Legs A B) → legs ≡ with_mark mark old
      → LegsOpened a b flag closed closed' legs new → LegsOpened a b flag closed closed' old new
  opened_from {closed} {closed'} {new} mark old legs is opened =
      let same = subst (λ l. LegsOpened a b flag closed closed' l new) is opened in
      record { first = same.first; second = same.second }

  module _ (closed closed' : Closed) (old mid : Legs A B) (first : Opens a flag closed.first closed'.first old.first mid.first)
      (second : Opens b flag closed.second closed'.second old.second mid.second) where
    abbrev Goes : Legs A B → Type 0
    Goes new = LegsOpened a b flag closed closed' old new

    both : Goes mid
    both = record { first = first; second = second }

    -- what two legs together did
    pub joined_opened : {E : Type 0} (r1 r2 result : Result (Unit {0}) E) (new : Legs A B)
        → Joins a b flag r1 r2 result mid new → Goes new
    joined_opened (Ok _) (Ok _) result new is = subst Goes (sym is.1) both
    joined_opened (Ok _) (Err _) result new is = record {
      first = opens_on a flag first (opens_still a flag closed'.first mid.first new.first
          (λ k small at. omega (arith, small, at)) (λ at. omega (arith, at)) is.kept);
      second = subst (Opens b flag closed.second closed'.second old.second) (sym is.rests) second;
    }
    joined_opened (Err _) (Ok _) result new is = record {
      first = subst (Opens a flag closed.first closed'.first old.first) (sym is.rests) first;
      second = opens_on b flag second (opens_still b flag closed'.second mid.second new.second
          (λ k small at. omega (arith, small, at)) (λ at. omega (arith, at)) is.kept);
    }
    joined_opened (Err _) (Err _) result new is = subst Goes (sym is.1) both

  -- legs that hold the same do so as long as both may say *closed*
  module _ (closed closed' : Closed) (old new : Legs A B) (opened : LegsOpened a b flag closed closed' old new)
      (back : a.honest new.first → a.honest old.first) (back' : b.honest new.second → b.honest old.second)
      (first : a.honest old.first → closed.first ≡ false → IsOpen (flag + 1) (now (a.trail old.first)))
      (second : b.honest old.second → closed.second ≡ false → IsOpen (flag + 1) (now (b.trail old.second))) where
    pub stays_held : (closed.first ≡ true → closed.second ≡ true → HoldSame a b flag old.first old.second)
        → closed'.first ≡ true → closed'.second ≡ true → HoldSame a b flag new.first new.second
    stays_held held is is' = record {
      same = λ h h' k small.
          let one = (opened.first (back h) (first (back h))).last is in
          let other = (opened.second (back' h') (second (back' h'))).last is' in
          one.1.reads k small ∙ (held one.0 other.0).same (back h) (back' h') k small ∙ sym (other.1.reads k small);
      settled = λ h h' k small.
          let one = (opened.first (back h) (first (back h))).last is in
          let other = (opened.second (back' h') (second (back' h'))).last is' in
          let was = (held one.0 other.0).settled (back h) (back' h') k small in
          (one.1.settled k small was.0, other.1.settled k small was.1);
    }

-- what a write touches is no flag
pub no_flag_written : (flag n : ℕ) → n < flag → ¬ OrMark flag n flag
no_flag_written flag n low (inl is) = omega (arith, low, is)
no_flag_written flag n low (inr is) = omega (arith, is)
