-- What stands behind a store, and what is due of a past there. `d` is what is known of a disk.
use Rattle.std.proofs.Common.{◌≡◌, ◌≢◌, ◌⊎◌, inl, inr, ◌+◌, ◌<◌, ◌≤◌, ℕ, List, sym, ◌∙◌, ap, subst, arith, true, false, refl}
use Rattle.std.specs.Prelude.{Bool, max, if◌then◌else◌, Result, Ok, Err, IfOk}
use Rattle.std.proofs.lemmas.Bool.{false≢true}
use Rattle.sector_disk.specs.declared.disk.Disk.{Ghosts}
use Rattle.sector_disk.specs.Trail.{Content, now}
use Rattle.store_layout.specs.declared.layout.TheConstants.{LABEL, STORE_SECTORS}
use Rattle.store_layout.specs.Layout.{head_of, is_label, is_open, slot_gate, slot_head}
use Rattle.store_layout.specs.Meaning.{Standing}
use Rattle.desk_journal.specs.View.{StoreView}
use Rattle.past_pages.specs.declared.parts.TheConstants.{LEAST_ROOM}
use Rattle.past_pages.specs.Reading.{IsOnlyReadFrom, IsQuiet}
use Rattle.past_pages.proofs.StillReads.{still_reads, still_shows}
use Rattle.desk_past.specs.declared.going_on.Outset.{Outset}
use Rattle.desk_past.specs.declared.going_on.Outset.TheVariants.{Absent, GoesOn, Begins}
use Rattle.desk_past.specs.Beginning.{AreUncounted}
use Rattle.desk_past.specs.Going.{BeginsIn, BeginsNow, CanGoOn, IsDueOutset, IsInPart, IsOutsetIn, IsOutsetOf, IsStartedSomewhere, IsWanted, slot_epoch, start_epoch}

-- ---- epochs

pub slot_there : (c : Content) (base slot epoch : ℕ) (gate head : List ℕ) (opens : Bool)
    → gate ≡ c (base + slot_gate slot)
    → head ≡ c (base + slot_head slot) → opens ≡ is_open gate → epoch ≡ (if opens then (head_of head).epoch else 0)
    → epoch ≡ slot_epoch c base slot
slot_there c base slot epoch gate head opens gate_is head_is told is =
    is ∙ (λ i. if (told ∙ ap is_open gate_is) i then (head_of (head_is i)).epoch else 0)

pub start_there : (c : Content) (base epoch first second : ℕ) (label : List ℕ) (has : Bool) → label ≡ c (base + LABEL)
    → first ≡ slot_epoch c base 0 → second ≡ slot_epoch c base 1 → has ≡ is_label label
    → epoch ≡ (if has then max first second else 0) → epoch ≡ start_epoch c base
start_there c base epoch first second label has label_is first_is second_is told is =
    is ∙ (λ i. if (told ∙ ap is_label label_is) i then max (first_is i) (second_is i) else 0)

-- ---- parts

-- where the one part in which pages can go on is known, what can go on does so there
pub at_part : (size next base end epoch : ℕ) (c : Content) (can : CanGoOn size next c) → base ≡ can.at.base
    → end ≡ can.at.end
    → epoch ≡ start_epoch c base → (0 < epoch) × (next + LEAST_ROOM ≤ end)
at_part size next base end epoch c can same last is = (
  subst (λ n. 0 < n) (sym (is ∙ ap (start_epoch c) same)) can.start,
  subst (λ n. next + LEAST_ROOM ≤ n) (sym last) can.room,
)

-- ---- wants

module _ (asked : Bool) (size next : ℕ) (c : Content) where
  pub wanted_there : IsInPart size next → IsWanted asked size next c
  wanted_there there = inr (inr there)

  pub wanted_started : (asked ≡ true → ⊥) → (IsInPart size next → ⊥) → IsWanted asked size next c
      → IsStartedSomewhere size c
  wanted_started unasked nowhere (inl is) = absurd (unasked is)
  wanted_started unasked nowhere (inr (inl some)) = some
  wanted_started unasked nowhere (inr (inr there)) = absurd (nowhere there)

-- two facts of a value
pub both_weaker : {T E : Type 0} (answer : Result T E) {P Q R : T → Type 0} → IfOk answer P → IfOk answer Q
    → ((x : T) → P x → Q x → R x) → IfOk answer R
both_weaker (Ok x) p q f = f x p q
both_weaker (Err e) p q f = tt

-- ---- what is due

module _ {D : Type 0} (d : Ghosts D) where
  -- what holds of what stands behind a store holds where that was only read
  pub as_read : {old mid : StoreView D} (P : ℕ → ℕ → Content → Type 0) → IsOnlyReadFrom d old mid → IsQuiet d old
      → d.honest old.disk → (told next : ℕ) → told ≡ next → P (d.size mid.disk) told (now (d.trail mid.disk)).reads
      → P (d.size old.disk) next (now (d.trail old.disk)).reads
  as_read P still quiet honest told next is holds = subst (λ (x : ℕ × ℕ × Content). P x.0 x.1 x.2)
      (λ i. (still.left.disk.device.as_large i, is i, still_reads d still quiet honest i)) holds

  pub as_then : {old mid : StoreView D} (P : ℕ → ℕ → Content → Type 0) → IsOnlyReadFrom d old mid → IsQuiet d old
      → d.honest old.disk → (told next : ℕ) → told ≡ next → P (d.size old.disk) next (now (d.trail old.disk)).reads
      → P (d.size mid.disk) told (now (d.trail mid.disk)).reads
  as_then P still quiet honest told next is holds = subst (λ (x : ℕ × ℕ × Content). P x.0 x.1 x.2)
      (λ i. (sym still.left.disk.device.as_large i, sym is i, sym (still_reads d still quiet honest) i)) holds

  -- a store that was only read shows the same events
  pub uncounted_then : {old mid : StoreView D} → IsOnlyReadFrom d old mid → IsQuiet d old → d.honest old.disk
      → AreUncounted d mid → AreUncounted d old
  uncounted_then still quiet honest too_many s at = too_many s (still_shows d still quiet honest s at)

  pub due_begun : (asked : Bool) (old : StoreView D) (s : Standing) (outset : Outset)
      → (outset ≡ Absent → AreUncounted d old)
      → (outset ≡ GoesOn → ⊥) → IsDueOutset d asked old s Begins → IsDueOutset d asked old s outset
  due_begun asked old s Absent absent never due = λ parts wanted. absent refl
  due_begun asked old s GoesOn absent never due = absurd (never refl)
  due_begun asked old s Begins absent never due = due

  -- a past that has begun, where the store was only read before
  pub outset_then : {base : ℕ} (old mid new : StoreView D) (outset : Outset) → IsOutsetIn d base mid new outset
      → (BeginsIn d base mid new → BeginsNow d old new) → IsOutsetOf d old new outset
  outset_then old mid new Absent comes begins = tt
  outset_then old mid new GoesOn comes begins = absurd comes
  outset_then old mid new Begins comes begins = begins comes
