-- Sectors that were copied to another disk, and the store that is opened there. `e` is what is known of that disk.
use Rattle.std.proofs.Common.{◌≡◌, ◌⊎◌, inl, inr, ◌+◌, ◌<◌, ◌≤◌, ◌-◌, ◌∙◌, ℕ, Result, Ok, Err, ap, arith, sym}
use Rattle.std.specs.declared.option.Option.{Option}
use Rattle.std.specs.Prelude.{None, Some, IfNone, IfOk, IfSome, IsSomeAnd, MatchOption}
use Rattle.sector_disk.specs.declared.disk.Disk.{Ghosts}
use Rattle.sector_disk.proofs.Touching.{still_all}
use Rattle.sector_disk.specs.Confined.{IsConfined}
use Rattle.sector_disk.specs.Trail.{Content, Nowhere, now}
use Rattle.store_layout.specs.declared.layout.TheConstants.{STORE_SECTORS}
use Rattle.store_layout.specs.Filling.{InRange}
use Rattle.store_layout.specs.Finding.{FindingLaw, IsDamagedAt, IsForeign, StandingLaw}
use Rattle.store_layout.specs.Meaning.{Standing, Stands}
use Rattle.store_slots.proofs.TakingBack.{stops_there}
use Rattle.store_slots.specs.declared.error.Error.{Error}
use Rattle.store_slots.specs.declared.error.Error.TheVariants.{Damaged, NotAStore}
use Rattle.store_slots.specs.Errors.{OfOpen}
use Rattle.desk_journal.proofs.Aside.{stands_behind}
use Rattle.desk_journal.specs.Opening.{IsOpened}
use Rattle.desk_journal.specs.View.{StoreView}
use Rattle.past_pages.specs.Laying.{StandsFrom}
use Rattle.past_pages.proofs.StillReads.{resized}
use Rattle.desk_past.proofs.Opened.{opened_shows}
use Rattle.former_stores.specs.Laying.{IsCopiedTo, IsLaid}

-- ---- what was found

-- what was found of disks satisfies what follows from its facts, where those are honest
pub found_under : {T E A B : Type 0} {P Q : T → Type 0} {N M : Type 0} (answer : Result (Option T) E)
    → IfOk answer (λ found. IfSome found P) → IfOk answer (λ found. IfNone found N) → ((x : T) → A → B → P x → Q x)
    → (A → B → N → M) → IfOk answer (λ found. A → B → MatchOption found M Q)
found_under (Ok (Some x)) is none f g = λ a b. f x a b is
found_under (Ok None) is none f g = λ a b. g a b none
found_under (Err e) is none f g = tt

-- the same of what is known of two disks that are honest
pub match_under : {T E A B C : Type 0} {P Q : T → Type 0} {N M : Type 0} (answer : Result (Option T) E)
    → IfOk answer (λ found. A → B → MatchOption found N P) → (C → A) → (C → B) → (C → N → M)
    → ((x : T) → C → P x → Q x) → IfOk answer (λ found. C → MatchOption found M Q)
match_under (Ok (Some x)) is a b none f = λ c. f x c (is (a c) (b c))
match_under (Ok None) is a b none f = λ c. none c (is (a c) (b c))
match_under (Err e) is a b none f = tt

-- something was found, where nothing would be absurd
pub some_where : {T N : Type 0} {P Q : T → Type 0} (found : Option T) → MatchOption found N P → (N → ⊥)
    → ((x : T) → P x → Q x) → IsSomeAnd found Q
some_where (Some x) is none f = f x is
some_where None is none f = absurd (none is)

-- and what was found satisfies that
pub if_some_where : {T A : Type 0} (N : Type 0) {P Q : T → Type 0} (found : Option T) → (A → MatchOption found N P)
    → ((x : T) → (A → P x) → Q x) → IfSome found Q
if_some_where N (Some x) is f = f x is
if_some_where N None is f = tt

pub both_some : {T E : Type 0} (P Q : T → Type 0) (answer : Result (Option T) E) → IfOk answer (λ found. IfSome found P)
    → IfOk answer (λ found. IfSome found Q) → IfOk answer (λ found. IfSome found (λ x. P x × Q x))
both_some P Q (Ok (Some x)) p q = (p, q)
both_some P Q (Ok None) p q = tt
both_some P Q (Err e) p q = tt

-- ---- a store that stands is found

-- no other error comes where one stands
pub stands_found : (size : ℕ) (c : Content) (t : Standing) (e : Error) → FindingLaw → Stands size c t → OfOpen e
    → (e ≡ NotAStore → IsForeign size c) → ((n : ℕ) → e ≡ Damaged n → IsDamagedAt size c n)
    → (e ≡ NotAStore) ⊎ ((n : ℕ) × (e ≡ Damaged n)) → ⊥
stands_found size c t e law at opening foreign damaged none =
    elim (stops_there size c t law at e opening foreign damaged) [
      | inl memory ↦ elim none [
        | inl is ↦ let wrong : ⊥ = cc (memory, is) in wrong
        | inr is ↦ let wrong : ⊥ = cc (memory, is.1) in wrong
      ]
      | inr fault ↦ elim none [
        | inl is ↦ let wrong : ⊥ = cc (fault, is) in wrong
        | inr is ↦ let wrong : ⊥ = cc (fault, is.1) in wrong
      ]
    ]

-- ---- what was laid

-- what was laid shows what stands there, and has the sectors that lie where they lay
pub laid_as : {E : Type 0} (e : Ghosts E) (law : StandingLaw) (c second : Content) (base from count : ℕ) (disk : E)
    (store : StoreView E) → STORE_SECTORS ≤ from → STORE_SECTORS ≤ e.size disk → e.honest disk
    → IsCopiedTo base 0 STORE_SECTORS c second → IsCopiedTo from from count c (now (e.trail disk)).reads
    → ((n : ℕ) → ¬ InRange from count n → (now (e.trail disk)).reads n ≡ second n)
    → IsOpened e disk store → IsConfined e.size e.honest e.trail Nowhere disk store.disk
    → IsLaid e c base from count (e.size disk) store
laid_as e law c second base from count disk store behind large honest start pages others opened run =
    let reads = (now (e.trail disk)).reads in
    let same : (n : ℕ) → n < STORE_SECTORS → reads n ≡ c (base + n) = λ n low.
    others n (λ within. omega (arith, within.0, low, behind)) ∙ ap second (omega arith) ∙ start n low in
    let found = opened.found honest in
    let stands : StandsFrom c base found.standing = resized STORE_SECTORS (λ n. c (base + n)) found.standing (omega arith)
    (stands_behind reads (λ n. c (base + n)) found.standing found.stands (λ n low. sym (same n low))) in
    record {
      standing = found.standing;
      stands = stands;
      shows = opened_shows e law (λ n. c (base + n)) found.standing stands large same honest opened run;
      pages = λ n within.
          let k : ℕ = n - from in
          let there : from + k ≡ n = omega (arith, within.0) in
          ap (λ r. r n) (still_all (e.trail disk) (e.trail store.disk) (run.moments honest))
          ∙ ap reads (sym there) ∙ pages k (omega (arith, within.0, within.1)) ∙ ap c there;
      size = run.as_large;
    }
