-- How far a past reaches.
use Rattle.std.proofs.Common.{◌≡◌, ◌∙◌, ◌+◌, ◌-◌, ℕ, List, [], ◌∷◌, ◌++◌, length, drop, refl, sym, ap, subst, arith}
use Rattle.std.proofs.Common.{length-append, Some, None}
use Rattle.std.specs.Prelude.{Option, IfSome}
use Rattle.sector_disk.specs.declared.disk.Disk.{Ghosts}
use Rattle.sector_disk.specs.Trail.{Content, now}
use Rattle.event_bytes.specs.declared.event.Event.{Event}
use Rattle.store_layout.specs.Meaning.{Standing}
use Rattle.store_layout.specs.declared.head.PastEnd.{PastEnd}
use Rattle.store_slots.specs.Beside.{IsHistory, alone, behind}
use Rattle.desk_journal.specs.View.{StoreView}
use Rattle.desk_past.specs.Past.{HasPages, end_of_pages, all_deeds, first_page}
use Rattle.desk_past.specs.Turning.{PastOf}
use Rattle.past_moments.specs.Moments.{IsExtentIn}
use Rattle.past_moments.specs.declared.extent.Extent.{Extent}

-- ---- the journal in use

drop_front : (a b : List Event) → drop (length a) (a ++ b) ≡ b
drop_front [] b = refl
drop_front (x ∷ a) b = drop_front a b

-- what leads to the present ends with it
pub journal_is : {c : Content} {s : Standing} {events : List Event} (n : ℕ) → IsHistory c s events → length s.events ≡ n
    → drop (length events - n) events ≡ s.events
journal_is {s = s} {events = events} n (alone none is) long =
    let short : length events - n ≡ 0 = (let same = ap length is in omega (arith, same, long)) in
    (λ i. drop (short i) events) ∙ is
journal_is {s = s} {events = events} n (behind t came is) long =
    let many : length events - n ≡ length t.events = (let same = ap length is in
    let both = length-append t.events s.events in omega (arith, same, both, long)) in
    (λ i. drop (many i) (is i)) ∙ drop_front t.events s.events

-- what follows from five clauses of what may be there
pub all_of : {X : Type 0} (found : Option X) {a b c e f : X → Type 0} (g : X → Type 0)
    → IfSome found a → IfSome found b → IfSome found c → IfSome found e → IfSome found f
    → ((x : X) → a x → b x → c x → e x → f x → g x) → IfSome found g
all_of None g a b c e f so = tt
all_of (Some x) g a b c e f so = so x a b c e f

-- ---- how far a past reaches

module _ {D : Type 0} (d : Ghosts D) {store : StoreView D} (past : PastOf d store) where
  pub extent_is : (extent : Extent) (told : PastEnd) (base count : ℕ) → told ≡ past.keeps.remembers.standing.past
      → extent.base ≡ base → base ≡ past.start.base → count ≡ length (all_deeds past.keeps.remembers.pages)
      → extent.end ≡ told.next → extent.first + count ≡ told.before → extent.before ≡ told.before
      → extent.last ≡ told.before + length extent.journal.items
      → extent.journal.items ≡ past.keeps.remembers.standing.events → IsExtentIn d past extent
  extent_is extent told base count is at base_is many end first before last journal =
      let told_before = ap (λ (x : PastEnd). x.before) is in
      record {
        base = at ∙ base_is;
        first = let all = past.keeps.remembers.past.counted in omega (arith, first, many, told_before, all);
        end = end ∙ ap (λ (x : PastEnd). x.next) is;
        before = before ∙ told_before;
        journal = journal;
        last = last ∙ (λ i. told_before i + length (journal i));
      }

  -- the pages as they are read later
  pub pages_then : (c : Content) (first end : ℕ) → c ≡ (now (d.trail store.disk)).reads → first ≡ first_page past.start
      → end ≡ past.keeps.remembers.standing.past.next
      → HasPages c first past.keeps.remembers.pages × (end_of_pages first past.keeps.remembers.pages ≡ end)
  pages_then c first end reads at ends = (
    subst (λ n. HasPages c n past.keeps.remembers.pages) (sym at)
        (subst (λ r. HasPages r (first_page past.start) past.keeps.remembers.pages) (sym reads)
        past.keeps.remembers.past.written.1),
    ap (λ n. end_of_pages n past.keeps.remembers.pages) at ∙ past.keeps.remembers.past.up_to ∙ sym ends,
  )
