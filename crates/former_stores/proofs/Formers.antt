-- The part before a start, and the past that a store keeps which was laid of both. `e` is what is known of its disk.
use Rattle.std.proofs.Common.{◌≡◌, ◌+◌, ◌<◌, ◌≤◌, ◌-◌, ◌∙◌, ℕ, Bool, List, ap, arith, refl, subst, sym}
use Rattle.std.specs.Prelude.{if◌then◌else◌}
use Rattle.std.proofs.lemmas.Bool.{lt-ltb, le-ltb}
use Rattle.sector_disk.specs.declared.disk.Disk.{Ghosts}
use Rattle.sector_disk.specs.Trail.{Content, now}
use Rattle.desktop_definitions.specs.Desktop.{Desktop}
use Rattle.store_layout.specs.declared.layout.TheConstants.{STORE_SECTORS}
use Rattle.store_layout.specs.Finding.{StandingLaw}
use Rattle.store_layout.specs.Meaning.{Standing}
use Rattle.desk_journal.proofs.Aside.{stands_behind}
use Rattle.desk_journal.specs.View.{StoreView}
use Rattle.past_pages.specs.Parts.{GoesOnIn, IsPastPart}
use Rattle.past_pages.specs.Laying.{StandsFrom}
use Rattle.past_pages.proofs.StillReads.{resized}
use Rattle.desk_past.specs.Beginning.{copied_back}
use Rattle.desk_past.specs.Deeds.{PastDeed}
use Rattle.desk_past.specs.Past.{KeepsAll, Start, first_page}
use Rattle.desk_past.specs.Reading.{ShowsNow}
use Rattle.desk_past.specs.Writing.{HasFormerPast}
use Rattle.desk_past.proofs.Apart.{one_part, part_as_large, part_far}
use Rattle.desk_past.proofs.Carrying.{end_above, written_stays}
use Rattle.desk_past.proofs.Former.{former_pages, former_start}
use Rattle.desk_past.proofs.Remembering.{remembers_on}
use Rattle.former_stores.specs.declared.former.Stretch.{Stretch}
use Rattle.former_stores.specs.declared.former.Told.{Told}
use Rattle.former_stores.specs.Former.{AreSectorsBefore, HasPartBefore, IsFormer, IsFormerStore, KeepsWhole, SaysOfStart}
use Rattle.former_stores.specs.Laying.{IsLaid}

-- ---- what is copied back

back_low : (base n : ℕ) (c : Content) → n < STORE_SECTORS → copied_back base c n ≡ c (base + n)
back_low base n c low = ap (λ (b : Bool). if b then c (base + n) else c n) (lt-ltb n STORE_SECTORS low)

back_high : (base n : ℕ) (c : Content) → STORE_SECTORS ≤ n → copied_back base c n ≡ c n
back_high base n c high = ap (λ (b : Bool). if b then c (base + n) else c n) (le-ltb n STORE_SECTORS high)

-- ---- the part that is found

-- the part that a start tells of, and whose own start is older
pub part_found : {size size' base : ℕ} {c : Content} (told first : Told) (from end : ℕ) → size' ≡ size
    → base + STORE_SECTORS ≤ size → SaysOfStart c base told → IsPastPart size' from end → GoesOnIn from end told.next
    → SaysOfStart c from first → first.epoch < told.epoch → (has : HasPartBefore size base c)
    × AreSectorsBefore has (record { from = from; count = told.next - from })
part_found {size = size} {size' = size'} told first from end large room says part goes begins less = (
  record {
    room = room;
    standing = says.standing;
    stands = says.stands;
    from = from;
    end = end;
    part = part_as_large size' size from end large part;
    goes_on = (let next = says.next in omega (arith, goes.0, next), let next = says.next in omega (arith, goes.1, next));
    first = begins.standing;
    begins = begins.stands;
    older = let number = says.epoch in let other = begins.epoch in omega (arith, less, number, other);
  },
  (refl, let next = says.next in omega (arith, goes.0, next)),
)

module _ (law : StandingLaw) where
  -- what a start says of itself is what it shows
  pub says_of : (c : Content) (base : ℕ) (told : Told) → SaysOfStart c base told → (t : Standing) → StandsFrom c base t
      → (told.epoch ≡ t.epoch) × (told.next ≡ t.past.next)
  says_of c base told says t at =
      let same = law STORE_SECTORS (λ n. c (base + n)) says.standing t says.stands at in (
        says.epoch ∙ ap (λ (s : Standing). s.epoch) same,
        says.next ∙ ap (λ (s : Standing). s.past.next) same,
      )

  -- its pages go on in the part before
  pub goes_there : {size : ℕ} (size' : ℕ) {base : ℕ} {c : Content} (told : Told) → size' ≡ size → SaysOfStart c base told
      → (has : HasPartBefore size base c) → IsPastPart size' has.from has.end
      × (has.from + STORE_SECTORS ≤ told.next) × (told.next ≤ has.end)
  goes_there {size = size} size' {base = base} {c = c} told large says has =
      let same = (says_of c base told says has.standing has.stands).1 in
      let goes = has.goes_on in (
        part_as_large size size' has.from has.end (sym large) has.part,
        omega (arith, goes.0, same),
        omega (arith, goes.1, same),
      )

  -- whose start is older
  pub not_older : {size base : ℕ} {c : Content} (told first : Told) (from : ℕ) → SaysOfStart c base told
      → (has : HasPartBefore size base c) → from ≡ has.from → SaysOfStart c from first → told.epoch ≤ first.epoch → ⊥
  not_older {base = base} {c = c} told first from says has is begins high =
      let number = (says_of c base told says has.standing has.stands).0 in
      let other = (says_of c from first begins has.first (subst (λ n. StandsFrom c n has.first) (sym is) has.begins)).0 in
      let older = has.older in
      omega (arith, number, other, older, high)

  -- the store that was laid of both
  pub laid_former : {E : Type 0} (e : Ghosts E) {size base : ℕ} {c : Content} {stretch : Stretch} (large : ℕ)
      (store : StoreView E) → large ≡ size → (has : HasPartBefore size base c) → AreSectorsBefore has stretch
      → IsLaid e c base stretch.from stretch.count large store → IsFormerStore e size base c store
  laid_former e {base = base} {c = c} large store is has are laid = record {
    has = has;
    shows = subst (λ (t : Standing). ShowsNow e t store)
        (law STORE_SECTORS (λ n. c (base + n)) laid.standing has.standing laid.stands has.stands) laid.shows;
    large = laid.size ∙ is;
    pages = λ n low high. laid.pages n (omega (arith, low, are.0), omega (arith, high, are.1));
  }

  -- ---- the past that it keeps

  -- its start stands where it stood
  first_start : {size base : ℕ} {start : Start} {deeds : List PastDeed} {desktop : Desktop} {c : Content}
      (has : HasFormerPast size base start deeds desktop c)
      → StandsFrom c start.base has.remembers.past.written.0.standing
  first_start {size = size} {base = base} {start = start} {c = c} has =
      let far = part_far size start.base has.end has.part in
      let first = has.remembers.past.written.0 in
      stands_behind (λ n. copied_back base c (start.base + n)) (λ n. c (start.base + n)) first.standing first.stands
      (λ n low. sym (back_high base (start.base + n) c (omega (arith, far))))

  -- the pages of a former past go on in its part
  goes_on : {size base : ℕ} {start : Start} {deeds : List PastDeed} {desktop : Desktop} {c : Content}
      (has : HasFormerPast size base start deeds desktop c) → GoesOnIn start.base has.end has.remembers.standing.past.next
  goes_on {start = start} has =
      let r = has.remembers in
      let far = end_above r.pages (first_page start) in
      let up_to = r.past.up_to in
      (omega (arith, far, up_to), has.within)

  -- a former past lies in the part before
  pub former_part : {size base : ℕ} {start : Start} {deeds : List PastDeed} {desktop : Desktop} {c : Content}
      → IsFormer size base start deeds desktop c → HasPartBefore size base c
  former_part {start = start} is = record {
    room = is.has.room;
    standing = is.has.remembers.standing;
    stands = former_start is.has;
    from = start.base;
    end = is.has.end;
    part = is.has.part;
    goes_on = goes_on is.has;
    first = is.has.remembers.past.written.0.standing;
    begins = first_start is.has;
    older = is.older;
  }

  module _ {E : Type 0} (e : Ghosts E) {size base : ℕ} {start : Start} {deeds : List PastDeed} {desktop : Desktop}
      (c : Content) (store : StoreView E) (there : IsFormerStore e size base c store) where
    -- and the store that was found keeps it
    pub former_kept : IsFormer size base start deeds desktop c → KeepsWhole e start deeds desktop store
    former_kept is =
        let r = is.has.remembers in
        let has = there.has in
        let same : has.standing ≡ r.standing =
        law STORE_SECTORS (λ n. c (base + n)) has.standing r.standing has.stands (former_start is.has) in
        let shown = subst (λ (t : Standing). ShowsNow e t store) same there.shows in
        let next : has.standing.past.next ≡ r.standing.past.next = ap (λ (s : Standing). s.past.next) same in
        let goes = has.goes_on in
        let from : start.base ≡ has.from = one_part size r.standing.past.next start.base is.has.end has.from has.end
        is.has.part has.part (goes_on is.has) (omega (arith, goes.0, next), omega (arith, goes.1, next)) in
        let up_to = r.past.up_to in
        let keeps : KeepsAll e start deeds desktop store = record {
          usable = shown.usable;
          behind = part_far size start.base is.has.end is.has.part;
          remembers = remembers_on r there.large shown.shows
              (written_stays r.pages c (now (e.trail store.disk)).reads start
              (λ n low high. there.pages n (omega (arith, low, from)) (omega (arith, high, up_to, next)))
              (former_pages is.has));
        } in (
          keeps,
          record {
            end = is.has.end;
            part = part_as_large size (e.size store.disk) start.base is.has.end (sym there.large) is.has.part;
            within = is.has.within;
          },
        )

    -- it keeps no other past
    pub kept_former : KeepsWhole e start deeds desktop store → IsFormer size base start deeds desktop c
    kept_former (keeps, lies) =
        let r = keeps.remembers in
        let has = there.has in
        let reads = (now (e.trail store.disk)).reads in
        let same : r.standing ≡ has.standing =
        law (e.size store.disk) reads r.standing has.standing r.past.stands there.shows.shows in
        let next : r.standing.past.next ≡ has.standing.past.next = ap (λ (s : Standing). s.past.next) same in
        let part : IsPastPart size start.base lies.end =
        part_as_large (e.size store.disk) size start.base lies.end there.large lies.part in
        let far = end_above r.pages (first_page start) in
        let up_to = r.past.up_to in
        let goes = has.goes_on in
        let room = has.room in
        let older = has.older in
        let from : start.base ≡ has.from = one_part size r.standing.past.next start.base lies.end has.from has.end
        part has.part (omega (arith, far, up_to), lies.within) (omega (arith, goes.0, next), omega (arith, goes.1, next)) in
        let behind = part_far size start.base lies.end part in
        let was : HasFormerPast size base start deeds desktop c = record {
          remembers = remembers_on r (sym there.large)
              (resized size (copied_back base c) r.standing (omega (arith, room))
              (stands_behind (λ n. c (base + n)) (copied_back base c) r.standing
              (subst (λ (t : Standing). StandsFrom c base t) (sym same) has.stands) (λ n low. back_low base n c low)))
              (written_stays r.pages reads (copied_back base c) start
              (λ n low high. back_high base n c (omega (arith, low, behind))
              ∙ sym (there.pages n (omega (arith, low, from)) (omega (arith, high, up_to, next)))) r.past.written);
          end = lies.end;
          part = part;
          within = lies.within;
          other = λ here.
              let both = law STORE_SECTORS (λ n. c (base + n)) has.first has.standing
              (subst (λ n. StandsFrom c n has.first) (sym from ∙ here) has.begins) has.stands in
              let equal = ap (λ (s : Standing). s.epoch) both in
              omega (arith, equal, older);
          room = room;
        } in
        let first = law STORE_SECTORS (λ n. c (has.from + n)) was.remembers.past.written.0.standing has.first
        (subst (λ n. StandsFrom c n was.remembers.past.written.0.standing) from (first_start was)) has.begins in
        let whole = law STORE_SECTORS (λ n. c (base + n)) was.remembers.standing has.standing (former_start was) has.stands in
        let number = ap (λ (s : Standing). s.epoch) first in
        let number' = ap (λ (s : Standing). s.epoch) whole in
        record { has = was; older = omega (arith, number, number', older) }
