-- The former past stays where only sectors ahead are written. `d` is what is known of a disk.
use Rattle.std.proofs.Common.{◌≡◌, ◌⊎◌, inl, inr, ◌+◌, ◌<◌, ◌≤◌, ℕ, List, refl, sym, ◌∙◌, ap, subst, arith, false}
use Rattle.std.specs.Prelude.{Bool, Err, IfErr, Ok, Result, if◌then◌else◌}
use Rattle.std.proofs.lemmas.Bool.{cases_lt, lt-ltb, le-ltb}
use Rattle.sector_disk.specs.declared.disk.Disk.{Ghosts}
use Rattle.sector_disk.specs.Faults.{FailsAs}
use Rattle.sector_disk.specs.Trail.{Content, now}
use Rattle.sector_disk.proofs.Touching.{weakened}
use Rattle.desktop_definitions.specs.Desktop.{Desktop}
use Rattle.store_layout.specs.declared.layout.TheConstants.{STORE_SECTORS}
use Rattle.store_layout.specs.Filling.{InRange}
use Rattle.store_layout.specs.Meaning.{Standing}
use Rattle.store_slots.specs.declared.error.Error.{Error}
use Rattle.store_slots.specs.declared.error.Error.TheVariants.{Fault}
use Rattle.desk_journal.proofs.Aside.{stands_behind}
use Rattle.desk_journal.specs.Looking.{OnlyLooks}
use Rattle.desk_journal.specs.View.{StoreView}
use Rattle.past_pages.specs.Parts.{IsPastPart}
use Rattle.past_pages.specs.Laying.{StandsFrom}
use Rattle.past_pages.specs.Reading.{IsQuiet}
use Rattle.past_pages.specs.declared.parts.TheConstants.{PART_SECTORS}
use Rattle.past_pages.proofs.StillReads.{resized}
use Rattle.desk_past.specs.Beginning.{RemembersFormer, copied_back}
use Rattle.desk_past.specs.Chain.{SpanStaysLaw}
use Rattle.desk_past.specs.Deeds.{PastDeed}
use Rattle.desk_past.specs.Going.{IsOldest}
use Rattle.desk_past.specs.Past.{HoldsPages, Remembers, Start}
use Rattle.desk_past.specs.Reading.{ShowsNow}
use Rattle.desk_past.specs.Writing.{FormerStaysLaw, HasFormerPast, LiesAhead}
use Rattle.desk_past.proofs.Apart.{one_part, part_far, parts_apart}
use Rattle.desk_past.proofs.Carrying.{written_stays}
use Rattle.desk_past.proofs.InMemory.{error_calm, fails_none}
use Rattle.desk_past.proofs.Remembering.{remembers_on}
use Rattle.desk_past.proofs.Rooms.{behind_start}
use Rattle.desk_past.proofs.Sparing.{read_shows}

-- ---- what is copied back

back_low : (base n : ℕ) (c : Content) → n < STORE_SECTORS → copied_back base c n ≡ c (base + n)
back_low base n c low = ap (λ (b : Bool). if b then c (base + n) else c n) (lt-ltb n STORE_SECTORS low)

back_high : (base n : ℕ) (c : Content) → STORE_SECTORS ≤ n → copied_back base c n ≡ c n
back_high base n c high = ap (λ (b : Bool). if b then c (base + n) else c n) (le-ltb n STORE_SECTORS high)

-- a call within the store leaves it
pub former_within : {size base : ℕ} {start : Start} {deeds : List PastDeed} {desktop : Desktop} (c c' : Content)
    → STORE_SECTORS ≤ base → ((n : ℕ) → STORE_SECTORS ≤ n → c' n ≡ c n) → RemembersFormer size base start deeds desktop
    c
    → RemembersFormer size base start deeds desktop c'
former_within {size = size} {base = base} {start = start} {deeds = deeds} {desktop = desktop} c c' behind same r =
    let back : (n : ℕ) → copied_back base c n ≡ copied_back base c' n = λ n. elim (cases_lt n STORE_SECTORS) [
      | inl low ↦ back_low base n c low ∙ sym (same (base + n) (omega (arith, behind))) ∙ sym (back_low base n c' low)
      | inr high ↦ back_high base n c high ∙ sym (same n high) ∙ sym (back_high base n c' high)
    ] in
    subst (Remembers size start deeds desktop) (λ i n. back n i) r

-- the former past rests on the sectors of the start behind it, and on its own
abbrev former_on : {size base : ℕ} {start : Start} {deeds : List PastDeed} {desktop : Desktop} {c c' : Content}
    (r : RemembersFormer size base start deeds desktop c) → STORE_SECTORS ≤ start.base
    → ((n : ℕ) → InRange base STORE_SECTORS n → c' n ≡ c n)
    → ((n : ℕ) → start.base ≤ n → n < r.standing.past.next → c' n ≡ c n)
    → RemembersFormer size base start deeds desktop c'
former_on {base = base} {start = start} {c = c} {c' = c'} r far here there = remembers_on r refl
    (stands_behind (copied_back base c) (copied_back base c') r.standing r.past.stands
    (λ n low. back_low base n c' low ∙ here (base + n) (omega arith, omega (arith, low)) ∙ sym (back_low base n c low)))
    (written_stays r.pages (copied_back base c) (copied_back base c') start
    (λ n low high. back_high base n c' (omega (arith, low, far))
    ∙ there n low (omega (arith, high, r.past.up_to))
    ∙ sym (back_high base n c (omega (arith, low, far)))) r.past.written)

-- ---- parts

-- what lies ahead in the one part lies in no other one
apart_part : (size base end base' end' next n : ℕ) → IsPastPart size base end → base + STORE_SECTORS ≤ next → next ≤ end
    → IsPastPart size base' end' → ¬ (base' ≡ base) → base' ≤ n → n < end' → LiesAhead size next n → ⊥
apart_part size base end base' end' next n own low high other apart within below ahead =
    let at = ahead.at in
    let here = one_part size next at.base at.end base end at.part own (at.low, at.high) (low, high) in
    elim (parts_apart size base' end' at.base at.end other at.part) [
      | inl same ↦ apart (omega (arith, same, here))
      | inr beside ↦ let up = ahead.ahead in elim beside [
        | inl low' ↦ let first = at.low in omega (arith, low', below, up.0, first)
        | inr high' ↦ omega (arith, high', within, up.1)
      ]
    ]

-- ---- calls

pub former_stays : {D : Type 0} (d : Ghosts D) → FormerStaysLaw d
former_stays d start former deeds were desktop was old new honest keeps lies only has =
    let far = behind_start d keeps in
    let behind = keeps.behind in
    weakened ((only.spared keeps.remembers.standing keeps.remembers.past.stands).moments keeps.usable honest)
    (λ c same. record {
      remembers = former_on has.remembers (part_far (d.size old.disk) former.base has.end has.part)
          (λ n within. same n (λ either. elim either [
            | inl low ↦ omega (arith, low, within.0, behind)
            | inr ahead ↦ let up = ahead.ahead.0 in omega (arith, up, within.1, far)
          ]))
          (λ n low high. same n (λ either. elim either [
            | inl below ↦ let base = part_far (d.size old.disk) former.base has.end has.part in
                omega (arith, below, low, base)
            | inr ahead ↦ apart_part (d.size old.disk) start.base lies.end former.base has.end
                keeps.remembers.standing.past.next n lies.part far lies.within has.part has.other low
                (let within = has.within in omega (arith, high, within)) ahead
          ]));
      end = has.end;
      part = has.part;
      within = has.within;
      other = has.other;
      room = has.room;
    })

-- a span of another part stays over what is written ahead, and in a start of the oldest one
pub span_stays : {D : Type 0} (d : Ghosts D) → SpanStaysLaw d
span_stays d start deeds desktop old new honest keeps lies only told span is apart young =
    let far = behind_start d keeps in
    let reads = (now (d.trail old.disk)).reads in
    let next = keeps.remembers.standing.past.next in
    weakened ((only.spared keeps.remembers.standing keeps.remembers.past.stands).moments keeps.usable honest)
    (λ c same. record {
      end = is.end;
      part = is.part;
      within = is.within;
      holds = record {
        written = written_stays span.1 reads c span.0
            (λ n low high. same n (λ either. elim either [
              | inl below ↦ let base = part_far (d.size old.disk) span.0.base is.end is.part in
                  omega (arith, below, low, base)
              | inr there ↦
                  let up_to = is.holds.up_to in
                  let within = is.within in
                  let inside : n < is.end = omega (arith, high, up_to, within) in
                  elim there [
                    | inl ahead ↦ apart_part (d.size old.disk) start.base lies.end span.0.base is.end next n lies.part
                        far
                        lies.within is.part apart low inside ahead
                    | inr first ↦
                        let begun = first.within in
                        elim (parts_apart (d.size old.disk) span.0.base is.end first.base (first.base + PART_SECTORS)
                        is.part
                        first.oldest.there.part) [
                          | inl here ↦ young (subst (λ b. IsOldest (d.size old.disk) next b reads) (sym here)
                              first.oldest)
                          | inr beside ↦ elim beside [
                            | inl below ↦ omega (arith, below, inside, begun.0)
                            | inr above ↦ omega (arith, above, low, begun.1)
                          ]
                        ]
                  ]
            ])) is.holds.written;
        good = is.holds.good;
        turns = is.holds.turns;
        up_to = is.holds.up_to;
        room = is.holds.room;
        counted = is.holds.counted;
      };
    })

-- ---- reads

module _ {size base : ℕ} {start : Start} {deeds : List PastDeed} {desktop : Desktop} {c : Content}
    (has : HasFormerPast size base start deeds desktop c) where
  -- the start behind the former past shows what that led to
  pub former_start : StandsFrom c base has.remembers.standing
  former_start = resized STORE_SECTORS (λ n. c (base + n)) has.remembers.standing (omega arith)
      (stands_behind (copied_back base c) (λ n. c (base + n)) has.remembers.standing has.remembers.past.stands
      (λ n low. sym (back_low base n c low)))

  -- and its own start and pages stand where they stood
  pub former_pages : HoldsPages c start has.remembers.pages
  former_pages = let far = part_far size start.base has.end has.part in
      written_stays has.remembers.pages (copied_back base c) c start
      (λ n low high. sym (back_high base n c (omega (arith, low, far)))) has.remembers.past.written

-- what a store shows it shows behind a look
pub looked_shows : {E T : Type 0} (e : Ghosts E) {old new : StoreView E} (result : Result T Error)
    → OnlyLooks e result old new
    → (old.must_reopen ≡ false → e.honest old.disk → IsQuiet e old) → (t : Standing) → ShowsNow e t old
    → ShowsNow e t new
looked_shows e {old = old} {new = new} result looks quiet t was = record {
  usable = looks.usable ∙ was.usable;
  honest = looks.disk.device.still was.honest;
  shows = read_shows e old new looks.disk (quiet was.usable was.honest) was.honest t was.shows;
  desktop = looks.desktop was.honest ∙ was.desktop;
}

-- an answer of a call by which no failure was counted
pub calm_on : {T : Type 0} (answer : Result T Error) {P Q : Error → Type 0} {old new : ℕ} → IfErr answer P
    → ((x : Error) → P x → Q x) → ((x : Error) → P x → x ≡ Fault → ⊥) → new ≡ old → FailsAs Fault Q answer old new
calm_on (Ok x) errors wider never same = fails_none same
calm_on (Err e) {P = P} errors wider never same = error_calm {P = P} errors wider never same refl
