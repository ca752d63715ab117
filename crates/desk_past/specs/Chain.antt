-- A past over several parts: each one begins behind the one before it, which stands where it stood. `d` is what is
-- known of a disk.
use Rattle.std.specs.Prelude.{◌≡◌, ◌⊎◌, ◌+◌, ◌<◌, ◌≤◌, ℕ, List, [], ◌∷◌, nat_lt, true}
use Rattle.std.specs.Prelude.{if◌then◌else◌, length, IfSome, IsSomeAnd, Option, Some, None}
use Rattle.sector_disk.specs.Trail.{Content, LeavesOnly, now}
use Rattle.sector_disk.specs.declared.disk.Disk.{Ghosts}
use Rattle.desktop_definitions.specs.Desktop.{Desktop}
use Rattle.store_layout.specs.declared.head.PastEnd.{PastEnd}
use Rattle.store_layout.specs.declared.head.Head.{Head}
use Rattle.store_layout.specs.Layout.{head_of, is_open, slot_gate, slot_head}
use Rattle.store_layout.specs.Meaning.{Standing}
use Rattle.desk_journal.specs.View.{StoreView}
use Rattle.past_pages.specs.Page.{Page}
use Rattle.past_pages.specs.Parts.{IsPastPart}
use Rattle.desk_past.specs.Deeds.{PastDeed}
use Rattle.desk_past.specs.Going.{IsOldest, LiesInPart, start_epoch}
use Rattle.desk_past.specs.Past.{HasMoment, KeepsAll, Start, all_deeds, moment}
use Rattle.desk_past.specs.Reading.{HoldsTold, start_at}
use Rattle.desk_past.specs.Writing.{LiesAhead, LiesInOldest, WritesOnly}
use Rattle.desk_past.specs.declared.chain.Begun.{Begun}
use Rattle.desk_past.specs.declared.chain.Span.{Span}
use Rattle.desk_past.specs.declared.chain.TheConstants.{NO_EPOCH}

-- A span of a past: a start in a part, and the pages behind it, up to the sector of which is told.
pub record IsSpan (size : ℕ) (told : PastEnd) (span : Start × List Page) (c : Content)
    : Type 0 where
  pub end : ℕ
  pub part : IsPastPart size span.0.base end
  pub within : told.next ≤ end
  pub holds : HoldsTold size span.0 told span.1 c

-- what its start shows, whose head tells of the span before it
abbrev pub start_shows : {size : ℕ} {told : PastEnd} {span : Start × List Page} {c : Content}
    → IsSpan size told span c → Standing
start_shows is = is.holds.written.0.standing

-- an epoch comes before another one, or that is no epoch
abbrev pub IsOlderThan : ℕ → ℕ → Type 0
IsOlderThan number epoch = (number < epoch) ⊎ (epoch ≡ NO_EPOCH)

-- The spans of a past, the last one first, up to where this is told. The start of each is older than that of the one
-- behind it, and the first one older than this epoch.
abbrev pub AreSpans : ℕ → Content → ℕ → PastEnd → List (Start × List Page) → Type 0
AreSpans size c epoch told [] = Unit {0}
AreSpans size c epoch told (span ∷ spans) = (is : IsSpan size told span c)
    × IsOlderThan (start_shows is).epoch epoch
    × AreSpans size c (start_shows is).epoch (start_shows is).past spans

-- At moment k of a span the desktop was this one: behind its start by its pages, and before that by the journal that
-- the start has.
pub record WasIn {size : ℕ} {told : PastEnd} {span : Start × List Page} {c : Content} (k : ℕ)
    (was : Desktop) (is : IsSpan size told span c)
    : Type 0 where
  pub low : (start_shows is).past.before ≤ k
  pub high : k < told.before
  pub behind : span.0.before ≤ k → was ≡ moment span.0 (all_deeds span.1) k
  pub ahead : k < span.0.before → was ≡ start_at (start_shows is) k

-- there is a span
abbrev pub HasSpan : List (Start × List Page) → Type 0
HasSpan [] = ⊥
HasSpan (span ∷ spans) = Unit {0}

-- At moment k of a past over several parts the desktop was this one, in the last span that has such a moment. What
-- comes before the start of a span is of the one before it.
abbrev pub WasThen : (size : ℕ) (c : Content) (epoch : ℕ) (told : PastEnd)
    (spans : List (Start × List Page)) → AreSpans size c epoch told spans → ℕ → Desktop → Type 0
WasThen size c epoch told [] are k was = ⊥
WasThen size c epoch told (span ∷ spans) are k was =
    WasIn k was are.0 × (k < span.0.before → HasSpan spans)
    ⊎ (k < (start_shows are.0).past.before)
    × WasThen size c (start_shows are.0).epoch (start_shows are.0).past spans are.2 k was

-- the spans of the past that a store keeps
abbrev pub SpansOf : {D : Type 0} (d : Ghosts D) {start : Start} {deeds : List PastDeed}
    {desktop : Desktop} {store : StoreView D} → KeepsAll d start deeds desktop store
    → List (Start × List Page) → Type 0
SpansOf d {store = store} keeps spans = AreSpans (d.size store.disk)
    (now (d.trail store.disk)).reads NO_EPOCH keeps.remembers.standing.past spans

abbrev pub WasInSpans : {D : Type 0} (d : Ghosts D) {start : Start} {deeds : List PastDeed}
    {desktop : Desktop} {store : StoreView D} (keeps : KeepsAll d start deeds desktop store)
    (spans : List (Start × List Page)) → SpansOf d keeps spans → ℕ → Desktop → Type 0
WasInSpans d {store = store} keeps spans are k was = WasThen (d.size store.disk)
    (now (d.trail store.disk)).reads NO_EPOCH keeps.remembers.standing.past spans are k was

-- Of each of these spans this is the sector in which it begins, or one in which an older start stands.
abbrev pub IsFirstOf : (size : ℕ) (c : Content) (epoch : ℕ) (told : PastEnd)
    (spans : List (Start × List Page)) → AreSpans size c epoch told spans → ℕ → Type 0
IsFirstOf size c epoch told [] are base = Unit {0}
IsFirstOf size c epoch told (span ∷ spans) are base =
    ((base ≡ span.0.base) ⊎ (start_epoch c base < (start_shows are.0).epoch))
    × IsFirstOf size c (start_shows are.0).epoch (start_shows are.0).past spans are.2 base

abbrev pub IsFirstOfSpans : {D : Type 0} (d : Ghosts D) {start : Start} {deeds : List PastDeed}
    {desktop : Desktop} {store : StoreView D} (keeps : KeepsAll d start deeds desktop store)
    (spans : List (Start × List Page)) → SpansOf d keeps spans → ℕ → Type 0
IsFirstOfSpans d {store = store} keeps spans are base = IsFirstOf (d.size store.disk)
    (now (d.trail store.disk)).reads NO_EPOCH keeps.remembers.standing.past spans are base

-- ---- what is found

-- This was found of moment k of a past: what the desktop was then, and nothing where that is to come.
pub record IsFoundAt {E : Type 0} (k : ℕ) (start : Start) (deeds : List PastDeed)
    (found : Option (StoreView E))
    : Type 0 where
  pub is_one : HasMoment start deeds k → IsSomeAnd found (λ shown. shown.desktop
      ≡ moment start deeds k)
  pub there : IfSome found (λ shown. k ≤ start.before + length deeds)

-- ---- what is read of a start

-- this was read of the start of a span
abbrev pub SaysOfSpan : {size : ℕ} {told : PastEnd} {span : Start × List Page} {c : Content}
    → IsSpan size told span c → Begun → Type 0
SaysOfSpan {span = span} is b = (b.base ≡ span.0.base) × (b.epoch ≡ (start_shows is).epoch)
    × (b.told ≡ (start_shows is).past)

-- this span was found, at whose moment k the desktop was that one
abbrev pub IsFoundSpan : ℕ → Content → ℕ → Desktop → Span → Type 0
IsFoundSpan size c k was s = (span : Start × List Page) × (is : IsSpan size s.told span c)
    × (span.0.base ≡ s.base) × WasIn k was is × (k < span.0.before → s.follows ≡ true)

-- the head of a slot of the start from this sector on, where its gate is open
abbrev pub open_head : Content → ℕ → ℕ → Option Head
open_head c base slot = if is_open (c (base + slot_gate slot))
    then Some (head_of (c (base + slot_head slot))) else None

-- the newer one of two heads, the first of them where they are as new
abbrev pub newer : Option Head → Option Head → Option Head
newer None other = other
newer (Some one) None = Some one
newer (Some one) (Some other) = if nat_lt one.epoch other.epoch then Some other else Some one

-- ---- spans that stay

-- A call on a store whose past lies in a part, which writes ahead there, or in a start of the oldest part, leaves each
-- span of another part but that one, at every moment.
abbrev pub SpanStaysLaw : {D : Type 0} → Ghosts D → Type 0
SpanStaysLaw {D} d = (start : Start) (deeds : List PastDeed) (desktop : Desktop)
    (old new : StoreView D) → d.honest old.disk → (keeps : KeepsAll d start deeds desktop old)
    → LiesInPart d keeps
    → WritesOnly d (λ next n. LiesAhead (d.size old.disk) next n
    ⊎ LiesInOldest (d.size old.disk) (now (d.trail old.disk)).reads next n) old new
    → (told : PastEnd) (span : Start × List Page)
    → IsSpan (d.size old.disk) told span (now (d.trail old.disk)).reads
    → ¬ (span.0.base ≡ start.base)
    → ¬ IsOldest (d.size old.disk) keeps.remembers.standing.past.next span.0.base
    (now (d.trail old.disk)).reads
    → LeavesOnly (d.trail old.disk) (d.trail new.disk) (IsSpan (d.size old.disk) told span)
