-- The way to a moment: from the start, from the moment to which a turn led last, or from the desktop that a page has,
-- by deeds none of which is a turn.
use Rattle.std.specs.Prelude.{◌≡◌, ◌≤◌, ◌<◌, ℕ, List, [], ◌∷◌, ◌++◌, length, take}
use Rattle.sector_disk.specs.Trail.{Content}
use Rattle.desktop_definitions.specs.Desktop.{Desktop}
use Rattle.past_pages.specs.Page.{Page, of_copy, of_events, of_import, of_turn}
use Rattle.past_pages.specs.Reading.{HasCopy}
use Rattle.desk_past.specs.Deeds.{PastDeed, after_deeds, posted, brought, turned}
use Rattle.desk_past.specs.Past.{HasPages, end_of_pages, AreGood, Start, all_deeds, moment}
use Rattle.desk_past.specs.declared.routes.Leg.{Leg}
use Rattle.desk_past.specs.declared.routes.Origin.{Origin}
use Rattle.desk_past.specs.declared.routes.Origin.TheVariants.{AtCopy, AtMoment, AtStart}

-- none of these deeds is a turn
abbrev pub HasNoTurn : List PastDeed → Type 0
HasNoTurn [] = Unit {0}
HasNoTurn (turned to ∷ deeds) = ⊥
HasNoTurn (posted event ∷ deeds) = HasNoTurn deeds
HasNoTurn (brought documents ∷ deeds) = HasNoTurn deeds

-- A leg of a way: these deeds are the first ones of the pages from its sector on, as many as it says, and none is a
-- turn.
pub record IsLeg (c : Content) (end : ℕ) (leg : Leg) (deeds : List PastDeed) : Type 0 where
  pub pages : List Page
  pub held : HasPages c leg.at pages
  pub good : AreGood pages
  pub up_to : end_of_pages leg.at pages ≡ end
  pub enough : leg.count ≤ length (all_deeds pages)
  pub are : deeds ≡ take leg.count (all_deeds pages)
  pub none_turns : HasNoTurn deeds

-- the legs of a way, the last of which is gone first, are these deeds
abbrev pub AreLegs : Content → ℕ → List Leg → List PastDeed → Type 0
AreLegs c end [] deeds = deeds ≡ []
AreLegs c end (leg ∷ legs) deeds = (first last : List PastDeed) × (deeds ≡ first ++ last)
    × IsLeg c end leg last × AreLegs c end legs first

-- what the desktop was where a way begins: that of the start, or of a page
abbrev pub BeginsAt : Content → ℕ → Start → Origin → Desktop → Type 0
BeginsAt c end start AtStart was = was ≡ start.desktop
BeginsAt c end start (AtMoment k) was = ⊥
BeginsAt c end start (AtCopy at) was = HasCopy c at end was

-- and where a leg does: there, or at a moment
abbrev pub LegBeginsAt : Content → ℕ → Start → List PastDeed → Origin → Desktop → Type 0
LegBeginsAt c end start deeds AtStart was = was ≡ start.desktop
LegBeginsAt c end start deeds (AtMoment k) was = was ≡ moment start deeds k
LegBeginsAt c end start deeds (AtCopy at) was = HasCopy c at end was

-- This leg leads from there to moment k.
pub record IsReached (c : Content) (end : ℕ) (start : Start) (deeds : List PastDeed) (k : ℕ)
    (leg : Leg) (from : Origin)
    : Type 0 where
  pub was : Desktop
  pub begins : LegBeginsAt c end start deeds from was
  pub done : List PastDeed
  pub is_leg : IsLeg c end leg done
  pub leads : moment start deeds k ≡ after_deeds was done

-- What becomes of the last leg behind a page in sector `here` that ends at this one, where so many deeds are left:
-- behind a turn another one begins, and so it does behind a desktop.
abbrev pub IsPassed : Page → ℕ → ℕ → ℕ → Leg → Origin → Leg → Origin → Type 0
IsPassed (of_events version events) here at left old before leg from =
    (leg ≡ old) × (from ≡ before)
IsPassed (of_import version documents) here at left old before leg from =
    (leg ≡ old) × (from ≡ before)
IsPassed (of_turn version k to) here at left old before leg from =
    (leg.at ≡ at) × (leg.count ≡ left) × (from ≡ AtMoment k)
IsPassed (of_copy version far sectors to) here at left old before leg from =
    (leg.at ≡ at) × (leg.count ≡ left) × (from ≡ AtCopy here)

-- a moment from which a way begins is one before moment k, and not before the pages
abbrev pub LeadsBack : ℕ → ℕ → Origin → Type 0
LeadsBack before k AtStart = Unit {0}
LeadsBack before k (AtMoment to) = (before ≤ to) × (to < k)
LeadsBack before k (AtCopy at) = Unit {0}

-- These legs, the last of which is gone first, lead from the start or from a page to moment k.
pub record IsWay (c : Content) (end : ℕ) (start : Start) (deeds : List PastDeed) (k : ℕ)
    (legs : List Leg) (from : Origin)
    : Type 0 where
  pub was : Desktop
  pub begins : BeginsAt c end start from was
  pub done : List PastDeed
  pub are : AreLegs c end legs done
  pub leads : moment start deeds k ≡ after_deeds was done
