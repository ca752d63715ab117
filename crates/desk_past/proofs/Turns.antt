-- Turns of a past: each leads to what the desktop was at a moment before it.
use Rattle.std.proofs.Common.{◌≡◌, List, [], ◌∷◌, ◌++◌, refl, sym, ◌∙◌, ap, subst}
use Rattle.past_pages.specs.Page.{Page}
use Rattle.desktop_definitions.specs.Desktop.{Desktop}
use Rattle.desk_past.specs.Deeds.{PastDeed, after_deeds}
use Rattle.desk_past.specs.Past.{deeds_in, AreGood, AreMarkPages, AreTurns, IsTurn, Start, all_deeds}
use Rattle.desk_past.proofs.Moments.{joined, nil_right}

-- a page behind these deeds
turn_behind : (start : Start) (p : Page) {some same : List PastDeed} → some ≡ same → IsTurn start some p
    → IsTurn start same p
turn_behind start p is turn = subst (λ l. IsTurn start l p) is turn

-- deeds of one page more
deeds_behind : (deeds : List PastDeed) (q : Page) (more : List PastDeed)
    → deeds ++ (deeds_in q ++ more) ≡ (deeds ++ deeds_in q) ++ more
deeds_behind deeds q more = sym (joined deeds (deeds_in q) more)

-- one page more
turns_behind : (start : Start) (pages : List Page) (deeds : List PastDeed) (p : Page) → AreTurns start deeds pages
    → IsTurn start (deeds ++ all_deeds pages) p → AreTurns start deeds (pages ++ p ∷ [])
turns_behind start [] deeds p turns last = (turn_behind start p (nil_right deeds) last, tt)
turns_behind start (q ∷ pages) deeds p turns last = (
  turns.0,
  turns_behind start pages (deeds ++ deeds_in q) p turns.1
      (turn_behind start p (deeds_behind deeds q (all_deeds pages)) last),
)

pub turns_on : (start : Start) (pages : List Page) (p : Page) → AreTurns start [] pages
    → IsTurn start (all_deeds pages) p → AreTurns start [] (pages ++ p ∷ [])
turns_on start pages p turns last = turns_behind start pages [] p turns last

-- more pages
turns_more : (start : Start) (pages more : List Page) (deeds : List PastDeed) → AreTurns start deeds pages
    → AreTurns start (deeds ++ all_deeds pages) more → AreTurns start deeds (pages ++ more)
turns_more start [] more deeds turns last = subst (λ l. AreTurns start l more) (nil_right deeds) last
turns_more start (q ∷ pages) more deeds turns last = (
  turns.0,
  turns_more start pages more (deeds ++ deeds_in q) turns.1
      (subst (λ l. AreTurns start l more) (deeds_behind deeds q (all_deeds pages)) last),
)

pub turns_then : (start : Start) (pages more : List Page) → AreTurns start [] pages
    → AreTurns start (all_deeds pages) more → AreTurns start [] (pages ++ more)
turns_then start pages more turns last = turns_more start pages more [] turns last

-- ---- marks

pub marks_good : (desktop : Desktop) (marks : List Page) → AreMarkPages desktop marks → AreGood marks
marks_good desktop [] are = tt
marks_good desktop (p ∷ marks) are = (are.2, marks_good desktop marks are.3)

pub marks_deeds : (desktop : Desktop) (marks : List Page) → AreMarkPages desktop marks → all_deeds marks ≡ []
marks_deeds desktop [] are = refl
marks_deeds desktop (p ∷ marks) are =
    ap (λ q. deeds_in q ++ all_deeds marks) are.1 ∙ marks_deeds desktop marks are.3

-- the desktop of each is that to which the deeds before it led
pub marks_turns : (start : Start) (deeds : List PastDeed) (desktop : Desktop) (marks : List Page)
    → AreMarkPages desktop marks
    → desktop ≡ after_deeds start.desktop deeds → AreTurns start deeds marks
marks_turns start deeds desktop [] are same = tt
marks_turns start deeds desktop (p ∷ marks) are same =
    let none : deeds ≡ deeds ++ deeds_in p = sym (nil_right deeds) ∙ sym (ap (λ q. deeds ++ deeds_in q) are.1) in (
      subst (IsTurn start deeds) (sym are.1) same,
      subst (λ l. AreTurns start l marks) none (marks_turns start deeds desktop marks are.3 same),
    )

pub marks_on : (desktop : Desktop) (marks more : List Page) → AreMarkPages desktop marks → AreMarkPages desktop more
    → AreMarkPages desktop (marks ++ more)
marks_on desktop [] more are last = last
marks_on desktop (p ∷ marks) more are last = (are.0, are.1, are.2, marks_on desktop marks more are.3 last)

-- two pages more
both_behind : (start : Start) (pages : List Page) (deeds : List PastDeed) (p q : Page) → AreTurns start deeds pages
    → IsTurn start (deeds ++ all_deeds pages) p → IsTurn start (deeds ++ (all_deeds pages ++ deeds_in p)) q
    → AreTurns start deeds (pages ++ p ∷ q ∷ [])
both_behind start [] deeds p q turns first second = (turn_behind start p (nil_right deeds) first, (second, tt))
both_behind start (r ∷ pages) deeds p q turns first second = (
  turns.0,
  both_behind start pages (deeds ++ deeds_in r) p q turns.1
      (turn_behind start p (deeds_behind deeds r (all_deeds pages)) first)
      (turn_behind start q
      (ap (λ l. deeds ++ l) (joined (deeds_in r) (all_deeds pages) (deeds_in p))
      ∙ deeds_behind deeds r (all_deeds pages ++ deeds_in p)) second),
)

pub turns_both : (start : Start) (pages : List Page) (p q : Page) → AreTurns start [] pages
    → IsTurn start (all_deeds pages) p → IsTurn start (all_deeds pages ++ deeds_in p) q
    → AreTurns start [] (pages ++ p ∷ q ∷ [])
turns_both start pages p q turns first second = both_behind start pages [] p q turns first second
