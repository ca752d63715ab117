-- Moments of a past.
use Rattle.std.proofs.Common.{◌≡◌, ◌+◌, ◌-◌, ℕ, zero, suc, List, [], ◌∷◌, ◌++◌, length, take, refl, sym, ◌∙◌, ap}
use Rattle.std.proofs.Common.{arith}
use Rattle.std.proofs.lemmas.List.{take_all}
use Rattle.event_bytes.specs.declared.event.Event.{Event}
use Rattle.desktop_definitions.specs.Desktop.{Desktop}
use Rattle.desktop_definitions.specs.Step.{Outcome, step, steps, steps_in}
use Rattle.sector_disk.specs.Trail.{Content}
use Rattle.store_layout.specs.declared.layout.TheConstants.{LAYOUT}
use Rattle.store_layout.specs.Meaning.{Standing}
use Rattle.store_slots.proofs.Recording.{in_newest}
use Rattle.past_pages.specs.Page.{Page}
use Rattle.desk_past.specs.Deeds.{PastDeed, posted, after_deeds, after_deed, all_posted}
use Rattle.desk_past.specs.Past.{deeds_in, Remembers, Start, all_deeds, moment}

pub joined : (a b c : List PastDeed) → (a ++ b) ++ c ≡ a ++ (b ++ c)
joined [] b c = refl
joined (e ∷ a) b c = ap (λ r. e ∷ r) (joined a b c)

pub nil_right : (l : List PastDeed) → l ++ [] ≡ l
nil_right [] = refl
nil_right (e ∷ l) = ap (λ r. e ∷ r) (nil_right l)

-- one page more
pub deeds_on : (pages : List Page) (p : Page) → all_deeds (pages ++ p ∷ []) ≡ all_deeds pages ++ deeds_in p
deeds_on [] p = nil_right (deeds_in p)
deeds_on (q ∷ pages) p =
    ap (λ l. deeds_in q ++ l) (deeds_on pages p) ∙ sym (joined (deeds_in q) (all_deeds pages) (deeds_in p))

-- more pages
pub deeds_of_both : (some more : List Page) → all_deeds (some ++ more) ≡ all_deeds some ++ all_deeds more
deeds_of_both [] more = refl
deeds_of_both (p ∷ some) more = ap (λ l. deeds_in p ++ l) (deeds_of_both some more)
    ∙ sym (joined (deeds_in p) (all_deeds some) (all_deeds more))

-- ---- events that are posted

pub many_posted : (events : List Event) → length (all_posted events) ≡ length events
many_posted [] = refl
many_posted (event ∷ events) = ap suc (many_posted events)

pub posted_both : (some more : List Event) → all_posted (some ++ more) ≡ all_posted some ++ all_posted more
posted_both [] more = refl
posted_both (event ∷ some) more = ap (λ l. posted event ∷ l) (posted_both some more)

pub posted_first : (n : ℕ) (events : List Event) → take n (all_posted events) ≡ all_posted (take n events)
posted_first zero events = refl
posted_first (suc n) [] = refl
posted_first (suc n) (event ∷ events) = ap (λ l. posted event ∷ l) (posted_first n events)

pub after_posted : (d : Desktop) (events : List Event) → after_deeds d (all_posted events) ≡ steps d events
after_posted d [] = refl
after_posted d (event ∷ events) = after_posted (step d event).desktop events

-- ---- the desktop after deeds behind others

pub after_both : (d : Desktop) (some more : List PastDeed)
    → after_deeds d (some ++ more) ≡ after_deeds (after_deeds d some) more
after_both d [] more = refl
after_both d (deed ∷ some) more = after_both (after_deed d deed) some more

pub all_newest : (d : Desktop) (events : List Event) → steps_in LAYOUT d events ≡ steps d events
all_newest d [] = refl
all_newest d (event ∷ events) =
    ap (λ (o : Outcome). steps_in LAYOUT o.desktop events) (in_newest d event)
    ∙ all_newest (step d event).desktop events

-- events behind the deeds of the pages, in the version of the slot in use
pub stepped_on : (d : Desktop) (pages : List Page) (s : Standing) (events : List Event) → s.version ≡ LAYOUT
    → after_deeds d (all_deeds pages) ≡ s.start
    → after_deeds d (all_deeds pages ++ all_posted events) ≡ steps_in s.version s.start events
stepped_on d pages s events newest leads =
    after_both d (all_deeds pages) (all_posted events)
    ∙ ap (λ x. after_deeds x (all_posted events)) leads
    ∙ after_posted s.start events
    ∙ sym (all_newest s.start events)
    ∙ ap (λ v. steps_in v s.start events) (sym newest)

-- the present is the last moment
pub the_present : {size : ℕ} {start : Start} {deeds : List PastDeed} {desktop : Desktop} {c : Content}
    → Remembers size start deeds desktop c → moment start deeds (start.before + length deeds) ≡ desktop
the_present {start = start} {deeds = deeds} r =
    ap (after_deeds start.desktop) (take_all (start.before + length deeds - start.before) deeds (omega arith))
    ∙ ap (after_deeds start.desktop) (sym r.all)
    ∙ stepped_on start.desktop r.pages r.standing r.standing.events r.past.newest r.past.leads
    ∙ r.is
