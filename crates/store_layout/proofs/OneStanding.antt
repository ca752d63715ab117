-- A content shows one thing at most.
use Rattle.std.proofs.Common.{◌≡◌, ℕ, ◌+◌, List, [], ◌∷◌, ◌++◌, length, take, drop, refl, sym, ◌∙◌, ap, subst}
use Rattle.sector_disk.specs.Trail.{Content}
use Rattle.event_bytes.specs.declared.event.Event.{Event}
use Rattle.event_bytes.specs.Spelling.{BeginsWithEvent}
use Rattle.desktop_definitions.specs.Desktop.{Desktop}
use Rattle.desktop_definitions.specs.Seen.{seen}
use Rattle.image_format.specs.Laws.{UniqueLaw}
use Rattle.store_layout.specs.declared.head.Head.{Head}
use Rattle.store_layout.proofs.Bits.{clash}
use Rattle.store_layout.specs.Layout.{head}
use Rattle.store_layout.specs.Meaning.{IsJournal, MakesDesktop, HasImage, Standing, Stands, Means, Shows, desktop_of}
use Rattle.store_layout.specs.Meaning.{slot_image_bytes, area_bytes, left_over, full_sectors}
use Rattle.store_layout.proofs.StandingLaws.{one_in_use, stands_in_use}

-- bytes begin with one event at most
abbrev pub BeginLaw : Type 0
BeginLaw = (bytes : List ℕ) (e f : Event) → BeginsWithEvent bytes e → BeginsWithEvent bytes f → e ≡ f

one_journal : BeginLaw → (events events' : List Event) (c : Content) (slot k : ℕ) → IsJournal c slot k events
    → IsJournal c slot k events' → events ≡ events'
one_journal law [] [] c slot k one two = refl
one_journal law [] (e ∷ events') c slot k one two = absurd (clash two.1 (one two.0))
one_journal law (e ∷ events) [] c slot k one two = absurd (clash one.1 (two one.0))
one_journal law (e ∷ events) (e' ∷ events') c slot k one two =
    ap (λ first. first ∷ events) (law _ e e' one.2 two.2)
    ∙ ap (λ rest. e' ∷ rest) (one_journal law events events' c slot (k + 1) one.3 two.3)

one_start : UniqueLaw → (h : Head) (image area : List ℕ) (start start' : Desktop) → MakesDesktop h image area start
    → MakesDesktop h image area start' → start ≡ start'
one_start law h image area start start' one two =
    sym one.is
    ∙ ap (seen (area ++ take (left_over h.written) image))
    (law h.version h.written (drop (left_over h.written) image) one.kept two.kept one.spells two.spells)
    ∙ two.is

module _ (begins : BeginLaw) (unique : UniqueLaw) (size : ℕ) (c : Content) where
  pub one_standing : (s s' : Standing) → Stands size c s → Stands size c s' → s ≡ s'
  one_standing s s' one two = λ i. record {
    slot = slots i;
    version = (sym one.version ∙ ap (λ n. (head c n).version) slots ∙ two.version) i;
    epoch = (sym one.epoch ∙ ap (λ n. (head c n).epoch) slots ∙ two.epoch) i;
    past = (sym one.past ∙ ap (λ n. (head c n).past) slots ∙ two.past) i;
    start = one_start unique (head c s'.slot) (slot_image_bytes c s'.slot)
        (area_bytes c (head c s'.slot).area (full_sectors (head c s'.slot).written)) s.start s'.start
        (subst (λ n. HasImage c n s.start) slots one.image) two.image i;
    events = one_journal begins s.events s'.events c s'.slot 0
        (subst (λ n. IsJournal c n 0 s.events) slots one.journal) two.journal i;
  }
    where
      slots : s.slot ≡ s'.slot
      slots = one_in_use c s.slot s'.slot (stands_in_use c s one) (stands_in_use c s' two)

  pub one_meaning : (d d' : Desktop) → Means size d c → Means size d' c → d ≡ d'
  one_meaning d d' one two = sym one.2 ∙ ap desktop_of (one_standing one.0 two.0 one.1 two.1) ∙ two.2

  pub one_showing : (version number count version' number' count' : ℕ) (d d' : Desktop)
      → Shows size version number count d c → Shows size version' number' count' d' c
      → (d' ≡ d) × (version' ≡ version) × (number' ≡ number) × (count' ≡ count)
  one_showing version number count version' number' count' d d' one two = (
    sym two.is ∙ ap desktop_of same ∙ one.is,
    sym two.version_is ∙ ap (λ s. s.version) same ∙ one.version_is,
    sym two.epoch ∙ ap (λ s. s.epoch) same ∙ one.epoch,
    sym two.events ∙ ap (λ s. length s.events) same ∙ one.events,
  )
    where
      same : two.standing ≡ one.standing
      same = one_standing two.standing one.standing two.stands one.stands
