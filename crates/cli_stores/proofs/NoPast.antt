-- A store that was checkpointed twice has no past.
use Rattle.std.proofs.Common.{◌≡◌, ℕ, ◌-◌, List, [], ◌∷◌, ◌++◌, length, refl, ◌∙◌, ap, subst, arith}
use Rattle.sector_disk.specs.declared.disk.Disk.{Ghosts}
use Rattle.sector_disk.specs.Trail.{Content, now}
use Rattle.sector_disk.proofs.Touching.{read_is_an_image}
use Rattle.event_bytes.specs.declared.event.Event.{Event}
use Rattle.store_layout.proofs.Bits.{clash}
use Rattle.store_layout.specs.Layout.{untold}
use Rattle.store_layout.specs.Meaning.{IsJournal, Shows, Standing}
use Rattle.store_slots.specs.Beside.{IsHistory, StandsBeside}
use Rattle.store_slots.specs.Beside.IsHistory.{alone, behind}
use Rattle.desk_journal.specs.Behind.{GoesToNext, renewed_from}
use Rattle.desk_journal.specs.View.{StoreView, IsDurable}
use Rattle.cli_stores.specs.NewStores.{HasNoPast}

none_left : (events : List Event) → length events ≡ 0 → events ≡ []
none_left [] is = refl
none_left (event ∷ events) is = absurd (omega (arith, is))

-- a journal under a closed gate has no event
closed : (c : Content) (slot : ℕ) (events : List Event) → IsJournal c slot 0 [] → IsJournal c slot 0 events → events ≡ []
closed c slot [] none some = refl
closed c slot (event ∷ events) none some = absurd (clash some.1 (none some.0))

nothing_back : (c : Content) (s : Standing) → s.events ≡ [] → StandsBeside c (1 - s.slot) s → (events : List Event)
    → IsHistory c (renewed_from untold s) events → events ≡ []
nothing_back c s none beside events (alone first is) = is
nothing_back c s none beside events (behind t before is) =
    let slots : s.slot ≡ t.slot = omega (arith, beside.two, before.beside.two) in
    let shut : IsJournal c s.slot 0 [] = subst (λ es. IsJournal c s.slot 0 es) none beside.journal in
    is ∙ ap (λ es. es ++ []) (closed c t.slot t.events (subst (λ n. IsJournal c n 0 []) slots shut) before.beside.journal)

-- a store without events that is checkpointed
pub no_past : {D : Type 0} (d : Ghosts D) (one two : StoreView D) → d.honest one.disk → IsDurable d one
    → one.events ≡ 0
    → GoesToNext d (renewed_from untold) one two → HasNoPast d two
no_past d one two honest durable none next =
    let shown : Shows (d.size one.disk) one.layout one.epoch one.events one.desktop (now (d.trail one.disk)).reads
    = durable honest _ (read_is_an_image (now (d.trail one.disk))) in (
      renewed_from untold shown.standing,
      next.shows honest shown.standing shown.stands,
      nothing_back (now (d.trail two.disk)).reads shown.standing
          (none_left shown.standing.events (shown.events ∙ none))
          (next.former honest shown.standing shown.stands),
    )
