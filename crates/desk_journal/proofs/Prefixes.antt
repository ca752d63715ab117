-- Laws of steps one after another, and of what a content means after the first of some events.
use Rattle.std.proofs.Common.{◌≡◌, ◌+◌, ℕ, List, [], ◌∷◌, ◌++◌, length, take, refl, sym, ◌∙◌, ap, subst, arith}
use Rattle.std.proofs.Common.{length-append}
use Rattle.std.proofs.lemmas.List.{take-append-le}
use Rattle.std.proofs.Math.Seq.{take-length, take-append-add}
use Rattle.sector_disk.specs.Trail.{Content}
use Rattle.event_bytes.specs.declared.event.Event.{Event}
use Rattle.desktop_definitions.specs.Desktop.{Desktop}
use Rattle.desktop_definitions.specs.Step.{step, steps}
use Rattle.store_layout.specs.Meaning.{Means}
use Rattle.desk_journal.specs.Prefixes.{MeansPrefix}

pub steps_both : (d : Desktop) (some more : List Event) → steps d (some ++ more) ≡ steps (steps d some) more
steps_both d [] more = refl
steps_both d (event ∷ some) more = steps_both (step d event).desktop some more

-- all of the events are there, and none that was begun
pub whole_prefix : (size : ℕ) (desktop : Desktop) (events begun : List Event) (c : Content)
    → Means size (steps desktop events) c → MeansPrefix size desktop events (events ++ begun) c
whole_prefix size desktop events begun c means = record {
  count = length events;
  none_lost = omega arith;
  within = omega (arith, length-append events begun);
  means = subst (λ es. Means size (steps desktop es) c)
      (sym (take-append-le (length events) events begun (omega arith) ∙ take-length events)) means;
}

-- none of them is there
pub no_prefix : (size : ℕ) (desktop : Desktop) (events : List Event) (c : Content) → Means size desktop c
    → MeansPrefix size desktop [] events c
no_prefix size desktop events c means = record {
  count = 0;
  none_lost = omega arith;
  within = omega arith;
  means = means;
}

-- fewer events count as acknowledged
pub fewer_acknowledged : (size : ℕ) (desktop : Desktop) (acknowledged events : List Event) (c : Content)
    → MeansPrefix size desktop acknowledged events c → MeansPrefix size desktop [] events c
fewer_acknowledged size desktop acknowledged events c p = record {
  count = p.count;
  none_lost = omega arith;
  within = p.within;
  means = p.means;
}

-- more events follow
pub prefix_of_more : (size : ℕ) (desktop : Desktop) (acknowledged events more : List Event) (c : Content)
    → MeansPrefix size desktop acknowledged events c → MeansPrefix size desktop acknowledged (events ++ more) c
prefix_of_more size desktop acknowledged events more c p = record {
  count = p.count;
  none_lost = p.none_lost;
  within = omega (arith, length-append events more, p.within);
  means = subst (λ es. Means size (steps desktop es) c) (sym (take-append-le p.count events more p.within)) p.means;
}

-- events went before
pub prefix_behind : (size : ℕ) (desktop : Desktop) (first acknowledged events : List Event) (c : Content)
    → MeansPrefix size (steps desktop first) acknowledged events c
    → MeansPrefix size desktop (first ++ acknowledged) (first ++ events) c
prefix_behind size desktop first acknowledged events c p = record {
  count = length first + p.count;
  none_lost = omega (arith, length-append first acknowledged, p.none_lost);
  within = omega (arith, length-append first events, p.within);
  means = subst (λ e. Means size e c)
      (sym (steps_both desktop first (take p.count events))
      ∙ ap (steps desktop) (sym (take-append-add first events p.count))) p.means;
}
