use Rattle.std.proofs.Common.{◌≡◌, ◌≤◌, ◌++◌, ℕ, List, length, take, drop}
use Rattle.event_bytes.specs.declared.event.Event.{Event}
use Rattle.store_slots.specs.Bodies.{spellings}
use Rattle.past_pages.specs.Page.{AreEvents}
use Rattle.past_pages.proofs.pages.events_in.Given as goal

-- of what the bytes spell so many events have been read, and the others come next
abbrev pub invariant-loop-k : goal.invariant-loop-k
invariant-loop-k l = record {
  within : l.place ≤ length l.bytes;
  read : (events : List Event) (rest : List ℕ) → AreEvents events → length events ≡ l.count
      → l.bytes ≡ spellings events ++ rest
      → (l.events.items ≡ take l.k events) × (drop l.place l.bytes ≡ spellings (drop l.k events) ++ rest);
}
