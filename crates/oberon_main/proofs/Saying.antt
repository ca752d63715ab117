-- A line that a writer takes whole, unless a call of it fails.
use Rattle.std.proofs.Common.{◌≡◌, ℕ, List, Option, Ok, Err, arith}
use Rattle.std.specs.Prelude.{Result}
use Rattle.std.specs.Io.KnownBytes.{Appends}
use Rattle.byte_streams.specs.Counting.{CountsFault}
use Rattle.screen_cells.specs.Sent.{Sends}

pub whole_unless_failed : {T E : Type 0} (result : Result T E) (failed failed' : ℕ) → failed' ≡ failed
    → CountsFault result failed failed' → {old new : Option (List ℕ)} {text : List ℕ} → Sends result old new text
    → Appends old new text
whole_unless_failed (Ok value) failed failed' calm counts sends = sends.sent
whole_unless_failed (Err error) failed failed' calm counts sends = absurd (omega (arith, calm, counts))
