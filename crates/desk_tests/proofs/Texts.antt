-- Texts over the characters that were added last.
use Rattle.std.specs.Prelude.{◌≡◌, ◌≤◌, ℕ, ◌+◌, List, ◌++◌, length}
use Rattle.std.proofs.Common.{sym, subst, ap, arith, length-append}
use Rattle.piece_ring.specs.declared.piece.Look.{Look}
use Rattle.piece_ring.specs.Flat.{run}
use Rattle.piece_ring.proofs.Offsets.{run-AreWithin}
use Rattle.piece_ring.specs.Text.{Text, AreWithin}

pub within_run : (characters new bytes : List ℕ) (first count : ℕ) (look : Look) (text : Text ℕ)
    → new ≡ characters ++ bytes → first ≡ length characters → count ≡ length bytes → text ≡ run first count look
    → AreWithin (length new) text
within_run characters new bytes first count look text added at many is =
    let e : first + count ≡ length new = omega (arith, ap length added, at, many, length-append characters bytes) in
    subst (λ n. AreWithin n text) e
    (subst (AreWithin (first + count)) (sym is) (run-AreWithin (first + count) first count look (omega arith)))

-- a stretch of the characters that there are
pub run_within : (n first count : ℕ) (look : Look) (text : Text ℕ) → first + count ≤ n → text ≡ run first count look
    → AreWithin n text
run_within n first count look text inside is = subst (AreWithin n) (sym is) (run-AreWithin n first count look inside)
