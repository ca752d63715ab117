-- Reading the entries of a table by rising keys, as a loop does.
use Rattle.std.proofs.Common.{◌≡◌, ℕ, ◌+◌, ◌-◌, ◌<◌, Bool, true, List, Ok, arith}
use Rattle.std.specs.Cmp.{IsTotalOrder}
use Rattle.std.specs.BTreeMap.{insert_entry}
use Rattle.std.specs.declared.cmp.Ordering.{Ordering}
use Rattle.event_bytes.specs.Parts.{Reader}
use Rattle.piece_ring.specs.declared.piece.Piece.{Piece}
use Rattle.image_format.specs.declared.source.ByteSource.{Ghosts as SourceGhosts}
use Rattle.image_format.specs.Fitting.{length_of_pieces, totals}
use Rattle.image_format.specs.Streams.{Reads}
use Rattle.image_format.proofs.Loop.{IsAt, goes_on}
use Rattle.image_format.proofs.Rising.{Waits, IsRising, insert_last, waits_on}
use Rattle.image_format.proofs.Totals.{totals_push}

-- what an entry leaves: what keys have to pass after its key, and room
abbrev pub after_entry : {K Q : Type 0} → (Q → K → Q) → Q × ℕ → K × List Piece → Q × ℕ
after_entry after s e = (after s.0 e.0, s.1 - length_of_pieces e.1)

pub record IsTableAt {S K Q : Type 0} (s : SourceGhosts S) (item : Q × ℕ → Reader (K × List Piece))
    (Fits : Q × ℕ → K × List Piece → Type 0) (cmp : K → K → Ordering) (passes : Q → K → Bool) (after : Q → K → Q)
    (count i : ℕ) (first now : Q × ℕ) (table : List (K × List Piece)) (old new : S) : Type 0 where
  pub at : IsAt s item Fits (after_entry after) count i first now table old new
  pub left : now.1 ≡ first.1 - totals table
  pub wait : Waits cmp passes table now.0

module _ {S K Q : Type 0} {s : SourceGhosts S} {item : Q × ℕ → Reader (K × List Piece)}
    {Fits : Q × ℕ → K × List Piece → Type 0} {cmp : K → K → Ordering} {passes : Q → K → Bool} {after : Q → K → Q}
    {count i : ℕ} {first now : Q × ℕ} {table : List (K × List Piece)} {old mid new : S}
    (through : (a b c : S) → s.same_ground a b → s.same_ground b c → s.same_ground a c) (order : IsTotalOrder cmp)
    (rising : IsRising cmp passes after) where
  -- an entry more
  pub entry_on : IsTableAt s item Fits cmp passes after count i first now table old mid
      → {X : Type 0} (view : X → K × List Piece) (x : X) (room : ℕ) → i < count → Reads s view (Ok x) (item now) mid new
      → Fits now (view x) → passes now.0 (view x).0 ≡ true → room ≡ now.1 - length_of_pieces (view x).1
      → IsTableAt s item Fits cmp passes after count (i + 1) first (after now.0 (view x).0, room)
      (insert_entry cmp table (view x).0 (view x).1) old new
  entry_on is view x room lt reads fits passed left =
      rw (insert_last order table (view x).0 (view x).1 (is.wait (view x).0 passed), left) (record {
        at = goes_on through is.at view x lt reads fits;
        left = omega (arith, totals_push table (view x), is.left);
        wait = waits_on cmp passes after rising table now.0 (view x).0 (view x).1 passed is.wait;
      })
