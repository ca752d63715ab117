-- What the place of what is kept owns.
use Rattle.std.specs.Prelude.{Option, Some, None}
use Rattle.std.specs.Borrow.{ftrue}
use Rattle.std.specs.Box.Ownership.{box_owns}
use Rattle.std.specs.Coded.{Coded, coded_option}
use Rattle.piece_ring.specs.Ownership.{chunk}
use Rattle.desk_page.specs.contracts.kept.Kept.{the_row}
use base.Fml.{Fml}
use denote.RawPtr.{Ptr}

abbrev pub owned : Ptr → Option the_row.Denot → Fml
owned p None = ftrue
owned p (Some kept) = box_owns chunk the_row p kept

abbrev pub kept_coded : Coded (Option the_row.Denot)
kept_coded = coded_option the_row.coded

-- something is kept
abbrev pub IsThere : Option the_row.Denot → Type 0
IsThere None = ⊥
IsThere (Some kept) = Unit {0}
