-- Names that stand in the code.
use Rattle.std.specs.Prelude.{◌≡◌, true, [], ◌∷◌}
use Rattle.std.proofs.Common.{refl}
use Rattle.event_bytes.specs.Bytes.{is_letter, is_digit, is_name_byte, is_name}

pub blank_is_name : is_name (65 ∷ []) ≡ true
unfolding is_letter is_digit is_name_byte
blank_is_name = refl
