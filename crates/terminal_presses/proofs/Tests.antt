-- Tests, and what follows of their answers.
use Rattle.std.proofs.Common.{◌≡◌, Bool, true, false, refl}
use Rattle.std.specs.Prelude.{◌&&◌, not}

pub both : (a b : Bool) → a && b ≡ true → (a ≡ true) × (b ≡ true)
both true b h = (refl, h)
both false b h = absurd cc

pub is_not : (b : Bool) → not b ≡ true → b ≡ false
is_not true is = absurd cc
is_not false is = refl

pub by_test : {P : Type 0} (b : Bool) → (b ≡ true → P) → (b ≡ false → P) → P
by_test true held failed = held refl
by_test false held failed = failed refl
