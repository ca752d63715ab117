-- What a call comes to that changes something and returns something.
use Rattle.std.specs.Prelude.{◌≡◌}

-- A definition gives both: the state that the call leaves, and what it returns.
pub record ComesTo {S A : Type 0} (next : S × A) (new : S) (result : A) : Type 0 where
  pub state : new ≡ next.0
  pub answer : result ≡ next.1
