-- Refusals.
use Rattle.std.specs.Prelude.{ℕ, Bool, if◌then◌else◌, Option, Some, None, Result, Ok, Err}

-- what f makes of a value; a refusal with that code where there is none
abbrev pub needs : {A B : Type 0} → Option A → ℕ → (A → Result B ℕ) → Result B ℕ
needs None code f = Err code
needs (Some a) code f = f a

-- a refusal with that code where the test isn't passed
abbrev pub unless : {B : Type 0} → Bool → ℕ → Result B ℕ → Result B ℕ
unless test code result = if test then result else Err code

-- what f makes of the value of a result; its refusal where it is one
abbrev pub given : {A B : Type 0} → Result A ℕ → (A → Result B ℕ) → Result B ℕ
given (Err code) f = Err code
given (Ok a) f = f a
