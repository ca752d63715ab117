-- What is made of bytes that a test passes.
use Rattle.std.proofs.Common.{◌≡◌, true, ap, subst, sym, ◌∙◌, rules}
use Rattle.std.specs.Prelude.{Bool, Option, Some, None, if◌then◌else◌, List, ℕ}
use Rattle.std.specs.Option.{IsSome}

pub there : (b : Bool) (bytes : List ℕ) (made : Option (List ℕ)) → made ≡ (if b then Some bytes else None) → b ≡ true
    → IsSome made
there b bytes made is holds =
    let some : made ≡ Some bytes = is ∙ ap (λ t. if t then Some bytes else None) holds in
    subst (λ o. IsSome o) (sym some) (search rules)
