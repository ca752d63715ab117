-- Each command has a word of its own, of at most 18 bytes.
use Rattle.std.specs.Prelude.{ℕ, ◌≡◌, ◌<◌, ◌≤◌, ◌&&◌, nat_le, Bool, true, false, if◌then◌else◌, List, [], ◌∷◌, length}
use Rattle.std.specs.Prelude.{Option, Some, None}
use Rattle.std.specs.List.{find}
use Rattle.std.specs.Option.{option_map}
use Rattle.std.specs.Str.{bytes_eq}
use Rattle.std.proofs.Common.{refl, sym, ap, ◌∙◌, arith}
use Rattle.std.proofs.lemmas.Bool.Decides.{nat_tests}
use Rattle.std.proofs.lemmas.Slice.Eq.{bytes_eq-Decides}
use Rattle.command_table.specs.declared.command.Command.{Command}
use Rattle.command_table.specs.declared.command.Command.TheVariants.{EditOpen, SystemOpen, SystemOpenLog, SystemClose}
use Rattle.command_table.specs.declared.command.Command.TheVariants.{SystemRecall, SystemCopy, SystemClear}
use Rattle.command_table.specs.declared.command.Command.TheVariants.{SystemDirectory, SystemDeleteFiles}
use Rattle.command_table.specs.declared.command.Command.TheVariants.{SystemSetFont, SystemSetColor, SystemSetOffset}
use Rattle.command_table.specs.declared.command.Command.TheVariants.{EditChangeFont, EditChangeColor}
use Rattle.command_table.specs.declared.command.Command.TheVariants.{EditChangeOffset, EditStore, EditSearch}
use Rattle.command_table.specs.declared.command.Command.TheVariants.{EditRecall, SystemCollect, SystemGrow}
use Rattle.command_table.specs.Commands.{word_of, since, commands, command_named, OneWordEach}

found_passes : {X : Type 0} (test : X → Bool) (xs : List X) (x : X) → find test xs ≡ Some x → test x ≡ true
found_passes test [] x e = cc
found_passes test (y ∷ ys) x e = by_first (found_passes test ys x) (test y) refl where
  by_first : (find test ys ≡ Some x → test x ≡ true) → (b : Bool) → test y ≡ b → test x ≡ true
  by_first later true t = let same : Some y ≡ Some x = rw t at e in let is : y ≡ x = cc in sym (ap test is) ∙ t
  by_first later false t = later (rw t at e)

lets_in : (n version : ℕ) → n ≤ version → nat_le n version ≡ true
lets_in n version h = grind (arith, nat_tests)

let_in : (n version : ℕ) → nat_le n version ≡ true → n ≤ version
let_in n version h = grind (arith, nat_tests)

both_pass : (a b : Bool) → (a && b) ≡ true → (a ≡ true) × (b ≡ true)
both_pass true b e = (refl, e)
both_pass false b e = absurd cc

-- the first that a test passes
first_found : (test : Bool) (command : Command) (later : Option Command) → test ≡ true
    → (if test then Some command else later) ≡ Some command
first_found true command later e = refl
first_found false command later e = absurd cc

found_word : (version : ℕ) (command : Command) → since command ≤ version
    → command_named version (word_of command) ≡ Some command
unfolding command_named commands
found_word version EditOpen h = first_found _ _ _ (lets_in 1 version h)
found_word version SystemOpen h = first_found _ _ _ (lets_in 1 version h)
found_word version SystemOpenLog h = first_found _ _ _ (lets_in 1 version h)
found_word version SystemClose h = first_found _ _ _ (lets_in 1 version h)
found_word version SystemRecall h = first_found _ _ _ (lets_in 1 version h)
found_word version SystemCopy h = first_found _ _ _ (lets_in 1 version h)
found_word version SystemClear h = first_found _ _ _ (lets_in 1 version h)
found_word version SystemDirectory h = first_found _ _ _ (lets_in 1 version h)
found_word version SystemDeleteFiles h = first_found _ _ _ (lets_in 1 version h)
found_word version SystemSetFont h = first_found _ _ _ (lets_in 1 version h)
found_word version SystemSetColor h = first_found _ _ _ (lets_in 1 version h)
found_word version SystemSetOffset h = first_found _ _ _ (lets_in 1 version h)
found_word version EditChangeFont h = first_found _ _ _ (lets_in 1 version h)
found_word version EditChangeColor h = first_found _ _ _ (lets_in 1 version h)
found_word version EditChangeOffset h = first_found _ _ _ (lets_in 1 version h)
found_word version EditStore h = first_found _ _ _ (lets_in 1 version h)
found_word version EditSearch h = first_found _ _ _ (lets_in 1 version h)
found_word version EditRecall h = first_found _ _ _ (lets_in 1 version h)
found_word version SystemCollect h = first_found _ _ _ (lets_in 2 version h)
found_word version SystemGrow h = first_found _ _ _ (lets_in 3 version h)

own_word : (version : ℕ) (word : List ℕ) (command : Command) → command_named version word ≡ Some command
    → (word ≡ word_of command) × (since command ≤ version)
unfolding command_named
own_word version word command e =
    let passes = found_passes (λ c. bytes_eq (word_of c) word && nat_le (since c) version) commands command e in
    let both = both_pass (bytes_eq (word_of command) word) (nat_le (since command) version) passes in
    (sym ((bytes_eq-Decides (word_of command) word).0 both.0), let_in (since command) version both.1)

pub one_word_each : OneWordEach
one_word_each version word command = (
  own_word version word command,
  λ is. ap (command_named version) is.0 ∙ found_word version command is.1,
)

short_word : (command : Command) → length (word_of command) ≤ 18
short_word EditOpen = omega arith
short_word SystemOpen = omega arith
short_word SystemOpenLog = omega arith
short_word SystemClose = omega arith
short_word SystemRecall = omega arith
short_word SystemCopy = omega arith
short_word SystemClear = omega arith
short_word SystemDirectory = omega arith
short_word SystemDeleteFiles = omega arith
short_word SystemSetFont = omega arith
short_word SystemSetColor = omega arith
short_word SystemSetOffset = omega arith
short_word EditChangeFont = omega arith
short_word EditChangeColor = omega arith
short_word EditChangeOffset = omega arith
short_word EditStore = omega arith
short_word EditSearch = omega arith
short_word EditRecall = omega arith
short_word SystemCollect = omega arith
short_word SystemGrow = omega arith

-- a longer word calls nothing
pub long_word : (version : ℕ) (word : List ℕ) → 18 < length word → command_named version word ≡ None
long_word version word long = by_named (command_named version word) refl where
  by_named : (found : Option Command) → command_named version word ≡ found → command_named version word ≡ None
  by_named None e = e
  by_named (Some command) e =
      let same = ap length (own_word version word command e).0 in
      let short = short_word command in
      absurd (omega (arith, long, same, short))

pub no_word : (version : ℕ) → command_named version [] ≡ None
unfolding command_named commands
no_word version = refl

pub option_map_self : {X : Type 0} (o : Option X) → o ≡ option_map (λ x. x) o
option_map_self None = refl
option_map_self (Some x) = refl
