use Rattle.std.proofs.Common.{◌≡◌, ◌-◌, ◌+◌, ◌≤◌, ℕ, List, ◌++◌, take, slice_range, arith, ap, ◌∙◌, sym}
use Rattle.std.proofs.Math.Seq.{take-add}
use Rattle.terminal_keyboard.proofs.script.ScriptedKeyboardKeyboard.hear.Goals as goal

take_on : {X : Type 0} (xs : List X) (a b : ℕ) → a ≤ b → take b xs ≡ take a xs ++ slice_range xs a b
take_on xs a b most =
    let same : b ≡ a + (b - a) = omega arith in
    ap (λ n. take n xs) same ∙ take-add a (b - a) xs

pub returns-clause-told : goal.returns-clause-told
returns-clause-told c =
    let told = c.args.self.now.told in
    let script = c.args.self.now.script.now in
    take_on script told (told + c.line_length.result) (omega arith) ∙ ap (λ l. take told script ++ l) (sym c.of-hearing.ensures)
