-- Presses in pieces.
use Rattle.std.proofs.Common.{◌≡◌, List, [], ◌∷◌, ◌++◌, refl, sym, ap, ◌∙◌, append_assoc}
use Rattle.terminal_presses.specs.declared.press.Press.{Press}
use Rattle.terminal_presses.specs.Sights.{Sight}
use Rattle.terminal_presses.specs.declared.hand.Hand.{Hand}
use Rattle.terminal_presses.specs.Hands.{handled}
use Rattle.terminal_presses.specs.Runs.{events_of_action, hand_after, posted_events}

pub hand_of_both : (sight : Sight) (hand : Hand) (first second : List Press)
    → hand_after sight hand (first ++ second) ≡ hand_after sight (hand_after sight hand first) second
hand_of_both sight hand [] second = refl
hand_of_both sight hand (press ∷ more) second = hand_of_both sight (handled sight press hand).0 more second

pub posted_of_both : (sight : Sight) (hand : Hand) (first second : List Press)
    → posted_events sight hand (first ++ second)
    ≡ posted_events sight hand first ++ posted_events sight (hand_after sight hand first) second
posted_of_both sight hand [] second = refl
posted_of_both sight hand (press ∷ more) second =
    ap (λ l. events_of_action (handled sight press hand).1 ++ l)
    (posted_of_both sight (handled sight press hand).0 more second)
    ∙ sym (append_assoc (events_of_action (handled sight press hand).1) (posted_events sight (handled sight press hand).0 more)
    (posted_events sight (hand_after sight (handled sight press hand).0 more) second))

pub ruleset of_both = (posted_of_both, hand_of_both)
