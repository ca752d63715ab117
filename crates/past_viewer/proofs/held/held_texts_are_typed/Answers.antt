use Rattle.std.proofs.Common.{map, subst, sym}
use Rattle.terminal_keyboard.specs.Presses.{at_rest, presses_heard}
use Rattle.terminal_presses.specs.Hands.{idle}
use Rattle.terminal_presses.specs.Runs.{Types, posted_events, pasted_text}
use Rattle.terminal_keyboard.specs.HostPastes.{harmless}
use Rattle.past_viewer.proofs.Holding.{none_escapes, whole_is_pasted}
use Rattle.past_viewer.proofs.held.held_texts_are_typed.Goals as goal

pub returns-clause-pasted : goal.returns-clause-pasted
returns-clause-pasted c = whole_is_pasted

pub returns-clause-typed : goal.returns-clause-typed
returns-clause-typed c old text told sight hand all =
    let types = c.pastes_are_heard.ensures.typed sight hand (map harmless text) (none_escapes text) in
    subst (λ heard. Types (posted_events sight (idle hand) (presses_heard at_rest heard)) (pasted_text (map harmless text)))
    (sym (whole_is_pasted (map harmless text) told all)) types
