use Rattle.std.proofs.Common.{subst, sym, map}
use Rattle.terminal_keyboard.specs.Presses.{at_rest, presses_heard}
use Rattle.terminal_presses.specs.Hands.{idle}
use Rattle.terminal_presses.specs.Runs.{Types, posted_events, pasted_text}
use Rattle.terminal_keyboard.specs.HostPastes.{harmless}
use Rattle.terminal_keyboard.proofs.Told.{broken_is_pasted, whole_is_pasted, few_are_read, none_escapes}
use Rattle.terminal_keyboard.proofs.laws.texts_are_typed.Goals as goal

pub returns-clause-pasted : goal.returns-clause-pasted
returns-clause-pasted c = whole_is_pasted

pub returns-clause-typed : goal.returns-clause-typed
returns-clause-typed c most left text told sight hand all =
    let types = c.pastes_are_heard.ensures.typed sight hand (map harmless text) (none_escapes text) in
    subst (λ heard. Types (posted_events sight (idle hand) (presses_heard at_rest heard)) (pasted_text (map harmless text)))
    (sym (whole_is_pasted most left text told all)) types

pub returns-clause-few : goal.returns-clause-few
returns-clause-few c = few_are_read

pub returns-clause-broken : goal.returns-clause-broken
returns-clause-broken c = broken_is_pasted
