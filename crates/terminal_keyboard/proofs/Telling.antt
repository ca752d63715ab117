-- Each thing that is told of a text.
use Rattle.std.proofs.Common.{◌≡◌, ◌≤◌, ℕ, ◌+◌, ◌-◌, List, [], length, take, map, Option, ◌++◌, sym, subst, arith}
use Rattle.std.specs.Io.KnownBytes.{Consumes}
use Rattle.std.proofs.KnownBytes.{Consumes-nil}
use Rattle.std.proofs.lemmas.List.{length-take-le}
use Rattle.terminal_presses.specs.declared.press.Heard.{Heard}
use Rattle.terminal_keyboard.specs.Spelling.{bytes_heard}
use Rattle.terminal_keyboard.specs.declared.paste.Stage.{Stage}
use Rattle.terminal_keyboard.specs.declared.paste.Stage.TheVariants.{Begins, GoesOn, Ended, Broken}
use Rattle.terminal_keyboard.specs.HostPastes.{TellsText, begins, goes_on, ends, breaks, TakesText, harmless}
use Rattle.terminal_keyboard.specs.HostPastes.{paste_begins, paste_ends, file_fails}

pub tells_beginning : (stage : Stage) (left : ℕ) (known : Option (List ℕ)) (told : List Heard)
    → stage ≡ Begins → told ≡ bytes_heard paste_begins → TakesText stage GoesOn left left known known told
tells_beginning stage left known told at_first is =
    let first : TellsText Begins left GoesOn left [] told =
    subst (λ t. TellsText Begins left GoesOn left [] t) (sym is) begins in
    record {
      text = [];
      read = Consumes-nil known;
      tells = subst (λ s. TellsText s left GoesOn left [] told) (sym at_first) first;
    }

pub tells_end : (stage : Stage) (left count : ℕ) (known known' : Option (List ℕ)) (buffer : List ℕ) (told : List Heard)
    → stage ≡ GoesOn → count ≡ 0 → Consumes known known' (take count buffer) → told ≡ bytes_heard paste_ends
    → TakesText stage Ended left left known known' told
tells_end stage left count known known' buffer told amid none read is =
    let last : TellsText GoesOn left Ended left [] told = subst (λ t. TellsText GoesOn left Ended left [] t) (sym is) ends in
    record {
      text = [];
      read = subst (λ n. Consumes known known' (take n buffer)) none read;
      tells = subst (λ s. TellsText s left Ended left [] told) (sym amid) last;
    }

pub tells_break : (stage : Stage) (left : ℕ) (known known' : Option (List ℕ)) (told : List Heard)
    → stage ≡ GoesOn → Consumes known known' [] → told ≡ bytes_heard (paste_ends ++ file_fails)
    → TakesText stage Broken left left known known' told
tells_break stage left known known' told amid read is =
    let last : TellsText GoesOn left Broken left [] told =
    subst (λ t. TellsText GoesOn left Broken left [] t) (sym is) breaks in
    record {
      text = [];
      read = read;
      tells = subst (λ s. TellsText s left Broken left [] told) (sym amid) last;
    }

more_told : (left : ℕ) (text : List ℕ) → length text ≤ left
    → TellsText GoesOn left GoesOn (left - length text) text (bytes_heard (map harmless text))
more_told left text most =
    let sum : left - length text + length text ≡ left = omega arith in
    subst (λ n. TellsText GoesOn n GoesOn (left - length text) text (bytes_heard (map harmless text))) sum goes_on

pub tells_text : (stage : Stage) (left count : ℕ) (known known' : Option (List ℕ)) (buffer : List ℕ)
    (told : List Heard) → stage ≡ GoesOn → count ≤ length buffer → count ≤ left
    → Consumes known known' (take count buffer) → told ≡ bytes_heard (map harmless (take count buffer))
    → TakesText stage stage left (left - count) known known' told
tells_text stage left count known known' buffer told amid within most read is =
    let text = take count buffer in
    let long : length text ≡ count = length-take-le count buffer within in
    let more : TellsText GoesOn left GoesOn (left - length text) text (bytes_heard (map harmless text)) =
    more_told left text (subst (λ n. n ≤ left) (sym long) most) in
    let counted = subst (λ n. TellsText GoesOn left GoesOn (left - n) text (bytes_heard (map harmless text))) long more in
    let said = subst (λ t. TellsText GoesOn left GoesOn (left - count) text t) (sym is) counted in
    record {
      text = text;
      read = read;
      tells = subst (λ s. TellsText s left s (left - count) text told) (sym amid) said;
    }
