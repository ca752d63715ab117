use Rattle.std.proofs.Common.{rules}
use Rattle.terminal_keyboard.proofs.Telling.{tells_end, tells_break, tells_text}
use Rattle.terminal_keyboard.proofs.paste.HostPaste.go_on.Goals as goal

pub returns-in-None-clause-text : goal.returns-in-None-clause-text
returns-in-None-clause-text g c = tells_break _ _ _ _ _ c.requires (search rules) c.of_bytes.ensures

pub returns-then-count-eq0-clause-text : goal.returns-then-count-eq0-clause-text
returns-then-count-eq0-clause-text g c =
    tells_end _ _ c.in-Some.count _ _ _ _ c.requires (search rules) c.in-Some.ensures.taken
    c.of_bytes-then-count-eq0.ensures

pub returns-clause-text : goal.returns-clause-text
returns-clause-text g c =
    tells_text _ _ c.in-Some.count _ _ c.read_some.new.buffer _ c.requires
    c.in-Some.ensures.within (search rules) c.in-Some.ensures.taken (search rules)
