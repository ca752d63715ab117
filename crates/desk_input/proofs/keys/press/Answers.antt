use Rattle.desktop_definitions.specs.Keys.{after_key}
use Rattle.desktop_definitions.specs.Unread.{key_needs_no_byte}
use Rattle.desk_input.proofs.StillLemmas.{unread_where}
use Rattle.desk_input.proofs.keys.press.Goals as goal

pub returns-in-Copy : goal.returns-in-Copy
unfolding key_needs_no_byte
returns-in-Copy g c = rw c.in-Copy.is (unread_where g.S.CharSource (λ h. tt) c.copy.ensures)

pub returns-in-Paste : goal.returns-in-Paste
unfolding after_key key_needs_no_byte
returns-in-Paste g c = rw c.in-Paste.is c.put_buffer.ensures

pub returns-in-Escape : goal.returns-in-Escape
unfolding key_needs_no_byte
returns-in-Escape g c = rw c.in-Escape.is (unread_where g.S.CharSource (λ h. tt) c.escape.ensures)
