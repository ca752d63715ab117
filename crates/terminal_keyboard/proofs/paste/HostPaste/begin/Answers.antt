use Rattle.terminal_keyboard.proofs.Telling.{tells_beginning}
use Rattle.terminal_keyboard.proofs.paste.HostPaste.begin.Goals as goal

pub returns : goal.returns
returns g c = tells_beginning _ _ _ _ c.requires c.of_bytes.ensures
