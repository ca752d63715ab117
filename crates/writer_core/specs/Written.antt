-- What a writer has, and what a call that writes does to it and to the source of the characters.
use Rattle.std.specs.Prelude.{ℕ, ◌≡◌, ◌⊎◌, List, ◌++◌, length}
use Rattle.piece_ring.specs.declared.piece.Look.{Look}
use Rattle.piece_ring.specs.Flat.{run}
use Rattle.piece_ring.specs.Text.{Text}

-- the characters that were written and not handed out yet, by offset and look, and the look of those to come
pub record Written : Type 0 where
  pub text : Text ℕ
  pub look : Look

-- What a call that wrote bytes has added.
pub record IsWritten (bytes before after : List ℕ) (old new : Written) : Type 0 where
  -- the source has the bytes after what it had
  pub added : after ≡ before ++ bytes
  -- the writer has exactly these characters after its own, in its look
  pub gathered : new.text ≡ old.text ++ run (length before) (length bytes) old.look
  -- its look stays
  pub same_look : new.look ≡ old.look

-- What a call leaves that was refused memory.
pub record IsRefused (bytes before after : List ℕ) (old new : Written) : Type 0 where
  -- the source has what it had, and maybe the bytes after it, which no text names
  pub unused : (after ≡ before) ⊎ (after ≡ before ++ bytes)
  -- the writer is as it was
  pub same_text : new.text ≡ old.text
  pub same_look : new.look ≡ old.look
