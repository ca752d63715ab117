-- What a part of an event promises that changes texts, frames or marks, and opens or closes no viewer.
use Rattle.std.specs.Prelude.{◌≡◌, ℕ, ◌+◌, List, length, map}
use Rattle.desktop_definitions.specs.Words.{keys_of, Viewer}
use Rattle.desktop_definitions.specs.Desktop.{Desktop, KeptDesktop, characters_held}
use Rattle.desktop_definitions.specs.Seen.{seen}
use Rattle.desktop_definitions.specs.Sound.{IsBuilt}

-- an id, and the numbers of the menu and main text of its viewer
abbrev pub texts_shown : List (ℕ × Viewer) → List (ℕ × ℕ × ℕ)
texts_shown viewers = map (λ e. (e.0, e.1.menu, e.1.main)) viewers

-- The same viewers show the same texts, and nothing was written.
pub record ShowsSameTexts (old new : KeptDesktop) : Type 0 where
  pub numbers : keys_of new.texts ≡ keys_of old.texts
  pub viewers : texts_shown new.viewers ≡ texts_shown old.viewers
  pub written : new.written ≡ old.written

-- A desktop that is kept among these characters after a part of an event: where the source was honest, it is seen as
-- this outcome; it holds so many characters more and so many fewer.
pub record IsChanged (honest : Type 0) (characters : List ℕ) (old new : KeptDesktop)
    (outcome : Desktop)
    (more fewer : ℕ)
    : Type 0 where
  pub exact : honest → seen characters new ≡ outcome
  -- whatever was read:
  pub built : IsBuilt (length characters) new
  pub counted : (all : List ℕ) → characters_held (seen all new) + fewer
      ≡ characters_held (seen all old) + more
  pub rest : ShowsSameTexts old new

-- A desktop that is kept, inside an event: its characters are those that were written.
pub record IsStanding (characters : List ℕ) (d : KeptDesktop) : Type 0 where
  pub counted : length characters ≡ d.written
  pub built : IsBuilt (length characters) d

-- A desktop that is kept among new characters after a part of an event that wrote so many, and holds them: where they
-- were told truly, it is seen as what the part makes of the desktop before.
pub record IsExtended (honest : Type 0) (old new : List ℕ) (before after : KeptDesktop)
    (part : Desktop → Desktop)
    (more : ℕ) : Type 0 where
  pub exact : honest → seen new after ≡ part (seen old before)
  -- whatever was read:
  pub stands : IsStanding new after
  pub counted : (all : List ℕ) → characters_held (seen all after)
      ≡ characters_held (seen all before) + more
  pub numbers : keys_of after.texts ≡ keys_of before.texts
  pub viewers : texts_shown after.viewers ≡ texts_shown before.viewers
  pub written : after.written ≡ before.written + more

-- A part of an event, as the definitions have it: the same viewers show the same texts, nothing was written, and so
-- many characters more and so many fewer are held.
pub record CountsHeld (old new : Desktop) (more fewer : ℕ) : Type 0 where
  pub counted : characters_held new + fewer ≡ characters_held old + more
  pub numbers : keys_of new.texts ≡ keys_of old.texts
  pub viewers : texts_shown new.viewers ≡ texts_shown old.viewers
  pub written : new.written ≡ old.written
