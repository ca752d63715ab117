-- Where a script stands while it is played, and the word that says why it ended.
use Rattle.std.specs.Prelude.{ℕ, List, [], Option, codes}
use Rattle.desk_journal.specs.View.{StoreView}
use Rattle.screen_pictures.specs.Printed.{ended_line}
use Rattle.oberon_main.specs.declared.playing.PlayEnd.{PlayEnd}
use Rattle.oberon_main.specs.declared.playing.PlayEnd.TheVariants.{Fault, Memory, Input}

-- where a script stands: what the reader has left and what the writer holds, where they tell that, and the store
pub record PlayState (D : Type 0) : Type 0 where
  pub left : Option (List ℕ)
  pub held : Option (List ℕ)
  pub store : StoreView D

abbrev pub play_state : {D : Type 0} → Option (List ℕ) → Option (List ℕ) → StoreView D → PlayState D
play_state left held store = record { left = left; held = held; store = store }

-- what stands after the last answer
abbrev pub last_word : PlayEnd → List ℕ
last_word Fault = ended_line (codes "fault")
last_word Memory = ended_line (codes "memory")
last_word Input = ended_line (codes "input")
last_word end = []
