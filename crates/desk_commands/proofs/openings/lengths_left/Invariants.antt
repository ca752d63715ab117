use Rattle.std.proofs.Common.{◌≡◌, ◌+◌, ◌==◌, ◌||◌}
use Rattle.viewer_tracks.specs.Viewers.{id_number}
use Rattle.desktop_definitions.specs.DeskWords.{still_shown, kept_left}
use Rattle.desk_commands.proofs.openings.lengths_left.Given as goal

-- what was counted and what is to come
abbrev pub invariant-loop-number : goal.invariant-loop-number
invariant-loop-number l =
    l.sum + kept_left (λ n. (n == 0) || still_shown (id_number l.gone) l.viewers.items n) l.number-iterator
    ≡ kept_left (λ n. (n == 0) || still_shown (id_number l.gone) l.viewers.items n) l.texts.entries
