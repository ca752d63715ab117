-- The parts of a printed screen.
use Rattle.std.proofs.Common.{◌≡◌, ℕ, List, ◌++◌, Option, refl, subst}
use Rattle.std.specs.Prelude.{codes}
use Rattle.std.specs.Io.KnownBytes.{Appends}
use Rattle.screen_pictures.specs.declared.cell.Cell.{Cell}
use Rattle.screen_pictures.specs.Printed.{printed, character_lines, mark_lines, ended_line}
use Rattle.byte_streams.proofs.Taking.{HasTaken, taken_none, taken_part}

-- what is left after the characters, and after the first word
abbrev pub after_marks : List (List Cell) → List ℕ
after_marks screen = mark_lines screen ++ ended_line (codes "end")

abbrev pub after_characters : List (List Cell) → List ℕ
after_characters screen = ended_line (codes "marks") ++ after_marks screen

parts : (screen : List (List Cell)) → printed screen ≡ character_lines screen ++ after_characters screen
unfolding printed
parts screen = refl

pub nothing_taken : (old : Option (List ℕ)) (screen : List (List Cell))
    → HasTaken old old (printed screen) (character_lines screen ++ after_characters screen)
nothing_taken old screen = subst (HasTaken old old (printed screen)) (parts screen) (taken_none old (printed screen))

pub characters_taken : (old new : Option (List ℕ)) (screen : List (List Cell))
    → Appends old new (character_lines screen)
    → HasTaken old new (printed screen) (after_characters screen)
characters_taken old new screen now = taken_part old old new (printed screen) (character_lines screen)
    (after_characters screen) (nothing_taken old screen) now

pub word_taken : (old mid new : Option (List ℕ)) (screen : List (List Cell))
    → Appends old mid (character_lines screen) → Appends mid new (ended_line (codes "marks"))
    → HasTaken old new (printed screen) (after_marks screen)
word_taken old mid new screen first now =
    taken_part old mid new (printed screen) (ended_line (codes "marks")) (after_marks screen)
    (characters_taken old mid screen first) now

pub marks_taken : (old mid now new : Option (List ℕ)) (screen : List (List Cell))
    → Appends old mid (character_lines screen) → Appends mid now (ended_line (codes "marks"))
    → Appends now new (mark_lines screen) → HasTaken old new (printed screen) (ended_line (codes "end"))
marks_taken old mid now new screen first second third =
    taken_part old now new (printed screen) (mark_lines screen) (ended_line (codes "end"))
    (word_taken old mid now screen first second) third
