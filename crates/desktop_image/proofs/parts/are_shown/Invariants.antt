use Rattle.std.proofs.Common.{◌≡◌}
use Rattle.std.specs.List.{list_all}
use Rattle.std.specs.Map.{keys_of}
use Rattle.desktop_definitions.specs.Opening.{is_shown}
use Rattle.desktop_image.proofs.parts.are_shown.Given as goal

-- all so far are
abbrev pub invariant-loop-number : goal.invariant-loop-number
invariant-loop-number l =
    list_all (is_shown l.viewers.items) l.number-iterator
    ≡ list_all (is_shown l.viewers.items) (keys_of l.texts.entries)
