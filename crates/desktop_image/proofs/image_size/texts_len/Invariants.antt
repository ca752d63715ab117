use Rattle.std.proofs.Common.{◌≡◌, ◌+◌, length}
use Rattle.std.specs.List.{flat_map}
use Rattle.event_bytes.specs.Parts.{word_bytes}
use Rattle.image_format.specs.Image.{listed_bytes, text_bytes}
use Rattle.desktop_image.proofs.image_size.texts_len.Given as goal

-- what was counted and what is to come
abbrev pub invariant-loop-number : goal.invariant-loop-number
invariant-loop-number l =
    l.sum + length (flat_map text_bytes l.number-iterator) ≡ length (listed_bytes word_bytes text_bytes l.texts.entries)
