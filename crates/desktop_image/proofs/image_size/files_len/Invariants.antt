use Rattle.std.proofs.Common.{◌≡◌, ◌+◌, length}
use Rattle.std.specs.List.{flat_map}
use Rattle.event_bytes.specs.Parts.{word_bytes}
use Rattle.image_format.specs.Image.{listed_bytes, file_bytes}
use Rattle.desktop_image.proofs.image_size.files_len.Given as goal

-- what was counted and what is to come
abbrev pub invariant-loop-name : goal.invariant-loop-name
invariant-loop-name l =
    l.sum + length (flat_map file_bytes l.name-iterator) ≡ length (listed_bytes word_bytes file_bytes l.files.entries)
