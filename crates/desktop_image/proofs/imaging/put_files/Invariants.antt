use Rattle.std.proofs.Common.{All, []}
use Rattle.std.specs.List.{flat_map}
use Rattle.std.specs.Map.{values_of}
use Rattle.event_bytes.specs.Parts.{word_bytes}
use Rattle.desktop_definitions.specs.Looks.{AreLooks}
use Rattle.desktop_definitions.specs.Seen.{seen_table}
use Rattle.image_format.specs.Image.{listed_bytes, file_bytes, AreSome}
use Rattle.image_format.proofs.Putting.{IsLeft}
use Rattle.desktop_image.proofs.imaging.put_files.Given as goal

-- the files so far were put, and those to come have looks
abbrev pub invariant-loop-name : goal.invariant-loop-name
invariant-loop-name g l = record {
  looks : All AreLooks (values_of (seen_table [] l.name-iterator));
  some : All AreSome (values_of l.name-iterator) → All AreSome (values_of l.fn.files.entries);
  left : IsLeft g.K.ByteSink (listed_bytes word_bytes file_bytes l.fn.files.entries) (flat_map file_bytes l.name-iterator)
      l.fn.sink l.sink;
}
