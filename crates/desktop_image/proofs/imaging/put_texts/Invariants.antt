use Rattle.std.proofs.Common.{All, []}
use Rattle.std.specs.List.{flat_map}
use Rattle.std.specs.Map.{keys_of, values_of}
use Rattle.event_bytes.specs.Parts.{word_bytes}
use Rattle.desktop_definitions.specs.Looks.{AreLooks}
use Rattle.desktop_definitions.specs.Seen.{seen_table}
use Rattle.image_format.specs.Image.{listed_bytes, text_bytes, AreSome, InWord}
use Rattle.image_format.proofs.Putting.{IsLeft}
use Rattle.desktop_image.proofs.imaging.put_texts.Given as goal

-- the texts so far were put, and those to come have looks
abbrev pub invariant-loop-number : goal.invariant-loop-number
invariant-loop-number g l = record {
  looks : All AreLooks (values_of (seen_table [] l.number-iterator));
  some : All AreSome (values_of l.number-iterator) → All AreSome (values_of l.fn.texts.entries);
  numbers : All InWord (keys_of l.number-iterator) → All InWord (keys_of l.fn.texts.entries);
  left : IsLeft g.K.ByteSink (listed_bytes word_bytes text_bytes l.fn.texts.entries) (flat_map text_bytes l.number-iterator)
      l.fn.sink l.sink;
}
