use Rattle.std.proofs.Common.{◌≡◌, ◌≤◌, ◌-◌, length, take}
use Rattle.char_file.specs.Source.{OnlyReads}
use Rattle.piece_ring.specs.Flat.{flat}
use Rattle.readers_scanners.specs.Reading.{contents}
use Rattle.store_slots.proofs.reading.read_all.Given as goal

-- the characters before the reader were read
abbrev pub invariant-loop-characters : goal.invariant-loop-characters
invariant-loop-characters g l = record {
  text : l.reader.text ≡ flat l.fn.text;
  within : l.reader.position ≤ length (flat l.fn.text);
  reads : OnlyReads g.S.CharSource.characters g.S.CharSource.failures g.S.CharSource.honest g.S.CharSource.same_ground
      l.fn.source l.source;
  calm : g.S.CharSource.failures l.source ≡ g.S.CharSource.failures l.fn.source;
  so_far : g.S.CharSource.honest l.fn.source → l.characters.items
      ≡ take l.reader.position (contents (g.S.CharSource.characters l.fn.source) (flat l.fn.text));
}

abbrev pub decreases-loop-characters : goal.decreases-loop-characters
decreases-loop-characters g l = length (flat l.fn.text) - l.reader.position
