use Rattle.std.proofs.Common.{◌≡◌, ◌≤◌, ◌-◌, ◌++◌, length, drop}
use Rattle.char_file.specs.Source.{OnlyReads}
use Rattle.piece_ring.specs.Flat.{flat}
use Rattle.readers_scanners.specs.Reading.{contents}
use Rattle.desktop_definitions.specs.Listing.{listed_name}
use Rattle.desk_views.proofs.views.menu_name.Given as goal

-- the bytes before the reader were read, and none is a space
abbrev pub invariant-loop-bytes : goal.invariant-loop-bytes
invariant-loop-bytes g l =
    let s = g.S.CharSource in
    record {
      text : l.reader.text ≡ flat l.fn.menu;
      within : l.reader.position ≤ length (flat l.fn.menu);
      reads : OnlyReads s.characters s.failures s.honest s.same_ground l.fn.source l.source;
      calm : s.failures l.source ≡ s.failures l.fn.source;
      so_far : s.honest l.fn.source → l.bytes.items
          ++ listed_name (drop l.reader.position (contents (s.characters l.fn.source) (flat l.fn.menu)))
          ≡ listed_name (contents (s.characters l.fn.source) (flat l.fn.menu));
    }

abbrev pub decreases-loop-bytes : goal.decreases-loop-bytes
decreases-loop-bytes g l = length (flat l.fn.menu) - l.reader.position
