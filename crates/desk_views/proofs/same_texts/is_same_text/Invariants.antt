use Rattle.std.proofs.Common.{◌≡◌, ◌+◌, ◌^◌, ◌<◌, ◌++◌, [], length}
use Rattle.char_file.specs.Source.{OnlyReads}
use Rattle.piece_ring.specs.Flat.{characters_of, flat}
use Rattle.piece_ring.specs.Text.{AreWithin}
use Rattle.readers_scanners.specs.Reading.{contents}
use Rattle.desk_views.specs.Unstored.{is_same_text}
use Rattle.desk_views.proofs.same_texts.is_same_text.Given as goal

-- what was passed is the same, and nothing failed
abbrev pub invariant-loop-here : goal.invariant-loop-here
invariant-loop-here g l =
    let s = g.S.CharSource in
    let one = characters_of l.here ++ flat l.left.left in
    let two = characters_of l.there ++ flat l.beside.left in
    record {
      so_far : s.honest l.fn.source
          → is_same_text (contents (s.characters l.fn.source) (flat l.text)) (contents (s.characters l.fn.source) (flat l.other))
          ≡ is_same_text (contents (s.characters l.fn.source) one) (contents (s.characters l.fn.source) two);
      inside : AreWithin (length (s.characters l.fn.source)) one;
      others : AreWithin (length (s.characters l.fn.source)) two;
      fits : l.here.off + l.here.len < 2 ^ 32;
      suits : l.there.off + l.there.len < 2 ^ 32;
      last : l.here.len ≡ 0 → flat l.left.left ≡ [];
      ends : l.there.len ≡ 0 → flat l.beside.left ≡ [];
      reads : OnlyReads s.characters s.failures s.honest s.same_ground l.fn.source l.source;
      calm : s.failures l.source ≡ s.failures l.fn.source;
    }

abbrev pub decreases-loop-here : goal.decreases-loop-here
decreases-loop-here g l = length (characters_of l.here ++ flat l.left.left)
