use Rattle.std.proofs.Common.{◌≡◌, drop}
use Rattle.char_file.specs.Source.{OnlyReads}
use Rattle.piece_ring.specs.Flat.{run}
use Rattle.readers_scanners.specs.Reading.{contents}
use Rattle.desk_views.specs.Unstored.{is_same_text}
use Rattle.desk_views.proofs.same_texts.is_same_stretch.Given as goal

-- the characters before the place are the same, and nothing failed
abbrev pub invariant-loop-at : goal.invariant-loop-at
invariant-loop-at g l =
    let s = g.S.CharSource in
    let one = contents (s.characters l.fn.source) (run l.here.off l.n l.here.look) in
    let two = contents (s.characters l.fn.source) (run l.there.off l.n l.there.look) in
    record {
      so_far : s.honest l.fn.source → is_same_text one two ≡ is_same_text (drop l.at one) (drop l.at two);
      reads : OnlyReads s.characters s.failures s.honest s.same_ground l.fn.source l.source;
      calm : s.failures l.source ≡ s.failures l.fn.source;
    }
