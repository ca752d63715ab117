use Rattle.std.proofs.Common.{◌≡◌, ◌++◌, length, map, take, drop}
use Rattle.char_file.specs.Source.{OnlyReads}
use Rattle.piece_ring.specs.Flat.{flat}
use Rattle.readers_scanners.specs.Reading.{bytes_of_text}
use Rattle.desktop_definitions.specs.Change.{following_viewer}
use Rattle.desk_core.proofs.ViewerLemmas.{HaveMoved}
use Rattle.desk_core.proofs.viewers.follow_all.Given as goal

-- the frames so far have followed, and nothing failed
abbrev pub invariant-loop-at : goal.invariant-loop-at
invariant-loop-at g l =
    let s = g.S.CharSource in
    record {
      moved : HaveMoved l.change.number (length (flat l.text)) l.at l.fn.viewers.items l.viewers.items;
      exact : s.honest l.fn.source → l.viewers.items ≡ map (λ e. (
        e.0,
        following_viewer l.change.number (bytes_of_text (s.characters l.fn.source) (flat l.text)) l.change.pos l.change.more
            l.change.fewer e.1,
      )) (take l.at l.fn.viewers.items)
          ++ drop l.at l.fn.viewers.items;
      reads : OnlyReads s.characters s.failures s.honest s.same_ground l.fn.source l.source;
      calm : s.failures l.source ≡ s.failures l.fn.source;
    }
