use Rattle.std.proofs.Common.{◌≡◌, ◌++◌, length, flat_map, All}
use Rattle.char_file.specs.Source.{OnlyReads}
use Rattle.piece_ring.specs.Flat.{flat}
use Rattle.piece_ring.specs.Text.{AreWithin}
use Rattle.desktop_definitions.specs.Seen.{seen_text}
use Rattle.std.specs.Map.{values_of}
use Rattle.seen_desktops.proofs.characters.add_table.Given as goal

-- the texts so far were added, those to come stand behind them, and nothing failed
abbrev pub invariant-loop-text : goal.invariant-loop-text
invariant-loop-text g l =
    let s = g.S.CharSource in
    record {
      read : s.honest l.fn.source → l.all.items ++ flat_map (seen_text (s.characters l.fn.source)) l.text-iterator
          ≡ l.fn.all.items ++ flat_map (seen_text (s.characters l.fn.source)) (values_of l.fn.table.entries);
      inside : All (λ pieces. AreWithin (length (s.characters l.source)) (flat pieces)) l.text-iterator;
      reads : OnlyReads s.characters s.failures s.honest s.same_ground l.fn.source l.source;
      calm : s.failures l.source ≡ s.failures l.fn.source;
    }
