use Rattle.std.proofs.Common.{◌≡◌, drop}
use Rattle.std.specs.List.{list_any}
use Rattle.char_file.specs.Source.{OnlyReads}
use Rattle.desktop_definitions.specs.Seen.{seen}
use Rattle.desk_core.specs.Kept.{kept_desktop}
use Rattle.desk_views.specs.Losses.{is_rival}
use Rattle.desk_views.proofs.rivals.has_rival.Given as goal

-- the viewers to come decide
abbrev pub invariant-loop-at : goal.invariant-loop-at
invariant-loop-at g l =
    let s = g.S.CharSource in
    let d = kept_desktop l.desk in
    let x = seen (s.characters l.fn.source) d in
    record {
      reads : OnlyReads s.characters s.failures s.honest s.same_ground l.fn.source l.source;
      calm : s.failures l.source ≡ s.failures l.fn.source;
      so_far : s.honest l.fn.source → list_any (is_rival x l.number l.name) d.viewers
          ≡ list_any (is_rival x l.number l.name) (drop l.at d.viewers);
    }
