use Rattle.std.proofs.Common.{◌∙◌}
use Rattle.char_file.proofs.Reading.{read_on}
use Rattle.store_slots.proofs.CharacterRead.{one_read_more}
use Rattle.store_slots.proofs.reading.read_all.Goals as goal

pub loop-characters-preserved : goal.loop-characters-preserved
loop-characters-preserved g c =
    let i = c.loop-characters.invariant in
    let r = c.in_ok-character.ensures in
    let C = g.S.CharSource in
    let more = one_read_more C i.text i.within i.reads r.item c.in-Some.is r.moves i.so_far
    c.in_ok-push.ensures.items in
    record {
      text = r.text ∙ i.text;
      within = more.0;
      reads = read_on C.characters C.failures C.honest C.same_ground g.met.S.CharSource.ground_through
          c.args.source.now c.loop-characters.source c.read.new.source i.reads r.reads;
      calm = r.cause ∙ i.calm;
      so_far = more.1;
    }
