use Rattle.std.proofs.Common.{◌∙◌, ◌++◌, All, sym, subst}
use Rattle.char_file.proofs.Reading.{read_on}
use Rattle.piece_ring.specs.Flat.{flat}
use Rattle.piece_ring.specs.Text.{AreWithin}
use Rattle.readers_scanners.specs.Reading.{contents}
use Rattle.seen_desktops.proofs.Gathering.{text_on, texts_within}
use Rattle.seen_desktops.proofs.characters.add_table.Goals as goal

pub loop-text-preserved : goal.loop-text-preserved
loop-text-preserved g c =
    let s = g.S.CharSource in
    let i = c.loop-text.invariant in
    let r = c.in_ok-add_left.ensures in
    let characters = s.characters c.args.source.now in
    record {
      read = λ honest. text_on characters c.loop-text.all.items c.add_left.new.all.items _ c.loop-text.text-iterator
          c.next.new.self c.in-Some.text.now c.in-Some.ensures.steps
          (r.added (i.reads.still honest)
          ∙ (λ k. c.loop-text.all.items ++ contents (i.reads.same honest k) (flat (c.pieces_of.ensures k))))
          (i.read honest);
      inside = subst (λ n. All (λ pieces. AreWithin n (flat pieces)) c.next.new.self) (sym r.reads.as_long)
          (texts_within c.in-Some.ensures.steps i.inside);
      reads = read_on s.characters s.failures s.honest s.same_ground g.met.S.CharSource.ground_through _ _ _ i.reads
          r.reads;
      calm = r.faults.calm (λ wrong. absurd cc) ∙ i.calm;
    }
