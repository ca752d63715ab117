use Rattle.std.proofs.Common.{◌≡◌, ◌∙◌, ◌+◌, ◌&&◌, ℕ, List, ap, drop, slice_index, sym}
use Rattle.char_file.proofs.Reading.{read_on}
use Rattle.piece_ring.specs.Flat.{run}
use Rattle.readers_scanners.specs.Reading.{contents}
use Rattle.desk_views.specs.Unstored.{is_same_text}
use Rattle.desk_views.proofs.Comparing.{same_run, stretches_at, stretches_end}
use Rattle.desk_views.proofs.same_texts.is_same_stretch.Goals as goal

pub returns-then-here-there-clause-same : goal.returns-then-here-there-clause-same
returns-then-here-there-clause-same g c = λ h.
    let characters = g.S.CharSource.characters c.args.source.now in
    let here = c.args.here in let there = c.args.there in let n = c.args.n in
    c.looks_alike.ensures ∙ sym (same_run characters here.off n here.look there.look c.requires.some)
    ∙ (λ i. is_same_text (contents characters (run here.off n here.look))
    (contents characters (run (c.if-here-there.true i) n there.look)))

pub returns-then-not-is_same_character-clause-same : goal.returns-then-not-is_same_character-clause-same
returns-then-not-is_same_character-clause-same g c = λ h.
    let s = g.S.CharSource in let laws = g.met.S.CharSource in let before = c.loop-at.invariant in
    let characters = s.characters c.args.source.now in
    let here = c.args.here in let there = c.args.there in let at = c.loop-at.at in
    let first = c.in_ok-byte.ensures in let second = c.in_ok-other.ensures in
    let passed = read_on s.characters s.failures s.honest s.same_ground laws.ground_through _ _ _ before.reads first.reads in
    sym (before.so_far h
    ∙ stretches_at characters here.off there.off c.args.n at here.look there.look c.in_ok-byte.byte c.in_ok-other.other
    c.loop-at-test.true
    (first.value (before.reads.still h) ∙ ap (λ (l : List ℕ). slice_index l (here.off + at)) (before.reads.same h))
    (second.value (passed.still h) ∙ ap (λ (l : List ℕ). slice_index l (there.off + at)) (passed.same h))
    ∙ ap (λ same. same && is_same_text (drop (at + 1) (contents characters (run here.off c.args.n here.look)))
    (drop (at + 1) (contents characters (run there.off c.args.n there.look))))
    (sym c.is_same_character.ensures ∙ c.if-not-is_same_character.true))

pub loop-at-preserved : goal.loop-at-preserved
loop-at-preserved g c =
    let s = g.S.CharSource in let laws = g.met.S.CharSource in let before = c.loop-at.invariant in
    let characters = s.characters c.args.source.now in
    let here = c.args.here in let there = c.args.there in let at = c.loop-at.at in
    let first = c.in_ok-byte.ensures in let second = c.in_ok-other.ensures in
    let passed = read_on s.characters s.failures s.honest s.same_ground laws.ground_through _ _ _ before.reads first.reads in
    record {
      so_far = λ h. before.so_far h
          ∙ stretches_at characters here.off there.off c.args.n at here.look there.look c.in_ok-byte.byte c.in_ok-other.other
          c.loop-at-test.true
          (first.value (before.reads.still h) ∙ ap (λ (l : List ℕ). slice_index l (here.off + at)) (before.reads.same h))
          (second.value (passed.still h) ∙ ap (λ (l : List ℕ). slice_index l (there.off + at)) (passed.same h))
          ∙ ap (λ same. same && is_same_text (drop (at + 1) (contents characters (run here.off c.args.n here.look)))
          (drop (at + 1) (contents characters (run there.off c.args.n there.look))))
          (sym c.is_same_character.ensures ∙ c.if-not-is_same_character.false);
      reads = read_on s.characters s.failures s.honest s.same_ground laws.ground_through _ _ _ passed second.reads;
      calm = second.cause ∙ first.cause ∙ before.calm;
    }

pub returns-clause-same : goal.returns-clause-same
returns-clause-same g c = λ h.
    let characters = g.S.CharSource.characters c.args.source.now in
    let here = c.args.here in let there = c.args.there in
    sym (c.loop-at.invariant.so_far h
    ∙ stretches_end characters here.off there.off c.args.n c.loop-at.at here.look there.look c.loop-at-test.false)
