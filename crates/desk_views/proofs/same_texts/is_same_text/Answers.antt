use Rattle.std.proofs.Common.{◌≡◌, ◌∙◌, ◌+◌, ◌-◌, ◌&&◌, ◌<◌, ◌≤◌, ◌++◌, ℕ, List, Bool, ap, arith, length, subst, sym}
use Rattle.char_file.proofs.Reading.{read_on}
use Rattle.piece_ring.specs.Flat.{characters_of, flat, run}
use Rattle.piece_ring.specs.Text.{AreWithin}
use Rattle.readers_scanners.specs.Reading.{contents}
use Rattle.desk_views.specs.Unstored.{is_same_text}
use Rattle.desk_views.proofs.Comparing.{at_end, behind_stretches, cut_stretch, other_none, piece_within, read_other}
use Rattle.desk_views.proofs.Comparing.{rest_within, same_none, shorter}
use Rattle.desk_views.proofs.same_texts.is_same_text.Goals as goal

pub returns-then-len-clause-same : goal.returns-then-len-clause-same
returns-then-len-clause-same g c = λ h. read_other _ _ _ _ _ c.len-len.ensures c.len.ensures c.if-len.true

pub returns-then-there-eq0-clause-same : goal.returns-then-there-eq0-clause-same
returns-then-there-eq0-clause-same g c = λ h.
    let here = c.loop-here.here in let there = c.loop-here.there in let before = c.loop-here.invariant in
    sym (before.so_far h ∙ other_none _ _ here.len here.off here.look (flat c.loop-here.left.left) c.loop-here-test.true
    (at_end there.off there.len there.look (flat c.loop-here.beside.left) c.if-there-eq0.true before.ends))

pub is_same_stretch-requires-clause-here : goal.is_same_stretch-requires-clause-here
is_same_stretch-requires-clause-here g c =
    let here = c.loop-here.here in let before = c.loop-here.invariant in let n : ℕ = c.min-n.result in
    let some : 0 < n = omega (arith, c.min-n.ensures, c.loop-here-test.true, c.if-there-eq0.false) in
    let low : n ≤ here.len = omega (arith, c.min-n.ensures) in
    let within = piece_within _ here.off n here.len here.look (flat c.loop-here.left.left) some low before.inside in
    (omega (arith, within, before.reads.as_long), omega (arith, low, before.fits))

pub is_same_stretch-requires-clause-there : goal.is_same_stretch-requires-clause-there
is_same_stretch-requires-clause-there g c =
    let there = c.loop-here.there in let before = c.loop-here.invariant in let n : ℕ = c.min-n.result in
    let some : 0 < n = omega (arith, c.min-n.ensures, c.loop-here-test.true, c.if-there-eq0.false) in
    let low : n ≤ there.len = omega (arith, c.min-n.ensures) in
    let within = piece_within _ there.off n there.len there.look (flat c.loop-here.beside.left) some low before.others in
    (omega (arith, within, before.reads.as_long), omega (arith, low, before.suits))

pub returns-then-not-branch-clause-same : goal.returns-then-not-branch-clause-same
returns-then-not-branch-clause-same g c = λ h.
    let characters = g.S.CharSource.characters c.args.source.now in
    let here = c.loop-here.here in let there = c.loop-here.there in let before = c.loop-here.invariant in
    let n : ℕ = c.min-n.result in
    let low : n ≤ here.len = omega (arith, c.min-n.ensures) in
    let lower : n ≤ there.len = omega (arith, c.min-n.ensures) in
    let more = flat c.loop-here.left.left in let others = flat c.loop-here.beside.left in
    sym (before.so_far h
    ∙ behind_stretches characters here.off there.off n here.look there.look _ _ _ _
    (cut_stretch here.off n here.len here.look more low) (cut_stretch there.off n there.len there.look others lower)
    ∙ ap (λ (same : Bool). same && is_same_text
    (contents characters (run (here.off + n) (here.len - n) here.look ++ more))
    (contents characters (run (there.off + n) (there.len - n) there.look ++ others)))
    (sym (c.in_ok-is_same_stretch.ensures.same (before.reads.still h)
    ∙ ap (λ (read : List ℕ). is_same_text (contents read (run here.off n here.look))
    (contents read (run there.off n there.look))) (before.reads.same h)) ∙ c.if-not-branch.true))

pub loop-here-smaller : goal.loop-here-smaller
loop-here-smaller g c =
    let here = c.loop-here.here in let n : ℕ = c.min-n.result in
    let some : 0 < n = omega (arith, c.min-n.ensures, c.loop-here-test.true, c.if-there-eq0.false) in
    shorter here.off n here.look _ _ some c.passed-here.ensures.text

pub loop-here-preserved : goal.loop-here-preserved
loop-here-preserved g c =
    let s = g.S.CharSource in let characters = s.characters c.args.source.now in
    let here = c.loop-here.here in let there = c.loop-here.there in let before = c.loop-here.invariant in
    let n : ℕ = c.min-n.result in
    let done = c.in_ok-is_same_stretch.ensures in
    let rest = characters_of c.passed-here.result ++ flat c.passed-here.new.cursor.left in
    let others = characters_of c.passed-there.result ++ flat c.passed-there.new.cursor.left in
    record {
      so_far = λ h. before.so_far h
          ∙ behind_stretches characters here.off there.off n here.look there.look _ _ rest others
          c.passed-here.ensures.text c.passed-there.ensures.text
          ∙ ap (λ (same : Bool). same && is_same_text (contents characters rest) (contents characters others))
          (sym (done.same (before.reads.still h)
          ∙ ap (λ (read : List ℕ). is_same_text (contents read (run here.off n here.look))
          (contents read (run there.off n there.look))) (before.reads.same h)) ∙ c.if-not-branch.false);
      inside = rest_within _ here.off n here.look rest (subst (AreWithin (length characters)) c.passed-here.ensures.text
          before.inside);
      others = rest_within _ there.off n there.look others (subst (AreWithin (length characters)) c.passed-there.ensures.text
          before.others);
      fits = c.passed-here.ensures.fits;
      suits = c.passed-there.ensures.fits;
      last = c.passed-here.ensures.last;
      ends = c.passed-there.ensures.last;
      reads = read_on s.characters s.failures s.honest s.same_ground g.met.S.CharSource.ground_through _ _ _ before.reads
          done.source.reads;
      calm = done.source.cause ∙ before.calm;
    }

pub returns-clause-same : goal.returns-clause-same
returns-clause-same g c = λ h.
    let here = c.loop-here.here in let there = c.loop-here.there in let before = c.loop-here.invariant in
    sym (before.so_far h ∙ same_none _ _ there.len there.off there.look (flat c.loop-here.beside.left)
    (at_end here.off here.len here.look (flat c.loop-here.left.left) (omega (arith, c.loop-here-test.false)) before.last)
    before.ends)
