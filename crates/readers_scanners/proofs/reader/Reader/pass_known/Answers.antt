use Rattle.std.proofs.Common.{arith}
use Rattle.piece_ring.specs.Flat.{flat}
use Rattle.readers_scanners.proofs.Ahead.{behind_it, behind_left, passed_behind, passed_whole, within_rest}
use Rattle.readers_scanners.proofs.Counting.{end_within}
use Rattle.readers_scanners.proofs.Upcoming.{standing}
use Rattle.readers_scanners.proofs.reader.Reader.pass_known.Goals as goal

pub count_known-requires : goal.count_known-requires
count_known-requires g c = λ some.
    end_within _ _ _ _ _ (standing _ _ _ _ _ _ c.self.view_is c.self.invariant) _ c.requires.offsets some

pub pass_pieces-after-requires-clause-offsets : goal.pass_pieces-after-requires-clause-offsets
pass_pieces-after-requires-clause-offsets g c =
    let is = standing _ _ _ _ _ _ c.self.view_is c.self.invariant in
    within_rest _ _ _ _ (behind_it _ _ _ _ _ is) c.requires.offsets

pub overflow_sub-reader : goal.overflow_sub-reader
overflow_sub-reader g c =
    let all = behind_left _ _ _ _ _ c.self.invariant in let within = c.pass_pieces-after.ensures.within in
    omega (arith, all, within)

pub invariant_of-reader : goal.invariant_of-reader
invariant_of-reader g c =
    let on = c.pass_pieces-after.ensures in let next = c.next_stretch-here.ensures in
    passed_behind _ _ _ _ _ c.self.invariant _ _ _ _ on.within on.rest next.text next.last next.fits

pub returns : goal.returns
returns g c =
    let first = c.in-Some.ensures in let on = c.pass_pieces-after.ensures in
    passed_whole (flat c.self.inside.text.now) c.self.inside.left c.self.inside.here (flat c.self.inside.cursor.left)
    c.self.invariant c.args.self c.self.view_is (g.S.CharSource.honest c.args.source.now)
    (g.S.CharSource.characters c.args.source.now) c.args.wanted c.args.fewer c.args.most c.in-Some.first
    c.pass_pieces-after.result.1 c.pass_pieces-after.result.2 c.requires.offsets first.counted first.most first.fewer
    on.within on.most on.exact on.few on.fewer
