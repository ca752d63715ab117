use Rattle.std.proofs.Common.{map, refl, ap, arith}
use Rattle.std.proofs.lemmas.List.{map_push}
use Rattle.image_format.specs.Pictures.{entry_of_stretch}
use Rattle.image_format.proofs.Loop.{begins, goes_on, stops, is_done}
use Rattle.image_format.proofs.reading.tracks.many_track.Goals as goal

pub loop-init : goal.loop-init
loop-init g c = record {
  at = begins g.met.S.ByteSource.ground_self c.args.source.now _ (ap (map entry_of_stretch) c.new-track.ensures);
  short = rw c.new-track.ensures (omega arith);
}

pub loop-preserved : goal.loop-preserved
loop-preserved g c = record {
  at = rw (c.push.ensures.items, map_push entry_of_stretch c.loop.track.items c.in_ok-stretch.stretch)
      (goes_on g.met.S.ByteSource.ground_through c.loop.invariant.at _ _ c.loop-test.true c.in_ok-stretch.ensures.reads
      c.in_ok-stretch.ensures.fits);
  short = omega (
    arith,
    c.push.ensures.len,
    c.loop.invariant.short,
    c.in_ok-stretch.ensures.fits.some,
    c.in_ok-stretch.ensures.fits.short,
  );
}

pub returns-in_err-stretch : goal.returns-in_err-stretch
returns-in_err-stretch g c = stops g.met.S.ByteSource.ground_through c.loop.invariant.at c.from_residual.ensures.1
    c.loop-test.true c.in_err-stretch.ensures.reads

pub returns : goal.returns
returns g c = is_done c.loop.invariant.at c.loop-test.false refl
