use Rattle.std.proofs.Common.{inl, inr, arith, rules}
use Rattle.std.proofs.lemmas.Result.{on_ok_weaker}
use Rattle.sector_disk.proofs.Confinement.{joined, widened}
use Rattle.desk_journal.proofs.Coming.{anew_then, held_then, live_then, shown_still, shown_then, with_still, with_then}
use Rattle.desk_journal.proofs.store.coming.renew_behind.Goals as goal

pub renew-requires : goal.renew-requires
renew-requires g c = record {
  room = omega (arith, c.requires.place.room, c.put_behind.ensures.kept.as_large);
  live = c.requires.place.live;
  goes = c.requires.place.goes;
}

pub returns-in_err-put_behind-clause-device : goal.returns-in_err-put_behind-clause-device
returns-in_err-put_behind-clause-device g c =
    let d = g.D.Disk in record {
      device = record {
        as_large = c.put_behind.ensures.kept.as_large;
        still = c.put_behind.ensures.kept.still;
        already = c.put_behind.ensures.kept.already;
      };
      within = widened d.size d.honest d.trail (λ n inside. inr inside) c.put_behind.ensures.kept;
      cause = search rules;
    }

pub returns-in_err-put_behind-clause-any_moment : goal.returns-in_err-put_behind-clause-any_moment
returns-in_err-put_behind-clause-any_moment g c =
    let d = g.D.Disk in
    let fit = c.requires.fit in
    let run = c.put_behind.ensures.kept in record {
      shown = λ honest live version number count before was.
          shown_still d c.args.limit fit.behind run honest c.args.place was _;
      standings = λ honest live version number count before was.
          with_still d c.args.limit fit.behind run honest c.args.place was _ _;
    }

pub returns-clause-device : goal.returns-clause-device
returns-clause-device g c =
    let d = g.D.Disk in record {
      device = search rules;
      within = joined d.size d.honest d.trail
          (widened d.size d.honest d.trail (λ n inside. inr inside) c.put_behind.ensures.kept)
          (widened d.size d.honest d.trail (λ n inside. inl inside) c.renew.ensures.within);
      cause = search rules;
    }

pub returns-clause-any_moment : goal.returns-clause-any_moment
returns-clause-any_moment g c =
    let d = g.D.Disk in
    let fit = c.requires.fit in
    let put = c.put_behind.ensures in
    let done = c.in_ok-put_behind.ensures in record {
      shown = shown_then d c.args.limit fit.behind put.kept c.args.desktop.now c.requires.place.live c.args.place
          done.quiet c.renew.ensures.any_moment.shown;
      standings = with_then d c.args.limit fit.behind put.kept c.args.desktop.now c.requires.place.live c.args.place
          done.quiet c.args.bytes.now done.held c.renew.ensures.within c.renew.ensures.any_moment;
    }

pub returns-clause-renewed : goal.returns-clause-renewed
returns-clause-renewed g c = on_ok_weaker c.renew.result
    (anew_then g.D.Disk c.args.limit c.requires.fit.behind c.put_behind.ensures.kept c.args.desktop.now
    c.requires.place.live c.args.place c.in_ok-put_behind.ensures.quiet) c.renew.ensures.renewed

pub returns-clause-held : goal.returns-clause-held
returns-clause-held g c = on_ok_weaker c.renew.result (λ done.
    held_then g.D.Disk c.args.limit c.requires.fit.behind c.put_behind.ensures.kept c.args.desktop.now
    c.requires.place.live c.args.place c.in_ok-put_behind.ensures.quiet c.args.bytes.now c.in_ok-put_behind.ensures.held
    c.renew.ensures.within) c.renew.ensures.renewed

pub returns-clause-left : goal.returns-clause-left
returns-clause-left g c = on_ok_weaker c.renew.result
    (live_then g.D.Disk c.args.limit c.requires.fit.behind c.put_behind.ensures.kept c.args.desktop.now
    c.requires.place.live c.args.place c.in_ok-put_behind.ensures.quiet) c.renew.ensures.left
