use Rattle.std.proofs.lemmas.Result.{on_ok_weaker}
use Rattle.viewer_tracks.specs.declared.display.Track.TheVariants.{User, System}
use Rattle.image_format.proofs.Putting.{then_put, same_put}
use Rattle.desk_core.specs.Kept.{kept_desktop}
use Rattle.desktop_image.proofs.ImageLemmas.{image_in_three}
use Rattle.desktop_image.proofs.imaging.put_parts.Goals as goal

pub returns-clause-puts : goal.returns-clause-puts
returns-clause-puts g c =
    let k = g.K.ByteSink in
    let through = g.met.K.ByteSink.ground_through in
    same_put k (image_in_three (kept_desktop c.args.desk.now)) (then_put k through c.in_ok-put_settings.ensures
    (then_put k through c.in_ok-put_tables.ensures.puts c.put_display.ensures.puts))

pub returns-clause-spellable : goal.returns-clause-spellable
returns-clause-spellable g c =
    on_ok_weaker c.put_display.result (λ ids. record {
      tables = c.in_ok-put_tables.ensures.tables;
      ids = ids;
      user = c.requires.levels User;
      system = c.requires.levels System;
    }) c.put_display.ensures.ids
