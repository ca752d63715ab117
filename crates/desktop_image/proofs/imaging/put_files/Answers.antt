use Rattle.event_bytes.specs.Parts.{word_bytes}
use Rattle.image_format.specs.Image.{listed_bytes, file_bytes}
use Rattle.image_format.proofs.Putting.{item_put}
use Rattle.desktop_image.proofs.Tables.{first_looks, later_look, some_then}
use Rattle.desktop_image.proofs.imaging.put_files.Goals as goal

pub put_file-requires : goal.put_file-requires
put_file-requires g c = first_looks c.in-Some.ensures.steps c.loop-name.invariant.looks

pub loop-name-preserved : goal.loop-name-preserved
loop-name-preserved g c =
    let i = c.loop-name.invariant in
    let steps = c.in-Some.ensures.steps in
    let done = c.in_ok-put_file.ensures in
    record {
      looks = later_look steps i.looks;
      some = some_then steps i.some done.some;
      left = item_put g.K.ByteSink g.met.K.ByteSink.ground_through file_bytes
          (listed_bytes word_bytes file_bytes c.args.files.now.entries) c.loop-name.name-iterator
          (c.in-Some.name.now, c.in-Some.text.now) c.next.new.self steps i.left done.puts;
    }
