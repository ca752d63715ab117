use Rattle.std.proofs.Common.{List, All, sym, subst}
use Rattle.std.specs.Map.{keys_of}
use Rattle.std.proofs.lemmas.List.Elements.{All-cons}
use Rattle.event_bytes.specs.Parts.{word_bytes}
use Rattle.piece_ring.specs.declared.piece.Piece.{Piece}
use Rattle.desktop_definitions.specs.Tables.{Texts}
use Rattle.image_format.specs.Image.{listed_bytes, text_bytes, InWord}
use Rattle.image_format.proofs.Putting.{item_put}
use Rattle.desktop_image.proofs.Tables.{first_looks, later_look, some_then}
use Rattle.desktop_image.proofs.imaging.put_texts.Goals as goal

pub put_text-requires : goal.put_text-requires
put_text-requires g c = first_looks c.in-Some.ensures.steps c.loop-number.invariant.looks

pub loop-number-preserved : goal.loop-number-preserved
loop-number-preserved g c =
    let i = c.loop-number.invariant in
    let later = c.next.new.self in
    let steps = c.in-Some.ensures.steps in
    let number = c.in-Some.number.now in
    let done = c.in_ok-put_text.ensures in
    record {
      looks = later_look steps i.looks;
      some = some_then steps i.some done.some;
      numbers = λ small. i.numbers (subst (λ (es : Texts (List Piece)). All InWord (keys_of es)) (sym steps)
          (All-cons InWord number (keys_of later) done.small small));
      left = item_put g.K.ByteSink g.met.K.ByteSink.ground_through text_bytes
          (listed_bytes word_bytes text_bytes c.args.texts.now.entries) c.loop-number.number-iterator (number, c.in-Some.text.now)
          later steps i.left done.puts;
    }
