use Rattle.std.proofs.Common.{◌∙◌, ap, arith}
use Rattle.std.specs.Fmt.{decimal}
use Rattle.byte_streams.proofs.Taking.{sent_as}
use Rattle.screen_drawing.proofs.Elements.{text_pieces}
use Rattle.screen_drawing.proofs.shapes.text_cells.Goals as goal

pub returns : goal.returns
returns g c = sent_as c.send_all.result _ _ _ _
    (text_pieces c.args.place.0 c.args.place.1 c.args.faces.now c.args.pen _ _ _ _ _ _ _ _
    (c.as_slice.ensures.value ∙ c.digits.ensures ∙ ap decimal (omega (arith, c.from-x.ensures)))
    (c.as_slice-2.ensures.value ∙ c.digits-2.ensures ∙ ap decimal (omega (arith, c.from.ensures)))
    (c.as_slice-3.ensures.value ∙ c.digits-3.ensures)
    c.colour_code.ensures c.style_texts.ensures.weight c.style_texts.ensures.slant c.style_texts.ensures.rule
    (c.as_slice-4.ensures.value ∙ c.escaped.ensures)) c.send_all.ensures
