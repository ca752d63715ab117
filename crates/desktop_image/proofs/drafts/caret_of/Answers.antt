use Rattle.std.proofs.Common.{◌∙◌, sym, ap, option_map}
use Rattle.desktop_image.specs.Images.{first_caret, picture_caret}
use Rattle.desktop_image.proofs.DraftLemmas.{first_is, first_none}
use Rattle.desktop_image.proofs.drafts.caret_of.Goals as goal

pub returns-in-Some : goal.returns-in-Some
unfolding first_caret
returns-in-Some c =
    sym (first_is picture_caret c.args.pictures.now c.loop-picture.picture-index _ c.loop-picture-test.true _
    (ap (option_map (λ n. record { viewer = _; position = n })) c.in-Some.is))
    ∙ c.loop-picture.invariant

pub returns : goal.returns
unfolding first_caret
returns c =
    sym (first_none picture_caret c.args.pictures.now c.loop-picture.picture-index c.loop-picture-test.false)
    ∙ c.loop-picture.invariant
