use Rattle.std.proofs.Common.{◌∙◌, sym}
use Rattle.desktop_image.specs.Images.{selected_as, selected_at}
use Rattle.desktop_image.proofs.DraftLemmas.{first_is, first_none}
use Rattle.desktop_image.proofs.drafts.selected_as.Goals as goal

pub returns-in-Some : goal.returns-in-Some
unfolding selected_as
returns-in-Some c =
    sym (first_is (selected_at c.args.rank) c.args.pictures.now c.loop-picture.picture-index _ c.loop-picture-test.true
    _ (sym c.selected_at.ensures ∙ c.in-Some.is))
    ∙ c.loop-picture.invariant

pub returns : goal.returns
unfolding selected_as
returns c =
    sym (first_none (selected_at c.args.rank) c.args.pictures.now c.loop-picture.picture-index
    c.loop-picture-test.false)
    ∙ c.loop-picture.invariant
