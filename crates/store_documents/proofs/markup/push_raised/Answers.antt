use Rattle.store_documents.specs.Markup.{raised_style}
use Rattle.store_documents.proofs.Pieces.{three_added}
use Rattle.store_documents.proofs.markup.push_raised.Goals as goal

pub returns : goal.returns
unfolding raised_style
returns c =
    three_added _ _ _ _ _ _ _ c.in_ok-extend_from_slice.ensures.items c.in_ok-push_offset.ensures
    c.in_ok-extend_from_slice-2.ensures.items
