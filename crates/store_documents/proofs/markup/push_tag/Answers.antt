use Rattle.store_documents.specs.Markup.{look_tag}
use Rattle.store_documents.proofs.Pieces.{five_added}
use Rattle.store_documents.proofs.markup.push_tag.Goals as goal

pub returns : goal.returns
unfolding look_tag
returns c =
    five_added _ _ _ _ _ _ _ _ _ _ _ c.in_ok-extend_from_slice.ensures.items c.in_ok-push_numbers.ensures
    c.in_ok-extend_from_slice-2.ensures.items c.in_ok-push_style.ensures c.in_ok-extend_from_slice-3.ensures.items
