use Rattle.desk_views.proofs.Comparing.{same_is, is_same}
use Rattle.desk_views.proofs.unstored.same_texts_are_equal.Goals as goal

pub returns : goal.returns
returns c = λ text other. (same_is text other, is_same text other)
