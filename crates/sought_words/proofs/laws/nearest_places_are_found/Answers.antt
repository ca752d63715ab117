use Rattle.sought_words.proofs.Nearest.{least_is_found, greatest_is_found}
use Rattle.sought_words.proofs.laws.nearest_places_are_found.Goals as goal

pub returns-clause-onward : goal.returns-clause-onward
returns-clause-onward c = least_is_found

pub returns-clause-backward : goal.returns-clause-backward
returns-clause-backward c = greatest_is_found
