use Rattle.desktop_definitions.proofs.SeenLaws.{seen_longer, within_counted}
use Rattle.desktop_definitions.proofs.step_laws.more_characters_change_no_view.Goals as goal

pub returns : goal.returns
returns c = λ characters more d over. seen_longer characters more d (within_counted characters d over)
