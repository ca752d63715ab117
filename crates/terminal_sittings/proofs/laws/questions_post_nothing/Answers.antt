use Rattle.terminal_sittings.proofs.Questions.{posts_nothing, come_once}
use Rattle.terminal_sittings.proofs.laws.questions_post_nothing.Goals as goal

pub returns-clause-nothing : goal.returns-clause-nothing
returns-clause-nothing c = posts_nothing

pub returns-clause-once : goal.returns-clause-once
returns-clause-once c = come_once
