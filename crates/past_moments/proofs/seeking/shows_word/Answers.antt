use Rattle.std.proofs.Common.{◌∙◌, ap}
use Rattle.past_moments.specs.Seeking.{is_on_screen, stands}
use Rattle.past_moments.proofs.seeking.shows_word.Goals as goal

pub returns-clause-is : goal.returns-clause-is
unfolding stands
returns-clause-is c = c.is_on_screen.ensures
    ∙ ap (λ s. is_on_screen s c.args.word.now) ((rw c.in_ok-of_memory.ensures at c.screen.ensures.shown) tt)

pub returns-clause-same : goal.returns-clause-same
returns-clause-same c = c.screen.ensures.looks.desktop tt
