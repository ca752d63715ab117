use Rattle.std.proofs.Common.{◌∙◌, ap, sym}
use Rattle.std.specs.Prelude.{Option}
use Rattle.caret_moves.specs.declared.wish.KeyWish.{KeyWish}
use Rattle.desk_sitting.specs.Questions.{click_by, click_made}
use Rattle.desk_sitting.proofs.Found.{found_alone, found_as}
use Rattle.desk_sitting.proofs.sitting.Sitting.click_made.Goals as goal

pub returns-in-None : goal.returns-in-None
unfolding click_made
returns-in-None g c = found_alone g.D.Disk _ c.click_posted.result c.args.self.now c.args.store.now c.requires
    (c.click_posted.ensures ∙ ap (λ (wish : Option KeyWish). click_by wish c.args.action.now c.args.store.now.desktop)
    (sym (sym c.calling_wish.ensures ∙ c.in-None.is)))

pub returns-in-Some : goal.returns-in-Some
unfolding click_made
returns-in-Some g c = found_as g.D.Disk _ _ c.click_led.result c.args.self.now c.args.store.now c.click_led.new.store
    (λ desktop. ap (λ (wish : Option KeyWish). click_by wish c.args.action.now desktop)
    (sym (sym c.calling_wish.ensures ∙ c.in-Some.is))) c.click_led.ensures
