use Rattle.std.proofs.Common.{◌∙◌, ap, sym}
use Rattle.desk_sitting.specs.Sittings.{filling, task_or_word}
use Rattle.earlier_presses.specs.Twice.{cell_again}
use Rattle.desk_sitting.proofs.Asked.{alone_action, task_press}
use Rattle.desk_sitting.proofs.sitting.Sitting.do_action.Goals as goal

pub returns-in-Ok : goal.returns-in-Ok
returns-in-Ok g c = task_press g.D.Disk c.args.action c.in-Ok.task c.carry_out.result c.args.self.now c.note.new.self
    c.carry_out.new.self c.args.store.now c.carry_out.new.store
    ((λ k. task_or_word (sym (c.cell_again-again.ensures
    ∙ ap (λ cell. cell_again cell c.args.self.now.clicked) c.cell_clicked.ensures) k) (sym c.filling-fills.ensures k)
    (sym c.selects-over.ensures k) (sym c.replacement-replacement.ensures k) c.args.self.now.sight c.args.action)
    ∙ c.in-Ok.ensures.task)
    c.note.ensures c.carry_out.ensures

pub returns-in-Err : goal.returns-in-Err
returns-in-Err g c = alone_action g.D.Disk c.args.action c.in-Err.alone c.args.self.now c.note.new.self c.act_alone.new.self
    c.args.store.now c.requires
    ((λ k. task_or_word (sym (c.cell_again-again.ensures
    ∙ ap (λ cell. cell_again cell c.args.self.now.clicked) c.cell_clicked.ensures) k) (sym c.filling-fills.ensures k)
    (sym c.selects-over.ensures k) (sym c.replacement-replacement.ensures k) c.args.self.now.sight c.args.action)
    ∙ c.in-Err.ensures.none.1)
    c.note.ensures c.in-Err.ensures.none.0 c.act_alone.ensures
