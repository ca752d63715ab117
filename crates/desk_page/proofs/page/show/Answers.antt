use Rattle.std.proofs.Common.{◌∙◌, ◌++◌, ap}
use Rattle.std.proofs.lemmas.Result.{on_ok_weaker}
use Rattle.desktop_definitions.specs.Desktop.{Desktop}
use Rattle.desktop_definitions.specs.Shown.{shown_screen}
use Rattle.screen_drawing.specs.Drawn.{drawing_of}
use Rattle.store_documents.proofs.Looks.{read_twice}
use Rattle.desk_sitting.specs.Sittings.{looked}
use Rattle.desk_page.specs.Lines.{page_line}
use Rattle.desk_page.proofs.page.show.Goals as goal

pub returns-clause-drawn : goal.returns-clause-drawn
returns-clause-drawn g c =
    let look = c.in_ok-mark.ensures.looks in
    on_ok_weaker c.show_marked.result (λ drawn honest. drawn (look.disk.device.still honest)
    ∙ ap (λ (d : Desktop). c.args.drawing.now.items ++ drawing_of (shown_screen d)) (look.desktop honest))
    c.show_marked.ensures.drawn

pub returns-clause-line : goal.returns-clause-line
returns-clause-line g c =
    let look = c.in_ok-mark.ensures.looks in
    on_ok_weaker c.show_marked.result (λ line honest. line (look.disk.device.still honest)
    ∙ ap (λ (d : Desktop). c.args.line.now.items ++ page_line (shown_screen d) c.show_marked.new.page.sitting)
    (look.desktop honest)) c.show_marked.ensures.line

pub returns-clause-sitting : goal.returns-clause-sitting
returns-clause-sitting g c =
    let look = c.in_ok-mark.ensures.looks in
    on_ok_weaker c.show_marked.result (λ sitting honest. sitting (look.disk.device.still honest)
    ∙ (λ k. looked (shown_screen (look.desktop honest k)) (c.in_ok-mark.ensures.marked honest k)))
    c.show_marked.ensures.sitting

pub returns-clause-session : goal.returns-clause-session
returns-clause-session g c = λ honest.
    let look = c.in_ok-mark.ensures.looks in
    c.show_marked.ensures.session (look.disk.device.still honest)
    ∙ (λ k. record {
      desktop = look.desktop honest k;
      layout = look.layout k;
      epoch = look.epoch k;
      events = look.events k;
    })

pub returns-clause-disk : goal.returns-clause-disk
returns-clause-disk g c = read_twice g.D.Disk c.in_ok-mark.ensures.looks.disk c.show_marked.ensures.disk
