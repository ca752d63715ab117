use Rattle.past_viewer.proofs.pane.Pane.paint.Goals as goal

pub returns-clause-painted : goal.returns-clause-painted
returns-clause-painted g c = (rw (c.scene_of.ensures.screen, c.scene_of.ensures.line) at c.paint_scene.ensures.painted)
