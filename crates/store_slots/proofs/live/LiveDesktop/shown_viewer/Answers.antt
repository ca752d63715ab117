use Rattle.store_slots.specs.Live.{live_characters}
use Rattle.store_slots.proofs.live.LiveDesktop.shown_viewer.Goals as goal

pub returns : goal.returns
returns c = λ content. c.shown_viewer.ensures (live_characters content c.args.self.now)
