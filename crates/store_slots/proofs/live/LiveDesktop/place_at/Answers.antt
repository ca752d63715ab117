use Rattle.store_slots.specs.Live.{live_characters}
use Rattle.store_slots.proofs.live.LiveDesktop.place_at.Goals as goal

pub returns : goal.returns
returns c = λ content. c.place_at.ensures (live_characters content c.args.self.now)
