use Rattle.store_slots.specs.Live.{live_characters}
use Rattle.store_slots.proofs.Counting.{no_content}
use Rattle.store_slots.proofs.live.LiveDesktop.info.Goals as goal

pub info-requires : goal.info-requires
info-requires c = (c.requires.over no_content).whole

pub returns : goal.returns
returns c = λ content. c.info.ensures (live_characters content c.args.self.now)
