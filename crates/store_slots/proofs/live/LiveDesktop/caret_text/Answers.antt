use Rattle.std.proofs.Common.{refl}
use Rattle.store_slots.proofs.Counting.{no_content}
use Rattle.store_slots.proofs.Staying.{looks_stay}
use Rattle.store_slots.proofs.live.LiveDesktop.caret_text.Goals as goal

pub caret_text-requires : goal.caret_text-requires
caret_text-requires g c = (c.requires.on.live.over no_content).whole

pub returns-in_err-read_over-in-Some-clause-same : goal.returns-in_err-read_over-in-Some-clause-same
returns-in_err-read_over-in-Some-clause-same g c =
    let r = c.read_over.ensures in
    looks_stay g.D.Disk c.args.self.now _ r.looks refl refl (λ honest are. are) c.requires.on.live c.requires.on.told

pub returns-in_ok-read_over-in-Some-clause-same : goal.returns-in_ok-read_over-in-Some-clause-same
returns-in_ok-read_over-in-Some-clause-same g c =
    let r = c.read_over.ensures in
    looks_stay g.D.Disk c.args.self.now _ r.looks refl refl (λ honest are. are) c.requires.on.live c.requires.on.told
