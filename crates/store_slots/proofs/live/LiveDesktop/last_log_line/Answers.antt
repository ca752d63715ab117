use Rattle.std.proofs.Common.{refl}
use Rattle.store_slots.proofs.Staying.{looks_stay}
use Rattle.store_slots.proofs.live.LiveDesktop.last_log_line.Goals as goal

pub returns-in_err-log_line_over-clause-same : goal.returns-in_err-log_line_over-clause-same
returns-in_err-log_line_over-clause-same g c =
    let r = c.log_line_over.ensures in
    looks_stay g.D.Disk c.args.self.now _ r.looks refl refl (λ honest are. are) c.requires.on.live c.requires.on.told

pub returns-clause-same : goal.returns-clause-same
returns-clause-same g c =
    let r = c.log_line_over.ensures in
    looks_stay g.D.Disk c.args.self.now _ r.looks refl refl (λ honest are. are) c.requires.on.live c.requires.on.told
