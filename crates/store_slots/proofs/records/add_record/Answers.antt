use Rattle.store_slots.proofs.Recording.{one_call, one_call_at, both_calls, both_calls_at, recorded, recorded_there, kept_of}
use Rattle.store_slots.proofs.records.add_record.Goals as goal

pub returns-in_err-stage-clause-any_moment : goal.returns-in_err-stage-clause-any_moment
returns-in_err-stage-clause-any_moment g c = λ h version number desktop kept.
    one_call kept c.requires.index (c.stage.ensures.kept.moments h) c.args.event.now

pub returns-in_err-seal-clause-any_moment : goal.returns-in_err-seal-clause-any_moment
returns-in_err-seal-clause-any_moment g c = λ h version number desktop kept.
    both_calls kept c.requires.index (c.stage.ensures.kept.moments h) (c.in_ok-stage.ensures.staged h)
    (c.seal.ensures.kept.moments (c.stage.ensures.kept.still h))

pub returns-clause-any_moment : goal.returns-clause-any_moment
returns-clause-any_moment g c = λ h version number desktop kept.
    both_calls kept c.requires.index (c.stage.ensures.kept.moments h) (c.in_ok-stage.ensures.staged h)
    (c.seal.ensures.kept.moments (c.stage.ensures.kept.still h))

pub returns-clause-added : goal.returns-clause-added
returns-clause-added g c = λ h version number desktop kept.
    let second = c.stage.ensures.kept.still h in
    recorded kept c.requires.index (c.stage.ensures.kept.moments h) (c.in_ok-stage.ensures.staged h)
    (c.seal.ensures.kept.moments second) (c.in_ok-seal.ensures.opened second) (c.in_ok-seal.ensures.quiet second)

pub returns-clause-behind : goal.returns-clause-behind
returns-clause-behind g c = λ h s at.
    let second = c.stage.ensures.kept.still h in
    recorded_there (kept_of at) c.requires.index (c.stage.ensures.kept.moments h) (c.in_ok-stage.ensures.staged h)
    (c.seal.ensures.kept.moments second) (c.in_ok-seal.ensures.opened second) (c.in_ok-seal.ensures.quiet second)

pub returns-in_err-stage-clause-standings : goal.returns-in_err-stage-clause-standings
returns-in_err-stage-clause-standings g c = λ h s at.
    one_call_at (kept_of at) c.requires.index (c.stage.ensures.kept.moments h) c.args.event.now

pub returns-in_err-seal-clause-standings : goal.returns-in_err-seal-clause-standings
returns-in_err-seal-clause-standings g c = λ h s at.
    both_calls_at (kept_of at) c.requires.index (c.stage.ensures.kept.moments h) (c.in_ok-stage.ensures.staged h)
    (c.seal.ensures.kept.moments (c.stage.ensures.kept.still h))

pub returns-clause-standings : goal.returns-clause-standings
returns-clause-standings g c = λ h s at.
    both_calls_at (kept_of at) c.requires.index (c.stage.ensures.kept.moments h) (c.in_ok-stage.ensures.staged h)
    (c.seal.ensures.kept.moments (c.stage.ensures.kept.still h))
