use Rattle.std.proofs.Common.{◌∙◌, rules}
use Rattle.std.proofs.lemmas.Result.{IfOk-weaker}
use Rattle.char_pages.proofs.Caching.{adds_after, none_adds, still_true}
use Rattle.char_pages.proofs.cached.looked_up.Goals as goal

pub returns-in-Some-clause-value : goal.returns-in-Some-clause-value
returns-in-Some-clause-value g c = λ h true_of. c.in-Some.ensures.value _ true_of

pub returns-in-Some-clause-looked : goal.returns-in-Some-clause-looked
returns-in-Some-clause-looked g c = record {
  cached = none_adds c.held.ensures.cached;
  capacity = c.held.ensures.capacity;
  kept = search rules;
  cause = search rules;
}

pub returns-in-None-clause-value : goal.returns-in-None-clause-value
returns-in-None-clause-value g c = IfOk-weaker c.read_in.result _ _
    (λ told is h true_of. is h (still_true c.held.ensures.cached true_of)) c.read_in.ensures.value

pub returns-in-None-clause-looked : goal.returns-in-None-clause-looked
returns-in-None-clause-looked g c = record {
  cached = adds_after c.held.ensures.cached c.read_in.ensures.looked.cached;
  capacity = c.read_in.ensures.looked.capacity ∙ c.held.ensures.capacity;
  kept = c.read_in.ensures.looked.kept;
  cause = c.read_in.ensures.looked.cause;
}
