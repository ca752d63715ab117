-- Moments that stay what they were.
use Rattle.std.proofs.Common.{◌≡◌, inl, inr, ◌-◌, ℕ, List, [], ◌∷◌, length-append, sym, ◌∙◌, ap}
use Rattle.std.proofs.Common.{subst, arith}
use Rattle.std.proofs.lemmas.List.{take-append-le, take_all}
use Rattle.desk_past.specs.Deeds.{PastDeed, after_deeds, all_posted, brought, posted, turned}
use Rattle.past_runs.specs.Calls.{HasThen, LeadsPast, Past, PastCall, begins, begun_behind, brings, ends, looks}
use Rattle.past_runs.specs.Calls.{many_before, posts, posts_over, takes_back, turns, turns_to, was_then, with_deeds}
use Rattle.past_runs.specs.Runs.{AddsOnly, MomentStaysLaw, MomentsStayLaw}

-- deeds behind a past change none of its moments
earlier : (past : Past) (more : List PastDeed) (k : ℕ) → HasThen past k → was_then (with_deeds past more) k ≡ was_then past k
earlier past more k has = ap (after_deeds past.start.desktop)
    (take-append-le (k - past.start.before) past.deeds more (omega (arith, has.low, has.high)))

longer : (past : Past) (more : List PastDeed) (k : ℕ) → HasThen past k → HasThen (with_deeds past more) k
longer past more k has = record {
  low = has.low;
  high = omega (arith, has.high, length-append past.deeds more);
}

then_too : (past after : Past) (more : List PastDeed) (k : ℕ) → after ≡ with_deeds past more → HasThen past k
    → was_then after k ≡ was_then past k
then_too past after more k led has = ap (λ p. was_then p k) led ∙ earlier past more k has

there_too : (past after : Past) (more : List PastDeed) (k : ℕ) → after ≡ with_deeds past more → HasThen past k
    → HasThen after k
there_too past after more k led has = subst (λ p. HasThen p k) (sym led) (longer past more k has)

-- a past that begins has the last moment of the former one as its first
first_then : (past : Past) (base k : ℕ) → HasThen past k → HasThen (begun_behind past base) k
    → was_then (begun_behind past base) k ≡ was_then past k
first_then past base k has has' =
    ap (after_deeds (after_deeds past.start.desktop past.deeds)) (take_all (k - many_before past) [] (omega arith))
    ∙ ap (after_deeds past.start.desktop)
    (sym (take_all (k - past.start.before) past.deeds (omega (arith, has'.low))))

pub moment_stays : MomentStaysLaw
moment_stays (posts event) past after k led has has' = then_too past after (posted event ∷ []) k led has
moment_stays (posts_over event) past after k (inl led) has has' = then_too past after (posted event ∷ []) k led has
moment_stays (posts_over event) past after k (inr over) has has' =
    let base = over.0 in
    let led : after ≡ with_deeds (begun_behind past base) (posted event ∷ []) = over.1 in
    let there : HasThen (with_deeds (begun_behind past base) (posted event ∷ [])) k = subst (λ p. HasThen p k) led has' in
    let first : HasThen (begun_behind past base) k = record { low = there.low; high = omega (arith, has.high) } in
    then_too (begun_behind past base) after (posted event ∷ []) k led first ∙ first_then past base k has first
moment_stays (brings documents) past after k led has has' = then_too past after (brought documents ∷ []) k led has
moment_stays (turns_to moment to) past after k led has has' = then_too past after (turned to ∷ []) k led has
moment_stays (turns moment) past after k led has has' =
    then_too past after (turned (was_then past moment) ∷ []) k led has
moment_stays (takes_back count back) past after k led has has' =
    sym (then_too after past (all_posted back) k led has')
moment_stays ends past after k led has has' = ap (λ p. was_then p k) led
moment_stays looks past after k led has has' = ap (λ p. was_then p k) led
moment_stays (begins base) past after k led has has' =
    ap (λ p. was_then p k) led ∙ first_then past base k has (subst (λ p. HasThen p k) led has')

still_there : (call : PastCall) (past after : Past) (k : ℕ) → AddsOnly call → LeadsPast call past after → HasThen past k
    → HasThen after k
still_there (posts event) past after k adds led has = there_too past after (posted event ∷ []) k led has
still_there (posts_over event) past after k adds led has = absurd adds
still_there (brings documents) past after k adds led has = there_too past after (brought documents ∷ []) k led has
still_there (turns_to moment to) past after k adds led has = there_too past after (turned to ∷ []) k led has
still_there (turns moment) past after k adds led has =
    there_too past after (turned (was_then past moment) ∷ []) k led has
still_there (takes_back count back) past after k adds led has = absurd adds
still_there ends past after k adds led has = subst (λ p. HasThen p k) (sym led) has
still_there looks past after k adds led has = subst (λ p. HasThen p k) (sym led) has
still_there (begins base) past after k adds led has = absurd adds

pub moments_stay : MomentsStayLaw
moments_stay [] past after k led adds has = (subst (λ p. HasThen p k) (sym led) has, ap (λ p. was_then p k) led)
moments_stay (call ∷ calls) past after k led adds has =
    let there = still_there call past led.0 k adds.0 led.1 has in
    let rest = moments_stay calls led.0 after k led.2 adds.1 there in
    (rest.0, rest.1 ∙ moment_stays call past led.0 k led.1 has there)
