use Rattle.std.proofs.Common.{◌<◌, ◌≤◌, ◌==◌, length, ap, subst, ◌∙◌, arith}
use Rattle.std.specs.Prelude.{remove}
use Rattle.std.specs.List.{position_or_len}
use Rattle.desk_core.proofs.GoneLemmas.{taken_out, none_out}
use Rattle.desk_core.proofs.tables.remove_viewer.Goals as goal

pub returns-then-at-len : goal.returns-then-at-len
returns-then-at-len c =
    let viewers = c.args.viewers.now.items in
    let within : c.place_of-at.result < length viewers = omega (arith, c.if-at-len.true, c.len.ensures) in
    let place = c.place_of-at.ensures ∙ ap (position_or_len (λ e. e.0 == c.args.id)) c.as_slice.ensures.value in
    c.remove.ensures.items ∙ ap (remove viewers) place
    ∙ taken_out c.args.id viewers (subst (λ n. n < length viewers) place within)

pub returns-else-at-len : goal.returns-else-at-len
returns-else-at-len c =
    let viewers = c.args.viewers.now.items in
    let past : length viewers ≤ c.place_of-at.result = omega (arith, c.if-at-len.false, c.len.ensures) in
    let place = c.place_of-at.ensures ∙ ap (position_or_len (λ e. e.0 == c.args.id)) c.as_slice.ensures.value in
    none_out c.args.id viewers (subst (λ n. length viewers ≤ n) place past)
