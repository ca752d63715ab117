use Rattle.std.proofs.Common.{ap, ◌∙◌, nat_lt, ℕ}
use Rattle.std.specs.Prelude.{insert}
use Rattle.std.specs.List.{position_or_len}
use Rattle.desk_commands.proofs.OpeningLemmas.{put_at}
use Rattle.desk_commands.proofs.openings.add_viewer.Goals as goal

pub returns : goal.returns
returns c =
    let viewers = c.args.viewers.now.items in
    let place = c.place_above-at.ensures.value
    ∙ ap (position_or_len (λ e. nat_lt c.args.id e.0)) c.as_slice.ensures.value in
    c.in_ok-insert.ensures.items ∙ ap (λ (n : ℕ). insert viewers n (c.args.id, c.args.viewer)) place
    ∙ put_at c.args.id c.args.viewer viewers c.requires
