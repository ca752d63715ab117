use Rattle.std.proofs.Common.{◌≡◌, ◌+◌, ◌==◌, ◌||◌, ℕ, List, arith, [], subst}
use Rattle.piece_ring.specs.declared.piece.Piece.{Piece}
use Rattle.viewer_tracks.specs.Viewers.{id_number}
use Rattle.desktop_definitions.specs.Tables.{Texts}
use Rattle.desktop_definitions.proofs.TableLaws.{lengths_seen}
use Rattle.desktop_definitions.proofs.LeftLaws.{left_fewer}
use Rattle.desktop_definitions.specs.DeskWords.{still_shown, kept_left}
use Rattle.desk_commands.proofs.OpeningLemmas.{left_step}
use Rattle.desk_commands.proofs.openings.lengths_left.Goals as goal

pub overflow_add-sum : goal.overflow_add-sum
overflow_add-sum c =
    let test = λ (n : ℕ). (n == 0) || still_shown (id_number c.args.gone) c.args.viewers.now.items n in
    let step = left_step test c.loop-number.sum c.length_left-sum.result (c.in-Some.number.now, c.in-Some.text.now)
    c.next.new.self c.loop-number.number-iterator _ c.length_left-sum.ensures c.in-Some.ensures.steps
    c.loop-number.invariant in
    omega (arith, step, left_fewer test c.args.texts.now.entries, lengths_seen [] c.args.texts.now.entries, c.requires)

pub loop-number-preserved : goal.loop-number-preserved
loop-number-preserved c =
    let test = λ (n : ℕ). (n == 0) || still_shown (id_number c.args.gone) c.args.viewers.now.items n in
    left_step test c.loop-number.sum c.length_left-sum.result (c.in-Some.number.now, c.in-Some.text.now)
    c.next.new.self c.loop-number.number-iterator _ c.length_left-sum.ensures c.in-Some.ensures.steps
    c.loop-number.invariant

pub returns : goal.returns
returns c =
    let test = λ (n : ℕ). (n == 0) || still_shown (id_number c.args.gone) c.args.viewers.now.items n in
    let all : c.loop-number.sum + 0 ≡ kept_left test c.args.texts.now.entries =
    subst (λ (rest : Texts (List Piece)). c.loop-number.sum + kept_left test rest
    ≡ kept_left test c.args.texts.now.entries) c.in-None.ensures.steps.0 c.loop-number.invariant in
    omega (arith, all)
