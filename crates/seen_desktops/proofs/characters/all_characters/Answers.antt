use Rattle.std.proofs.Common.{◌∙◌, ◌++◌, ℕ, ap}
use Rattle.char_file.proofs.Reading.{read_on}
use Rattle.piece_ring.specs.Flat.{flat}
use Rattle.piece_ring.specs.Text.{Text}
use Rattle.readers_scanners.specs.Reading.{contents}
use Rattle.desk_core.specs.Kept.{kept_desktop}
use Rattle.desktop_definitions.specs.Seen.{seen_table}
use Rattle.seen_desktops.specs.Shape.{characters_in}
use Rattle.seen_desktops.proofs.Gathering.{gathered}
use Rattle.seen_desktops.proofs.characters.all_characters.Goals as goal

pub returns-clause-read : goal.returns-clause-read
returns-clause-read g c = λ honest.
    let s = g.S.CharSource in
    let d = kept_desktop c.args.desk.now in
    let characters = s.characters c.args.source.now in
    let through = read_on s.characters s.failures s.honest s.same_ground g.met.S.CharSource.ground_through in
    let one = c.in_ok-add_table.ensures in
    let two = c.in_ok-add_table-2.ensures in
    let three = c.in_ok-add_left.ensures in
    let second = through _ _ _ one.reads two.reads in
    let third = through _ _ _ second three.reads in
    gathered characters d c.add_table.new.all.items c.add_table-2.new.all.items c.add_left.new.all.items
    c.add_left-2.new.all.items
    (one.added honest
    ∙ ap (λ (l : Text ℕ). l ++ characters_in (seen_table characters d.texts)) c.new-all.ensures.items)
    (two.added (one.reads.still honest)
    ∙ (λ k. c.add_table.new.all.items ++ characters_in (seen_table (one.reads.same honest k) d.files)))
    (three.added (second.still honest)
    ∙ (λ k. c.add_table-2.new.all.items ++ contents (second.same honest k) (flat (c.pieces_in.ensures k))))
    (c.in_ok-add_left-2.ensures.added (third.still honest)
    ∙ (λ k. c.add_left.new.all.items ++ contents (third.same honest k) (flat (c.pieces_in-2.ensures k))))
