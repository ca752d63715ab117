use Rattle.std.proofs.Common.{◌≡◌, ◌<◌, ◌+◌, ◌∙◌, length, sym, ap, arith, Some, slice_get}
use Rattle.std.proofs.lemmas.Bool.{ne_eqb, eq-eqb}
use Rattle.char_file.proofs.Reading.{read_on}
use Rattle.piece_ring.specs.Flat.{flat}
use Rattle.readers_scanners.specs.Reading.{contents}
use Rattle.desktop_definitions.proofs.ViewLaws.{name_more, name_at_space}
use Rattle.desk_views.proofs.Painted.{not_at_end}
use Rattle.desk_views.proofs.views.menu_name.Goals as goal

pub loop-bytes-preserved : goal.loop-bytes-preserved
loop-bytes-preserved g c =
    let i = c.loop-bytes.invariant in
    let C = g.S.CharSource in
    let r = c.in_ok-character.ensures in
    let old = c.loop-bytes.reader in
    let text = flat c.args.menu.now in
    let same : length old.text ≡ length text = ap length i.text in
    let before : old.position < length text =
    not_at_end c.in_ok-character.field-0 c.in-Some.character old.position (length text) c.in-Some.is
    (λ last. r.item.end.1 (last ∙ sym same)) i.within in
    let next : c.read.new.self.position ≡ old.position + 1 = omega (arith, r.moves, before, same) in
    record {
      text = r.text ∙ i.text;
      within = omega (arith, before, next);
      reads = read_on C.characters C.failures C.honest C.same_ground g.met.S.CharSource.ground_through
          c.args.source.now c.loop-bytes.source c.read.new.source i.reads r.reads;
      calm = r.cause ∙ i.calm;
      so_far = λ honest.
          let here : slice_get (contents (C.characters c.args.source.now) text) old.position
          ≡ Some c.in-Some.character =
          sym (r.item.exact (i.reads.still honest) ∙ (λ k. slice_get
          (contents (i.reads.same honest k) (i.text k)) old.position)) ∙ c.in-Some.is in
          name_more (contents (C.characters c.args.source.now) text) c.loop-bytes.bytes.items old.position
          (i.so_far honest) c.push.new.self.items c.read.new.self.position c.in-Some.character here
          (ne_eqb c.in-Some.character.0 32 c.if-character-eq32.false) next c.in_ok-push.ensures.items;
    }

pub returns-then-character-eq32-clause-name : goal.returns-then-character-eq32-clause-name
returns-then-character-eq32-clause-name g c = λ honest.
    let i = c.loop-bytes.invariant in
    let characters = g.S.CharSource.characters c.args.source.now in
    let text = flat c.args.menu.now in
    let old = c.loop-bytes.reader in
    let here : slice_get (contents characters text) old.position ≡ Some c.in-Some.character =
    sym (c.in_ok-character.ensures.item.exact (i.reads.still honest) ∙ (λ k. slice_get
    (contents (i.reads.same honest k) (i.text k)) old.position)) ∙ c.in-Some.is in
    c.new.ensures ∙ name_at_space (contents characters text) c.loop-bytes.bytes.items old.position (i.so_far honest)
    c.in-Some.character here (eq-eqb c.in-Some.character.0 32 c.if-character-eq32.true)
