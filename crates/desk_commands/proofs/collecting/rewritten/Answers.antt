use Rattle.std.proofs.Common.{List, length, arith, ap, rules}
use Rattle.char_file.proofs.Reading.{read_on}
use Rattle.piece_ring.specs.declared.piece.Piece.{Piece}
use Rattle.piece_ring.specs.Flat.{flat}
use Rattle.desktop_definitions.proofs.CollectLaws.{all_few, numbers_rise, names_rise}
use Rattle.desk_commands.proofs.collecting.rewritten.Goals as goal

pub put_table-requires : goal.put_table-requires
put_table-requires g c = record {
  rising = numbers_rise c.requires;
  copies = λ number copy same. same;
  inside = search rules;
  room = omega (arith, all_few c.requires);
}

pub put_table-requires-2 : goal.put_table-requires-2
put_table-requires-2 g c = record {
  rising = names_rise c.requires;
  copies = λ name copy same. same;
  inside = search rules;
  room = omega (arith, all_few c.requires, c.in_ok-texts.ensures.adds.longer);
}

pub put_pieces-requires : goal.put_pieces-requires
put_pieces-requires g c = rw c.pieces_in.ensures (record {
  inside = search rules;
  room = omega (arith, all_few c.requires, c.in_ok-texts.ensures.adds.longer, c.in_ok-files.ensures.adds.longer);
})

pub put_pieces-requires-2 : goal.put_pieces-requires-2
put_pieces-requires-2 g c = rw c.pieces_in-2.ensures (record {
  inside = search rules;
  room = omega (
    arith,
    all_few c.requires,
    c.in_ok-texts.ensures.adds.longer,
    c.in_ok-files.ensures.adds.longer,
    c.in_ok-copied.ensures.adds.longer,
    ap (λ (pieces : List Piece). length (flat pieces)) c.pieces_in.ensures,
  );
})

pub returns-in_err-deleted-clause-reads : goal.returns-in_err-deleted-clause-reads
returns-in_err-deleted-clause-reads g c =
    let s = g.S.CharSource in
    let on = read_on s.characters s.failures s.honest s.same_ground g.met.S.CharSource.ground_through in
    on _ _ _ (on _ _ _ (on _ _ _ c.in_ok-texts.ensures.adds.reads c.in_ok-files.ensures.adds.reads)
    c.in_ok-copied.ensures.adds.reads) c.put_pieces-2.ensures.adds.reads

pub returns-clause-reads : goal.returns-clause-reads
returns-clause-reads g c =
    let s = g.S.CharSource in
    let on = read_on s.characters s.failures s.honest s.same_ground g.met.S.CharSource.ground_through in
    on _ _ _ (on _ _ _ (on _ _ _ c.in_ok-texts.ensures.adds.reads c.in_ok-files.ensures.adds.reads)
    c.in_ok-copied.ensures.adds.reads) c.put_pieces-2.ensures.adds.reads
