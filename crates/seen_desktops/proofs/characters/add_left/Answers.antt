use Rattle.std.proofs.Common.{◌∙◌, ℕ, sym, subst, ap, slice_index, List}
use Rattle.char_file.proofs.Reading.{read_on}
use Rattle.piece_ring.specs.Flat.{flat}
use Rattle.piece_ring.specs.Text.{AreWithin}
use Rattle.seen_desktops.proofs.Gathering.{left_on, next_within, rest_within}
use Rattle.seen_desktops.proofs.characters.add_left.Goals as goal

pub char_at-requires : goal.char_at-requires
char_at-requires g c = next_within c.in-Some.ensures.text c.loop-next.invariant.inside

pub loop-next-preserved : goal.loop-next-preserved
loop-next-preserved g c =
    let s = g.S.CharSource in
    let i = c.loop-next.invariant in
    let r = c.in_ok-byte.ensures in
    record {
      read = λ honest. left_on (s.characters c.args.source.now) c.loop-next.all.items c.push.new.self.items _
          (flat c.loop-next.left.left) (flat c.next.new.self.left) c.in-Some.next c.in_ok-byte.byte c.in-Some.ensures.text
          (r.value (i.reads.still honest) ∙ ap (λ (l : List ℕ). slice_index l c.in-Some.next.0) (i.reads.same honest))
          c.in_ok-push.ensures.items (i.read honest);
      inside = subst (λ n. AreWithin n (flat c.next.new.self.left)) (sym r.reads.as_long)
          (rest_within c.in-Some.ensures.text i.inside);
      reads = read_on s.characters s.failures s.honest s.same_ground g.met.S.CharSource.ground_through _ _ _ i.reads
          r.reads;
      calm = r.cause ∙ i.calm;
    }
