use Rattle.std.proofs.Common.{rules, ◌≡◌, ◌∙◌, ◌+◌, [], List, ℕ, length, ap, sym, subst, length-append, arith}
use Rattle.piece_ring.specs.Flat.{flat}
use Rattle.piece_ring.proofs.Lengths.{length-run}
use Rattle.piece_ring.proofs.Offsets.{run-AreWithin}
use Rattle.piece_ring.specs.Text.{AreWithin}
use Rattle.desktop_definitions.specs.declared.reply.Reply.TheVariants.{Done, No}
use Rattle.desktop_definitions.specs.Limits.{full}
use Rattle.desktop_definitions.specs.Change.{more_written}
use Rattle.desktop_definitions.specs.Keys.{after_typing}
use Rattle.desktop_definitions.specs.Seen.{seen}
use Rattle.desktop_definitions.specs.Step.{outcome_after}
use Rattle.desktop_definitions.specs.Outcome.{IsAnswered}
use Rattle.desktop_definitions.proofs.RowLaws.{known_no_caret, over_built, built_longer, changed_under, space_written}
use Rattle.desktop_definitions.proofs.KeyLaws.{typed_none, typed_full, typed_answered, main_small}
use Rattle.desk_core.specs.Kept.{kept_desktop}
use Rattle.desktop_definitions.specs.Looks.{AreLooks}
use Rattle.desktop_definitions.proofs.LookedLaws.{run_looks, kept_look}
use Rattle.desk_core.proofs.StretchLemmas.{refused_effect}
use Rattle.desk_input.proofs.StillLemmas.{does_unread}
use Rattle.desk_input.proofs.keys.type_bytes.Goals as goal

pub returns-in_default : goal.returns-in_default
unfolding seen
returns-in_default g c =
    does_unread g.S.CharSource g.met.S.CharSource.ground_self _ _ (kept_desktop c.args.desk.now) _ _ c.requires
    (λ H all over. refused_effect over known_no_caret (typed_none _ (sym c.caret_place.ensures.is ∙ c.in_default.is) _))

pub returns-then-not-fits_more : goal.returns-then-not-fits_more
returns-then-not-fits_more g c =
    let d = kept_desktop c.args.desk.now in
    does_unread g.S.CharSource g.met.S.CharSource.ground_self _ _ d _ _ c.requires
    (λ H all over. subst (λ (b : List ℕ). IsAnswered H all all d d
    (outcome_after (seen all d) (after_typing (seen all d) b)) (No full)) c.as_bytes-bytes.ensures.value
    (typed_full H all d over c.in-Some.caret (sym c.in-Some.ensures.is)
    c.in-Some.ensures.stands.placed c.as_bytes-bytes.result.now
    (sym (c.fits_more.ensures all) ∙ c.if-not-fits_more.true)))

pub buffer_of_run-requires-clause-offsets : goal.buffer_of_run-requires-clause-offsets
unfolding seen
buffer_of_run-requires-clause-offsets g c =
    let low = space_written _ _ _ 0 (sym (c.fits_more.ensures []) ∙ c.if-not-fits_more.false) in
    omega (arith, low)

pub append-requires : goal.append-requires
unfolding seen
append-requires g c =
    let low = space_written _ _ _ 0 (sym (c.fits_more.ensures []) ∙ c.if-not-fits_more.false) in
    omega (arith, low, c.requires.counted)

pub put_at_caret-requires-clause-at : goal.put_at_caret-requires-clause-at
put_at_caret-requires-clause-at g c =
    let old = g.S.CharSource.characters c.args.source.now in
    let d = kept_desktop c.args.desk.now in
    let grown : length (g.S.CharSource.characters c.append.new.self) ≡ length old + length c.as_bytes-bytes.result.now =
    ap length c.in_ok-append.ensures.added ∙ length-append old c.as_bytes-bytes.result.now in
    record {
      built = built_longer (length old) (length (g.S.CharSource.characters c.append.new.self)) d
          (omega (arith, grown)) (over_built old d c.requires);
      stands = c.in-Some.ensures.stands;
    }

pub put_at_caret-requires-clause-goes : goal.put_at_caret-requires-clause-goes
unfolding seen
put_at_caret-requires-clause-goes g c =
    let old = g.S.CharSource.characters c.args.source.now in
    let d = kept_desktop c.args.desk.now in
    let n = length c.as_bytes-bytes.result.now in
    let grown : length (g.S.CharSource.characters c.append.new.self) ≡ length old + n =
    ap length c.in_ok-append.ensures.added ∙ length-append old c.as_bytes-bytes.result.now in
    let size : length (flat c.in_ok-buffer.buffer) ≡ n =
    ap length c.in_ok-buffer.ensures ∙ length-run d.written n d.look in
    record {
      short =
          let low = space_written (seen [] d) n n 0 (sym (c.fits_more.ensures []) ∙ c.if-not-fits_more.false) in
          let main = main_small old d c.in-Some.caret.viewer c.requires in
          omega (arith, low, main, size);
      within = subst (AreWithin _) (sym c.in_ok-buffer.ensures)
          (run-AreWithin _ d.written n d.look (omega (arith, grown, c.requires.counted)));
      looks = subst AreLooks (sym c.in_ok-buffer.ensures)
          (run_looks d.written n d.look (kept_look (length old) d (over_built old d c.requires)));
    }

pub overflow_add-desk : goal.overflow_add-desk
unfolding seen
overflow_add-desk g c =
    let low = space_written _ _ _ 0 (sym (c.fits_more.ensures []) ∙ c.if-not-fits_more.false) in
    omega (arith, low, c.in_ok-put_at_caret.ensures.changed.rest.written)

pub returns : goal.returns
returns g c = record {
  answered =
      let old = g.S.CharSource.characters c.args.source.now in
      let d = kept_desktop c.args.desk.now in
      let reads = c.in_ok-put_at_caret.ensures.reads in
      let premise = c.in_ok-append.ensures.keeps.premise in
      subst (λ (b : List ℕ). IsAnswered (g.S.CharSource.honest c.args.source.now) old
      (g.S.CharSource.characters c.put_at_caret.new.source) d
      (more_written (kept_desktop c.put_at_caret.new.self) (length c.as_bytes-bytes.result.now))
      (outcome_after (seen old d) (after_typing (seen old d) b)) Done) c.as_bytes-bytes.ensures.value
      (typed_answered _ old c.as_bytes-bytes.result.now (g.S.CharSource.characters c.append.new.self)
      (g.S.CharSource.characters c.put_at_caret.new.source) d (kept_desktop c.put_at_caret.new.self) c.requires
      c.in_ok-append.ensures.added reads.as_long (λ h. reads.same (premise.1 h)) c.in-Some.caret
      (sym c.in-Some.ensures.is) c.in_ok-buffer.buffer c.in_ok-buffer.ensures
      (changed_under (λ h. premise.1 h) c.in_ok-put_at_caret.ensures.changed)
      (λ all. sym (c.fits_more.ensures all) ∙ c.if-not-fits_more.false));
  unread = search (rules, g.met.S.CharSource.ground_self, g.met.S.CharSource.ground_through);
  uses = search (rules, g.met.S.CharSource.ground_self, g.met.S.CharSource.ground_through);
}
