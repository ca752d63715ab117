use Rattle.std.specs.Prelude.{⊤}
use Rattle.std.proofs.Common.{◌≡◌, ◌++◌, ◌+◌, ◌≤◌, ℕ, List, length, refl, sym, ap, subst, rules, arith, []}
use Rattle.event_bytes.specs.declared.event.Event.TheVariants.{File}
use Rattle.desktop_definitions.specs.declared.reply.Reply.TheVariants.{Done, No}
use Rattle.desktop_definitions.specs.Desktop.{KeptDesktop}
use Rattle.desktop_definitions.specs.Seen.{seen}
use Rattle.desktop_definitions.specs.Step.{step, step_in, raw, outcome_of}
use Rattle.desktop_definitions.specs.Sound.{IsOver}
use Rattle.desktop_definitions.specs.Outcome.{IsAnswered}
use Rattle.desktop_definitions.specs.Unread.{characters_brought, StepsUnread}
use Rattle.desktop_definitions.proofs.RowLaws.{space_written}
use Rattle.desk_core.specs.Kept.{kept_desktop}
use Rattle.desk_core.proofs.UnreadLemmas.{over_all}
use Rattle.desk_core.proofs.FilingLemmas.{filed_after, filed_space, refused_after}
use Rattle.event_loop.proofs.FilingSteps.{file_short, file_refused, file_answers}
use Rattle.event_loop.proofs.events.do_file.Goals as goal

pub of_run-requires : goal.of_run-requires
unfolding seen
of_run-requires g c =
    let low = (c.requires.whole.sound []).written_within in
    let short : length c.args.bytes.now ≤ 900 = file_short c.args.bytes.now c.as_bytes-bytes.ensures.valid in
    let same = ap length c.as_bytes-bytes.ensures.value in
    omega (arith, low, short, same)

pub append-requires : goal.append-requires
unfolding seen
append-requires g c =
    let d = kept_desktop c.args.desk.now in
    let low = space_written (seen [] d) _ _ _ (filed_space c.in_ok-reply.ensures.filed c.in-Done.is []) in
    omega (arith, low, c.requires.counted)

pub overflow_add-desk : goal.overflow_add-desk
unfolding seen
overflow_add-desk g c =
    let d = kept_desktop c.args.desk.now in
    let low = space_written (seen [] d) _ _ _ (filed_space c.in_ok-reply.ensures.filed c.in-Done.is []) in
    let written : c.put_file.new.self.written ≡ c.args.desk.now.written =
    ap (λ (x : KeptDesktop). x.written) (filed_after c.in_ok-reply.ensures.filed c.in-Done.is) in
    omega (arith, low, written)

pub returns-in-No : goal.returns-in-No
unfolding seen characters_brought StepsUnread step step_in raw
returns-in-No g c =
    let d = kept_desktop c.args.desk.now in
    let name = c.args.name.now in
    let bytes = c.as_bytes-bytes.result.now in
    let after = kept_desktop c.put_file.new.self in
    let put = c.in_ok-reply.ensures.filed in
    let stays = λ (H : Type 0) (all : List ℕ) (over : IsOver all d).
    subst (λ (b : List ℕ). IsAnswered H all all d after (step (seen all d) (File name b)) (No c.in-No.code))
    c.as_bytes-bytes.ensures.value
    (subst (λ (x : KeptDesktop). IsAnswered H all all d x (step (seen all d) (File name bytes)) (No c.in-No.code))
    (sym (refused_after put c.in-No.code c.in-No.is))
    (file_refused d name bytes c.in_ok-text.text after c.in_ok-reply.reply put H all over c.in-No.code c.in-No.is)) in
    record {
      answered = stays _ _ c.requires;
      unread = λ h all long. (stays ⊤ all (over_all c.requires all long)).exact tt;
      uses = search (rules, g.met.S.CharSource.ground_self, g.met.S.CharSource.ground_through);
    }

pub returns-in_ok-append-in-Done : goal.returns-in_ok-append-in-Done
unfolding seen characters_brought StepsUnread step step_in raw
returns-in_ok-append-in-Done g c =
    let d = kept_desktop c.args.desk.now in
    let name = c.args.name.now in
    let bytes = c.as_bytes-bytes.result.now in
    let value = c.as_bytes-bytes.ensures.value in
    let left = kept_desktop c.put_file.new.self in
    let after = record left { written = left.written + length bytes } in
    let old = g.S.CharSource.characters c.args.source.now in
    let new = g.S.CharSource.characters c.append.new.self in
    let done = λ (H : Type 0) (all now : List ℕ) (over : IsOver all d) (added : now ≡ all ++ bytes).
    file_answers d name bytes c.in_ok-text.text left c.in_ok-reply.reply c.in_ok-reply.ensures.filed H all now over added
    c.in-Done.is c.in_ok-text.ensures in
    record {
      answered = subst (λ (b : List ℕ). IsAnswered (g.S.CharSource.honest c.args.source.now) old new d after
          (step (seen old d) (File name b)) Done) value (done _ old new c.requires c.in_ok-append-in-Done.ensures.added);
      unread = λ h all long. subst
          (λ (b : List ℕ). outcome_of (seen (all ++ b) after) Done ≡ step (seen all d) (File name b)) value
          ((done ⊤ all (all ++ bytes) (over_all c.requires all long) refl).exact tt);
      uses = search (rules, g.met.S.CharSource.ground_self, g.met.S.CharSource.ground_through);
    }
