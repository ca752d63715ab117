use Rattle.std.specs.Prelude.{⊤}
use Rattle.std.proofs.Common.{rules, ◌≡◌, ◌∙◌, ◌+◌, ◌≤◌, ℕ, List, length, [], ap, sym, subst, refl, arith}
use Rattle.piece_ring.specs.Flat.{flat}
use Rattle.desktop_definitions.specs.Limits.{most_held}
use Rattle.desktop_definitions.specs.Tables.{file_put}
use Rattle.desktop_definitions.specs.Desktop.{KeptDesktop, characters_held}
use Rattle.desktop_definitions.specs.Viewers.{kept_main}
use Rattle.desktop_definitions.specs.Log.{logged}
use Rattle.desktop_definitions.specs.Seen.{seen}
use Rattle.desktop_definitions.specs.Changed.{IsExtended, IsStanding}
use Rattle.desktop_definitions.specs.DeskWords.{kept_size}
use Rattle.desktop_definitions.proofs.RowLaws.{space_written}
use Rattle.desktop_definitions.proofs.KeyLaws.{main_small}
use Rattle.desk_core.specs.Kept.{kept_desktop}
use Rattle.desk_core.specs.Filing.{IsFiled}
use Rattle.desk_core.proofs.FilingLemmas.{filed_room, filed_space, filed_after}
use Rattle.desk_commands.proofs.StoringLemmas.{copy_stands, copy_short, copy_answered, copy_refused}
use Rattle.desk_commands.proofs.stores.store_as.Goals as goal

pub put_file-requires-clause-more : goal.put_file-requires-clause-more
put_file-requires-clause-more g c =
    let d = kept_desktop c.args.desk.now in
    let low = main_small (g.S.CharSource.characters c.args.source.now) d c.args.id c.requires.over in
    let long : c.len-2.result ≡ length (flat (kept_main d c.args.id)) =
    c.len-2.ensures ∙ ap (λ pieces. length (flat pieces)) c.main_text-text.ensures in
    omega (arith, low, long, c.len-3.ensures.fits, c.len-3.ensures.value)

pub returns-in-No : goal.returns-in-No
returns-in-No g c = record {
  answered =
      let s = g.S.CharSource in
      let d = kept_desktop c.args.desk.now in
      let all = c.len-2.result + c.len-3.result in
      copy_refused (s.honest c.args.source.now) (s.characters c.args.source.now) d c.requires.over c.args.name.now c.args.id
      c.storing_line-line.result.items c.len.result all
      (c.len.ensures ∙ ap (λ pieces. length (flat pieces)) c.main_text-text.ensures) c.storing_line-line.ensures
      (omega (arith, c.len.ensures, c.len-2.ensures, c.len-3.ensures.value))
      (subst (λ (n : ℕ). IsFiled d c.args.name.now c.in_ok-copy.copy n all (kept_desktop c.put_file.new.self)
      c.in_ok-reply.reply) c.len-4.ensures.value c.in_ok-reply.ensures.filed) c.in-No.code c.in-No.is;
  uses = search (rules, g.met.S.CharSource.ground_self, g.met.S.CharSource.ground_through);
}

pub log_line-requires : goal.log_line-requires
unfolding seen
log_line-requires g c =
    let old = g.S.CharSource.characters c.args.source.now in
    let d = kept_desktop c.args.desk.now in
    let name = c.args.name.now in
    let items = c.storing_line-line.result.items in
    let all = c.len-2.result + c.len-3.result in
    let gone = kept_size d.files name in
    let copy = c.in_ok-copy.copy in
    let files = file_put d.files name copy in
    let put = subst (λ (n : ℕ). IsFiled d name copy n all (kept_desktop c.put_file.new.self) c.in_ok-reply.reply)
    c.len-4.ensures.value c.in_ok-reply.ensures.filed in
    let after = filed_after put c.in-Done.is in
    let room = filed_room put c.in-Done.is old in
    let space = filed_space put c.in-Done.is [] in
    let size_is = c.len.ensures ∙ ap (λ pieces. length (flat pieces)) c.main_text-text.ensures in
    let all_is : all ≡ c.len.result + length items = omega (arith, c.len.ensures, c.len-2.ensures, c.len-3.ensures.value) in
    let same = c.in_ok-copy.ensures ∙ ap flat c.main_text-text.ensures in
    let long = ap length c.as_slice.ensures.value in
    record {
      stands = subst (IsStanding old) (sym after)
          (copy_stands ⊤ old d c.requires.over name c.args.id items c.len.result gone all room size_is
          c.storing_line-line.ensures all_is put.gone files copy refl put.valid same);
      room =
          let low = space_written (seen [] d) (length items) all gone space in
          let written : c.put_file.new.self.written ≡ c.args.desk.now.written =
          ap (λ (x : KeptDesktop). x.written) after in
          omega (arith, low, long, written);
      short =
          let low : characters_held (seen [] (kept_desktop c.put_file.new.self)) + length items ≤ most_held =
          subst (λ (x : KeptDesktop). characters_held (seen [] x) + length items ≤ most_held) (sym after)
          (copy_short ⊤ old d c.requires.over name c.args.id items c.len.result gone all room size_is
          c.storing_line-line.ensures all_is put.gone files copy refl put.valid same space) in
          omega (arith, low, long);
    }

pub returns-in_ok-log_line-in-Done : goal.returns-in_ok-log_line-in-Done
returns-in_ok-log_line-in-Done g c = record {
  answered =
      let s = g.S.CharSource in
      let old = s.characters c.args.source.now in
      let new = s.characters c.log_line.new.source in
      let d = kept_desktop c.args.desk.now in
      let name = c.args.name.now in
      let items = c.storing_line-line.result.items in
      let all = c.len-2.result + c.len-3.result in
      let copy = c.in_ok-copy.copy in
      let put = subst (λ (n : ℕ). IsFiled d name copy n all (kept_desktop c.put_file.new.self) c.in_ok-reply.reply)
      c.len-4.ensures.value c.in_ok-reply.ensures.filed in
      let after = kept_desktop c.log_line.new.desk in
      let one = subst (λ (l : List ℕ). IsExtended (s.honest c.args.source.now) old new (kept_desktop c.put_file.new.self)
      after (λ x. logged x l) (length l)) c.as_slice.ensures.value c.in_ok-log_line-in-Done.ensures.logged in
      copy_answered (s.honest c.args.source.now) old d c.requires.over name c.args.id items c.len.result
      (kept_size d.files name) all (filed_room put c.in-Done.is old)
      (c.len.ensures ∙ ap (λ pieces. length (flat pieces)) c.main_text-text.ensures) c.storing_line-line.ensures
      (omega (arith, c.len.ensures, c.len-2.ensures, c.len-3.ensures.value)) put.gone (file_put d.files name copy) copy refl
      put.valid (c.in_ok-copy.ensures ∙ ap flat c.main_text-text.ensures) new after
      (subst (λ (x : KeptDesktop). IsExtended (s.honest c.args.source.now) old new x after (λ y. logged y items)
      (length items)) (filed_after put c.in-Done.is) one) (filed_space put c.in-Done.is);
  uses = search (rules, g.met.S.CharSource.ground_self, g.met.S.CharSource.ground_through);
}
