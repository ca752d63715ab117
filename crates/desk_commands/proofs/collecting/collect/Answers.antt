use Rattle.std.proofs.Common.{rules, ◌≡◌, ℕ, List, length, arith, subst, sym, Ok}
use Rattle.desktop_definitions.specs.declared.reply.Reply.TheVariants.{Done}
use Rattle.desktop_definitions.specs.Effects.{after_collect}
use Rattle.desktop_definitions.specs.Seen.{seen}
use Rattle.desktop_definitions.specs.Step.{outcome_after}
use Rattle.desktop_definitions.specs.Outcome.{IsAnswered}
use Rattle.desktop_definitions.proofs.CollectLaws.{all_few, collected_answered}
use Rattle.desk_core.specs.Kept.{kept_desktop}
use Rattle.desk_commands.proofs.collecting.collect.Goals as goal

pub overflow_cast-desk : goal.overflow_cast-desk
overflow_cast-desk g c = omega (arith, c.in_ok-texts.ensures.rewritten.as_many, all_few c.requires, c.len.ensures)

pub renew-requires : goal.renew-requires
renew-requires g c = omega (arith, c.in_ok-texts.ensures.rewritten.as_many, all_few c.requires)

pub returns : goal.returns
returns g c = record {
  answered =
      let s = g.S.CharSource in
      let old = s.characters c.args.source.now in
      let d = kept_desktop c.args.desk.now in
      let x = c.in_ok-texts.field-0 in
      let count : length x.made.items ≡ c.len.result = omega (arith, c.len.ensures) in
      subst (λ (n : ℕ). IsAnswered (s.honest c.args.source.now) old (s.characters c.renew.new.self) d
      (record d {
        texts = x.texts.entries;
        files = x.files.entries;
        copied = x.copied;
        deleted = x.deleted;
        written = n;
      }) (outcome_after (seen old d) (Ok (after_collect (seen old d)))) Done) count
      (subst (λ (l : List ℕ). IsAnswered (s.honest c.args.source.now) old l d
      (record d {
        texts = x.texts.entries;
        files = x.files.entries;
        copied = x.copied;
        deleted = x.deleted;
        written = length x.made.items;
      }) (outcome_after (seen old d) (Ok (after_collect (seen old d)))) Done) (sym c.renew.ensures.exchanged)
      (collected_answered (s.honest c.args.source.now) old x.made.items d x.texts.entries x.files.entries x.copied
      x.deleted c.requires c.in_ok-texts.ensures.rewritten));
  uses = search (rules, g.met.S.CharSource.ground_self, g.met.S.CharSource.ground_through);
}
