use Rattle.std.proofs.Common.{rules, List, ℕ, sym, ap, ◌∙◌}
use Rattle.std.specs.Prelude.{codes}
use Rattle.std.proofs.lemmas.Result.{IfOk-weaker}
use Rattle.event_bytes.specs.Bytes.{is_letter, is_digit, is_name_byte}
use Rattle.desktop_definitions.specs.Limits.{no_file}
use Rattle.desktop_definitions.specs.Seen.{seen}
use Rattle.desktop_definitions.proofs.RowLaws.{known_no_file}
use Rattle.desktop_definitions.proofs.KeyLaws.{refusal_answered, row_as}
use Rattle.desktop_definitions.proofs.OpeningOnLaws.{tool_missing, tool_row}
use Rattle.desktop_definitions.specs.Opening.{menu_line}
use Rattle.desktop_definitions.specs.Unread.{characters_after}
use Rattle.desktop_definitions.specs.Step.{outcome_after, outcome_of}
use Rattle.desk_core.specs.Kept.{kept_desktop}
use Rattle.desk_core.proofs.UnreadLemmas.{refusal_is}
use Rattle.desk_commands.proofs.OpeningLemmas.{no_name, same_name}
use Rattle.desk_commands.proofs.documents.open_tool.Goals as goal

pub unreachable-requires : goal.unreachable-requires
unfolding is_letter is_digit is_name_byte
unreachable-requires g c = no_name (codes "System.Tool") (sym c.in_default.is ∙ c.new.ensures)

pub returns-then-not-contains_key : goal.returns-then-not-contains_key
unfolding is_letter is_digit is_name_byte
returns-then-not-contains_key g c = record {
  answered =
      let old = g.S.CharSource.characters c.args.source.now in
      let d = kept_desktop c.args.desk.now in
      let name = c.in-Some.name in
      refusal_answered _ old d _ no_file c.requires.over known_no_file
      (tool_missing old d name c.args.x c.args.y
      (same_name name (codes "System.Tool") (sym c.in-Some.is ∙ c.new.ensures))
      (sym c.contains_key.ensures ∙ c.if-not-contains_key.true));
  unread =
      λ all long.
      let d = kept_desktop c.args.desk.now in
      let name = c.in-Some.name in
      refusal_is (tool_missing all d name c.args.x c.args.y
      (same_name name (codes "System.Tool") (sym c.in-Some.is ∙ c.new.ensures))
      (sym c.contains_key.ensures ∙ c.if-not-contains_key.true));
  uses = search (rules, g.met.S.CharSource.ground_self, g.met.S.CharSource.ground_through);
}

pub returns : goal.returns
unfolding is_letter is_digit is_name_byte
returns g c = record {
  answered =
      let old = g.S.CharSource.characters c.args.source.now in
      let d = kept_desktop c.args.desk.now in
      let name = c.in-Some.name in
      IfOk-weaker c.open_named.result _ _ (λ reply answered. row_as (seen old d) _ answered
      (tool_row old d name c.args.x c.args.y
      (same_name name (codes "System.Tool") (sym c.in-Some.is ∙ c.new.ensures))
      (sym c.contains_key.ensures ∙ c.if-not-contains_key.false)))
      c.open_named.ensures.answered;
  unread =
      let d = kept_desktop c.args.desk.now in
      let after = kept_desktop c.open_named.new.desk in
      let name = c.in-Some.name in
      let tool = same_name name (codes "System.Tool") (sym c.in-Some.is ∙ c.new.ensures) in
      IfOk-weaker c.open_named.result _ _ (λ reply is all long.
      ap (λ (n : List ℕ). outcome_of (seen (characters_after all (menu_line n) reply) after) reply) (sym tool) ∙ is all long
      ∙ sym (ap (outcome_after (seen all d)) (tool_row all d name c.args.x c.args.y tool
      (sym c.contains_key.ensures ∙ c.if-not-contains_key.false))))
      c.open_named.ensures.unread;
  uses = search (rules, g.met.S.CharSource.ground_self, g.met.S.CharSource.ground_through);
}
