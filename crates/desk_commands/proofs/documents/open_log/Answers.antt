use Rattle.std.proofs.Common.{rules, ◌≡◌, ◌+◌, ◌++◌, ℕ, List, length, Ok, true, false, refl, sym, ap, subst, ◌∙◌, arith}
use Rattle.std.proofs.Common.{inl}
use Rattle.piece_ring.specs.Look.{default_look}
use Rattle.piece_ring.specs.Flat.{run}
use Rattle.desktop_definitions.specs.declared.reply.Reply.TheVariants.{Done}
use Rattle.desktop_definitions.specs.Desktop.{KeptDesktop}
use Rattle.desktop_definitions.specs.Change.{plain_text, more_written}
use Rattle.desktop_definitions.specs.Opening.{opening_on, without_unshown}
use Rattle.desktop_definitions.specs.Effects.{log_opened}
use Rattle.desktop_definitions.specs.Seen.{seen}
use Rattle.desktop_definitions.specs.Step.{fits, outcome_after}
use Rattle.desktop_definitions.specs.Outcome.{IsAnswered}
use Rattle.desktop_definitions.proofs.OutcomeLaws.{length_in_look}
use Rattle.desktop_definitions.specs.Opening.{new_id}
use Rattle.desktop_definitions.proofs.OpeningDone.{new_fresh, can_open, written_on, whole_columns}
use Rattle.desktop_definitions.proofs.OpeningOnLaws.{log_full, log_answered}
use Rattle.desk_core.specs.Kept.{kept_desktop}
use Rattle.desk_commands.proofs.documents.open_log.Goals as goal

pub returns-then-not-opening_on_fits : goal.returns-then-not-opening_on_fits
returns-then-not-opening_on_fits g c = record {
  answered =
      let old = g.S.CharSource.characters c.args.source.now in
      let d = kept_desktop c.args.desk.now in
      let menu = c.menu_line-menu.result.items in
      let cell = c.free_cell-x.result in
      let long : c.len-len.result ≡ length menu = c.len-len.ensures.value in
      log_full _ old d menu cell c.requires.over c.menu_line-menu.ensures c.free_cell-x.ensures.cell
      (subst (λ (n : ℕ). fits (without_unshown (more_written (opening_on (seen old d) (plain_text menu) 0 0 cell) n)) ≡ false) long
      (sym (c.opening_on_fits.ensures.fits old (plain_text menu) 0 0 (length_in_look default_look menu ∙ sym long)
      (inl refl)) ∙ c.if-not-opening_on_fits.true));
  uses = search (rules, g.met.S.CharSource.ground_self, g.met.S.CharSource.ground_through);
}

pub open_on-requires-clause-can : goal.open_on-requires-clause-can
open_on-requires-clause-can g c = can_open (kept_desktop c.args.desk.now) c.requires.over.whole

pub overflow_add-desk : goal.overflow_add-desk
overflow_add-desk g c =
    let d = kept_desktop c.args.desk.now in
    let written : c.open_on.new.desk.written ≡ d.written
    = ap (λ (x : KeptDesktop). x.written) c.in_ok-open_on.ensures
    ∙ written_on d c.in_ok-text.text 0 0 c.free_cell-x.result in
    let room = c.opening_on_fits.ensures.room c.if-not-opening_on_fits.false in
    omega (arith, written, room)

pub returns : goal.returns
returns g c = record {
  answered =
      let H = g.S.CharSource.honest c.args.source.now in
      let old = g.S.CharSource.characters c.args.source.now in
      let new = g.S.CharSource.characters c.append.new.self in
      let d = kept_desktop c.args.desk.now in
      let menu = c.menu_line-menu.result.items in
      let text = c.in_ok-text.text in
      let cell = c.free_cell-x.result in
      let x = cell.0 in
      let y = cell.1 in
      let long : c.len-len.result ≡ length menu = c.len-len.ensures.value in
      let hold = whole_columns d c.requires.over.whole in
      let written : c.open_on.new.desk.written ≡ d.written
      = ap (λ (x : KeptDesktop). x.written) c.in_ok-open_on.ensures ∙ written_on d text 0 0 cell in
      let after : record (kept_desktop c.open_on.new.desk) { written = c.open_on.new.desk.written + c.len-len.result }
      ≡ record (without_unshown (opening_on d text 0 0 cell)) { written = d.written + length menu }
      = λ k. record (c.in_ok-open_on.ensures k) { written = written k + long k } in
      subst (λ (x : KeptDesktop). IsAnswered H old new d x (outcome_after (seen old d) (Ok (log_opened (seen old d)))) Done)
      (sym after)
      (log_answered H old d menu cell c.requires.over c.menu_line-menu.ensures c.free_cell-x.ensures.cell new text
      (c.in_ok-append.ensures.added ∙ ap (λ (l : List ℕ). old ++ l) c.as_slice.ensures.value)
      (c.in_ok-text.ensures ∙ ap (λ (n : ℕ). run d.written n default_look) long)
      (record {
        hold = c.edits_keep_columns.ensures.opened d.columns (new_id d) x y hold (new_fresh d c.requires.over.whole);
        places = λ w. c.edits_place_viewers.ensures.opened d.columns (new_id d) x y w hold;
      })
      (λ characters t t_long.
      subst (λ (n : ℕ). fits (without_unshown (more_written (opening_on (seen characters d) t 0 0 cell) n)) ≡ true) long
      (sym (c.opening_on_fits.ensures.fits characters t 0 0 (t_long ∙ sym long) (inl refl))
      ∙ c.if-not-opening_on_fits.false)));
  uses = search (rules, g.met.S.CharSource.ground_self, g.met.S.CharSource.ground_through);
}
