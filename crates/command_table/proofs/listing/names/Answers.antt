use Rattle.std.specs.Prelude.{◌≡◌, Some, None}
use Rattle.std.specs.Option.{option_map}
use Rattle.std.proofs.Common.{sym, ap, ◌∙◌, rules}
use Rattle.std.proofs.lemmas.Result.{IfOk-weaker}
use Rattle.piece_ring.specs.Flat.{flat}
use Rattle.readers_scanners.specs.Reading.{bytes_of_text}
use Rattle.command_table.specs.Codes.{no_selection}
use Rattle.command_table.specs.Parameters.{place_lent, names_or, first_names}
use Rattle.command_table.proofs.Values.{list_of_selection, list_itself, first_is, list_is}
use Rattle.command_table.proofs.listing.names.Goals as goal

pub returns-in_default-clause-names : goal.returns-in_default-clause-names
returns-in_default-clause-names g c h =
    let s = g.S.CharSource in let read = bytes_of_text (s.characters c.args.source.now) in
    let scanned = c.in_ok-first.ensures in
    let first = first_is (read (flat c.args.text.now)) _ c.args.pos _ _ c.in_ok-first.first
    (ap read c.open-scanner.ensures.text) c.open-scanner.ensures.position (scanned.symbol h) in
    let none : option_map place_lent c.args.sel ≡ None = ap (option_map place_lent) c.in_default.is in
    sym (ap first_names (list_of_selection read (flat c.args.text.now) c.args.pos
    (option_map place_lent c.args.sel) c.in_ok-first.first c.is_special.result first c.is_special.ensures
    c.if-is_special.true
    ∙ ap (names_or read no_selection) none))

pub returns-in_ok-first-2-clause-names : goal.returns-in_ok-first-2-clause-names
returns-in_ok-first-2-clause-names g c =
    let s = g.S.CharSource in let read = bytes_of_text (s.characters c.args.source.now) in
    let scanned = c.in_ok-first.ensures in let again = c.in_ok-first-2.ensures in
    let opened = c.open-scanner-then-is_special.ensures in
    let some : option_map place_lent c.args.sel ≡ Some (flat c.in-Some.text.now, c.in-Some.begin) = search rules in
    IfOk-weaker c.list_from.result _ _
    (λ r there h.
    let first = first_is (read (flat c.args.text.now)) _ c.args.pos _ _ c.in_ok-first.first
    (ap read c.open-scanner.ensures.text) c.open-scanner.ensures.position (scanned.symbol h) in
    let still = scanned.reads.still h in
    there (again.reads.still still)
    ∙ (list_is (read (flat c.in-Some.text.now)) _ _ c.in-Some.begin _ _ c.in_ok-first-2.first
    (λ k. bytes_of_text (scanned.reads.same h k) (opened.text k)) opened.position (again.symbol still)
    (λ k. bytes_of_text ((again.reads.same still ∙ scanned.reads.same h) k) ((again.moves.same ∙ opened.text) k))
    ∙ sym (ap first_names (list_of_selection read (flat c.args.text.now) c.args.pos
    (option_map place_lent c.args.sel) c.in_ok-first.first c.is_special.result first c.is_special.ensures
    c.if-is_special.true
    ∙ ap (names_or read no_selection) some))))
    c.list_from.ensures.names

pub returns-else-is_special-clause-names : goal.returns-else-is_special-clause-names
returns-else-is_special-clause-names g c =
    let s = g.S.CharSource in let read = bytes_of_text (s.characters c.args.source.now) in
    let scanned = c.in_ok-first.ensures in let opened = c.open-scanner.ensures in
    IfOk-weaker c.list_from-else-is_special.result _ _
    (λ r there h.
    let first = first_is (read (flat c.args.text.now)) _ c.args.pos _ _ c.in_ok-first.first
    (ap read opened.text) opened.position (scanned.symbol h) in
    there (scanned.reads.still h)
    ∙ (list_is (read (flat c.args.text.now)) _ _ c.args.pos _ _ c.in_ok-first.first
    (ap read opened.text) opened.position (scanned.symbol h)
    (λ k. bytes_of_text (scanned.reads.same h k) ((scanned.moves.same ∙ opened.text) k))
    ∙ sym (ap first_names (list_itself read (flat c.args.text.now) c.args.pos
    (option_map place_lent c.args.sel) c.in_ok-first.first c.is_special.result first c.is_special.ensures
    c.if-is_special.false))))
    c.list_from-else-is_special.ensures.names
