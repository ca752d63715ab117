use Rattle.std.specs.Prelude.{◌≡◌, true, false, length, nat_lt}
use Rattle.std.proofs.Common.{◌∙◌, ap, sym}
use Rattle.desktop_definitions.specs.Limits.{most_files}
use Rattle.desktop_definitions.specs.Tables.{file_named}
use Rattle.desktop_definitions.proofs.TableLaws.{gone_size}
use Rattle.desk_core.proofs.FilingLemmas.{over_answered}
use Rattle.desk_core.proofs.filing.put_within.Goals as goal

pub returns-then-not-is_space-2-clause-answered : goal.returns-then-not-is_space-2-clause-answered
returns-then-not-is_space-2-clause-answered c =
    let files = c.args.files.now.entries in
    let same : c.in_ok-clone.field-0 ≡ c.args.name.now = cc c.in_ok-clone.ensures.copy in
    let value = rw c.in-Occupied.is at c.in_ok-place.ensures.value in
    over_answered (file_named files c.args.name.now) c.get.result.now (nat_lt (length files) most_files) c.args.written
    c.args.held c.len-in-Occupied.result false
    (ap (file_named files) (sym same) ∙ sym value ∙ c.get.ensures) c.len-in-Occupied.ensures
    (sym c.is_space-in-Occupied.ensures ∙ c.if-not-is_space-2.true)

pub returns-else-not-is_space-2-clause-answered : goal.returns-else-not-is_space-2-clause-answered
returns-else-not-is_space-2-clause-answered c =
    let files = c.args.files.now.entries in
    let same : c.in_ok-clone.field-0 ≡ c.args.name.now = cc c.in_ok-clone.ensures.copy in
    let value = rw c.in-Occupied.is at c.in_ok-place.ensures.value in
    over_answered (file_named files c.args.name.now) c.get.result.now (nat_lt (length files) most_files) c.args.written
    c.args.held c.len-in-Occupied.result true
    (ap (file_named files) (sym same) ∙ sym value ∙ c.get.ensures) c.len-in-Occupied.ensures
    (sym c.is_space-in-Occupied.ensures ∙ c.if-not-is_space-2.false)

pub returns-then-not-room-clause-gone : goal.returns-then-not-room-clause-gone
returns-then-not-room-clause-gone c = λ characters new.
    gone_size c.args.files.now.entries c.args.name.now characters new c.len.ensures.ordered

pub returns-then-not-is_space-clause-gone : goal.returns-then-not-is_space-clause-gone
returns-then-not-is_space-clause-gone c = λ characters new.
    gone_size c.args.files.now.entries c.args.name.now characters new c.len.ensures.ordered

pub returns-then-not-is_space-2-clause-gone : goal.returns-then-not-is_space-2-clause-gone
returns-then-not-is_space-2-clause-gone c = λ characters new.
    gone_size c.args.files.now.entries c.args.name.now characters new c.len.ensures.ordered

pub returns-else-not-is_space-clause-gone : goal.returns-else-not-is_space-clause-gone
returns-else-not-is_space-clause-gone c = λ characters new.
    gone_size c.args.files.now.entries c.args.name.now characters new c.len.ensures.ordered

pub returns-else-not-is_space-2-clause-gone : goal.returns-else-not-is_space-2-clause-gone
returns-else-not-is_space-2-clause-gone c = λ characters new.
    gone_size c.args.files.now.entries c.args.name.now characters new c.len.ensures.ordered
