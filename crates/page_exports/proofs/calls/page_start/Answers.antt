use Rattle.std.proofs.Common.{◌∙◌, Some, ap, refl}
use Rattle.desk_page.specs.declared.kept.Kept.{Kept}
use Rattle.page_exports.specs.Exports.{IsFresh, fresh, no_room}
use Rattle.page_exports.proofs.calls.page_start.Goals as goal

pub returns-in-Ok : goal.returns-in-Ok
returns-in-Ok c =
    let nothing : IsFresh c.new.result = record {
      desk = c.new.ensures.desk;
      coming = c.new.ensures.coming;
      loaded = c.new.ensures.loaded;
      untold = c.new.ensures.untold;
    } in
    record { started = fresh c.new.result nothing (c.put.ensures ∙ ap (λ (kept : Kept). Some kept) c.in-Ok.ensures.ok) }

pub returns : goal.returns
returns c = record { started = no_room refl }
