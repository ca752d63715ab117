use Rattle.std.proofs.Common.{◌≡◌, Some, ◌∙◌}
use Rattle.image_format.specs.Steps.{last_key}
use Rattle.image_format.proofs.Rising.{last_key_is, name_lt}
use Rattle.image_format.proofs.reading.texts.comes_last.Goals as goal

pub returns-in-Some : goal.returns-in-Some
returns-in-Some c =
    let k : last_key c.args.files.now.entries ≡ Some c.in-Some.last.now = last_key_is c.args.files.now.entries
    (c.in-Some.last.now, c.in-Some.field-0-1.now) c.in-Some.ensures.last in
    rw k (c.lt.ensures ∙ name_lt c.in-Some.last.now c.args.name.now)
