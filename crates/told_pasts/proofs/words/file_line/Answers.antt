use Rattle.std.proofs.Common.{◌∙◌, ◌++◌, ap}
use Rattle.std.specs.Prelude.{codes}
use Rattle.std.specs.Fmt.{decimal}
use Rattle.told_pasts.proofs.Parts.{five_parts}
use Rattle.told_pasts.proofs.words.file_line.Goals as goal

pub returns : goal.returns
returns c = five_parts (codes "the document ") c.args.name.now (codes ", of ") (decimal c.args.count)
    (codes " characters")
    (c.in_ok-extend_from_slice.ensures.items ∙ ap (λ l. l ++ c.args.name.now) c.in_ok-line.ensures.items)
    c.in_ok-extend_from_slice-2.ensures.items
    (c.in_ok-extend_from_slice-3.ensures.items
    ∙ ap (λ l. c.extend_from_slice-2.new.self.items ++ l) (c.as_bytes.ensures.value ∙ c.format.ensures.text))
    c.in_ok-extend_from_slice-4.ensures.items
