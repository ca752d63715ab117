use Rattle.std.proofs.Common.{◌∙◌, sym}
use Rattle.std.specs.Cmp.Lexicographic.{same_text}
use Rattle.former_stores.proofs.laying.is_zeros.Goals as goal

pub returns : goal.returns
returns c = λ is. same_text c.args.sector.now c.zero_sector.result (sym is ∙ c.eq.ensures) ∙ c.zero_sector.ensures
