use Rattle.std.proofs.Common.{◌∙◌, ◌++◌, [], ◌∷◌, ap, refl}
use Rattle.desk_page.specs.Calls.{more, none as none_kept}
use Rattle.desk_page.proofs.kept.Kept.bring_more.Goals as goal

pub returns-in-Ok-clause-answers : goal.returns-in-Ok-clause-answers
returns-in-Ok-clause-answers c =
    let all = c.in-Ok.ensures.all in
    more all.0 all.1
    (all.2 ∙ ap (λ v. v.items ++ (c.args.name.now, all.0) ∷ []) c.replace-coming.ensures.value)
    (record {
      desk = refl;
      text = refl;
      untold = record { calls = c.clear.ensures.items; drawing = refl; line = refl; rings = refl };
    })

pub returns-in-Err-clause-answers : goal.returns-in-Err-clause-answers
returns-in-Err-clause-answers c =
    none_kept c.in-Err.status c.in-Err.ensures.refused
    (ap (λ v. v.items) c.replace-coming.ensures.after ∙ c.new.ensures.items)
    (record {
      desk = refl;
      text = refl;
      untold = record { calls = c.clear.ensures.items; drawing = refl; line = refl; rings = refl };
    })
