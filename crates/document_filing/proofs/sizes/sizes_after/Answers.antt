use Rattle.std.proofs.Common.{◌∙◌, [], ap}
use Rattle.desk_core.specs.Words.{seen, kept_desktop}
use Rattle.document_filing.proofs.Sums.{names_rise, none_filed, sizes_filed}
use Rattle.document_filing.proofs.sizes.sizes_after.Goals as goal

pub sizes_of-requires : goal.sizes_of-requires
sizes_of-requires c = names_rise (kept_desktop c.args.desk.now) (c.requires.sound [])

pub loop-document-init : goal.loop-document-init
loop-document-init c = λ characters. none_filed characters (kept_desktop c.args.desk.now) _ (c.in_ok-sizes.ensures.sizes characters)

pub loop-document-preserved : goal.loop-document-preserved
loop-document-preserved c = λ characters.
    sizes_filed (seen characters (kept_desktop c.args.desk.now)) c.args.documents.now c.loop-document.document-index c.document-item.result
    c.loop-document-test.true c.loop-document.sizes.entries c.put_size.new.sizes.entries c.name.result.now
    c.as_bytes.result.now
    (c.name.ensures.value ∙ ap (λ e. e.0) c.document-item.is) (c.as_bytes.ensures.value ∙ ap (λ e. e.1) c.document-item.is)
    (c.loop-document.invariant characters) c.in_ok-put_size.ensures.put
