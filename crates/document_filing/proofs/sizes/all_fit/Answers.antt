use Rattle.std.proofs.Common.{[], refl, arith}
use Rattle.desk_core.specs.Words.{kept_desktop}
use Rattle.document_filing.proofs.Sums.{few_held, few_written, others_held, past_written, kept_limits}
use Rattle.document_filing.proofs.sizes.all_fit.Goals as goal

pub lengths-requires : goal.lengths-requires
lengths-requires c = few_held (kept_desktop c.args.desk.now) c.requires.whole

pub overflow_sub-others : goal.overflow_sub-others
overflow_sub-others c =
    omega (arith, c.lengths.ensures [], c.held.ensures.held [], others_held (kept_desktop c.args.desk.now) c.requires.whole)

pub overflow_sub-desk : goal.overflow_sub-desk
overflow_sub-desk c = few_written (kept_desktop c.args.desk.now) c.requires.whole

pub returns-then-not-documents_fit-clause-fits : goal.returns-then-not-documents_fit-clause-fits
returns-then-not-documents_fit-clause-fits c = λ characters.
    past_written characters (kept_desktop c.args.desk.now) c.args.documents.now c.args.sizes.now.entries
    (c.requires.sizes characters) c.held.result c.lengths.result (c.held.ensures.held characters)
    (c.lengths.ensures characters)
    (omega (arith, c.lengths.ensures [], c.held.ensures.held [], others_held (kept_desktop c.args.desk.now) c.requires.whole))
    c.held.ensures.few (c.if-not-documents_fit.ensures.more refl)

pub returns-clause-fits : goal.returns-clause-fits
returns-clause-fits c = λ characters.
    kept_limits characters (kept_desktop c.args.desk.now) c.args.documents.now c.args.sizes.now.entries
    (c.requires.sizes characters) c.held.result c.lengths.result (c.held.ensures.held characters)
    (c.lengths.ensures characters)
    (omega (arith, c.lengths.ensures [], c.held.ensures.held [], others_held (kept_desktop c.args.desk.now) c.requires.whole))
    c.held.ensures.few c.sizes_fit.result (c.if-not-documents_fit.ensures.within refl)
    (few_written (kept_desktop c.args.desk.now) c.requires.whole) c.sizes_fit.ensures.within c.sizes_fit.ensures.more

pub returns-clause-room : goal.returns-clause-room
returns-clause-room c = λ fits.
    omega (arith, c.if-not-documents_fit.ensures.within refl, few_written (kept_desktop c.args.desk.now) c.requires.whole)
