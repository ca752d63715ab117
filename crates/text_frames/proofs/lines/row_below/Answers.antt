use Rattle.std.proofs.Common.{◌≡◌, ◌+◌, ◌∙◌, refl, sym, subst, length, IfSome, arith}
use Rattle.std.proofs.lemmas.Result.{err_from_is_err_and}
use Rattle.readers_scanners.specs.Words.{CountsFault}
use Rattle.char_file.proofs.Reading.{read_on}
use Rattle.piece_ring.specs.Flat.{flat}
use Rattle.readers_scanners.specs.Reading.{bytes_of_text}
use Rattle.text_frames.specs.Lines.{ends_between}
use Rattle.text_frames.specs.Reading.{IsRowBelow, IsNearer}
use Rattle.text_frames.proofs.Ends.{farther, rows_on_if}
use Rattle.text_frames.proofs.lines.row_below.Goals as goal

pub returns-clause-begins : goal.returns-clause-begins
returns-clause-begins g c h =
    let s = g.S.CharSource in let text = flat c.args.text.now in
    let bs = bytes_of_text (s.characters c.args.source.now) text in
    let first = c.in_ok-long.ensures in let second = c.in_ok-short.ensures in let third = c.in_ok-begin.ensures in
    let long = c.in_ok-long.long in let short = c.in_ok-short.short in let found = c.in_ok-begin.begin in
    let rest = c.in_ok-long.rest in let last = c.in_ok-short.last in
    let same = first.source.reads.same h in let still = first.source.reads.still h in
    let to_long = subst (λ from. ends_between bs from long.position + rest ≡ c.args.rows) c.open-reader.ensures.position
    (first.leads h) in
    let long_way = subst (λ from. IsNearer (length text) from c.args.rows long.position rest)
    c.open-reader.ensures.position first.range in
    let to_short = subst (λ cs. ends_between (bytes_of_text cs text) long.position short.position + last ≡ rest) same
    (second.leads still) in
    let short_way = second.range in
    let to_row = subst (λ cs. IfSome found (λ row. IsRowBelow (bytes_of_text cs text) short.position last row.position))
    (second.source.reads.same still ∙ same) (third.begins (second.source.reads.still still)) in
    rows_on_if bs c.args.from long.position _ rest c.args.rows long_way.low refl to_long (length text) found
    (farther _ _ (length text) found short_way.few third.range)
    (rows_on_if bs long.position short.position _ last rest short_way.low refl to_short (length text) found third.range
    to_row)

pub returns-clause-range : goal.returns-clause-range
returns-clause-range g c =
    let text = flat c.args.text.now in let found = c.in_ok-begin.begin in
    let long_way = subst (λ from. IsNearer (length text) from c.args.rows c.in_ok-long.long.position c.in_ok-long.rest)
    c.open-reader.ensures.position c.in_ok-long.ensures.range in
    farther _ _ (length text) found long_way.few
    (farther _ _ (length text) found c.in_ok-short.ensures.range.few c.in_ok-begin.ensures.range)

pub returns-clause-source : goal.returns-clause-source
returns-clause-source g c =
    let s = g.S.CharSource in let laws = g.met.S.CharSource in
    let first = c.in_ok-long.ensures.source in let second = c.in_ok-short.ensures.source in
    let third = c.in_ok-begin.ensures.source in
    record {
      reads = read_on s.characters s.failures s.honest s.same_ground laws.ground_through _ _ _
          (read_on s.characters s.failures s.honest s.same_ground laws.ground_through _ _ _ first.reads second.reads)
          third.reads;
      cause = third.cause ∙ second.cause ∙ first.cause;
    }

pub returns-in_err-begin-clause-source : goal.returns-in_err-begin-clause-source
returns-in_err-begin-clause-source g c =
    let s = g.S.CharSource in let laws = g.met.S.CharSource in
    let first = c.in_ok-long.ensures.source in let second = c.in_ok-short.ensures.source in
    let third = c.in_err-begin.ensures.source in let rose = third.cause in
    let begun = first.cause in let went = second.cause in
    let fault = err_from_is_err_and c.from_residual-in_err-begin.result c.from_residual-in_err-begin.ensures.1 in
    record {
      reads = read_on s.characters s.failures s.honest s.same_ground laws.ground_through _ _ _
          (read_on s.characters s.failures s.honest s.same_ground laws.ground_through _ _ _ first.reads second.reads)
          third.reads;
      cause = subst (λ result. CountsFault result (s.failures c.args.source.now) (s.failures c.row_within.new.source))
          (sym fault.1) (omega (arith, rose, begun, went));
    }
