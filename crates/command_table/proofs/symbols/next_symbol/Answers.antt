use Rattle.std.proofs.Common.{arith}
use Rattle.std.proofs.lemmas.Result.{IfOk-weaker}
use Rattle.readers_scanners.specs.Reading.{bytes_of_text}
use Rattle.readers_scanners.proofs.Running.{length-bytes}
use Rattle.command_table.proofs.symbols.next_symbol.Goals as goal

pub returns-clause-symbol : goal.returns-clause-symbol
returns-clause-symbol g c =
    let s = g.S.CharSource in let size = length-bytes (s.characters c.args.source.now) c.args.scanner.now.text in
    IfOk-weaker c.scan.result _ _
    (λ symbol is h.
    (c.symbol_worked_out.ensures
    (bytes_of_text (s.characters c.args.source.now) c.args.scanner.now.text) c.args.scanner.now.position symbol
    c.scan.new.self.position (omega (arith, c.requires.within, size))).1 (is.exact h))
    c.scan.ensures.symbol

pub returns-clause-shape : goal.returns-clause-shape
returns-clause-shape g c = IfOk-weaker c.scan.result _ _ (λ symbol is. is.shape) c.scan.ensures.symbol
