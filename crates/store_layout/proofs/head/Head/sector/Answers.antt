use Rattle.store_layout.proofs.Heads.{head_read}
use Rattle.store_layout.proofs.head.Head.sector.Goals as goal

pub returns : goal.returns
returns c =
    let n = c.numbers.ensures in
    head_read c.numbers.result c.args.self.now n.version n.epoch n.written n.extent n.area n.next n.before c.requires
