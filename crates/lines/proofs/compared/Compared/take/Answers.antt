use Rattle.std.proofs.Common.{◌∙◌, sym}
use Rattle.lines.proofs.Agreeing.{took_all}
use Rattle.lines.proofs.compared.Compared.take.Goals as goal

pub returns-then-starts_with-clause-bytes : goal.returns-then-starts_with-clause-bytes
returns-then-starts_with-clause-bytes c =
    took_all c.args.self.now.text.now c.args.bytes.now c.args.self.now.taken c.args.self.now.other c.requires c.args.self.now.inside
    (sym c.starts_with.ensures.value ∙ c.if-starts_with.true)
