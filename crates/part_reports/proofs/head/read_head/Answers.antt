use Rattle.std.proofs.Common.{◌≡◌, ◌∙◌, sym, ap, subst, arith}
use Rattle.lines.specs.Reading.{BeginsWith}
use Rattle.part_reports.specs.Heads.{first_line}
use Rattle.part_reports.proofs.head.read_head.Goals as goal

pub returns-in_err-head : goal.returns-in_err-head
returns-in_err-head c = rw c.from_residual.ensures (λ part count hash of. c.in_err-head.ensures c.args.kind part count hash of.0 of.1)

pub returns-then-head : goal.returns-then-head
returns-then-head c = λ part count hash of.
    let same = c.in_ok-head.ensures c.args.kind part count hash of.0 of.1 in
    omega (arith, same.0, same.1, of.1.there, c.if-head.true)

pub returns-in-None : goal.returns-in-None
returns-in-None c = λ part count hash of.
    let k = c.args.kind in
    let head = c.in_ok-head.head in
    let text = c.args.text.now in
    let same = c.in_ok-head.ensures k part count hash of.0 of.1 in
    let line : first_line k head.part head.count head.hash ≡ first_line k part count hash = ap (λ p. first_line k p head.count head.hash) same.0
    ∙ ap (λ n. first_line k part n head.hash) same.1
    ∙ ap (first_line k part count) same.2 in
    c.in-None.ensures (subst (λ l. BeginsWith l text) (sym line) (of.1.more, of.1.is))
