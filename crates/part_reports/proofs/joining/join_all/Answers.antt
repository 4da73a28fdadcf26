use Rattle.std.proofs.Common.{◌≡◌, length, map, ◌∙◌, arith}
use Rattle.std.proofs.lemmas.Bool.Decides.{nat_tests}
use Rattle.std.proofs.lemmas.List.{length-map}
use Rattle.part_reports.proofs.Faults.{none_there}
use Rattle.part_reports.proofs.joining.join_all.Goals as goal

pub returns-then-is_empty-clause-reason : goal.returns-then-is_empty-clause-reason
returns-then-is_empty-clause-reason c =
    let texts = map (λ x. x.now) c.args.texts.now in
    let none : length c.args.texts.now ≡ 0 = grind (arith, nat_tests, c.if-is_empty.true, c.is_empty.ensures) in
    none_there c.args.kind c.args.torrent.now texts (length-map c.args.texts.now (λ x. x.now) ∙ none)
