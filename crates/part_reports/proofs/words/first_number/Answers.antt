use Rattle.std.proofs.Common.{◌∷◌, ◌∙◌}
use Rattle.std.proofs.lemmas.List.{take_rest}
use Rattle.part_reports.proofs.Fronts.{behind_front}
use Rattle.part_reports.proofs.words.first_number.Goals as goal

pub returns : goal.returns
returns c = λ front n d more none small stops is.
    c.split_number.ensures n d more small stops
    (take_rest c.args.text.now c.first_digit.result
    ∙ behind_front c.args.text.now front n (d ∷ more) c.first_digit.result none small is c.first_digit.ensures.value)
