use Rattle.std.proofs.Common.{◌≡◌, ◌++◌, ap, subst}
use Rattle.std.specs.Option.{MatchOption}
use Rattle.lines.specs.Reading.{BeginsWith}
use Rattle.lines.specs.Texts.{text_of}
use Rattle.parts.proofs.part_lines.strip_answer.Goals as goal

pub returns : goal.returns
returns c =
    let text = c.args.text.now in
    subst (λ l. MatchOption c.strip_line.result (BeginsWith l text → ⊥) (λ rest. text ≡ l ++ rest.now))
    (ap text_of c.answer.ensures) c.strip_line.ensures
