use Rattle.std.proofs.Common.{◌≡◌, ◌++◌, Option, Some, None}
use Rattle.std.specs.Option.{MatchOption}
use Rattle.opening.specs.Seen.{file_entry}
use Rattle.folders.specs.Printed.{verdict_row}
use Rattle.lines.specs.Texts.{text_of}
use Rattle.part_reports.specs.Lines.{IsSmall}
use Rattle.part_reports.proofs.Tried.{are_small, none_there}
use Rattle.part_reports.proofs.words.file_verdict.Goals as goal

pub one_of-requires : goal.one_of-requires
one_of-requires c = are_small c.number_or_zero.result c.number_or_zero.ensures.small

-- what is read is read, and nothing is there but what was tried
tried : {A B C : Type 0} (o : Option A) (P : A → Type 0) → MatchOption o B P → (B → C) → MatchOption o C P
tried None P none more = more none
tried (Some x) P read more = read

pub returns : goal.returns
returns c =
    let f = file_entry c.args.file.now in
    tried c.one_of.result (λ x. IsSmall x.0 × (c.args.text.now ≡ text_of (verdict_row x.0 f) ++ x.1.now)) c.one_of.ensures
    (none_there f c.args.text.now c.number_or_zero.result c.number_or_zero.ensures.number)
