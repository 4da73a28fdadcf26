use Rattle.std.proofs.Common.{◌≡◌, inl, inr, subst, slice_get, sym, ◌∙◌, ap, get_or, arith}
use Rattle.std.proofs.lemmas.Option.{get_or_from_slice_get, slice_get-get_or, slice_get_within}
use Rattle.chains.proofs.Cases.{last_or_before}
use Rattle.lines.specs.Reading.{BeginsWith}
use Rattle.opening.specs.Seen.{file_entry}
use Rattle.folders.specs.declared.report.FileVerdict.TheVariants.{Good}
use Rattle.folders.specs.Printed.{verdict_row}
use Rattle.lines.specs.Texts.{text_of}
use Rattle.part_reports.proofs.words.one_of.Goals as goal

pub verdicts-preserved : goal.verdicts-preserved
verdicts-preserved c = λ n v lt is begins.
    let xs = c.args.verdicts.now in
    let i = c.verdicts.verdict-index in
    elim (last_or_before n i lt) [
      | inl before ↦ c.verdicts.invariant n v before is begins
      | inr last ↦
          let same : get_or xs i Good ≡ v = get_or_from_slice_get xs i v Good (ap (slice_get xs) (sym last) ∙ is) in
          c.in_default.ensures (subst (λ w. BeginsWith (text_of (verdict_row w (file_entry c.args.file.now))) c.args.text.now) (sym same) begins)
    ]

pub returns-in-Some : goal.returns-in-Some
returns-in-Some c =
    let xs = c.args.verdicts.now in
    let i = c.verdicts.verdict-index in
    (c.requires i (get_or xs i Good) (slice_get-get_or xs i Good (omega (arith, c.verdicts-test.true))), c.in-Some.ensures)

pub returns : goal.returns
returns c = λ n v is begins.
    c.verdicts.invariant n v (omega (arith, slice_get_within c.args.verdicts.now n v is, c.verdicts-test.false)) is begins
