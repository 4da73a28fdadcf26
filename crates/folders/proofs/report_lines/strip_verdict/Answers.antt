use Rattle.std.proofs.Common.{◌≡◌, ◌++◌, ◌∙◌, ap, map, subst, sym}
use Rattle.std.specs.Option.{MatchOption}
use Rattle.lines.specs.Reading.{BeginsWith}
use Rattle.lines.specs.Texts.{text_of}
use Rattle.opening.specs.Seen.{file_entry}
use Rattle.folders.proofs.report_lines.strip_verdict.Goals as goal

pub returns : goal.returns
returns c =
    let f = file_entry c.args.file.now in
    let text = c.args.text.now in
    let path : f.path ≡ map (λ s. s.now) c.deref.result.now = sym (c.deref.ensures ∙ c.parts.ensures) in
    subst (λ l. MatchOption c.strip_line.result (BeginsWith l text → ⊥) (λ rest. text ≡ l ++ rest.now))
    (ap text_of (c.verdict_line.ensures f path)) c.strip_line.ensures
