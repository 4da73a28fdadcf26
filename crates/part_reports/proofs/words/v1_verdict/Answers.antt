use Rattle.std.proofs.Common.{◌≡◌, ◌∷◌, ◌++◌, ◌∙◌, Bor, List, ℕ, ap, codes, decimal, refl, sym, arith}
use Rattle.std.proofs.lemmas.Fmt.{decimal_digit}
use Rattle.folders.specs.declared.report.V1Verdict.TheVariants as version1
use Rattle.part_reports.proofs.Tried.{differs, else_bad, stands}
use Rattle.part_reports.proofs.words.v1_verdict.Goals as goal

-- the first number in a line on version 1 pieces is the 1 of `v1`
behind_v : (text rest : List ℕ) → text ≡ codes "v1" ++ 32 ∷ rest → text ≡ codes "v" ++ (decimal 1 ++ 32 ∷ rest)
behind_v text rest is = is ∙ ap (λ one. codes "v" ++ (one ++ 32 ∷ rest)) (sym (decimal_digit 1 (omega arith)))

pub returns-then-is_some : goal.returns-then-is_some
returns-then-is_some c = λ v more small is.
    stands (λ (x : Bor (List ℕ)). x.now) version1.Good v c.args.text.now more c.strip_version1.result (sym (c.if-is_some.ensures)) c.strip_version1.ensures tt
    small is

pub returns-then-is_some-2 : goal.returns-then-is_some-2
returns-then-is_some-2 c = λ v more small is.
    stands (λ (x : Bor (List ℕ)). x.now) version1.NotChecked v c.args.text.now more c.strip_version1-else-is_some.result
    (sym (c.if-is_some-2.ensures)) c.strip_version1-else-is_some.ensures tt small is

pub returns-else-is_some-2 : goal.returns-else-is_some-2
returns-else-is_some-2 c = λ v more small is.
    else_bad c.args.text.now more c.second_or_zero.result v
    (differs (λ (x : Bor (List ℕ)). x.now) version1.Good c.args.text.now c.strip_version1.result (sym (c.if-is_some.ensures)) c.strip_version1.ensures)
    (differs (λ (x : Bor (List ℕ)). x.now) version1.NotChecked c.args.text.now c.strip_version1-else-is_some.result (sym (c.if-is_some-2.ensures))
    c.strip_version1-else-is_some.ensures)
    (λ rest line. c.second_or_zero.ensures.number (codes "v") rest 1 32 refl (omega arith) refl (behind_v c.args.text.now rest line)) small is
