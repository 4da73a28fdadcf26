use Rattle.std.proofs.Common.{refl, sym, subst, ◌∙◌}
use Rattle.opening.specs.Seen.{file_entry}
use Rattle.part_reports.specs.Reported.{CanSay}
use Rattle.part_reports.proofs.Readings.{says_small}
use Rattle.part_reports.proofs.SameLines.{held_line, same_line}
use Rattle.part_reports.proofs.report_lines.read_line.Goals as goal

pub returns-in_err-verdict : goal.returns-in_err-verdict
returns-in_err-verdict c = rw c.from_residual.ensures (λ has.
    let t = c.args.torrent.now in
    let f = file_entry c.args.file.now in
    let small = says_small t c.args.places c.requires.file.0 f has.0 c.recall_sound.ensures c.requires.file.1 has.2.can in
    c.in_err-verdict.ensures has.0 small (has.1, has.2.is ∙ held_line has.0 f has.1))

pub returns-then-can_say : goal.returns-then-can_say
returns-then-can_say c = record { can = c.if-can_say.ensures.0 refl; is = c.in_ok-verdict.ensures.1 ∙ sym (held_line _ _ c.in_ok-verdict.rest.now) }

pub returns-else-can_say : goal.returns-else-can_say
returns-else-can_say c = λ has.
    let t = c.args.torrent.now in
    let f = file_entry c.args.file.now in
    let small = says_small t c.args.places c.requires.file.0 f has.0 c.recall_sound.ensures c.requires.file.1 has.2.can in
    let same = same_line f has.0 c.in_ok-verdict.verdict has.1 c.in_ok-verdict.rest.now small c.in_ok-verdict.ensures.0
    (sym (held_line has.0 f has.1) ∙ sym has.2.is ∙ c.in_ok-verdict.ensures.1) in
    let on = c.can_say.ensures.1 (subst (CanSay t c.args.places f) same.0 has.2.can) in
    let off = c.if-can_say.false in
    (let x : ⊥ = cc in absurd x)
