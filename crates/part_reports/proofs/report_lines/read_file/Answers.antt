use Rattle.std.proofs.Common.{sym, subst}
use Rattle.opening.specs.Seen.{file_entry}
use Rattle.part_reports.specs.Lines.{BeginsWithFile, ReadsFileLine}
use Rattle.part_reports.proofs.MarkedFiles.{line_of_file, marked_file, no_runs_no_file, plain_file}
use Rattle.part_reports.proofs.Readings.{says_small}
use Rattle.part_reports.proofs.report_lines.read_file.Goals as goal

pub returns-in_err-verdict : goal.returns-in_err-verdict
returns-in_err-verdict c = rw c.from_residual.ensures (λ has.
    c.in_err-verdict.ensures (line_of_file c.args.kind c.args.torrent.now c.args.places (file_entry c.args.file.now) c.args.text.now has))

pub returns-in-Plain : goal.returns-in-Plain
returns-in-Plain c =
    let t = c.args.torrent.now in
    let r = c.args.places in
    let f = file_entry c.args.file.now in
    subst (λ k. ReadsFileLine k t r f c.args.text.now c.in_ok-verdict.verdict c.in_ok-verdict.rest.now c.args.bad.now c.args.bad.now) (sym c.in-Plain.is)
    (plain_file t r f c.args.text.now c.in_ok-verdict.verdict c.in_ok-verdict.rest.now c.args.bad.now
    (λ w. says_small t r c.requires.file.0 f w c.recall_sound.ensures c.requires.file.1) c.in_ok-verdict.ensures)

pub returns-in-Some : goal.returns-in-Some
returns-in-Some c =
    let t = c.args.torrent.now in
    let r = c.args.places in
    let f = file_entry c.args.file.now in
    subst (λ k. ReadsFileLine k t r f c.args.text.now c.in_ok-verdict.verdict c.in-Some.behind.now c.args.bad.now c.read_runs.new.bad) (sym c.in-Marked.is)
    (marked_file t r f c.args.text.now c.in_ok-verdict.verdict c.in_ok-verdict.rest.now c.in-Some.behind.now c.args.bad.now c.read_runs.new.bad
    (λ w. says_small t r c.requires.file.0 f w c.recall_sound.ensures c.requires.file.1) c.in_ok-verdict.ensures c.in-Some.ensures)

pub returns-in-None : goal.returns-in-None
returns-in-None c =
    let t = c.args.torrent.now in
    let r = c.args.places in
    let f = file_entry c.args.file.now in
    subst (λ k. BeginsWithFile k t r f c.args.text.now → ⊥) (sym c.in-Marked.is)
    (no_runs_no_file t r f c.args.text.now c.in_ok-verdict.verdict c.in_ok-verdict.rest.now
    (λ w. says_small t r c.requires.file.0 f w c.recall_sound.ensures c.requires.file.1) c.in_ok-verdict.ensures c.in-None.ensures)
