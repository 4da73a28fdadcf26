use Rattle.std.proofs.Common.{◌≡◌, false, sym, ◌∙◌}
use Rattle.opening.specs.Seen.{file_entry}
use Rattle.parts.specs.Telling.{has_runs}
use Rattle.part_reports.proofs.RunLines.{all_read, no_runs_read, not_begun}
use Rattle.part_reports.proofs.runs.read_runs.Goals as goal

pub returns-then-not-has_runs : goal.returns-then-not-has_runs
returns-then-not-has_runs c =
    let off = c.if-not-has_runs.true in
    let is = c.has_runs.ensures in
    no_runs_read c.args.torrent.now c.args.places (file_entry c.args.file.now) c.args.verdict c.args.text.now c.args.bad.now
    (let e : has_runs c.args.verdict ≡ false = cc in e)

pub returns-then-begins_rightly : goal.returns-then-begins_rightly
returns-then-begins_rightly c =
    let all = c.read_all-piece.ensures in
    all_read c.args.torrent.now c.args.places (file_entry c.args.file.now) c.args.verdict c.args.text.now c.read_all-piece.result.1.now
    c.read_all-piece.result.0 c.args.bad.now c.read_all-piece.new.bad (sym c.has_runs.ensures ∙ c.if-not-has_runs.false) all
    ((c.begins_rightly.ensures (file_entry c.args.file.now) all.runs all.first_is).0 c.if-begins_rightly.true)

pub returns-else-begins_rightly : goal.returns-else-begins_rightly
returns-else-begins_rightly c =
    let all = c.read_all-piece.ensures in
    not_begun c.args.torrent.now c.args.places (file_entry c.args.file.now) c.args.verdict c.args.text.now c.read_all-piece.result.1.now
    c.read_all-piece.result.0 c.args.bad.now c.read_all-piece.new.bad (sym c.has_runs.ensures ∙ c.if-not-has_runs.false) all (λ begins.
    let on = (c.begins_rightly.ensures (file_entry c.args.file.now) all.runs all.first_is).1 begins in
    let off = c.if-begins_rightly.false in
    (let x : ⊥ = cc in x))
