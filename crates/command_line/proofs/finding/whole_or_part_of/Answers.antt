use Rattle.std.proofs.Common.{codes, refl}
use Rattle.clap.specs.Matches.{found_of}
use Rattle.clap.specs.Walk.{rows_of}
use Rattle.command_line.proofs.CommandLine.{needs_part, needs_text}
use Rattle.command_line.proofs.finding.whole_or_part_of.Goals as goal

pub returns-in_err-torrent : goal.returns-in_err-torrent
returns-in_err-torrent c = rw c.from_residual.ensures (needs_text (codes "check") (codes "TORRENT") (rows_of (found_of c.args.found.now)) refl
    (c.in_err-torrent.ensures))

pub returns-in_err-dir : goal.returns-in_err-dir
returns-in_err-dir c = rw c.from_residual-in_err-dir.ensures (needs_text (codes "check") (codes "DIR") (rows_of (found_of c.args.found.now)) refl
    (c.in_err-dir.ensures))

pub returns-in_err-part-in-Some : goal.returns-in_err-part-in-Some
returns-in_err-part-in-Some c =
    rw c.from_residual-in_err-part-in-Some.ensures (needs_part (rows_of (found_of c.args.found.now)) c.in-Some.part.now c.in-Some.ensures
    (λ part is plain. c.in_err-part-in-Some.ensures part is))
