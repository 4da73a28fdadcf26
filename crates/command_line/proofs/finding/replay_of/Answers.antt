use Rattle.std.proofs.Common.{codes, refl}
use Rattle.clap.specs.Matches.{found_of}
use Rattle.clap.specs.Walk.{rows_of}
use Rattle.command_line.proofs.CommandLine.{needs_text}
use Rattle.command_line.proofs.finding.replay_of.Goals as goal

pub returns-in_err-torrent : goal.returns-in_err-torrent
returns-in_err-torrent c = rw c.from_residual.ensures (needs_text (codes "replay") (codes "TORRENT") (rows_of (found_of c.args.found.now)) refl
    (c.in_err-torrent.ensures))

pub returns-in_err-record : goal.returns-in_err-record
returns-in_err-record c = rw c.from_residual-in_err-record.ensures (needs_text (codes "replay") (codes "RECORD") (rows_of (found_of c.args.found.now)) refl
    (c.in_err-record.ensures))

pub returns : goal.returns
returns c = (
  refl,
  (
    c.in_ok-torrent.ensures,
    c.in_ok-record.ensures,
    c.is_given.ensures,
    c.text-3.ensures,
    c.text-4.ensures,
    c.is_given-2.ensures,
    c.is_given-3.ensures,
    c.is_given-5.ensures,
    c.is_given-4.ensures,
  ),
)
