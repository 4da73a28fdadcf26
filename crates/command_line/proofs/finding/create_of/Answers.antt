use Rattle.std.proofs.Common.{codes, refl}
use Rattle.clap.specs.Matches.{found_of}
use Rattle.clap.specs.Walk.{rows_of}
use Rattle.command_line.proofs.CommandLine.{needs_created_part, needs_piece_length, needs_places, needs_text}
use Rattle.command_line.proofs.finding.create_of.Goals as goal

pub returns-in_err-origin : goal.returns-in_err-origin
returns-in_err-origin c = rw c.from_residual.ensures (needs_places (rows_of (found_of c.args.found.now)) (c.in_err-origin.ensures))

pub returns-in_err-name : goal.returns-in_err-name
returns-in_err-name c = rw c.from_residual-in_err-name.ensures (needs_text (codes "create") (codes "name") (rows_of (found_of c.args.found.now)) refl
    (c.in_err-name.ensures))

pub returns-in_err-piece_length : goal.returns-in_err-piece_length
returns-in_err-piece_length c = rw c.from_residual-in_err-piece_length.ensures (needs_piece_length (rows_of (found_of c.args.found.now))
    (c.in_err-piece_length.ensures))

pub returns-in_err-part_in-in-Some : goal.returns-in_err-part_in-in-Some
returns-in_err-part_in-in-Some c =
    rw c.from_residual-in_err-part_in-in-Some.ensures (needs_created_part (rows_of (found_of c.args.found.now)) c.in-Some.part.now c.in-Some.ensures
    (λ part is. c.in_err-part_in-in-Some.ensures part is))
