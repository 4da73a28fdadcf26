use Rattle.std.proofs.Common.{IfOk, subst}
use Rattle.pieces.proofs.Legal.{piece_length_is}
use Rattle.pieces.specs.Pieces.{pieces_of}
use Rattle.opening.specs.Seen.{tree_entry}
use Rattle.btcheck_c.specs.FileChecks.{BeginsFile}
use Rattle.btcheck_c.proofs.Starting.{begun_or}
use Rattle.btcheck_c.proofs.check_starts.begun.Goals as goal

pub returns-in-Ok : goal.returns-in-Ok
returns-in-Ok c =
    let same = piece_length_is _ _ _ _ c.unwrap-piece_length.ensures c.new.ensures c.piece_length.ensures in
    let e = tree_entry c.in-Ok.tree.now in let made = c.new-in-Ok.result in
    begun_or c.args.torrent.now c.args.number e made c.or_no_memory.result c.in-Ok.ensures.0 c.or_no_memory.ensures
    (subst (λ p. IfOk made (BeginsFile p e 0 (pieces_of p e.length))) same
    (subst (λ n. IfOk made (BeginsFile c.unwrap-piece_length.result e 0 n)) c.pieces-count.ensures c.new-in-Ok.ensures))
