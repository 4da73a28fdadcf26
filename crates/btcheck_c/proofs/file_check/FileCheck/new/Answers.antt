use Rattle.std.proofs.Common.{rules, ◌≡◌, ◌-◌, IfSome, length, refl, ap, ◌∙◌, subst, arith}
use Rattle.hashtree.specs.Tree.{block_count, height}
use Rattle.pieces.specs.Pieces.{IsPieceLength}
use Rattle.pieces.proofs.Legal.{legal_bounds}
use Rattle.btcheck_c.specs.FileChecks.{row_length}
use Rattle.btcheck_c.proofs.FilePieces.{few_pieces, hashes_row, hashes_whole}
use Rattle.btcheck_c.proofs.file_check.FileCheck.new.Goals as goal

pub new-requires-clause-whole : goal.new-requires-clause-whole
new-requires-clause-whole c =
    let p = c.args.piece_length in let n = c.args.tree.now.length in let from = c.args.from in let to = c.args.to in
    let hashes = c.row_hashes-hashes.result.now in
    let shape : c.unwrap-shape.result ≡ row_length p n from to =
    subst (λ o. IfSome o (λ s. s ≡ c.row_length.result)) c.unwrap-shape.ensures c.of.ensures.value ∙ c.row_length.ensures.value in
    let piece : c.unwrap.result ≡ p = subst (λ o. IfSome o (λ s. s ≡ c.bytes.result)) c.unwrap.ensures c.of-2.ensures.value ∙ c.bytes.ensures.value in
    let legal : IsPieceLength p = subst IsPieceLength c.bytes.ensures.value c.bytes.ensures.legal in
    let bounds = legal_bounds p legal in
    let count : length hashes ≡ to - from = hashes_row p n from to c.args.tree.now.layer.now hashes (omega (arith, bounds.0)) c.requires.order
    c.requires.within c.requires.sound.layer_length c.row_hashes-hashes.ensures.one c.row_hashes-hashes.ensures.many in
    hashes_whole p n c.unwrap.result c.unwrap-shape.result c.height-layer.result from to hashes legal c.requires.order c.requires.within count piece shape
    c.height-layer.ensures.enough c.height-layer.ensures.least

pub returns : goal.returns
returns c = record { against = search rules; count = c.in_ok-new.ensures.count; given = c.in_ok-new.ensures.given }
