use Rattle.std.proofs.Common.{◌≡◌, ◌∙◌, ◌<◌, ◌++◌, ap, append_assoc, arith, length, sym}
use Rattle.gathering.specs.PartRows.{joined_hashes, row_cuts, row_nodes}
use Rattle.gathering.proofs.RowFound.{cuts_of, row_is}
use Rattle.gathering.proofs.part_digests.put_digests.Goals as goal

pub returns-in_ok-put_cuts : goal.returns-in_ok-put_cuts
returns-in_ok-put_cuts c = λ row hashes.
    let len : length row ≡ c.args.found.now.length = sym hashes.length_is in
    let some : 0 < length row = omega (arith, len, c.requires.some) in
    let v1 = hashes.v1_is c.if-kind.true some in
    let nodes : c.put_nodes.new.text.items ≡ c.args.text.now.items ++ joined_hashes (row_nodes c.args.kind.now.piece_length c.args.length row) =
    c.in_ok-put_nodes.ensures row hashes in
    let cuts : c.put_cuts.new.text.items ≡ c.put_nodes.new.text.items ++ (joined_hashes c.args.found.now.v1.cuts.items ++ c.args.found.now.v1.padded) =
    c.in_ok-put_cuts.ensures in
    cuts
    ∙ ap (λ l. l ++ (joined_hashes c.args.found.now.v1.cuts.items ++ c.args.found.now.v1.padded)) nodes
    ∙ ap (λ l. (c.args.text.now.items ++ joined_hashes (row_nodes c.args.kind.now.piece_length c.args.length row)) ++ l)
    (cuts_of c.args.kind.now.piece_length c.args.kind.now.hybrid row c.args.found.now.v1.cuts.items c.args.found.now.v1.padded c.if-kind.true v1.cuts
    (v1.padded some))
    ∙ append_assoc c.args.text.now.items (joined_hashes (row_nodes c.args.kind.now.piece_length c.args.length row))
    (joined_hashes (row_cuts c.args.kind.now.piece_length c.args.kind.now.hybrid row))
    ∙ ap (λ l. c.args.text.now.items ++ l) (sym (row_is c.args.kind.now.piece_length c.args.kind.now.hybrid c.args.length row some))
