use Rattle.std.proofs.Common.{◌≡◌, ◌∙◌, ◌<◌, ◌≤◌, ◌++◌, ap, arith, length, rules, sym}
use Rattle.std.proofs.lemmas.List.{take_all}
use Rattle.hashtree.specs.Tree.{block_count, height}
use Rattle.opening.specs.PieceLayers.{piece_layer}
use Rattle.gathering.specs.PartRows.{joined_hashes}
use Rattle.gathering.proofs.RowFound.{nodes_of_many, nodes_of_one, put_ok}
use Rattle.gathering.proofs.part_digests.put_nodes.Goals as goal
use Rattle.gathering.proofs.part_digests.put_nodes.Goals.{After-height}

-- the layer of the pieces, the height over what was found, and that there are several pieces
heights : (c : After-height) → (c.height-layer.result ≡ piece_layer c.args.kind.now.piece_length)
    × (c.height.result ≡ height (block_count c.args.found.now.length)) × (c.args.kind.now.piece_length < c.args.length)
heights c = (search rules, search rules, search rules)

pub returns-then-height-layer : goal.returns-then-height-layer
returns-then-height-layer c =
    let given = heights (goal.at.returns-then-height-layer c).After-height in
    put_ok c.extend_from_slice-then-height-layer.result c.args.text.now.items c.extend_from_slice-then-height-layer.new.self.items c.lifted.result _
    c.extend_from_slice-then-height-layer.ensures.items
    (λ put row hashes.
    let len : length row ≡ c.args.found.now.length = sym hashes.length_is in
    let some : 0 < length row = omega (arith, len, c.requires.some) in
    let low : height (block_count (length row)) ≤ c.height-layer.result =
    omega (arith, ap (λ n. height (block_count n)) len, given.1, c.if-height-layer.true) in
    put ∙ ap (λ l. c.args.text.now.items ++ l)
    (nodes_of_one c.args.kind.now.piece_length c.args.length row c.height-layer.result c.lifted.result given.2 given.0 some low
    (c.lifted.ensures row len (hashes.root_is some))))

pub returns : goal.returns
returns c = λ row hashes.
    let given = heights (goal.at.returns c).After-height in
    let len : length row ≡ c.args.found.now.length = sym hashes.length_is in
    let low : c.height-layer.result ≤ height (block_count (length row)) =
    omega (arith, ap (λ n. height (block_count n)) len, given.1, c.if-height-layer.false) in
    let all : c.nodes.text.items ≡ c.args.text.now.items ++ joined_hashes c.args.found.now.layer.items =
    c.nodes.invariant ∙ ap (λ l. c.args.text.now.items ++ joined_hashes l) (take_all c.nodes.node-index c.args.found.now.layer.items (omega (
      arith,
      c.nodes-test.false,
      c.deref-node-items.ensures.len,
      ap length c.deref-node-items.ensures.value,
    ))) in
    all ∙ ap (λ l. c.args.text.now.items ++ l)
    (nodes_of_many c.args.kind.now.piece_length c.args.length row c.height-layer.result c.args.found.now.layer.items given.2 given.0 low hashes.layer_is)
