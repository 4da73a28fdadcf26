use Rattle.std.proofs.Common.{rules, ◌≡◌, ◌∙◌, ℕ, List, length, drop, ap₂, sym, arith}
use Rattle.std.proofs.lemmas.List.{length-drop, length-take}
use Rattle.hashtree.specs.Tree.{block_count, height, root_over}
use Rattle.lanes.specs.Lanes.{bytes_at}
use Rattle.file_windows.proofs.blocks.files.Window.root.Goals as goal

pub returns : goal.returns
returns c buffer start has hashed inside =
    let size : ℕ = c.args.size in
    let file : List ℕ = bytes_at buffer start size in
    let size_is : length file ≡ size = length-take size (drop start buffer) ∙ omega (arith, inside, length-drop start buffer) in
    let shape : c.unwrap-shape.result ≡ size = search rules in
    c.layer_root.ensures
    ∙ ap₂ (λ n row. root_over (height (block_count n)) 0 row) (shape ∙ sym size_is) (c.leaves.ensures.leaves buffer start has hashed inside)
    ∙ c.layers_lead_to_root.ensures file 0 (omega arith)
