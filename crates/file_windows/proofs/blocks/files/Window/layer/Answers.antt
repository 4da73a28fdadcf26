use Rattle.std.proofs.Common.{rules, ◌≡◌, ◌∙◌, ◌≤◌, ℕ, List, length, map, drop, ap, arith}
use Rattle.std.proofs.lemmas.List.{length-drop, length-map, length-take}
use Rattle.std.specs.Global.{Vec}
use Rattle.hashtree.specs.Tree.{block_count, height, levels_over}
use Rattle.lanes.specs.Lanes.{bytes_at}
use Rattle.file_windows.proofs.FileLayers.{length-levels_over, one_of_levels}
use Rattle.file_windows.proofs.blocks.files.Window.layer.Goals as goal

pub swap_remove-requires : goal.swap_remove-requires
swap_remove-requires c =
    let levels = c.in_ok-levels.levels.items in
    omega (
      arith,
      length-map levels (λ (level : Vec (List ℕ)). level.items),
      ap length c.in_ok-levels.ensures,
      length-levels_over (block_count c.unwrap-shape.result) c.leaves.result.now,
      c.height.ensures.value,
      c.if-height-layer.false,
      c.in_ok-levels.levels.ok.0,
    )

pub returns-clause-layer : goal.returns-clause-layer
returns-clause-layer c buffer start has hashed inside =
    let size : ℕ = c.args.size in
    let n : ℕ = block_count size in
    let file : List ℕ = bytes_at buffer start size in
    let size_is : length file ≡ size = length-take size (drop start buffer) ∙ omega (arith, inside, length-drop start buffer) in
    let shape : c.unwrap-shape.result ≡ size = search rules in
    let low : c.args.layer ≤ height n =
    omega (arith, c.if-height-layer.false, c.height.ensures.value, ap (λ m. height (block_count m)) shape) in
    one_of_levels file size c.in_ok-levels.levels.items c.args.layer c.swap_remove.result size_is low
    (c.in_ok-levels.ensures ∙ ap (λ m. levels_over (block_count m) 0 c.leaves.result.now) shape
    ∙ ap (levels_over n 0) (c.leaves.ensures.leaves buffer start has hashed inside))
    c.swap_remove.ensures.value
