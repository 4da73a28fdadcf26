use Rattle.std.proofs.Common.{◌≡◌, ℕ, ◌*◌, ◌+◌, ◌-◌, ◌<◌, ◌++◌, List, [], length, ap, ap₂, ◌∙◌, arith, slice_index_or}
use Rattle.std.proofs.lemmas.List.{append-nil, get_or_append_left, get_or-append_right, length-append}
use Rattle.node_maps.specs.Digest.{Hash, join}
use Rattle.partial_tree.proofs.message.row.parents_of_rows.Goals as goal

in_first : (left right : List Hash) (k : ℕ) → length left ≡ 8 → k < 8 → slice_index_or (left ++ (right ++ [])) k [] ≡ slice_index_or left k []
in_first left right k size low = get_or_append_left left (right ++ []) [] k (omega (arith, size, low))

in_second : (left right : List Hash) (k i : ℕ) → length left ≡ 8 → k ≡ 8 + i → slice_index_or (left ++ (right ++ [])) k [] ≡ slice_index_or right i []
in_second left right k i size at =
    let rest : k - 8 ≡ i = omega (arith, at) in
    get_or-append_right left (right ++ []) 8 k [] size (omega (arith, at))
    ∙ ap₂ (λ xs j. slice_index_or xs j []) (append-nil right) rest

pub parents-requires : goal.parents-requires
parents-requires c =
    let left = c.args.left.now in
    let right = c.args.right.now in
    let first : length left ≡ 8 = omega arith in
    let second : length right ≡ 8 = omega arith in
    ap length c.as_flattened.ensures.value ∙ length-append left (right ++ []) ∙ ap₂ ◌+◌ first (ap length (append-nil right) ∙ second)

pub returns-clause-left : goal.returns-clause-left
returns-clause-left c = λ j lt.
    c.parents.ensures j (omega (arith, lt))
    ∙ ap₂ join
    (ap (λ xs. slice_index_or xs (2 * j) []) c.as_flattened.ensures.value
    ∙ in_first c.args.left.now c.args.right.now (2 * j) (omega arith) (omega (arith, lt)))
    (ap (λ xs. slice_index_or xs (2 * j + 1) []) c.as_flattened.ensures.value
    ∙ in_first c.args.left.now c.args.right.now (2 * j + 1) (omega arith) (omega (arith, lt)))

pub returns-clause-right : goal.returns-clause-right
returns-clause-right c = λ j lt.
    c.parents.ensures (4 + j) (omega (arith, lt))
    ∙ ap₂ join
    (ap (λ xs. slice_index_or xs (2 * (4 + j)) []) c.as_flattened.ensures.value
    ∙ in_second c.args.left.now c.args.right.now (2 * (4 + j)) (2 * j) (omega arith) (omega arith))
    (ap (λ xs. slice_index_or xs (2 * (4 + j) + 1) []) c.as_flattened.ensures.value
    ∙ in_second c.args.left.now c.args.right.now (2 * (4 + j) + 1) (2 * j + 1) (omega arith) (omega arith))
