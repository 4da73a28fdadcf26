use Rattle.std.proofs.Common.{◌≡◌, ◌+◌, ◌-◌, ◌^◌, ◌∷◌, drop, length, min, arith}
use Rattle.filetree.specs.FileTree.{slash}
use Rattle.filetree.proofs.Texts.{texts}
use Rattle.c_layouts.proofs.Joining.{tail_text, from_first, part_at, part_next, counted_next}
use Rattle.c_layouts.proofs.path_text.text_length.Goals as goal

pub parts-init : goal.parts-init
parts-init c = record {
  done = c.in-Some.first.now.now;
  whole = from_first _ c.in-Some.first.now c.in-Some.others.now c.in-Some.ensures.cases.0;
  count_is = omega (arith, c.as_bytes-count.ensures.len);
}

pub parts-preserved : goal.parts-preserved
parts-preserved c =
    let others = c.in-Some.others.now in let i = c.parts.part-index in
    let part = (part_at others i).now in let rest = tail_text (texts (drop (i + 1) others)) in
    let more : c.saturating_add-count.result ≡ min (c.parts.count + length (slash ∷ part)) (2 ^ 64 - 1) =
    omega (arith, c.saturating_add-count.ensures, c.saturating_add.ensures) in
    counted_next _ (tail_text (texts (drop i others))) (slash ∷ part) rest c.parts.count c.saturating_add-count.result c.parts.invariant
    (part_next others i c.parts-test.true) more
