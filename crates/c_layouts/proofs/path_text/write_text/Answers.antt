use Rattle.std.proofs.Common.{◌+◌, ◌∷◌, [], ◌++◌, drop, length, length-append, sym, ap, ◌∙◌, arith}
use Rattle.c_layouts.specs.Paths.{joined_path_text}
use Rattle.filetree.specs.FileTree.{slash}
use Rattle.filetree.proofs.Texts.{texts}
use Rattle.c_layouts.proofs.Joining.{tail_text, from_first, part_at, part_next, written_next, written_none, left_fits}
use Rattle.c_layouts.proofs.path_text.write_text.Goals as goal

pub parts-init : goal.parts-init
parts-init c =
    let text = joined_path_text (texts c.args.parts.now) in let rest = tail_text (texts c.in-Some.others.now) in
    let is = from_first c.args.parts.now c.in-Some.first.now c.in-Some.others.now c.in-Some.ensures.cases.0
    ∙ ap (λ t. t ++ rest) (sym c.as_bytes.ensures.value) in
    written_next text c.args.room.now c.args.room.now c.put-end.new.room text c.as_bytes.result.now rest 0 c.put-end.result
    (written_none text c.args.room.now) is c.put-end.ensures.end c.put-end.ensures.room

pub put-end-requires-in-parts : goal.put-end-requires-in-parts
put-end-requires-in-parts c =
    let others = c.in-Some.others.now in let i = c.parts.part-index in
    let text = joined_path_text (texts c.args.parts.now) in let left = tail_text (texts (drop i others)) in
    let fits = left_fits text c.args.room.now c.parts.room left c.parts.end c.parts.invariant c.requires in
    omega (
      arith,
      fits,
      ap length (part_next others i c.parts-test.true),
      length-append (slash ∷ []) ((part_at others i).now ++ tail_text (texts (drop (i + 1) others))),
    )

pub parts-preserved : goal.parts-preserved
parts-preserved c =
    let others = c.in-Some.others.now in let i = c.parts.part-index in
    let text = joined_path_text (texts c.args.parts.now) in let room = c.args.room.now in
    let rest = tail_text (texts (drop (i + 1) others)) in let left = (part_at others i).now ++ rest in
    let with_slash = written_next text room c.parts.room c.put-end-in-parts.new.room (tail_text (texts (drop i others))) (slash ∷ []) left
    c.parts.end c.put-end-in-parts.result c.parts.invariant (part_next others i c.parts-test.true) c.put-end-in-parts.ensures.end
    c.put-end-in-parts.ensures.room in
    written_next text room c.put-end-in-parts.new.room c.put-end-in-parts-2.new.room left c.as_bytes-in-parts.result.now rest
    c.put-end-in-parts.result c.put-end-in-parts-2.result with_slash (ap (λ t. t ++ rest) (sym c.as_bytes-in-parts.ensures.value))
    c.put-end-in-parts-2.ensures.end c.put-end-in-parts-2.ensures.room
