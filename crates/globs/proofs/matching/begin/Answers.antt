use Rattle.std.proofs.Common.{◌≡◌, ◌∙◌, suc, ◌+◌, ◌-◌, ◌<◌, [], ap, sym, arith, drop, false, get_or, length, map}
use Rattle.std.proofs.lemmas.List.{length-map}
use Rattle.globs.specs.Globs.{kind_of}
use Rattle.globs.specs.Matching.{found, mark, mark_at_end, marks_of_parts, with_none}
use Rattle.globs.proofs.Rows.{mark_last, found_at, kind_at, length_row, put_done, row_at, same_rows}
use Rattle.globs.proofs.matching.begin.Goals as goal

pub parts-preserved : goal.parts-preserved
parts-preserved c =
    let alone = c.args.folders_alone in
    let parts = c.args.parts.now in
    let kinds = map kind_of parts in
    let part = kind_of c.index-parts-place.result in
    let k = length parts - 1 - c.parts.done in
    let inside_parts : k < length parts = omega arith in
    let lt : k < length kinds = omega (arith, inside_parts, length-map parts kind_of) in
    let is : part ≡ get_or kinds k part = kind_at parts k c.index-parts-place.result inside_parts c.index-parts-place.is in
    let len : length c.parts.row ≡ length parts = omega arith in
    let next : suc k ≡ length parts - c.parts.done = omega arith in
    let now : k ≡ length parts - (c.parts.done + 1) = omega arith in
    let here : c.parts.here ≡ found alone (drop (suc k) kinds) [] =
    c.parts.invariant.here ∙ ap (λ j. found alone (drop j kinds) []) (sym next) in
    let made : c.mark_at_end-mark.result ≡ mark part (found alone (drop (suc k) kinds)) [] =
    c.mark_at_end-mark.ensures ∙ ap (mark_at_end part) here ∙ sym (mark_last part (found alone (drop (suc k) kinds))) in
    record {
      done = λ i le inside.
          put_done c.parts.row (marks_of_parts alone kinds []) k c.mark_at_end-mark.result (omega arith)
          (made ∙ sym (row_at alone kinds [] k part false lt is))
          (λ j from to. c.parts.invariant.done j (omega (arith, from, next)) (omega (arith, to, len))) i (omega (arith, le, now)) (omega (arith, inside, len));
      here = c.with_none-here.ensures ∙ ap (λ b. with_none part b c.parts.here) made
          ∙ ap (with_none part (mark part (found alone (drop (suc k) kinds)) [])) here
          ∙ sym (found_at alone kinds [] k part lt is)
          ∙ ap (λ j. found alone (drop j kinds) []) now;
    }

pub returns-clause-row : goal.returns-clause-row
returns-clause-row c =
    let alone = c.args.folders_alone in
    let parts = c.args.parts.now in
    let kinds = map kind_of parts in
    let len : length c.parts.row ≡ length parts = omega arith in
    same_rows c.parts.row (marks_of_parts alone kinds []) (len ∙ sym (length-map parts kind_of) ∙ sym (length_row alone kinds []))
    (λ i lt. c.parts.invariant.done i (omega arith) (omega (arith, lt, len)))
