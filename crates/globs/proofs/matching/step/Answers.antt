use Rattle.std.proofs.Common.{◌≡◌, ◌∙◌, Bool, List, ℕ, suc, ◌+◌, ◌-◌, ◌<◌, ◌∷◌, ap, sym, arith, drop, false, get_or, length, map}
use Rattle.std.proofs.lemmas.List.{length-map}
use Rattle.globs.specs.Globs.{kind_of}
use Rattle.globs.specs.Matching.{found, mark, mark_before, marks_of_parts, with_none}
use Rattle.globs.proofs.Rows.{mark_more, first_and_rest, found_at, kind_at, length_row, put_done, put_rest, row_at, same_rows}
use Rattle.globs.proofs.matching.step.Goals as goal

pub parts-preserved : goal.parts-preserved
parts-preserved c =
    let alone = c.args.folders_alone in
    let parts = c.args.parts.now in
    let kinds = map kind_of parts in
    let text = c.args.path.now in
    let rest = drop 1 text in
    let letter = c.index-path-0.result in
    let part = kind_of c.index-parts-place.result in
    let k = length parts - 1 - c.parts.done in
    let was = get_or c.parts.row k false in
    let after : List ℕ → Bool = found alone (drop (suc k) kinds) in
    let inside_parts : k < length parts = omega arith in
    let lt : k < length kinds = omega (arith, inside_parts, length-map parts kind_of) in
    let is : part ≡ get_or kinds k part = kind_at parts k c.index-parts-place.result inside_parts c.index-parts-place.is in
    let len : length c.parts.row ≡ length parts = omega arith in
    let next : suc k ≡ length parts - c.parts.done = omega arith in
    let now : k ≡ length parts - (c.parts.done + 1) = omega arith in
    let whole : text ≡ letter ∷ rest = first_and_rest text letter c.requires.some ∙ ap (λ x. x ∷ rest) (sym c.index-path-0.is) in
    let here : c.parts.here ≡ after text =
    c.parts.invariant.here ∙ ap (λ j. found alone (drop j kinds) text) (sym next) in
    let behind : c.parts.behind ≡ after rest =
    c.parts.invariant.behind ∙ ap (λ j. found alone (drop j kinds) rest) (sym next) in
    let had : was ≡ mark part after rest =
    c.parts.invariant.rest k (omega (arith, next)) ∙ row_at alone kinds rest k part false lt is in
    let made : c.mark_before-mark.result ≡ mark part after text =
    c.mark_before-mark.ensures
    ∙ ap (λ h. mark_before part letter h c.parts.behind was) here
    ∙ ap (λ b. mark_before part letter (after text) b was) behind
    ∙ ap (mark_before part letter (after text) (after rest)) had
    ∙ ap (λ t. mark_before part letter (after t) (after rest) (mark part after rest)) whole
    ∙ sym (mark_more part after letter rest)
    ∙ ap (mark part after) (sym whole) in
    record {
      done = λ i le inside.
          put_done c.parts.row (marks_of_parts alone kinds text) k c.mark_before-mark.result (omega arith)
          (made ∙ sym (row_at alone kinds text k part false lt is))
          (λ j from to. c.parts.invariant.done j (omega (arith, from, next)) (omega (arith, to, len))) i (omega (arith, le, now)) (omega (arith, inside, len));
      rest = λ i below.
          put_rest c.parts.row (marks_of_parts alone kinds rest) k c.mark_before-mark.result
          (λ j to. c.parts.invariant.rest j (omega (arith, to, next))) i (omega (arith, below, now));
      here = c.with_none-here.ensures ∙ ap (λ b. with_none part b c.parts.here) made
          ∙ ap (with_none part (mark part after text)) here
          ∙ sym (found_at alone kinds text k part lt is)
          ∙ ap (λ j. found alone (drop j kinds) text) now;
      behind = c.with_none-behind.ensures ∙ ap (λ b. with_none part b c.parts.behind) had
          ∙ ap (with_none part (mark part after rest)) behind
          ∙ sym (found_at alone kinds rest k part lt is)
          ∙ ap (λ j. found alone (drop j kinds) rest) now;
    }

pub returns-clause-row : goal.returns-clause-row
returns-clause-row c =
    let alone = c.args.folders_alone in
    let parts = c.args.parts.now in
    let kinds = map kind_of parts in
    let text = c.args.path.now in
    let len : length c.parts.row ≡ length parts = omega arith in
    same_rows c.parts.row (marks_of_parts alone kinds text) (len ∙ sym (length-map parts kind_of) ∙ sym (length_row alone kinds text))
    (λ i lt. c.parts.invariant.done i (omega arith) (omega (arith, lt, len)))
