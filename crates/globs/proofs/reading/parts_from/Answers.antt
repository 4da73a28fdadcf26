use Rattle.std.proofs.Common.{◌≡◌, ◌∙◌, ◌⊎◌, ◌||◌, ◌+◌, ◌-◌, ◌++◌, ◌==◌, [], ◌∷◌, ap, sym, arith, append-nil, false, inl, inr, length, map}
use Rattle.std.proofs.Common.{option_and_then, option_map, true, Some, suc}
use Rattle.std.proofs.lemmas.List.{map-append}
use Rattle.std.proofs.lemmas.Result.{err_from_is_err_and}
use Rattle.globs.specs.Globs.{kind_of, whole_of}
use Rattle.globs.specs.Reading.{part_at, put}
use Rattle.globs.specs.Texts.{is_slash, parts_at, seen_part}
use Rattle.globs.proofs.Meaning.{or_left, or_right}
use Rattle.globs.proofs.Onward.{NextParts, parts_end, parts_more, put_put, same_fault}
use Rattle.globs.proofs.reading.parts_from.Goals as goal
use Rattle.globs.proofs.reading.parts_from.Goals.{else-parts-test, then-parts-test+then-is_empty}
use Rattle.globs.proofs.reading.parts_from.Goals.{then-is_empty-via-then-is_empty, then-is_empty-via-else-is_empty+then-is_slash}

pub returns-in_err-read : goal.returns-in_err-read
returns-in_err-read c =
    let kinds = map kind_of c.parts.parts.items in
    let text = c.parts.rest.now in
    let m = length c.args.text.now - c.parts.done in
    let next : m ≡ suc (m - 1) = omega arith in
    let some : (length text == 0) ≡ false = sym c.is_empty.ensures ∙ c.if-is_empty.false in
    let others : is_slash text ≡ false = sym c.is_slash.ensures ∙ c.if-is_slash.false in
    let p = err_from_is_err_and c.from_residual.result c.from_residual.ensures.1 in
    same_fault seen_part whole_of _ _ _ (part_at c.parts.starts text) _ p.1 p.2 c.in_err-read.ensures
    (λ none. sym c.parts.invariant
    ∙ ap (option_map (put kinds)) (parts_more m (m - 1) c.parts.starts text next some others ∙ ap (option_and_then (NextParts (m - 1))) none))

pub parts-preserved : goal.parts-preserved
parts-preserved c =
    let items = c.parts.parts.items in
    let kinds = map kind_of items in
    let text = c.parts.rest.now in
    let read = c.in_ok-read.read in
    let m = length c.args.text.now - c.parts.done in
    let n = length c.args.text.now - (c.parts.done + 1) in
    let next : m ≡ suc n = omega arith in
    let some : (length text == 0) ≡ false = sym c.is_empty.ensures ∙ c.if-is_empty.false in
    let others : is_slash text ≡ false = sym c.is_slash.ensures ∙ c.if-is_slash.false in
    let at : part_at c.parts.starts text ≡ Some (seen_part read) = c.in_ok-read.ensures in
    let now : c.push.new.self.items ≡ items ++ read.part ∷ [] = c.in_ok-push.ensures.items in
    let more = parts_at n read.starts read.rest.now in
    ap (λ xs. option_map (put (map kind_of xs)) more) now
    ∙ ap (λ ks. option_map (put ks) more) (map-append kind_of items (read.part ∷ []))
    ∙ sym (put_put kinds (kind_of read.part) more)
    ∙ ap (option_map (put kinds)) (sym (parts_more m n c.parts.starts text next some others ∙ ap (option_and_then (NextParts n)) at))
    ∙ c.parts.invariant

pub returns : goal.returns
returns c =
    let kinds = map kind_of c.parts.parts.items in
    let text = c.parts.rest.now in
    let m = length c.args.text.now - c.parts.done in
    let over : (m ≡ 0) ⊎ ((length text == 0 || is_slash text) ≡ true) =
    elim c.parts-test.branch [
      | else-parts-test w ↦ inl (omega arith)
      | then-parts-test+then-is_empty w ↦
          elim w.then-is_empty.branch [
            | then-is_empty-via-then-is_empty w' ↦ inr (or_left (length text == 0) (is_slash text) (sym w.is_empty.ensures ∙ w'.if-is_empty.true))
            | then-is_empty-via-else-is_empty+then-is_slash w' ↦
                inr (or_right (length text == 0) (is_slash text) (sym w'.is_slash.ensures ∙ w'.if-is_slash.true))
          ]
    ] in
    sym c.parts.invariant ∙ ap (option_map (put kinds)) (parts_end m c.parts.starts text over)
    ∙ ap (λ t. Some (t, is_slash text)) (append-nil kinds) ∙ ap (λ b. Some (kinds, b)) (sym c.is_slash-2.ensures)
