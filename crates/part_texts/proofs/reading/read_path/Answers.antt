use Rattle.std.proofs.Common.{◌≡◌, ◌<◌, ◌+◌, ◌++◌, ◌∷◌, [], if◌then◌else◌, is_ok, map, sym, true, ◌∙◌, ap, arith, drop, get_or, length}
use Rattle.std.proofs.lemmas.List.{map_push}
use Rattle.std.proofs.lemmas.Result.{err_from_is_err_and}
use Rattle.std.specs.List.{flat_map}
use Rattle.std.specs.String.{string_bytes}
use Rattle.part_texts.specs.Readings.{IsText}
use Rattle.part_texts.specs.Texts.{sized}
use Rattle.part_texts.proofs.Fronts.{next_front, one_more_read, run_begun, run_ended, run_more, unread}
use Rattle.part_texts.proofs.reading.read_path.Goals as goal

pub returns-in_err-part-clause-found : goal.returns-in_err-part-clause-found
returns-in_err-part-clause-found c = λ path more are len text.
    let inv = c.parts.invariant.found path more are len text in
    let lt : c.parts._number < length path = omega (arith, c.parts-test.true, len) in
    let p = err_from_is_err_and c.from_residual.result c.from_residual.ensures.1 in
    unread _ _ _ _ _ p.1 p.2 (c.in_err-part.ensures.found (get_or path c.parts._number []) (flat_map sized (drop (c.parts._number + 1) path) ++ more)
    (are.texts c.parts._number lt) (next_front sized path c.parts._number [] c.parts.rest.now more lt inv.0))

pub parts-preserved : goal.parts-preserved
parts-preserved c =
    let ok : is_ok c.push.result ≡ true = sym c.map_err.ensures.variant ∙ ap is_ok c.in_ok-map_err.was in
    let items : c.push.new.self.items ≡ c.parts.path.items ++ c.in_ok-part.part ∷ [] =
    c.push.ensures.items ∙ ap (λ b. if b then (c.parts.path.items ++ c.in_ok-part.part ∷ []) else c.parts.path.items) ok in
    record {
      found = λ path more are len text.
          let inv = c.parts.invariant.found path more are len text in
          let lt : c.parts._number < length path = omega (arith, c.parts-test.true, len) in
          let read : (string_bytes c.in_ok-part.part ≡ get_or path c.parts._number [])
          × (c.in_ok-part.behind.now ≡ flat_map sized (drop (c.parts._number + 1) path) ++ more) =
          c.in_ok-part.ensures.found (get_or path c.parts._number []) (flat_map sized (drop (c.parts._number + 1) path) ++ more)
          (are.texts c.parts._number lt) (next_front sized path c.parts._number [] c.parts.rest.now more lt inv.0) in (
            read.1,
            ap (map string_bytes) items
                ∙ one_more_read string_bytes c.parts.path.items path c.parts._number [] c.in_ok-part.part lt inv.1 read.0,
          );
      exact = run_more sized IsText c.args.text.now c.parts._number (map string_bytes c.parts.path.items) (map string_bytes c.push.new.self.items)
          (string_bytes c.in_ok-part.part) c.parts.rest.now c.in_ok-part.behind.now
          (ap (map string_bytes) items ∙ map_push string_bytes c.parts.path.items c.in_ok-part.part)
          c.in_ok-part.ensures.exact.0 c.in_ok-part.ensures.exact.1 c.parts.invariant.exact;
    }

pub parts-init : goal.parts-init
parts-init c = record {
  found = λ path more are len text. (text, ap (map string_bytes) c.new-path.ensures.items);
  exact = run_begun sized IsText c.args.text.now _ (ap (map string_bytes) c.new-path.ensures.items);
}

pub returns-clause-exact : goal.returns-clause-exact
returns-clause-exact c =
    run_ended sized IsText c.args.text.now c.parts._number c.args.count _ _ (omega (arith, c.parts-test.false, c.parts.auto._number-end))
    c.parts.invariant.exact
