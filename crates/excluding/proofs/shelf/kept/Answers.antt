use Rattle.std.proofs.Common.{◌≡◌, ◌∙◌, ◌+◌, ◌<◌, ◌≤◌, [], ◌∷◌, ◌++◌, ap, arith, drop, drop-set-lt}
use Rattle.std.proofs.Common.{false, length, map, not, refl, string_bytes, sym, take_all, true}
use Rattle.std.proofs.lemmas.List.{length-set, map-append}
use Rattle.std.specs.List.{filter}
use Rattle.std.specs.Prelude.{vec_len}
use Rattle.std.specs.Vec.{vec_capacity}
use Rattle.globs.specs.Globs.{path_chars, some_leaves_out, whole_of}
use Rattle.folders.specs.Shelf.{path_bytes}
use Rattle.excluding.specs.Excluding.{is_kept}
use Rattle.excluding.proofs.Without.{next_kept, next_left_out, rest_next, same_bytes}
use Rattle.excluding.proofs.shelf.kept.Goals as goal
use Rattle.excluding.proofs.shelf.kept.Goals.{then-not-branch, else-not-branch}

pub paths-init : goal.paths-init
paths-init c = record {
  kept = ap (map path_bytes) c.in_ok-kept.ensures.items;
  rest = refl;
  len = refl;
  count = omega (arith, c.in_ok-kept.ensures.len);
  room = omega (arith, c.in_ok-kept.ensures.exact, c.len.ensures);
}

pub paths-preserved : goal.paths-preserved
paths-preserved c =
    let globs = map whole_of c.args.globs.now in
    let all = c.args.paths.items in
    let now = c.paths.paths.items in
    let i = c.paths.number in
    let path = c.index.result.now in
    let lt : i < length all = omega arith in
    let inside : i < length now = omega (arith, lt, c.paths.invariant.len) in
    let found : c.in_ok-is_left_out.field-0 ≡ some_leaves_out globs (path_chars (path_bytes path)) =
    c.in_ok-is_left_out.ensures ∙ ap (λ ps. some_leaves_out globs (path_chars (map string_bytes ps))) c.deref.ensures.value in
    elim c.if-not-branch.branch [
      | then-not-branch w ↦
          let keeps : is_kept globs (path_bytes path) ≡ true = ap not (sym found ∙ w.if-not-branch.true) in
          let moved : path_bytes w.replace-path.result ≡ path_bytes path =
          ap path_bytes w.replace-path.ensures.value
          ∙ same_bytes now i w.index_mut.result.now path inside w.index_mut.ensures.value c.index.ensures in
          let more : vec_len c.if-not-branch.kept ≡ vec_len c.paths.kept + 1 = ap vec_len w.kept-is ∙ w.push_reserved.ensures.len in
          record {
            kept = ap (λ v. map path_bytes v.items) w.kept-is ∙ ap (map path_bytes) w.push_reserved.ensures.items
                ∙ map-append path_bytes c.paths.kept.items (w.replace-path.result ∷ []) ∙ ap (λ p. map path_bytes c.paths.kept.items ++ p ∷ []) moved
                ∙ next_kept (is_kept globs) all now i path (map path_bytes c.paths.kept.items) lt c.index.ensures c.paths.invariant.rest
                c.paths.invariant.kept keeps;
            rest = ap (λ v. drop (i + 1) v.items) w.paths-is ∙ drop-set-lt (i + 1) now i w.replace-path.new.dest (omega arith)
                ∙ rest_next now all i c.paths.invariant.rest;
            len = ap (λ v. length v.items) w.paths-is ∙ length-set now i w.replace-path.new.dest ∙ c.paths.invariant.len;
            count = omega (arith, more, c.paths.invariant.count);
            room = ap vec_capacity w.kept-is ∙ w.push_reserved.ensures.capacity ∙ c.paths.invariant.room;
          }
      | else-not-branch w ↦
          let drops : is_kept globs (path_bytes path) ≡ false = ap not (sym found ∙ w.if-not-branch.false) in
          let same : vec_len c.if-not-branch.kept ≡ vec_len c.paths.kept = ap vec_len w.kept-is in
          record {
            kept = ap (λ v. map path_bytes v.items) w.kept-is
                ∙ next_left_out (is_kept globs) all now i path (map path_bytes c.paths.kept.items) lt c.index.ensures c.paths.invariant.rest
                c.paths.invariant.kept drops;
            rest = ap (λ v. drop (i + 1) v.items) w.paths-is ∙ rest_next now all i c.paths.invariant.rest;
            len = ap (λ v. length v.items) w.paths-is ∙ c.paths.invariant.len;
            count = omega (arith, same, c.paths.invariant.count);
            room = ap vec_capacity w.kept-is ∙ c.paths.invariant.room;
          }
    ]

pub returns : goal.returns
returns c =
    let over : length c.args.paths.items ≤ c.paths.number = omega arith in
    c.paths.invariant.kept
    ∙ ap (λ paths. filter (is_kept (map whole_of c.args.globs.now)) (map path_bytes paths)) (take_all c.paths.number c.args.paths.items over)
