use Rattle.std.proofs.Common.{◌≡◌, ◌+◌, List, ◌++◌, ◌∷◌, [], length, map, refl, sym, ap, ◌∙◌, arith}
use Rattle.std.specs.Vec.Iter.{into_iter_items}
use Rattle.std.proofs.lemmas.List.{append-nil, map-append}
use Rattle.std.proofs.lemmas.List.Sums.{sum_by-cons}
use Rattle.filetree.specs.declared.files.ListedFile.{ListedFile}
use Rattle.opening.specs.Trees.{entries_from}
use Rattle.opening.specs.Seen.{file_entry}
use Rattle.opening.specs.Trees.{pieces_in}
use Rattle.pieces.specs.Pieces.{pieces_of}
use Rattle.opening.proofs.Rooting.{files_step}
use Rattle.opening.proofs.roots.place_files.Goals as goal
use Rattle.opening.proofs.roots.place_files.Goals.{In-Some}

-- the pieces of this file and of those behind it
left : (c : In-Some) → c.listed.first_piece + (pieces_of c.args.piece_length c.in-Some.file.length
    + pieces_in c.args.piece_length (into_iter_items c.next.new.self)) ≡ pieces_in c.args.piece_length c.args.listed.items
left c =
    let rest = into_iter_items c.next.new.self in
    ap (λ n. c.listed.first_piece + n) (sym (sum_by-cons (λ (f : ListedFile). pieces_of c.args.piece_length f.length) c.in-Some.file rest))
    ∙ ap (λ xs. c.listed.first_piece + pieces_in c.args.piece_length xs) (sym c.in-Some.ensures.steps.0) ∙ c.listed.invariant.pieces

-- what has no length has no items
nil_of : {X : Type 0} (xs : List X) → length xs ≡ 0 → xs ≡ []
nil_of [] e = refl
nil_of (x ∷ xs) e = absurd (omega arith)

pub listed-preserved : goal.listed-preserved
listed-preserved c =
    let p = c.args.piece_length in
    let x = c.in-Some.file in
    let ts = c.args.roots.now in
    let rest = into_iter_items c.next.new.self in
    let split = c.in-Some.ensures.steps.0 in
    let total = left (goal.at.listed-preserved c).In-Some in
    let file = c.placed.result in
    let after : map file_entry c.push_reserved.new.self.items ≡ map file_entry c.listed.files.items ++ file_entry file ∷ [] =
    ap (map file_entry) c.push_reserved.ensures.items ∙ map-append file_entry c.listed.files.items (file ∷ []) in
    let counted : c.listed.first_piece + pieces_of p x.length ≡ c.listed.first_piece + c.pieces-first_piece.result =
    ap (λ n. c.listed.first_piece + n) (sym c.pieces-first_piece.ensures) in
    record {
      entries = files_step p ts c.args.listed.items rest (map file_entry c.listed.files.items) c.listed.first_piece
          (c.listed.first_piece + c.pieces-first_piece.result) x (file_entry file) (sym c.placed.ensures) counted
          (c.listed.invariant.entries ∙ ap (λ xs. map file_entry c.listed.files.items ++ entries_from p ts c.listed.first_piece xs) split)
          ∙ ap (λ es. es ++ entries_from p ts (c.listed.first_piece + c.pieces-first_piece.result) rest) (sym after);
      pieces = omega (arith, total, counted);
      count = omega (arith, ap length split, c.push_reserved.ensures.len, c.listed.invariant.count);
      room = c.push_reserved.ensures.capacity ∙ c.listed.invariant.room;
    }

pub overflow_add-first_piece : goal.overflow_add-first_piece
overflow_add-first_piece c =
    let total = left (goal.at.overflow_add-first_piece c).In-Some in omega (arith, total, c.requires, c.pieces-first_piece.ensures)

pub listed-init : goal.listed-init
listed-init c =
    let p = c.args.piece_length in
    let ts = c.args.roots.now in
    let all = c.into_iter-file-iterator.ensures.into_iter_gives.0 in
    record {
      entries = sym (ap (λ fs. map file_entry fs ++ entries_from p ts 0 (into_iter_items c.into_iter-file-iterator.result)) c.in_ok-files.ensures.items
          ∙ ap (λ xs. entries_from p ts 0 xs) all);
      pieces = omega (arith, ap (λ xs. pieces_in p xs) all);
      count = omega (arith, ap length all, c.in_ok-files.ensures.len);
      room = omega (arith, c.in_ok-files.ensures.exact, c.len.ensures, c.args.listed.ok);
    }

pub returns-clause-files : goal.returns-clause-files
returns-clause-files c =
    let fs = map file_entry c.listed.files.items in
    let none = nil_of (into_iter_items c.listed.file-iterator) (omega (arith, c.in-None.ensures.steps.0, c.listed.file-iterator.rest.ok)) in
    sym (c.listed.invariant.entries ∙ ap (λ xs. fs ++ entries_from c.args.piece_length c.args.roots.now c.listed.first_piece xs) none ∙ append-nil fs)

pub returns-clause-room : goal.returns-clause-room
returns-clause-room c = omega (arith, c.listed.invariant.room, c.listed.invariant.count, c.in-None.ensures.steps.0, c.listed.file-iterator.rest.ok)
