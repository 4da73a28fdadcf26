use Rattle.std.proofs.Common.{◌≡◌, inl, inr, ◌+◌, ◌-◌, ◌++◌, ◌∷◌, ◌<◌, ◌≤◌, ◌^◌, ℕ, List, [], Some, refl, sym, ap, ◌∙◌, append_assoc, arith}
use Rattle.std.specs.Option.{option_or}
use Rattle.lines.specs.Texts.{text_of}
use Rattle.opening.specs.Seen.{file_entry}
use Rattle.parts.specs.Parts.{piece_count}
use Rattle.parts.specs.Runs.{Run, run_row, runs_rows}
use Rattle.parts.specs.Spans.{end_in, first_in}
use Rattle.parts.proofs.Runs.{text_push}
use Rattle.lines.specs.Rows.{spell}
use Rattle.part_reports.specs.Marks.{IsInRuns}
use Rattle.part_reports.proofs.RunLines.{first_push, greedy, next_push, within_push}
use Rattle.part_reports.proofs.RunMarks.{IsBetween, in_more, in_none, marks_both, marks_none, more_in}
use Rattle.parts.proofs.SharedPlaces.{few_pieces}
use Rattle.part_reports.proofs.runs.read_all.Goals.{In-Some}
use Rattle.part_reports.proofs.runs.read_all.Goals as goal

-- the numbers of the run that was read are small
small : (c : In-Some) → (file_entry c.args.file.now).first_piece + c.in-Some.end + 1 < 2 ^ 64
small c =
    let few = few_pieces c.args.torrent.now (file_entry c.args.file.now) c.recall_sound.ensures c.requires.file in
    omega (arith, few, c.in-Some.ensures.1.inside, c.end_in-to.ensures)

pub overflow_add-file : goal.overflow_add-file
overflow_add-file c = omega (arith, small (goal.at.overflow_add-file c).In-Some, c.in-Some.ensures.0)

pub overflow_add-file-in-Some : goal.overflow_add-file-in-Some
overflow_add-file-in-Some c = omega (arith, small (goal.at.overflow_add-file-in-Some c).In-Some)

pub overflow_add-at : goal.overflow_add-at
overflow_add-at c = omega (arith, small (goal.at.overflow_add-at c).In-Some)

pub mark-requires-clause-room : goal.mark-requires-clause-room
mark-requires-clause-room c = omega (arith, c.requires.room, c.runs.invariant.4.count, c.in-Some.ensures.1.inside, c.end_in-to.ensures)

pub runs-init : goal.runs-init
runs-init c =
    let f = file_entry c.args.file.now in
    ([], tt, c.first_in-at.ensures, refl, marks_none (IsInRuns f []) c.args.bad.now (in_none f), refl)

pub runs-preserved : goal.runs-preserved
runs-preserved c =
    let t = c.args.torrent.now in
    let f = file_entry c.args.file.now in
    let from : ℕ = first_in c.args.places f in
    let runs = c.runs.invariant.0 in
    let read = c.in-Some.ensures in
    let first : ℕ = c.in-Some.first in
    let end : ℕ = c.in-Some.end in
    let r : Run = record { first = first; last = end - 1 } in
    let behind : List ℕ = c.in-Some.behind.now in
    let more : List Run = runs ++ r ∷ [] in
    let next : end + 1 ≡ r.last + 2 = omega (arith, read.0) in
    let some = read.0 in (
      more,
      within_push from (end_in t c.args.places f) runs r c.runs.invariant.1 (record {
        low = omega (arith, read.1.low, c.runs.invariant.2);
        order = read.1.order;
        inside = omega (arith, read.1.inside, c.end_in-to.ensures);
      }),
      next ∙ sym (next_push from runs r),
      c.runs.invariant.3 ∙ ap (λ x. spell text_of (runs_rows t f runs) ++ x) read.2
          ∙ sym (append_assoc (spell text_of (runs_rows t f runs)) (text_of (run_row t f r)) behind)
          ∙ ap (λ x. x ++ behind) (sym (text_push text_of t f runs r)),
      marks_both (IsInRuns f runs) (IsBetween (f.first_piece + first) (f.first_piece + end)) (IsInRuns f more) c.args.bad.now c.runs.bad c.mark.new.self
          c.runs.invariant.4 c.mark.ensures
          (λ q is. elim (in_more f runs r q is) [
            | inl before ↦ inl before
            | inr last ↦ inr (last.0, omega (arith, last.1, some))
          ])
          (λ q is. more_in f runs r q (elim is [
            | inl before ↦ inl before
            | inr last ↦ inr (last.0, omega (arith, last.1, some))
          ])),
      c.or-piece.ensures ∙ ap (λ o. option_or o (Some (f.first_piece + first))) c.runs.invariant.5 ∙ first_push f runs r,
    )

pub returns : goal.returns
returns c =
    let t = c.args.torrent.now in
    let f = file_entry c.args.file.now in
    let runs = c.runs.invariant.0 in
    let le : end_in t c.args.places f ≤ piece_count t f = omega arith in
    record {
      runs = runs;
      are = c.runs.invariant.1;
      is = c.runs.invariant.3;
      first_is = c.runs.invariant.5;
      marks = c.runs.invariant.4;
      only = λ others more other is ends.
          greedy t f (end_in t c.args.places f) c.recall_sound.ensures c.requires.file le (first_in c.args.places f) runs others c.runs.rest.now more
          c.runs.invariant.1 other (sym c.runs.invariant.3 ∙ is) ends (λ has.
          c.in_default.ensures (
            has.0,
            record {
              low = omega (arith, has.1.low, c.runs.invariant.2);
              order = has.1.order;
              inside = omega (arith, has.1.inside, c.end_in-to.ensures);
            },
            has.2,
          ));
    }
