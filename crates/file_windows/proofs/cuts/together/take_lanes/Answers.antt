use Rattle.std.proofs.Common.{rules, ◌≡◌, ◌∙◌, ℕ, ◌+◌, ◌-◌, ◌<◌, List, [], ◌++◌, length, min, slice_index, slice_index_or, inl, inr, ap, ap₂, arith}
use Rattle.std.proofs.lemmas.Bool.{cases_lt}
use Rattle.std.proofs.lemmas.List.{get_or-set_same, get_or-set_other}
use Rattle.lanes.specs.declared.words.TheConstants.{LANES}
use Rattle.sha1.specs.Sha1.{sha1}
use Rattle.sha1_lanes.specs.Batches.{filled_at}
use Rattle.file_windows.proofs.cuts.together.take_lanes.Goals as goal

pub lanes-preserved : goal.lanes-preserved
lanes-preserved c =
    let before = c.lanes.invariant in
    let buffer : List ℕ = c.args.buffer.now in
    let j : ℕ = c.lanes.j in
    let place : ℕ = c.args.from + j in
    let value : List ℕ = slice_index_or c.finish-found.result c.lanes.j [] in
    let below : j < LANES = omega (arith, c.lanes-test.true, c.min-count.ensures) in
    let there : place < length c.args.digests.now = omega (arith, c.lanes-test.true, c.min-count.ensures, c.requires.some) in
    let here : place < length c.lanes.digests = omega (arith, there, before.count) in
    let own_start : min place (length c.args.starts.now - 1) ≡ place = omega (arith, there, c.requires.starts) in
    let own_size : min place (length c.args.sizes.now - 1) ≡ place = omega (arith, there, c.requires.sizes) in
    let is : value ≡ sha1 (filled_at buffer (slice_index c.args.starts.now place) (slice_index c.args.sizes.now place) c.args.piece_length) =
    c.finish-found.ensures j below _ (c.update.ensures j below [] (c.new-batch.ensures j below))
    ∙ ap₂ (λ start size. sha1 ([] ++ filled_at buffer start size c.args.piece_length))
    (c.from_here-own_starts.ensures j below ∙ ap (slice_index c.args.starts.now) own_start)
    (c.from_here-own_sizes.ensures j below ∙ ap (slice_index c.args.sizes.now) own_size) in
    record {
      count = search rules;
      taken = λ i lt. elim (cases_lt i j) [
        | inl less ↦ get_or-set_other c.lanes.digests place (c.args.from + i) value [] (omega (arith, less)) ∙ before.taken i less
        | inr last ↦
            let same : j ≡ i = omega (arith, lt, last) in
            rw (← same) (get_or-set_same c.lanes.digests place value [] here ∙ is)
      ];
      kept = λ i lt old. get_or-set_other c.lanes.digests place i value [] (omega (arith, lt)) ∙ before.kept i lt old;
    }
