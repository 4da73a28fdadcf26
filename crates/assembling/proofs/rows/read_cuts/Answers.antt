use Rattle.std.proofs.Common.{◌++◌, ◌≤◌, drop, length, length-drop, sym, take, ◌∙◌, ap, arith}
use Rattle.std.proofs.Math.Seq.{drop-append_seam, take-append_seam}
use Rattle.assembling.proofs.Reading.{some_found}
use Rattle.assembling.proofs.rows.read_cuts.Goals as goal

pub unwrap-requires : goal.unwrap-requires
unwrap-requires c =
    let there : 20 ≤ length c.in_ok-rest.rest.now = omega (arith, c.in_ok-rest.ensures.size, c.requires) in
    some_found _ c.split_first_chunk.result c.split_first_chunk.ensures.cases (λ short. omega (arith, short, there))

pub returns-clause-size : goal.returns-clause-size
returns-clause-size c =
    let found = rw c.unwrap.ensures at c.split_first_chunk.ensures.cases in
    omega (arith, ap length found.1, length-drop 20 c.in_ok-rest.rest.now, c.in_ok-rest.ensures.size, c.requires)

pub returns-clause-said : goal.returns-clause-said
returns-clause-said c = λ cuts padded more count widths wide is.
    let read = c.in_ok-rest.ensures.said cuts (padded ++ more) count widths is in
    let e = rw c.unwrap.ensures at c.split_first_chunk.ensures.cases in (
      e.1 ∙ ap (drop 20) read.0 ∙ ap (λ n. drop n (padded ++ more)) (sym wide) ∙ drop-append_seam padded more,
      read.1,
      e.0 ∙ ap (take 20) read.0 ∙ ap (λ n. take n (padded ++ more)) (sym wide) ∙ take-append_seam padded more,
    )
