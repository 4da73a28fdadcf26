use Rattle.std.proofs.Common.{◌+◌, ◌≤◌, sym, ◌∙◌, arith}
use Rattle.std.proofs.lemmas.Bool.{false≢true}
use Rattle.node_maps.specs.Cell.{hash_in}
use Rattle.node_maps.specs.PageIndexes.{on_rows}
use Rattle.node_maps.specs.PagedRow.{pages_of, row_hashes}
use Rattle.node_maps.proofs.Runs.{ReadAlike, known-alike, alike-back, known-part, known-join}
use Rattle.node_maps.proofs.Parts.{page-alike, page-there}
use Rattle.node_maps.proofs.paged_row.PagedRow.knows.Goals as goal
use Rattle.node_maps.proofs.paged_row.PagedRow.knows.Goals.{In-Some}

-- the page reads as the layer does
alike : (c : In-Some) → ReadAlike (hash_in c.in-Some.page.now.kept.items) c.first_of-part.result.first (row_hashes c.args.self.now)
    (c.args.from + c.parts.done) c.first_of-part.result.count
unfolding pages_of
alike c =
    let part = c.first_of-part in
    page-alike (on_rows c.args.self.now.pages) (c.args.from + c.parts.done) part.result.number part.result.first part.result.count c.in-Some.page.now
    part.ensures.number part.ensures.first part.ensures.inside (sym c.in-Some.ensures)

pub returns-in_default : goal.returns-in_default
unfolding pages_of
returns-in_default c = (
  λ e. absurd (false≢true e),
  λ all. absurd (page-there (on_rows c.args.self.now.pages) c.args.from c.args.count c.parts.done c.first_of-part.result.number c.first_of-part.ensures.number
      c.parts-test.true (sym c.in_default.ensures) all),
)

pub returns-then-not-knows : goal.returns-then-not-knows
returns-then-not-knows c =
    let fits : c.parts.done + c.first_of-part.result.count ≤ c.args.count = omega (arith, c.first_of-part.ensures.most, c.parts-test.true) in (
      λ e. absurd (false≢true e),
      λ all. absurd (false≢true (sym c.if-not-knows.true ∙ c.knows.ensures.1 (known-alike (alike-back (alike (goal.at.returns-then-not-knows c).In-Some))
          (known-part (row_hashes c.args.self.now) c.args.from c.args.count c.parts.done c.first_of-part.result.count fits all)))),
    )

pub parts-preserved : goal.parts-preserved
parts-preserved c = record {
  known = known-join (row_hashes c.args.self.now) c.args.from c.parts.done c.first_of-part.result.count c.parts.invariant.known
      (known-alike (alike (goal.at.parts-preserved c).In-Some) (c.knows.ensures.0 c.if-not-knows.false));
  most = omega (arith, c.first_of-part.ensures.most, c.parts-test.true);
}
