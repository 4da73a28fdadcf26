use Rattle.std.proofs.Common.{◌≡◌, ◌<◌, ℕ, Bor, List, Some, inl, inr, length, map, slice_get, ap, arith, sym, ◌∙◌}
use Rattle.std.proofs.lemmas.Bool.{cases_lt}
use Rattle.std.proofs.lemmas.List.{length-map}
use Rattle.std.proofs.lemmas.Option.{same_Some, slice_get_read, slice_get_within}
use Rattle.part_texts.specs.Listings.{listed}
use Rattle.assembling.specs.Sizes.{rows_size}
use Rattle.assembling.proofs.Fronts.{item_of}
use Rattle.assembling.proofs.sizes.test_sizes.Goals as goal

pub returns-then-index-size-clause-reason : goal.returns-then-index-size-clause-reason
returns-then-index-size-clause-reason c =
    let p = c.args.parts.now in
    let part = c.parts.part in
    let entry = c.index.result.now in
    let low : part < length p.rows.items = omega (arith, c.parts-test.true, c.parts.invariant.end) in
    let is = c.if-index-size.true in
    record {
      part = part;
      rest = entry.now;
      at = slice_get_read p.places.items (length p.rows.items) part c.index-then-index-size.result.now (sym c.requires.places) low
          c.index-then-index-size.ensures;
      there = item_of (λ x. x.now) p.rows.items part entry low ∙ ap (λ (x : Bor (List ℕ)). Some x.now) (sym c.index.ensures);
      other = λ size. is (omega (arith, size, c.size_of-size.ensures));
      before = λ q earlier less there. c.parts.invariant.sizes q earlier less there;
    }

pub parts-preserved : goal.parts-preserved
parts-preserved c =
    let d = c.args.division.now in
    let l = c.args.listing.now in
    let rows = c.args.parts.now.rows.items in
    let part = c.parts.part in
    let entry = c.index.result.now in
    let low : part < length rows = omega (arith, c.parts-test.true, c.parts.invariant.end) in
    let there : slice_get (map (λ (x : Bor (List ℕ)). x.now) rows) part ≡ Some entry.now = item_of (λ x. x.now) rows part entry low
    ∙ ap (λ (x : Bor (List ℕ)). Some x.now) (sym c.index.ensures) in
    let size : length entry.now ≡ rows_size d.piece_length l.hybrid d.total d.parts part 0 (map listed l.files.items) =
    omega (arith, c.if-index-size.false, c.size_of-size.ensures) in
    record {
      end = c.parts.invariant.end;
      sizes = λ q rest less at. elim (cases_lt q part) [
        | inl before ↦ c.parts.invariant.sizes q rest before at
        | inr here ↦
            let same : q ≡ part = omega (arith, less, here) in
            let rest_is : entry.now ≡ rest = same_Some entry.now rest (sym there ∙ ap (slice_get (map (λ (x : Bor (List ℕ)). x.now) rows)) (sym same) ∙ at) in
            ap length (sym rest_is) ∙ size
            ∙ ap (λ k. rows_size d.piece_length l.hybrid d.total d.parts k 0 (map listed l.files.items)) (sym same)
      ];
    }

pub returns-clause-sizes : goal.returns-clause-sizes
returns-clause-sizes c = λ part rest at.
    c.parts.invariant.sizes part rest
    (omega (
      arith,
      slice_get_within (map (λ (x : Bor (List ℕ)). x.now) c.args.parts.now.rows.items) part rest at,
      length-map c.args.parts.now.rows.items (λ (x : Bor (List ℕ)). x.now),
      c.parts-test.false,
      c.parts.auto.part-end,
      c.parts.invariant.end,
    )) at
