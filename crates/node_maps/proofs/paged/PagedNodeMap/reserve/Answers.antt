use Rattle.std.proofs.Common.{◌≡◌, ◌⊎◌, ◌+◌, ◌≤◌, ◌*◌, ◌/◌, ◌%◌, ℕ, ◌∙◌, IsSome, ap, inl, inr, sym, subst, vec_len, arith}
use Rattle.std.proofs.lemmas.Bool.{cases_lt}
use Rattle.node_maps.specs.Paged.{AreSamePagedCells, page_at}
use Rattle.node_maps.specs.Pages.{cell_of}
use Rattle.std.proofs.lemmas.Result.{on_ok_weaker, on_err_weaker}
use Rattle.chains.proofs.Cases.{on_err}
use Rattle.node_maps.proofs.Paging.{same-in_tree, held-same, held-more, page_span-some}
use Rattle.node_maps.proofs.paged.PagedNodeMap.reserve.Goals as goal
use Rattle.node_maps.proofs.paged.PagedNodeMap.reserve.Goals.{After-add_rows}

pub returns-in_err-add_rows-clause-refused : goal.returns-in_err-add_rows-clause-refused
returns-in_err-add_rows-clause-refused c = on_err c.from_residual.result (held-same c.args.self.now.rows.items c.add_rows.new.rows.items
    c.add_rows.ensures.same)

pub returns-clause-refused : goal.returns-clause-refused
returns-clause-refused c = on_err_weaker c.add_pages.result (λ same.
    held-same c.add_rows.new.rows.items c.add_pages.new.rows.items same
    ∙ held-same c.args.self.now.rows.items c.add_rows.new.rows.items c.add_rows.ensures.same) c.add_pages.ensures.refused

pub returns-clause-no_memory : goal.returns-clause-no_memory
returns-clause-no_memory c = λ room. c.add_pages.ensures.no_memory (λ n low high.
    subst IsSome (sym (c.add_rows.ensures.pages c.args.layer n)) (elim (cases_lt (512 * n) c.args.from) [
      | inl before ↦
          let number : c.args.from / 512 ≡ n = omega arith in
          subst (λ k. IsSome (page_at c.args.self.now.rows.items c.args.layer k)) number (room c.args.from (omega arith) (omega arith)).page
      | inr after ↦
          let number : 512 * n / 512 ≡ n = omega arith in
          subst (λ k. IsSome (page_at c.args.self.now.rows.items c.args.layer k)) number (room (512 * n) after (omega arith)).page
    ]))

pub returns-clause-few : goal.returns-clause-few
returns-clause-few c = on_ok_weaker c.add_pages.result (λ grows. omega (
  arith,
  held-more _ _ c.add_rows.new.rows.items c.add_pages.new.rows.items grows,
  held-same c.args.self.now.rows.items c.add_rows.new.rows.items c.add_rows.ensures.same,
  page_span-some c.args.from c.args.count c.if-count-eq0.false,
)) c.add_pages.ensures.few

rows_few : (old new layer height : ℕ) → layer ≤ height → old ≤ height + 1 → (new ≤ layer + 1) ⊎ (new ≡ old) → new ≤ height + 1
rows_few old new layer height low few (inl most) = omega arith
rows_few old new layer height low few (inr same) = omega arith

-- rows were added, and no page
module _ (c : After-add_rows) where
  few : vec_len c.add_rows.new.rows ≤ c.args.self.now.height + 1
  few = rows_few (vec_len c.args.self.now.rows) (vec_len c.add_rows.new.rows) c.args.layer c.args.self.now.height
      (subst (λ h. c.args.layer ≤ h) (sym c.args.self.now.is_height) c.requires.layer) c.args.self.now.few c.add_rows.ensures.most

  same_cells : AreSamePagedCells c.args.self.now.rows.items c.add_rows.new.rows.items
  same_cells l i = ap (λ o. cell_of o (i % 512)) (c.add_rows.ensures.pages l (i / 512))

pub invariant_of-self : goal.invariant_of-self
invariant_of-self c =
    let r = (goal.at.invariant_of-self c).After-add_rows in
    let old = c.args.self.now in
    record {
      is_height = old.is_height;
      low = old.low;
      few = few r;
      in_tree = same-in_tree old.height old.rows.items c.add_rows.new.rows.items (same_cells r) old.in_tree;
    }

pub invariant_of-self-2 : goal.invariant_of-self-2
invariant_of-self-2 c =
    let r = (goal.at.invariant_of-self-2 c).After-add_rows in
    let map = c.args.self.now in
    record {
      is_height = map.is_height;
      low = map.low;
      few = omega (arith, few r, c.add_pages.ensures.len);
      in_tree = same-in_tree map.height map.rows.items c.add_pages.new.rows.items (λ l i. c.add_pages.ensures.cells l i ∙ same_cells r l i) map.in_tree;
    }
