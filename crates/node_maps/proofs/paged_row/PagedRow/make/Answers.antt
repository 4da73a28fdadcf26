use Rattle.std.proofs.Common.{◌≡◌, ◌^◌, ◌≤◌, ◌∷◌, [], ◌++◌, Some, None, IsSome, is_some, inl, refl, sym, ap, ◌∙◌, subst, arith}
use Rattle.node_maps.specs.Pages.{AreSpare}
use Rattle.node_maps.specs.PageIndexes.{on_rows}
use Rattle.node_maps.specs.PagedRow.{pages_of}
use Rattle.node_maps.proofs.Pages.{AddsBlank, changed_here, changed-keeps, alike-cells, added-cells, added-spare, absent}
use Rattle.node_maps.proofs.Growth.{added-grown}
use Rattle.node_maps.proofs.Numbers.{counted-few, counted-more}
use Rattle.node_maps.proofs.paged_row.PagedRow.make.Goals as goal
use Rattle.node_maps.proofs.paged_row.PagedRow.make.Goals.{After-push_reserved}

-- the page that was made, and the number that was noted
module _ (c : After-push_reserved) where
  added : AddsBlank (on_rows c.args.self.now.pages) (on_rows c.add.new.self) c.args.number c.in_ok-page.page
  added = record {
    none = absent c.page.result (on_rows c.args.self.now.pages c.args.number) c.page.ensures (sym c.is_some.ensures ∙ c.if-is_some.false);
    changed = c.in_ok-add.ensures.added;
    blank = c.in_ok-page.ensures;
  }

  noted : c.push_reserved.new.self.items ≡ c.args.self.now.fresh.items ++ c.args.number ∷ []
  noted = c.push_reserved.ensures.items ∙ ap (λ xs. xs ++ c.args.number ∷ []) c.reserve_one.ensures.items

pub overflow_add-self : goal.overflow_add-self
overflow_add-self c =
    let few : c.args.self.now.count ≤ 2 ^ 32 = counted-few (on_rows c.args.self.now.pages) c.args.self.now.count c.args.self.now.counted in
    omega (arith, few)

pub invariant_of-self-2 : goal.invariant_of-self-2
invariant_of-self-2 c =
    let r = (goal.at.invariant_of-self-2 c).After-push_reserved in
    let row = c.args.self.now in
    record {
      in_use = c.add.ensures.in_use row.in_use;
      counted = counted-more row.count (added r) row.counted c.requires;
      spare = subst (AreSpare (on_rows c.add.new.self)) (sym (noted r)) (added-spare (added r) row.fresh.items row.spare);
    }

pub returns-clause-cells : goal.returns-clause-cells
unfolding pages_of
returns-clause-cells c = added-cells (added (goal.at.returns-clause-cells c).After-push_reserved)

pub returns-clause-keeps : goal.returns-clause-keeps
unfolding pages_of
returns-clause-keeps c = changed-keeps (added (goal.at.returns-clause-keeps c).After-push_reserved)

pub returns-clause-there : goal.returns-clause-there
unfolding pages_of
returns-clause-there c =
    ap is_some (changed_here (on_rows c.args.self.now.pages) (on_rows c.add.new.self) c.args.number (Some c.in_ok-page.page) c.in_ok-add.ensures.added)

pub returns-clause-grown : goal.returns-clause-grown
unfolding pages_of
returns-clause-grown c =
    let r = (goal.at.returns-clause-grown c).After-push_reserved in
    added-grown (added r) c.args.self.now.fresh.items c.args.self.now.count c.push_reserved.new.self.items (noted r)

pub returns-in_err-add-clause-cells : goal.returns-in_err-add-clause-cells
unfolding pages_of
returns-in_err-add-clause-cells c = alike-cells (on_rows c.args.self.now.pages) (on_rows c.add.new.self) c.in_err-add.ensures.unchanged

pub returns-in_err-add-clause-keeps : goal.returns-in_err-add-clause-keeps
unfolding pages_of
returns-in_err-add-clause-keeps c = λ n was. subst IsSome (sym (c.in_err-add.ensures.unchanged n)) was

pub returns-in_err-add-clause-grown : goal.returns-in_err-add-clause-grown
unfolding pages_of
returns-in_err-add-clause-grown c = inl (record { alike = c.in_err-add.ensures.unchanged; noted = c.reserve_one.ensures.items; counted = refl })

pub returns-then-is_some-clause-no_memory : goal.returns-then-is_some-clause-no_memory
returns-then-is_some-clause-no_memory c = λ there. refl
