use Rattle.std.proofs.Common.{◌≡◌, ℕ, ◌+◌, ◌-◌, ◌<◌, ◌≤◌, List, length, true, false, is_some, sym, ap, ◌∙◌, arith}
use Rattle.std.proofs.lemmas.Bool.{false≢true}
use Rattle.node_maps.specs.Pages.{Numbered, is_spare}
use Rattle.node_maps.specs.PageIndexes.{on_rows}
use Rattle.node_maps.specs.PagedRow.{pages_of}
use Rattle.node_maps.proofs.Pages.{gone-cells, gone-spare, kept-spare, spare-some}
use Rattle.node_maps.proofs.Numbers.{counted-some, counted-less}
use Rattle.node_maps.proofs.Growth.{last-spare, last-gone, grown-gone}
use Rattle.node_maps.proofs.paged_row.PagedRow.give_back.Goals as goal
use Rattle.node_maps.proofs.paged_row.PagedRow.give_back.Goals.{After-is_spare}

-- the page of the number that was noted last
module _ (c : After-is_spare) where
  abbrev pages : Numbered
  pages = on_rows c.fresh.self.pages

  told : is_spare (pages c.in-Some.number) ≡ c.is_spare.result
  told = sym (ap is_spare c.page.ensures) ∙ sym c.is_spare.ensures

  there : c.is_spare.result ≡ true → is_some (pages c.in-Some.number) ≡ true
  there spare = spare-some (pages c.in-Some.number) (told ∙ spare)

  some : c.is_spare.result ≡ true → 1 ≤ c.fresh.self.count
  some spare = counted-some pages c.in-Some.number c.fresh.self.count c.fresh.self.counted (there spare)

  more : (fresh : List ℕ) → length fresh ≡ c.args.before → length fresh < length c.fresh.self.fresh.items
  more fresh long = omega (arith, long, c.fresh-test.true, c.fresh.self.fresh.ok.0)

pub overflow_sub-self : goal.overflow_sub-self
overflow_sub-self c = some (goal.at.overflow_sub-self c).After-is_spare c.if-is_spare.true

pub invariant_of-self : goal.invariant_of-self
invariant_of-self c =
    let r = (goal.at.invariant_of-self c).After-is_spare in
    let row = c.fresh.self in
    let g = on_rows c.remove.new.self in
    record {
      in_use = c.remove.ensures.in_use row.in_use;
      counted = counted-less (pages r) g c.in-Some.number row.count row.counted (there r c.if-is_spare.true) c.remove.ensures.gone;
      spare = gone-spare (pages r) g c.in-Some.number c.remove.ensures.gone row.fresh.items c.pop.new.self.items c.in-Some.ensures.items row.spare;
    }

pub fresh-preserved-then-is_spare : goal.fresh-preserved-then-is_spare
unfolding pages_of
fresh-preserved-then-is_spare c =
    let r = (goal.at.fresh-preserved-then-is_spare c).After-is_spare in
    let count : ℕ = c.fresh.self.count in
    let g = on_rows c.remove.new.self in
    let one : 1 ≤ count = some r c.if-is_spare.true in
    let less : count ≡ (count - 1) + 1 = omega (arith, one) in
    record {
      cells = λ i. gone-cells (pages r) g c.in-Some.number c.remove.ensures.gone (told r ∙ c.if-is_spare.true) i ∙ c.fresh.invariant.cells i;
      few = omega (arith, c.fresh.invariant.few);
      left = λ base fresh n long made.
          last-gone base fresh n (pages r) c.fresh.self.fresh.items c.pop.new.self.items count c.in-Some.number
          (c.fresh.invariant.left base fresh n long made) (more r fresh long) c.in-Some.ensures.items g (count - 1) c.remove.ensures.gone less;
    }

pub invariant_of-self-else-is_spare : goal.invariant_of-self-else-is_spare
invariant_of-self-else-is_spare c =
    let r = (goal.at.invariant_of-self-else-is_spare c).After-is_spare in
    let old = c.fresh.self in
    record {
      in_use = old.in_use;
      counted = old.counted;
      spare = kept-spare (pages r) c.in-Some.number old.fresh.items c.pop.new.self.items c.in-Some.ensures.items (told r ∙ c.if-is_spare.false) old.spare;
    }

pub fresh-preserved : goal.fresh-preserved
unfolding pages_of
fresh-preserved c =
    let r = (goal.at.fresh-preserved c).After-is_spare in
    record {
      cells = c.fresh.invariant.cells;
      few = c.fresh.invariant.few;
      left = λ base fresh count long made.
          absurd (false≢true (sym (told r ∙ c.if-is_spare.false)
          ∙ last-spare base fresh count (pages r) c.fresh.self.fresh.items c.pop.new.self.items c.fresh.self.count c.in-Some.number
          (c.fresh.invariant.left base fresh count long made) (more r fresh long) c.in-Some.ensures.items));
    }

pub returns-clause-restored : goal.returns-clause-restored
unfolding pages_of
returns-clause-restored c = λ base fresh count long made.
    let row = c.fresh.self in
    let few : length row.fresh.items ≤ length fresh = omega (arith, long, c.fresh-test.false, row.fresh.ok.0) in
    grown-gone base fresh count (on_rows row.pages) row.fresh.items row.count (c.fresh.invariant.left base fresh count long made) few
