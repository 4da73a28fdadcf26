use Rattle.std.proofs.Common.{◌≡◌, ◌≤◌, IsSome, inl, inr, sym, ◌∙◌, subst, arith, eq-or-lt_of_le}
use Rattle.node_maps.specs.Growth.{IsGrown}
use Rattle.node_maps.specs.Pages.{AreAlike}
use Rattle.node_maps.specs.PagedRow.{pages_of, HasRowPage}
use Rattle.node_maps.proofs.Growth.{grown-one}
use Rattle.node_maps.proofs.paged_row.PagedRow.reserve.Goals as goal
use Rattle.node_maps.proofs.paged_row.PagedRow.reserve.Goals.{After-make, After-give_back}

grown : (c : After-make) → IsGrown (pages_of c.args.self.now) c.args.self.now.fresh.items c.args.self.now.count (pages_of c.make.new.self)
    c.make.new.self.fresh.items c.make.new.self.count
grown c =
    let old = c.args.self.now in
    let before = c.numbers.self in
    let now = c.make.new.self in
    grown-one (pages_of old) old.fresh.items old.count (pages_of before) before.fresh.items before.count (pages_of now) now.fresh.items now.count
    c.numbers.invariant.grown c.make.ensures.grown

-- what was made is given back
restored : (c : After-give_back) → AreAlike (pages_of c.args.self.now) (pages_of c.give_back.new.self) × (c.give_back.new.self.count ≡ c.args.self.now.count)
restored c =
    let old = c.args.self.now in
    c.give_back.ensures.restored (pages_of old) old.fresh.items old.count (omega (arith, c.len-before.ensures, old.fresh.ok.0))
    (grown (goal.at.After-give_back c).After-make)

pub returns-in-Err-clause-keeps : goal.returns-in-Err-clause-keeps
returns-in-Err-clause-keeps c = λ n was. subst IsSome (sym ((restored (goal.at.returns-in-Err-clause-keeps c).After-give_back).0 n)) was

pub returns-in-Err-clause-refused : goal.returns-in-Err-clause-refused
returns-in-Err-clause-refused c = (restored (goal.at.returns-in-Err-clause-refused c).After-give_back).1

pub numbers-preserved : goal.numbers-preserved
numbers-preserved c =
    let before = c.numbers.invariant in
    let now = c.make.ensures in
    record {
      cells = λ i. now.cells i ∙ before.cells i;
      keeps = λ n was. now.keeps n (before.keeps n was);
      done = λ n low high. elim (eq-or-lt_of_le (let to : n ≤ c.numbers.number = omega arith in to)) [
        | inl same ↦ subst (HasRowPage c.make.new.self) (sym same) c.in_default.ensures.there
        | inr less ↦ now.keeps n (before.done n low less)
      ];
      few = omega (arith, before.few, now.few);
      grown = grown (goal.at.numbers-preserved c).After-make;
    }
