use Rattle.std.proofs.Common.{◌≡◌, ℕ, ◌/◌, ◌^◌, IsSome, is_some, set, sym, ap, ◌∙◌, subst}
use Rattle.std.proofs.lemmas.Bool.{false≢true}
use Rattle.node_maps.specs.Rising.{IsNumberAt, IsGapFor}
use Rattle.node_maps.specs.Pages.{Numbered, IsChanged, find_under, IsPut}
use Rattle.node_maps.proofs.Rising.{HasItemAt}
use Rattle.node_maps.proofs.Pages.{under_there, under_gap, under-set, changed-self, changed_here}
use Rattle.node_maps.proofs.page_index.PageIndexNodePageIndex.put.Given.{Over}
use Rattle.node_maps.proofs.page_index.PageIndexNodePageIndex.put.Goals as goal
use Rattle.node_maps.proofs.page_index.PageIndexNodePageIndex.put.Goals.{In-Ok, After-index_mut-list, After-put}

found : (g : Over) (c : In-Ok g) → HasItemAt c.args.self.now.numbers.items c.args.self.now.lists.items (c.args.number / 2 ^ c.args.self.now.shift) c.in-Ok.at
found g c = record {
  rising = c.args.self.now.rising;
  beside = c.args.self.now.beside;
  is = subst (λ ns. IsNumberAt ns (c.args.number / 2 ^ c.args.self.now.shift) c.in-Ok.at) c.deref.ensures.value c.in-Ok.ensures.at;
}

module _ (g : Over) (c : After-index_mut-list g) where
  abbrev old : Numbered
  old = find_under g.D.PageIndex.find c.args.self.now.numbers.items c.args.self.now.lists.items c.args.self.now.shift

  there : old c.args.number ≡ g.D.PageIndex.find c.index_mut-list.result.now c.args.number
  there = under_there g.D.PageIndex.find c.args.self.now.shift c.args.number (found g (goal.at.After-index_mut-list g c).In-Ok) c.index_mut-list.result.now
      c.index_mut-list.ensures.value

module _ (g : Over) (c : After-put g) where
  abbrev new : Numbered
  new = find_under g.D.PageIndex.find c.args.self.now.numbers.items (set c.args.self.now.lists.items c.in-Ok.at c.put.new.self) c.args.self.now.shift

  written : IsChanged c.args.number (g.D.PageIndex.find c.put.new.self c.args.number) (old g (goal.at.After-put g c).After-index_mut-list) new
  written = under-set g.D.PageIndex.find c.args.self.now.shift c.args.number (found g (goal.at.After-put g c).In-Ok) c.index_mut-list.result.now
      c.index_mut-list.ensures.value c.put.new.self (g.D.PageIndex.find c.put.new.self c.args.number) c.put.ensures.others

pub put-requires-clause-there : goal.put-requires-clause-there
put-requires-clause-there g c = subst IsSome (there g (goal.at.put-requires-clause-there g c).After-index_mut-list) c.requires.there

pub returns-in-Ok-clause-here : goal.returns-in-Ok-clause-here
returns-in-Ok-clause-here g c =
    let find = g.D.PageIndex.find in
    let d = (goal.at.returns-in-Ok-clause-here g c).After-index_mut-list in
    let w = (goal.at.returns-in-Ok-clause-here g c).After-put in
    let q : ℕ = c.args.number in
    subst (λ o. IsPut c.args.place c.args.hash c.args.mark o (new g w q)) (sym (there g d))
    (subst (IsPut c.args.place c.args.hash c.args.mark (find c.index_mut-list.result.now q))
    (sym (changed_here (old g d) (new g w) q (find c.put.new.self q) (written g w))) c.put.ensures.here)

pub returns-in-Ok-clause-others : goal.returns-in-Ok-clause-others
returns-in-Ok-clause-others g c =
    let r = (goal.at.returns-in-Ok-clause-others g c).After-put in
    changed-self c.args.number (g.D.PageIndex.find c.put.new.self c.args.number) (old g (goal.at.returns-in-Ok-clause-others g c).After-index_mut-list)
    (new g r) (written g r)

pub returns-in_default-clause-here : goal.returns-in_default-clause-here
returns-in_default-clause-here g c =
    let s = c.args.self.now in
    let gap = subst (λ ns. IsGapFor ns (c.args.number / 2 ^ s.shift) c.in_default.field-0) c.deref.ensures.value c.in_default.ensures.gap in
    absurd (false≢true (sym (ap is_some (under_gap g.D.PageIndex.find s.numbers.items s.lists.items s.shift c.args.number c.in_default.field-0 gap))
    ∙ c.requires.there))
