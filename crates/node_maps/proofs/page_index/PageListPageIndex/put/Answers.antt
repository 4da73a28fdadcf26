use Rattle.std.proofs.Common.{Some, is_some, set, refl, sym, ap, ◌∙◌, subst}
use Rattle.std.proofs.lemmas.Bool.{false≢true}
use Rattle.node_maps.specs.Pages.{IsChanged}
use Rattle.node_maps.specs.PageIndexes.{on_list}
use Rattle.node_maps.specs.Rising.{IsNumberAt, IsGapFor, page_numbered}
use Rattle.node_maps.proofs.Rising.{HasItemAt, stands, set-found, found_gap}
use Rattle.node_maps.proofs.Pages.{put-changed, changed-self}
use Rattle.node_maps.proofs.page_index.PageListPageIndex.put.Goals as goal
use Rattle.node_maps.proofs.page_index.PageListPageIndex.put.Goals.{In-Ok, After-put}

found : (c : In-Ok) → HasItemAt c.args.self.now.numbers.items c.args.self.now.pages.items c.args.number c.in-Ok.at
found c = record {
  rising = c.args.self.now.rising;
  beside = c.args.self.now.beside;
  is = subst (λ ns. IsNumberAt ns c.args.number c.in-Ok.at) c.deref.ensures.value c.in-Ok.ensures.at;
}

written : (c : After-put) → IsChanged c.args.number (Some c.put.new.self) (on_list c.args.self.now)
    (page_numbered c.args.self.now.numbers.items (set c.args.self.now.pages.items c.in-Ok.at c.put.new.self))
written c = set-found (found (goal.at.After-put c).In-Ok) c.put.new.self

pub returns-in-Ok-clause-here : goal.returns-in-Ok-clause-here
returns-in-Ok-clause-here c =
    let x = found (goal.at.returns-in-Ok-clause-here c).In-Ok in
    let p = c.index_mut-page.result.now in
    put-changed c.args.place c.args.hash c.args.mark c.args.number (on_list c.args.self.now) _ p c.put.new.self (stands x p c.index_mut-page.ensures.value)
    (written (goal.at.returns-in-Ok-clause-here c).After-put)
    (record { there = refl; here = c.put.ensures.here; others = c.put.ensures.others })

pub returns-in-Ok-clause-others : goal.returns-in-Ok-clause-others
returns-in-Ok-clause-others c =
    changed-self c.args.number (Some c.put.new.self) (on_list c.args.self.now) _ (written (goal.at.returns-in-Ok-clause-others c).After-put)

pub returns-in_default-clause-here : goal.returns-in_default-clause-here
returns-in_default-clause-here c =
    let s = c.args.self.now in
    let gap = subst (λ xs. IsGapFor xs c.args.number c.in_default.field-0) c.deref.ensures.value c.in_default.ensures.gap in
    absurd (false≢true (sym (ap is_some (found_gap s.numbers.items s.pages.items c.args.number c.in_default.field-0 gap)) ∙ c.requires.there))
