use Rattle.std.proofs.Common.{map, sym, subst, rules}
use Rattle.std.proofs.lemmas.Fn.{always_returns_same}
use Rattle.std.specs.Prelude.{MatchOption}
use Rattle.drafts.specs.Orders.{IsPlaceOf, Ties}
use Rattle.filetree.specs.Paths.{path_cmp}
use Rattle.drafts.specs.declared.draft.DraftFile.{DraftFile}
use Rattle.drafts.proofs.Finding.{path_in, paths_in, place_found}
use Rattle.drafts.proofs.path_order.place_among.Goals as goal

pub returns-clause-place : goal.returns-clause-place
returns-clause-place c =
    let p = map (λ s. s.now) c.args.path.now in
    let found = c.binary_search_by.ensures.position (λ (f : DraftFile). path_cmp (path_in f) (map (λ s. s.now) c.args.path.now))
    (always_returns_same _ _ _ (λ a r f' k. (search rules, search rules))) in
    subst (λ o. MatchOption o (Ties p (paths_in c.args.files.now)) (λ i. IsPlaceOf p (paths_in c.args.files.now) i)) (sym c.err.ensures.value)
    (place_found p c.args.files.now c.binary_search_by.result c.requires c.binary_search_by.ensures.bound found)
