use Rattle.std.proofs.Common.{◌<◌, length, get_or, sym, inl, inr, arith, rules}
use Rattle.std.specs.Cmp.Lexicographic.{slice_cmp}
use Rattle.std.specs.Ordering.{nat_cmp}
use Rattle.std.proofs.lemmas.Bool.{cases_lt}
use Rattle.std.proofs.lemmas.Fn.{always_returns_same}
use Rattle.std.proofs.lemmas.Map.Lookups.{exact_bytes}
use Rattle.benc.specs.declared.value.Pair.{Pair}
use Rattle.opening.proofs.Searching.{first_at, not_less, not_greater, search_rises, under_none}
use Rattle.opening.proofs.layers.entry.Goals as goal

pub returns-in-Ok : goal.returns-in-Ok
returns-in-Ok c =
    let xs = c.args.layers.now in
    let d = c.index-layers-place.result in
    let found = c.in-Ok.ensures.position (λ (p : Pair). slice_cmp nat_cmp p.key.now c.args.root.now)
    (always_returns_same _ _ _ (λ a r f' k. (search rules, search rules))) in
    let within : c.in-Ok.place < length xs = omega (arith, c.in-Ok.ensures.bound) in
    sym (first_at xs c.in-Ok.place d c.args.root.now c.requires within (exact_bytes (get_or xs c.in-Ok.place d).key.now c.args.root.now (found d)))

pub returns-in-Err : goal.returns-in-Err
returns-in-Err c =
    let xs = c.args.layers.now in
    let found = c.in-Err.ensures.position (λ (p : Pair). slice_cmp nat_cmp p.key.now c.args.root.now)
    (always_returns_same _ _ _ (λ a r f' k. (search rules, search rules))) in
    let parts = found (search_rises xs c.args.root.now c.requires) in
    sym (under_none xs c.args.root.now (λ j d lt same. elim (cases_lt j c.in-Err.field-0) [
      | inl low ↦ not_less (get_or xs j d).key.now c.args.root.now (parts.0 j d (omega arith) low) same
      | inr high ↦ not_greater (get_or xs j d).key.now c.args.root.now (parts.1 j d high lt) same
    ]))
