use Rattle.std.proofs.Common.{◌≡◌, ◌∙◌, ap, not, rules, sym, tests}
use Rattle.std.specs.List.{list_any}
use Rattle.std.proofs.lemmas.Iterator.{YieldsList-from_slice}
use Rattle.std.proofs.lemmas.Iterator.Search.{any_from_yields_List}
use Rattle.globs.specs.Globs.{is_bracketed, is_within}
use Rattle.globs.proofs.kinds.Brackets.has.Goals as goal

pub returns-then-self : goal.returns-then-self
returns-then-self c =
    let ranges = c.args.self.now.ranges.items in
    let letter = c.args.letter in
    let listed : c.any-is_listed.result ≡ list_any (is_within letter) ranges =
    any_from_yields_List (is_within letter) _ _ c.any-is_listed.result c.any-is_listed.ensures.ran
    (YieldsList-from_slice ranges cc) (λ x b q k. search (rules, tests)) in
    ap not listed ∙ ap (λ b. is_bracketed b ranges letter) (sym c.if-self.true)

pub returns-else-self : goal.returns-else-self
returns-else-self c =
    let ranges = c.args.self.now.ranges.items in
    let letter = c.args.letter in
    let listed : c.any-is_listed.result ≡ list_any (is_within letter) ranges =
    any_from_yields_List (is_within letter) _ _ c.any-is_listed.result c.any-is_listed.ensures.ran
    (YieldsList-from_slice ranges cc) (λ x b q k. search (rules, tests)) in
    listed ∙ ap (λ b. is_bracketed b ranges letter) (sym c.if-self.false)
