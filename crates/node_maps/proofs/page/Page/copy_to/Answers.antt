use Rattle.std.proofs.Common.{◌≡◌, ◌≤◌, ◌<◌, ◌+◌, ◌++◌, length, refl, subst, sym, ap, ◌∙◌, append-nil, arith}
use Rattle.node_maps.specs.Cell.{hash_of, hash_in}
use Rattle.node_maps.specs.declared.page.Cell.TheVariants.{Empty}
use Rattle.node_maps.specs.Runs.{AreKnown, hashes_from}
use Rattle.node_maps.proofs.Runs.{known-in_part, hashes-in_part, known-past, none-hashes}
use Rattle.node_maps.proofs.page.Page.copy_to.Goals as goal

pub copy_hashes-requires-clause-known : goal.copy_hashes-requires-clause-known
copy_hashes-requires-clause-known c =
    let inside : c.args.first + c.args.count ≤ length c.deref.result.now = omega (arith, c.if-first-count.true, c.len.ensures, c.deref.ensures.len) in
    known-in_part hash_of Empty c.deref.result.now c.args.first c.args.count inside
    (subst (λ cells. AreKnown (hash_in cells) c.args.first c.args.count) (sym c.deref.ensures.value) c.requires.known)

pub returns-then-first-count-clause-copied : goal.returns-then-first-count-clause-copied
returns-then-first-count-clause-copied c =
    let inside : c.args.first + c.args.count ≤ length c.deref.result.now = omega (arith, c.if-first-count.true, c.len.ensures, c.deref.ensures.len) in
    c.copy_hashes.ensures.copied ∙ ap (λ xs. c.args.out.now.items ++ xs)
    (hashes-in_part hash_of Empty c.deref.result.now c.args.first c.args.count inside
    ∙ ap (λ cells. hashes_from (hash_in cells) c.args.first c.args.count) c.deref.ensures.value)

-- a known run that ends behind the kept cells is empty
empty_run : (c : goal.Else-first-count) → c.args.count ≡ 0
empty_run c =
    let cells = c.args.self.now.kept.items in
    let past : length cells < c.args.first + c.args.count = omega (arith, c.if-first-count.false, c.len.ensures, c.args.self.now.kept.ok.0) in
    known-past hash_of Empty cells c.args.first c.args.count refl past c.requires.known

pub returns-else-first-count-clause-copied : goal.returns-else-first-count-clause-copied
returns-else-first-count-clause-copied c =
    let out = c.args.out.now.items in
    sym (ap (λ xs. out ++ xs) (none-hashes (hash_in c.args.self.now.kept.items) c.args.first c.args.count (empty_run c)) ∙ append-nil out)

pub returns-else-first-count-clause-len : goal.returns-else-first-count-clause-len
returns-else-first-count-clause-len c = omega (arith, empty_run c)
