use Rattle.std.proofs.Common.{◌≤◌, ◌<◌, ◌+◌, ◌↔◌, length, refl, subst, arith}
use Rattle.std.specs.Bool.{IsTrue}
use Rattle.std.proofs.lemmas.Bool.{eq-eqb, eqb-true}
use Rattle.node_maps.specs.Cell.{hash_of, hash_in}
use Rattle.node_maps.specs.declared.page.Cell.TheVariants.{Empty}
use Rattle.node_maps.specs.Runs.{AreKnown}
use Rattle.node_maps.proofs.Runs.{iff-part, known-past, none-known}
use Rattle.node_maps.proofs.page.Page.knows.Goals as goal

pub returns-then-first-count : goal.returns-then-first-count
returns-then-first-count c =
    let inside : c.args.first + c.args.count ≤ length c.deref.result.now = omega (arith, c.if-first-count.true, c.len.ensures, c.deref.ensures.len) in
    subst (λ cells. IsTrue c.all_hold_hashes.result ↔ AreKnown (hash_in cells) c.args.first c.args.count) c.deref.ensures.value
    (iff-part hash_of Empty c.deref.result.now c.args.first c.args.count inside c.all_hold_hashes.ensures)

pub returns-else-first-count : goal.returns-else-first-count
returns-else-first-count c =
    let cells = c.args.self.now.kept.items in
    let past : length cells < c.args.first + c.args.count = omega (arith, c.if-first-count.false, c.len.ensures, c.args.self.now.kept.ok.0) in (
      λ none. none-known (hash_in cells) c.args.first c.args.count (eqb-true c.args.count 0 none),
      λ known. eq-eqb c.args.count 0 (known-past hash_of Empty cells c.args.first c.args.count refl past known),
    )
