-- The part of a run that lies on one page.
use Rattle.std.proofs.Common.{◌≡◌, ℕ, ◌+◌, ◌/◌, ◌%◌, ◌<◌, ◌≤◌, Some, None, sym, ap, ap₂, ◌∙◌, arith}
use Rattle.std.proofs.lemmas.Option.{none-some}
use Rattle.node_maps.specs.declared.page.Page.{Page}
use Rattle.node_maps.specs.Cell.{hash_of, hash_in}
use Rattle.node_maps.specs.Pages.{Numbered, cell_of, cell_in}
use Rattle.node_maps.specs.Runs.{AreKnown}
use Rattle.node_maps.proofs.Runs.{ReadAlike}

-- a page reads as its layer does
pub page-alike : (pages : Numbered) (at n first count : ℕ) (page : Page) → n ≡ at / 512 → first ≡ at % 512 → first + count ≤ 512 → pages n ≡ Some page
    → ReadAlike (hash_in page.kept.items) first (λ i. hash_of (cell_in pages i)) at count
page-alike pages at n first count page number place inside there = record {
  at = λ j low.
      let q : n ≡ (at + j) / 512 = omega arith in
      let r : first + j ≡ (at + j) % 512 = omega arith in
      sym (ap (λ o. hash_of (cell_of o (first + j))) there) ∙ ap₂ (λ a b. hash_of (cell_of (pages a) b)) q r;
}

-- a run of known hashes has a page for its places
pub page-there : (pages : Numbered) (from count done n : ℕ) → n ≡ (from + done) / 512 → done < count → pages n ≡ None
    → AreKnown (λ i. hash_of (cell_in pages i)) from count → ⊥
page-there pages from count done n number more none known =
    let here = known done more in
    none-some here.0 (sym (ap (λ q. hash_of (cell_of (pages q) ((from + done) % 512))) (sym number) ∙ ap (λ o. hash_of (cell_of o ((from + done) % 512))) none)
    ∙ here.1)
