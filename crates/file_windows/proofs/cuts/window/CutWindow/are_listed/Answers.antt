use Rattle.std.proofs.Common.{◌≡◌, ◌∙◌, ◌≢◌, true, false, not, List, ℕ, ap, arith}
use Rattle.std.proofs.lemmas.Slice.Eq.{bytes_eq-Decides}
use Rattle.std.specs.Str.{bytes_eq}
use Rattle.file_windows.proofs.FileCuts.{listed_cuts, listed_there}
use Rattle.file_windows.proofs.cuts.window.CutWindow.are_listed.Goals as goal

other : (xs ys : List ℕ) → true ≡ not (bytes_eq xs ys) → xs ≢ ys
other xs ys is same = let bad : true ≡ false = is ∙ ap not ((bytes_eq-Decides xs ys).1 same) in let no : ⊥ = cc in no

pub returns-then-ne-clause-always : goal.returns-then-ne-clause-always
returns-then-ne-clause-always c buffer start size has hashed inside few are =
    absurd (other _ _ c.if-ne.ensures (listed_there c.args.self.now c.args.first c.cuts.k c.args.listed.now buffer start size has hashed inside
    (omega (arith, c.cuts-test.true, c.cuts.auto.k-end)) few are))

pub returns-clause-listed : goal.returns-clause-listed
returns-clause-listed c on buffer start size has hashed inside =
    listed_cuts c.args.self.now c.args.first c.args.listed.now buffer start size
    (λ i lt. c.cuts.invariant i (omega (arith, lt, c.cuts-test.false, c.cuts.auto.k-end))) has hashed inside
