-- What a draft is given of a file, of what all parts say of it.
use Rattle.std.proofs.Common.{◌≡◌, ℕ, Bool, true, false, ◌&&◌, cond, List, [], length, refl, sym, ◌∙◌, ap}
use Rattle.std.specs.Prelude.{nat_lt}
use Rattle.std.proofs.lemmas.Bool.{lt-ltb}
use Rattle.drafts.proofs.Passing.{lengths_are}
use Rattle.drafts.specs.Adding.{MayAdd, given_file}
use Rattle.drafts.specs.Outline.{Outline}
use Rattle.hashtree.specs.Hashes.{AreOfHashLength}
use Rattle.hashtree.specs.Tree.{block_count, height, root_over}
use Rattle.opening.specs.PieceLayers.{piece_layer}
use Rattle.assembling.specs.Whole.{IsWhole}
use Rattle.assembling.specs.declared.rows.FileRows.{FileRows}

all_cuts : (h b : Bool) (xs : List (List ℕ)) → h ≡ true → b ≡ true → cond (h && b) xs [] ≡ xs
all_cuts true true xs is some = refl
all_cuts true false xs is some = absurd cc
all_cuts false b xs is some = absurd cc

pub may_add : (d : Outline) (path : List (List ℕ)) (n : ℕ) (root : List ℕ) (rows : FileRows) (layer : List (List ℕ))
    → IsWhole d.piece_length d.hybrid n rows root → layer ≡ rows.nodes.items → AreOfHashLength layer → MayAdd d (given_file d path n root rows.v1) layer
may_add d path n root rows layer whole same widths = record {
  cuts = λ is some. ap length (all_cuts d.hybrid (nat_lt 0 n) rows.v1.cuts.items is (lt-ltb 0 n some)) ∙ whole.cuts is;
  fits = λ longer. record {
    root = refl;
    count = ap length same ∙ whole.nodes;
    hash_lengths = lengths_are 32 layer widths;
    leads = ap (root_over (height (block_count n)) (piece_layer d.piece_length)) same ∙ sym (whole.leads longer);
  };
}
