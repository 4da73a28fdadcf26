-- The line of each kind of file.
use Rattle.std.proofs.Common.{◌≡◌, ◌^◌, ◌<◌, ◌≤◌, ℕ, List, [], ◌∷◌, length, leb, if◌then◌else◌, sym, ap, ◌∙◌, arith}
use Rattle.std.proofs.Common.{Some, None}
use Rattle.std.proofs.lemmas.Bool.Decides.{nat_tests}
use Rattle.std.proofs.lemmas.List.{nil_from_length}
use Rattle.chains.proofs.Cases.{above_zero}
use Rattle.hashtree.specs.Tree.{root_of}
use Rattle.benc.specs.Device.{SourceSeen}
use Rattle.filetree.specs.declared.refusal.Refusal.TheVariants as refusals
use Rattle.lines.specs.Table.{refusal_row, root_row}
use Rattle.folders.specs.Root.{IsFileOfSource, root_row_of}
use Rattle.folders.specs.Reading.{IsFileRoot}
use Rattle.hashtree.specs.RootBuilder.{EndsWith, Feeds, IsFed, byte_count}
use Rattle.hashtree.specs.declared.root.RootBuilder.{RootBuilder}
use Rattle.folders.specs.TakeAll.{GaveMore, TookAll}
use Rattle.folders.proofs.Pieces.{all_given, longer_content}

within_then : {A : Type 0} (n m : ℕ) (x y : A) → n ≤ m → (if leb n m then x else y) ≡ x
within_then n m x y h = grind (arith, nat_tests)

past_else : {A : Type 0} (n m : ℕ) (x y : A) → m < n → (if leb n m then x else y) ≡ y
past_else n m x y h = grind (arith, nat_tests)

pub row_empty : (file : List ℕ) → file ≡ [] → root_row_of file ≡ root_row 0 None
unfolding root_row_of
row_empty file e = ap root_row_of e

pub row_root : (file : List ℕ) (len : ℕ) (root : List ℕ) → IsFileRoot file len root → root_row_of file ≡ root_row len (Some root)
unfolding root_row_of
row_root [] len root is = absurd (omega (arith, is.some))
row_root (b ∷ bs) len root is =
    within_then (length (b ∷ bs)) (2 ^ 46) (root_row (length (b ∷ bs)) (Some (root_of (b ∷ bs)))) (refusal_row refusals.Length []) is.bound
    ∙ ap (λ n. root_row n (Some (root_of (b ∷ bs)))) (sym is.length_is) ∙ ap (λ r. root_row len (Some r)) (sym is.root_is)

pub row_too_long : (file : List ℕ) → 2 ^ 46 < length file → root_row_of file ≡ refusal_row refusals.Length []
unfolding root_row_of
row_too_long [] h = absurd (omega arith)
row_too_long (b ∷ bs) h =
    past_else (length (b ∷ bs)) (2 ^ 46) (root_row (length (b ∷ bs)) (Some (root_of (b ∷ bs)))) (refusal_row refusals.Length []) h

-- ---- reading

-- a source that gave more has a longer file
pub too_long_file : (old new : SourceSeen) → GaveMore old new (2 ^ 46)
    → (file : List ℕ) × IsFileOfSource old new file × (2 ^ 46 < length file)
too_long_file old new more =
    let longer = longer_content old.left new.left more.0 more.1.given in (
      longer.0,
      record {
        agrees = longer.2;
        taken = λ short. absurd (omega (arith, longer.1, more.2, short));
      },
      omega (arith, longer.1, more.2),
    )

-- a source that was taken whole, and is empty
pub empty_read : (old new : SourceSeen) (before after : RootBuilder) (count : ℕ) → TookAll Feeds old new (2 ^ 46) before after count → count ≡ 0
    → (file : List ℕ) × IsFileOfSource old new file × (file ≡ [])
empty_read old new before after count read none = (
  read.bytes,
  record {
    agrees = λ known is. all_given old new read.bytes known read.gave read.ended is;
    taken = λ short. read.gave.falls;
  },
  nil_from_length read.bytes (read.count_is ∙ none),
)

-- a source that was taken whole, and is not empty
pub root_read : (old new : SourceSeen) (before after : RootBuilder) (count len : ℕ) (root : List ℕ)
    → TookAll Feeds old new (2 ^ 46) before after count → (count ≡ 0 → ⊥) → byte_count before ≡ 0 → IsFed before []
    → len ≡ byte_count after → EndsWith after len root
    → (file : List ℕ) × IsFileOfSource old new file × IsFileRoot file len root
root_read old new before after count len root read some fresh fed len_is ends = (
  read.bytes,
  record {
    agrees = λ known is. all_given old new read.bytes known read.gave read.ended is;
    taken = λ short. read.gave.falls;
  },
  record {
    some = above_zero (length read.bytes) (λ none. some (sym read.count_is ∙ none));
    bound = omega (arith, read.count_is, read.within);
    length_is = omega (arith, len_is, read.taken.count, fresh);
    root_is = (ends read.bytes (read.taken.fed [] fed)).1;
  },
)
