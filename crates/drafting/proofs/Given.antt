-- What a file was given, once more bytes came.
use Rattle.std.proofs.Common.{◌≡◌, inr, ℕ, ◌<◌, Bool, List, [], ◌++◌, length, length-append, sym, ◌∙◌, ap, subst, append-nil, arith}
use Rattle.std.proofs.lemmas.List.{nil_from_length}
use Rattle.gathering.proofs.Digests.{kept_digests}
use Rattle.gathering.specs.Hashing.{Hashes, MayEndWithout}
use Rattle.gathering.specs.HashingLaws.{hashed_both, hashed_none}
use Rattle.gathering.specs.Hashing.{BeginsHashing}
use Rattle.gathering.specs.declared.hashing.Hashing.{Hashing}
use Rattle.hashtree.specs.LayerBuilder.{FeedsLayer}
use Rattle.drafting.specs.Stages.{AdvancesStage, IsHashing, IsStageAt, LacksMemory}
use Rattle.drafting.specs.declared.stage.Stage.{Stage}
use Rattle.drafting.specs.declared.stage.Stage.TheVariants as stage

pub begun : (piece_length : ℕ) (hybrid : Bool) (h : Hashing) → BeginsHashing piece_length hybrid h → IsHashing piece_length hybrid [] h
begun piece_length hybrid h begins = record { first = h; begins = begins; hashes = hashed_none h; works = begins.tree.works }

both : (piece_length : ℕ) (hybrid : Bool) (content bytes : List ℕ) (x y : Hashing) (at : IsHashing piece_length hybrid content x) → Hashes x bytes y
    → Hashes at.first (content ++ bytes) y
both piece_length hybrid content bytes x y at hashes = hashed_both at.first x y content bytes at.hashes hashes

pub advanced : (x y : Hashing) (bytes : List ℕ) → Hashes x bytes y → FeedsLayer x.tree bytes y.tree → AdvancesStage (stage.Coming x) bytes (stage.Coming y)
advanced x y bytes hashes fed = record {
  left = omega (arith, fed.count);
  given = λ piece_length hybrid content at. record {
    first = at.first;
    begins = at.begins;
    hashes = both piece_length hybrid content bytes x y at hashes;
    works = fed.works;
  };
}

pub advanced_none : (s : Stage) (bytes : List ℕ) → length bytes ≡ 0 → AdvancesStage s bytes s
advanced_none s bytes none = record {
  left = omega (arith, none);
  given = λ piece_length hybrid content at.
      subst (IsStageAt piece_length hybrid s) (sym (ap (λ more. content ++ more) (nil_from_length bytes none) ∙ append-nil content)) at;
}

-- if memory was refused, digests were to be kept
pub lacks : (x y : Hashing) (bytes : List ℕ) → 0 < length bytes → Hashes x bytes y → MayEndWithout y → LacksMemory (stage.Coming x) bytes
lacks x y bytes some hashes why = inr (λ piece_length hybrid content at.
    kept_digests piece_length hybrid at.first y (content ++ bytes) at.begins (both piece_length hybrid content bytes x y at hashes)
    (omega (arith, length-append content bytes, some)) why)
