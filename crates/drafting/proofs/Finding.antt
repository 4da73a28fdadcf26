-- What is found of a file that has all its bytes.
use Rattle.std.proofs.Common.{◌≡◌, inl, inr, ℕ, ◌<◌, Bool, List, [], length, sym, ◌∙◌, subst, append-nil, arith}
use Rattle.std.proofs.lemmas.List.{nil_from_length}
use Rattle.gathering.proofs.Digests.{found_whole, kept_digests}
use Rattle.gathering.specs.Gathered.{KeepsDigests}
use Rattle.gathering.specs.Hashing.{AreHashesOf, EndsWithHashes, MayEndWithout}
use Rattle.gathering.specs.declared.hashing.FileHashes.{FileHashes}
use Rattle.gathering.specs.declared.hashing.Hashing.{Hashing}
use Rattle.hashtree.specs.LayerBuilder.{layer_byte_count}
use Rattle.drafting.specs.Stages.{FoundOf, IsHashing, LacksMemory}
use Rattle.drafting.specs.declared.stage.Stage.TheVariants as stage

count_is : (piece_length : ℕ) (hybrid : Bool) (content : List ℕ) (h : Hashing) → IsHashing piece_length hybrid content h
    → layer_byte_count h.tree ≡ length content
count_is piece_length hybrid content h at = elim at.hashes.tree.fed [
  | inl refused ↦ absurd (at.works refused)
  | inr fed ↦ omega (arith, fed.count, at.begins.tree.count)
]

pub found_coming : (h : Hashing) (found : FileHashes) → EndsWithHashes h found → FoundOf (stage.Coming h) found
found_coming h found ends piece_length hybrid content at = found_whole piece_length hybrid at.first h content found at.begins at.hashes ends

pub found_empty : (h : Hashing) (found : FileHashes) → layer_byte_count h.tree ≡ 0
    → ((piece_length : ℕ) (hybrid : Bool) → AreHashesOf piece_length hybrid [] found)
    → FoundOf (stage.Coming h) found
found_empty h found none is piece_length hybrid content at =
    let few : length content ≡ 0 = sym (count_is piece_length hybrid content h at) ∙ none in
    subst (λ c. AreHashesOf piece_length hybrid c found) (sym (nil_from_length content few)) (is piece_length hybrid)

pub lacks_at_end : (h : Hashing) → 0 < layer_byte_count h.tree → MayEndWithout h → LacksMemory (stage.Coming h) []
lacks_at_end h some why = inr (λ piece_length hybrid content at.
    subst (KeepsDigests piece_length hybrid) (sym (append-nil content))
    (kept_digests piece_length hybrid at.first h content at.begins at.hashes
    (omega (arith, count_is piece_length hybrid content h at, some)) why))
