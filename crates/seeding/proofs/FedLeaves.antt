-- What takes a file's bytes for its leaves: how many leaves its tree has, and what stands at the end.
use Rattle.std.proofs.Common.{◌≡◌, ◌⊎◌, ℕ, ◌+◌, ◌-◌, ◌/◌, ◌<◌, ◌≤◌, ◌++◌, List, [], ◌∷◌, length, Option, Some, None, OnSome, Result, Ok}
use Rattle.std.proofs.Common.{inl, inr, refl, sym, ap, ◌∙◌, subst, arith, div-one}
use Rattle.std.specs.Option.{option_to_list}
use Rattle.std.specs.declared.alloc.AllocError.{AllocError}
use Rattle.std.proofs.lemmas.List.{length-append}
use Rattle.benc.specs.Device.{SourceSeen}
use Rattle.folders.specs.TakeAll.{IsReadWithin, ReadAll, TookAll}
use Rattle.folders.proofs.Pieces.{all_given, longer_content}
use Rattle.hashtree.specs.declared.root.RootBuilder.{RootBuilder}
use Rattle.hashtree.specs.Complete.{complete_nodes}
use Rattle.hashtree.specs.RootBuilder.{Feeds, IsFed}
use Rattle.hashtree.specs.Tree.{block_count, layer_of}
use Rattle.hashtree.proofs.Comparing.{length-layer_of}
use Rattle.hashtree.proofs.Complete.{length-complete_nodes}
use Rattle.partial_tree.specs.Grown.{GrownTree}
use Rattle.seeding.specs.Leaves.{FindsWholeTree, HaveLeavesRefused, IsFedLeaves, IsFull, Pushes, ReadsTree}
use Rattle.seeding.specs.declared.leaves.Leaves.{Leaves}

-- one leaf for each block that is complete
complete-length : (content : List ℕ) → length (complete_nodes content 0) ≡ (length content - 1) / 16384
complete-length content = length-complete_nodes content 0 ∙ div-one ((length content - 1) / 16384)

-- where memory was never refused, all leaves are kept
pub kept-leaves : {N : Type 0} (l : Leaves N) (content : List ℕ) → IsFedLeaves l content → (HaveLeavesRefused l → ⊥)
    → l.tree.leaves ≡ complete_nodes content 0
kept-leaves l content at works = elim at.leaves_are [
  | inl refused ↦ absurd (works refused)
  | inr are ↦ are
]

-- the next leaf is one of the file's
pub leaf-fits : {N : Type 0} (l : Leaves N) (content more : List ℕ) (leaf : Option (List ℕ)) → IsFedLeaves l content
    → complete_nodes more 0 ≡ complete_nodes content 0 ++ option_to_list leaf → length more ≤ l.tree.length
    → OnSome leaf (HaveLeavesRefused l ⊎ (length l.tree.leaves < block_count l.tree.length))
leaf-fits l content more None at completed fits = tt
leaf-fits l content more (Some x) at completed fits =
    let count : length (complete_nodes more 0) ≡ (length more - 1) / 16384 = complete-length more in
    let one : length (complete_nodes more 0) ≡ length (complete_nodes content 0) + 1 = ap length completed
    ∙ length-append (complete_nodes content 0) (x ∷ []) in
    elim at.leaves_are [
      | inl refused ↦ inl refused
      | inr are ↦ inr (
          let had : length l.tree.leaves ≡ length (complete_nodes content 0) = ap length are in
          omega (arith, count, one, had, fits))
    ]

-- one leaf more, or none
pub kept-leaf : {N : Type 0} (l q : Leaves N) (mid : RootBuilder) (content more : List ℕ) (leaf : Option (List ℕ)) → IsFedLeaves l content → IsFed mid more
    → complete_nodes more 0 ≡ complete_nodes content 0 ++ option_to_list leaf
    → q.builder ≡ mid → HaveLeavesRefused q ⊎ ((HaveLeavesRefused l → ⊥) × (q.tree.leaves ≡ l.tree.leaves ++ option_to_list leaf)) → IsFedLeaves q more
kept-leaf l q mid content more leaf at fed completed builder kept = record {
  fed = subst (λ b. IsFed b more) (sym builder) fed;
  leaves_are = elim kept [
    | inl refused ↦ inl refused
    | inr (works, leaves) ↦ inr (leaves ∙ ap (λ t. t ++ option_to_list leaf) (kept-leaves l content at works)
        ∙ sym completed)
  ];
}

-- a part is given, and the leaf that it completes is kept
pub keeps-part : {N : Type 0} (l q : Leaves N) (mid : RootBuilder) (part : List ℕ) (leaf : Option (List ℕ)) → Feeds l.builder part mid
    → ((file : List ℕ) → IsFed l.builder file → complete_nodes (file ++ part) 0 ≡ complete_nodes file 0 ++ option_to_list leaf)
    → q.builder ≡ mid → q.tree.length ≡ l.tree.length
    → HaveLeavesRefused q ⊎ ((HaveLeavesRefused l → ⊥) × (q.tree.leaves ≡ l.tree.leaves ++ option_to_list leaf)) → Pushes l part q
keeps-part l q mid part leaf feeds completes builder same kept = record {
  same_length = same;
  fed = λ file at. kept-leaf l q mid file (file ++ part) leaf at (feeds.fed file at.fed) (completes file at.fed) builder kept;
}

-- ---- the end

pub length-leaves : (content : List ℕ) → length (layer_of content 0) ≡ block_count (length content)
length-leaves content =
    let n : ℕ = block_count (length content) in
    let none_more : n + 0 ≡ n = omega arith in
    length-layer_of content (length content) 0 refl (omega arith) ∙ div-one (n + 0) ∙ none_more

-- the last leaf is one of the file's
pub last-fits : {N : Type 0} (l : Leaves N) (content : List ℕ) (last : Option (List ℕ)) (leaf : List ℕ) → IsFull l content → (HaveLeavesRefused l → ⊥)
    → complete_nodes content 0 ++ option_to_list last ≡ layer_of content 0 → last ≡ Some leaf → length l.tree.leaves < block_count l.tree.length
last-fits l content last leaf full works nodes is =
    let all : length (layer_of content 0) ≡ block_count (length content) = length-leaves content in
    let one : length (layer_of content 0) ≡ length (complete_nodes content 0) + 1 =
    ap length (sym nodes) ∙ ap (λ o. length (complete_nodes content 0 ++ option_to_list o)) is
    ∙ length-append (complete_nodes content 0) (leaf ∷ []) in
    let had : length l.tree.leaves ≡ length (complete_nodes content 0) = ap length (kept-leaves l content full.fed works) in
    let same : block_count (length content) ≡ block_count l.tree.length = ap block_count full.length_is in
    omega (arith, all, one, had, same)

-- with the last leaf the file's leaves are all there
pub all-leaves : {N : Type 0} (l : Leaves N) (t : GrownTree) (content : List ℕ) (last : Option (List ℕ)) → IsFull l content → (HaveLeavesRefused l → ⊥)
    → complete_nodes content 0 ++ option_to_list last ≡ layer_of content 0 → t.leaves ≡ l.tree.leaves ++ option_to_list last
    → t.leaves ≡ layer_of content 0
all-leaves l t content last full works nodes is = is ∙ ap (λ xs. xs ++ option_to_list last) (kept-leaves l content full.fed works) ∙ nodes

pub all-there : {N : Type 0} (l : Leaves N) (t : GrownTree) (content : List ℕ) (last : Option (List ℕ)) → IsFull l content → (HaveLeavesRefused l → ⊥)
    → complete_nodes content 0 ++ option_to_list last ≡ layer_of content 0 → t.leaves ≡ l.tree.leaves ++ option_to_list last
    → t.length ≡ l.tree.length
    → length t.leaves ≡ block_count t.length
all-there l t content last full works nodes is same =
    ap length (all-leaves l t content last full works nodes is) ∙ length-leaves content ∙ ap block_count (full.length_is ∙ sym same)

-- ---- a source that was read

-- it has another length
pub other_length : {T : Type 0} (len : ℕ) (root : List ℕ) (took : T → List ℕ → T → Type 0) (source source' : SourceSeen) (before after : T) (r : Option ℕ)
    → ReadAll took source source' len before after r → IsReadWithin (len + 1) source source' → (r ≡ Some len → ⊥) → ReadsTree len root source source' (Ok None)
other_length len root took source source' before after None (bytes, gave, more) within other =
    let longer = longer_content source.left source'.left bytes gave.given in (
      longer.0,
      record { agrees = longer.2; is_read = omega (arith, longer.1, more, gave.falls, within) },
      λ fits. omega (arith, longer.1, more, fits.same_length),
    )
other_length len root took source source' before after (Some count) read within other = (
  read.bytes,
  record {
    agrees = λ known is. all_given source source' read.bytes known read.gave read.ended is;
    is_read = omega (arith, read.count_is, read.within, read.gave.falls);
  },
  λ fits. other (ap Some (sym read.count_is ∙ fits.same_length)),
)

-- it has the right one
module _ {N : Type 0} (len : ℕ) (root : List ℕ) (source source' : SourceSeen) (before after : Leaves N)
    (read : TookAll Pushes source source' len before after len) (nothing : IsFedLeaves before []) (length_is : before.tree.length ≡ len) (some : 0 < len) where
  pub full : IsFull after read.bytes
  full = record {
    fed = read.taken.fed [] nothing;
    length_is = read.count_is ∙ sym length_is ∙ sym read.taken.same_length;
    some = omega (arith, read.count_is, some);
  }

  pub reads_tree : (found : Result (Option GrownTree) AllocError)
      → ((content : List ℕ) → IsFull after content → FindsWholeTree after.tree.length root content found)
      → ReadsTree len root source source' found
  reads_tree found finds = (
    read.bytes,
    record {
      agrees = λ known is. all_given source source' read.bytes known read.gave read.ended is;
      is_read = omega (arith, read.count_is, read.gave.falls);
    },
    subst (λ n. FindsWholeTree n root read.bytes found) (read.taken.same_length ∙ length_is) (finds read.bytes full),
  )
