-- Where memory is taken.
use Rattle.std.proofs.Common.{◌≡◌, ℕ, ◌≤◌, List, [], ◌∷◌, length, Result, Ok, Err, IfErr, inl, inr, subst}
use Rattle.benc.specs.Spelling.{Spells}
use Rattle.benc.specs.Value.{Bencode, Pairs}
use Rattle.filetree.specs.Tests.{First, NoneHolds, TestRow}
use Rattle.filetree.specs.TreeTests.{tree_rows}
use Rattle.filetree.proofs.Tables.{none_both}
use Rattle.filetree.specs.declared.refusal.Refusal.{Refusal}
use Rattle.filetree.specs.declared.refusal.Refusal.TheVariants as refusals
use Rattle.opening.specs.Description.{Description}
use Rattle.opening.specs.Refusals.{OpeningTakesMemory, all_key_rows, file_tree_in, layer_rows, max_torrent, plain_rows}
use Rattle.opening.specs.declared.roots.Root.{Root}

-- an answer that no row has is not given
abbrev NoRow : List TestRow → Refusal → Type 0
NoRow [] r = Unit {0}
NoRow (t ∷ ts) r = (r ≡ t.answer → ⊥) × NoRow ts r

never : (ts : List TestRow) (r : Refusal) → NoRow ts r → First ts r → ⊥
never [] r none known = known
never (t ∷ ts) r none known = elim known [ inl here ↦ none.0 here.1 | inr later ↦ never ts r none.1 later.1 ]

-- no test of a key is answered with out of memory
pub keys_take_none : (v : Bencode) → First (all_key_rows v) refusals.NoMemory → ⊥
keys_take_none v known = never (all_key_rows v) refusals.NoMemory (
  (λ e. cc),
  (
    (λ e. cc),
    (
      (λ e. cc),
      (
        (λ e. cc),
        ((λ e. cc), ((λ e. cc), ((λ e. cc), ((λ e. cc), ((λ e. cc), ((λ e. cc), ((λ e. cc), ((λ e. cc), ((λ e. cc), ((λ e. cc), tt)))))))))),
      ),
    ),
  ),
) known

-- nor one of a piece layer
pub layers_take_none : (k : ℕ) (layers : Pairs) (ts : List Root) → First (layer_rows k layers ts) refusals.NoMemory → ⊥
layers_take_none k layers ts known = never (layer_rows k layers ts) refusals.NoMemory ((λ e. cc), ((λ e. cc), ((λ e. cc), tt))) known

-- the tests of the keys, and of this file tree
pub plain_pass : (v : Bencode) (tree : Pairs) → NoneHolds (all_key_rows v) → tree ≡ file_tree_in v → NoneHolds (tree_rows tree) → NoneHolds (plain_rows v)
plain_pass v tree keys is rows = none_both (all_key_rows v) (tree_rows (file_tree_in v)) keys (subst (λ t. NoneHolds (tree_rows t)) is rows)

-- what is refused out of memory is a value for which none of the tests without memory holds
pub wants_memory : (b : List ℕ) (v : Bencode) → length b ≤ max_torrent → Spells v b → (result : Result Description Refusal)
    → IfErr result (λ r. r ≡ refusals.NoMemory → NoneHolds (plain_rows v))
    → IfErr result (λ r. r ≡ refusals.NoMemory → OpeningTakesMemory b)
wants_memory b v small spelled (Ok t) known = known
wants_memory b v small spelled (Err r) known = λ memory. record { small = small; value = v; spells = spelled; where_taken = inr (known memory) }
