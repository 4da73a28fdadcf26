-- What the root of a file was given, and what it is (BEP 52, "pieces root").
use Rattle.std.specs.Prelude.{◌≡◌, ℕ, ◌+◌, ◌++◌, List, [], length}
use Rattle.std.specs.Vec.{vec_capacity}
use Rattle.hashtree.specs.RootBuilder.{IsFed}
use Rattle.hashtree.specs.RootBuilder as builder
use Rattle.hashtree.specs.Tree.{root_of}
use Rattle.short_pushes.specs.Held.{held}
use Rattle.short_pushes.specs.declared.file_root.FileRoot.{FileRoot}

-- how many bytes the root was given
abbrev pub root_byte_count : FileRoot → ℕ
root_byte_count r = builder.byte_count r.builder + length (held r.waiting)

-- how many bytes of memory there are for those that wait
abbrev pub room_of_root : FileRoot → ℕ
room_of_root r = vec_capacity r.waiting.room

-- the root was given this content: the builder took it, but for the last bytes, which wait
pub record IsGivenRoot (r : FileRoot) (content : List ℕ) : Type 0 where
  pub taken : List ℕ
  pub content_is : content ≡ taken ++ held r.waiting
  pub fed : IsFed r.builder taken

-- nothing was given yet, and there is room for what may wait
abbrev pub IsNew : FileRoot → Type 0
IsNew r = (root_byte_count r ≡ 0) × (room_of_root r ≡ 131072) × IsGivenRoot r []

-- the root was given these further bytes, in the room that there was
pub record FeedsRoot (old : FileRoot) (bytes : List ℕ) (new : FileRoot) : Type 0 where
  pub count : root_byte_count new ≡ root_byte_count old + length bytes
  pub room : room_of_root new ≡ room_of_root old
  pub given : (file : List ℕ) → IsGivenRoot old file → IsGivenRoot new (file ++ bytes)

-- this is the length and the root of the content that was given
abbrev pub EndsWithRoot : FileRoot → ℕ → List ℕ → Type 0
EndsWithRoot r len root = (file : List ℕ) → IsGivenRoot r file
    → (len ≡ length file) × (root ≡ root_of file)
