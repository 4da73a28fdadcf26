-- What the calls for a file's root do (BEP 52, "pieces root").
use Rattle.std.specs.Prelude.{◌≡◌, ◌⊎◌, ℕ, ◌+◌, ◌^◌, ◌<◌, List, length, Option, Some, None}
use Rattle.short_pushes.specs.FileRoots.{root_byte_count, EndsWithRoot, FeedsRoot, IsNew}
use Rattle.btcheck_c.specs.Holds.{IsWrongKind}
use Rattle.short_pushes.specs.declared.file_root.FileRoot.{FileRoot}
use Rattle.btcheck_c.specs.declared.thing.Thing.{Thing}
use Rattle.btcheck_c.specs.declared.thing.Kind.{Kind}
use Rattle.btcheck_c.specs.declared.thing.Kind.TheVariants as kind

-- a new builder is in the handle, or memory was refused and nothing is
abbrev pub RootMade : ℕ → Option Thing → Type 0
RootMade status o' =
    ((status ≡ 0) × ((b : FileRoot) × (o' ≡ Some (record { kind = kind.Root b })) × IsNew b))
    ⊎ ((status ≡ 2) × (o' ≡ None))

-- the builder takes the bytes; or they are too many, and it stays as it is
abbrev pub Pushed : List ℕ → Kind → ℕ → Kind → Type 0
Pushed bytes (kind.Root b) status k' =
    ((status ≡ 0) × ((b' : FileRoot) × (k' ≡ kind.Root b') × FeedsRoot b bytes b'))
    ⊎ ((status ≡ 3) × ((2 ^ 46 < root_byte_count b + length bytes) × (k' ≡ kind.Root b)))
Pushed bytes k status k' = IsWrongKind k status k'

-- length and root of the bytes, and the builder is new again; or there were none, and it stays as
-- it is
abbrev pub Finished : ℕ → List ℕ → Kind → ℕ → Kind → Type 0
Finished len root (kind.Root b) status k' =
    ((status ≡ 0) × ((len ≡ root_byte_count b) × (EndsWithRoot b len root
    × ((b' : FileRoot) × (k' ≡ kind.Root b') × IsNew b'))))
    ⊎ ((status ≡ 4) × ((root_byte_count b ≡ 0) × (k' ≡ kind.Root b)))
Finished len root k status k' = IsWrongKind k status k'
