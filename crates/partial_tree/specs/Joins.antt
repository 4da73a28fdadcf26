-- Claims joined to what is known of a tree.
use Rattle.std.specs.Prelude.{◌≡◌, ℕ, ◌+◌, List, [], ◌∷◌, Option, Some, None}
use Rattle.std.specs.FinMap.{insert, len}
use Rattle.node_maps.specs.Digest.{Hash}
use Rattle.node_maps.specs.Places.{PartialTree}
use Rattle.node_maps.specs.Known.{Known, look}
use Rattle.partial_tree.specs.declared.message.found.Claim.{Claim}
use Rattle.wire.specs.declared.message.Ask.{Ask}
use Rattle.partial_tree.specs.Claims.{claims, joined, IsAgreed, IsAccepted}
use Rattle.partial_tree.specs.Fill.{fill_claims, IsFillAccepted}

-- with this hash at a place, if it has none
abbrev pub insert_absent : Known → ℕ × ℕ → Hash → Option Hash → Known
insert_absent m place h None = insert m place h
insert_absent m place h (Some old) = m

-- with a claim, if its place is not known
abbrev pub with_new : Known → Claim → Known
with_new m c = insert_absent m (c.layer, c.index) c.hash (look m c.layer c.index)

-- with claims, one after the other
abbrev pub insert_new : Known → List Claim → Known
insert_new m [] = m
insert_new m (c ∷ cs) = insert_new (with_new m c) cs

-- C joined to what was known, with c more places
pub record Joins (C : PartialTree) (before after : Known) (c : ℕ) : Type 0 where
  pub agreed : IsAgreed (look before) C
  pub joined_is : (l i : ℕ) → look after l i ≡ joined (look before) C l i
  pub gained : len after ≡ len before + c

-- a message is accepted for a tree of files of this length, and what it claims is joined to what
-- was known
abbrev pub TakesHashes : ℕ → Ask → List Hash → Known → ℕ → Known → Type 0
TakesHashes len ask hashes before c after = IsAccepted len (look before) ask hashes
    × Joins (claims ask hashes) before after c

-- a whole layer is accepted for a tree of files of this length, and what follows is joined to what
-- was known
abbrev pub TakesLayer : ℕ → ℕ → List Hash → Known → ℕ → Known → Type 0
TakesLayer len l hashes before c after = IsFillAccepted len (look before) l hashes
    × Joins (fill_claims len l hashes) before after c
