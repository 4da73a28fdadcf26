-- What is made of a map in which claims are stored.
use Rattle.std.specs.Prelude.{◌≡◌, ℕ, ◌+◌, ◌-◌, ◌^◌, ◌<◌, ◌≤◌, min}
use Rattle.std.specs.FinMap.{len}
use Rattle.node_maps.specs.Known.{look}
use Rattle.node_maps.specs.Nodes.{Nodes, KeepsMarks}
use Rattle.node_maps.specs.Places.{PartialTree}
use Rattle.node_maps.specs.Room.{Room, KeepsRoom}
use Rattle.partial_tree.specs.declared.message.found.Claim.{Claim}
use Rattle.partial_tree.specs.Claims.{IsAgreed}
use Rattle.partial_tree.specs.Joins.{Joins, with_new}

-- a claim is put, if its place is not known, and the count of new places grows with it
pub record PutsOne {M : Type 0} (seen : M → Nodes) (held : M → ℕ) (has_room : M → Room)
    (c : Claim) (before : M) (count : ℕ) (after : M) (count' : ℕ) : Type 0 where
  pub stays : KeepsMarks (seen before) (seen after)
  pub held_is : held after ≡ held before
  pub keeps : KeepsRoom (has_room before) (has_room after)
  pub known : (seen after).known ≡ with_new (seen before).known c
  pub gained : ℕ
  pub one : gained ≤ 1
  pub more : len (seen after).known ≡ len (seen before).known + gained
  pub counted : count' ≡ min (count + gained) (2 ^ 64 - 1)

-- the claims C are joined to what is known if they agree with it, with c more places, few enough
-- to be counted; marks, pages and room stay
pub record Stores {M : Type 0} (seen : M → Nodes) (held : M → ℕ) (has_room : M → Room)
    (C : PartialTree) (before after : M) (c : ℕ) : Type 0 where
  pub stays : KeepsMarks (seen before) (seen after)
  pub held_is : held after ≡ held before
  pub keeps : KeepsRoom (has_room before) (has_room after)
  pub joins : IsAgreed (look (seen before).known) C
      → Joins C (seen before).known (seen after).known c
  pub few : c < 2 ^ 63
