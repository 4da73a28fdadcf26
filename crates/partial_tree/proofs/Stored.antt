-- What is left of a map where all claims are put, one after the other.
use Rattle.std.proofs.Common.{◌≡◌, ◌⊎◌, ℕ, ◌+◌, ◌-◌, ◌^◌, ◌<◌, ◌≤◌, min, List, [], ◌∷◌, length, Some, None, inl, inr, refl, sym, ap, ◌∙◌, subst, arith}
use Rattle.std.specs.Prelude.{⊤}
use Rattle.std.specs.FinMap.{len}
use Rattle.std.proofs.lemmas.Option.{same_Some}
use Rattle.chains.proofs.Cases.{some_or_none}
use Rattle.node_maps.specs.Digest.{Hash}
use Rattle.node_maps.specs.Known.{look}
use Rattle.node_maps.specs.Nodes.{KeepsMarks, Nodes}
use Rattle.node_maps.specs.Places.{PartialTree}
use Rattle.node_maps.specs.Room.{KeepsRoom, Room}
use Rattle.node_maps.proofs.Nodes.{stays-both}
use Rattle.partial_tree.specs.declared.message.found.Claim.{Claim}
use Rattle.partial_tree.specs.Claims.{IsAgreed}
use Rattle.partial_tree.specs.Evidence.{HasClaim}
use Rattle.partial_tree.specs.Joins.{insert_new}
use Rattle.partial_tree.specs.Stores.{PutsOne, Stores}
use Rattle.partial_tree.specs.Visits.{Visits, VisitsInTurn}
use Rattle.partial_tree.proofs.Noting.{insert_new-joined}

module _ {M V : Type 0} (seen : M → Nodes) (held : M → ℕ) (has_room : M → Room) (map : V → M) (count : V → ℕ) (Visit : V → Claim → V → Type 0)
    (puts : (v : V) (c : Claim) (w : V) → Visit v c w → PutsOne seen held has_room c (map v) (count v) (map w) (count w)) where
  record PutsEach (cs : List Claim) (v w : V) : Type 0 where
    stays : KeepsMarks (seen (map v)) (seen (map w))
    held_is : held (map w) ≡ held (map v)
    keeps : KeepsRoom (has_room (map v)) (has_room (map w))
    known : (seen (map w)).known ≡ insert_new (seen (map v)).known cs
    gained : ℕ
    few : gained ≤ length cs
    more : len (seen (map w)).known ≡ len (seen (map v)).known + gained
    counted : count v + gained < 2 ^ 64 → count w ≡ count v + gained

  puts-each : (v : V) (cs : List Claim) (w : V) → VisitsInTurn Visit v cs w → PutsEach cs v w
  puts-each v [] w e =
      let nodes : seen (map w) ≡ seen (map v) = ap (λ x. seen (map x)) e in
      record {
        stays = record { length = ap (λ (n : Nodes). n.length) nodes; marked = ap (λ (n : Nodes). n.marked) nodes };
        held_is = ap (λ x. held (map x)) e;
        keeps = λ l i has. subst (λ x. has_room (map x) l i) (sym e) has;
        known = ap (λ (n : Nodes). n.known) nodes;
        gained = 0;
        few = omega arith;
        more = ap (λ (n : Nodes). len n.known) nodes ∙ omega arith;
        counted = λ fits. ap count e ∙ omega arith;
      }
  puts-each v (c ∷ cs) w (mid, step, run) =
      let one : PutsOne seen held has_room c (map v) (count v) (map mid) (count mid) = puts v c mid step in
      let rest : PutsEach cs mid w = puts-each mid cs w run in
      record {
        stays = stays-both rest.stays one.stays;
        held_is = rest.held_is ∙ one.held_is;
        keeps = λ l i has. rest.keeps l i (one.keeps l i has);
        known = rest.known ∙ ap (λ m. insert_new m cs) one.known;
        gained = one.gained + rest.gained;
        few = omega (arith, one.one, rest.few);
        more = omega (arith, one.more, rest.more);
        counted = λ fits.
            let here : count mid ≡ count v + one.gained = omega (arith, one.counted, fits) in
            let later : count w ≡ count mid + rest.gained = rest.counted (omega (arith, here, fits)) in
            omega (arith, here, later);
      }

  -- all claims of C are stored
  pub all-stored : (C : PartialTree) (v w : V) → Visits Visit C (λ l i. ⊤) (2 ^ 40) v w → count v ≡ 0
      → Stores seen held has_room C (map v) (map w) (count w)
  all-stored C v w all none =
      let is : PutsEach all.claims v w = puts-each v all.claims w all.run in
      let exact : count w ≡ is.gained = is.counted (omega (arith, none, is.few, all.few)) ∙ ap (λ n. n + is.gained) none ∙ omega arith in
      record {
        stays = is.stays;
        held_is = is.held_is;
        keeps = is.keeps;
        joins = λ agreed. record {
          agreed = agreed;
          joined_is = λ l i. ap (λ k. look k l i) is.known
              ∙ insert_new-joined C all.claims (seen (map v)).known all.sound (λ l i h claim. either agreed l i h claim) l i;
          gained = omega (arith, is.more, exact);
        };
        few = omega (arith, exact, is.few, all.few);
      }
    where
      either : IsAgreed (look (seen (map v)).known) C → (l i : ℕ) (h : Hash) → C l i ≡ Some h
          → (look (seen (map v)).known l i ≡ Some h) ⊎ ((look (seen (map v)).known l i ≡ None) × HasClaim all.claims l i h)
      either agreed l i h claim = elim (some_or_none (look (seen (map v)).known l i)) [
        | inl (u, known) ↦ inl (known ∙ ap Some (agreed l i u h known claim))
        | inr none ↦ inr (none, all.complete l i h tt claim)
      ]
