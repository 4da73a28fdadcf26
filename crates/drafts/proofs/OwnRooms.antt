-- Files and layers that have room for what they hold alone.
use Rattle.std.proofs.Common.{◌≡◌, ℕ, List, [], ◌∷◌, take, drop, inl, inr, All}
use Rattle.std.proofs.lemmas.List.Elements.{All-append, All-cons, All-drop, All-take}
use Rattle.std.specs.BTreeMap.{insert_entry}
use Rattle.std.specs.Cmp.Lexicographic.{slice_cmp}
use Rattle.std.specs.List.{insert}
use Rattle.std.specs.Ordering.{nat_cmp}
use Rattle.std.specs.Prelude.{vec_len}
use Rattle.std.specs.Vec.{vec_capacity}
use Rattle.drafts.specs.DraftSeen.{Entries, HaveOwnRooms}
use Rattle.drafts.specs.declared.draft.KeptRoot.{KeptRoot}
use Rattle.drafts.proofs.OneMore.{three}

-- one more among others
pub all_put : {A : Type 0} (P : A → Type 0) (i : ℕ) (x : A) (xs : List A) → P x → All P xs → All P (insert xs i x)
all_put P i x xs here all = All-append P (take i xs) (x ∷ drop i xs) (All-take P i xs all) (All-cons P x (drop i xs) here (All-drop P i xs all))

pub rooms_put : (r : List ℕ) (k : KeptRoot) (es : Entries) → vec_capacity k.layer ≡ vec_len k.layer → HaveOwnRooms es
    → HaveOwnRooms (insert_entry (slice_cmp nat_cmp) es r k)
rooms_put r k [] own all = (own, tt)
rooms_put r k (e ∷ es) own all = elim (three (slice_cmp nat_cmp r e.0)) [
  | inl less ↦ rw less (own, all)
  | inr more ↦ elim more [ inl same ↦ rw same (own, all.1) | inr greater ↦ rw greater (all.0, rooms_put r k es own all.1) ]
]
