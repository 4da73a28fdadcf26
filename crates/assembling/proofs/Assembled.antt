-- A draft to which files were added of which each part says what is true.
use Rattle.std.proofs.Common.{◌≡◌, ℕ, zero, suc, ◌+◌, ◌∷◌, Bool, List, [], length, take, drop, slice_get, Some, refl, sym, ap, ◌∙◌, subst, arith}
use Rattle.std.proofs.lemmas.List.{length-map, take_all}
use Rattle.std.proofs.lemmas.Option.{none-some, same_Some}
use Rattle.chains.proofs.Chains.{Chain-item}
use Rattle.drafts.specs.Outline.{Outline}
use Rattle.gathering.specs.Gathered.{DraftAdds, Gathered}
use Rattle.gathering.specs.Parts.{KnownPaths}
use Rattle.part_texts.specs.Divisions.{capped, hashed, total_of}
use Rattle.part_texts.specs.Listings.{Inventory, Listed}
use Rattle.assembling.specs.Assembly.{AreHeld, listed_draft, paths_of}
use Rattle.assembling.specs.Behind.{AreLong}
use Rattle.assembling.specs.Said.{EachSays}
use Rattle.chains.proofs.Cases.{taken_more}
use Rattle.assembling.proofs.Fronts.{item_to}

-- the first files were gathered, and each part says what is true of those behind them
pub record IsSoFar (under : KnownPaths) (l : Inventory) (contents : List (List ℕ)) (number before : ℕ) (d : Outline) (texts : List (List ℕ)) : Type 0 where
  pub gathered : Gathered (listed_draft l) (take number (paths_of l.files)) (take number contents) d
  pub says : EachSays under l.piece_length l.hybrid (total_of l.files) (length texts) before (drop number l.files) texts

-- the content of the file with this number
pub held_at : (under : KnownPaths) (fs : List Listed) (cs : List (List ℕ)) (i : ℕ) (f : Listed) → AreHeld under fs cs → slice_get fs i ≡ Some f
    → (c : List ℕ) × (slice_get cs i ≡ Some c) × (under f.path ≡ Some (Some c))
held_at under [] cs i f held at = absurd (none-some f at)
held_at under (x ∷ fs) [] i f held at = absurd held
held_at under (x ∷ fs) (c ∷ cs) zero f held at = (c, refl, ap (λ (y : Listed). under y.path) (sym (same_Some x f at)) ∙ held.0)
held_at under (x ∷ fs) (c ∷ cs) (suc i) f held at = held_at under fs cs i f held.1 at

pub held_count : (under : KnownPaths) (fs : List Listed) (cs : List (List ℕ)) → AreHeld under fs cs → length fs ≡ length cs
held_count under [] [] held = refl
held_count under [] (c ∷ cs) held = absurd held
held_count under (f ∷ fs) [] held = absurd held
held_count under (f ∷ fs) (c ∷ cs) held = ap suc (held_count under fs cs held.1)

-- the same, of what is the same
pub says_as : (under : KnownPaths) (p q : ℕ) (h k : Bool) (t u n before : ℕ) (fs gs : List Listed) (texts : List (List ℕ)) → p ≡ q → h ≡ k → t ≡ u → fs ≡ gs
    → EachSays under p h t n before fs texts → EachSays under q k u n before gs texts
says_as under p q h k t u n before fs gs texts pieces kind total files says =
    subst (λ x. EachSays under q k u n before x texts) files
    (subst (λ x. EachSays under q k x n before fs texts) total
    (subst (λ x. EachSays under q x t n before fs texts) kind (subst (λ x. EachSays under x h t n before fs texts) pieces says)))

pub long_as : (p total parts : ℕ) (h k : Bool) (before before' : ℕ) (fs gs : List Listed) (rests : List (List ℕ)) → h ≡ k → before ≡ before' → fs ≡ gs
    → AreLong p h total parts before fs rests → AreLong p k total parts before' gs rests
long_as p total parts h k before before' fs gs rests kind before_is files long =
    subst (λ x. AreLong p k total parts before' x rests) files
    (subst (λ x. AreLong p k total parts x fs rests) before_is (subst (λ x. AreLong p x total parts before fs rests) kind long))

-- one file more
pub one_further : (under : KnownPaths) (l : Inventory) (contents : List (List ℕ)) (number before before' : ℕ) (d e : Outline) (texts texts' : List (List ℕ))
    (f : Listed) (c : List ℕ) → slice_get l.files number ≡ Some f → slice_get contents number ≡ Some c → before' ≡ capped before (hashed f.bytes)
    → DraftAdds d f.path c e
    → EachSays under l.piece_length l.hybrid (total_of l.files) (length texts') (capped before (hashed f.bytes)) (drop (number + 1) l.files) texts'
    → IsSoFar under l contents number before d texts → IsSoFar under l contents (number + 1) before' e texts'
one_further under l contents number before before' d e texts texts' f c at there before_is adds says so_far =
    let paths = paths_of l.files in
    let path : slice_get paths number ≡ Some f.path = item_to (λ (x : Listed). x.path) l.files number f at in
    record {
      gathered = subst (λ cs. Gathered (listed_draft l) (take (number + 1) paths) cs e) (sym (taken_more contents number c there))
          (Chain-item DraftAdds (listed_draft l) d e paths number (take number contents) f.path c path so_far.gathered adds);
      says = subst (λ b. EachSays under l.piece_length l.hybrid (total_of l.files) (length texts') b (drop (number + 1) l.files) texts') (sym before_is) says;
    }

-- all files
pub all_gathered : (under : KnownPaths) (l : Inventory) (contents : List (List ℕ)) (number before : ℕ) (d : Outline) (texts : List (List ℕ))
    → length l.files ≡ number → AreHeld under l.files contents → IsSoFar under l contents number before d texts
    → Gathered (listed_draft l) (paths_of l.files) contents d
all_gathered under l contents number before d texts end held so_far =
    subst (λ cs. Gathered (listed_draft l) (paths_of l.files) cs d)
    (take_all number contents (omega (arith, end, held_count under l.files contents held)))
    (subst (λ ps. Gathered (listed_draft l) ps (take number contents) d)
    (take_all number (paths_of l.files) (omega (arith, end, length-map l.files (λ (x : Listed). x.path)))) so_far.gathered)
