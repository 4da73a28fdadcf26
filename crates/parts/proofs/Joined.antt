-- The verdict on one file, from what the parts say of it.
use Rattle.std.proofs.Common.{◌≡◌, ◌⊎◌, inl, inr, ℕ, zero, suc, ◌+◌, ◌<◌, ◌≤◌, List, length, slice_get, Option, Some}
use Rattle.std.proofs.Common.{refl, ap, sym, ◌∙◌, subst, arith}
use Rattle.std.proofs.lemmas.Option.{same_Some}
use Rattle.std.proofs.lemmas.List.{nil_from_length}
use Rattle.std.proofs.lemmas.Bool.{cases_lt}
use Rattle.chains.proofs.Cases.{same_or_not}
use Rattle.hashtree.specs.Tree.{Fits, block_count, filled, height, layer_of, root_of}
use Rattle.opening.specs.Description.{Description, FileEntry, TreeEntry}
use Rattle.pieces.specs.Pieces.{pieces_of}
use Rattle.pieces.proofs.Cutting.{some_pieces, cut_count_none}
use Rattle.opening.specs.Sound.{IsSound, piece_layer}
use Rattle.folders.specs.Folder.{IsGoodFile, tree_entry_of}
use Rattle.folders.specs.Verdicts.{IsBad, IsFirstBadPiece, IsListedNode, IsVerdict}
use Rattle.folders.specs.declared.report.FileVerdict.{FileVerdict}
use Rattle.folders.specs.declared.report.FileVerdict.TheVariants as file
use Rattle.folders.proofs.Places.{pieces_are_positive}
use Rattle.folders.proofs.Reports.{has_tree, sound_tree}
use Rattle.parts.specs.Collisions.{RowsCollide}
use Rattle.parts.specs.Joins.{IsWorst, NoWorse}
use Rattle.parts.specs.declared.places.Places.{Places}
use Rattle.parts.specs.Parts.{Holds, IsBadIn, IsGoodIn, IsPartVerdict, IsPieceGood, last_place, piece_count}
use Rattle.parts.proofs.Files.{all_listed, at_most_bad, none_better, one_piece, other_collides, tree_of_file}

-- this content fits the file's tree, and collides with the piece layer
pub record ContentCollides (t : Description) (f : FileEntry) (content : Option (List ℕ)) : Type 0 where
  pub bytes : List ℕ
  pub tree : TreeEntry
  pub content_is : content ≡ Some bytes
  pub tree_is : tree_entry_of t f ≡ Some tree
  pub fits : Fits bytes tree.length tree.root
  pub rows : RowsCollide
      (filled (height (block_count tree.length)) (piece_layer t.piece_length) (layer_of bytes (piece_layer t.piece_length)))
      (filled (height (block_count tree.length)) (piece_layer t.piece_length) tree.layer)

-- a good piece, of the file's own tree
piece_tree : (t : Description) (f : FileEntry) (e : TreeEntry) (bytes : List ℕ) (k : ℕ) → tree_entry_of t f ≡ Some e → (good : IsPieceGood t f bytes k)
    → good.tree ≡ e
piece_tree t f e bytes k is good = same_Some good.tree e (sym good.tree_is ∙ is)

pub good_root : (t : Description) (f : FileEntry) (e : TreeEntry) (bytes : List ℕ) (k : ℕ) → tree_entry_of t f ≡ Some e → IsPieceGood t f bytes k
    → e.length ≤ t.piece_length
    → root_of bytes ≡ e.root
good_root t f e bytes k is good short =
    let same = piece_tree t f e bytes k is good in
    good.only (subst (λ (d : TreeEntry). d.length ≤ t.piece_length) (sym same) short) ∙ ap (λ (d : TreeEntry). d.root) same

pub good_node : (t : Description) (f : FileEntry) (e : TreeEntry) (bytes : List ℕ) (k : ℕ) → tree_entry_of t f ≡ Some e → IsPieceGood t f bytes k
    → t.piece_length < e.length
    → IsListedNode t.piece_length e bytes k
good_node t f e bytes k is good long =
    let same = piece_tree t f e bytes k is good in
    subst (λ (d : TreeEntry). IsListedNode t.piece_length d bytes k) same (good.listed (subst (λ (d : TreeEntry). t.piece_length < d.length) (sym same) long))

-- all pieces are good: the root is the tree's
pub root_from_pieces : (t : Description) (n : ℕ) (f : FileEntry) (e : TreeEntry) (bytes : List ℕ) → IsSound t → slice_get t.files n ≡ Some f
    → tree_entry_of t f ≡ Some e
    → length bytes ≡ f.length → ((k : ℕ) → k < piece_count t f → IsPieceGood t f bytes k) → root_of bytes ≡ e.root
root_from_pieces t n f e bytes sound there is len each =
    let tree = has_tree t n f e sound there is in
    let sound_e = sound_tree t f e sound is in
    elim (cases_lt t.piece_length e.length) [
      | inr short ↦ good_root t f e bytes 0 is (each 0 (some_pieces t.piece_length f.length (pieces_are_positive t sound) tree.1)) short
      | inl long ↦ all_listed t.piece_length e bytes sound.legal sound_e (len ∙ sym tree.0) long
          (λ k lt. good_node t f e bytes k is (each k (subst (λ c. k < c) (sound_e.layer_length long ∙ ap (pieces_of t.piece_length) tree.0) lt)) long)
    ]

-- where it is the tree's, a piece that is not good collides
bad_collides : (t : Description) (n : ℕ) (f : FileEntry) (e : TreeEntry) (bytes : List ℕ) (k : ℕ) → IsSound t → slice_get t.files n ≡ Some f
    → tree_entry_of t f ≡ Some e
    → length bytes ≡ f.length → root_of bytes ≡ e.root → k < piece_count t f → (IsPieceGood t f bytes k → ⊥)
    → RowsCollide (filled (height (block_count e.length)) (piece_layer t.piece_length) (layer_of bytes (piece_layer t.piece_length)))
    (filled (height (block_count e.length)) (piece_layer t.piece_length) e.layer)
bad_collides t n f e bytes k sound there is len root inside differs =
    let tree = has_tree t n f e sound there is in
    let sound_e = sound_tree t f e sound is in
    elim (cases_lt t.piece_length e.length) [
      | inr short ↦ absurd (differs (record { tree = e; tree_is = is; only = λ _. root; listed = λ long. absurd (omega (arith, short, long)) }))
      | inl long ↦ other_collides t.piece_length e bytes k sound.legal sound_e (record { same_length = len ∙ sym tree.0; same_root = root }) long
          (subst (λ c. k < c) (sym (sound_e.layer_length long ∙ ap (pieces_of t.piece_length) tree.0)) inside)
          (λ listed. differs (record { tree = e; tree_is = is; only = λ short. absurd (omega (arith, short, long)); listed = λ _. listed }))
    ]

-- the first piece that is not good, if the root is another
pub first_bad_piece : (t : Description) (n : ℕ) (f : FileEntry) (e : TreeEntry) (bytes : List ℕ) (k : ℕ) → IsSound t → slice_get t.files n ≡ Some f
    → tree_entry_of t f ≡ Some e
    → k < piece_count t f → ((j : ℕ) → j < k → IsPieceGood t f bytes j) → (IsPieceGood t f bytes k → ⊥) → IsFirstBadPiece t.piece_length e bytes k
first_bad_piece t n f e bytes k sound there is inside before differs =
    let tree = has_tree t n f e sound there is in
    let sound_e = sound_tree t f e sound is in
    record {
      only = λ short. omega (arith, inside, one_piece t.piece_length f.length (pieces_are_positive t sound) (subst (λ l. l ≤ t.piece_length) tree.0 short));
      same_before = λ long j lt. good_node t f e bytes j is (before j lt) long;
      within = λ long. subst (λ c. k < c) (sym (sound_e.layer_length long ∙ ap (pieces_of t.piece_length) tree.0)) inside;
      differs = λ long listed. differs (record { tree = e; tree_is = is; only = λ short. absurd (omega (arith, short, long)); listed = λ _. listed });
    }

module _ {A : Type 0} (places : A → Places) (says : A → FileVerdict) (parts : List A) (t : Description) (n : ℕ) (f : FileEntry) (content : Option (List ℕ))
    (sound : IsSound t)
    (there : slice_get t.files n ≡ Some f)
    (each : (i : ℕ) (p : A) → slice_get parts i ≡ Some p → IsPartVerdict t (places p) f content (says p))
    (cover : (x : ℕ) → f.first_piece ≤ x → x ≤ last_place t f → (i : ℕ) × (p : A) × (slice_get parts i ≡ Some p) × Holds (places p) x) where
  abbrev Said : FileVerdict → Type 0
  Said w = (i : ℕ) (p : A) → slice_get parts i ≡ Some p → NoWorse (says p) w

  -- what a part that has this place of the file and calls it good knows
  good_at : (x : ℕ) (p : A) → f.first_piece ≤ x → x ≤ last_place t f → Holds (places p) x → IsPartVerdict t (places p) f content file.Good
      → (bytes : List ℕ) × (content ≡ Some bytes) × IsGoodIn t (places p) f bytes
  good_at x p from to held is = is (x, from, to, held)

  -- the parts find the file whole: it is as long as stated
  length_found : (w : FileVerdict) → Said w → ((w ≡ file.Good) ⊎ ((p : ℕ) × (w ≡ file.Bad p))) → (bytes : List ℕ) × (content ≡ Some bytes)
      × (length bytes ≡ f.length)
  length_found w said whole =
      let at = cover (last_place t f) (omega arith) (omega arith) in
      by_verdict at.0 at.1 at.2 at.3 (by_worst (says at.1) (said at.0 at.1 at.2) whole)
    where
      by_worst : (v : FileVerdict) → NoWorse v w → ((w ≡ file.Good) ⊎ ((p : ℕ) × (w ≡ file.Bad p))) → (v ≡ file.Good) ⊎ ((q : ℕ) × (v ≡ file.Bad q))
      by_worst v h (inl good) = inl (none_better v (subst (NoWorse v) good h))
      by_worst v h (inr bad) = elim (at_most_bad v bad.0 (subst (NoWorse v) bad.1 h)) [ inl good ↦ inl good | inr other ↦ inr (other.0, other.1) ]

      by_verdict : (i : ℕ) (p : A) → slice_get parts i ≡ Some p → Holds (places p) (last_place t f) → (says p ≡ file.Good) ⊎ ((q : ℕ) × (says p ≡ file.Bad q))
          → (bytes : List ℕ) × (content ≡ Some bytes) × (length bytes ≡ f.length)
      by_verdict i p at held (inl good) =
          let found = good_at (last_place t f) p (omega arith) (omega arith) held (subst (IsPartVerdict t (places p) f content) good (each i p at)) in
          (found.0, found.1, found.2.end held)
      by_verdict i p at held (inr bad) =
          let found = subst (IsPartVerdict t (places p) f content) bad.1 (each i p at) in
          (found.0, found.1, found.2.end held)

  -- a piece before the worst one is good
  piece_found : (bytes : List ℕ) → content ≡ Some bytes → (k : ℕ) → k < piece_count t f → (i : ℕ) (p : A) → slice_get parts i ≡ Some p
      → Holds (places p) (f.first_piece + k)
      → (says p ≡ file.Good) ⊎ ((q : ℕ) × (says p ≡ file.Bad q) × (f.first_piece + k < q)) → IsPieceGood t f bytes k
  piece_found bytes is k inside i p at held (inl good) =
      let found = good_at (f.first_piece + k) p (omega arith) (omega (arith, inside)) held (subst (IsPartVerdict t (places p) f content) good (each i p at)) in
      subst (λ b. IsPieceGood t f b k) (same_Some found.0 bytes (sym found.1 ∙ is)) (found.2.pieces k inside held)
  piece_found bytes is k inside i p at held (inr bad) =
      let found = subst (IsPartVerdict t (places p) f content) bad.1 (each i p at) in
      subst (λ b. IsPieceGood t f b k) (same_Some found.0 bytes (sym found.1 ∙ is)) (found.2.same_before k (omega (arith, bad.2, found.2.place_is)) held)

  pieces_found : (w : FileVerdict) → Said w → (bytes : List ℕ) → content ≡ Some bytes → w ≡ file.Good → (k : ℕ) → k < piece_count t f → IsPieceGood t f bytes k
  pieces_found w said bytes is good k inside =
      let at = cover (f.first_piece + k) (omega arith) (omega (arith, inside)) in
      piece_found bytes is k inside at.0 at.1 at.2 at.3 (inl (none_better (says at.1) (subst (NoWorse (says at.1)) good (said at.0 at.1 at.2))))

  pieces_before : (q : ℕ) → Said (file.Bad q) → (bytes : List ℕ) → content ≡ Some bytes → (k : ℕ) → k < piece_count t f → f.first_piece + k < q
      → IsPieceGood t f bytes k
  pieces_before q said bytes is k inside lt =
      let at = cover (f.first_piece + k) (omega arith) (omega (arith, inside)) in
      piece_found bytes is k inside at.0 at.1 at.2 at.3 (by_said (says at.1) (said at.0 at.1 at.2))
    where
      by_said : (v : FileVerdict) → NoWorse v (file.Bad q) → (v ≡ file.Good) ⊎ ((r : ℕ) × (v ≡ file.Bad r) × (f.first_piece + k < r))
      by_said v h = elim (at_most_bad v q h) [ inl good ↦ inl good | inr other ↦ inr (other.0, other.1, omega (arith, other.2, lt)) ]

  pub good_joined : Said file.Good → (bytes : List ℕ) × (content ≡ Some bytes) × IsGoodFile t f bytes
  good_joined said =
      let found = length_found file.Good said (inl refl) in (
        found.0,
        found.1,
        record {
          empty = λ none. nil_from_length found.0 (found.2 ∙ none);
          fits = λ some.
              let e = tree_of_file t n f sound there some in (
                e.0,
                e.1,
                record {
                  same_length = found.2 ∙ sym (has_tree t n f e.0 sound there e.1).0;
                  same_root = root_from_pieces t n f e.0 found.0 sound there e.1 found.2 (pieces_found file.Good said found.0 found.1 refl);
                },
              );
        },
      )

  bad_joined : (q : ℕ) → Said (file.Bad q) → (r : Places) → (bytes : List ℕ) → content ≡ Some bytes → IsBadIn t r f bytes q
      → ((bytes : List ℕ) × (content ≡ Some bytes) × IsBad t f bytes q) ⊎ ContentCollides t f content
  bad_joined q said r bytes is bad =
      let found = length_found (file.Bad q) said (inr (q, refl)) in
      let len : length bytes ≡ f.length = ap length (same_Some bytes found.0 (sym is ∙ found.1)) ∙ found.2 in
      let e = tree_of_file t n f sound there (some_length f.length bad.inside) in
      elim (same_or_not (root_of bytes) e.0.root) [
        | inl same ↦ inr (record {
          bytes = bytes;
          tree = e.0;
          content_is = is;
          tree_is = e.1;
          fits = record { same_length = len ∙ sym (has_tree t n f e.0 sound there e.1).0; same_root = same };
          rows = bad_collides t n f e.0 bytes bad.place sound there e.1 len same bad.inside bad.differs;
        })
        | inr other ↦ inl (
          bytes,
          is,
          record {
            tree = e.0;
            tree_is = e.1;
            length_is = len;
            root_differs = other;
            place = bad.place;
            place_is = bad.place_is;
            first = first_bad_piece t n f e.0 bytes bad.place sound there e.1 bad.inside
                (λ j lt. pieces_before q said bytes is j (omega (arith, lt, bad.inside)) (omega (arith, lt, bad.place_is))) bad.differs;
          },
        )
      ]
    where
      no_piece : (pl k : ℕ) → 0 < pl → k < pieces_of pl 0 → ⊥
      no_piece pl k some lt = omega (arith, lt, cut_count_none pl some)

      some_length : (len : ℕ) → bad.place < pieces_of t.piece_length len → 0 < len
      some_length zero lt = absurd (no_piece t.piece_length bad.place (pieces_are_positive t sound) lt)
      some_length (suc len) lt = omega arith

  -- the worst of what the parts say is true of the content, or that collides
  pub joined : (w : FileVerdict) → IsWorst NoWorse file.Good says parts w → IsVerdict t f content w ⊎ ContentCollides t f content
  joined file.Good worst = inl (good_joined worst.no_worse)
  joined file.Unreadable worst = inl tt
  joined file.Missing worst = elim worst.one [
    | inl good ↦ let no : ⊥ = cc in absurd no
    | inr one ↦ inl (subst (IsPartVerdict t (places one.1) f content) one.3 (each one.0 one.1 one.2))
  ]
  joined file.WrongLength worst = elim worst.one [
    | inl good ↦ let no : ⊥ = cc in absurd no
    | inr one ↦ inl (subst (IsPartVerdict t (places one.1) f content) one.3 (each one.0 one.1 one.2))
  ]
  joined (file.Bad q) worst = elim worst.one [
    | inl good ↦ let no : ⊥ = cc in absurd no
    | inr one ↦
        let found = subst (IsPartVerdict t (places one.1) f content) one.3 (each one.0 one.1 one.2) in
        bad_joined q worst.no_worse (places one.1) found.0 found.1 found.2
  ]
