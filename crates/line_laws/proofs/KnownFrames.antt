-- Lines of frames, and of the root of a file, are known by their texts.
use Rattle.std.proofs.Common.{◌≡◌, ◌∷◌, ◌++◌, ◌∙◌, ◌<◌, ◌^◌, ◌==◌, [], List, ℕ, true, length, drop, decimal, codes, Option, Some, None, if◌then◌else◌, ap, refl}
use Rattle.hex.specs.Hex.{encode_lower, encode_with}
use Rattle.lines.specs.Table.{root_row, file_row, refused_row, block_items}
use Rattle.lines.specs.Texts.{items_text}
use Rattle.line_laws.specs.Said.{AreCapitals, IsWord, AreSaid}
use Rattle.line_laws.proofs.Cuts.{front, onward}
use Rattle.line_laws.proofs.Fields.{is_gap, behind, text_last, word_front, word_onward, code_onward}
use Rattle.line_laws.proofs.Shapes.{numbered, numbered_shape, root_shape, refused_shape, frames, found}
use Rattle.line_laws.proofs.Known.{KnownIfSaid}

-- ---- refused messages

refused_at : (letter : List ℕ) (why : ℕ) (called : List ℕ) (c : ℕ) (rest : List ℕ)
    → AreCapitals letter → why < 2 ^ 64 → IsWord called → is_gap c ≡ true
    → onward is_gap (behind is_gap ((letter ++ decimal why) ++ 32 ∷ (called ++ c ∷ rest))) ≡ c ∷ rest
refused_at letter why called c rest h small w at =
    ap (λ t. onward is_gap (drop 1 t)) (code_onward letter why 32 (called ++ c ∷ rest) h small refl) ∙ word_onward called c rest w at

numbered_refused : (t : List ℕ) → numbered (codes "refused " ++ t) ≡ refused_shape (onward is_gap (behind is_gap t))
unfolding front
numbered_refused t = refl

pub refused_known : (n : ℕ) (letter : List ℕ) (why : ℕ) (called : List ℕ) → KnownIfSaid (refused_row n letter why called [])
unfolding items_text text_last AreSaid
refused_known n letter why called h =
    let t = (letter ++ decimal why) ++ 32 ∷ (called ++ 10 ∷ []) in record {
      shape =
          numbered_shape n (codes "refused " ++ t) h.0 ∙ numbered_refused t
          ∙ ap refused_shape (refused_at letter why called 10 [] h.1.1.0.0 h.1.1.0.1 (h.1.1.1.0.1 refl) refl);
      last = refl;
    }

pub refused_at_known : (n : ℕ) (letter : List ℕ) (why : ℕ) (called : List ℕ) (file block : ℕ)
    → KnownIfSaid (refused_row n letter why called (block_items file block))
unfolding items_text text_last AreSaid
refused_at_known n letter why called file block h =
    let rest = items_text (block_items file block) in
    let t = (letter ++ decimal why) ++ 32 ∷ (called ++ 32 ∷ rest) in record {
      shape =
          numbered_shape n (codes "refused " ++ t) h.0 ∙ numbered_refused t
          ∙ ap refused_shape (refused_at letter why called 32 rest h.1.1.0.0 h.1.1.0.1 (h.1.1.1.0.1 refl) refl);
      last = refl;
    }

-- ---- roots

root_numbered : (t : List ℕ) (c : ℕ) (rest : List ℕ) → IsWord t → length t ≡ 64 → is_gap c ≡ true
    → numbered (t ++ c ∷ rest) ≡ root_shape (c ∷ rest)
root_numbered t c rest w len at =
    ap (λ b. if b then root_shape (onward is_gap (t ++ c ∷ rest)) else found frames (t ++ c ∷ rest))
    (ap (λ u. length u == 64) (word_front t c rest w at) ∙ ap (λ n. n == 64) len)
    ∙ ap root_shape (word_onward t c rest w at)

pub root_known : (len : ℕ) (root : Option (List ℕ)) → KnownIfSaid (root_row len root)
unfolding items_text text_last AreSaid front onward encode_with
root_known len None h = record { shape = numbered_shape len _ h.0; last = refl }
root_known len (Some root) h = record {
  shape = numbered_shape len _ h.0 ∙ root_numbered (encode_lower root) 10 [] (h.1.0.1 refl) (h.1.0.2 refl) refl;
  last = refl;
}

pub file_known : (len : ℕ) (root : Option (List ℕ)) (parts : List (List ℕ)) → KnownIfSaid (file_row len root parts)
unfolding items_text text_last AreSaid front onward encode_with
file_known len None parts h = record { shape = numbered_shape len _ h.0; last = refl }
file_known len (Some root) parts h = record {
  shape = numbered_shape len _ h.0 ∙ root_numbered (encode_lower root) 32 _ (h.1.0.1 refl) (h.1.0.2 refl) refl;
  last = refl;
}
