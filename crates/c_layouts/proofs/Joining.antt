-- A path's text, component by component.
use Rattle.std.proofs.Common.{◌≡◌, ℕ, ◌+◌, ◌-◌, ◌^◌, ◌<◌, ◌≤◌, List, [], ◌∷◌, ◌++◌, Bor, drop, take, get_or, length}
use Rattle.std.proofs.Common.{min, refl, sym, ap, ap₂, ◌∙◌, subst, arith, append_assoc, length-append}
use Rattle.std.specs.List.{flat_map}
use Rattle.std.proofs.lemmas.List.{append-nil, drop-drop, drop_more, length-drop}
use Rattle.std.proofs.Math.Seq.{drop-append-add, take-append_seam}
use Rattle.filetree.specs.FileTree.{slash}
use Rattle.filetree.proofs.Texts.{texts}
use Rattle.c_layouts.specs.Paths.{joined_path_text}

-- the components after the first one
abbrev pub tail_text : List (List ℕ) → List ℕ
tail_text parts = flat_map (λ part. slash ∷ part) parts

-- a path is its first component and those after it
pub path_text-cons : (first : List ℕ) (others : List (List ℕ)) → joined_path_text (first ∷ others) ≡ first ++ tail_text others
path_text-cons first [] = sym (append-nil first)
path_text-cons first (next ∷ others) = ap (λ t. first ++ (slash ∷ t)) (path_text-cons next others)

pub from_first : (path : List (Bor (List ℕ))) (first : Bor (List ℕ)) (others : List (Bor (List ℕ))) → path ≡ first ∷ others
    → joined_path_text (texts path) ≡ first.now ++ tail_text (texts others)
from_first path first others is = ap (λ ps. joined_path_text (texts ps)) is ∙ path_text-cons first.now (texts others)

-- the component at an index
abbrev pub part_at : List (Bor (List ℕ)) → ℕ → Bor (List ℕ)
part_at parts i = get_or parts i (record { ref_ptr = (0, 0); now = [] })

-- it, and those after it
pub part_next : (parts : List (Bor (List ℕ))) (i : ℕ) → i < length parts
    → tail_text (texts (drop i parts)) ≡ (slash ∷ []) ++ ((part_at parts i).now ++ tail_text (texts (drop (i + 1) parts)))
part_next parts i lt = ap (λ ps. tail_text (texts ps)) (drop_more parts i (record { ref_ptr = (0, 0); now = [] }) lt)

-- ---- counting

-- this many bytes of a text were counted, all but what is left
pub record IsCounted (text : List ℕ) (count : ℕ) (left : List ℕ) : Type 0 where
  pub done : List ℕ
  pub whole : text ≡ done ++ left
  pub count_is : count ≡ min (length done) (2 ^ 64 - 1)

pub counted_next : (text left part rest : List ℕ) (count next : ℕ) → IsCounted text count left → left ≡ part ++ rest
    → next ≡ min (count + length part) (2 ^ 64 - 1) → IsCounted text next rest
counted_next text left part rest count next so_far is more = record {
  done = so_far.done ++ part;
  whole = so_far.whole ∙ ap (λ t. so_far.done ++ t) is ∙ sym (append_assoc so_far.done part rest);
  count_is = omega (arith, more, so_far.count_is, length-append so_far.done part);
}

pub counted_all : (text : List ℕ) (count : ℕ) (left : List ℕ) → IsCounted text count left → left ≡ [] → count ≡ min (length text) (2 ^ 64 - 1)
counted_all text count left so_far none =
    so_far.count_is ∙ ap (λ t. min (length t) (2 ^ 64 - 1)) (sym (so_far.whole ∙ ap (λ t. so_far.done ++ t) none ∙ append-nil so_far.done))

-- ---- writing

-- all of a text but what is left stands at the front of a room, whose other bytes are as before
pub record IsWritten (text room room' : List ℕ) (end : ℕ) (left : List ℕ) : Type 0 where
  pub done : List ℕ
  pub whole : text ≡ done ++ left
  pub end_is : end ≡ length done
  pub room_is : room' ≡ done ++ drop (length done) room

pub written_next : (text room room' new left part rest : List ℕ) (end next : ℕ) → IsWritten text room room' end left → left ≡ part ++ rest
    → next ≡ end + length part → new ≡ take end room' ++ (part ++ drop next room') → IsWritten text room new next rest
written_next text room room' new left part rest end next so_far is next_is new_is =
    let done = so_far.done in
    let front : take end room' ≡ done =
    ap₂ take so_far.end_is so_far.room_is ∙ take-append_seam done (drop (length done) room) in
    let back : drop next room' ≡ drop (length (done ++ part)) room =
    ap₂ drop (next_is ∙ ap (λ n. n + length part) so_far.end_is) so_far.room_is
    ∙ drop-append-add done (drop (length done) room) (length part)
    ∙ drop-drop (length part) (length done) room ∙ ap (λ n. drop n room) (sym (length-append done part)) in record {
      done = done ++ part;
      whole = so_far.whole ∙ ap (λ t. done ++ t) is ∙ sym (append_assoc done part rest);
      end_is = omega (arith, next_is, so_far.end_is, length-append done part);
      room_is = new_is ∙ ap₂ (λ x y. x ++ (part ++ y)) front back ∙ sym (append_assoc done part (drop (length (done ++ part)) room));
    }

pub written_all : (text room room' : List ℕ) (end : ℕ) (left : List ℕ) → IsWritten text room room' end left → left ≡ []
    → room' ≡ text ++ drop (length text) room
written_all text room room' end left so_far none =
    let is : text ≡ so_far.done = so_far.whole ∙ ap (λ t. so_far.done ++ t) none ∙ append-nil so_far.done in
    subst (λ t. room' ≡ t ++ drop (length t) room) (sym is) so_far.room_is

pub written_none : (text room : List ℕ) → IsWritten text room room 0 text
written_none text room = record { done = []; whole = refl; end_is = refl; room_is = refl }

-- what is left has room
pub left_fits : (text room room' left : List ℕ) (end : ℕ) → IsWritten text room room' end left → length text ≤ length room → end + length left ≤ length room'
left_fits text room room' left end so_far fits =
    omega (
      arith,
      fits,
      so_far.end_is,
      ap length so_far.whole,
      length-append so_far.done left,
      ap length so_far.room_is,
      length-append so_far.done (drop (length so_far.done) room),
      length-drop (length so_far.done) room,
    )
