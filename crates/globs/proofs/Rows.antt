-- The row of marks, part by part.
use Rattle.std.proofs.Common.{◌≡◌, ℕ, zero, suc, ◌<◌, ◌≤◌, Bool, false, List, [], ◌∷◌, length, get_or, drop, refl, sym, ap, ◌∙◌, arith, drop-cons}
use Rattle.std.proofs.Common.{map, inl, inr, set, get_or-set_other}
use Rattle.std.proofs.lemmas.Bool.{cases_eq}
use Rattle.std.proofs.lemmas.Grind.{get_or-set_at}
use Rattle.std.proofs.lemmas.List.{get_or-map}
use Rattle.globs.specs.declared.kinds.GlobPart.{GlobPart}
use Rattle.globs.specs.Globs.{Kind, folders, kind_of, letter, run}
use Rattle.globs.specs.Matching.{found, mark, mark_at_end, mark_before, marks_of_parts, with_none}

pub length_row : (alone : Bool) (parts : List Kind) (text : List ℕ) → length (marks_of_parts alone parts text) ≡ length parts
length_row alone [] text = refl
length_row alone (part ∷ parts) text = ap suc (length_row alone parts text)

-- the mark of one part
pub row_at : (alone : Bool) (parts : List Kind) (text : List ℕ) (k : ℕ) (part : Kind) (d : Bool) → k < length parts → part ≡ get_or parts k part
    → get_or (marks_of_parts alone parts text) k d ≡ mark part (found alone (drop (suc k) parts)) text
row_at alone [] text k part d lt e = absurd (omega arith)
row_at alone (p ∷ parts) text zero part d lt e = ap (λ q. mark q (found alone parts) text) (sym e)
row_at alone (p ∷ parts) text (suc k) part d lt e = row_at alone parts text k part d (omega arith) e

-- what the parts from one on answer
pub found_at : (alone : Bool) (parts : List Kind) (text : List ℕ) (k : ℕ) (part : Kind) → k < length parts → part ≡ get_or parts k part
    → found alone (drop k parts) text ≡ with_none part (mark part (found alone (drop (suc k) parts)) text) (found alone (drop (suc k) parts) text)
found_at alone parts text k part lt e =
    ap (λ ps. found alone ps text) (drop-cons parts k part lt)
    ∙ ap (λ p. with_none p (mark p (found alone (drop (suc k) parts)) text) (found alone (drop (suc k) parts) text)) (sym e)

-- the mark of a part at one character more, and at the end
pub mark_more : (part : Kind) (after : List ℕ → Bool) (c : ℕ) (text : List ℕ)
    → mark part after (c ∷ text) ≡ mark_before part c (after (c ∷ text)) (after text) (mark part after text)
mark_more (letter choice) after c text = refl
mark_more (run choice) after c text = refl
mark_more folders after c text = refl

pub mark_last : (part : Kind) (after : List ℕ → Bool) → mark part after [] ≡ mark_at_end part (after [])
mark_last (letter choice) after = refl
mark_last (run choice) after = refl
mark_last folders after = refl

-- a text with a first character
pub first_and_rest : (text : List ℕ) (d : ℕ) → 0 < length text → text ≡ get_or text 0 d ∷ drop 1 text
first_and_rest [] d some = absurd (omega arith)
first_and_rest (c ∷ text) d some = refl

-- two rows that agree everywhere are one
pub same_rows : (xs ys : List Bool) → length xs ≡ length ys → ((i : ℕ) → i < length xs → get_or xs i false ≡ get_or ys i false) → xs ≡ ys
same_rows [] [] len same = refl
same_rows [] (y ∷ ys) len same = absurd (omega arith)
same_rows (x ∷ xs) [] len same = absurd (omega arith)
same_rows (x ∷ xs) (y ∷ ys) len same =
    let head : x ≡ y = same 0 (omega arith) in
    let tail : xs ≡ ys = same_rows xs ys (omega arith) (λ i lt. same (suc i) (omega arith)) in
    cc

-- a row that one more mark is put into
pub put_done : (row after : List Bool) (place : ℕ) (b : Bool) → place < length row → b ≡ get_or after place false
    → ((i : ℕ) → suc place ≤ i → i < length row → get_or row i false ≡ get_or after i false)
    → (i : ℕ) → place ≤ i → i < length row → get_or (set row place b) i false ≡ get_or after i false
put_done row after place b lt e done i le inside =
    elim (cases_eq i place) [
      | inl same ↦ get_or-set_at row place i b false same lt ∙ e ∙ ap (λ j. get_or after j false) (sym same)
      | inr other ↦ get_or-set_other row place i b false other ∙ done i (omega (arith, other)) inside
    ]

pub put_rest : (row before : List Bool) (place : ℕ) (b : Bool) → ((i : ℕ) → i < suc place → get_or row i false ≡ get_or before i false)
    → (i : ℕ) → i < place → get_or (set row place b) i false ≡ get_or before i false
put_rest row before place b rest i lt =
    let other : i ≡ place → ⊥ = λ e. omega (arith, e, lt) in
    get_or-set_other row place i b false other ∙ rest i (omega arith)

-- the kind of a part that was read
pub kind_at : (parts : List GlobPart) (k : ℕ) (part : GlobPart) → k < length parts → part ≡ get_or parts k part
    → kind_of part ≡ get_or (map kind_of parts) k (kind_of part)
kind_at parts k part lt e = ap kind_of e ∙ sym (get_or-map kind_of parts k part (kind_of part) lt)
