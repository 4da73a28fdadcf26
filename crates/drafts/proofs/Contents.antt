-- Where the last file that is not empty stands.
use Rattle.std.proofs.Common.{◌≡◌, ℕ, ◌+◌, ◌<◌, ◌≤◌, Bool, true, false, ◌||◌, ◌&&◌, if◌then◌else◌, List, [], ◌∷◌, ◌++◌, append_assoc, length, zero, suc, map}
use Rattle.std.proofs.Common.{get_or, Some, slice_get, drop, inl, inr, refl, sym, ap, ◌∙◌, arith}
use Rattle.std.proofs.lemmas.Bool.{cases_lt}
use Rattle.std.specs.Prelude.{nat_lt}
use Rattle.drafts.specs.DraftSeen.{outline_file}
use Rattle.drafts.specs.Outline.{OutlineFile}
use Rattle.drafts.specs.declared.draft.DraftFile.{DraftFile}
use Rattle.std.specs.List.{concat}
use Rattle.std.proofs.lemmas.List.{append-nil}
use Rattle.std.proofs.lemmas.List.Folds.{concat-append}
use Rattle.benc.specs.Text.{items_spelling, spelling}
use Rattle.benc.specs.Value.{Items, item, no_items}
use Rattle.drafts.specs.Written.{digests_in, digests_of, entries_value, entry_value, filled_cuts, gap, has_content, pad_value}

-- of the first i files, those from here on are empty, and one before is not
pub record IsContentEnd (fs : List OutlineFile) (i end : ℕ) : Type 0 where
  pub before : (k : ℕ) → k < end → has_content (drop k fs) ≡ true
  pub behind : (k : ℕ) → end ≤ k → k ≤ i → has_content (drop k fs) ≡ has_content (drop i fs)

-- a file that is not empty
pub ends_here : (fs : List OutlineFile) (i end : ℕ) (f : OutlineFile) → IsContentEnd fs i end → drop i fs ≡ f ∷ drop (i + 1) fs → nat_lt 0 f.length ≡ true
    → IsContentEnd fs (i + 1) (i + 1)
ends_here fs i end f so at some =
    let here : has_content (drop i fs) ≡ true = ap has_content at ∙ ap (λ b. b || has_content (drop (i + 1) fs)) some in
    record {
      before = λ k less. elim (cases_lt k end) [
        | inl front ↦ so.before k front
        | inr later ↦ so.behind k later (omega arith) ∙ here
      ];
      behind = λ k low high. let same : k ≡ i + 1 = omega arith in ap (λ n. has_content (drop n fs)) same;
    }

-- an empty file
pub ends_before : (fs : List OutlineFile) (i end : ℕ) (f : OutlineFile) → IsContentEnd fs i end → drop i fs ≡ f ∷ drop (i + 1) fs → nat_lt 0 f.length ≡ false
    → IsContentEnd fs (i + 1) end
ends_before fs i end f so at none =
    let here : has_content (drop i fs) ≡ has_content (drop (i + 1) fs) = ap has_content at ∙ ap (λ b. b || has_content (drop (i + 1) fs)) none in
    record {
      before = so.before;
      behind = λ k low high. elim (cases_lt i k) [
        | inl past ↦ let same : k ≡ i + 1 = omega arith in ap (λ n. has_content (drop n fs)) same
        | inr within ↦ so.behind k low within ∙ here
      ];
    }

-- ---- what is put of one file after the other

pub digests_step : (f : OutlineFile) (fs : List OutlineFile) (b : Bool) → has_content fs ≡ b
    → concat (digests_of (f ∷ fs)) ≡ concat (if nat_lt 0 f.length then (if b then filled_cuts f else f.cuts) else []) ++ concat (digests_of fs)
digests_step f fs b e =
    concat-append (digests_in f fs) (digests_of fs)
    ∙ ap (λ a. concat (if nat_lt 0 f.length then (if a then filled_cuts f else f.cuts) else []) ++ concat (digests_of fs)) e

with_pad : (n : ℕ) (b : Bool) (rest : Items)
    → items_spelling (if b then item (pad_value n) rest else rest) ≡ items_spelling (if b then item (pad_value n) no_items else no_items) ++ items_spelling rest
with_pad n true rest = ap (λ t. t ++ items_spelling rest) (sym (append-nil (spelling (pad_value n))))
with_pad n false rest = refl

pub entries_step : (p : ℕ) (f : OutlineFile) (fs : List OutlineFile) (b : Bool) → has_content fs ≡ b
    → items_spelling (entries_value p (f ∷ fs))
    ≡ (spelling (entry_value f) ++ items_spelling (if nat_lt 0 (gap p f.length) && b then item (pad_value (gap p f.length)) no_items else no_items))
    ++ items_spelling (entries_value p fs)
entries_step p f fs b e =
    let n = gap p f.length in
    ap (λ t. spelling (entry_value f) ++ t) (with_pad n (nat_lt 0 n && has_content fs) (entries_value p fs)
    ∙ ap (λ a. items_spelling (if nat_lt 0 n && a then item (pad_value n) no_items else no_items) ++ items_spelling (entries_value p fs)) e)
    ∙ sym (append_assoc (spelling (entry_value f)) (items_spelling (if nat_lt 0 n && b then item (pad_value n) no_items else no_items))
    (items_spelling (entries_value p fs)))

pub file_at : (xs : List DraftFile) (i : ℕ) (x : DraftFile) → i < length xs → x ≡ get_or xs i x → slice_get (map outline_file xs) i ≡ Some (outline_file x)
file_at [] i x less e = absurd (omega arith)
file_at (y ∷ xs) zero x less e = ap (λ z. Some (outline_file z)) (sym e)
file_at (y ∷ xs) (suc i) x less e = file_at xs i x (omega arith) e
