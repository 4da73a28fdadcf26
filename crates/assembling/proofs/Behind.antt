-- What is left of the texts of parts once a file was read.
use Rattle.std.proofs.Common.{◌≡◌, ◌≢◌, inl, inr, ℕ, ◌+◌, ◌<◌, ◌≤◌, List, length, set, slice_get, Some, sym, ap, ◌∙◌, arith}
use Rattle.std.proofs.lemmas.Bool.{cases_lt}
use Rattle.std.proofs.lemmas.Option.{same_Some, slice_get_within}
use Rattle.assembling.proofs.Passing.{set_at}
use Rattle.chains.proofs.Cases.{item_at}

-- the parts before this one have this many bytes less, and the others stand as before
pub record IsPassing (size : ℕ → ℕ) (part : ℕ) (texts rests : List (List ℕ)) : Type 0 where
  pub done : (q : ℕ) (text rest : List ℕ) → q < part → slice_get texts q ≡ Some text → slice_get rests q ≡ Some rest → length rest + size q ≡ length text
  pub todo : (q : ℕ) (rest : List ℕ) → part ≤ q → slice_get rests q ≡ Some rest → slice_get texts q ≡ Some rest

pub none_passed : (size : ℕ → ℕ) (texts : List (List ℕ)) → IsPassing size 0 texts texts
none_passed size texts = record {
  done = λ q text rest lt at there. absurd (omega (arith, lt));
  todo = λ q rest le at. at;
}

pub one_passed : (size : ℕ → ℕ) (part : ℕ) (texts rests rests' : List (List ℕ)) (text rest : List ℕ) → IsPassing size part texts rests
    → slice_get rests part ≡ Some text → rests' ≡ set rests part rest → length rest + size part ≡ length text → IsPassing size (part + 1) texts rests'
one_passed size part texts rests rests' text rest way there set_is fits = record {
  done = λ q x y lt at rest_at. elim (set_at rests part rest q y (sym (ap (λ xs. slice_get xs q) set_is) ∙ rest_at)) [
    | inl here ↦
        let same : x ≡ text = same_Some x text (sym at ∙ ap (slice_get texts) here.0 ∙ way.todo part text (omega arith) there) in
        ap (λ l. length l + size q) here.1 ∙ ap (λ k. length rest + size k) here.0 ∙ fits ∙ ap length (sym same)
    | inr other ↦ way.done q x y (below q lt other.0) at other.1
  ];
  todo = λ q y le rest_at. elim (set_at rests part rest q y (sym (ap (λ xs. slice_get xs q) set_is) ∙ rest_at)) [
    | inl here ↦ absurd (omega (arith, here.0, le))
    | inr other ↦ way.todo q y (omega (arith, le)) other.1
  ];
}
  where
    below : (q : ℕ) → q < part + 1 → q ≢ part → q < part
    below q lt other = elim (cases_lt q part) [ inl less ↦ less | inr more ↦ absurd (other (omega (arith, lt, more))) ]

-- all parts have so many bytes less
pub all_passed : (size left : ℕ → ℕ) (part : ℕ) (texts rests : List (List ℕ)) → length texts ≡ length rests → length texts ≡ part
    → IsPassing size part texts rests → ((q : ℕ) (text : List ℕ) → slice_get texts q ≡ Some text → length text ≡ size q + left q)
    → (q : ℕ) (rest : List ℕ) → slice_get rests q ≡ Some rest → length rest ≡ left q
all_passed size left part texts rests count end way long q rest at =
    let low : q < length texts = omega (arith, slice_get_within rests q rest at, count) in
    let text = item_at texts q low in
    omega (arith, way.done q text.0 rest (omega (arith, low, end)) text.1 at, long q text.0 text.1)
