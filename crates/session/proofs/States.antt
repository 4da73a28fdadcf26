-- Writing the state of one tree.
use Rattle.std.proofs.Common.{◌≡◌, ◌≢◌, ◌⊎◌, ℕ, ◌<◌, List, length, set, Some, inl, inr, sym, ap, ◌∙◌, arith, get_or}
use Rattle.std.specs.Prelude.{slice_get}
use Rattle.std.proofs.lemmas.Option.{slice_get_within, slice_get-get_or, get_or_from_slice_get}
use Rattle.std.proofs.lemmas.List.{length-set, get_or-set_same, get_or-set_other}
use Rattle.std.proofs.lemmas.Bool.{cases_eq}
use Rattle.session.specs.Session.{TreeState}

pub set-read : (ts : List TreeState) (n k : ℕ) (a s : TreeState) → slice_get (set ts n a) k ≡ Some s → ((k ≡ n) × (s ≡ a))
    ⊎ ((k ≢ n) × (slice_get ts k ≡ Some s))
set-read ts n k a s e =
    let in' : k < length (set ts n a) = slice_get_within (set ts n a) k s e in
    let len : length (set ts n a) ≡ length ts = length-set ts n a in
    let read : get_or (set ts n a) k a ≡ s = get_or_from_slice_get (set ts n a) k s a e in
    elim (cases_eq k n) [
      | inl same ↦ inl (same, sym read ∙ ap (λ j. get_or (set ts n a) j a) same ∙ get_or-set_same ts n a a (let low : n < length ts = omega arith in low))
      | inr other ↦ inr (other, slice_get-get_or ts k a (omega arith) ∙ ap Some (sym (get_or-set_other ts n k a a other) ∙ read))
    ]

pub set-write : (ts : List TreeState) (n : ℕ) (a s : TreeState) → slice_get ts n ≡ Some s → slice_get (set ts n a) n ≡ Some a
set-write ts n a s e =
    let in' : n < length ts = slice_get_within ts n s e in
    let len : length (set ts n a) ≡ length ts = length-set ts n a in
    slice_get-get_or (set ts n a) n a (omega arith) ∙ ap Some (get_or-set_same ts n a a in')

pub set-other : (ts : List TreeState) (n k : ℕ) (a s : TreeState) → k ≢ n → slice_get ts k ≡ Some s → slice_get (set ts n a) k ≡ Some s
set-other ts n k a s other e =
    let in' : k < length ts = slice_get_within ts k s e in
    let len : length (set ts n a) ≡ length ts = length-set ts n a in
    slice_get-get_or (set ts n a) k a (omega arith) ∙ ap Some (get_or-set_other ts n k a a other ∙ get_or_from_slice_get ts k s a e)
