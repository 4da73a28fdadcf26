-- The version 1 stream of a folder is one list of bytes.
use Rattle.std.proofs.Common.{◌≡◌, ◌⊎◌, inl, inr, ℕ, zero, suc, ◌+◌, ◌-◌, ◌<◌, List, length, drop, get_or, slice_get, Option, Some, None, refl, ap, sym}
use Rattle.std.proofs.Common.{◌∙◌, arith}
use Rattle.std.proofs.lemmas.List.{ext_get_or, get_or-take, get_or-drop}
use Rattle.std.proofs.lemmas.Option.{same_Some, slice_get_within, none-some}
use Rattle.std.proofs.lemmas.Bool.{cases_lt}
use Rattle.opening.specs.Description.{Description, FileEntry}
use Rattle.folders.specs.Folder.{Contents, Covers, IsStream, stream_start_of}
use Rattle.chains.proofs.Cases.{last_or_before}

-- file n covers this byte, or it does not
here_or_not : (t : Description) (contents : Contents) (i n : ℕ) (f : Option FileEntry) → slice_get t.files n ≡ f
    → ((c : Covers t contents i) × (c.number ≡ n)) ⊎ ((c : Covers t contents i) → c.number ≡ n → ⊥)
here_or_not t contents i n None is = inr (λ c at. none-some c.file (sym is ∙ ap (slice_get t.files) (sym at) ∙ c.there))
here_or_not t contents i n (Some f) is = content_covers (contents n) refl
  where
    same_file : (c : Covers t contents i) → c.number ≡ n → f ≡ c.file
    same_file c at = same_Some f c.file (sym is ∙ ap (slice_get t.files) (sym at) ∙ c.there)

    content_covers : (o : Option (List ℕ)) → contents n ≡ o → ((c : Covers t contents i) × (c.number ≡ n)) ⊎ ((c : Covers t contents i) → c.number ≡ n → ⊥)
    content_covers None content = inr (λ c at. none-some c.bytes (sym content ∙ ap contents (sym at) ∙ c.content))
    content_covers (Some bytes) content = elim (cases_lt i (stream_start_of t f)) [
      | inl past ↦ inr (λ c at. let s : stream_start_of t f ≡ stream_start_of t c.file = ap (stream_start_of t) (same_file c at) in omega (arith, c.from, s))
      | inr from ↦ elim (cases_lt i (stream_start_of t f + length bytes)) [
        | inr past ↦ inr (λ c at.
            let s : stream_start_of t f ≡ stream_start_of t c.file = ap (stream_start_of t) (same_file c at) in
            let b : bytes ≡ c.bytes = same_Some bytes c.bytes (sym content ∙ ap contents (sym at) ∙ c.content) in
            omega (arith, c.to, s, ap length b))
        | inl to ↦ inl (record { number = n; file = f; bytes = bytes; there = is; content = content; from = from; to = to }, refl)
      ]
    ]

-- one of the files covers this byte, or none of the first n does
covered_or_not : (t : Description) (contents : Contents) (i n : ℕ) → Covers t contents i ⊎ ((c : Covers t contents i) → c.number < n → ⊥)
covered_or_not t contents i zero = inr (λ c lt. omega arith)
covered_or_not t contents i (suc n) = elim (covered_or_not t contents i n) [
  | inl c ↦ inl c
  | inr none ↦ elim (here_or_not t contents i n (slice_get t.files n) refl) [
    | inl here ↦ inl here.0
    | inr not_here ↦ inr (λ c lt. elim (last_or_before c.number n (omega (arith, lt))) [ inl before ↦ none c before | inr last ↦ not_here c last ])
  ]
]

-- a covered byte is the file's
covered_byte : (t : Description) (contents : Contents) (total : ℕ) (stream : List ℕ) (i : ℕ) → IsStream t contents total stream → (c : Covers t contents i)
    → get_or stream i 0 ≡ get_or c.bytes (i - stream_start_of t c.file) 0
covered_byte t contents total stream i is c =
    let at : stream_start_of t c.file + (i - stream_start_of t c.file) ≡ i = omega (arith, c.from) in
    let inside : i - stream_start_of t c.file < length c.bytes = omega (arith, c.from, c.to) in
    ap (λ k. get_or stream k 0) (sym at)
    ∙ sym (get_or-drop (stream_start_of t c.file) stream (i - stream_start_of t c.file) 0)
    ∙ sym (get_or-take (length c.bytes) (drop (stream_start_of t c.file) stream) (i - stream_start_of t c.file) 0 inside)
    ∙ ap (λ b. get_or b (i - stream_start_of t c.file) 0) (is.file_at c.number c.file c.bytes c.there c.content (omega arith))

pub one_stream : (t : Description) (contents : Contents) (total : ℕ) (a b : List ℕ) → IsStream t contents total a → IsStream t contents total b → a ≡ b
one_stream t contents total a b one other =
    ext_get_or 0 a b (one.length_is ∙ sym other.length_is) (λ i lt. elim (covered_or_not t contents i (length t.files)) [
      | inl c ↦ covered_byte t contents total a i one c ∙ sym (covered_byte t contents total b i other c)
      | inr none ↦
          let bare : Covers t contents i → ⊥ = λ c. none c (slice_get_within t.files c.number c.file c.there) in
          one.zeros i (omega (arith, one.length_is)) bare ∙ sym (other.zeros i (omega (arith, one.length_is)) bare)
    ])
