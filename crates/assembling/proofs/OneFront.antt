-- A text has one front.
use Rattle.std.proofs.Common.{◌≡◌, ℕ, ◌+◌, ◌^◌, ◌<◌, List, ◌++◌, length, take, drop, sym, ◌∙◌, ap, append_assoc, arith}
use Rattle.std.proofs.lemmas.List.{append_cancel_left}
use Rattle.std.proofs.Math.Seq.{take-append_seam}
use Rattle.std.proofs.lemmas.Nat.{from_be_bytes-to_be_bytes_8}
use Rattle.std.specs.Int.{w64, from_be_bytes, to_be_bytes}
use Rattle.part_texts.specs.Texts.{head_text, number_text, sized, version_line}
use Rattle.assembling.specs.Fronts.{Front, IsFront}

number_back : (n m : ℕ) (x y : List ℕ) → n < 2 ^ 64 → m < 2 ^ 64 → number_text n ++ x ≡ number_text m ++ y → (n ≡ m) × (x ≡ y)
unfolding number_text
number_back n m x y small fits is =
    let bytes : to_be_bytes w64 n ≡ to_be_bytes w64 m = ap (take 8) is in (
      sym (from_be_bytes-to_be_bytes_8 n small) ∙ ap (from_be_bytes w64) bytes ∙ from_be_bytes-to_be_bytes_8 m fits,
      ap (drop 8) is,
    )

sized_back : (xs ys x y : List ℕ) → length xs < 2 ^ 64 → length ys < 2 ^ 64 → sized xs ++ x ≡ sized ys ++ y → (xs ≡ ys) × (x ≡ y)
sized_back xs ys x y small fits is =
    let numbers = number_back (length xs) (length ys) (xs ++ x) (ys ++ y) small fits
    (sym (append_assoc (number_text (length xs)) xs x) ∙ is ∙ append_assoc (number_text (length ys)) ys y) in
    let same : xs ≡ ys =
    sym (take-append_seam xs x) ∙ ap (take (length xs)) numbers.1 ∙ ap (λ n. take n (ys ++ y)) numbers.0 ∙ take-append_seam ys y in
    (same, append_cancel_left xs x y (numbers.1 ∙ ap (λ l. l ++ y) (sym same)))

-- the parts of a front, behind the first line
behind_line : (part parts : ℕ) (listing rows : List ℕ) → head_text part parts listing ++ rows
    ≡ version_line ++ (number_text (part + 1) ++ (number_text parts ++ (sized listing ++ rows)))
behind_line part parts listing rows =
    append_assoc version_line (number_text (part + 1) ++ (number_text parts ++ sized listing)) rows
    ∙ ap (λ l. version_line ++ l) (append_assoc (number_text (part + 1)) (number_text parts ++ sized listing) rows
    ∙ ap (λ l. number_text (part + 1) ++ l) (append_assoc (number_text parts) (sized listing) rows))

pub one_front : (text : List ℕ) (f g : Front) → IsFront text f → IsFront text g
    → (f.part ≡ g.part) × (f.parts ≡ g.parts) × (f.listing ≡ g.listing) × (f.rows ≡ g.rows)
one_front text f g is other =
    let whole = sym (behind_line f.part f.parts f.listing f.rows) ∙ sym is.is ∙ other.is ∙ behind_line g.part g.parts g.listing g.rows in
    let line = append_cancel_left version_line (number_text (f.part + 1) ++ (number_text f.parts ++ (sized f.listing ++ f.rows)))
    (number_text (g.part + 1) ++ (number_text g.parts ++ (sized g.listing ++ g.rows))) whole in
    let first = number_back (f.part + 1) (g.part + 1) (number_text f.parts ++ (sized f.listing ++ f.rows)) (number_text g.parts ++ (sized g.listing ++ g.rows))
    (omega (arith, is.there, is.small)) (omega (arith, other.there, other.small)) line in
    let second = number_back f.parts g.parts (sized f.listing ++ f.rows) (sized g.listing ++ g.rows) is.small other.small first.1 in
    let third = sized_back f.listing g.listing f.rows g.rows is.short other.short second.1 in
    (omega (arith, first.0), second.0, third.0, third.1)
