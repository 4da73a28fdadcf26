-- Lines of the report of a part are known by their texts.
use Rattle.std.proofs.Common.{◌≡◌, ◌∷◌, ◌++◌, ◌∙◌, ◌<◌, ◌^◌, [], List, ℕ, decimal, get_or, true, ap, refl}
use Rattle.hex.specs.Hex.{encode_lower, encode_with}
use Rattle.std.specs.Char.{is_ascii_digit}
use Rattle.lines.specs.Rows.{Row}
use Rattle.lines.specs.Table.{parted_row}
use Rattle.lines.specs.Texts.{items_text}
use Rattle.lines.specs.declared.parted.Parted.{Parted}
use Rattle.lines.specs.declared.parted.Parted.TheVariants as parted
use Rattle.line_laws.specs.Said.{AreSaid, IsWord, printed}
use Rattle.line_laws.proofs.Cuts.{onward}
use Rattle.line_laws.proofs.Fields.{behind, behind_number, is_gap, is_no_digit, text_last, word_onward}
use Rattle.line_laws.proofs.Shapes.{part_shape, parted_shape, starts_digit}
use Rattle.line_laws.proofs.Known.{KnownIfSaid}

abbrev parted_part : List ℕ → Row
parted_part t = parted_shape (is_ascii_digit (get_or t 0 0)) t

-- what stands behind the info-hash
part_at : (part parts : ℕ) (hash : List ℕ) (c : ℕ) (rest : List ℕ) → part < 2 ^ 64 → parts < 2 ^ 64 → IsWord hash → is_gap c ≡ true
    → onward is_gap (behind is_no_digit (behind is_no_digit (decimal part ++ 47 ∷ (decimal parts ++ 32 ∷ (hash ++ c ∷ rest))))) ≡ c ∷ rest
part_at part parts hash c rest small few word at =
    ap (λ t. onward is_gap (behind is_no_digit t)) (behind_number part 47 (decimal parts ++ 32 ∷ (hash ++ c ∷ rest)) small refl)
    ∙ ap (onward is_gap) (behind_number parts 32 (hash ++ c ∷ rest) few refl)
    ∙ word_onward hash c rest word at

part_known : (part parts : ℕ) (hash : List ℕ) (c : ℕ) (rest : List ℕ) → part < 2 ^ 64 → parts < 2 ^ 64 → IsWord hash → is_gap c ≡ true
    → parted_part (decimal part ++ 47 ∷ (decimal parts ++ 32 ∷ (hash ++ c ∷ rest))) ≡ part_shape (c ∷ rest)
part_known part parts hash c rest small few word at =
    let t = decimal part ++ 47 ∷ (decimal parts ++ 32 ∷ (hash ++ c ∷ rest)) in
    ap (λ b. parted_shape b t) (starts_digit part (47 ∷ (decimal parts ++ 32 ∷ (hash ++ c ∷ rest))) small)
    ∙ ap part_shape (part_at part parts hash c rest small few word at)

pub parted_known : (p : Parted) → KnownIfSaid (printed (parted_row p))
unfolding items_text text_last AreSaid encode_with
parted_known (parted.Part part parts hash) h = record {
  shape = part_known part parts (encode_lower hash.now) 10 [] h.1.0 h.1.1.0 (h.1.1.1.0.1 refl) refl;
  last = refl;
}
parted_known (parted.BadPart part parts hash) h = record {
  shape = part_known part parts (encode_lower hash.now) 32 _ h.1.0 h.1.1.0 (h.1.1.1.0.1 refl) refl;
  last = refl;
}
parted_known parted.Yes h = record { shape = refl; last = refl }
parted_known parted.No h = record { shape = refl; last = refl }
