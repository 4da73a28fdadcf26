-- The fields of a body, one after the other.
use Rattle.std.proofs.Common.{◌≡◌, ℕ, ◌+◌, ◌-◌, List, ◌++◌, length, take, drop, sym, ap, ◌∙◌}
use Rattle.std.proofs.lemmas.List.{append_assoc, take-append-drop, drop-drop, take_rest}
use Rattle.wire.specs.Frames.{four_bytes}

-- the next field, and the rest
drop-field : (n : ℕ) (bytes : List ℕ) → drop n bytes ≡ take 4 (drop n bytes) ++ drop (n + 4) bytes
drop-field n bytes = sym (take-append-drop 4 (drop n bytes)) ∙ ap (λ t. take 4 (drop n bytes) ++ t) (drop-drop 4 n bytes)

-- a number that was read at `&bytes[n..]`, and the rest
pub drop-number : (n k : ℕ) (bytes : List ℕ) → four_bytes k ≡ take 4 (take (length bytes - n) (drop n bytes))
    → drop n bytes ≡ four_bytes k ++ drop (n + 4) bytes
drop-number n k bytes e = drop-field n bytes ∙ ap (λ t. t ++ drop (n + 4) bytes) (sym (e ∙ ap (take 4) (take_rest bytes n)))

-- a root and four numbers
pub five_fields : (root bytes : List ℕ) (a b c d : ℕ) → root ≡ take 32 bytes → drop 32 bytes ≡ four_bytes a ++ drop 36 bytes
    → drop 36 bytes ≡ four_bytes b ++ drop 40 bytes
    → drop 40 bytes ≡ four_bytes c ++ drop 44 bytes → drop 44 bytes ≡ four_bytes d ++ drop 48 bytes
    → bytes ≡ (root ++ (four_bytes a ++ (four_bytes b ++ (four_bytes c ++ four_bytes d)))) ++ drop 48 bytes
five_fields root bytes a b c d front pa pb pc pd =
    let rest = drop 48 bytes in
    sym (take-append-drop 32 bytes) ∙ ap (λ t. t ++ drop 32 bytes) (sym front)
    ∙ ap (λ t. root ++ t) (pa ∙ ap (λ t. four_bytes a ++ t) (pb ∙ ap (λ t. four_bytes b ++ t) (pc ∙ ap (λ t. four_bytes c ++ t) pd)))
    ∙ sym (append_assoc root _ rest ∙ ap (λ t. root ++ t) (append_assoc (four_bytes a) _ rest
    ∙ ap (λ t. four_bytes a ++ t) (append_assoc (four_bytes b) _ rest ∙ ap (λ t. four_bytes b ++ t) (append_assoc (four_bytes c) (four_bytes d) rest))))
