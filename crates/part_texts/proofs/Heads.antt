-- The front of a part's text.
use Rattle.std.proofs.Common.{◌≡◌, ℕ, ◌+◌, true, List, ◌++◌, take, drop, sym, ◌∙◌, ap, append_assoc, take-append-drop}
use Rattle.std.proofs.lemmas.Slice.Eq.{bytes_eq-Decides}
use Rattle.std.specs.Str.{bytes_eq}
use Rattle.part_texts.specs.Texts.{head_text, number_text, sized, version_line}

-- what was read of a text is what stands in front of it
pub head_in_front : (text one two three listing rows : List ℕ) (part from_one parts : ℕ) → bytes_eq (take 28 text) version_line ≡ true → one ≡ drop 28 text
    → one ≡ number_text from_one ++ two → two ≡ number_text parts ++ three → three ≡ sized listing ++ rows → from_one ≡ part + 1
    → text ≡ head_text part parts listing ++ rows
head_in_front text one two three listing rows part from_one parts line rest first second third number =
    let inner : two ≡ (number_text parts ++ sized listing) ++ rows =
    second ∙ ap (λ l. number_text parts ++ l) third ∙ sym (append_assoc (number_text parts) (sized listing) rows) in
    let outer : one ≡ (number_text (part + 1) ++ (number_text parts ++ sized listing)) ++ rows =
    first ∙ ap (λ n. number_text n ++ two) number ∙ ap (λ l. number_text (part + 1) ++ l) inner
    ∙ sym (append_assoc (number_text (part + 1)) (number_text parts ++ sized listing) rows) in
    sym (take-append-drop 28 text)
    ∙ ap (λ l. l ++ drop 28 text) ((bytes_eq-Decides (take 28 text) version_line).0 line)
    ∙ ap (λ l. version_line ++ l) (sym rest ∙ outer)
    ∙ sym (append_assoc version_line (number_text (part + 1) ++ (number_text parts ++ sized listing)) rows)
