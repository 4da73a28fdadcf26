-- The first lines of reports: a text begins with one at most.
use Rattle.std.proofs.Common.{◌≡◌, ℕ, zero, suc, ◌+◌, ◌/◌, ◌%◌, ◌<◌, ◌^◌, false, true, ◌&&◌, List, [], ◌∷◌, ◌++◌, length}
use Rattle.std.proofs.Common.{Option, Some, inl, inr, drop, get_or, codes, decimal, refl, sym, ap, ◌∙◌}
use Rattle.std.proofs.Common.{append_assoc, append-nil, arith}
use Rattle.std.specs.Char.{is_ascii_digit}
use Rattle.std.specs.List.{list_all, prefix_len}
use Rattle.std.proofs.lemmas.Bool.{and_parts, cases_lt}
use Rattle.std.proofs.lemmas.Fmt.{decimal_injective}
use Rattle.std.proofs.lemmas.List.{get_or_past, length-append}
use Rattle.std.proofs.lemmas.List.Folds.{list_all-append}
use Rattle.std.proofs.lemmas.Option.{same_Some}
use Rattle.chains.proofs.Cases.{same_parts}
use Rattle.hex.specs.Hex.{IsBytes, encode_lower, encode_with, hex_digit_value, lower_digits}
use Rattle.hex.proofs.HexLemmas.{IsDigits-lower_digits}
use Rattle.lines.specs.Texts.{items_text}
use Rattle.part_reports.specs.Heads.{HasHead, first_line}
use Rattle.part_reports.specs.declared.kind.Kind.{Kind}
use Rattle.part_reports.specs.declared.kind.Kind.TheVariants as kind
use Rattle.part_reports.specs.Scan.{is_no_digit}
use Rattle.part_reports.proofs.Fronts.{front_digits, front_run, is_in_line, same_pair}

-- two numbers that stand in front of one text, each before a byte that is no digit, are one
pub one_number : (n m c d : ℕ) (xs ys : List ℕ) → n < 2 ^ 64 → m < 2 ^ 64 → is_ascii_digit c ≡ false → is_ascii_digit d ≡ false
    → decimal n ++ c ∷ xs ≡ decimal m ++ d ∷ ys → (n ≡ m) × (c ∷ xs ≡ d ∷ ys)
one_number n m c d xs ys small short stops ends is =
    let text = decimal n ++ c ∷ xs in
    let k : ℕ = prefix_len is_ascii_digit text in
    let one = front_digits text n c k xs small stops refl refl in
    let other = front_digits text m d k ys short ends is refl in
    (decimal_injective n m small short (sym one.0 ∙ other.0), sym one.1 ∙ other.1)

-- ---- the first line in words

-- what stands behind the info-hash in the first line of a report of this kind
abbrev pub tail_of : Kind → List ℕ
tail_of kind.Plain = []
tail_of kind.Marked = codes " bad"

-- the info-hash in hexadecimal, and what stands behind it
abbrev pub hash_words : Kind → List ℕ → List ℕ
hash_words k hash = encode_lower hash ++ tail_of k

-- what stands behind the first number, and behind the second
abbrev pub behind_part : ℕ → List ℕ → List ℕ → List ℕ
behind_part count words more = 47 ∷ (decimal count ++ 32 ∷ (words ++ 10 ∷ more))

pub line_is : (k : Kind) (part count : ℕ) (hash more : List ℕ)
    → first_line k part count hash ++ more ≡ codes "part " ++ (decimal (part + 1) ++ behind_part count (hash_words k hash) more)
unfolding items_text
line_is kind.Plain part count hash more = rw (append-nil (encode_lower hash)) (simp append_assoc refl)
line_is kind.Marked part count hash more = simp append_assoc refl

-- ---- an info-hash is printed so

-- each item of a list that has no line feed is none, and so is what stands for an item behind its end
item_inside : (digits : List ℕ) (k : ℕ) → list_all is_in_line digits ≡ true → is_in_line (get_or digits k 0) ≡ true
item_inside [] k all = refl
item_inside (d ∷ ds) zero all = (and_parts (is_in_line d) (list_all is_in_line ds) all).0
item_inside (d ∷ ds) (suc k) all = item_inside ds k (and_parts (is_in_line d) (list_all is_in_line ds) all).1

hex_inside : (bytes : List ℕ) → list_all is_in_line (encode_lower bytes) ≡ true
unfolding encode_with
hex_inside [] = refl
hex_inside (b ∷ bs) = rw (item_inside lower_digits (b / 16) refl, item_inside lower_digits (b % 16) refl, hex_inside bs) refl

-- what stands behind the numbers ends no line
words_inside : (k : Kind) (hash : List ℕ) → list_all is_in_line (hash_words k hash) ≡ true
words_inside kind.Plain hash = list_all-append is_in_line (encode_lower hash) [] ∙ ap (λ b. b && true) (hex_inside hash)
words_inside kind.Marked hash = list_all-append is_in_line (encode_lower hash) (codes " bad") ∙ ap (λ b. b && true) (hex_inside hash)

-- and tells the digits of the info-hash
same_words : (k : Kind) (h g : List ℕ) → hash_words k h ≡ hash_words k g → encode_lower h ≡ encode_lower g
same_words k h g is =
    let one = length-append (encode_lower h) (tail_of k) in
    let other = length-append (encode_lower g) (tail_of k) in
    let whole = ap length is in
    (same_parts (encode_lower h) (tail_of k) (encode_lower g) (tail_of k) (omega (arith, one, other, whole)) is).0

-- one digit stands for one number below 16
same_digit : (d e : ℕ) → d < 16 → get_or lower_digits d 0 ≡ get_or lower_digits e 0 → d ≡ e
same_digit d e lt is =
    let one : hex_digit_value (get_or lower_digits d 0) ≡ Some d = IsDigits-lower_digits d lt in
    elim (cases_lt e 16) [
      | inl below ↦
          let other : hex_digit_value (get_or lower_digits e 0) ≡ Some e = IsDigits-lower_digits e below in
          same_Some d e (sym one ∙ ap hex_digit_value is ∙ other)
      | inr past ↦
          let none : get_or lower_digits e 0 ≡ 0 = get_or_past lower_digits e 0 past in
          let no = sym one ∙ ap hex_digit_value (is ∙ none) in
          (let x : ⊥ = cc in absurd x)
    ]

-- and one text for one list of bytes
same_hash : (h g : List ℕ) → IsBytes h → encode_lower h ≡ encode_lower g → h ≡ g
unfolding encode_with
same_hash [] [] small is = refl
same_hash [] (b ∷ g) small is = (let x : ⊥ = cc in absurd x)
same_hash (a ∷ h) [] small is = (let x : ⊥ = cc in absurd x)
same_hash (a ∷ h) (b ∷ g) small is =
    let byte : a < 256 = small 0 in
    let high = same_digit (a / 16) (b / 16) (omega (arith, byte)) (ap (λ x. get_or x 0 0) is) in
    let low = same_digit (a % 16) (b % 16) (omega (arith, byte)) (ap (λ x. get_or x 1 0) is) in
    let one : a ≡ b = omega (arith, high, low) in
    let more = same_hash h g (λ i. small (suc i)) (ap (drop 2) is) in
    ap (λ x. x ∷ h) one ∙ ap (λ x. b ∷ x) more

-- ---- a text begins with one first line at most

pub one_head : (k : Kind) (text : List ℕ) (p n q m : ℕ) (h g : List ℕ) → HasHead k text p n h → HasHead k text q m g
    → (p ≡ q) × (n ≡ m) × (encode_lower h ≡ encode_lower g)
one_head k text p n q m h g one other =
    let xs : List ℕ = hash_words k h ++ 10 ∷ one.more in
    let ys : List ℕ = hash_words k g ++ 10 ∷ other.more in
    let behind : decimal (p + 1) ++ behind_part n (hash_words k h) one.more ≡ decimal (q + 1) ++ behind_part m (hash_words k g) other.more =
    ap (drop 5) (sym (line_is k p n h one.more) ∙ sym one.is ∙ other.is ∙ line_is k q m g other.more) in
    let first = one_number (p + 1) (q + 1) 47 47 (decimal n ++ 32 ∷ xs) (decimal m ++ 32 ∷ ys)
    (omega (arith, one.there, one.small)) (omega (arith, other.there, other.small)) refl refl behind in
    let second = one_number n m 32 32 xs ys one.small other.small refl refl (ap (drop 1) first.1) in
    let rest : xs ≡ ys = ap (drop 1) second.1 in
    let len : ℕ = prefix_len is_in_line xs in
    let words = sym (front_run is_in_line xs (hash_words k h) 10 len one.more (words_inside k h) refl refl refl).0
    ∙ (front_run is_in_line xs (hash_words k g) 10 len other.more (words_inside k g) refl rest refl).0 in
    (omega (arith, first.0), second.0, same_words k h g words)

-- and that tells one info-hash
pub one_hash : (k : Kind) (text : List ℕ) (p n q m : ℕ) (h g : List ℕ) → IsBytes h → HasHead k text p n h → HasHead k text q m g → h ≡ g
one_hash k text p n q m h g bytes one other = same_hash h g bytes (one_head k text p n q m h g one other).2

-- ---- its numbers

-- the first number in a text is read so, with what follows it
abbrev pub ReadsFirst : List ℕ → Option (ℕ × List ℕ) → Type 0
ReadsFirst text read = (front : List ℕ) (n c : ℕ) (more : List ℕ) → list_all is_no_digit front ≡ true → n < 2 ^ 64 → is_ascii_digit c ≡ false
    → text ≡ front ++ (decimal n ++ c ∷ more) → read ≡ Some (n, c ∷ more)

pub first_read : (k : Kind) (text : List ℕ) (read : Option (ℕ × List ℕ)) → ReadsFirst text read → (p n : ℕ) (hash : List ℕ) → (head : HasHead k text p n hash)
    → read ≡ Some (p + 1, behind_part n (hash_words k hash) head.more)
first_read k text read reads p n hash head =
    reads (codes "part ") (p + 1) 47 (decimal n ++ 32 ∷ (hash_words k hash ++ 10 ∷ head.more)) refl (omega (arith, head.there, head.small)) refl
    (head.is ∙ line_is k p n hash head.more)

pub second_read : (text words more : List ℕ) (read : Option (ℕ × List ℕ)) (n : ℕ) → n < 2 ^ 64 → ReadsFirst text read → text ≡ behind_part n words more
    → read ≡ Some (n, 32 ∷ (words ++ 10 ∷ more))
second_read text words more read n small reads is = reads (47 ∷ []) n 32 (words ++ 10 ∷ more) refl small refl is

-- the first number of a first line is that of the part
pub part_read : (k : Kind) (text : List ℕ) (number : ℕ) (behind : List ℕ) → ReadsFirst text (Some (number, behind)) → (p n : ℕ) (hash : List ℕ)
    → (head : HasHead k text p n hash) → (number ≡ p + 1) × (behind ≡ behind_part n (hash_words k hash) head.more)
part_read k text number behind reads p n hash head =
    same_pair number (p + 1) behind (behind_part n (hash_words k hash) head.more) (first_read k text (Some (number, behind)) reads p n hash head)

-- the second one is how many there are, and the digits of the info-hash stand behind it
pub numbers_read : (k : Kind) (text : List ℕ) (number : ℕ) (behind : List ℕ) (count : ℕ) (end : List ℕ) → ReadsFirst text (Some (number, behind))
    → ReadsFirst behind (Some (count, end)) → (p n : ℕ) (hash : List ℕ) → (head : HasHead k text p n hash)
    → (number ≡ p + 1) × (count ≡ n) × (end ≡ 32 ∷ (encode_lower hash ++ (tail_of k ++ 10 ∷ head.more)))
numbers_read k text number behind count end first second p n hash head =
    let words : List ℕ = hash_words k hash in
    let one = part_read k text number behind first p n hash head in
    let two = same_pair count n end (32 ∷ (words ++ 10 ∷ head.more))
    (second_read behind words head.more (Some (count, end)) n head.small second one.1) in
    (one.0, two.0, two.1 ∙ ap (λ x. 32 ∷ x) (append_assoc (encode_lower hash) (tail_of k) (10 ∷ head.more)))
