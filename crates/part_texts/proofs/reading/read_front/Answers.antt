use Rattle.std.proofs.Common.{◌≡◌, ◌∙◌, ◌++◌, List, ℕ, length, map, ap, sym, append_assoc}
use Rattle.std.proofs.lemmas.Result.{err_from_is_err_and}
use Rattle.std.specs.List.{flat_map}
use Rattle.std.specs.String.{string_bytes}
use Rattle.part_texts.specs.Listings.{Inventory, listed}
use Rattle.part_texts.specs.Readings.{CanBeListed}
use Rattle.part_texts.specs.Texts.{file_text, flag_text, listing_text, number_text, sized}
use Rattle.part_texts.proofs.Fronts.{files_of_run, fronts_joined, unread}
use Rattle.part_texts.proofs.reading.read_front.Goals as goal
use Rattle.part_texts.proofs.reading.read_front.Goals.{In-Some-flag, In-Some-number}

-- what stands behind each part of a listing's text
abbrev behind_count : Inventory → List ℕ
behind_count l = flat_map file_text l.files

abbrev behind_name : Inventory → List ℕ
behind_name l = number_text (length l.files) ++ behind_count l

abbrev behind_flag : Inventory → List ℕ
behind_flag l = sized l.name ++ behind_name l

abbrev behind_length : Inventory → List ℕ
behind_length l = flag_text l.hybrid ++ behind_flag l

-- what was read so far is what was listed, and what stands behind it
flagged : (c : In-Some-flag) (l : Inventory) (more : List ℕ) → CanBeListed l → c.args.text.now ≡ listing_text l ++ more
    → (c.in-Some.piece_length ≡ l.piece_length) × (c.in-Some-flag.hybrid ≡ l.hybrid)
    × (c.in-Some-flag.text.now ≡ sized l.name ++ (behind_name l ++ more))
flagged c l more can is =
    let a = c.in-Some.ensures.written l.piece_length (behind_length l ++ more) can.piece_length
    (is ∙ append_assoc (number_text l.piece_length) (behind_length l) more) in
    let b = c.in-Some-flag.ensures.written l.hybrid (behind_flag l ++ more) (a.1 ∙ append_assoc (flag_text l.hybrid) (behind_flag l) more) in
    (a.0, b.0, b.1 ∙ append_assoc (sized l.name) (behind_name l) more)

counted : (c : In-Some-number) (l : Inventory) (more : List ℕ) → CanBeListed l → c.args.text.now ≡ listing_text l ++ more
    → (string_bytes c.in_ok-name.name ≡ l.name) × (c.in-Some-number.count ≡ length l.files) × (c.in-Some-number.text.now ≡ behind_count l ++ more)
counted c l more can is =
    let n = c.in_ok-name.ensures.found l.name (behind_name l ++ more) can.name (flagged (goal.at.In-Some-number c).In-Some-flag l more can is).2 in
    let k = c.in-Some-number.ensures.written (length l.files) (behind_count l ++ more) can.files.few
    (n.1 ∙ append_assoc (number_text (length l.files)) (behind_count l) more) in
    (n.0, k.0, k.1)

pub returns-in_err-name-clause-found : goal.returns-in_err-name-clause-found
returns-in_err-name-clause-found c = λ l more can is.
    let p = err_from_is_err_and c.from_residual.result c.from_residual.ensures.1 in
    unread _ _ _ _ _ p.1 p.2 (c.in_err-name.ensures.found l.name (behind_name l ++ more) can.name
    (flagged (goal.at.returns-in_err-name-clause-found c).In-Some-flag l more can is).2)

pub returns-in_err-files-clause-found : goal.returns-in_err-files-clause-found
returns-in_err-files-clause-found c = λ l more can is.
    let k = counted (goal.at.returns-in_err-files-clause-found c).In-Some-number l more can is in
    let p = err_from_is_err_and c.from_residual-in_err-files.result c.from_residual-in_err-files.ensures.1 in
    unread _ _ _ _ _ p.1 p.2 (c.in_err-files.ensures.found l.files more can.files (sym k.1) k.2)

pub returns-clause-found : goal.returns-clause-found
returns-clause-found c = λ l more can is.
    let a = flagged (goal.at.returns-clause-found c).In-Some-flag l more can is in
    let k = counted (goal.at.returns-clause-found c).In-Some-number l more can is in
    let f = c.in_ok-files.ensures.found l.files more can.files (sym k.1) k.2 in
    (λ i. record { name = k.0 i; piece_length = a.0 i; hybrid = a.1 i; files = f.0 i }, f.1)

pub returns-clause-exact : goal.returns-clause-exact
returns-clause-exact c =
    let files = map listed c.in_ok-files.files.items in
    let run = c.in_ok-files.ensures.exact in
    let pieces = number_text c.in-Some.piece_length in
    let kind = flag_text c.in-Some-flag.hybrid in
    let name = sized (string_bytes c.in_ok-name.name) in
    let rest = c.in_ok-files.rest.now in
    let counted : c.in_ok-name.text.now ≡ (number_text (length files) ++ flat_map file_text files) ++ rest =
    c.in-Some-number.ensures.front ∙ ap (λ l. number_text c.in-Some-number.count ++ l) run.text_is
    ∙ sym (append_assoc (number_text c.in-Some-number.count) (flat_map file_text files) rest)
    ∙ ap (λ n. (number_text n ++ flat_map file_text files) ++ rest) (sym run.count_is) in (
      record {
        piece_length = c.in-Some.ensures.small;
        name = c.in_ok-name.ensures.exact.0;
        files = files_of_run _ rest files _ c.in-Some-number.ensures.small run;
      },
      fronts_joined c.args.text.now c.in-Some.text.now c.in-Some-flag.text.now c.in_ok-name.text.now pieces kind name
          (number_text (length files) ++ flat_map file_text files) rest
          c.in-Some.ensures.front c.in-Some-flag.ensures.front c.in_ok-name.ensures.exact.1 counted,
    )
