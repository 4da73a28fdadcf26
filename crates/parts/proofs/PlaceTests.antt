-- Whether a file has a place in a part, and the lines of those that have.
use Rattle.std.proofs.Common.{◌≡◌, ℕ, ◌+◌, ◌<◌, ◌≤◌, ◌++◌, ◌∷◌, max, Bool, true, false, IsTrue, ◌&&◌, nat_le}
use Rattle.std.proofs.Common.{nat_lt, List, length, drop, map, get_or, refl, ap, ◌∙◌, arith}
use Rattle.std.proofs.lemmas.Grind.{flat_map-append}
use Rattle.std.proofs.lemmas.List.{drop_more}
use Rattle.lines.specs.Rows.{Spelling, spell}
use Rattle.opening.specs.Description.{Description, FileEntry}
use Rattle.opening.specs.Seen.{file_entry}
use Rattle.opening.specs.declared.torrent.File.{File}
use Rattle.folders.specs.declared.report.FileVerdict.{FileVerdict}
use Rattle.folders.specs.declared.report.FileVerdict.TheVariants.{Good}
use Rattle.printing.proofs.Parts.{item_next}
use Rattle.parts.specs.PartLines.{has_place, held_rows, place_rows}
use Rattle.parts.specs.Parts.{Touches, last_place}
use Rattle.parts.specs.declared.places.Places.{Places}

-- two tests that follow from each other are one
one_test : (a b : Bool) → (IsTrue a → IsTrue b) → (IsTrue b → IsTrue a) → a ≡ b
one_test true true to from = refl
one_test true false to from = let e : false ≡ true = to refl in (let x : ⊥ = cc in absurd x)
one_test false true to from = let e : false ≡ true = from refl in (let x : ⊥ = cc in absurd x)
one_test false false to from = refl

both_true : (a b : Bool) → IsTrue (a && b) → IsTrue a × IsTrue b
both_true true b both = (refl, both)
both_true false b both = let e : false ≡ true = both in (let x : ⊥ = cc in absurd x)

true_both : (a b : Bool) → IsTrue a → IsTrue b → IsTrue (a && b)
true_both true b one other = other
true_both false b one other = one

at_most : (a b : ℕ) → IsTrue (nat_le a b) → a ≤ b
at_most a b is = grind arith

is_at_most : (a b : ℕ) → a ≤ b → IsTrue (nat_le a b)
is_at_most a b le = grind arith

below : (a b : ℕ) → IsTrue (nat_lt a b) → a < b
below a b is = grind arith

is_below : (a b : ℕ) → a < b → IsTrue (nat_lt a b)
is_below a b lt = grind arith

pub has_to_touch : (t : Description) (r : Places) (f : FileEntry) → IsTrue (has_place t r f) → Touches t r f
has_to_touch t r f is =
    let held : ℕ = max r.from f.first_piece in
    let two = both_true (nat_le held (last_place t f)) (nat_lt held r.to) is in
    (held, omega arith, at_most held (last_place t f) two.0, (omega arith, below held r.to two.1))

pub touch_to_has : (t : Description) (r : Places) (f : FileEntry) → Touches t r f → IsTrue (has_place t r f)
touch_to_has t r f touched =
    let held : ℕ = max r.from f.first_piece in
    true_both (nat_le held (last_place t f)) (nat_lt held r.to)
    (is_at_most held (last_place t f) (omega (arith, touched.1, touched.2, touched.3.0)))
    (is_below held r.to (omega (arith, touched.1, touched.3.0, touched.3.1)))

-- their test says whether the file touches the places
pub place_test : (t : Description) (r : Places) (f : FileEntry) (b : Bool) → (IsTrue b → Touches t r f) × (Touches t r f → IsTrue b) → b ≡ has_place t r f
place_test t r f b is =
    one_test b (has_place t r f) (λ on. touch_to_has t r f (is.0 on)) (λ on. is.1 (has_to_touch t r f on))

-- the line at an index, and those behind it
pub next_line : (spelled : Spelling) (t : Description) (r : Places) (verdicts : List FileVerdict) (files : List File) (i : ℕ) (file : File)
    → i < length verdicts → i < length files → file ≡ get_or files i file
    → spell spelled (place_rows t r (drop i verdicts) (map file_entry (drop i files)))
    ≡ spell spelled (held_rows (has_place t r (file_entry file)) (get_or verdicts i Good) (file_entry file))
    ++ spell spelled (place_rows t r (drop (i + 1) verdicts) (map file_entry (drop (i + 1) files)))
next_line spelled t r verdicts files i file lt within there =
    let v = get_or verdicts i Good in
    let vs = drop (i + 1) verdicts in
    let fs = map file_entry (drop (i + 1) files) in
    ap (λ all. spell spelled (place_rows t r all (map file_entry (drop i files)))) (drop_more verdicts i Good lt)
    ∙ ap (λ all. spell spelled (place_rows t r (v ∷ vs) (map file_entry all))) (item_next files i file within there)
    ∙ flat_map-append spelled (held_rows (has_place t r (file_entry file)) v (file_entry file)) (place_rows t r vs fs)
