-- What the matcher finds is what a glob leaves out.
use Rattle.std.proofs.Common.{◌≡◌, ◌⊎◌, inl, inr, ℕ, ◌==◌, Bool, true, false, ◌&&◌, ◌||◌, true≢false, List, [], ◌∷◌, ◌++◌, length, refl, sym, ap, ◌∙◌}
use Rattle.std.proofs.Common.{append_assoc, arith}
use Rattle.std.specs.List.{list_all}
use Rattle.std.proofs.lemmas.Bool.Decides.{Decides-eqb}
use Rattle.globs.specs.Globs.{Choice, Kind, LeavesOutBelow, Whole, ends_in_slash, folders, leaves_out, letter, matches, may_follow, part_matches, run, slash}
use Rattle.globs.specs.Globs.{some_leaves_out, some_leaves_out_folder, some_split, takes}
use Rattle.globs.specs.Matching.{found, mark, with_none}

-- ---- tests

and_parts : (a b : Bool) → (a && b) ≡ true → (a ≡ true) × (b ≡ true)
and_parts true b e = (refl, e)
and_parts false b e = absurd (true≢false (sym e))

or_cases : (a b : Bool) → (a || b) ≡ true → (a ≡ true) ⊎ (b ≡ true)
or_cases true b e = inl refl
or_cases false b e = inr e

pub or_left : (a b : Bool) → a ≡ true → (a || b) ≡ true
or_left a b e = ap (λ x. x || b) e

pub or_right : (a b : Bool) → b ≡ true → (a || b) ≡ true
or_right true b e = refl
or_right false b e = e

and_true : (a b : Bool) → a ≡ true → b ≡ true → (a && b) ≡ true
and_true a b e f = ap (λ x. x && b) e ∙ f

same_test : (a b : Bool) → (a ≡ true → b ≡ true) → (b ≡ true → a ≡ true) → a ≡ b
same_test true true f g = refl
same_test true false f g = sym (f refl)
same_test false true f g = g refl
same_test false false f g = refl

-- ---- texts

is_none : (text : List ℕ) → (length text == 0) ≡ true → text ≡ []
is_none [] e = refl
is_none (c ∷ text) e =
    let none : length (c ∷ text) ≡ 0 = (Decides-eqb (length (c ∷ text)) 0).0 e in
    absurd (omega (arith, none))

-- a text of one character that passes a test
is_one : (test : ℕ → Bool) (text : List ℕ) → (length text == 1) ≡ true → list_all test text ≡ true → (c : ℕ) × (text ≡ c ∷ []) × (test c ≡ true)
is_one test [] e all = absurd (true≢false (sym e))
is_one test (c ∷ []) e all = (c, refl, (and_parts (test c) (list_all test []) all).0)
is_one test (c ∷ d ∷ text) e all =
    let one : length (c ∷ d ∷ text) ≡ 1 = (Decides-eqb (length (c ∷ d ∷ text)) 1).0 e in
    absurd (omega (arith, one))

slash_ends : (above : List ℕ) → ends_in_slash (above ++ slash ∷ []) ≡ true
slash_ends [] = refl
slash_ends (c ∷ above) = or_right (length (above ++ slash ∷ []) == 0 && c == slash) (ends_in_slash (above ++ slash ∷ [])) (slash_ends above)

above_slash : (text : List ℕ) → ends_in_slash text ≡ true → (above : List ℕ) × (text ≡ above ++ slash ∷ [])
above_slash [] e = absurd (true≢false (sym e))
above_slash (c ∷ text) e =
    elim (or_cases (length text == 0 && c == slash) (ends_in_slash text) e) [
      | inl here ↦
          let both = and_parts (length text == 0) (c == slash) here in
          ([], ap (λ t. c ∷ t) (is_none text both.0) ∙ ap (λ x. x ∷ []) ((Decides-eqb c slash).0 both.1))
      | inr more ↦
          let rest = above_slash text more in
          (c ∷ rest.0, ap (λ t. c ∷ t) rest.1)
    ]

-- ---- splits

abbrev Split : (List ℕ → List ℕ → Bool) → List ℕ → Type 0
Split test text = (front back : List ℕ) × (text ≡ front ++ back) × (test front back ≡ true)

split_of : (test : List ℕ → List ℕ → Bool) (text : List ℕ) → some_split test text ≡ true → Split test text
split_of test [] e = ([], [], refl, e)
split_of test (c ∷ text) e =
    elim (or_cases (test [] (c ∷ text)) (some_split (λ front back. test (c ∷ front) back) text) e) [
      | inl here ↦ ([], c ∷ text, refl, here)
      | inr more ↦
          let rest = split_of (λ front back. test (c ∷ front) back) text more in
          (c ∷ rest.0, rest.1, ap (λ t. c ∷ t) rest.2, rest.3)
    ]

some_split_at : (test : List ℕ → List ℕ → Bool) (front back : List ℕ) → test front back ≡ true → some_split test (front ++ back) ≡ true
some_split_at test [] [] e = e
some_split_at test [] (c ∷ back) e = or_left (test [] (c ∷ back)) (some_split (λ f b. test (c ∷ f) b) back) e
some_split_at test (c ∷ front) back e =
    or_right (test [] (c ∷ (front ++ back))) (some_split (λ f b. test (c ∷ f) b) (front ++ back)) (some_split_at (λ f b. test (c ∷ f) b) front back e)

-- ---- what is found is left out

abbrev Begins : Kind → (List ℕ → Bool) → List ℕ → Type 0
Begins part after text = (front back : List ℕ) × (text ≡ front ++ back) × (part_matches part front ≡ true) × (after back ≡ true)

run_begins : (choice : Choice) (after : List ℕ → Bool) (text : List ℕ) → mark (run choice) after text ≡ true → Begins (run choice) after text
run_begins choice after [] e = ([], [], refl, refl, e)
run_begins choice after (c ∷ text) e =
    elim (or_cases (after (c ∷ text)) (mark (run choice) after text && takes choice c) e) [
      | inl here ↦ ([], c ∷ text, refl, refl, here)
      | inr more ↦
          let both = and_parts (mark (run choice) after text) (takes choice c) more in
          let rest = run_begins choice after text both.0 in
          (c ∷ rest.0, rest.1, ap (λ t. c ∷ t) rest.2, and_true (takes choice c) (list_all (takes choice) rest.0) both.1 rest.3, rest.4)
    ]

abbrev Below : (List ℕ → Bool) → List ℕ → Type 0
Below after text = (above back : List ℕ) × (text ≡ (above ++ slash ∷ []) ++ back) × (after back ≡ true)

below_folders : (after : List ℕ → Bool) (text : List ℕ) → mark folders after text ≡ true → Below after text
below_folders after [] e = absurd (true≢false (sym e))
below_folders after (c ∷ text) e =
    elim (or_cases (mark folders after text) (after text && c == slash) e) [
      | inl more ↦
          let rest = below_folders after text more in
          (c ∷ rest.0, rest.1, ap (λ t. c ∷ t) rest.2, rest.3)
      | inr here ↦
          let both = and_parts (after text) (c == slash) here in
          let is : c ≡ slash = (Decides-eqb c slash).0 both.1 in
          ([], text, ap (λ x. x ∷ text) is, both.0)
    ]

part_begins : (part : Kind) (after : List ℕ → Bool) (text : List ℕ) → with_none part (mark part after text) (after text) ≡ true → Begins part after text
part_begins (letter choice) after [] e = absurd (true≢false (sym e))
part_begins (letter choice) after (c ∷ text) e =
    let both = and_parts (after text) (takes choice c) e in
    (c ∷ [], text, refl, and_true (takes choice c) (list_all (takes choice) []) both.1 refl, both.0)
part_begins (run choice) after text e = run_begins choice after text e
part_begins folders after text e =
    elim (or_cases (mark folders after text) (after text) e) [
      | inl below ↦
          let rest = below_folders after text below in
          let front = rest.0 ++ slash ∷ [] in
          (front, rest.1, rest.2, or_right (length front == 0) (ends_in_slash front) (slash_ends rest.0), rest.3)
      | inr here ↦ ([], text, refl, refl, here)
    ]

found_left_out : (alone : Bool) (parts : List Kind) (text : List ℕ) → found alone parts text ≡ true → leaves_out (parts, alone) text ≡ true
found_left_out alone [] text e = some_split_at (λ front back. matches [] front && may_follow alone back) [] text e
found_left_out alone (part ∷ parts) text e =
    let begins = part_begins part (found alone parts) text e in
    let rest = split_of (λ front back. matches parts front && may_follow alone back) begins.1 (found_left_out alone parts begins.1 begins.4) in
    let both = and_parts (matches parts rest.0) (may_follow alone rest.1) rest.3 in
    let front = begins.0 ++ rest.0 in
    let matched : matches (part ∷ parts) front ≡ true =
    some_split_at (λ f b. part_matches part f && matches parts b) begins.0 rest.0
    (and_true (part_matches part begins.0) (matches parts rest.0) begins.3 both.0) in
    let whole : text ≡ front ++ rest.1 = begins.2 ∙ ap (λ t. begins.0 ++ t) rest.2 ∙ sym (append_assoc begins.0 rest.0 rest.1) in
    ap (leaves_out (part ∷ parts, alone)) whole
    ∙ some_split_at (λ f b. matches (part ∷ parts) f && may_follow alone b) front rest.1
    (and_true (matches (part ∷ parts) front) (may_follow alone rest.1) matched both.1)

-- ---- what is left out is found

run_here : (choice : Choice) (after : List ℕ → Bool) (text : List ℕ) → after text ≡ true → mark (run choice) after text ≡ true
run_here choice after [] e = e
run_here choice after (c ∷ text) e = or_left (after (c ∷ text)) (mark (run choice) after text && takes choice c) e

run_found : (choice : Choice) (after : List ℕ → Bool) (front text : List ℕ) → list_all (takes choice) front ≡ true → after text ≡ true
    → mark (run choice) after (front ++ text) ≡ true
run_found choice after [] text all e = run_here choice after text e
run_found choice after (c ∷ front) text all e =
    let both = and_parts (takes choice c) (list_all (takes choice) front) all in
    or_right (after (c ∷ (front ++ text))) (mark (run choice) after (front ++ text) && takes choice c)
    (and_true (mark (run choice) after (front ++ text)) (takes choice c) (run_found choice after front text both.1 e) both.0)

below_found : (after : List ℕ → Bool) (above text : List ℕ) → after text ≡ true → mark folders after ((above ++ slash ∷ []) ++ text) ≡ true
below_found after [] text e = or_right (mark folders after text) (after text && slash == slash) (and_true (after text) (slash == slash) e refl)
below_found after (c ∷ above) text e =
    let rest = (above ++ slash ∷ []) ++ text in
    or_left (mark folders after rest) (after rest && c == slash) (below_found after above text e)

part_found : (part : Kind) (after : List ℕ → Bool) (front text : List ℕ) → part_matches part front ≡ true → after text ≡ true
    → with_none part (mark part after (front ++ text)) (after (front ++ text)) ≡ true
part_found (letter choice) after front text matched e =
    let both = and_parts (length front == 1) (list_all (takes choice) front) matched in
    let one = is_one (takes choice) front both.0 both.1 in
    ap (λ f. mark (letter choice) after (f ++ text)) one.1 ∙ and_true (after text) (takes choice one.0) e one.2
part_found (run choice) after front text matched e = run_found choice after front text matched e
part_found folders after front text matched e =
    elim (or_cases (length front == 0) (ends_in_slash front) matched) [
      | inl none ↦ or_right (mark folders after (front ++ text)) (after (front ++ text)) (ap (λ f. after (f ++ text)) (is_none front none) ∙ e)
      | inr ends ↦
          let some = above_slash front ends in
          or_left (mark folders after (front ++ text)) (after (front ++ text))
          (ap (λ f. mark folders after (f ++ text)) some.1 ∙ below_found after some.0 text e)
    ]

matches_found : (alone : Bool) (parts : List Kind) (front back : List ℕ) → matches parts front ≡ true → may_follow alone back ≡ true
    → found alone parts (front ++ back) ≡ true
matches_found alone [] front back matched follows = ap (λ f. may_follow alone (f ++ back)) (is_none front matched) ∙ follows
matches_found alone (part ∷ parts) front back matched follows =
    let split = split_of (λ f b. part_matches part f && matches parts b) front matched in
    let f = split.0 in
    let g = split.1 in
    let both = and_parts (part_matches part f) (matches parts g) split.3 in
    let whole : front ++ back ≡ f ++ (g ++ back) = ap (λ t. t ++ back) split.2 ∙ append_assoc f g back in
    ap (found alone (part ∷ parts)) whole
    ∙ part_found part (found alone parts) f (g ++ back) both.0 (matches_found alone parts g back both.1 follows)

left_out_found : (alone : Bool) (parts : List Kind) (text : List ℕ) → leaves_out (parts, alone) text ≡ true → found alone parts text ≡ true
left_out_found alone parts text left =
    let split = split_of (λ front back. matches parts front && may_follow alone back) text left in
    let both = and_parts (matches parts split.0) (may_follow alone split.1) split.3 in
    ap (found alone parts) split.2 ∙ matches_found alone parts split.0 split.1 both.0 both.1

pub found_is_left_out : (alone : Bool) (parts : List Kind) (text : List ℕ) → found alone parts text ≡ leaves_out (parts, alone) text
found_is_left_out alone parts text =
    same_test (found alone parts text) (leaves_out (parts, alone) text) (found_left_out alone parts text) (left_out_found alone parts text)

-- ---- below a folder

follows_below : (alone : Bool) (back below : List ℕ) → may_follow false back ≡ true → may_follow alone (back ++ slash ∷ below) ≡ true
follows_below alone [] below e = refl
follows_below alone (c ∷ back) below e = e

folder_below : (glob : Whole) (path below : List ℕ) → leaves_out (glob.0, false) path ≡ true → leaves_out glob (path ++ slash ∷ below) ≡ true
folder_below (parts, alone) path below left =
    let split = split_of (λ front back. matches parts front && may_follow false back) path left in
    let both = and_parts (matches parts split.0) (may_follow false split.1) split.3 in
    let back = split.1 ++ slash ∷ below in
    let whole : path ++ slash ∷ below ≡ split.0 ++ back = ap (λ t. t ++ slash ∷ below) split.2 ∙ append_assoc split.0 split.1 (slash ∷ below) in
    ap (leaves_out (parts, alone)) whole
    ∙ some_split_at (λ f b. matches parts f && may_follow alone b) split.0 back
    (and_true (matches parts split.0) (may_follow alone back) both.0 (follows_below alone split.1 below both.1))

pub all_below : (globs : List Whole) (path : List ℕ) → some_leaves_out_folder globs path ≡ true → LeavesOutBelow globs path
all_below [] path left below = absurd (true≢false (sym left))
all_below (glob ∷ globs) path left below =
    elim (or_cases (leaves_out (glob.0, false) path) (some_leaves_out_folder globs path) left) [
      | inl here ↦ or_left (leaves_out glob (path ++ slash ∷ below)) (some_leaves_out globs (path ++ slash ∷ below)) (folder_below glob path below here)
      | inr more ↦ or_right (leaves_out glob (path ++ slash ∷ below)) (some_leaves_out globs (path ++ slash ∷ below)) (all_below globs path more below)
    ]
