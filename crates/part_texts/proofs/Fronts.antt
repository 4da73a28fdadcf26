-- The front of a text that stands for a list, as it is read element by element.
use Rattle.std.proofs.Common.{◌≡◌, ℕ, ◌+◌, ◌^◌, ◌<◌, ◌++◌, ◌∷◌, List, [], drop, get_or, length, map, take, Err, Result, subst, sym, ◌∙◌, ap, append_assoc}
use Rattle.std.proofs.Common.{zero, suc, refl, arith, drop-cons, add-one, length-append}
use Rattle.std.specs.List.{flat_map}
use Rattle.std.proofs.lemmas.List.{flat_map_more, map_push, take_more}
use Rattle.part_texts.specs.Listings.{Listed}
use Rattle.part_texts.specs.Readings.{AreFilesOfListing, ArePath, IsFile, IsRun, IsText, ReadsUnlessNoMemory}
use Rattle.part_texts.specs.Texts.{counted_path_text, file_text, number_text, sized}
use Rattle.part_texts.specs.declared.reading.ListingFault.{ListingFault}
use Rattle.part_texts.specs.declared.reading.ListingFault.TheVariants as fault

-- the next element stands in front
pub next_front : {X : Type 0} (f : X → List ℕ) (xs : List X) (i : ℕ) (d : X) (rest more : List ℕ) → i < length xs → rest ≡ flat_map f (drop i xs) ++ more
    → rest ≡ f (get_or xs i d) ++ (flat_map f (drop (i + 1) xs) ++ more)
next_front f xs i d rest more lt is =
    is ∙ ap (λ l. flat_map f l ++ more) (drop-cons xs i d lt ∙ ap (λ k. get_or xs i d ∷ drop k xs) (sym (add-one i)))
    ∙ append_assoc (f (get_or xs i d)) (flat_map f (drop (i + 1) xs)) more

-- one more element was read
pub one_more_read : {A X : Type 0} (g : A → X) (read : List A) (xs : List X) (i : ℕ) (d : X) (a : A) → i < length xs → map g read ≡ take i xs
    → g a ≡ get_or xs i d → map g (read ++ a ∷ []) ≡ take (i + 1) xs
one_more_read g read xs i d a lt before is =
    map_push g read a ∙ ap (λ l. l ++ g a ∷ []) before ∙ ap (λ x. take i xs ++ x ∷ []) is ∙ sym (take_more xs i d lt)

-- a fault that is passed on says no more of what was to be read
pub unread : {A B : Type 0} (e e' : ListingFault) (r : Result B ListingFault) (P : A → Type 0) (Q : B → Type 0) → r ≡ Err e' → e' ≡ e
    → ReadsUnlessNoMemory {A = A} (Err e) P → ReadsUnlessNoMemory {A = B} r Q
unread {A} {B} e e' r P Q is same read =
    subst (λ x. ReadsUnlessNoMemory {A = B} x Q) (sym is) (subst (λ x. ReadsUnlessNoMemory {A = B} (Err x) Q) (sym same) (faulted e read))
  where
    faulted : (x : ListingFault) → ReadsUnlessNoMemory {A = A} (Err x) P → ReadsUnlessNoMemory {A = B} (Err x) Q
    faulted fault.None failed = failed
    faulted fault.NoMemory failed = tt

-- ---- what was read stands there

-- nothing was read yet
pub run_begun : {A : Type 0} (write : A → List ℕ) (MayBe : A → Type 0) (text : List ℕ) (run : List A) → run ≡ [] → IsRun write MayBe text 0 run text
run_begun {A} write MayBe text run none =
    let P : List A → Type 0 = λ xs. IsRun write MayBe text 0 xs text in
    subst P (sym none) (record { count_is = refl; each = λ i d lt. absurd (omega (arith, lt)); text_is = refl })

last_of : {A : Type 0} (MayBe : A → Type 0) (run : List A) (a : A) → MayBe a → ((i : ℕ) (d : A) → i < length run → MayBe (get_or run i d))
    → (i : ℕ) (d : A) → i < length (run ++ a ∷ []) → MayBe (get_or (run ++ a ∷ []) i d)
last_of MayBe [] a may each zero d lt = may
last_of MayBe [] a may each (suc i) d lt = absurd (omega (arith, lt))
last_of MayBe (x ∷ run) a may each zero d lt = each 0 d (omega arith)
last_of MayBe (x ∷ run) a may each (suc i) d lt = last_of MayBe run a may (λ j e low. each (suc j) e (omega (arith, low))) i d (omega (arith, lt))

-- one more was read
pub run_more : {A : Type 0} (write : A → List ℕ) (MayBe : A → Type 0) (text : List ℕ) (count : ℕ) (run next : List A) (a : A) (rest behind : List ℕ)
    → next ≡ run ++ a ∷ [] → MayBe a → rest ≡ write a ++ behind → IsRun write MayBe text count run rest → IsRun write MayBe text (count + 1) next behind
run_more {A} write MayBe text count run next a rest behind is may front so_far =
    let P : List A → Type 0 = λ xs. IsRun write MayBe text (count + 1) xs behind in
    subst P (sym is) (record {
      count_is = omega (arith, length-append run (a ∷ []), so_far.count_is);
      each = last_of MayBe run a may so_far.each;
      text_is = so_far.text_is ∙ ap (λ l. flat_map write run ++ l) front ∙ sym (append_assoc (flat_map write run) (write a) behind)
          ∙ ap (λ l. l ++ behind) (flat_map_more write [] run a);
    })

-- all were read
pub run_ended : {A : Type 0} (write : A → List ℕ) (MayBe : A → Type 0) (text : List ℕ) (count n : ℕ) (run : List A) (rest : List ℕ) → count ≡ n
    → IsRun write MayBe text count run rest → IsRun write MayBe text n run rest
run_ended write MayBe text count n run rest same so_far = subst (λ k. IsRun write MayBe text k run rest) same so_far

-- ---- what a run is

pub path_of_run : (text rest : List ℕ) (path : List (List ℕ)) (count : ℕ) → count < 2 ^ 64 → IsRun sized IsText text count path rest → ArePath path
path_of_run text rest path count small run = record { few = omega (arith, small, run.count_is); texts = λ i lt. run.each i [] lt }

pub path_text_of_run : (text rest : List ℕ) (path : List (List ℕ)) (count : ℕ) (front : List ℕ) → front ≡ number_text count ++ text
    → IsRun sized IsText text count path rest → front ≡ counted_path_text path ++ rest
path_text_of_run text rest path count front is run =
    is ∙ ap (λ l. number_text count ++ l) run.text_is ∙ sym (append_assoc (number_text count) (flat_map sized path) rest)
    ∙ ap (λ n. (number_text n ++ flat_map sized path) ++ rest) (sym run.count_is)

pub files_of_run : (text rest : List ℕ) (files : List Listed) (count : ℕ) → count < 2 ^ 64 → IsRun file_text IsFile text count files rest
    → AreFilesOfListing files
files_of_run text rest files count small run = record { few = omega (arith, small, run.count_is); each = run.each }

-- four fronts in turn are one
pub fronts_joined : (text one two three a b c d rest : List ℕ) → text ≡ a ++ one → one ≡ b ++ two → two ≡ c ++ three → three ≡ d ++ rest
    → text ≡ (a ++ (b ++ (c ++ d))) ++ rest
fronts_joined text one two three a b c d rest first second third last =
    first ∙ ap (λ l. a ++ l) (second ∙ ap (λ l. b ++ l) (third ∙ ap (λ l. c ++ l) last))
    ∙ simp append_assoc
