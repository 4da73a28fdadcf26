-- Rising numbers, and the item of a number when one is found, added, written or taken out.
use Rattle.std.proofs.Common.{◌≡◌, ◌≢◌, ◌⊎◌, ℕ, zero, suc, ◌+◌, ◌-◌, ◌<◌, ◌≤◌, true, false, cond, eqb, List, [], ◌∷◌, length, get_or, set, Some, None, IsSome}
use Rattle.std.proofs.Common.{is_some, Result, Ok, Err, IfOk, IfErr, MatchResult, inl, inr, refl, sym, ap, ap₂, ◌∙◌, subst, arith}
use Rattle.std.specs.List.{insert, remove}
use Rattle.std.specs.List.Sorted.{IsBinarySearchResult}
use Rattle.std.specs.Ordering.{nat_cmp}
use Rattle.std.proofs.lemmas.List.Sorted.{searched}
use Rattle.std.proofs.lemmas.List.Edits.{length-insert, get_or-insert_below, get_or-insert_at, get_or-insert_above, length-remove, get_or-remove_below}
use Rattle.std.proofs.lemmas.List.Edits.{get_or-remove_above}
use Rattle.std.proofs.lemmas.Bool.{cases_lt, eq-eqb}
use Rattle.std.proofs.lemmas.Bool.Decides.{nat_tests}
use Rattle.std.proofs.Math.ListN.{length-set}
use Rattle.node_maps.specs.Rising.{AreNumbersRising, IsNumberAt, IsGapFor, page_numbered}

-- no number before place i is q
abbrev pub NotBefore : List ℕ → ℕ → ℕ → Type 0
NotBefore ns q i = (j : ℕ) → j < i → get_or ns j 0 ≢ q

tail_before : (n : ℕ) (ns : List ℕ) (q i : ℕ) → NotBefore (n ∷ ns) q (suc i) → NotBefore ns q i
tail_before n ns q i free j lt = free (suc j) (omega arith)

tail_at : (n : ℕ) (ns : List ℕ) (q i : ℕ) → IsNumberAt (n ∷ ns) q (suc i) → IsNumberAt ns q i
tail_at n ns q i at = record { in_range = omega (arith, at.in_range); is_number = at.is_number }

-- a number that does not stand there has no item
pub found_absent : {A : Type 0} (ns : List ℕ) (ps : List A) (q : ℕ) → NotBefore ns q (length ns) → page_numbered ns ps q ≡ None
found_absent [] ps q free = refl
found_absent (n ∷ ns) [] q free = refl
found_absent (n ∷ ns) (p ∷ ps) q free = grind (arith, nat_tests, free 0 (omega arith), found_absent ns ps q (tail_before n ns q _ free))

-- the first number that is q has the item beside it
pub found_present : {A : Type 0} (ns : List ℕ) (ps : List A) (q i : ℕ) (d : A) → length ps ≡ length ns → IsNumberAt ns q i → NotBefore ns q i
    → page_numbered ns ps q ≡ Some (get_or ps i d)
found_present [] ps q i d beside at free = absurd (omega (arith, at.in_range))
found_present (n ∷ ns) [] q i d beside at free = absurd (omega arith)
found_present (n ∷ ns) (p ∷ ps) q zero d beside at free = grind (arith, nat_tests, at.is_number)
found_present (n ∷ ns) (p ∷ ps) q (suc i) d beside at free =
    grind (arith, nat_tests, free 0 (omega arith), found_present ns ps q i d (omega arith) (tail_at n ns q i at) (tail_before n ns q i free))

-- a number that stands there has an item
pub found_some : {A : Type 0} (ns : List ℕ) (ps : List A) (q i : ℕ) → length ps ≡ length ns → IsNumberAt ns q i → IsSome (page_numbered ns ps q)
found_some [] ps q i beside at = absurd (omega (arith, at.in_range))
found_some (n ∷ ns) [] q i beside at = absurd (omega arith)
found_some (n ∷ ns) (p ∷ ps) q zero beside at = ap (λ b. is_some (cond b (Some p) (page_numbered ns ps q))) (eq-eqb n q at.is_number)
found_some (n ∷ ns) (p ∷ ps) q (suc i) beside at = elim (eqb n q) as (λ b. IsSome (cond b (Some p) (page_numbered ns ps q))) [
  | true ↦ refl
  | false ↦ found_some ns ps q i (omega arith) (tail_at n ns q i at)
]

-- an item that is written
pub found-set : {A : Type 0} (ns : List ℕ) (ps : List A) (q i : ℕ) (w : A) → length ps ≡ length ns → IsNumberAt ns q i → NotBefore ns q i
    → (r : ℕ) → page_numbered ns (set ps i w) r ≡ cond (eqb q r) (Some w) (page_numbered ns ps r)
found-set [] ps q i w beside at free r = absurd (omega (arith, at.in_range))
found-set (n ∷ ns) [] q i w beside at free r = absurd (omega arith)
found-set (n ∷ ns) (p ∷ ps) q zero w beside at free r = grind (arith, nat_tests, at.is_number)
found-set (n ∷ ns) (p ∷ ps) q (suc i) w beside at free r =
    grind (arith, nat_tests, free 0 (omega arith), found-set ns ps q i w (omega arith) (tail_at n ns q i at) (tail_before n ns q i free) r)

-- an item that is added
pub found-insert : {A : Type 0} (ns : List ℕ) (ps : List A) (q i : ℕ) (w : A) → length ps ≡ length ns → NotBefore ns q i
    → (r : ℕ) → page_numbered (insert ns i q) (insert ps i w) r ≡ cond (eqb q r) (Some w) (page_numbered ns ps r)
found-insert ns ps q zero w beside free r = refl
found-insert [] [] q (suc i) w beside free r = refl
found-insert [] (p ∷ ps) q (suc i) w beside free r = absurd (omega arith)
found-insert (n ∷ ns) [] q (suc i) w beside free r = absurd (omega arith)
found-insert (n ∷ ns) (p ∷ ps) q (suc i) w beside free r =
    grind (arith, nat_tests, free 0 (omega arith), found-insert ns ps q i w (omega arith) (tail_before n ns q i free) r)

-- an item that is taken out
pub found-remove : {A : Type 0} (ns : List ℕ) (ps : List A) (q i : ℕ) → length ps ≡ length ns → IsNumberAt ns q i
    → ((j : ℕ) → j < length ns → j ≢ i → get_or ns j 0 ≢ q)
    → (r : ℕ) → page_numbered (remove ns i) (remove ps i) r ≡ cond (eqb q r) None (page_numbered ns ps r)
found-remove [] ps q i beside at free r = absurd (omega (arith, at.in_range))
found-remove (n ∷ ns) [] q i beside at free r = absurd (omega arith)
found-remove (n ∷ ns) (p ∷ ps) q zero beside at free r =
    grind (arith, nat_tests, at.is_number, found_absent ns ps q (λ j low. free (suc j) (omega arith) (omega arith)))
found-remove (n ∷ ns) (p ∷ ps) q (suc i) beside at free r =
    grind (
      arith,
      nat_tests,
      free 0 (omega arith) (omega arith),
      found-remove ns ps q i (omega arith) (tail_at n ns q i at)
          (λ j low other. free (suc j) (omega arith) (omega arith)) r,
    )

module _ (ns : List ℕ) (rising : AreNumbersRising ns) where
  -- what a binary search answers
  pub searched_at : (q : ℕ) (r : Result ℕ ℕ) → IsBinarySearchResult (λ y. nat_cmp y q) ns r
      → record { at : IfOk r (IsNumberAt ns q); gap : IfErr r (IsGapFor ns q) }
  searched_at q r is = read r (searched ns q r is (λ i j le low. by_order i j low (cases_lt i j) le))
    where
      by_order : (i j : ℕ) → j < length ns → (i < j) ⊎ (j ≤ i) → i ≤ j → get_or ns i 0 ≤ get_or ns j 0
      by_order i j low (inl less) le = omega (arith, rising i j less low)
      by_order i j low (inr more) le = let same : i ≡ j = omega arith in omega (arith, ap (λ k. get_or ns k 0) same)

      read : (r : Result ℕ ℕ) → MatchResult r (λ i. (i < length ns) × (get_or ns i 0 ≡ q)) (λ i. (i ≤ length ns) × ((k : ℕ) → k < i → get_or ns k 0 < q)
          × ((k : ℕ) → i ≤ k → k < length ns → q < get_or ns k 0)) → record { at : IfOk r (IsNumberAt ns q); gap : IfErr r (IsGapFor ns q) }
      read (Ok i) h = record { at = record { in_range = h.0; is_number = h.1 }; gap = tt }
      read (Err i) h = record { at = tt; gap = record { in_range = h.0; below = h.1; above = h.2 } }

  pub not_before_at : (q i : ℕ) → IsNumberAt ns q i → NotBefore ns q i
  not_before_at q i at j lt same = omega (arith, rising j i lt at.in_range, at.is_number)

  pub not_elsewhere : (q i : ℕ) → IsNumberAt ns q i → (j : ℕ) → j < length ns → j ≢ i → get_or ns j 0 ≢ q
  not_elsewhere q i at j low other same = elim (cases_lt j i) [
    | inl less ↦ omega (arith, rising j i less at.in_range, at.is_number)
    | inr more ↦ (let above : i < j = omega arith in omega (arith, rising i j above low, at.is_number))
  ]

pub not_before_gap : (ns : List ℕ) (q i : ℕ) → IsGapFor ns q i → NotBefore ns q i
not_before_gap ns q i gap j lt same = omega (arith, gap.below j lt)

-- a number that has a gap has no item
pub found_gap : {A : Type 0} (ns : List ℕ) (ps : List A) (q i : ℕ) → IsGapFor ns q i → page_numbered ns ps q ≡ None
found_gap ns ps q i gap = found_absent ns ps q
    (λ j lt same. elim (cases_lt j i) [ inl less ↦ omega (arith, gap.below j less) | inr more ↦ omega (arith, gap.above j more lt) ])

rising-insert : (ns : List ℕ) (q at : ℕ) → IsGapFor ns q at → AreNumbersRising ns → AreNumbersRising (insert ns at q)
rising-insert ns q at gap rising i j lt in_range =
    let new : List ℕ = insert ns at q in
    let length_new : length new ≡ suc (length ns) = length-insert ns at q gap.in_range ∙ omega arith in
    let below' : (i : ℕ) → i < at → get_or new i 0 ≡ get_or ns i 0 = λ i below. get_or-insert_below ns at q 0 i below gap.in_range in
    let here : (i : ℕ) → i ≡ at → get_or new i 0 ≡ q = λ i here. rw here (get_or-insert_at ns at q 0 gap.in_range) in
    let above' : (i : ℕ) → at < i → get_or new i 0 ≡ get_or ns (i - 1) 0 =
    λ i above. subst (λ k. get_or new k 0 ≡ get_or ns (i - 1) 0) {x = i - 1 + 1} (omega arith) (get_or-insert_above ns at q 0 (i - 1) (omega arith)
    gap.in_range) in
    grind (arith, below' i, here i, above' i, below' j, here j, above' j, rising i j, rising i (j - 1), rising (i - 1) (j - 1), gap.below i, gap.above (j - 1))

rising-remove : (ns : List ℕ) (at : ℕ) → at < length ns → AreNumbersRising ns → AreNumbersRising (remove ns at)
rising-remove ns at inside rising i j lt in_range =
    let new : List ℕ = remove ns at in
    let length_new : length new + 1 ≡ length ns = length-remove ns at inside in
    let below' : (i : ℕ) → i < at → get_or new i 0 ≡ get_or ns i 0 = λ i below. get_or-remove_below ns at 0 i below inside in
    let above' : (i : ℕ) → at ≤ i → get_or new i 0 ≡ get_or ns (i + 1) 0 = λ i above. get_or-remove_above ns at 0 i above inside in
    grind (arith, below' i, above' i, below' j, above' j, rising i j, rising i (j + 1), rising (i + 1) (j + 1))

-- ---- an item at a number that a search found

-- the number stands among rising numbers, beside each of which there is an item
pub record HasItemAt {A : Type 0} (ns : List ℕ) (xs : List A) (q at : ℕ) : Type 0 where
  pub rising : AreNumbersRising ns
  pub beside : length xs ≡ length ns
  pub is : IsNumberAt ns q at

-- it is not among them, and there is a gap for it
pub record HasGap {A : Type 0} (ns : List ℕ) (xs : List A) (q at : ℕ) : Type 0 where
  pub rising : AreNumbersRising ns
  pub beside : length xs ≡ length ns
  pub gap : IsGapFor ns q at

module _ {A : Type 0} {ns : List ℕ} {xs : List A} {q at : ℕ} (x : HasItemAt ns xs q at) where
  pub stands : (y : A) → y ≡ get_or xs at y → page_numbered ns xs q ≡ Some y
  stands y here = found_present ns xs q at y x.beside x.is (not_before_at ns x.rising q at x.is) ∙ ap Some (sym here)

  pub within_items : at < length xs
  within_items = omega (arith, x.is.in_range, x.beside)

  pub set-found : (w : A) (r : ℕ) → page_numbered ns (set xs at w) r ≡ cond (eqb q r) (Some w) (page_numbered ns xs r)
  set-found w = found-set ns xs q at w x.beside x.is (not_before_at ns x.rising q at x.is)

  pub found-written : (w : A) → HasItemAt ns (set xs at w) q at
  found-written w = record { rising = x.rising; beside = length-set xs at w ∙ x.beside; is = x.is }

  -- both are taken out
  module _ {ms : List ℕ} {ys : List A} (numbers : ms ≡ remove ns at) (items : ys ≡ remove xs at) where
    pub remove-found : (r : ℕ) → page_numbered ms ys r ≡ cond (eqb q r) None (page_numbered ns xs r)
    remove-found r = ap₂ (λ ms ys. page_numbered ms ys r) numbers items ∙ found-remove ns xs q at x.beside x.is (not_elsewhere ns x.rising q at x.is) r

    pub remove-rising : AreNumbersRising ms
    remove-rising = subst AreNumbersRising (sym numbers) (rising-remove ns at x.is.in_range x.rising)

    pub remove-beside : length ys ≡ length ms
    remove-beside =
        omega (arith, ap length numbers, ap length items, length-remove xs at within_items, length-remove ns at x.is.in_range, x.beside)

-- both are added
module _ {A : Type 0} {ns : List ℕ} {xs : List A} {q at : ℕ} (x : HasGap ns xs q at) (w : A) {ms : List ℕ} {ys : List A} (numbers : ms ≡ insert ns at q)
    (items : ys ≡ insert xs at w) where
  pub insert-found : (r : ℕ) → page_numbered ms ys r ≡ cond (eqb q r) (Some w) (page_numbered ns xs r)
  insert-found r = ap₂ (λ ms ys. page_numbered ms ys r) numbers items ∙ found-insert ns xs q at w x.beside (not_before_gap ns q at x.gap) r

  pub insert-rising : AreNumbersRising ms
  insert-rising = subst AreNumbersRising (sym numbers) (rising-insert ns q at x.gap x.rising)

  pub insert-beside : length ys ≡ length ms
  insert-beside =
      let room : at ≤ length xs = omega (arith, x.gap.in_range, x.beside) in
      omega (arith, ap length numbers, ap length items, length-insert xs at w room, length-insert ns at q x.gap.in_range, x.beside)
