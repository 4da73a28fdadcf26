-- The pages of a layer, when one is added, written or given back.
use Rattle.std.proofs.Common.{◌≡◌, ◌≢◌, ◌⊎◌, ℕ, zero, suc, ◌^◌, Bool, true, false, cond, eqb, ◌||◌, List, [], ◌∷◌, ◌++◌, get_or, set}
use Rattle.std.proofs.Common.{Bor, Option, Some, None, IsSome, is_some, ◌/◌, ◌%◌, inl, inr, refl, sym, ap, ◌∙◌, subst, arith}
use Rattle.std.proofs.lemmas.Bool.{cases_eq, false≢true, cond-true, cond-false, eq-eqb, ne_eqb, or_left}
use Rattle.std.proofs.lemmas.Bool.Decides.{nat_tests}
use Rattle.node_maps.specs.declared.page.Cell.{Cell}
use Rattle.node_maps.specs.declared.page.Cell.TheVariants.{Empty, Known, Marked}
use Rattle.node_maps.specs.declared.page.Page.{Page}
use Rattle.node_maps.specs.Digest.{Hash}
use Rattle.node_maps.specs.Cell.{is_blank, mark_of, with_hash}
use Rattle.std.proofs.lemmas.List.{get_or-set_same}
use Rattle.std.specs.Bool.{OnTrue}
use Rattle.std.specs.Option.{option_map}
use Rattle.std.specs.List.{insert, remove}
use Rattle.node_maps.specs.Rising.{IsGapFor, page_numbered}
use Rattle.node_maps.proofs.Rising.{HasItemAt, HasGap, stands, found_gap, set-found, found-written, insert-found, remove-found, within_items}
use Rattle.node_maps.specs.Pages.{Numbered, page_within, find_under, cell_of, cell_in, is_among, is_spare, AreAlike, IsChanged, IsPut, AreSpare}

-- ---- the fresh numbers

pub among-push : (q n : ℕ) (ns : List ℕ) → is_among q (ns ++ n ∷ []) ≡ (is_among q ns || eqb n q)
among-push q n [] = grind (arith, nat_tests)
among-push q n (x ∷ ns) = ap (λ b. eqb x q || b) (among-push q n ns) ∙ assoc (eqb x q) (is_among q ns) (eqb n q)
  where
    assoc : (a b c : Bool) → (a || (b || c)) ≡ ((a || b) || c)
    assoc true b c = refl
    assoc false b c = refl

pub still_among : (r q : ℕ) (left : List ℕ) → r ≢ q → is_among r (left ++ q ∷ []) ≡ true → is_among r left ≡ true
still_among r q left other e = or-false-right (is_among r left) (eqb q r) (ne_eqb q r (λ s. other (sym s))) (sym (among-push r q left) ∙ e)
  where
    or-false-right : (a b : Bool) → b ≡ false → (a || b) ≡ true → a ≡ true
    or-false-right true b f e = refl
    or-false-right false b f e = absurd (false≢true (sym f ∙ e))

pub or_right : (a b : Bool) → b ≡ true → (a || b) ≡ true
or_right true b e = refl
or_right false b e = e

-- ---- cells

-- whether the cell holds nothing
abbrev is_empty : Cell → Bool
is_empty Empty = true
is_empty (Known h) = false
is_empty (Marked h) = false

pub blank-empty : (cs : List Cell) (o : ℕ) → is_blank cs ≡ true → get_or cs o Empty ≡ Empty
blank-empty [] o e = refl
blank-empty (Empty ∷ cs) zero e = refl
blank-empty (Empty ∷ cs) (suc o) e = blank-empty cs o e
blank-empty (Known h ∷ cs) o e = absurd (false≢true e)
blank-empty (Marked h ∷ cs) o e = absurd (false≢true e)

-- ---- pages that change at one number

module _ (f g : Numbered) (q : ℕ) (o : Option Page) (is : (r : ℕ) → g r ≡ cond (eqb q r) o (f r)) where
  pub changed_here : g q ≡ o
  changed_here = is q ∙ cond-true (eqb q q) o (f q) (eq-eqb q q refl)

  pub changed_other : (r : ℕ) → r ≢ q → g r ≡ f r
  changed_other r other = is r ∙ cond-false (eqb q r) o (f r) (ne_eqb q r (λ e. other (sym e)))

  -- the same cells, where the page has the cells that were there
  pub changed_alike : ((k : ℕ) → cell_of o k ≡ cell_of (f q) k) → (i : ℕ) → cell_of (g (i / 512)) (i % 512) ≡ cell_of (f (i / 512)) (i % 512)
  changed_alike alike i = elim (cases_eq (i / 512) q) [
    | inl same ↦ ap (λ n. cell_of (g n) (i % 512)) same ∙ ap (λ x. cell_of x (i % 512)) changed_here ∙ alike (i % 512)
        ∙ sym (ap (λ n. cell_of (f n) (i % 512)) same)
    | inr other ↦ ap (λ x. cell_of x (i % 512)) (changed_other (i / 512) other)
  ]

pub on_true : (b : Bool) (P : Type 0) → OnTrue b P → b ≡ true → P
on_true true P h e = h
on_true false P h e = absurd (false≢true e)

-- ---- nodes of indexes

-- an index whose pages change at one number changes what stands on it at that number
module _ {D : Type 0} (find : D → Numbered) (key : ℕ → ℕ) (f g : ℕ → Option D) (q : ℕ) (d : Option D) (page : Option Page)
    (is : (r : ℕ) → g r ≡ cond (eqb (key q) r) d (f r)) (below : IsChanged q page (page_within find (f (key q))) (page_within find d)) where
  pub under_changed : IsChanged q page (λ n. page_within find (f (key n)) n) (λ n. page_within find (g (key n)) n)
  under_changed n = by_key (cases_eq (key q) (key n))
    where
      by_key : (key q ≡ key n) ⊎ (key q ≢ key n) → page_within find (g (key n)) n ≡ cond (eqb q n) page (page_within find (f (key n)) n)
      by_key (inl same) =
          ap (λ o. page_within find o n) (is (key n) ∙ cond-true (eqb (key q) (key n)) d (f (key n)) (eq-eqb (key q) (key n) same))
          ∙ below n ∙ ap (λ k. cond (eqb q n) page (page_within find (f k) n)) same
      by_key (inr other) =
          ap (λ o. page_within find o n) (is (key n) ∙ cond-false (eqb (key q) (key n)) d (f (key n)) (ne_eqb (key q) (key n) other))
          ∙ sym (cond-false (eqb q n) page (page_within find (f (key n)) n) (ne_eqb q n (λ e. other (ap key e))))

-- ---- one number changes

pub changed-self : (q : ℕ) (o : Option Page) (f g : Numbered) → IsChanged q o f g → IsChanged q (g q) f g
changed-self q o f g is n = is n ∙ ap (λ x. cond (eqb q n) x (f n)) (sym (changed_here f g q o is))

-- a number that has no page has none to give back
pub absent-changed : (q : ℕ) (f : Numbered) → f q ≡ None → IsChanged q None f f
absent-changed q f none n = by_number (cases_eq q n)
  where
    by_number : (q ≡ n) ⊎ (q ≢ n) → f n ≡ cond (eqb q n) None (f n)
    by_number (inl same) = ap f (sym same) ∙ none ∙ sym (cond-true (eqb q n) None (f n) (eq-eqb q n same))
    by_number (inr other) = sym (cond-false (eqb q n) None (f n) (ne_eqb q n other))

-- ---- a cell of a page is written

module _ (place : ℕ) (hash : Hash) (mark : Bool) where
  pub put-changed : (q : ℕ) (f g : Numbered) (p w : Page) → f q ≡ Some p → IsChanged q (Some w) f g → IsPut place hash mark (Some p) (Some w)
      → IsPut place hash mark (f q) (g q)
  put-changed q f g p w before is put = subst (λ x. IsPut place hash mark x (g q)) (sym before)
      (subst (IsPut place hash mark (Some p)) (sym (changed_here f g q (Some w) is)) put)

alike-changed : (q : ℕ) (f g : Numbered) → AreAlike f g → IsChanged q (f q) f g
alike-changed q f g alike n = alike n ∙ by_number (cases_eq q n)
  where
    by_number : (q ≡ n) ⊎ (q ≢ n) → f n ≡ cond (eqb q n) (f q) (f n)
    by_number (inl same) = ap f (sym same) ∙ sym (cond-true (eqb q n) (f q) (f n) (eq-eqb q n same))
    by_number (inr other) = sym (cond-false (eqb q n) (f q) (f n) (ne_eqb q n other))

changed-alike : (q : ℕ) (o : Option Page) (f g : Numbered) → o ≡ f q → IsChanged q o f g → AreAlike f g
changed-alike q o f g same is n = is n ∙ by_number (cases_eq q n)
  where
    by_number : (q ≡ n) ⊎ (q ≢ n) → cond (eqb q n) o (f n) ≡ f n
    by_number (inl e) = cond-true (eqb q n) o (f n) (eq-eqb q n e) ∙ same ∙ ap f e
    by_number (inr other) = cond-false (eqb q n) o (f n) (ne_eqb q n other)

changed-twice : (q : ℕ) (o : Option Page) (f g h : Numbered) → IsChanged q o f g → IsChanged q o g h → IsChanged q o f h
changed-twice q o f g h first second n = second n ∙ ap (cond (eqb q n) o) (first n) ∙ twice (eqb q n)
  where
    twice : (b : Bool) → cond b o (cond b o (f n)) ≡ cond b o (f n)
    twice true = refl
    twice false = refl

-- ---- a number whose first bits a search found

pub under_gap : {D : Type 0} (find : D → Numbered) (ns : List ℕ) (ds : List D) (shift q at : ℕ) → IsGapFor ns (q / 2 ^ shift) at
    → find_under find ns ds shift q ≡ None
under_gap find ns ds shift q at gap = ap (λ o. page_within find o q) (found_gap ns ds (q / 2 ^ shift) at gap)

pub under-insert : {D : Type 0} (find : D → Numbered) {ns : List ℕ} {ds : List D} {at : ℕ} (shift q : ℕ) (x : HasGap ns ds (q / 2 ^ shift) at)
    → (empty : Numbered) → ((n : ℕ) → empty n ≡ None) → (w : D) (page : Option Page) → IsChanged q page empty (find w) → {ms : List ℕ} {ys : List D}
    → ms ≡ insert ns at (q / 2 ^ shift) → ys ≡ insert ds at w → IsChanged q page (find_under find ns ds shift) (find_under find ms ys shift)
under-insert find {ns} {ds} {at} shift q x empty none w page below {ms} {ys} numbers items =
    under_changed find (λ n. n / 2 ^ shift) (page_numbered ns ds) (page_numbered ms ys) q (Some w) page (insert-found x w numbers items)
    (λ n. below n ∙ ap (cond (eqb q n) page) (none n ∙ sym (ap (λ o. page_within find o n) (found_gap ns ds (q / 2 ^ shift) at x.gap))))

-- an index that is empty is given back
under-remove : {D : Type 0} (find : D → Numbered) {ns : List ℕ} {ds : List D} {at : ℕ} (shift q : ℕ) (x : HasItemAt ns ds (q / 2 ^ shift) at)
    → (d : D) → d ≡ get_or ds at d → ((n : ℕ) → find d n ≡ None) → {ms : List ℕ} {ys : List D} → ms ≡ remove ns at → ys ≡ remove ds at
    → IsChanged q None (find_under find ns ds shift) (find_under find ms ys shift)
under-remove find {ns} {ds} {at} shift q x d here none {ms} {ys} numbers items =
    under_changed find (λ n. n / 2 ^ shift) (page_numbered ns ds) (page_numbered ms ys) q None None (remove-found x numbers items)
    (λ n. sym (ap (cond (eqb q n) None) (ap (λ o. page_within find o n) (stands x d here) ∙ none n) ∙ both (eqb q n) None))
  where
    both : (b : Bool) (o : Option Page) → cond b o o ≡ o
    both true o = refl
    both false o = refl

module _ {D : Type 0} (find : D → Numbered) {ns : List ℕ} {ds : List D} {at : ℕ} (shift q : ℕ) (x : HasItemAt ns ds (q / 2 ^ shift) at) (d : D)
    (here : d ≡ get_or ds at d) where
  pub under_there : find_under find ns ds shift q ≡ find d q
  under_there = ap (λ o. page_within find o q) (stands x d here)

  pub under-set : (w : D) (page : Option Page) → IsChanged q page (find d) (find w)
      → IsChanged q page (find_under find ns ds shift) (find_under find ns (set ds at w) shift)
  under-set w page below =
      under_changed find (λ n. n / 2 ^ shift) (page_numbered ns ds) (page_numbered ns (set ds at w)) q (Some w) page (set-found x w)
      (subst (λ o. IsChanged q page (page_within find o) (find w)) (sym (stands x d here)) below)

  pub under-alike : (w : D) → AreAlike (find d) (find w) → AreAlike (find_under find ns ds shift) (find_under find ns (set ds at w) shift)
  under-alike w alike =
      changed-alike q (find d q) (find_under find ns ds shift) (find_under find ns (set ds at w) shift) (sym under_there)
      (under-set w (find d q) (alike-changed q (find d) (find w) alike))

  -- an index whose last page is given back goes with it
  pub under-emptied : (w : D) → IsChanged q None (find d) (find w) → ((n : ℕ) → find w n ≡ None) → {ms : List ℕ} {ys : List D} → ms ≡ remove ns at
      → ys ≡ remove (set ds at w) at → IsChanged q None (find_under find ns ds shift) (find_under find ms ys shift)
  under-emptied w below none {ms} {ys} numbers items =
      changed-twice q None (find_under find ns ds shift) (find_under find ns (set ds at w) shift) (find_under find ms ys shift)
      (under-set w None below)
      (under-remove find shift q (found-written x w) w (sym (get_or-set_same ds at w w (within_items x))) none numbers items)

-- ---- pages that hold nothing

-- a page that holds nothing was added, of a number that had none
pub record AddsBlank (f g : Numbered) (q : ℕ) (p : Page) : Type 0 where
  pub none : f q ≡ None
  pub changed : IsChanged q (Some p) f g
  pub blank : p.kept.items ≡ []

pub spare-some : (o : Option Page) → is_spare o ≡ true → is_some o ≡ true
spare-some None e = absurd (false≢true e)
spare-some (Some p) e = refl

spare-empty : (o : Option Page) (k : ℕ) → is_spare o ≡ true → cell_of o k ≡ Empty
spare-empty None k e = refl
spare-empty (Some p) k e = blank-empty p.kept.items k e

with_hash-holds : (c : Cell) (h : Hash) (mark : Bool) → with_hash c h mark ≡ Empty → ⊥
with_hash-holds c h mark = by_mark (mark || mark_of c)
  where
    by_mark : (b : Bool) → cond b (Marked h) (Known h) ≡ Empty → ⊥
    by_mark true e = false≢true (ap is_empty e)
    by_mark false e = false≢true (ap is_empty e)

module _ (f g : Numbered) (q : ℕ) where
  -- one is given back
  module _ (is : IsChanged q None f g) where
    pub gone-cells : is_spare (f q) ≡ true → (i : ℕ) → cell_in g i ≡ cell_in f i
    gone-cells spare = changed_alike f g q None is (λ k. sym (spare-empty (f q) k spare))

    pub gone-spare : (fresh left : List ℕ) → fresh ≡ left ++ q ∷ [] → AreSpare f fresh → AreSpare g left
    gone-spare fresh left popped spare = record {
      known = λ n e. elim (cases_eq n q) [
        | inl same ↦ absurd (false≢true (ap is_spare (sym (ap g same ∙ changed_here f g q None is)) ∙ e))
        | inr other ↦ still_among n q left other (sym (ap (is_among n) popped) ∙ spare.known n (ap is_spare (sym (changed_other f g q None is n other)) ∙ e))
      ];
    }

  -- a hash is written in one
  module _ (place : ℕ) (hash : Hash) (mark : Bool) (put : IsPut place hash mark (f q) (g q)) (is : IsChanged q (g q) f g) where
    pub put-spare : (fresh : List ℕ) → AreSpare f fresh → AreSpare g fresh
    put-spare fresh spare = record {
      known = λ n e. elim (cases_eq n q) [
        | inl same ↦ absurd (with_hash-holds (cell_of (f q) place) hash mark (sym put.here ∙ spare-empty (g q) place (ap is_spare (ap g (sym same)) ∙ e)))
        | inr other ↦ spare.known n (ap is_spare (sym (changed_other f g q (g q) is n other)) ∙ e)
      ];
    }

    pub put-there : IsSome (f q) → (n : ℕ) → is_some (g n) ≡ is_some (f n)
    put-there there n = elim (cases_eq n q) [
      | inl same ↦ ap (λ k. is_some (g k)) same ∙ put.there ∙ sym there ∙ sym (ap (λ k. is_some (f k)) same)
      | inr other ↦ ap is_some (changed_other f g q (g q) is n other)
    ]

module _ {f g : Numbered} {q : ℕ} {p : Page} (x : AddsBlank f g q p) where
  pub added-cells : (i : ℕ) → cell_in g i ≡ cell_in f i
  added-cells = changed_alike f g q (Some p) x.changed (λ k. ap (λ xs. get_or xs k Empty) x.blank ∙ sym (ap (λ o. cell_of o k) x.none))

  pub added-spare : (fresh : List ℕ) → AreSpare f fresh → AreSpare g (fresh ++ q ∷ [])
  added-spare fresh spare = record {
    known = λ n e. among-push n q fresh ∙ elim (cases_eq q n) [
      | inl same ↦ or_right (is_among n fresh) (eqb q n) (eq-eqb q n same)
      | inr other ↦ or_left (is_among n fresh) (eqb q n) (spare.known n (ap is_spare (sym (changed_other f g q (Some p) x.changed n (λ e. other (sym e)))) ∙ e))
    ];
  }

  -- each page that was there is there
  pub changed-keeps : (n : ℕ) → IsSome (f n) → IsSome (g n)
  changed-keeps n was = elim (cases_eq n q) [
    | inl same ↦ ap (λ k. is_some (g k)) same ∙ ap is_some (changed_here f g q (Some p) x.changed)
    | inr other ↦ ap is_some (changed_other f g q (Some p) x.changed n other) ∙ was
  ]

-- the same pages have the same cells
pub alike-cells : (f g : Numbered) → AreAlike f g → (i : ℕ) → cell_in g i ≡ cell_in f i
alike-cells f g alike i = ap (λ o. cell_of o (i % 512)) (alike (i / 512))

-- a number that needs no longer be fresh
pub kept-spare : (f : Numbered) (q : ℕ) (fresh left : List ℕ) → fresh ≡ left ++ q ∷ [] → is_spare (f q) ≡ false → AreSpare f fresh → AreSpare f left
kept-spare f q fresh left popped full spare = record {
  known = λ n e. elim (cases_eq n q) [
    | inl same ↦ absurd (false≢true (sym full ∙ ap (λ k. is_spare (f k)) (sym same) ∙ e))
    | inr other ↦ still_among n q left other (sym (ap (is_among n) popped) ∙ spare.known n e)
  ];
}

-- a number for which no page was given has none
pub absent : (r : Option (Bor Page)) (o : Option Page) → option_map (λ (p : Bor Page). p.now) r ≡ o → is_some r ≡ false → o ≡ None
absent None o e none = sym e
absent (Some p) o e none = absurd (false≢true (sym none))
