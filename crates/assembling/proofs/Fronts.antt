-- The fronts of parts' texts.
use Rattle.std.proofs.Common.{◌≡◌, ◌≢◌, ℕ, zero, suc, ◌+◌, ◌<◌, ◌++◌, ◌∷◌, ◌⊎◌, List, [], Bor, get_or, length, map, slice_get, Some, inl, inr, refl}
use Rattle.std.proofs.Common.{sym, ◌∙◌, ap, subst}
use Rattle.std.proofs.Common.{Bool, true, false, not, None, Option, Result, IfSome, arith, if◌then◌else◌, is_ok, is_some, length-append}
use Rattle.std.proofs.lemmas.Option.{get_or_from_slice_get, none-some, same_Some, slice_get-get_or, slice_get-map, slice_get_within}
use Rattle.std.specs.Option.{option_map}
use Rattle.part_texts.specs.declared.head.Head.{Head}
use Rattle.assembling.specs.Fronts.{AreOfOne, Front, HasPart, IsFront}
use Rattle.std.specs.Str.{bytes_eq}
use Rattle.std.proofs.lemmas.List.{length-map, map_push}
use Rattle.std.proofs.lemmas.Slice.Eq.{bytes_eq-Decides}
use Rattle.assembling.specs.Heads.{ArePartsOf, front_of}
use Rattle.assembling.specs.Reasons.{IsMissing}
use Rattle.assembling.specs.declared.numbers.Parts.{Parts}

-- the item of a list that another list is made of
pub item_of : {A B : Type 0} (f : A → B) (xs : List A) (i : ℕ) (d : A) → i < length xs → slice_get (map f xs) i ≡ Some (f (get_or xs i d))
item_of f xs i d within = slice_get-map f xs i ∙ ap (option_map f) (slice_get-get_or xs i d within)

pub item_from : {A B : Type 0} (f : A → B) (xs : List A) (i : ℕ) (y : B) → slice_get (map f xs) i ≡ Some y → (x : A) × (slice_get xs i ≡ Some x) × (f x ≡ y)
item_from f [] i y at = absurd (none-some y at)
item_from f (x ∷ xs) zero y at = (x, refl, same_Some (f x) y at)
item_from f (x ∷ xs) (suc i) y at = item_from f xs i y at

pub item_to : {A B : Type 0} (f : A → B) (xs : List A) (i : ℕ) (x : A) → slice_get xs i ≡ Some x → slice_get (map f xs) i ≡ Some (f x)
item_to f xs i x at = slice_get-map f xs i ∙ ap (option_map f) at

-- what stands in a list, whatever is answered of other places
pub same_item : {A : Type 0} (xs : List A) (i : ℕ) (d e : A) → i < length xs → get_or xs i d ≡ get_or xs i e
same_item xs i d e within = get_or_from_slice_get xs i (get_or xs i e) d (slice_get-get_or xs i e within)

-- the text at this place
pub text_there : (texts : List (Bor (List ℕ))) (i : ℕ) (other : Bor (List ℕ)) → i < length texts
    → slice_get (map (λ x. x.now) texts) i ≡ Some (get_or texts i other).now
text_there texts i other within = item_of (λ x. x.now) texts i other within

-- what stands in a list with one more is that, or stood there before
pub push_at : {A : Type 0} (fs : List A) (g : A) (i : ℕ) (f : A) → slice_get (fs ++ g ∷ []) i ≡ Some f → (slice_get fs i ≡ Some f) ⊎ ((f ≡ g) × (i ≡ length fs))
push_at [] g zero f at = inr (sym (same_Some g f at), refl)
push_at [] g (suc i) f at = absurd (none-some f at)
push_at (x ∷ fs) g zero f at = inl at
push_at (x ∷ fs) g (suc i) f at = elim (push_at fs g i f at) [
  | inl old ↦ inl old
  | inr last ↦ inr (last.0, ap suc last.1)
]

pub push_kept : {A : Type 0} (fs : List A) (g : A) (i : ℕ) (f : A) → slice_get fs i ≡ Some f → slice_get (fs ++ g ∷ []) i ≡ Some f
push_kept [] g i f at = absurd (none-some f at)
push_kept (x ∷ fs) g zero f at = at
push_kept (x ∷ fs) g (suc i) f at = push_kept fs g i f at

pub push_last : {A : Type 0} (fs : List A) (g : A) → slice_get (fs ++ g ∷ []) (length fs) ≡ Some g
push_last [] g = refl
push_last (x ∷ fs) g = push_last fs g

-- ---- fronts of one whole

pub none_of_one : AreOfOne [] []
none_of_one = record {
  count = refl;
  each = λ i text f at there. absurd (none-some f there);
  one = λ i j f g at there. absurd (none-some g there);
  apart = λ i j f g at there same. absurd (none-some g there);
}

-- one more text is of another part of the same whole
module _ (texts : List (List ℕ)) (fronts : List Front) (text : List ℕ) (f : Front) (are : AreOfOne texts fronts) (is : IsFront text f)
    (first : (g : Front) → slice_get fronts 0 ≡ Some g → (f.parts ≡ g.parts) × (f.listing ≡ g.listing))
    (new : (i : ℕ) (g : Front) → slice_get fronts i ≡ Some g → g.part ≢ f.part) where
  first_there : (i : ℕ) (g : Front) → slice_get fronts i ≡ Some g → (h : Front) × (slice_get fronts 0 ≡ Some h)
  first_there i g at = some_first fronts i g at
    where
      some_first : (gs : List Front) (i : ℕ) (g : Front) → slice_get gs i ≡ Some g → (h : Front) × (slice_get gs 0 ≡ Some h)
      some_first [] i g at = absurd (none-some g at)
      some_first (x ∷ gs) i g at = (x, refl)

  like : (i : ℕ) (g : Front) → slice_get fronts i ≡ Some g → (f.parts ≡ g.parts) × (f.listing ≡ g.listing)
  like i g at =
      let h = first_there i g at in
      let own = first h.0 h.1 in
      let same = are.one 0 i h.0 g h.1 at in (own.0 ∙ same.0, own.1 ∙ same.1)

  pub one_more_of_one : AreOfOne (texts ++ text ∷ []) (fronts ++ f ∷ [])
  one_more_of_one = record {
    count = length-append fronts (f ∷ []) ∙ ap (λ n. n + 1) are.count ∙ sym (length-append texts (text ∷ []));
    each = λ i x g at there. elim (push_at texts text i x at) [
      | inl old ↦ elim (push_at fronts f i g there) [
        | inl known ↦ are.each i x g old known
        | inr last ↦ absurd (omega (arith, slice_get_within texts i x old, last.1, are.count))
      ]
      | inr here ↦ elim (push_at fronts f i g there) [
        | inl known ↦ absurd (omega (arith, slice_get_within fronts i g known, here.1, are.count))
        | inr last ↦ subst (λ (y : Front). IsFront x y) (sym last.0) (subst (λ (t : List ℕ). IsFront t f) (sym here.0) is)
      ]
    ];
    one = λ i j x y at there. elim (push_at fronts f i x at) [
      | inl old ↦ elim (push_at fronts f j y there) [
        | inl known ↦ are.one i j x y old known
        | inr last ↦ subst (λ (z : Front). (x.parts ≡ z.parts) × (x.listing ≡ z.listing)) (sym last.0)
            (sym (like i x old).0, sym (like i x old).1)
      ]
      | inr here ↦ elim (push_at fronts f j y there) [
        | inl known ↦ subst (λ (z : Front). (z.parts ≡ y.parts) × (z.listing ≡ y.listing)) (sym here.0) (like j y known)
        | inr last ↦ let same : x ≡ y = here.0 ∙ sym last.0 in (ap (λ (z : Front). z.parts) same, ap (λ (z : Front). z.listing) same)
      ]
    ];
    apart = λ i j x y at there same. elim (push_at fronts f i x at) [
      | inl old ↦ elim (push_at fronts f j y there) [
        | inl known ↦ are.apart i j x y old known same
        | inr last ↦ absurd (new i x old (same ∙ ap (λ (z : Front). z.part) last.0))
      ]
      | inr here ↦ elim (push_at fronts f j y there) [
        | inl known ↦ absurd (new j y known (sym same ∙ ap (λ (z : Front). z.part) here.0))
        | inr last ↦ here.1 ∙ sym last.1
      ]
    ];
  }

-- ---- what stands behind the fronts, in the order of the parts

abbrev pub AreTaken : List Front → List (List ℕ) → List ℕ → Type 0
AreTaken fronts rows places = (part : ℕ) (rest : List ℕ) → slice_get rows part ≡ Some rest
    → (i : ℕ) × (f : Front) × (slice_get places part ≡ Some i) × (slice_get fronts i ≡ Some f) × (f.part ≡ part) × (f.rows ≡ rest)

pub taken_push : (fronts : List Front) (rows : List (List ℕ)) (places : List ℕ) (part place : ℕ) (f : Front) (rest : List ℕ)
    → length rows ≡ part → length places ≡ part
    → slice_get fronts place ≡ Some f → f.part ≡ part → f.rows ≡ rest → AreTaken fronts rows places → AreTaken fronts (rows ++ rest ∷ []) (places ++ place ∷ [])
taken_push fronts rows places part place f rest rows_are places_are there own behind taken = λ k x at. elim (push_at rows rest k x at) [
  | inl old ↦ let before = taken k x old in (before.0, before.1, push_kept places place k before.0 before.2, before.3, before.4, before.5)
  | inr last ↦ (
    place,
    f,
    ap (slice_get (places ++ place ∷ [])) (last.1 ∙ rows_are ∙ sym places_are) ∙ push_last places place,
    there,
    own ∙ sym rows_are ∙ sym last.1,
    behind ∙ sym last.0,
  )
]

-- ---- what is known of the fronts that were read

pub push_ok : {A E : Type 0} (r : Result (Unit {0}) E) (old new : List A) (x : A) → new ≡ (if is_ok r then old ++ x ∷ [] else old) → is_ok r ≡ true
    → new ≡ old ++ x ∷ []
push_ok r old new x is ok = is ∙ ap (λ b. (if b then old ++ x ∷ [] else old)) ok

pub found_part : (o : Option ℕ) (heads : List Head) (part : ℕ) → true ≡ is_some o
    → IfSome o (λ i. (h : Head) × (slice_get heads i ≡ Some h) × (h.part ≡ part)) → HasPart (map front_of heads) part
found_part None heads part some found = let no : ⊥ = cc in absurd no
found_part (Some i) heads part some found = (i, front_of found.0, item_to front_of heads i found.0 found.1, found.2)

pub none_of : (o : Option ℕ) → is_some o ≡ false → o ≡ None
none_of None none = refl
none_of (Some i) none = let no : ⊥ = cc in absurd no

pub no_part : (heads : List Head) (part : ℕ) → ((i : ℕ) (h : Head) → slice_get heads i ≡ Some h → h.part ≢ part) → (i : ℕ) (g : Front)
    → slice_get (map front_of heads) i ≡ Some g → g.part ≢ part
no_part heads part none i g at same =
    let h = item_from front_of heads i g at in none i h.0 h.1 (ap (λ (f : Front). f.part) h.2 ∙ same)

pub same_first : (heads : List Head) (head first : Head) (g : Front) → slice_get heads 0 ≡ Some first → head.parts ≡ first.parts
    → head.listing.now ≡ first.listing.now → slice_get (map front_of heads) 0 ≡ Some g → (head.parts ≡ g.parts) × (head.listing.now ≡ g.listing)
same_first heads head first g at parts listing there =
    let same : front_of first ≡ g = same_Some (front_of first) g (sym (item_to front_of heads 0 first at) ∙ there) in
    (parts ∙ ap (λ (f : Front). f.parts) same, listing ∙ ap (λ (f : Front). f.listing) same)

pub no_first : (heads : List Head) (head : Head) (g : Front) → slice_get heads 0 ≡ None → slice_get (map front_of heads) 0 ≡ Some g
    → (head.parts ≡ g.parts) × (head.listing.now ≡ g.listing)
no_first heads head g none there = let h = item_from front_of heads 0 g there in absurd (none-some h.0 (sym none ∙ h.1))

pub same_bytes : (xs ys : List ℕ) → false ≡ not (bytes_eq xs ys) → xs ≡ ys
same_bytes xs ys is = (bytes_eq-Decides xs ys).0 (turned (bytes_eq xs ys) is)
  where
    turned : (b : Bool) → false ≡ not b → b ≡ true
    turned true is = refl
    turned false is = let no : ⊥ = cc in absurd no

pub other_bytes : (xs ys : List ℕ) → true ≡ not (bytes_eq xs ys) → xs ≢ ys
other_bytes xs ys is same = let bad : true ≡ false = is ∙ ap not ((bytes_eq-Decides xs ys).1 same) in let no : ⊥ = cc in no

-- ---- the parts in order

pub taken_next : (heads : List Head) (rows rows' : List (Bor (List ℕ))) (places places' : List ℕ) (part place : ℕ) (h : Head) (r : Bor (List ℕ))
    → length rows ≡ part → length places ≡ part → slice_get heads place ≡ Some h → h.part ≡ part → r ≡ h.rows → rows' ≡ rows ++ r ∷ []
    → places' ≡ places ++ place ∷ [] → AreTaken (map front_of heads) (map (λ x. x.now) rows) places
    → AreTaken (map front_of heads) (map (λ x. x.now) rows') places'
taken_next heads rows rows' places places' part place h r rows_are places_are there own behind rows_is places_is taken =
    subst (λ ps. AreTaken (map front_of heads) (map (λ x. x.now) rows') ps) (sym places_is)
    (subst (λ rs. AreTaken (map front_of heads) rs (places ++ place ∷ [])) (sym (ap (map (λ x. x.now)) rows_is ∙ map_push (λ x. x.now) rows r))
    (taken_push (map front_of heads) (map (λ x. x.now) rows) places part place (front_of h) r.now (length-map rows (λ x. x.now) ∙ rows_are) places_are
    (item_to front_of heads place h there) own (ap (λ x. x.now) (sym behind)) taken))

front_as : (text : List ℕ) (f : Front) (part parts : ℕ) (listing rows : List ℕ) → IsFront text f → f.part ≡ part → f.parts ≡ parts → f.listing ≡ listing
    → f.rows ≡ rows → IsFront text (record { part = part; parts = parts; listing = listing; rows = rows })
front_as text f part parts listing rows is own count of behind =
    subst (λ r. IsFront text (record { part = part; parts = parts; listing = listing; rows = r })) behind
    (subst (λ l. IsFront text (record { part = part; parts = parts; listing = l; rows = f.rows })) of
    (subst (λ n. IsFront text (record { part = part; parts = n; listing = f.listing; rows = f.rows })) count
    (subst (λ k. IsFront text (record { part = k; parts = f.parts; listing = f.listing; rows = f.rows })) own is)))

pub parts_are : (texts : List (List ℕ)) (heads : List Head) (first : Head) (p : Parts) → AreOfOne texts (map front_of heads) → slice_get heads 0 ≡ Some first
    → p.listing ≡ first.listing → length p.places.items ≡ length p.rows.items → length p.rows.items ≡ first.parts
    → AreTaken (map front_of heads) (map (λ x. x.now) p.rows.items) p.places.items
    → ((k : ℕ) → k < length p.rows.items → HasPart (map front_of heads) k) → ArePartsOf texts p
parts_are texts heads first p are at listing places_are count taken found = record {
  count = places_are;
  all = record {
    fronts = map front_of heads;
    are = are;
    some = some;
    of = of;
    all = found;
  };
  each = λ k rest there.
      let t = taken k rest there in
      let low : t.0 < length texts = omega (arith, slice_get_within (map front_of heads) t.0 t.1 t.3, are.count) in
      let text_at : slice_get texts t.0 ≡ Some (get_or texts t.0 []) = slice_get-get_or texts t.0 [] low in
      let own = of t.0 t.1 t.3 in
      record {
        place = t.0;
        text = get_or texts t.0 [];
        at = t.2;
        there = text_at;
        front = front_as (get_or texts t.0 []) t.1 k (length p.rows.items) p.listing.now rest (are.each t.0 (get_or texts t.0 []) t.1 text_at t.3)
            t.4 own.0 own.1
            t.5;
      };
}
  where
    first_at : slice_get (map front_of heads) 0 ≡ Some (front_of first)
    first_at = item_to front_of heads 0 first at

    of : (i : ℕ) (f : Front) → slice_get (map front_of heads) i ≡ Some f → (f.parts ≡ length p.rows.items) × (f.listing ≡ p.listing.now)
    of i f there =
        let same = are.one i 0 f (front_of first) there first_at in (same.0 ∙ sym count, same.1 ∙ ap (λ x. x.now) (sym listing))

    some : 0 < length p.rows.items
    some =
        let low : 0 < length texts = omega (arith, slice_get_within (map front_of heads) 0 (front_of first) first_at, are.count) in
        let is = are.each 0 (get_or texts 0 []) (front_of first) (slice_get-get_or texts 0 [] low) first_at in omega (arith, is.there, count)

pub missing_part : (texts : List (List ℕ)) (heads : List Head) (first : Head) (part : ℕ) → AreOfOne texts (map front_of heads) → slice_get heads 0 ≡ Some first
    → part < first.parts → ((k : ℕ) → k < part → HasPart (map front_of heads) k)
    → ((i : ℕ) (h : Head) → slice_get heads i ≡ Some h → h.part ≢ part) → IsMissing texts (part + 1) first.parts
missing_part texts heads first part are at low found none = record {
  fronts = map front_of heads;
  are = are;
  of = λ i f there. (are.one i 0 f (front_of first) there first_at).0;
  none = λ empty. absurd (omega (arith, slice_get_within (map front_of heads) 0 (front_of first) first_at, are.count, ap length empty));
  before = λ k less. found k (omega (arith, less));
  missing = λ i f there same. no_part heads part none i f there (omega (arith, same));
  within = (omega arith, omega (arith, low));
}
  where
    first_at : slice_get (map front_of heads) 0 ≡ Some (front_of first)
    first_at = item_to front_of heads 0 first at
