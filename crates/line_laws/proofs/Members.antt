-- Members in order, and the map of `serde_json`.
use Rattle.std.proofs.Common.{◌≡◌, ◌∷◌, ◌++◌, ◌∙◌, [], List, ℕ, Bool, true, false, ◌&&◌, ◌==◌, not, nat_lt, bytes_eq, if◌then◌else◌, decimal, ap, sym}
use Rattle.std.proofs.Common.{refl, arith, cond, Ordering, Less, Equal, Greater, nat_cmp, true≢false}
use Rattle.std.specs.Prelude.{⊤}
use Rattle.std.specs.List.{list_any}
use Rattle.std.specs.Cmp.Lexicographic.{slice_cmp}
use Rattle.std.specs.Ordering.{match_ordering, ordering_reverse, ordering_then}
use Rattle.std.proofs.lemmas.Cmp.{nat_list_cmp_total}
use Rattle.std.proofs.lemmas.Bool.{and_parts, or_parts}
use Rattle.std.proofs.lemmas.Bool.Decides.{nat_tests}
use Rattle.serde_json.specs.Data.{Data, Members, no_members, member, unsigned, put}
use Rattle.serde_json.specs.Data as json
use Rattle.lines.specs.Rows.{Item, word, number, start, over, name, code, text, unprinted}
use Rattle.lines.specs.Objects.{is_before, key_of, placed, all_placed}
use Rattle.line_laws.specs.Plain.{is_new, are_new}
use Rattle.line_laws.specs.Values.{with_members}

-- ---- the order

three : (lt eq : Bool) (rest : Ordering) (b : Bool) → (eq ≡ true → lt ≡ false) → (eq ≡ true → rest ≡ (if b then Less else Greater))
    → ordering_then (cond lt Less (cond eq Equal Greater)) rest ≡ (if (if eq then b else lt) then Less else Greater)
three true true rest b never same = absurd (true≢false (never refl))
three true false rest b never same = refl
three false true rest b never same = same refl
three false false rest b never same = refl

not_less : (x y : ℕ) → (x == y) ≡ true → nat_lt x y ≡ false
not_less x y e = grind (arith, nat_tests, e)

order_is : (xs ys : List ℕ) → bytes_eq xs ys ≡ false → slice_cmp nat_cmp xs ys ≡ (if is_before xs ys then Less else Greater)
unfolding is_before
order_is [] [] apart = absurd (true≢false apart)
order_is [] (y ∷ ys) apart = refl
order_is (x ∷ xs) [] apart = refl
order_is (x ∷ xs) (y ∷ ys) apart =
    three (nat_lt x y) (x == y) (slice_cmp nat_cmp xs ys) (is_before xs ys) (not_less x y)
    (λ e. order_is xs ys (ap (λ t. t && bytes_eq xs ys) (sym e) ∙ apart))

-- ---- members

-- the value of an item
abbrev pub data_of : Item → Data
data_of (word w) = json.null
data_of (number key n) = json.number (unsigned n)
data_of (start key n) = json.number (unsigned n)
data_of (over key n) = json.number (unsigned n)
data_of (name key t) = json.string t
data_of (code key letter n) = json.string (letter ++ decimal n)
data_of (text key t) = json.string t
data_of (unprinted key t) = json.string t

-- members as they stand
abbrev pub members : List Item → Members
members [] = no_members
members (item ∷ items) = member (key_of item) (data_of item) (members items)

-- what holds of each item
abbrev pub AllItems : (Item → Type 0) → List Item → Type 0
AllItems P [] = ⊤
AllItems P (item ∷ items) = P item × AllItems P items

either_way : (P : Item → Type 0) (b : Bool) (new item : Item) (items : List Item) → P new → AllItems P (item ∷ items) → AllItems P (placed new items)
    → AllItems P (if b then new ∷ item ∷ items else item ∷ placed new items)
either_way P true new item items h there rest = (h, there)
either_way P false new item items h there rest = (there.0, rest)

-- it holds of the new item and of those that there were
pub placed_so : (P : Item → Type 0) (new : Item) (items : List Item) → P new → AllItems P items → AllItems P (placed new items)
unfolding placed
placed_so P new [] h there = (h, tt)
placed_so P new (item ∷ items) h there =
    either_way P (is_before (key_of new) (key_of item)) new item items h there (placed_so P new items h there.1)

-- ---- the map

-- no item has this key
abbrev pub HasNot : List ℕ → List Item → Type 0
HasNot key items = AllItems (λ item. bytes_eq key (key_of item) ≡ false) items

put_by : (b : Bool) (new item : Item) (items : List Item) (rest : Members) → rest ≡ members (placed new items)
    → match_ordering (if b then Less else Greater)
    (member (key_of new) (data_of new) (member (key_of item) (data_of item) (members items)))
    (member (key_of item) (data_of new) (members items)) (member (key_of item) (data_of item) rest)
    ≡ members (if b then new ∷ item ∷ items else item ∷ placed new items)
put_by true new item items rest e = refl
put_by false new item items rest e = ap (member (key_of item) (data_of item)) e

pub put_is : (new : Item) (items : List Item) → HasNot (key_of new) items → put (key_of new) (data_of new) (members items) ≡ members (placed new items)
unfolding placed
put_is new [] h = refl
put_is new (item ∷ items) h =
    rw (order_is (key_of new) (key_of item) h.0)
    (put_by (is_before (key_of new) (key_of item)) new item items (put (key_of new) (data_of new) (members items)) (put_is new items h.1))

-- ---- keys ascend

abbrev order : List ℕ → List ℕ → Ordering
order = slice_cmp nat_cmp

-- the key stands before those of these items
abbrev pub Before : List ℕ → List Item → Type 0
Before key items = AllItems (λ item. order key (key_of item) ≡ Less) items

abbrev pub Ascends : List Item → Type 0
Ascends [] = ⊤
Ascends (item ∷ items) = Before (key_of item) items × Ascends items

still_before : (low high : List ℕ) (items : List Item) → order low high ≡ Less → Before high items → Before low items
still_before low high [] e h = tt
still_before low high (item ∷ items) e h = (nat_list_cmp_total.trans low high (key_of item) e h.0, still_before low high items e h.1)

ascends_by : (b : Bool) (new item : Item) (items : List Item) → order (key_of new) (key_of item) ≡ (if b then Less else Greater)
    → Ascends (item ∷ items) → Ascends (placed new items)
    → Ascends (if b then new ∷ item ∷ items else item ∷ placed new items)
ascends_by true new item items e h rest = ((e, still_before (key_of new) (key_of item) items e h.0), h)
ascends_by false new item items e h rest =
    let below = nat_list_cmp_total.antisymm (key_of item) (key_of new) ∙ ap ordering_reverse e in
    (placed_so (λ other. order (key_of item) (key_of other) ≡ Less) new items below h.0, rest)

placed_ascends : (new : Item) (items : List Item) → HasNot (key_of new) items → Ascends items → Ascends (placed new items)
unfolding placed
placed_ascends new [] h a = (tt, tt)
placed_ascends new (item ∷ items) h a =
    ascends_by (is_before (key_of new) (key_of item)) new item items (order_is (key_of new) (key_of item) h.0) a (placed_ascends new items h.1 a.1)

-- ---- all items

pub not_true : (t : Bool) → not t ≡ true → t ≡ false
not_true true e = absurd (true≢false (sym e))
not_true false e = refl

-- each key that is new is none of those found, which ascend
pub record Covers (seen : List (List ℕ)) (found : List Item) : Type 0 where
  pub apart : (key : List ℕ) → is_new key seen ≡ true → HasNot key found
  pub ascends : Ascends found

covers_more : (seen : List (List ℕ)) (found : List Item) (new : Item) → is_new (key_of new) seen ≡ true → Covers seen found
    → Covers (key_of new ∷ seen) (placed new found)
covers_more seen found new other c = record {
  apart = λ key h.
      let parts = or_parts (bytes_eq key (key_of new)) (list_any (bytes_eq key) seen) (not_true _ h) in
      placed_so (λ item. bytes_eq key (key_of item) ≡ false) new found parts.0 (c.apart key (ap not parts.1));
  ascends = placed_ascends new found (c.apart (key_of new) other) c.ascends;
}

-- all items at their places
pub record ArePut (items found : List Item) : Type 0 where
  pub same : with_members items (members found) ≡ members (all_placed items found)
  pub ascends : Ascends (all_placed items found)

abbrev AllPut : List Item → Type 0
AllPut items = (seen : List (List ℕ)) (found : List Item) → are_new seen items ≡ true → Covers seen found → ArePut items found

pub record OnePut (new : Item) (items found : List Item) : Type 0 where
  pub same : with_members items (put (key_of new) (data_of new) (members found)) ≡ members (all_placed items (placed new found))
  pub ascends : Ascends (all_placed items (placed new found))

one_put : (new : Item) (items : List Item) → AllPut items → (seen : List (List ℕ)) (found : List Item)
    → (is_new (key_of new) seen && are_new (key_of new ∷ seen) items) ≡ true → Covers seen found → OnePut new items found
one_put new items others seen found h c =
    let parts = and_parts (is_new (key_of new) seen) (are_new (key_of new ∷ seen) items) h in
    let rest = others (key_of new ∷ seen) (placed new found) parts.1 (covers_more seen found new parts.0 c) in record {
      same = ap (with_members items) (put_is new found (c.apart (key_of new) parts.0)) ∙ rest.same;
      ascends = rest.ascends;
    }

pub all_put : (items : List Item) → AllPut items
unfolding with_members all_placed are_new
all_put [] seen found h c = record { same = refl; ascends = c.ascends }
all_put (word w ∷ items) seen found h c = let p = all_put items seen found h c in record { same = p.same; ascends = p.ascends }
all_put (number key n ∷ items) seen found h c =
    let p = one_put (number key n) items (all_put items) seen found h c in record { same = p.same; ascends = p.ascends }
all_put (start key n ∷ items) seen found h c =
    let p = one_put (start key n) items (all_put items) seen found h c in record { same = p.same; ascends = p.ascends }
all_put (over key n ∷ items) seen found h c =
    let p = one_put (over key n) items (all_put items) seen found h c in record { same = p.same; ascends = p.ascends }
all_put (name key t ∷ items) seen found h c =
    let p = one_put (name key t) items (all_put items) seen found h c in record { same = p.same; ascends = p.ascends }
all_put (code key letter n ∷ items) seen found h c =
    let p = one_put (code key letter n) items (all_put items) seen found h c in record { same = p.same; ascends = p.ascends }
all_put (text key t ∷ items) seen found h c =
    let p = one_put (text key t) items (all_put items) seen found h c in record { same = p.same; ascends = p.ascends }
all_put (unprinted key t ∷ items) seen found h c =
    let p = one_put (unprinted key t) items (all_put items) seen found h c in record { same = p.same; ascends = p.ascends }
