-- What is read is spelled so.
use Rattle.std.proofs.Common.{◌≡◌, ℕ, zero, suc, ◌-◌, ◌<◌, ◌^◌, Bool, true, false, cond, eqb, List, [], ◌∷◌, ◌++◌, length}
use Rattle.std.proofs.Common.{take, Option, Some, None, Result, Ok, Err, refl, sym, ap, ◌∙◌, subst, append_assoc, arith}
use Rattle.std.proofs.lemmas.Bool.{eqb-true}
use Rattle.std.proofs.lemmas.List.{length-append, take_at}
use Rattle.benc.specs.declared.fault.FaultKind.{FaultKind}
use Rattle.benc.specs.declared.fault.FaultKind.TheVariants.{BadStart, TooDeep}
use Rattle.benc.specs.Value.{Bencode, int, text, list, dict, Items, no_items, item, Pairs, no_pairs, pair}
use Rattle.benc.specs.Spelling.{string, integer, IsAbove, Spelled, SpelledItems, SpelledPairs}
use Rattle.benc.specs.Digits.{is_digit}
use Rattle.benc.specs.Items.{integer_at, string_at, key_at}
use Rattle.benc.specs.Parser.{◌>>=◌, Parsed, Failed, begun_at, items_at, pairs_at, value_with, value_at}
use Rattle.benc.proofs.SoundItems.{integer_takes, string_takes, key_takes}

-- what a reader took from the front
abbrev pub TakesFront : {A : Type 0} → (A → List ℕ → Type 0) → List ℕ → A → List ℕ → Type 0
TakesFront S bytes x rest = (front : List ℕ) × (bytes ≡ front ++ rest) × S x front

bind_ok : {A B : Type 0} (r : Result A Failed) (f : A → Result B Failed) (y : B) → (r >>= f) ≡ Ok y → (x : A) × (r ≡ Ok x) × (f x ≡ Ok y)
bind_ok (Ok x) f y e = (x, refl, e)
bind_ok (Err d) f y e = absurd cc

abbrev pub fine : {A : Type 0} → A → Result A Failed
fine x = Ok x

pub ok_of : {A : Type 0} (x y : A) → fine x ≡ fine y → x ≡ y
ok_of x y e = cc

pub began : {A : Type 0} (start : List ℕ) (r : Result A FaultKind) (x : A) → begun_at start r ≡ Ok x → r ≡ Ok x
began start (Ok y) x e = ap (λ z. Ok z) (ok_of y x e)
began start (Err f) x e = absurd cc

-- a first part and the one behind it
joined : (whole first middle next later : List ℕ) → whole ≡ first ++ middle → middle ≡ next ++ later → whole ≡ (first ++ next) ++ later
joined whole first middle next later p q = p ∙ ap (λ t. first ++ t) q ∙ sym (append_assoc first next later)

-- a mark, and what stands before the end mark
marked : (c mark : ℕ) (bytes inner rest : List ℕ) → eqb c mark ≡ true → bytes ≡ inner ++ 101 ∷ rest → c ∷ bytes ≡ (mark ∷ (inner ++ 101 ∷ [])) ++ rest
marked c mark bytes inner rest m e = ap (λ d. d ∷ bytes) (eqb-true c mark m) ∙ ap (λ z. mark ∷ z) (e ∙ sym (append_assoc inner (101 ∷ []) rest))

module _ (room : ℕ) (read : List ℕ → Parsed Bencode) (sound : (b : List ℕ) (x : Bencode × List ℕ) → read b ≡ Ok x → TakesFront (Spelled room) b x.0 x.1) where
  -- the items, and the end mark behind them
  abbrev Inner : List ℕ → Items × List ℕ → Type 0
  Inner bytes x = (inner : List ℕ) × (bytes ≡ inner ++ 101 ∷ x.1) × SpelledItems room x.0 inner

  items_take : (n : ℕ) (bytes : List ℕ) (x : Items × List ℕ) → items_at read n bytes ≡ Ok x → Inner bytes x
  unfolding items_at
  items_take zero [] x e = absurd cc
  items_take (suc n) [] x e = absurd cc
  items_take zero (c ∷ bytes) x e = absurd cc
  items_take (suc n) (c ∷ bytes) x e = by_mark (λ b y h. items_take n b y h) (eqb c 101) refl e
    where
      by_mark : ((b : List ℕ) (y : Items × List ℕ) → items_at read n b ≡ Ok y → Inner b y) → (m : Bool) → eqb c 101 ≡ m
          → cond m (Ok (no_items, bytes)) (read (c ∷ bytes) >>= λ y. items_at read n y.1 >>= λ z. Ok (item y.0 z.0, z.1)) ≡ Ok x → Inner (c ∷ bytes) x
      by_mark again true m f = subst (λ y. Inner (c ∷ bytes) y) (ok_of (no_items, bytes) x f) ([], ap (λ d. d ∷ bytes) (eqb-true c 101 m), refl)
      by_mark again false m f =
          let a = bind_ok (read (c ∷ bytes)) (λ y. items_at read n y.1 >>= λ z. Ok (item y.0 z.0, z.1)) x f in
          let b = bind_ok (items_at read n a.0.1) (λ z. Ok (item a.0.0 z.0, z.1)) x a.2 in
          let first = sound (c ∷ bytes) a.0 a.1 in
          let rest = again a.0.1 b.0 b.1 in
          subst (λ y. Inner (c ∷ bytes) y) (ok_of (item a.0.0 b.0.0, b.0.1) x b.2) (
            first.0 ++ rest.0,
            joined (c ∷ bytes) first.0 a.0.1 rest.0 (101 ∷ b.0.1) first.1 rest.1,
            (first.0, rest.0, refl, first.2, rest.2),
          )

  abbrev InnerPairs : Option (List ℕ) → List ℕ → Pairs × List ℕ → Type 0
  InnerPairs before bytes x = (inner : List ℕ) × (bytes ≡ inner ++ 101 ∷ x.1) × SpelledPairs room before x.0 inner

  -- a first pair, and those behind it
  pair_taken : (before : Option (List ℕ)) (bytes k left next : List ℕ) (v : Bencode) (ps : Pairs) (later : List ℕ) (x : Pairs × List ℕ)
      → fine (pair k v ps, later) ≡ fine x → (length k < 10 ^ 10) × IsAbove k before × (bytes ≡ string k ++ left) → TakesFront (Spelled room) left v next
      → InnerPairs (Some k) next (ps, later) → InnerPairs before bytes x
  pair_taken before bytes k left next v ps later x e name first rest = subst (λ y. InnerPairs before bytes y) (ok_of (pair k v ps, later) x e) (
    string k ++ (first.0 ++ rest.0),
    joined bytes (string k) left (first.0 ++ rest.0) (101 ∷ later) name.2 (joined left first.0 next rest.0 (101 ∷ later) first.1 rest.1),
    (first.0, rest.0, refl, name.0, name.1, first.2, rest.2),
  )

  pairs_take : (n : ℕ) (before : Option (List ℕ)) (bytes : List ℕ) (x : Pairs × List ℕ) → pairs_at read n before bytes ≡ Ok x → InnerPairs before bytes x
  unfolding pairs_at
  pairs_take zero before [] x e = absurd cc
  pairs_take (suc n) before [] x e = absurd cc
  pairs_take zero before (c ∷ bytes) x e = absurd cc
  pairs_take (suc n) before (c ∷ bytes) x e = by_mark (λ k b y h. pairs_take n (Some k) b y h) (eqb c 101) refl e
    where
      by_mark : ((k b : List ℕ) (y : Pairs × List ℕ) → pairs_at read n (Some k) b ≡ Ok y → InnerPairs (Some k) b y) → (m : Bool) → eqb c 101 ≡ m
          → cond m (Ok (no_pairs, bytes)) (begun_at (c ∷ bytes) (key_at before (c ∷ bytes)) >>= λ k. read k.1 >>= λ y. pairs_at read n (Some k.0) y.1 >>= λ z.
          Ok (pair k.0 y.0 z.0, z.1)) ≡ Ok x → InnerPairs before (c ∷ bytes) x
      by_mark again true m f = subst (λ y. InnerPairs before (c ∷ bytes) y) (ok_of (no_pairs, bytes) x f) ([], ap (λ d. d ∷ bytes) (eqb-true c 101 m), refl)
      by_mark again false m f =
          let k = bind_ok (begun_at (c ∷ bytes) (key_at before (c ∷ bytes))) (λ k. read k.1 >>= λ y. pairs_at read n (Some k.0) y.1 >>= λ z. Ok
          (pair k.0 y.0 z.0, z.1)) x f in
          let a = bind_ok (read k.0.1) (λ y. pairs_at read n (Some k.0.0) y.1 >>= λ z. Ok (pair k.0.0 y.0 z.0, z.1)) x k.2 in
          let b = bind_ok (pairs_at read n (Some k.0.0) a.0.1) (λ z. Ok (pair k.0.0 a.0.0 z.0, z.1)) x a.2 in
          let name = key_takes before (c ∷ bytes) k.0.0 k.0.1 (began (c ∷ bytes) (key_at before (c ∷ bytes)) k.0 k.1) in
          let first = sound k.0.1 a.0 a.1 in
          let rest = again k.0.0 a.0.1 b.0 b.1 in
          pair_taken before (c ∷ bytes) k.0.0 k.0.1 a.0.1 a.0.0 b.0.0 b.0.1 x b.2 name first rest

-- one level: what lists and dictionaries give is given
module _ (room : ℕ) (ls : List ℕ → List ℕ → Parsed Items) (ds : List ℕ → List ℕ → Parsed Pairs)
    (list_sound : (s b : List ℕ) (x : Items × List ℕ) → ls s b ≡ Ok x → (0 < room) × (inner : List ℕ) × (b ≡ inner ++ 101 ∷ x.1)
    × SpelledItems (room - 1) x.0 inner)
    (dict_sound : (s b : List ℕ) (x : Pairs × List ℕ) → ds s b ≡ Ok x → (0 < room) × (inner : List ℕ) × (b ≡ inner ++ 101 ∷ x.1)
    × SpelledPairs (room - 1) None x.0 inner) where
  level_takes : (bytes : List ℕ) (x : Bencode × List ℕ) → value_with ls ds bytes ≡ Ok x → TakesFront (Spelled room) bytes x.0 x.1
  level_takes [] x e = absurd cc
  level_takes (c ∷ bytes) x e = by_i (eqb c 105) refl e
    where
      Goal : Bencode × List ℕ → Type 0
      Goal y = TakesFront (Spelled room) (c ∷ bytes) y.0 y.1

      by_digit : (m : Bool) → is_digit c ≡ m → cond m (begun_at (c ∷ bytes) (string_at (c ∷ bytes)) >>= λ y. Ok (text y.0, y.1)) (Err (BadStart, c ∷ bytes))
          ≡ Ok x → TakesFront (Spelled room) (c ∷ bytes) x.0 x.1
      by_digit false m f = absurd cc
      by_digit true m f =
          let a = bind_ok (begun_at (c ∷ bytes) (string_at (c ∷ bytes))) (λ y. Ok (text y.0, y.1)) x f in
          let t = string_takes (c ∷ bytes) a.0.0 a.0.1 (began (c ∷ bytes) (string_at (c ∷ bytes)) a.0 a.1) in
          subst (λ (y : Bencode × List ℕ). TakesFront (Spelled room) (c ∷ bytes) y.0 y.1) (ok_of (text a.0.0, a.0.1) x a.2) (string a.0.0, t.1, (t.0, refl))

      by_d : (m : Bool) → eqb c 100 ≡ m → cond m (ds (c ∷ bytes) bytes >>= λ y. Ok (dict y.0, y.1))
          (cond (is_digit c) (begun_at (c ∷ bytes) (string_at (c ∷ bytes)) >>= λ y. Ok (text y.0, y.1)) (Err (BadStart, c ∷ bytes))) ≡ Ok x
          → TakesFront (Spelled room) (c ∷ bytes) x.0 x.1
      by_d true m f =
          let a = bind_ok (ds (c ∷ bytes) bytes) (λ y. Ok (dict y.0, y.1)) x f in
          let t = dict_sound (c ∷ bytes) bytes a.0 a.1 in
          subst (λ (y : Bencode × List ℕ). TakesFront (Spelled room) (c ∷ bytes) y.0 y.1) (ok_of (dict a.0.0, a.0.1) x a.2) (
            100 ∷ (t.1 ++ 101 ∷ []),
            marked c 100 bytes t.1 a.0.1 m t.2,
            (t.0, t.1, refl, t.3),
          )
      by_d false m f = by_digit (is_digit c) refl f

      by_l : (m : Bool) → eqb c 108 ≡ m
          → cond m (ls (c ∷ bytes) bytes >>= λ y. Ok (list y.0, y.1)) (cond (eqb c 100) (ds (c ∷ bytes) bytes >>= λ y. Ok (dict y.0, y.1))
          (cond (is_digit c) (begun_at (c ∷ bytes) (string_at (c ∷ bytes)) >>= λ y. Ok (text y.0, y.1)) (Err (BadStart, c ∷ bytes)))) ≡ Ok x
          → TakesFront (Spelled room) (c ∷ bytes) x.0 x.1
      by_l true m f =
          let a = bind_ok (ls (c ∷ bytes) bytes) (λ y. Ok (list y.0, y.1)) x f in
          let t = list_sound (c ∷ bytes) bytes a.0 a.1 in
          subst (λ (y : Bencode × List ℕ). TakesFront (Spelled room) (c ∷ bytes) y.0 y.1) (ok_of (list a.0.0, a.0.1) x a.2) (
            108 ∷ (t.1 ++ 101 ∷ []),
            marked c 108 bytes t.1 a.0.1 m t.2,
            (t.0, t.1, refl, t.3),
          )
      by_l false m f = by_d (eqb c 100) refl f

      by_i : (m : Bool) → eqb c 105 ≡ m
          → cond m (begun_at (c ∷ bytes) (integer_at bytes) >>= λ y. Ok (int y.0, y.1)) (cond (eqb c 108) (ls (c ∷ bytes) bytes >>= λ y. Ok (list y.0, y.1))
          (cond (eqb c 100) (ds (c ∷ bytes) bytes >>= λ y. Ok (dict y.0, y.1))
          (cond (is_digit c) (begun_at (c ∷ bytes) (string_at (c ∷ bytes)) >>= λ y. Ok (text y.0, y.1)) (Err (BadStart, c ∷ bytes))))) ≡ Ok x
          → TakesFront (Spelled room) (c ∷ bytes) x.0 x.1
      by_i true m f =
          let a = bind_ok (begun_at (c ∷ bytes) (integer_at bytes)) (λ y. Ok (int y.0, y.1)) x f in
          let t = integer_takes bytes a.0.0 a.0.1 (began (c ∷ bytes) (integer_at bytes) a.0 a.1) in
          subst (λ (y : Bencode × List ℕ). TakesFront (Spelled room) (c ∷ bytes) y.0 y.1) (ok_of (int a.0.0, a.0.1) x a.2) (
            integer a.0.0,
            ap (λ d. d ∷ bytes) (eqb-true c 105 m) ∙ t.1,
            (t.0, refl),
          )
      by_i false m f = by_l (eqb c 108) refl f

pub value_takes : (room : ℕ) (bytes : List ℕ) (x : Bencode × List ℕ) → value_at room bytes ≡ Ok x → TakesFront (Spelled room) bytes x.0 x.1
unfolding value_at
value_takes zero bytes x e = level_takes 0 (λ s b. Err (TooDeep, s)) (λ s b. Err (TooDeep, s)) (λ s b y h. absurd cc) (λ s b y h. absurd cc) bytes x e
value_takes (suc room) bytes x e =
    let less : suc room - 1 ≡ room = omega arith in
    level_takes (suc room) (λ s b. items_at (value_at room) (length b) b) (λ s b. pairs_at (value_at room) (length b) None b)
    (λ s b y h. let t = items_take room (value_at room) (λ d z g. value_takes room d z g) (length b) b y h in (omega arith, t.0, t.1, rw less t.2))
    (λ s b y h. let t = pairs_take room (value_at room) (λ d z g. value_takes room d z g) (length b) None b y h in (omega arith, t.0, t.1, rw less t.2)) bytes x
    e

-- the part that was taken, by its length
pub taken : {A : Type 0} (S : A → List ℕ → Type 0) (bytes : List ℕ) (x : A) (rest : List ℕ) → TakesFront S bytes x rest
    → S x (take (length bytes - length rest) bytes)
taken S bytes x rest t =
    let used : length t.0 ≡ length bytes - length rest = omega (arith, ap length t.1, length-append t.0 rest) in
    let front : take (length bytes - length rest) bytes ≡ t.0 = ap (take (length bytes - length rest)) t.1
    ∙ take_at t.0 rest (length bytes - length rest) used in
    subst (S x) (sym front) t.2
