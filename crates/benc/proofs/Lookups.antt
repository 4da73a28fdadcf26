-- Looking into dictionaries that grow.
use Rattle.std.proofs.Common.{◌≡◌, Bool, true, false, cond, ℕ, List, [], ◌∷◌, ◌++◌, Option, Some, None, refl, sym, ap, ap₂, ◌∙◌, subst, append_assoc}
use Rattle.std.proofs.lemmas.Slice.Eq.{bytes_eq-Decides}
use Rattle.std.specs.Prelude.{IfSome}
use Rattle.std.specs.Borrow.{Bor}
use Rattle.std.specs.Option.{option_copied, option_map, option_or}
use Rattle.std.specs.Str.{bytes_eq}
use Rattle.benc.specs.Value.{Bencode, int, text, list, dict, Pairs, no_pairs, pair}
use Rattle.benc.specs.Lookup.{under, get, StandsUnder}
use Rattle.benc.specs.Spelling.{string, Spells}
use Rattle.benc.proofs.Texts.{spelled_is}
use Rattle.benc.specs.Text.{spelling, pairs_spelling}
use Rattle.benc.specs.View.{Seen, pairs_of}

-- a value, where its key is the one that is looked for
abbrev pub value_if_key : List ℕ → Seen → Option Bencode
value_if_key key s = cond (bytes_eq s.0 key) (Some s.1) None

choose : (b : Bool) (v : Bencode) (o p : Option Bencode) → cond b (Some v) (option_or o p) ≡ option_or (cond b (Some v) o) p
choose true v o p = refl
choose false v o p = refl

-- the first value under a key, where a pair comes at the end
pub under_push : (key : List ℕ) (ps : List Seen) (x : Seen)
    → under key (pairs_of (ps ++ x ∷ [])) ≡ option_or (under key (pairs_of ps)) (value_if_key key x)
under_push key [] x = refl
under_push key (p ∷ ps) x =
    ap (λ o. cond (bytes_eq p.0 key) (Some p.1) o) (under_push key ps x) ∙ choose (bytes_eq p.0 key) p.1 (under key (pairs_of ps)) (value_if_key key x)

pub map_or : {A B : Type 0} (f : A → B) (o p : Option A) → option_map f (option_or o p) ≡ option_or (option_map f o) (option_map f p)
map_or f None p = refl
map_or f (Some x) p = refl

pub map_if : (f : Bencode → List ℕ) (b : Bool) (v : Bencode) (t : List ℕ) → t ≡ f v → option_map f (cond b (Some v) None) ≡ cond b (Some t) None
map_if f true v t e = ap (λ x. Some x) (sym e)
map_if f false v t e = refl

-- there are none yet of the value under a key that is asked for
pub none_yet : (asked : Option (List ℕ)) → IfSome asked (λ key. ◌≡◌ {A = Option (List ℕ)} None (option_map spelling (under key (pairs_of []))))
none_yet None = tt
none_yet (Some key) = refl

-- the bytes of the value under a key that is asked for, where a pair comes at the end
pub span_push : (asked : Option (List ℕ)) (old known new : Option (Bor (List ℕ))) (ps : List Seen) (k : List ℕ) (v : Bencode) (t : List ℕ)
    → IfSome asked (λ key. option_copied old ≡ option_map spelling (under key (pairs_of ps)))
    → IfSome asked (λ key. option_copied known ≡ cond (bytes_eq k key) (Some t) None)
    → t ≡ spelling v → new ≡ option_or old known
    → IfSome asked (λ key. option_copied new ≡ option_map spelling (under key (pairs_of (ps ++ (k, v) ∷ []))))
span_push None old known new ps k v t h g e n = tt
span_push (Some key) old known new ps k v t h g e n =
    let joined : option_copied new ≡ option_or (option_copied old) (option_copied known) = ap option_copied n ∙ copied_or old known in
    joined ∙ ap₂ option_or h (g ∙ sym (map_if spelling (bytes_eq k key) v t e)) ∙ sym (map_or spelling (under key (pairs_of ps)) (value_if_key key (k, v)))
    ∙ ap (option_map spelling) (sym (under_push key ps (k, v)))
  where
    copied_or : (o p : Option (Bor (List ℕ))) → option_copied (option_or o p) ≡ option_or (option_copied o) (option_copied p)
    copied_or None p = refl
    copied_or (Some y) p = refl

-- the bytes of a value stand behind its key
pub under_stands : (key : List ℕ) (ps : Pairs) (w : Bencode) → under key ps ≡ Some w
    → (front rest : List ℕ) × (pairs_spelling ps ≡ front ++ (string key ++ (spelling w ++ rest)))
under_stands key no_pairs w h = absurd cc
under_stands key (pair k v ps) w h = by_key (λ g. under_stands key ps w g) (bytes_eq k key) refl h
  where
    by_key : (under key ps ≡ Some w → (front rest : List ℕ) × (pairs_spelling ps ≡ front ++ (string key ++ (spelling w ++ rest)))) → (b : Bool)
        → bytes_eq k key ≡ b → cond b (Some v) (under key ps) ≡ Some w
        → (front rest : List ℕ) × (pairs_spelling (pair k v ps) ≡ front ++ (string key ++ (spelling w ++ rest)))
    by_key later true e g =
        let same : k ≡ key = (bytes_eq-Decides k key).0 e in
        let is : v ≡ w = cc in
        ([], pairs_spelling ps, ap₂ (λ n u. string n ++ (spelling u ++ pairs_spelling ps)) same is)
    by_key later false e g =
        let found = later g in (
          string k ++ (spelling v ++ found.0),
          found.1,
          ap (λ t. string k ++ (spelling v ++ t)) found.2
              ∙ ap (λ t. string k ++ t) (sym (append_assoc (spelling v) found.0 (string key ++ (spelling w ++ found.1))))
              ∙ sym (append_assoc (string k) (spelling v ++ found.0) (string key ++ (spelling w ++ found.1))),
        )

pub get_stands : (key input : List ℕ) (v w : Bencode) → Spells v input → get key v ≡ Some w → StandsUnder input key (spelling w)
get_stands key input (int z) w s h = absurd cc
get_stands key input (text t) w s h = absurd cc
get_stands key input (list vs) w s h = absurd cc
get_stands key input (dict ps) w s h =
    let found = under_stands key ps w h in (
      100 ∷ found.0,
      found.1 ++ 101 ∷ [],
      spelled_is 128 (dict ps) input s ∙ ap (λ t. 100 ∷ (t ++ 101 ∷ [])) found.2
          ∙ ap (λ t. 100 ∷ t) (append_assoc found.0 (string key ++ (spelling w ++ found.1)) (101 ∷ [])
          ∙ ap (λ t. found.0 ++ t) (append_assoc (string key) (spelling w ++ found.1) (101 ∷ [])
          ∙ ap (λ t. string key ++ t) (append_assoc (spelling w) found.1 (101 ∷ [])))),
    )

-- so the bytes of the value under a key, where there is one, stand in the input
pub span_stands : (key input : List ℕ) (v : Bencode) (o : Option (List ℕ)) → Spells v input → o ≡ option_map spelling (get key v)
    → IfSome o (StandsUnder input key)
span_stands key input v o s e = subst (λ p. IfSome p (StandsUnder input key)) (sym e) (by_value (get key v) refl)
  where
    by_value : (g : Option Bencode) → get key v ≡ g → IfSome (option_map spelling g) (StandsUnder input key)
    by_value None h = tt
    by_value (Some w) h = get_stands key input v w s h

pub spans_stand : (asked : Option (List ℕ)) (input : List ℕ) (v : Bencode) (o : Option (List ℕ)) → Spells v input
    → IfSome asked (λ key. o ≡ option_map spelling (get key v)) → IfSome asked (λ key. IfSome o (StandsUnder input key))
spans_stand None input v o s e = tt
spans_stand (Some key) input v o s e = span_stands key input v o s e
