-- Steps one after the other: what holds of all of them, chains that are joined and cut, the relations in which they lie, and what they keep.
use Rattle.std.proofs.Common.{◌≡◌, ◌<◌, ◌+◌, ℕ, zero, suc, List, [], ◌∷◌, ◌++◌, take, drop, get_or, slice_get, Some, length, refl, sym, ap, ap₂, ◌∙◌, subst}
use Rattle.std.proofs.Common.{arith}
use Rattle.std.proofs.lemmas.List.{get_or-drop, length-drop, take_more}
use Rattle.std.proofs.lemmas.List.Elements.{All-head, All-tail}
use Rattle.std.proofs.lemmas.Option.{get_or_from_slice_get, slice_get_within}
use Rattle.std.specs.List.{All}
use Rattle.chains.specs.Chain.{Chain}
use Rattle.chains.proofs.Cases.{drop_item, taken_more}

module _ {S I O : Type 0} (Step : S → I → O → S → Type 0) where
  -- what holds of no steps, and of one step before others of which it holds, holds of each chain
  pub Chain-each : (R : S → List I → List O → S → Type 0) → ((s : S) → R s [] [] s)
      → ((s : S) (i : I) (o : O) (mid : S) (is : List I) (os : List O) (s' : S) → Step s i o mid → Chain Step mid is os s' → R mid is os s'
      → R s (i ∷ is) (o ∷ os) s')
      → (s : S) (is : List I) (os : List O) (s' : S) → Chain Step s is os s' → R s is os s'
  Chain-each R none more s [] [] s' e = subst (R s [] []) (sym e) (none s)
  Chain-each R none more s [] (o ∷ os) s' e = absurd e
  Chain-each R none more s (i ∷ is) [] s' e = absurd e
  Chain-each R none more s (i ∷ is) (o ∷ os) s' (mid, step, rest) = more s i o mid is os s' step rest (Chain-each R none more mid is os s' rest)

  -- ---- chains that are joined and cut

  -- one chain after another
  pub Chain-append : (s : S) (is : List I) (os : List O) (mid : S) (js : List I) (ps : List O) (s' : S) → Chain Step s is os mid → Chain Step mid js ps s'
      → Chain Step s (is ++ js) (os ++ ps) s'
  Chain-append s is os mid js ps s' = Chain-each (λ a is os b. Chain Step b js ps s' → Chain Step a (is ++ js) (os ++ ps) s') (λ a run. run)
      (λ a i o next is os b step rest later run. (next, step, later run)) s is os mid

  -- one more step
  pub Chain-more : (s : S) (is : List I) (os : List O) (mid : S) (i : I) (o : O) (s' : S) → Chain Step s is os mid → Step mid i o s'
      → Chain Step s (is ++ i ∷ []) (os ++ o ∷ []) s'
  Chain-more s is os mid i o s' run step = Chain-append s is os mid (i ∷ []) (o ∷ []) s' run (s', step, refl)

  -- one more of a list's items, where a loop has come to it
  pub Chain-next : (s mid s' : S) (is : List I) (n : ℕ) (os : List O) (d : I) (o : O) → n < length is
      → Chain Step s (take n is) os mid → Step mid (get_or is n d) o s' → Chain Step s (take (n + 1) is) (os ++ o ∷ []) s'
  Chain-next s mid s' is n os d o inside before step =
      subst (λ xs. Chain Step s xs (os ++ o ∷ []) s') (sym (take_more is n d inside))
      (Chain-more s (take n is) os mid (get_or is n d) o s' before step)

  -- or that stands there
  pub Chain-item : (s mid s' : S) (is : List I) (n : ℕ) (os : List O) (i : I) (o : O) → slice_get is n ≡ Some i
      → Chain Step s (take n is) os mid → Step mid i o s' → Chain Step s (take (n + 1) is) (os ++ o ∷ []) s'
  Chain-item s mid s' is n os i o there before step =
      subst (λ xs. Chain Step s xs (os ++ o ∷ []) s') (sym (taken_more is n i there)) (Chain-more s (take n is) os mid i o s' before step)

  -- behind the first ones
  pub Chain-from : (s mid s' : S) (is : List I) (first n : ℕ) (os : List O) (i : I) (o : O) → slice_get is (first + n) ≡ Some i
      → Chain Step s (take n (drop first is)) os mid → Step mid i o s' → Chain Step s (take (n + 1) (drop first is)) (os ++ o ∷ []) s'
  Chain-from s mid s' is first n os i o there before step =
      let inside : first + n < length is = slice_get_within is (first + n) i there in
      let at : get_or (drop first is) n i ≡ i = get_or-drop first is n i ∙ get_or_from_slice_get is (first + n) i i there in
      Chain-next s mid s' (drop first is) n os i o (omega (arith, inside, length-drop first is)) before (subst (λ j. Step mid j o s') (sym at) step)

  -- there are as many outputs as inputs
  pub Chain-length : (s : S) (is : List I) (os : List O) (s' : S) → Chain Step s is os s' → length os ≡ length is
  Chain-length = Chain-each (λ s is os s'. length os ≡ length is) (λ s. refl) (λ s i o mid is os s' step rest later. ap suc later)

  -- where a chain is cut
  pub record CutChain (s : S) (is : List I) (os : List O) (n : ℕ) (s' : S) : Type 0 where
    pub mid : S
    pub before : Chain Step s (take n is) (take n os) mid
    pub after : Chain Step mid (drop n is) (drop n os) s'

  pub cut_chain : (s : S) (is : List I) (os : List O) (n : ℕ) (s' : S) → Chain Step s is os s' → CutChain s is os n s'
  cut_chain s is os zero s' run = record { mid = s; before = refl; after = run }
  cut_chain s [] [] (suc n) s' run = record { mid = s; before = refl; after = run }
  cut_chain s [] (o ∷ os) (suc n) s' run = absurd run
  cut_chain s (i ∷ is) [] (suc n) s' run = absurd run
  cut_chain s (i ∷ is) (o ∷ os) (suc n) s' (next, first, rest) =
      let later : CutChain next is os n s' = cut_chain next is os n s' rest in
      record { mid = later.mid; before = (next, first, later.before); after = later.after }

  -- the step at a number
  pub record StepAt (s : S) (is : List I) (os : List O) (n : ℕ) (i : I) (o : O) (s' : S) : Type 0 where
    pub from : S
    pub to : S
    pub before : Chain Step s (take n is) (take n os) from
    pub step : Step from i o to
    pub after : Chain Step to (drop (n + 1) is) (drop (n + 1) os) s'

  pub step_at : (s : S) (is : List I) (os : List O) (n : ℕ) (i : I) (o : O) (s' : S) → slice_get is n ≡ Some i → slice_get os n ≡ Some o
      → Chain Step s is os s' → StepAt s is os n i o s'
  step_at s is os n i o s' there of run =
      let cut : CutChain s is os n s' = cut_chain s is os n s' run in
      let after : Chain Step cut.mid (i ∷ drop (n + 1) is) (o ∷ drop (n + 1) os) s' =
      subst (λ js. Chain Step cut.mid js (o ∷ drop (n + 1) os) s') (drop_item is n i there)
      (subst (λ ps. Chain Step cut.mid (drop n is) ps s') (drop_item os n o of) cut.after) in
      record { from = cut.mid; to = after.0; before = cut.before; step = after.1; after = after.2 }

  -- ---- the relations in which chains lie

  -- a chain lies in each reflexive and transitive relation in which each step does
  pub Chain-within : (R : S → S → Type 0) → ((s : S) → R s s) → ((a b c : S) → R a b → R b c → R a c)
      → ((s : S) (i : I) (o : O) (s' : S) → Step s i o s' → R s s') → (s : S) (is : List I) (os : List O) (s' : S) → Chain Step s is os s' → R s s'
  Chain-within R stays joins within = Chain-each (λ s is os s'. R s s') stays
      (λ s i o mid is os s' step rest later. joins s mid s' (within s i o mid step) later)

  -- what each step leaves as it is
  pub Chain-same : {A : Type 0} (f : S → A) → ((s : S) (i : I) (o : O) (s' : S) → Step s i o s' → f s' ≡ f s)
      → (s : S) (is : List I) (os : List O) (s' : S) → Chain Step s is os s' → f s' ≡ f s
  Chain-same f same = Chain-within (λ a b. f b ≡ f a) (λ a. refl) (λ a b c first next. next ∙ first) same

  module _ (P : S → Type 0) (B : I → Type 0) (keeps : (s : S) (i : I) (o : O) (s' : S) → P s → B i → Step s i o s' → P s') where
    -- what each step keeps, of such inputs, holds before each step
    pub Chain-with : (s : S) (is : List I) (os : List O) (s' : S) → P s → All B is → Chain Step s is os s'
        → Chain (λ s i o s'. P s × Step s i o s') s is os s'
    Chain-with s is os s' p all run = Chain-each (λ a is os b. P a → All B is → Chain (λ s i o s'. P s × Step s i o s') a is os b) (λ a p all. refl)
        (λ a i o mid is os b step rest later p all. (mid, (p, step), later (keeps a i o mid p (All-head B i is all) step) (All-tail B i is all)))
        s is os s' run p all

    -- and at the end
    pub Chain-kept : (s : S) (is : List I) (os : List O) (s' : S) → P s → All B is → Chain Step s is os s' → P s'
    Chain-kept s is os s' p all run = Chain-each (λ a is os b. P a → All B is → P b) (λ a p all. p)
        (λ a i o mid is os b step rest later p all. later (keeps a i o mid p (All-head B i is all) step) (All-tail B i is all)) s is os s' run p all

-- the same steps between states that a function gives
pub Chain-mapped : {S T I O : Type 0} (P : S → I → O → S → Type 0) (Q : T → I → O → T → Type 0) (f : S → T)
    → ((s : S) (i : I) (o : O) (s' : S) → P s i o s' → Q (f s) i o (f s'))
    → (s : S) (is : List I) (os : List O) (s' : S) → Chain P s is os s' → Chain Q (f s) is os (f s')
Chain-mapped P Q f maps = Chain-each P (λ s is os s'. Chain Q (f s) is os (f s')) (λ s. refl)
    (λ s i o mid is os s' step rest later. (f mid, maps s i o mid step, later))

-- steps that say more
pub Chain-weaker : {S I O : Type 0} (P Q : S → I → O → S → Type 0) → ((s : S) (i : I) (o : O) (s' : S) → P s i o s' → Q s i o s')
    → (s : S) (is : List I) (os : List O) (s' : S) → Chain P s is os s' → Chain Q s is os s'
Chain-weaker P Q = Chain-mapped P Q (λ s. s)

-- the last step of a chain
pub record LastStep {S I O : Type 0} (Step : S → I → O → S → Type 0) (s : S) (is : List I) (i : I) (os : List O) (s' : S) : Type 0 where
  pub earlier : List O
  pub last : O
  pub middle : S
  pub outputs_are : os ≡ earlier ++ last ∷ []
  pub run : Chain Step s is earlier middle
  pub step : Step middle i last s'

pub last_step : {S I O : Type 0} (Step : S → I → O → S → Type 0) (s : S) (is : List I) (i : I) (os : List O) (s' : S) → Chain Step s (is ++ i ∷ []) os s'
    → LastStep Step s is i os s'
last_step Step s [] i [] s' run = absurd run
last_step Step s [] i (o ∷ []) s' (mid, step, e) = record {
  earlier = [];
  last = o;
  middle = s;
  outputs_are = refl;
  run = refl;
  step = subst (Step s i o) (sym e) step;
}
last_step Step s [] i (o ∷ p ∷ os) s' (mid, step, rest) = absurd rest
last_step Step s (j ∷ is) i [] s' run = absurd run
last_step Step s (j ∷ is) i (o ∷ os) s' (mid, step, rest) =
    let later : LastStep Step mid is i os s' = last_step Step mid is i os s' rest in
    record {
      earlier = o ∷ later.earlier;
      last = later.last;
      middle = later.middle;
      outputs_are = ap (λ ps. o ∷ ps) later.outputs_are;
      run = (mid, step, later.run);
      step = later.step;
    }

-- where a step has one output and one end, so has a chain
pub Chain-one : {S I O : Type 0} (P : S → I → O → S → Type 0) → ((s : S) (i : I) (o p : O) (s' t : S) → P s i o s' → P s i p t → (o ≡ p) × (s' ≡ t))
    → (s : S) (is : List I) (os ps : List O) (s' t : S) → Chain P s is os s' → Chain P s is ps t → (os ≡ ps) × (s' ≡ t)
Chain-one P one s [] [] [] s' t a b = (refl, a ∙ sym b)
Chain-one P one s [] [] (p ∷ ps) s' t a b = absurd b
Chain-one P one s [] (o ∷ os) ps s' t a b = absurd a
Chain-one P one s (i ∷ is) [] ps s' t a b = absurd a
Chain-one P one s (i ∷ is) (o ∷ os) [] s' t a b = absurd b
Chain-one {S = W} P one s (i ∷ is) (o ∷ os) (p ∷ ps) s' t (mid, step, rest) (mid', step', rest') =
    let here = one s i o p mid mid' step step' in
    let later = Chain-one P one mid is os ps s' t rest (subst (λ (m : W). Chain P m is ps t) (sym here.1) rest') in
    (ap₂ (λ x xs. x ∷ xs) here.0 later.0, later.1)
