-- The order of an export.
use Rattle.std.proofs.Common.{◌≡◌, ◌⊎◌, ℕ, suc, ◌+◌, ◌<◌, ◌≤◌, [], ◌∷◌, refl, inl, inr, sym, subst, arith}
use Rattle.std.specs.Prelude.{length}
use Rattle.std.proofs.lemmas.Bool.{cases_lt}
use Rattle.wire.specs.declared.message.Ask.{Ask}
use Rattle.session.specs.Session.{SessionSeen}
use Rattle.session_exports.specs.declared.next.Point.{Point}
use Rattle.session_exports.specs.Exports.{HasLeaf, AreLeavesUnknown, NoneFrom, NothingFrom, IsExport, IsFrom, IsRange, IsExported, ExportsAllLeaves}
use Rattle.session_exports.specs.Exports.{point_after}

-- the trees before one, and the blocks of that one before a block, were searched from a point on
pub record IsSearched (S : SessionSeen) (p : Point) (n a : ℕ) : Type 0 where
  pub later : p.tree ≤ n
  pub begins : n ≡ p.tree → a ≡ p.block
  pub others : p.tree < n → a ≡ 0
  pub none : (m b : ℕ) → m < n → HasLeaf S m b → IsFrom p m b → ⊥

pub searched-first : (S : SessionSeen) (p : Point) → IsSearched S p p.tree p.block
searched-first S p = record {
  later = omega arith;
  begins = λ _. refl-block;
  others = λ low. absurd (omega arith);
  none = λ m b low leaf from. elim from [ inl up ↦ absurd (omega arith) | inr same ↦ absurd (omega arith) ];
}
  where
    refl-block : p.block ≡ p.block
    refl-block = omega arith

pub searched-next : (S : SessionSeen) (p : Point) (n a : ℕ) → IsSearched S p n a → NoneFrom S n a → IsSearched S p (n + 1) 0
searched-next S p n a so_far none = record {
  later = omega (arith, so_far.later);
  begins = λ same. absurd (omega (arith, so_far.later, same));
  others = λ low. (let zero_is : 0 ≡ 0 = omega arith in zero_is);
  none = λ m b low leaf from. elim (cases_lt m n) [
    | inl before ↦ so_far.none m b before leaf from
    | inr high ↦
        let at : m ≡ n = omega arith in
        none b (start b from at) (subst (λ k. HasLeaf S k b) at leaf)
  ];
}
  where
    start : {m : ℕ} (b : ℕ) → IsFrom p m b → m ≡ n → a ≤ b
    start b (inl up) at = let zero_is = so_far.others (omega (arith, up, at)) in omega (arith, zero_is)
    start b (inr same) at = let begun = so_far.begins (omega (arith, same.0, at)) in omega (arith, begun, same.1)

-- the first block of a tree whose leaf is known is the next one, and so are the leaves around it
pub next-found : (S : SessionSeen) (p : Point) (n a b : ℕ) (ask : Ask) → IsSearched S p n a → a ≤ b → AreLeavesUnknown S n a b → IsRange S n b ask
    → IsExport S p (record { tree = n; ask = ask })
next-found S p n a b ask so_far low unknown range = record {
  block = b;
  range = range;
  later = elim (cases_lt p.tree n) [
    | inl up ↦ inl up
    | inr high ↦
        let at : n ≡ p.tree = omega (arith, so_far.later, high) in
        inr (sym at, omega (arith, low, so_far.begins at))
  ];
  skipped = λ m k leaf from before. elim before [
    | inl less ↦ so_far.none m k less leaf from
    | inr same ↦
        unknown k (start m k from same.0) (omega (arith, same.1, range.starts)) (subst (λ j. HasLeaf S j k) same.0 leaf)
  ];
}
  where
    start : (m k : ℕ) → IsFrom p m k → m ≡ n → a ≤ k
    start m k (inl up) at = let zero_is = so_far.others (omega (arith, up, at)) in omega (arith, zero_is)
    start m k (inr same) at = let begun = so_far.begins (omega (arith, same.0, at)) in omega (arith, begun, same.1)

-- all trees were searched
pub nothing-left : (S : SessionSeen) (p : Point) (n a count : ℕ) → IsSearched S p n a → count ≤ n → count ≡ length S.torrent.trees
    → ((m b : ℕ) → HasLeaf S m b → m < length S.torrent.trees) → NothingFrom S p
nothing-left S p n a count so_far end is inside m b leaf from =
    so_far.none m b (omega (arith, end, is, inside m b leaf)) leaf from

-- ---- a whole export

-- a leaf stands before an export, in it, or after it
pub exports-all : ExportsAllLeaves
exports-all S p [] none n b leaf from = absurd (none n b leaf from)
exports-all S p (e ∷ es) (first, rest) n b leaf from = elim (compare e.tree n) [
  | inl more ↦ later (exports-all S (point_after e) es rest n b leaf (inl more))
  | inr (inl same) ↦ elim (cases_lt b e.ask.index) [
    | inl before ↦ absurd (first.skipped n b leaf from (inr (sym same, before)))
    | inr starts ↦ elim (cases_lt b (e.ask.index + e.ask.length)) [
      | inl ends ↦ record { place = 0; export = e; there = refl; tree_is = same; starts = starts; ends = ends }
      | inr past ↦ later (exports-all S (point_after e) es rest n b leaf (inr (same, past)))
    ]
  ]
  | inr (inr less) ↦ absurd (first.skipped n b leaf from (inl less))
]
  where
    compare : (m k : ℕ) → (m < k) ⊎ ((m ≡ k) ⊎ (k < m))
    compare m k = elim (cases_lt m k) [
      | inl low ↦ inl low
      | inr high ↦ elim (cases_lt k m) [ inl less ↦ inr (inr less) | inr up ↦ inr (inl (omega arith)) ]
    ]

    later : IsExported es n b → IsExported (e ∷ es) n b
    later x = record {
      place = suc x.place;
      export = x.export;
      there = x.there;
      tree_is = x.tree_is;
      starts = x.starts;
      ends = x.ends;
    }
