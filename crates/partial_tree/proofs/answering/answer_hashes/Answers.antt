use Rattle.std.proofs.Common.{◌≡◌, ℕ, ◌+◌, ◌-◌, ◌/◌, ◌^◌, List, [], ◌∷◌, ◌++◌, map, Option, sym, ap, ap₂, ◌∙◌, arith, subst, append_assoc, append-nil, length}
use Rattle.std.specs.List.{range_with_len}
use Rattle.std.proofs.lemmas.List.FromFn.{map-range_with_len_more, length-map-range_with_len}
use Rattle.hashtree.specs.Tree.{height}
use Rattle.hashtree.proofs.Heights.{height_pow}
use Rattle.node_maps.specs.Digest.{Hash}
use Rattle.node_maps.specs.Places.{PartialTree}
use Rattle.node_maps.specs.Known.{look}
use Rattle.node_maps.specs.Runs.{AreKnown, hashes_from}
use Rattle.partial_tree.specs.Claims.{span, cover, above, sibling, hash_or_pad, answer_uncles}
use Rattle.partial_tree.proofs.answering.answer_hashes.Given.{Over}
use Rattle.partial_tree.proofs.answering.answer_hashes.Goals as goal
use Rattle.partial_tree.proofs.answering.answer_hashes.Goals.{Start}

module _ (g : Over) (c : Start g) where
  abbrev K : PartialTree
  K = look (g.N.NodeMap.seen c.args.nodes.now).known

  -- the hashes of the range, and the uncle at place k above it
  abbrev first : List Hash
  first = map (λ k. hash_or_pad K c.args.ask.now.base (c.args.ask.now.index + k)) (range_with_len 0 c.args.ask.now.length)

  abbrev uncle : ℕ → Hash
  uncle k = hash_or_pad K (cover c.args.ask.now + k) (sibling (above c.args.ask.now (cover c.args.ask.now + k)))

  spans : span c.args.ask.now ≡ c.args.span
  spans = ap height (sym c.requires.span) ∙ height_pow c.args.span

pub copy_to-requires-clause-known : goal.copy_to-requires-clause-known
copy_to-requires-clause-known g c =
    let base : ℕ → Option Hash = look (g.N.NodeMap.seen c.args.nodes.now).known c.args.ask.now.base in
    subst (λ a. AreKnown base a c.from-2.result) (sym c.from.ensures)
    (subst (AreKnown base c.args.ask.now.index) (sym c.from-2.ensures) c.requires.known.base_known)

pub uncles-init : goal.uncles-init
uncles-init g c =
    let r = (goal.at.uncles-init g c).Start in
    let base : ℕ → Option Hash = K g r c.args.ask.now.base in
    let items : c.copy_to.new.out.items ≡ first g r = c.copy_to.ensures.copied
    ∙ ap (λ xs. xs ++ hashes_from base c.from.result c.from-2.result) c.in_ok-hashes.ensures.items
    ∙ ap₂ (hashes_from base) c.from.ensures c.from-2.ensures in
    let long : length (first g r) ≡ c.args.ask.now.length =
    length-map-range_with_len (λ k. hash_or_pad (K g r) c.args.ask.now.base (c.args.ask.now.index + k)) 0 c.args.ask.now.length in
    record {
      answer = items ∙ sym (append-nil (first g r));
      room = omega (arith, ap length items, long, c.copy_to.new.out.ok.0, c.copy_to.ensures.no_memory, c.in_ok-hashes.ensures.capacity);
    }

pub uncles-preserved : goal.uncles-preserved
uncles-preserved g c =
    let r = (goal.at.uncles-preserved g c).Start in
    let ask = c.args.ask.now in
    let layer : ask.base + c.args.span + c.uncles.j ≡ cover ask + c.uncles.j = ap (λ k. ask.base + k + c.uncles.j) (sym (spans g r)) in
    let exponent : c.args.span + c.uncles.j ≡ cover ask + c.uncles.j - ask.base = omega (arith, layer) in
    let place : c.sibling.result ≡ sibling (above ask (cover ask + c.uncles.j)) =
    c.sibling.ensures ∙ ap (λ i. sibling (i / 2 ^ (c.args.span + c.uncles.j))) c.from-in-uncles.ensures ∙ ap (λ k. sibling (ask.index / 2 ^ k)) exponent in
    record {
      answer = c.push_reserved.ensures.items
          ∙ ap (λ t. t ++ c.known_or_pad.result ∷ []) c.uncles.invariant.answer
          ∙ append_assoc (first g r) (map (uncle g r) (range_with_len 0 c.uncles.j)) (c.known_or_pad.result ∷ [])
          ∙ ap (λ x. first g r ++ (map (uncle g r) (range_with_len 0 c.uncles.j) ++ x ∷ []))
          (c.known_or_pad.ensures ∙ ap₂ (λ l i. hash_or_pad (K g r) l i) layer place)
          ∙ ap (λ t. first g r ++ t) (sym (map-range_with_len_more (uncle g r) 0 c.uncles.j c.uncles.j (omega arith)));
      room = omega (arith, c.push_reserved.ensures.len, c.push_reserved.ensures.capacity, c.uncles.invariant.room, c.uncles-test.true);
    }

pub returns : goal.returns
returns g c =
    let r = (goal.at.returns g c).Start in
    let same = spans g r in
    let count : c.uncles.j ≡ answer_uncles c.args.height c.args.ask.now = omega (
      arith,
      same,
      c.min-uncles.ensures,
      c.saturating_sub.ensures,
      c.uncles-test.false,
      c.uncles.auto.j-end,
    ) in
    c.uncles.invariant.answer ∙ ap (λ n. first g r ++ map (uncle g r) (range_with_len 0 n)) count
