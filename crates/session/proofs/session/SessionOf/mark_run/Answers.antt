use Rattle.std.proofs.Common.{◌≡◌, IfSome, ◌<◌, ◌+◌, ◌^◌, List, [], ◌∷◌, ◌++◌, length, Option, sym, ap, ◌∙◌, subst, arith, length-append}
use Rattle.sha2.specs.Sha256.{sha256}
use Rattle.opening.specs.Description.{Description}
use Rattle.partial_tree.specs.declared.refusal.BlockRefusal.{BlockRefusal}
use Rattle.chains.specs.Chain.{Chain}
use Rattle.opening.specs.Sound.{IsSound}
use Rattle.session.specs.Blocks.{BlocksSeen, cuts}
use Rattle.session.specs.Layouts.{SessionSeen, HasBlock, HasRun}
use Rattle.session.specs.Session.{BlockStep}
use Rattle.opening.proofs.Blocks.{at_most_seventeen}
use Rattle.session.proofs.Entries.{chain-torrent}
use Rattle.session.proofs.MessageBlocks.{run-offset, run-has, run-first, no_block, next_block}
use Rattle.session.proofs.session.SessionOf.mark_run.Goals as goal

pub new-blocks-requires : goal.new-blocks-requires
new-blocks-requires g c =
    run-first (g.T.HoldsTorrent.described c.self.inside.torrent) (subst IsSound c.lend.ensures c.recall_sound.ensures) c.args.file c.args.first
    (length c.args.bytes.now) c.args.count
    (subst (λ (v : SessionSeen). HasRun v.torrent c.args.file c.args.first (length c.args.bytes.now) c.args.count) (sym c.self.view_is) c.requires)

pub numbers-init : goal.numbers-init
numbers-init g c = record {
  file = ap (λ (v : BlocksSeen). v.file) c.new-blocks.ensures;
  first = ap (λ (v : BlocksSeen). v.first) c.new-blocks.ensures;
  count = ap (λ (v : BlocksSeen). length v.refusals) c.new-blocks.ensures;
  digests = c.new-digests.ensures c.args.bytes.now;
  each = subst (λ (v : BlocksSeen). Chain (BlockStep c.args.file) c.args.self.now (cuts c.args.first c.args.bytes.now 0) v.refusals c.args.self.now)
      (sym c.new-blocks.ensures) (no_block c.args.file c.args.self.now c.args.first c.args.bytes.now);
}

pub overflow_add-block : goal.overflow_add-block
overflow_add-block g c =
    let low : c.args.first + 17 < 2 ^ 64 = run-first (g.T.HoldsTorrent.described c.self.inside.torrent)
    (subst IsSound c.lend.ensures c.recall_sound.ensures) c.args.file c.args.first (length c.args.bytes.now)
    c.args.count
    (subst (λ (v : SessionSeen). HasRun v.torrent c.args.file c.args.first (length c.args.bytes.now) c.args.count) (sym c.self.view_is) c.requires) in
    let most = at_most_seventeen c.requires.0.length c.args.first (length c.args.bytes.now) c.args.count c.requires.2 in
    omega (arith, low, most, c.numbers-test.true)

pub block_of-requires : goal.block_of-requires
block_of-requires g c = run-offset c.requires.0.length c.args.first (length c.args.bytes.now) c.args.count c.numbers.number c.requires.2 c.numbers-test.true

pub hash_ahead-requires-clause-few : goal.hash_ahead-requires-clause-few
hash_ahead-requires-clause-few g c =
    let most = at_most_seventeen c.requires.0.length c.args.first (length c.args.bytes.now) c.args.count c.requires.2 in
    omega (arith, most, c.numbers-test.true)

pub hash_ahead-requires-clause-block : goal.hash_ahead-requires-clause-block
hash_ahead-requires-clause-block g c =
    subst (λ (d : Description). HasBlock d c.args.file (c.args.first + c.numbers.number))
    (sym (chain-torrent c.args.file c.args.self.now (cuts c.args.first c.args.bytes.now c.numbers.number) c.numbers.blocks.refusals c.numbers.self
    c.numbers.invariant.each))
    (run-has c.args.self.now.torrent c.args.file c.args.first (length c.args.bytes.now) c.args.count c.numbers.number c.requires c.numbers-test.true)

pub get-digest-requires : goal.get-digest-requires
get-digest-requires g c =
    let most = at_most_seventeen c.requires.0.length c.args.first (length c.args.bytes.now) c.args.count c.requires.2 in
    omega (arith, most, c.numbers-test.true)

pub mark_in_file-marked-requires-clause-digest : goal.mark_in_file-marked-requires-clause-digest
mark_in_file-marked-requires-clause-digest g c =
    subst (λ bs. IfSome c.get-digest.result (λ d. d ≡ sha256 bs)) (sym c.block_of.ensures)
    (c.get-digest.ensures c.args.bytes.now c.hash_ahead.ensures)

pub mark_in_file-marked-requires-clause-block : goal.mark_in_file-marked-requires-clause-block
mark_in_file-marked-requires-clause-block g c =
    subst (λ (d : Description). HasBlock d c.args.file (c.args.first + c.numbers.number))
    (sym (chain-torrent c.args.file c.args.self.now (cuts c.args.first c.args.bytes.now c.numbers.number) c.numbers.blocks.refusals c.numbers.self
    c.numbers.invariant.each))
    (run-has c.args.self.now.torrent c.args.file c.args.first (length c.args.bytes.now) c.args.count c.numbers.number c.requires c.numbers-test.true)

pub push-requires : goal.push-requires
push-requires g c =
    let most = at_most_seventeen c.requires.0.length c.args.first (length c.args.bytes.now) c.args.count c.requires.2 in
    omega (arith, most, c.numbers-test.true, c.numbers.invariant.count)

pub numbers-preserved : goal.numbers-preserved
numbers-preserved g c =
    let more : List (Option BlockRefusal) = c.numbers.blocks.refusals ++ c.err.result ∷ [] in
    let stated : c.push.new.self.refusals ≡ more = ap (λ (v : BlocksSeen). v.refusals) c.push.ensures in
    let count : length more ≡ c.numbers.number + 1 = omega (arith, length-append c.numbers.blocks.refusals (c.err.result ∷ []), c.numbers.invariant.count) in
    record {
      file = ap (λ (v : BlocksSeen). v.file) c.push.ensures ∙ c.numbers.invariant.file;
      first = ap (λ (v : BlocksSeen). v.first) c.push.ensures ∙ c.numbers.invariant.first;
      count = ap length stated ∙ count;
      digests = c.hash_ahead.ensures;
      each = subst (λ rs. Chain (BlockStep c.args.file) c.args.self.now (cuts c.args.first c.args.bytes.now (c.numbers.number + 1)) rs
          c.mark_in_file-marked.new.self)
          (ap (λ r. c.numbers.blocks.refusals ++ r ∷ []) (sym c.err.ensures.value) ∙ sym stated)
          (next_block c.args.file c.args.self.now c.args.first c.args.bytes.now c.numbers.number c.numbers.blocks.refusals c.numbers.self
          c.numbers.invariant.each
          c.block_of.result.now c.mark_in_file-marked.result c.mark_in_file-marked.new.self c.block_of.ensures
          c.mark_in_file-marked.ensures.marked c.mark_in_file-marked.ensures.refused);
    }

pub returns-clause-file : goal.returns-clause-file
returns-clause-file g c = c.numbers.invariant.file

pub returns-clause-first : goal.returns-clause-first
returns-clause-first g c = c.numbers.invariant.first

pub returns-clause-count : goal.returns-clause-count
returns-clause-count g c = omega (arith, c.numbers.invariant.count, c.numbers.auto.number-end, c.numbers-test.false)

pub returns-clause-each : goal.returns-clause-each
returns-clause-each g c =
    let all : c.numbers.number ≡ c.args.count = omega (arith, c.numbers.auto.number-end, c.numbers-test.false) in
    subst (λ n. Chain (BlockStep c.args.file) c.args.self.now (cuts c.args.first c.args.bytes.now n) c.numbers.blocks.refusals c.numbers.self) all
    c.numbers.invariant.each
