use Rattle.std.proofs.Common.{◌≡◌, ◌<◌, length, Some, refl, sym, ap, ◌∙◌, subst}
use Rattle.std.specs.Prelude.{slice_get}
use Rattle.std.proofs.lemmas.Option.{none-some, same_Some, slice_get_within}
use Rattle.hashtree.specs.Tree.{block_count}
use Rattle.opening.specs.Blocks.{IsBlockRun}
use Rattle.opening.specs.Description.{Description, FileEntry}
use Rattle.session.proofs.BlockTrees.{in_file}
use Rattle.session.proofs.SessionCalls.{taken_at}
use Rattle.session.proofs.session.SessionOf.mark_blocks.Given.{Over}
use Rattle.session.proofs.session.SessionOf.mark_blocks.Goals as goal
use Rattle.session.proofs.session.SessionOf.mark_blocks.Goals.{After-lent_torrent}

-- the file of the message's place, in the torrent that is lent
there : (g : Over) (c : After-lent_torrent g) → slice_get c.lent_torrent.result.now.files c.in-Some.file ≡ Some c.in-Some.ensures.found.in_tree.entry
there g c = ap (λ (d : Description). slice_get d.files c.in-Some.file) c.lent_torrent.ensures ∙ c.in-Some.ensures.found.in_tree.there

pub block_run-requires-clause-there : goal.block_run-requires-clause-there
block_run-requires-clause-there g c =
    slice_get_within c.lent_torrent.result.now.files c.in-Some.file _ (there g (goal.at.block_run-requires-clause-there g c).After-lent_torrent)

pub block_run-requires-clause-in_file : goal.block_run-requires-clause-in_file
block_run-requires-clause-in_file g c = λ h at.
    let same = same_Some _ h (sym (there g (goal.at.block_run-requires-clause-in_file g c).After-lent_torrent) ∙ at) in
    subst (λ (e : FileEntry). c.in-Some.first < block_count e.length) same c.in-Some.ensures.found.in_tree.low

pub mark_run-requires : goal.mark_run-requires
mark_run-requires g c =
    let e = c.in-Some.ensures.found.in_tree in
    (e.entry, e.there, c.in-Some-block_run.ensures.found e.entry (there g (goal.at.mark_run-requires g c).After-lent_torrent))

pub returns-in-None-clause-refused : goal.returns-in-None-clause-refused
returns-in-None-clause-refused g c =
    let x = c.in-Some.ensures.found in
    let only = c.block_run.ensures.only x.in_tree.entry in
    let lent = there g (goal.at.returns-in-None-clause-refused g c).After-lent_torrent in (
      (
        record { file = c.in-Some.file; number = c.in-Some.first; at = x.at; in_file = in_file x.in_tree },
        λ k run. none-some k (sym c.in-None.is
            ∙ only k lent (subst (λ n. IsBlockRun n c.in-Some.first (length c.args.bytes.now) k) x.in_tree.same_length run)),
      ),
      refl,
    )

pub returns-in-Some-block_run-clause-taken : goal.returns-in-Some-block_run-clause-taken
returns-in-Some-block_run-clause-taken g c =
    let x = c.in-Some.ensures.found in
    let lent = there g (goal.at.returns-in-Some-block_run-clause-taken g c).After-lent_torrent in
    let run = subst (λ n. IsBlockRun n c.in-Some.first (length c.args.bytes.now) c.in-Some-block_run.count) (sym x.in_tree.same_length)
    (c.in-Some-block_run.ensures.found x.in_tree.entry lent) in
    taken_at c.args.self.now c.args.index c.args.begin c.in-Some.file c.in-Some.first c.in-Some-block_run.count c.args.bytes.now c.mark_run.result
    c.mark_run.new.self x.at (in_file x.in_tree) run c.mark_run.ensures.file c.mark_run.ensures.first c.mark_run.ensures.count c.mark_run.ensures.each

pub returns-in_default-clause-refused : goal.returns-in_default-clause-refused
returns-in_default-clause-refused g c = (sym c.block_at.ensures.value ∙ c.in_default.is, refl)
