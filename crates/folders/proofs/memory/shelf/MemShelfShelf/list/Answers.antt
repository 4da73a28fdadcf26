use Rattle.std.proofs.Common.{map, rules}
use Rattle.folders.specs.Shelf.{path_bytes}
use Rattle.folders.proofs.Shelves.{first_is_there, none_without_first}
use Rattle.folders.proofs.memory.shelf.MemShelfShelf.list.Goals as goal

pub returns-in_ok-owned-in-Some-clause-listed : goal.returns-in_ok-owned-in-Some-clause-listed
returns-in_ok-owned-in-Some-clause-listed c =
    first_is_there (λ p. map (λ part. part.now) p.now) c.args.self.now.specials.now c.in-Some.path.now (path_bytes c.in_ok-owned-in-Some.field-0)
    c.in-Some.ensures.value c.in_ok-owned-in-Some.ensures

pub returns-in_ok-paths_of-in-None-clause-listed : goal.returns-in_ok-paths_of-in-None-clause-listed
returns-in_ok-paths_of-in-None-clause-listed c = (
  c.if-self.false,
  none_without_first (λ p. map (λ part. part.now) p.now) c.args.self.now.specials.now c.in-None.ensures.value,
  c.in_ok-paths_of-in-None.ensures,
)

pub returns-in_ok-owned-in-Some-clause-lists : goal.returns-in_ok-owned-in-Some-clause-lists
returns-in_ok-owned-in-Some-clause-lists c = record {
  fails = search rules;
  listed = returns-in_ok-owned-in-Some-clause-listed c;
  counts = search rules;
  stays = search rules;
}

pub returns-in_ok-paths_of-in-None-clause-lists : goal.returns-in_ok-paths_of-in-None-clause-lists
returns-in_ok-paths_of-in-None-clause-lists c = record {
  fails = search rules;
  listed = returns-in_ok-paths_of-in-None-clause-listed c;
  counts = search rules;
  stays = search rules;
}
