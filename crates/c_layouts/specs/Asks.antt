-- The five fields of a hash request, as C has them.
use Rattle.wire.specs.declared.message.Ask.{Ask}
use Rattle.c_layouts.specs.declared.asked.Asked.{Asked}

-- the ask of these fields
abbrev pub ask_of : Asked → Ask
ask_of a = record {
  root = a.root;
  base = a.base;
  index = a.index;
  length = a.length;
  proof = a.proof;
}

-- the same five fields, as C has them
abbrev pub asked_of : Ask → Asked
asked_of a = record {
  root = a.root;
  base = a.base;
  index = a.index;
  length = a.length;
  proof = a.proof;
}
