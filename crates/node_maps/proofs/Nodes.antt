-- The parts of equal nodes, and marks that stay.
use Rattle.std.proofs.Common.{◌≡◌, ap, ◌∙◌}
use Rattle.node_maps.specs.Known.{Known}
use Rattle.node_maps.specs.Nodes.{Nodes, KeepsMarks, nodes}

pub length-of : {a b : Nodes} → a ≡ b → a.length ≡ b.length
length-of e = ap (λ (n : Nodes). n.length) e

pub known-of : {a b : Nodes} → a ≡ b → a.known ≡ b.known
known-of e = ap (λ (n : Nodes). n.known) e

pub marked-of : {a b : Nodes} → a ≡ b → a.marked ≡ b.marked
marked-of e = ap (λ (n : Nodes). n.marked) e

-- where other places are known, the marks stay
pub stays-added : {a b : Nodes} {known : Known} → b ≡ nodes a.length known a.marked → KeepsMarks a b
stays-added e = record {
  length = length-of e;
  marked = marked-of e;
}

-- first one step, and then another
pub stays-both : {a b c : Nodes} → KeepsMarks b c → KeepsMarks a b → KeepsMarks a c
stays-both later before = record {
  length = later.length ∙ before.length;
  marked = later.marked ∙ before.marked;
}

pub same-nodes : {a b : Nodes} → a.length ≡ b.length → a.known ≡ b.known → a.marked ≡ b.marked → a ≡ b
same-nodes length known marked = λ i. record { length = length i; known = known i; marked = marked i }
