-- Who has all blocks of a file answers for each of them.
use Rattle.std.proofs.Common.{◌≡◌, ◌≢◌, ℕ, ◌<◌, is_none, if◌then◌else◌, Option, Some, None, refl, sym, ap, ◌∙◌, subst}
use Rattle.std.proofs.lemmas.Option.{same_Some, none-some}
use Rattle.wire.specs.declared.message.Ask.{Ask}
use Rattle.hashtree.specs.Tree.{block_count}
use Rattle.node_maps.specs.Digest.{Hash}
use Rattle.node_maps.specs.Known.{look}
use Rattle.node_maps.specs.Places.{PartialTree, IsKnown}
use Rattle.partial_tree.specs.EndPads.{AreEndPadsKnown, IsShortAsk}
use Rattle.partial_tree.specs.Gaps.{want_ask, want_of}
use Rattle.partial_tree.specs.TreeRoot.{TreeRoot}
use Rattle.tree_laws.proofs.EndPads.{short-answered, wanted-short, pads-stay_known}
use Rattle.session.specs.Session.{SessionSeen, TreeState, IsTree, HasClosedTrees, IsAnswered}
use Rattle.session.specs.SafeStep.{KeepsKnown}
use Rattle.session.specs.EndLaws.{CanServe}

pub served-answered : (S : SessionSeen) (n : ℕ) (tree : TreeRoot) (s : TreeState) (ask : Ask) → HasClosedTrees S → CanServe S n tree s → ask.root ≡ tree.root
    → IsShortAsk tree.length ask → IsAnswered S ask
served-answered S n tree s ask closed serves root short = (
  record { number = n; tree = tree; state = s; is_tree = serves.is_tree; has_root = sym root },
  short-answered tree (look s.known) ask (closed.closed n tree s serves.is_tree) serves.leaves serves.pads short,
)

-- what is wanted names the tree's root
wanted-root : (t : TreeRoot) (K : PartialTree) (b : ℕ) (ask : Ask) → want_of t K b ≡ Some ask → ask.root ≡ t.root
wanted-root t K b ask wanted = by (K 0 b) refl
  where
    by : (o : Option Hash) → K 0 b ≡ o → ask.root ≡ t.root
    by (Some v) is = absurd (none-some ask (sym (ap (λ (o : Option Hash). if is_none o then Some (want_ask t b) else None) is) ∙ wanted))
    by None is = ap (λ (a : Ask). a.root) (sym (same_Some (want_ask t b) ask
        (sym (ap (λ (o : Option Hash). if is_none o then Some (want_ask t b) else None) is) ∙ wanted)))

pub served-wanted : (S R : SessionSeen) (n k : ℕ) (tree : TreeRoot) (s r : TreeState) (b : ℕ) (ask : Ask) → HasClosedTrees S → HasClosedTrees R
    → CanServe S n tree s → IsTree R k tree r → b < block_count tree.length → want_of tree (look r.known) b ≡ Some ask → IsAnswered S ask
served-wanted S R n k tree s r b ask closed other serves at low wanted =
    served-answered S n tree s ask closed serves (wanted-root tree (look r.known) b ask wanted)
    (wanted-short tree (look r.known) b ask (other.closed k tree r at) low wanted)

pub serving-stays : (S S' : SessionSeen) (n : ℕ) (tree : TreeRoot) (s : TreeState) → KeepsKnown S S' → CanServe S n tree s
    → (s' : TreeState) × CanServe S' n tree s'
serving-stays S S' n tree s keeps serves =
    let later = keeps n tree s serves.is_tree in (
      later.0,
      record {
        is_tree = later.1;
        leaves = λ b low. let u = serves.leaves b low in (u.0, later.2 0 b u.0 u.1);
        pads = pads-stay_known tree.length (look s.known) (look later.0.known) later.2 serves.pads;
      },
    )
