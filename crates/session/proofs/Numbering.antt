-- The trees of a session by their roots.
use Rattle.std.proofs.Common.{◌≡◌, ◌≢◌, ℕ, ◌<◌, List, length, set, Option, Some, None, option_map, Result, Ok, Err, IfOk, IfErr, OnErr, sym, ap, ◌∙◌, subst₂}
use Rattle.std.specs.Prelude.{slice_get, IfSome}
use Rattle.std.proofs.lemmas.Option.{none-some, same_Some, slice_get_within, slice_get-map}
use Rattle.opening.specs.Description.{Description}
use Rattle.opening.specs.Trees.{IsTreeWithRoot}
use Rattle.node_maps.specs.Digest.{Hash}
use Rattle.node_maps.specs.Known.{look}
use Rattle.node_maps.specs.Places.{tree_height}
use Rattle.partial_tree.specs.Answers.{IsTreeAnswer}
use Rattle.partial_tree.specs.Claims.{TreeRefuses, CanAnswer}
use Rattle.partial_tree.specs.TreeRoot.{TreeRoot}
use Rattle.partial_tree.specs.Kept.{TreeState, KeptTree, info_of, TreeTakesHashes, TreeRefusesHashes}
use Rattle.partial_tree.specs.declared.answer.Answer.{Answer}
use Rattle.partial_tree.specs.declared.answer.Answer.TheVariants as answer
use Rattle.partial_tree.specs.declared.refusal.HashRefusal.{HashRefusal}
use Rattle.partial_tree.specs.declared.refusal.HashRefusal.TheVariants.{UnknownRoot, BadRange, BadCount, BadPad, Unanchored, Mismatch, NoMemory, Unasked}
use Rattle.session.specs.Answers.{IsAnswerTo}
use Rattle.session.specs.Asks.{AskSet}
use Rattle.session.specs.Layouts.{SessionSeen, root_of_entry, roots, seen}
use Rattle.session.specs.Session.{HasDistinctRoots, IsAsked, IsAnswered, IsStored, IsHashRefused}
use Rattle.session.proofs.KeptTrees.{IsKeptTree, tree-after, tree-stays}
use Rattle.session.proofs.Sessions.{mapped}
use Rattle.wire.specs.declared.message.Ask.{Ask}

-- the number, if there is one, is that of a tree with this root
abbrev pub IsFound : Hash → Option ℕ → Description → Type 0
IsFound root o d = IfSome o (IsTreeWithRoot d.trees root)

-- no other tree has this root
abbrev pub IsOnly : Hash → Option ℕ → Description → Type 0
IsOnly root o d = (n : ℕ) → IsTreeWithRoot d.trees root n → o ≡ Some n

pub found_within : (d : Description) (root : Hash) (o : Option ℕ) → IsFound root o d → IfSome o (λ n. n < length d.trees)
found_within d root None found = tt
found_within d root (Some n) (e, there, same) = slice_get_within d.trees n e there

-- where no tree of the torrent has the root, no tree of the session has it
pub no_root : (v : SessionSeen) (root : Hash) (o : Option ℕ) → IsOnly root o v.torrent → o ≡ None
    → (n : ℕ) (tree : TreeRoot) → slice_get (roots v) n ≡ Some tree → tree.root ≢ root
no_root v root o only none n tree there same =
    let e = mapped root_of_entry (slice_get v.torrent.trees n) tree (sym (slice_get-map root_of_entry v.torrent.trees n) ∙ there) in
    none-some n (sym none ∙ only n (e.0, e.1, ap (λ (t : TreeRoot). t.root) e.2 ∙ same))

-- the tree that an ask names by its root
module _ {d : Description} {ts : List KeptTree} {o : AskSet} {v : SessionSeen} {n : ℕ} {a : KeptTree} (x : IsKeptTree d ts o v n a) (ask : Ask)
    (named : IsTreeWithRoot v.torrent.trees ask.root n) where
  same_root : a.root ≡ ask.root
  same_root = ap (λ (t : TreeRoot). t.root)
      (same_Some (info_of a) (root_of_entry named.0)
      (sym x.is_tree.tree_is ∙ slice_get-map root_of_entry v.torrent.trees n ∙ ap (option_map root_of_entry) named.1)) ∙ named.2

  abbrev asked : IsAsked v ask
  asked = record { number = n; tree = info_of a; state = a.state; is_tree = x.is_tree; has_root = same_root }

  pub stored_all : (b : KeptTree) (hashes : List Hash) (r : Result ℕ HashRefusal) → IfOk r (λ c. TreeTakesHashes a ask hashes c b)
      → IfOk r (λ c. IsStored v ask hashes c (seen d o (set ts n b)))
  stored_all b hashes (Err e) h = tt
  stored_all b hashes (Ok c) (taken, rest) =
      record { asked = asked; after = b.state; taken = taken; marks_stay = ap (λ (t : KeptTree). t.state.marked) rest; state_after = tree-after x b }

  refused_in : (hashes : List Hash) (r : HashRefusal) → TreeRefuses a.length (look a.state.known) ask hashes r → IsHashRefused v ask hashes r
  refused_in hashes UnknownRoot refused = absurd refused.fault
  refused_in hashes Unasked refused = absurd refused.fault
  refused_in hashes BadRange refused = (asked, refused)
  refused_in hashes BadCount refused = (asked, refused)
  refused_in hashes BadPad refused = (asked, refused)
  refused_in hashes Unanchored refused = (asked, refused)
  refused_in hashes Mismatch refused = (asked, refused)
  refused_in hashes NoMemory refused = (asked, refused)

  pub refused_all : (b : KeptTree) (hashes : List Hash) (r : Result ℕ HashRefusal) → IfErr r (λ e. TreeRefusesHashes a ask hashes e × (b ≡ a))
      → IfErr r (λ e. IsHashRefused v ask hashes e × (seen d o (set ts n b) ≡ v))
  refused_all b hashes (Ok c) h = tt
  refused_all b hashes (Err e) (refuses, same) = (refused_in hashes e refuses, tree-stays x b same)

  pub asked_in : CanAnswer (tree_height a.length) (look a.state.known) ask → IsAnswered v ask
  asked_in can = (asked, can)

  pub answered_in : HasDistinctRoots v → IsAnswered v ask → CanAnswer (tree_height a.length) (look a.state.known) ask
  answered_in distinct (other, can) =
      let same : other.number ≡ n =
      distinct other.number n other.tree (info_of a) other.is_tree.tree_is x.is_tree.tree_is (other.has_root ∙ sym same_root) in
      let tree : other.tree ≡ info_of a = same_Some other.tree (info_of a) (sym other.is_tree.tree_is ∙ ap (slice_get (roots v)) same ∙ x.is_tree.tree_is) in
      let state : other.state ≡ a.state = same_Some other.state a.state (sym other.is_tree.state_is ∙ ap (slice_get v.trees) same ∙ x.is_tree.state_is) in
      subst₂ (λ (r : TreeRoot) (s : TreeState). CanAnswer (tree_height r.length) (look s.known) ask) tree state can

  pub answer_all : HasDistinctRoots v → {E : Type 0} (r : Result Answer E) → IfOk r (IsTreeAnswer (tree_height a.length) (look a.state.known) ask)
      → IfOk r (IsAnswerTo v ask)
  answer_all distinct (Err e) h = tt
  answer_all distinct (Ok (answer.Hashes hashes)) h = (asked, h)
  answer_all distinct (Ok answer.Reject) h = λ answered. h (answered_in distinct answered)

  pub answer_memory : {A E : Type 0} (r : Result A E) → OnErr r (CanAnswer (tree_height a.length) (look a.state.known) ask) → OnErr r (IsAnswered v ask)
  answer_memory (Ok y) h = tt
  answer_memory (Err e) can = asked_in can
