-- What is drafted of a folder, without how its files were opened and read; and what is written of it.
use Rattle.std.proofs.Common.{◌≡◌, ℕ, List, take, Some, Ok, Err, IfErr, IfOk, OnOk, Result, inl, inr, refl, subst}
use Rattle.benc.specs.Device.{SinkSeen, SourceSeen, SentAndFlushed}
use Rattle.benc.specs.Text.{spelling}
use Rattle.drafts.specs.Finishing.{finish_rows}
use Rattle.drafts.specs.Outline.{Outline}
use Rattle.drafts.specs.Written.{torrent_of, value_of}
use Rattle.filetree.specs.Tests.{NoneHolds}
use Rattle.filetree.specs.declared.refusal.Refusal.{Refusal}
use Rattle.folders.specs.Shelf.{path_bytes}
use Rattle.folders.specs.Verdicts.{Agrees}
use Rattle.folders.specs.declared.shelf.Shelf.{Ghosts}
use Rattle.gathering.specs.Gathering.{Gathers, HappensBefore, HasGathered, RefusesAt, StopsAtPath}
use Rattle.gathering.specs.declared.gather_fault.GatherFault.{GatherFault}
use Rattle.gathering.specs.declared.gather_fault.GatherFault.TheVariants as fault
use Rattle.opening.specs.Describes.{Describes}
use Rattle.uses.specs.Making.{AreDrafted, IsDraftOfAll, IsFirstFault, IsFirstRefused, IsTorrentOf}

module _ {S F : Type 0} (shelf : Ghosts S F) (seen : F → SourceSeen) (empty : Outline) (old new : S) where
  drafted : (listed : S) (paths : List (List (List ℕ))) (s : S) (d : Outline) → HasGathered shelf seen empty old listed paths s d
      → AreDrafted (shelf.contents old) empty paths d
  drafted listed paths s d h = record { contents = h.contents; are = h.are; gathered = h.gathered }

  pub all-drafted : (result : Result Outline GatherFault) → Gathers shelf seen empty old new result
      → IfOk result (IsDraftOfAll (shelf.contents old) empty)
  all-drafted (Ok d) g = record {
    paths = g.paths;
    listed = g.listing_is.sorted;
    drafted = drafted g.listed g.paths new d g.all;
  }
  all-drafted (Err f) g = tt

  refused : (path : List (List ℕ)) (r : Refusal)
      → StopsAtPath shelf seen empty old path (λ d mid rest. HappensBefore shelf seen (RefusesAt shelf seen d path r mid) rest new)
      → IsFirstRefused (shelf.contents old) empty path r
  refused path r s = record {
    paths = s.paths;
    listed = s.listing_is.sorted;
    number = s.number;
    is_path = s.there;
    before = s.draft;
    drafted = drafted s.listed (take s.number s.paths) s.mid s.draft s.before;
    content = s.why.why.content;
    is_content = subst (λ there. Agrees (there.under path) (Some s.why.why.content)) s.before.stays s.why.why.reads.agrees;
    refuses = s.why.why.refuses;
  }

  first : (f : GatherFault) → Gathers shelf seen empty old new (Err f) → IsFirstFault shelf seen empty old new f
  first (fault.Refused r path) (inl all) = inl (all.illegal, all.answer)
  first (fault.Refused r path) (inr stops) = inr (refused (path_bytes path) r stops)
  first (fault.Device path) s = s
  first (fault.List f) u = u.listed
  first fault.NoMemory g = tt
  first (fault.Changed path) s = s

  pub first-fault : (result : Result Outline GatherFault) → Gathers shelf seen empty old new result
      → IfErr result (IsFirstFault shelf seen empty old new)
  first-fault (Ok d) g = tt
  first-fault (Err f) g = first f g

-- what follows of a draft that is written
pub written : (d : Outline) (out out' : SinkSeen) (r : Result (Unit {0}) Refusal)
    → IfOk r (λ _. NoneHolds (finish_rows d) × SentAndFlushed out out' (spelling (value_of d)))
    → OnOk r (Describes (spelling (value_of d)) (torrent_of d)) → IfOk r (λ _. IsTorrentOf d out out')
written d out out' (Ok u) sent describes = record {
  text = spelling (value_of d);
  text_is = refl;
  written = sent.1;
  opens = λ result opened. opened.comes (torrent_of d) describes;
}
written d out out' (Err r) sent describes = tt
