-- The check of pieces in a row takes its bytes part by part.
use Rattle.std.proofs.Common.{◌≡◌, ℕ, ◌+◌, ◌≤◌, List, [], ◌++◌, length, refl, sym, ap, ◌∙◌, subst, subst₂, arith}
use Rattle.std.proofs.lemmas.List.{append_assoc, append-nil, length-append, nil_from_length}
use Rattle.hashtree.specs.Bits.{AreMarked}
use Rattle.hashtree.specs.Complete.{complete_count, complete_nodes}
use Rattle.hashtree.specs.Parts.{TakesFront}
use Rattle.hashtree.specs.PieceCheck as pieces
use Rattle.hashtree.specs.declared.piece_check.PieceCheck.{PieceCheck}
use Rattle.short_pushes.specs.Held.{Appends, held}
use Rattle.short_pushes.specs.RowChecks.{BeginsPushesAnew, IsEndedRow, IsGivenRow, IsRowSettled, IsTakenRow, PushesRow, TakesPush, row_byte_count}
use Rattle.short_pushes.specs.declared.row_check.RowCheck.{RowCheck}
use Rattle.short_pushes.proofs.Completing.{same_complete}

-- the bytes that a call takes, and the bits that it marks
abbrev pub takes : List ℕ → List ℕ → RowCheck → List ℕ → RowCheck → Type 0
takes marked marks old part new = TakesPush old marked part new marks

-- ---- marks

unmarked : (k : PieceCheck) (good content : List ℕ) → pieces.IsFedRow k good content → pieces.IsFedRow k [] content
unmarked k good content f = record { fed = f.fed; whole = f.whole; nodes = f.nodes; marked = λ i lt. absurd (omega (arith, lt)) }

remarked : (k : PieceCheck) (good content : List ℕ) → pieces.IsFedRow k [] content
    → AreMarked good (pieces.given_hashes k) (complete_nodes content (pieces.chosen_layer k)) → pieces.IsFedRow k good content
remarked k good content f marks = record { fed = f.fed; whole = f.whole; nodes = f.nodes; marked = marks }

-- what a check was given it took, without marks; and with them, if there are none
any_taken : (c : RowCheck) (marked content : List ℕ) → IsGivenRow c marked content → IsTakenRow c [] content
any_taken c marked content g = record { length_is = g.length_is; taken = g.taken; content_is = g.content_is; fed = g.fed }

given_taken : (c : RowCheck) (marked content : List ℕ) → length marked ≡ 0 → IsGivenRow c marked content → IsTakenRow c marked content
given_taken c marked content none g = subst (λ m. IsTakenRow c m content) (sym (nil_from_length marked none)) (any_taken c marked content g)

taken_given : (c : RowCheck) (marks content : List ℕ) → length marks ≡ 0 → IsTakenRow c marks content → IsGivenRow c marks content
taken_given c marks content none t = record {
  length_is = t.length_is;
  taken = t.taken;
  content_is = t.content_is;
  fed = unmarked c.check marks t.taken t.fed;
  marked = λ i lt. absurd (omega (arith, lt, none));
}

-- where what waits completes no piece, marks of what was taken are those of what was given
same_nodes : (c : RowCheck) (marks content : List ℕ) (t : IsTakenRow c marks content) → IsRowSettled c
    → complete_nodes content c.layer ≡ complete_nodes t.taken c.layer
same_nodes c marks content t settled =
    ap (λ f. complete_nodes f c.layer) t.content_is
    ∙ same_complete t.taken (held c.waiting) c.layer
    (ap (complete_count c.layer) (sym t.fed.fed.at.length_is) ∙ settled ∙ ap (complete_count c.layer) (t.length_is ∙ ap length t.content_is))

settled_taken : (c : RowCheck) (marked content : List ℕ) → IsRowSettled c → IsTakenRow c [] content
    → AreMarked marked c.hashes.now (complete_nodes content c.layer) → IsTakenRow c marked content
settled_taken c marked content settled t marks = record {
  length_is = t.length_is;
  taken = t.taken;
  content_is = t.content_is;
  fed = remarked c.check marked t.taken t.fed (subst₂ (λ h l. AreMarked marked h (complete_nodes t.taken l)) (sym c.hashes_are) (sym c.layer_is)
      (subst (AreMarked marked c.hashes.now) (same_nodes c [] content t settled) marks));
}

settled_given : (c : RowCheck) (marks content : List ℕ) → IsRowSettled c → IsTakenRow c marks content → IsGivenRow c marks content
settled_given c marks content settled t = record {
  length_is = t.length_is;
  taken = t.taken;
  content_is = t.content_is;
  fed = unmarked c.check marks t.taken t.fed;
  marked = subst (AreMarked marks c.hashes.now) (sym (same_nodes c marks content t settled))
      (subst₂ (λ h l. AreMarked marks h (complete_nodes t.taken l)) c.hashes_are c.layer_is t.fed.marked);
}

-- where no byte waits, the check took all that was given
all_taken : (b : RowCheck) (good content : List ℕ) → held b.waiting ≡ [] → IsTakenRow b good content → pieces.IsFedRow b.check good content
all_taken b good content none t =
    subst (pieces.IsFedRow b.check good) (sym (append-nil t.taken) ∙ ap (λ w. t.taken ++ w) (sym none) ∙ sym t.content_is) t.fed

given_whole : (b : RowCheck) (good content : List ℕ) → held b.waiting ≡ [] → pieces.IsFedRow b.check good content → IsGivenRow b good content
given_whole b good content none f = record {
  length_is = omega (arith, ap length none, f.fed.at.length_is);
  taken = content;
  content_is = sym (ap (λ w. content ++ w) none ∙ append-nil content);
  fed = unmarked b.check good content f;
  marked = subst₂ (λ h l. AreMarked good h (complete_nodes content l)) b.hashes_are b.layer_is f.marked;
}

-- ---- parts

-- two parts are one
both : (a b c : RowCheck) (x y s t u : List ℕ) → TakesPush a s x b t → TakesPush b t y c u → TakesPush a s (x ++ y) c u
both a b c x y s t u p q = record {
  count = omega (arith, p.count, q.count, length-append x y);
  shape = q.shape ∙ p.shape;
  layer = q.layer ∙ p.layer;
  hashes = q.hashes ∙ p.hashes;
  bits = q.bits ∙ p.bits;
  content = λ file g. subst (IsTakenRow c u) (append_assoc file x y) (q.content (file ++ x) (p.content file g));
}

-- bytes wait after those that waited
waits : (a b : RowCheck) (x s : List ℕ) → b.check ≡ a.check → b.shape ≡ a.shape → b.layer ≡ a.layer → b.hashes.now ≡ a.hashes.now
    → held b.waiting ≡ held a.waiting ++ x → TakesPush a s x b s
waits a b x s same shape layer hashes more =
    let count : row_byte_count b ≡ row_byte_count a + length x =
    omega (arith, ap pieces.check_byte_count same, ap length more, length-append (held a.waiting) x) in record {
      count = count;
      shape = shape;
      layer = layer;
      hashes = hashes;
      bits = refl;
      content = λ file g. record {
        length_is = omega (arith, count, g.length_is, length-append file x);
        taken = g.taken;
        content_is = ap (λ f. f ++ x) g.content_is ∙ append_assoc g.taken (held a.waiting) x ∙ ap (λ w. g.taken ++ w) (sym more);
        fed = subst (λ k. pieces.IsFedRow k s g.taken) (sym same) g.fed;
      };
    }

-- the first bytes wait too; then they are handed on
pub front_waits : (a b : RowCheck) (bytes rest s : List ℕ) → b.check ≡ a.check → b.shape ≡ a.shape → b.layer ≡ a.layer → b.hashes.now ≡ a.hashes.now
    → TakesFront Appends (held a.waiting) bytes (held b.waiting) rest → TakesFront (takes s s) a bytes b rest
front_waits a b bytes rest s same shape layer hashes t =
    record { front = t.front; bytes_are = t.bytes_are; taken = waits a b t.front s same shape layer hashes t.taken }

pub front_handed_on : (a b c : RowCheck) (bytes rest s u : List ℕ) → b.check ≡ a.check → b.shape ≡ a.shape → b.layer ≡ a.layer
    → b.hashes.now ≡ a.hashes.now → TakesFront Appends (held a.waiting) bytes (held b.waiting) rest → TakesPush b s [] c u
    → TakesFront (takes s u) a bytes c rest
front_handed_on a b c bytes rest s u same shape layer hashes t on = record {
  front = t.front;
  bytes_are = t.bytes_are;
  taken = subst (λ z. TakesPush a s z c u) (append-nil t.front) (both a b c t.front [] s s u (waits a b t.front s same shape layer hashes t.taken) on);
}

-- what waits is handed on
pub handed_on : (a b : RowCheck) (s u : List ℕ) → b.shape ≡ a.shape → b.layer ≡ a.layer → b.hashes.now ≡ a.hashes.now → held b.waiting ≡ []
    → pieces.FeedsRow a.check s (held a.waiting) b.check u → TakesPush a s [] b u
handed_on a b s u shape layer hashes empty fed =
    let count : row_byte_count b ≡ row_byte_count a + 0 = omega (arith, ap length empty, fed.count) in record {
      count = count;
      shape = shape;
      layer = layer;
      hashes = hashes;
      bits = fed.bits;
      content = λ file g. record {
        length_is = omega (arith, count, g.length_is, length-append file []);
        taken = file ++ [];
        content_is = sym (ap (λ w. (file ++ []) ++ w) empty ∙ append-nil (file ++ []));
        fed = subst (pieces.IsFedRow b.check u) (sym g.content_is ∙ sym (append-nil file)) (fed.fed g.taken g.fed);
      };
    }

-- the check takes the first bytes where none wait, and the others wait
pub passes : (a b : RowCheck) (bytes front rest s u : List ℕ) → b.shape ≡ a.shape → b.layer ≡ a.layer → b.hashes.now ≡ a.hashes.now
    → held a.waiting ≡ [] → pieces.FeedsRow a.check s front b.check u → held b.waiting ≡ held a.waiting ++ rest → front ++ rest ≡ bytes
    → TakesPush a s bytes b u
passes a b bytes front rest s u shape layer hashes empty fed more all =
    let left : held b.waiting ≡ rest = more ∙ ap (λ w. w ++ rest) empty in
    let count : row_byte_count b ≡ row_byte_count a + length bytes =
    omega (arith, fed.count, ap length empty, ap length left, ap length all, length-append front rest) in record {
      count = count;
      shape = shape;
      layer = layer;
      hashes = hashes;
      bits = fed.bits;
      content = λ file g. record {
        length_is = omega (arith, count, g.length_is, length-append file bytes);
        taken = g.taken ++ front;
        content_is =
            ap (λ f. f ++ bytes) (g.content_is ∙ ap (λ w. g.taken ++ w) empty ∙ append-nil g.taken)
            ∙ ap (λ f. g.taken ++ f) (sym all) ∙ sym (append_assoc g.taken front rest)
            ∙ ap (λ w. (g.taken ++ front) ++ w) (sym left);
        fed = fed.fed g.taken g.fed;
      };
    }

-- all parts are the whole
pub joins : (a b c : RowCheck) (bytes rest s t u : List ℕ) → TakesFront (takes s t) a bytes b rest → TakesPush b t rest c u → TakesPush a s bytes c u
joins a b c bytes rest s t u f q = subst (λ z. TakesPush a s z c u) (sym f.bytes_are) (both a b c f.front rest s t u f.taken q)

pub joins_none : (a b : RowCheck) (bytes rest s t : List ℕ) → TakesFront (takes s t) a bytes b rest → rest ≡ [] → TakesPush a s bytes b t
joins_none a b bytes rest s t f none =
    subst (λ z. TakesPush a s z b t) (sym (append-nil f.front) ∙ ap (λ r. f.front ++ r) (sym none) ∙ sym f.bytes_are) f.taken

pub room_left : (a b : RowCheck) (bytes rest s t : List ℕ) → TakesFront (takes s t) a bytes b rest → row_byte_count a + length bytes ≤ a.shape
    → row_byte_count b + length rest ≤ b.shape
room_left a b bytes rest s t f room = omega (arith, f.taken.count, f.taken.shape, ap length f.bytes_are, length-append f.front rest, room)

-- ---- what is promised

-- what completes no piece may wait on
pub still : (a : RowCheck) (s : List ℕ) → TakesPush a s [] a s
still a s = waits a a [] s refl refl refl refl (sym (append-nil (held a.waiting)))

pub settled_none : (a : RowCheck) → held a.waiting ≡ [] → IsRowSettled a
settled_none a none = ap (complete_count a.layer) (omega (arith, ap length none))

-- without bits, pieces may be complete in what waits
pub pushed_unmarked : (a b : RowCheck) (bytes marked marks : List ℕ) → length marked ≡ 0 → TakesPush a marked bytes b marks
    → PushesRow a marked bytes b marks
pushed_unmarked a b bytes marked marks none p = record {
  count = p.count;
  room = b.waiting.exact ∙ sym a.waiting.exact;
  shape = p.shape;
  layer = p.layer;
  hashes = p.hashes;
  bits = p.bits;
  given = λ file g. taken_given b marks (file ++ bytes) (p.bits ∙ none) (p.content file (given_taken a marked file none g));
}

-- with bits, what waits is settled before and after
pub pushed_marked : (a b c d : RowCheck) (bytes none marked marks new : List ℕ) → TakesPush a [] [] b none → IsRowSettled b → TakesPush b marked bytes c marks
    → TakesPush c marks [] d new → IsRowSettled d → PushesRow a marked bytes d new
pushed_marked a b c d bytes none marked marks new p before q r after = record {
  count = omega (arith, p.count, q.count, r.count);
  room = d.waiting.exact ∙ sym a.waiting.exact;
  shape = r.shape ∙ q.shape ∙ p.shape;
  layer = r.layer ∙ q.layer ∙ p.layer;
  hashes = r.hashes ∙ q.hashes ∙ p.hashes;
  bits = r.bits ∙ q.bits;
  given = λ file g.
      let first : IsTakenRow b [] file =
      subst₂ (IsTakenRow b) (nil_from_length none p.bits) (append-nil file) (p.content file (any_taken a marked file g)) in
      let marks_are : AreMarked marked b.hashes.now (complete_nodes file b.layer) =
      subst₂ (λ h l. AreMarked marked h (complete_nodes file l)) (sym p.hashes) (sym p.layer) g.marked in
      let then = q.content file (settled_taken b marked file before first marks_are) in
      settled_given d new (file ++ bytes) after (subst (IsTakenRow d new) (append-nil (file ++ bytes)) (r.content (file ++ bytes) then));
}

-- what was given, after what waited was handed on
pub ended_row : (a b : RowCheck) (ended : PieceCheck) (none : List ℕ) → TakesPush a [] [] b none → held b.waiting ≡ [] → ended ≡ b.check → IsEndedRow a ended
ended_row a b ended none on empty is = record {
  count = ap pieces.check_byte_count is ∙ omega (arith, on.count, ap length empty);
  shape = ap pieces.chosen_shape is ∙ b.shape_is ∙ on.shape;
  layer = ap pieces.chosen_layer is ∙ b.layer_is ∙ on.layer;
  hashes = ap pieces.given_hashes is ∙ b.hashes_are ∙ on.hashes;
  fed = λ marked content g.
      let all : pieces.IsFedRow b.check [] content = all_taken b [] content empty
      (subst₂ (IsTakenRow b) (nil_from_length none on.bits) (append-nil content) (on.content content (any_taken a marked content g))) in
      subst (λ k. pieces.IsFedRow k marked content) (sym is) (remarked b.check marked content all
      (subst₂ (λ h l. AreMarked marked h (complete_nodes content l)) (sym (b.hashes_are ∙ on.hashes)) (sym (b.layer_is ∙ on.layer)) g.marked));
}

-- a fresh check of the same row was given nothing
pub begins : (a b : RowCheck) → b.shape ≡ a.shape → b.layer ≡ a.layer → b.hashes.now ≡ a.hashes.now → held b.waiting ≡ []
    → pieces.BeginsRow b.shape b.layer b.hashes.now b.check → BeginsPushesAnew a b
begins a b shape layer hashes none begun = record {
  count = omega (arith, begun.count, ap length none);
  room = b.waiting.exact;
  shape_is = shape;
  layer_is = layer;
  hashes_are = hashes;
  given = λ good clear. given_whole b good [] none (begun.fed good clear);
}
