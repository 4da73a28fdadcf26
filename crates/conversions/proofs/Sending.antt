-- The text on its way out.
use Rattle.std.proofs.Common.{◌≡◌, ℕ, List, [], ◌∷◌, ◌++◌, sym, ap, ◌∙◌, subst}
use Rattle.std.proofs.lemmas.List.{append_assoc, append-nil}
use Rattle.benc.specs.Device.{SinkSeen, Broke, Sent}
use Rattle.benc.proofs.Out.{Broke-append, Sent-append}
use Rattle.conversions.specs.Steps.{Held}

pub held_sent : (start mid now : SinkSeen) (outgoing text : List ℕ) → Held start mid outgoing text → Sent mid now outgoing → Held start now [] text
held_sent start mid now outgoing text h p = record {
  sent = h.sent ++ outgoing;
  out = Sent-append start mid now h.sent outgoing h.out p;
  text_is = h.text_is
      ∙ sym (append-nil (h.sent ++ outgoing));
}

pub held_broke : (start mid now : SinkSeen) (outgoing text : List ℕ) → Held start mid outgoing text → Broke mid now outgoing → Broke start now text
held_broke start mid now outgoing text h p = subst (Broke start now) (sym h.text_is) (Broke-append start mid now h.sent outgoing h.out p)

pub sent_held : (start now : SinkSeen) (outgoing text : List ℕ) → outgoing ≡ [] → Sent start now text → Held start now outgoing text
sent_held start now outgoing text none p = record { sent = text; out = p; text_is = sym (append-nil text) ∙ ap (λ t. text ++ t) (sym none) }

pub held_is_sent : (start now : SinkSeen) (outgoing text : List ℕ) → outgoing ≡ [] → Held start now outgoing text → Sent start now text
held_is_sent start now outgoing text none h = subst (Sent start now) (sym (h.text_is ∙ ap (λ t. h.sent ++ t) none ∙ append-nil h.sent)) h.out

-- a request, a direction, and a head
pub three_parts : (text request head : List ℕ) → ((text ++ request) ++ (0 ∷ [])) ++ head ≡ text ++ (request ++ (0 ∷ head))
three_parts text request head = append_assoc (text ++ request) (0 ∷ []) head ∙ append_assoc text request (0 ∷ head)

pub broke_joined : (a b : SinkSeen) (text xs ys : List ℕ) → Broke a b ((text ++ xs) ++ ys) → Broke a b (text ++ (xs ++ ys))
broke_joined a b text xs ys p = subst (Broke a b) (append_assoc text xs ys) p
