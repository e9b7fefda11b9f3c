-- The items of octets, one after another.
use Rattle.std.proofs.Common.{◌≡◌, ◌∙◌, ◌+◌, ◌<◌, ◌≤◌, ◌++◌, ℕ, List, [], ◌∷◌, length, drop, refl, sym, ap, subst, append_assoc, length-append, arith, length-drop}
use Rattle.std.proofs.lemmas.List.{append-nil, drop-drop}
use Rattle.h2_conn.specs.Connection.{Connection}
use Rattle.h2_spec.specs.State.{State}
use Rattle.h2_spec.specs.Trace.{Event, next_event}
use Rattle.h2_spec.specs.Frames.Parse.{Front, Stop, One}
use Rattle.h2_spec.proofs.ParseLaws.{Uses}
use Rattle.h2_spec.proofs.TraceLaws.{event-uses}
use Rattle.h2_cmd_items.specs.SentItems.{Along, AreSent, TakesOneSent, along_after}
use Rattle.h2_cmd_items.specs.declared.sent.Sent.{Sent}

-- an item takes an octet or more, and no more than there are
pub within_next : (s t : State) (octets : List ℕ) (at used : ℕ) (e : Event) → at ≤ length octets → next_event s (drop at octets) ≡ One e t used → (0 < used) × (at + used ≤ length octets)
within_next s t octets at used e h comes =
    let uses : Uses (drop at octets) (One e t used) = subst (λ (n : Front State Event). Uses (drop at octets) n) comes (event-uses s (drop at octets)) in
    (uses.0, omega (arith, h, uses.1, length-drop at octets))

-- the rest after an item
rest_next : (s : State) (octets : List ℕ) (at : ℕ) (ss : List Sent) (a : Along) (c : Connection) (ss' : List Sent) (a' : Along) (used : ℕ) (more : List Sent) (end : Along)
    → (x : TakesOneSent s (drop at octets) at ss a c ss' a' used) → AreSent c.state (drop (at + used) octets) (length ss') (at + used) a' more end
    → AreSent c.state (drop x.item.used (drop at octets)) (length ss + 1) (at + x.item.used) (along_after a x.sent x.item.sent.now) more end
rest_next s octets at ss a c ss' a' used more end x rest =
    let count : length ss' ≡ length ss + 1 = ap (λ (xs : List Sent). length xs) x.adds.0 ∙ length-append ss (x.sent ∷ []) in
    let counted = subst (λ (n : ℕ). AreSent c.state (drop (at + used) octets) n (at + used) a' more end) count rest in
    let along = subst (λ (b : Along). AreSent c.state (drop (at + used) octets) (length ss + 1) (at + used) b more end) x.adds.1 counted in
    let dropped = subst (λ (d : List ℕ). AreSent c.state d (length ss + 1) (at + used) (along_after a x.sent x.item.sent.now) more end) (sym (drop-drop used at octets)) along in
    subst (λ (u : ℕ). AreSent c.state (drop u (drop at octets)) (length ss + 1) (at + u) (along_after a x.sent x.item.sent.now) more end) x.used_is dropped

-- what the items so far are with those after them, once there is one more
pub sent_next : (s₀ s : State) (octets : List ℕ) (at : ℕ) (ss : List Sent) (a₀ a : Along) (c : Connection) (ss' : List Sent) (a' : Along) (used : ℕ)
    → TakesOneSent s (drop at octets) at ss a c ss' a' used
    → ((more : List Sent) (end : Along) → AreSent s (drop at octets) (length ss) at a more end → AreSent s₀ octets 0 0 a₀ (ss ++ more) end)
    → (more : List Sent) (end : Along) → AreSent c.state (drop (at + used) octets) (length ss') (at + used) a' more end → AreSent s₀ octets 0 0 a₀ (ss' ++ more) end
sent_next s₀ s octets at ss a₀ a c ss' a' used x so_far = λ more end rest.
    let one = so_far (x.sent ∷ more) end (c, x.item, x.explains, x.is_sent, rest_next s octets at ss a c ss' a' used more end x rest) in
    let joined : ss ++ (x.sent ∷ more) ≡ ss' ++ more = sym (append_assoc ss (x.sent ∷ []) more) ∙ ap (λ (xs : List Sent). xs ++ more) (sym x.adds.0) in
    subst (λ (xs : List Sent). AreSent s₀ octets 0 0 a₀ xs end) joined one

-- once there is none
pub sent_end : (s₀ s : State) (octets : List ℕ) (at : ℕ) (ss : List Sent) (a₀ a : Along) (ss' : List Sent) (a' : Along)
    → ((more : List Sent) (end : Along) → AreSent s (drop at octets) (length ss) at a more end → AreSent s₀ octets 0 0 a₀ (ss ++ more) end)
    → next_event s (drop at octets) ≡ Stop → ss' ≡ ss → a' ≡ a → AreSent s₀ octets 0 0 a₀ ss' a'
sent_end s₀ s octets at ss a₀ a ss' a' so_far stop same along =
    subst (λ (xs : List Sent). AreSent s₀ octets 0 0 a₀ xs a') (append-nil ss ∙ sym same) (so_far [] a' (stop, along))
