-- The texts of items, one after another.
use Rattle.std.proofs.Common.{◌≡◌, ◌∙◌, ◌+◌, ◌-◌, ◌<◌, ◌≤◌, ◌++◌, ℕ, zero, suc, List, [], ◌∷◌, length, get_or, map, drop, refl, sym, ap, subst, append_assoc, length-append, arith, length-drop}
use Rattle.std.proofs.lemmas.List.{append-nil, drop-drop, get_or-map, get_or_past}
use Rattle.std.specs.String.{string_bytes}
use Rattle.std.specs.declared.alloc.Global.{Global}
use Rattle.std.specs.declared.string.String.{String}
use Rattle.h2_conn.specs.Connection.{Connection}
use Rattle.h2_spec.specs.State.{State}
use Rattle.h2_spec.specs.Trace.{Event, next_event}
use Rattle.h2_spec.specs.Frames.Parse.{Front, Stop, One}
use Rattle.h2_spec.proofs.ParseLaws.{Uses}
use Rattle.h2_spec.proofs.TraceLaws.{event-uses}
use Rattle.h2_cmd_check.specs.ItemTexts.{AreTexts, TakesOneText, text_before}

-- an item takes an octet or more, and no more than there are
pub within_next : (s t : State) (octets : List ℕ) (at used : ℕ) (e : Event) → at ≤ length octets → next_event s (drop at octets) ≡ One e t used → (0 < used) × (at + used ≤ length octets)
within_next s t octets at used e h comes =
    let uses : Uses (drop at octets) (One e t used) = subst (λ (n : Front State Event). Uses (drop at octets) n) comes (event-uses s (drop at octets)) in
    (uses.0, omega (arith, h, uses.1, length-drop at octets))

-- the rest after an item
rest_next : (s : State) (octets : List ℕ) (at : ℕ) (texts : List (List ℕ)) (c : Connection) (texts' : List (List ℕ)) (used : ℕ) (more : List (List ℕ))
    → (x : TakesOneText s (drop at octets) at texts c texts' used) → AreTexts c.state (drop (at + used) octets) (length texts') (at + used) more
    → AreTexts c.state (drop x.item.used (drop at octets)) (length texts + 1) (at + x.item.used) more
rest_next s octets at texts c texts' used more x rest =
    let count : length texts' ≡ length texts + 1 = ap (λ (ts : List (List ℕ)). length ts) x.texts_are ∙ length-append texts (x.text ∷ []) in
    let counted = subst (λ (n : ℕ). AreTexts c.state (drop (at + used) octets) n (at + used) more) count rest in
    let dropped = subst (λ (d : List ℕ). AreTexts c.state d (length texts + 1) (at + used) more) (sym (drop-drop used at octets)) counted in
    subst (λ (u : ℕ). AreTexts c.state (drop u (drop at octets)) (length texts + 1) (at + u) more) x.used_is dropped

-- what the texts so far are with those of the items after them, once there is one more
pub texts_next : (s₀ s : State) (octets : List ℕ) (at : ℕ) (texts : List (List ℕ)) (c : Connection) (texts' : List (List ℕ)) (used : ℕ)
    → TakesOneText s (drop at octets) at texts c texts' used
    → ((more : List (List ℕ)) → AreTexts s (drop at octets) (length texts) at more → AreTexts s₀ octets 0 0 (texts ++ more))
    → (more : List (List ℕ)) → AreTexts c.state (drop (at + used) octets) (length texts') (at + used) more → AreTexts s₀ octets 0 0 (texts' ++ more)
texts_next s₀ s octets at texts c texts' used x so_far = λ more rest.
    let one = so_far (x.text ∷ more) (c, x.item, x.explains, x.said, rest_next s octets at texts c texts' used more x rest) in
    let joined : texts ++ (x.text ∷ more) ≡ texts' ++ more = sym (append_assoc texts (x.text ∷ []) more) ∙ ap (λ (ts : List (List ℕ)). ts ++ more) (sym x.texts_are) in
    subst (λ (ts : List (List ℕ)). AreTexts s₀ octets 0 0 ts) joined one

-- once there is none
pub texts_end : (s₀ s : State) (octets : List ℕ) (at : ℕ) (texts texts' : List (List ℕ))
    → ((more : List (List ℕ)) → AreTexts s (drop at octets) (length texts) at more → AreTexts s₀ octets 0 0 (texts ++ more))
    → next_event s (drop at octets) ≡ Stop → texts' ≡ texts → AreTexts s₀ octets 0 0 texts'
texts_end s₀ s octets at texts texts' so_far stop same =
    subst (λ (ts : List (List ℕ)). AreTexts s₀ octets 0 0 ts) (append-nil texts ∙ sym same) (so_far [] stop)

-- ---- the text of the last one of some items

pub before_none : (texts : List (List ℕ)) (n : ℕ) → n ≡ 0 → [] ≡ text_before texts n
before_none texts zero h = refl
before_none texts (suc n) h = absurd (omega (arith, h))

pub before_past : (texts : List (List ℕ)) (n : ℕ) → length texts < n → [] ≡ text_before texts n
before_past texts zero h = absurd (omega (arith, h))
before_past texts (suc n) h = sym (get_or_past texts n [] (omega (arith, h)))

pub before_at : (texts : List (String Global)) (n : ℕ) (t : String Global) → 0 < n → n ≤ length texts → t ≡ get_or texts (n - 1) t → string_bytes t ≡ text_before (map string_bytes texts) n
before_at texts zero t some within is = absurd (omega (arith, some))
before_at texts (suc n) t some within is =
    let e : suc n - 1 ≡ n = omega arith in
    ap string_bytes (is ∙ ap (λ (k : ℕ). get_or texts k t) e) ∙ sym (get_or-map string_bytes texts n t [] (omega (arith, within)))
