-- A run over more octets: its places are those of the shorter one.
use Rattle.std.proofs.Common.{◌≡◌, ◌∙◌, ℕ, zero, suc, ◌+◌, ◌≤◌, ◌++◌, List, [], ◌∷◌, length, drop, refl, sym, ap, ap₂, subst, arith, length-append, false}
use Rattle.std.proofs.lemmas.List.{drop-append-le}
use Rattle.h2_spec.specs.Frames.Frame.{Frame, frames_octets}
use Rattle.h2_spec.specs.Opening.{opening_settings}
use Rattle.h2_spec.specs.State.{State}
use Rattle.h2_spec.specs.Texts.Debug.{sent_at, state_at}
use Rattle.h2_spec.specs.Trace.{Event, Run, carried_on, trace}
use Rattle.h2_spec.proofs.TraceLaws.{trace-append}
use Rattle.h2_conn.specs.Connection.{awaits_preface, going}
use Rattle.h2_debug.specs.Debugging.{IsKept}
use Rattle.h2_debug.specs.Places.{AreKept, IsAt, KeptPlace, Placed, Source, at, end, events, longer, start}
use Rattle.h2_debug.specs.Reasons.{reasons_in}

-- ---- a place in a list of items that more follow

state-before : (s : State) (es more : List Event) (p : ℕ) → p ≤ length es → state_at s (es ++ more) p ≡ state_at s es p
state-before s es more zero le = refl
state-before s [] more (suc p) le = absurd (omega (arith, le))
state-before s (e ∷ es) more (suc p) le = state-before e.state es more p (omega (arith, le))

sent-before : (o : List Frame) (es more : List Event) (p : ℕ) → p ≤ length es → sent_at o (es ++ more) p ≡ sent_at o es p
sent-before o es more zero le = refl
sent-before o [] more (suc p) le = absurd (omega (arith, le))
sent-before o (e ∷ es) more (suc p) le = sent-before e.sent es more p (omega (arith, le))

reasons-before : (s : State) (es more : List Event) (p : ℕ) → p ≤ length es → reasons_in s (es ++ more) p ≡ reasons_in s es p
reasons-before s es more zero le = refl
reasons-before s [] more (suc p) le = absurd (omega (arith, le))
reasons-before s (e ∷ es) more (suc zero) le = refl
reasons-before s (e ∷ es) more (suc (suc p)) le = reasons-before e.state es more (suc p) (omega (arith, le))

-- ---- a run

-- the items of the octets that come
abbrev later_events : Source → List ℕ → List Event
later_events r more = (trace (trace (start r) r.octets).state ((trace (start r) r.octets).rest ++ more)).events

events-longer : (r : Source) (more : List ℕ) → events (longer more r) ≡ events r ++ later_events r more
unfolding carried_on
events-longer r more = ap (λ (x : Run). x.events) (trace-append (start r) r.octets more)

end-longer : (r : Source) (more : List ℕ) → end r ≤ end (longer more r)
end-longer r more =
    let all : end (longer more r) ≡ end r + length (later_events r more) = ap (λ (es : List Event). length es) (events-longer r more) ∙ length-append (events r) (later_events r more) in
    omega (arith, all)

at-longer : (r : Source) (more : List ℕ) (p : ℕ) → p ≤ end r → at (longer more r) p ≡ at r p
at-longer r more p le = ap (λ (es : List Event). state_at (start r) es p) (events-longer r more) ∙ state-before (start r) (events r) (later_events r more) p le

-- ---- its places

module _ (r : Source) (more : List ℕ) (p : Placed) (x : IsAt r p) where
  here : at (longer more r) p.position ≡ at r p.position
  here = at-longer r more p.position x.within

  -- the run from the place on
  abbrev from : Run
  from = trace (at r p.position) (drop p.used r.octets)

  -- goes on with the octets that come
  goes-on : trace (at (longer more r) p.position) (drop p.used (r.octets ++ more)) ≡ carried_on from more
  goes-on = ap₂ (λ (s : State) (o : List ℕ). trace s o) here (drop-append-le p.used r.octets more x.used) ∙ trace-append (at r p.position) (drop p.used r.octets) more

  -- as the whole run does
  alike : trace from.state (from.rest ++ more) ≡ trace (trace (start r) r.octets).state ((trace (start r) r.octets).rest ++ more)
  alike = ap₂ (λ (s : State) (o : List ℕ). trace s (o ++ more)) x.ends.0 x.ends.1

  later : drop p.position (events (longer more r)) ≡ (trace (at (longer more r) p.position) (drop p.used (r.octets ++ more))).events
  unfolding carried_on
  later =
      ap (λ (es : List Event). drop p.position es) (events-longer r more) ∙ drop-append-le p.position (events r) (later_events r more) x.within
      ∙ ap₂ (λ (es fs : List Event). es ++ fs) x.later (ap (λ (t : Run). t.events) (sym alike)) ∙ ap (λ (t : Run). t.events) (sym goes-on)

  end-state : (trace (at (longer more r) p.position) (drop p.used (r.octets ++ more))).state ≡ (trace (start r) (r.octets ++ more)).state
  unfolding carried_on
  end-state = ap (λ (t : Run). t.state) goes-on ∙ ap (λ (t : Run). t.state) alike ∙ sym (ap (λ (t : Run). t.state) (trace-append (start r) r.octets more))

  end-rest : (trace (at (longer more r) p.position) (drop p.used (r.octets ++ more))).rest ≡ (trace (start r) (r.octets ++ more)).rest
  unfolding carried_on
  end-rest = ap (λ (t : Run). t.rest) goes-on ∙ ap (λ (t : Run). t.rest) alike ∙ sym (ap (λ (t : Run). t.rest) (trace-append (start r) r.octets more))

  place-longer : IsAt (longer more r) p
  place-longer = record {
    within = omega (arith, x.within, end-longer r more);
    counted = x.counted;
    few = x.few;
    used = omega (arith, x.used, length-append r.octets more);
    goes = x.goes ∙ ap (λ (s : State). going s []) (sym here);
    later = later;
    ends = (end-state, end-rest);
    begun = λ some. subst (λ (s : State). awaits_preface s.core.phase ≡ false) (sym here) (x.begun some);
    reasons = x.reasons ∙ sym (ap (λ (es : List Event). reasons_in (start r) es p.position) (events-longer r more) ∙ reasons-before (start r) (events r) (later_events r more) p.position x.within);
    sent = x.sent
        ∙ ap frames_octets (sym (ap (λ (es : List Event). sent_at (opening_settings r.config ∷ []) es p.position) (events-longer r more) ∙ sent-before (opening_settings r.config ∷ []) (events r) (later_events r more) p.position x.within));
    follows = λ q le.
        let within = x.within in
        rw (at-longer r more q (omega (arith, le, within)), here) (x.follows q le);
  }

kept-longer : (r : Source) (more : List ℕ) (i : ℕ) (ks : List KeptPlace) → AreKept r i ks → AreKept (longer more r) i ks
kept-longer r more i [] a = tt
kept-longer r more i (k ∷ ks) a =
    (record { place = a.0.place; here = place-longer r more a.0.place a.0.here; consistent = a.0.consistent; same = a.0.same }, a.1, kept-longer r more (i + 1) ks a.2)

-- ---- its debugger

pub debugger-longer : (r : Source) (more : List ℕ) (now far : Placed) (ks : List KeptPlace) (reached replayed : ℕ) → IsKept r now far ks reached replayed → IsKept (longer more r) now far ks reached replayed
debugger-longer r more now far ks reached replayed k = record {
  now = place-longer r more now k.now;
  far_is = record { here = place-longer r more far k.far_is.here; as_far = k.far_is.as_far };
  kept_is = kept-longer r more 0 ks k.kept_is;
  below = k.below;
  due = k.due;
  within = k.within;
  reached_is = omega (arith, k.reached_is, end-longer r more);
  few = k.few;
}
