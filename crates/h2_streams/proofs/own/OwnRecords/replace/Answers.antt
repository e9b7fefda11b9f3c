use Rattle.std.proofs.Common.{◌≡◌, ℕ, List, Some, ◌&&◌, not, true, false, ap, sym, ◌∙◌, subst, arith}
use Rattle.std.specs.Option.{is_some, option_map_or}
use Rattle.h2_spec.specs.declared.streams.Stream.{Stream}
use Rattle.h2_spec.specs.Stream.{Records, kind_of, is_live, record_of}
use Rattle.h2_streams.specs.Put.{can_become}
use Rattle.h2_streams.specs.Kept.{IdsRise, lives, is_ready, place_of}
use Rattle.h2_streams.proofs.PlaceLaws.{found-id, rise, recorded-found}
use Rattle.h2_streams.proofs.IdsLaws.{rise-ids_of}
use Rattle.h2_streams.proofs.LiveLaws.{ends-was, kept-put, kept-ends, kept-there, left-fewer, ready-within}
use Rattle.h2_streams.proofs.own.OwnRecords.replace.Goals as goal

-- the record that is written over, by what is seen of all
old-of : (last : ℕ) (rs : List Stream) (st : Stream) {v : Records} → record { streams = rs; last = last } ≡ v → can_become (kind_of v.last v.streams st.id) st.kind ≡ true
    → (old : Stream) × (record_of rs st.id ≡ Some old) × (can_become old.kind st.kind ≡ true)
old-of last rs st is can = recorded-found last rs st.id st.kind (subst (λ (v : Records). can_become (kind_of v.last v.streams st.id) st.kind ≡ true) (sym is) can)

pub place_in-place-requires : goal.place_in-place-requires
place_in-place-requires g c = rw c.as_slice.ensures.value (rise 0 c.self.inside.last c.self.inside.records.items c.self.invariant.0.rising)

pub write-was_live-requires-clause-rising : goal.write-was_live-requires-clause-rising
write-was_live-requires-clause-rising g c = rise 0 c.self.inside.last c.self.inside.records.items c.self.invariant.0.rising

pub write-was_live-requires-clause-known : goal.write-was_live-requires-clause-known
write-was_live-requires-clause-known g c =
    let s = c.self.inside in
    let st = c.args.stream in
    let old = old-of s.last s.records.items st c.self.view_is c.requires in
    ap is_some old.1

pub write-was_live-requires-clause-place : goal.write-was_live-requires-clause-place
write-was_live-requires-clause-place g c = c.place_in-place.ensures ∙ ap (place_of c.args.stream.id) c.as_slice.ensures.value

pub list-requires-clause-rising : goal.list-requires-clause-rising
list-requires-clause-rising g c = subst (IdsRise 0) (sym c.self.invariant.0.ready_listed) (rise-ids_of is_ready c.self.inside.last c.self.inside.records.items c.self.invariant.0.rising)

pub list-requires-clause-enough : goal.list-requires-clause-enough
list-requires-clause-enough g c =
    let s = c.self.inside in
    let st = c.args.stream in
    let old = old-of s.last s.records.items st c.self.view_is c.requires in
    let within = ready-within s.records.items s.live.entries s.ended s.ready.items s.last st old.0 c.self.invariant.0 old.1 (found-id s.records.items st.id old.0 old.1) old.2 in
    let enough = c.self.invariant.1 in
    rw c.is_ready-ready.ensures (omega (arith, within, enough))

pub note_ended-self-inside-requires : goal.note_ended-self-inside-requires
note_ended-self-inside-requires g c =
    let s = c.self.inside in
    let st = c.args.stream in
    let old = old-of s.last s.records.items st c.self.view_is c.requires in
    let was = c.write-was_live.ensures.was_live ∙ ap (λ o. option_map_or lives o false) old.1 in
    let ends : (is_live old.0.kind && not (is_live st.kind)) ≡ true = (λ i. sym was i && not (sym c.is_live-live.ensures i)) ∙ sym c.has_ended.ensures ∙ c.if-has_ended.true in
    kept-there s.records.items s.live.entries s.ended s.ready.items s.last st old.0 c.self.invariant.0 old.1 (found-id s.records.items st.id old.0 old.1) old.2 (ends-was _ _ ends).0

pub invariant_of-self : goal.invariant_of-self
invariant_of-self g c =
    let s = c.self.inside in
    let st = c.args.stream in
    let old = old-of s.last s.records.items st c.self.view_is c.requires in
    let same = found-id s.records.items st.id old.0 old.1 in
    let was = c.write-was_live.ensures.was_live ∙ ap (λ o. option_map_or lives o false) old.1 in
    let ends : (is_live old.0.kind && not (is_live st.kind)) ≡ true = (λ i. sym was i && not (sym c.is_live-live.ensures i)) ∙ sym c.has_ended.ensures ∙ c.if-has_ended.true in
    let both = ends-was _ _ ends in
    let kept = kept-ends s.records.items s.live.entries s.ended s.ready.items s.last st old.0 c.self.invariant.0 old.1 same old.2 both.0 both.1 in
    let fewer = left-fewer s.records.items s.live.entries s.ended s.ready.items s.last st old.0 c.self.invariant.0 old.1 same old.2 in
    let enough = c.self.invariant.1 in
    let more = c.list.ensures.capacity in
    rw (c.note_ended-self-inside.ensures.entries, c.note_ended-self-inside.ensures.ended, c.as_slice-then-has_ended.ensures.value, c.write-was_live.ensures.items, c.list.ensures.items, c.is_ready-ready.ensures) (kept, omega (arith, fewer, enough, more))

pub invariant_of-self-else-has_ended : goal.invariant_of-self-else-has_ended
invariant_of-self-else-has_ended g c =
    let s = c.self.inside in
    let st = c.args.stream in
    let old = old-of s.last s.records.items st c.self.view_is c.requires in
    let same = found-id s.records.items st.id old.0 old.1 in
    let was = c.write-was_live.ensures.was_live ∙ ap (λ o. option_map_or lives o false) old.1 in
    let stays : (is_live old.0.kind && not (is_live st.kind)) ≡ false = (λ i. sym was i && not (sym c.is_live-live.ensures i)) ∙ sym c.has_ended.ensures ∙ c.if-has_ended.false in
    let kept = kept-put s.records.items s.live.entries s.ended s.ready.items s.last st old.0 c.self.invariant.0 old.1 same old.2 stays in
    let enough = c.self.invariant.1 in
    let more = c.list.ensures.capacity in
    rw (c.write-was_live.ensures.items, c.list.ensures.items, c.is_ready-ready.ensures) (kept, omega (arith, enough, more))
