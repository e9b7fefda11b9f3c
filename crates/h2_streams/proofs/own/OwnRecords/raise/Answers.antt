use Rattle.std.proofs.Common.{◌≡◌, ℕ, Bool, List, Some, refl, ap, sym, ◌∙◌, subst, arith, true, false, ◌&&◌, not, ◌≤◌}
use Rattle.std.specs.Option.{is_some, option_map_or}
use Rattle.std.specs.Prelude.{length}
use Rattle.std.specs.Vec.{vec_capacity}
use Rattle.h2_spec.specs.declared.streams.Stream.{Stream}
use Rattle.h2_spec.specs.Stream.{Records, changed, kind_of, is_live, put, record_of, stream_at}
use Rattle.h2_streams.specs.Put.{can_become}
use Rattle.h2_streams.specs.Kept.{IdsRise, IsKept, Rise, is_ready, listed, passes_at, place_of}
use Rattle.h2_streams.specs.Raised.{can_rise, raised}
use Rattle.h2_streams.specs.Shift.{update}
use Rattle.h2_streams.proofs.PlaceLaws.{found-id, live-found, rise, test-there}
use Rattle.h2_streams.proofs.IdsLaws.{rise-ids_of}
use Rattle.h2_streams.proofs.LiveLaws.{kept-put, ready-within}
use Rattle.h2_streams.proofs.ShiftLaws.{update-put}
use Rattle.h2_streams.proofs.own.OwnRecords.raise.Given.{Over}
use Rattle.h2_streams.proofs.own.OwnRecords.raise.Goals as goal

pub place_in-place-requires : goal.place_in-place-requires
place_in-place-requires g c = rw c.as_slice.ensures.value (rise 0 c.self.inside.last c.self.inside.records.items c.self.invariant.0.rising)

-- what is known of all records is known of those inside
within : (last id : ℕ) (rs : List Stream) (test : Stream → Bool) {v : Records} → record { streams = rs; last = last } ≡ v → test (stream_at v.last v.streams id) ≡ true → test (stream_at last rs id) ≡ true
within last id rs test is h = subst (λ (v : Records). test (stream_at v.last v.streams id) ≡ true) (sym is) h

-- what a test says of the record at the stream's place
tested : (last id place : ℕ) (rs known : List Stream) (test : Stream → Bool) → Rise 0 rs → is_live (kind_of last rs id) ≡ true → known ≡ rs → place ≡ place_of id known → passes_at test rs place ≡ test (stream_at last rs id)
tested last id place rs known test rising live same is =
    let found = live-found last rs id live in
    ap (passes_at test rs) (is ∙ ap (place_of id) same) ∙ test-there test id 0 rs rising (ap is_some found) ∙ ap (λ o. option_map_or test o false) found

pub raise_at-ready-requires : goal.raise_at-ready-requires
raise_at-ready-requires g c =
    let s = c.self.inside in
    let live = within s.last c.args.id s.records.items (λ st. is_live st.kind) c.self.view_is c.requires.live in
    let fits = within s.last c.args.id s.records.items (can_rise c.args.increment) c.self.view_is c.requires.fits in
    tested s.last c.args.id _ s.records.items _ (can_rise c.args.increment) (rise 0 s.last s.records.items c.self.invariant.0.rising) live c.as_slice.ensures.value c.place_in-place.ensures ∙ fits

pub list-requires-clause-rising : goal.list-requires-clause-rising
list-requires-clause-rising g c = subst (IdsRise 0) (sym c.self.invariant.0.ready_listed) (rise-ids_of is_ready c.self.inside.last c.self.inside.records.items c.self.invariant.0.rising)

-- of a live stream's record that stays live, all that is kept
module _ (rs : List Stream) (es : List (ℕ × ℕ)) (ended : ℕ) (ready : List ℕ) (last id n : ℕ) (kept : IsKept rs es ended ready last) (live : is_live (kind_of last rs id) ≡ true) where
  abbrev old : Stream
  old = stream_at last rs id

  same : old.id ≡ id
  same = found-id rs id old (live-found last rs id live)

  found : record_of rs old.id ≡ Some old
  found = subst (λ i. record_of rs i ≡ Some old) (sym same) (live-found last rs id live)

  can : can_become old.kind old.kind ≡ true
  can = rw live refl

  stays : (is_live old.kind && not (is_live old.kind)) ≡ false
  stays = rw live refl

  few : length (listed (is_ready (raised n old)) id ready) ≤ length es
  few = subst (λ i. length (listed (is_ready (raised n old)) i ready) ≤ length es) same (ready-within rs es ended ready last (raised n old) old kept found refl can)

  after : IsKept (put (raised n old) rs) es ended (listed (is_ready (raised n old)) id ready) last
  after = subst (λ i. IsKept (put (raised n old) rs) es ended (listed (is_ready (raised n old)) i ready) last) same (kept-put rs es ended ready last (raised n old) old kept found refl can stays)

pub list-requires-clause-enough : goal.list-requires-clause-enough
list-requires-clause-enough g c =
    let s = c.self.inside in
    let id = c.args.id in
    let n = c.args.increment in
    let live = within s.last id s.records.items (λ st. is_live st.kind) c.self.view_is c.requires.live in
    let rising = rise 0 s.last s.records.items c.self.invariant.0.rising in
    let ready = c.raise_at-ready.ensures.ready ∙ tested s.last id _ s.records.items _ (λ st. is_ready (raised n st)) rising live c.as_slice.ensures.value c.place_in-place.ensures in
    let fits = few s.records.items s.live.entries s.ended s.ready.items s.last id n c.self.invariant.0 live in
    let enough = c.self.invariant.1 in
    subst (λ (b : Bool). length (listed b id s.ready.items) ≤ vec_capacity s.ready) (sym ready) (omega (arith, fits, enough))

-- the records after it
items : (g : Over) (c : goal.After-list g) → c.raise_at-ready.new.records.items ≡ put (raised c.args.increment (stream_at c.self.inside.last c.self.inside.records.items c.args.id)) c.self.inside.records.items
items g c =
    let s = c.self.inside in
    let rs = s.records.items in
    let live = within s.last c.args.id rs (λ st. is_live st.kind) c.self.view_is c.requires.live in
    let found = live-found s.last rs c.args.id live in
    c.raise_at-ready.ensures.items ∙ ap (λ (p : ℕ). update (raised c.args.increment) p rs) (c.place_in-place.ensures ∙ ap (place_of c.args.id) c.as_slice.ensures.value)
    ∙ update-put (raised c.args.increment) c.args.id 0 rs _ (rise 0 s.last rs c.self.invariant.0.rising) found (found-id rs c.args.id _ found)

pub invariant_of-self : goal.invariant_of-self
invariant_of-self g c =
    let s = c.self.inside in
    let id = c.args.id in
    let n = c.args.increment in
    let live = within s.last id s.records.items (λ st. is_live st.kind) c.self.view_is c.requires.live in
    let rising = rise 0 s.last s.records.items c.self.invariant.0.rising in
    let ready = c.raise_at-ready.ensures.ready ∙ tested s.last id _ s.records.items _ (λ st. is_ready (raised n st)) rising live c.as_slice.ensures.value c.place_in-place.ensures in
    let kept = after s.records.items s.live.entries s.ended s.ready.items s.last id n c.self.invariant.0 live in
    let enough = c.self.invariant.1 in
    let more = c.list.ensures.capacity in
    rw (items g c, c.list.ensures.items, ready) (kept, omega (arith, enough, more))

pub returns : goal.returns
returns g c =
    let last = c.self.inside.last in
    ap (λ (rs : List Stream). let r : Records = record { streams = rs; last = last } in r) (items g c) ∙ ap (λ (v : Records). changed c.args.id (raised c.args.increment) v) c.self.view_is
