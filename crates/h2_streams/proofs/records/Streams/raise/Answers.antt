use Rattle.std.proofs.Common.{◌≡◌, ◌∙◌, ℕ, ap, sym, subst, true}
use Rattle.std.specs.Option.{is_some}
use Rattle.h2_spec.specs.declared.streams.Stream.{Stream}
use Rattle.h2_spec.specs.Stream.{Records, changed, is_live, kind_of, put, record_of, stream_at}
use Rattle.h2_streams.specs.Joined.{Base, GoWith, with_base}
use Rattle.h2_streams.specs.Raised.{can_rise, raised}
use Rattle.h2_streams.proofs.BaseLaws.{live-own, own-stream, the-one}
use Rattle.h2_streams.proofs.PlaceLaws.{live-id}
use Rattle.h2_streams.proofs.SharedLaws.{go-put, put-all}
use Rattle.h2_streams.proofs.records.Streams.raise.Goals as goal

-- one's own record of a live stream is that of all
module _ (b : Base) (own : Records) (g : GoWith b own) {v : Records} (is : with_base b own ≡ v) (id n : ℕ) (alive : is_live (kind_of v.last v.streams id) ≡ true) where
  all-live : is_live (kind_of (with_base b own).last (with_base b own).streams id) ≡ true
  all-live = subst (λ (v : Records). is_live (kind_of v.last v.streams id) ≡ true) (sym is) alive

  known : is_some (record_of own.streams id) ≡ true
  known = live-own b own g id all-live

  same : stream_at v.last v.streams id ≡ stream_at own.last own.streams id
  same = ap (λ (r : Records). stream_at r.last r.streams id) (sym is) ∙ own-stream b own g id known

  own-live : is_live (kind_of own.last own.streams id) ≡ true
  own-live = ap (λ (st : Stream). is_live st.kind) (sym same) ∙ alive

  abbrev risen : Stream
  risen = raised n (stream_at own.last own.streams id)

  there : is_some (record_of own.streams risen.id) ≡ true
  there = subst (λ i. is_some (record_of own.streams i) ≡ true) (sym (live-id own.last own.streams id own-live)) known

  goes : GoWith b (changed id (raised n) own)
  goes = let old = the-one (record_of own.streams risen.id) there in go-put b own risen old.0 g old.1

  rises : with_base b (changed id (raised n) own) ≡ changed id (raised n) v
  rises =
      let old = the-one (record_of own.streams risen.id) there in
      put-all b own risen old.0 g old.1
      ∙ ap (λ (r : Records). let w : Records = record r { streams = put risen r.streams } in w) is
      ∙ ap (λ (st : Stream). let w : Records = record v { streams = put (raised n st) v.streams } in w) (sym same)

pub raise-requires-clause-live : goal.raise-requires-clause-live
raise-requires-clause-live g c = let s = c.self.inside in own-live s.base s.own c.self.invariant c.self.view_is c.args.id c.args.increment c.requires.live

pub raise-requires-clause-fits : goal.raise-requires-clause-fits
raise-requires-clause-fits g c =
    let s = c.self.inside in
    ap (can_rise c.args.increment) (sym (same s.base s.own c.self.invariant c.self.view_is c.args.id c.args.increment c.requires.live)) ∙ c.requires.fits

pub invariant_of-self : goal.invariant_of-self
invariant_of-self g c =
    let s = c.self.inside in
    subst (λ (o : Records). GoWith s.base o) (sym c.raise.ensures) (goes s.base s.own c.self.invariant c.self.view_is c.args.id c.args.increment c.requires.live)

pub returns : goal.returns
returns g c =
    let s = c.self.inside in
    ap (with_base s.base) c.raise.ensures ∙ rises s.base s.own c.self.invariant c.self.view_is c.args.id c.args.increment c.requires.live
