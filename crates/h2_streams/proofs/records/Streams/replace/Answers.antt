use Rattle.std.proofs.Common.{◌≡◌, ◌∙◌, ap, sym, subst, true, not, ◌&&◌, ◌||◌}
use Rattle.std.specs.Option.{is_some}
use Rattle.h2_spec.specs.declared.streams.Stream.{Stream}
use Rattle.h2_spec.specs.Stream.{Records, is_live, kind_of, put, record_of}
use Rattle.h2_streams.specs.Joined.{Base, GoWith, with_base}
use Rattle.h2_streams.specs.Put.{can_become, is_closed}
use Rattle.h2_streams.proofs.BaseLaws.{live-own, own-stream, the-one}
use Rattle.h2_streams.proofs.SharedLaws.{go-put, put-all}
use Rattle.h2_streams.proofs.records.Streams.replace.Goals as goal

abbrev written : Stream → Records → Records
written st r = record r { streams = put st r.streams }

-- a live stream has a record of one's own
module _ (b : Base) (own : Records) (g : GoWith b own) {v : Records} (is : with_base b own ≡ v) (st : Stream) (alive : is_live (kind_of v.last v.streams st.id) ≡ true) where
  all-live : is_live (kind_of (with_base b own).last (with_base b own).streams st.id) ≡ true
  all-live = subst (λ (v : Records). is_live (kind_of v.last v.streams st.id) ≡ true) (sym is) alive

  known : is_some (record_of own.streams st.id) ≡ true
  known = live-own b own g st.id all-live

  own-live : is_live (kind_of own.last own.streams st.id) ≡ true
  own-live = subst (λ (x : Stream). is_live x.kind ≡ true) (own-stream b own g st.id known) all-live

  can : can_become (kind_of own.last own.streams st.id) st.kind ≡ true
  can = ap (λ t. t || (is_closed (kind_of own.last own.streams st.id) && not (is_live st.kind))) own-live

  goes : GoWith b (written st own)
  goes = let old = the-one (record_of own.streams st.id) known in go-put b own st old.0 g old.1

  changes : with_base b (written st own) ≡ written st v
  changes = let old = the-one (record_of own.streams st.id) known in put-all b own st old.0 g old.1 ∙ ap (written st) is

pub replace-requires : goal.replace-requires
replace-requires g c = let s = c.self.inside in can s.base s.own c.self.invariant c.self.view_is c.args.stream c.requires

pub invariant_of-self : goal.invariant_of-self
invariant_of-self g c =
    let s = c.self.inside in
    subst (λ (o : Records). GoWith s.base o) (sym c.replace.ensures) (goes s.base s.own c.self.invariant c.self.view_is c.args.stream c.requires)

pub returns : goal.returns
returns g c =
    let s = c.self.inside in
    ap (with_base s.base) c.replace.ensures ∙ changes s.base s.own c.self.invariant c.self.view_is c.args.stream c.requires
