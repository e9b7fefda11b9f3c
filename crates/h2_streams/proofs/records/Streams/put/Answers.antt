use Rattle.std.proofs.Common.{arith, ℕ, ◌≡◌, ◌≤◌, ◌<◌, ◌∙◌, ap, max, subst, sym, true, OnOk}
use Rattle.std.proofs.lemmas.Result.{on_ok_weaker}
use Rattle.h2_spec.specs.Stream.{Records, is_live, kind_of, put}
use Rattle.h2_streams.specs.Put.{can_become}
use Rattle.h2_streams.proofs.PlaceLaws.{added-is-put, live-within}
use Rattle.h2_streams.proofs.records.Streams.put.Goals as goal

pub returns-then-last-stream-clause-ok : goal.returns-then-last-stream-clause-ok
returns-then-last-stream-clause-ok g c =
    let r = c.args.self.now in
    let above : r.last < c.args.stream.id = omega (arith, c.last.ensures.value, c.if-last-stream.true) in
    subst (λ (s : Records). OnOk c.add.result (c.add.new.self ≡ s)) (added-is-put c.args.stream r c.last.ensures.rising above) c.add.ensures.ok

pub returns-then-last-stream-clause-known : goal.returns-then-last-stream-clause-known
returns-then-last-stream-clause-known g c = λ live.
    let r = c.args.self.now in
    let above : r.last < c.args.stream.id = omega (arith, c.last.ensures.value, c.if-last-stream.true) in
    let within : c.args.stream.id ≤ r.last = live-within r.last r.streams c.args.stream.id live in
    absurd (omega (arith, above, within))

pub replace-requires-clause-can : goal.replace-requires-clause-can
replace-requires-clause-can g c =
    let r = c.args.self.now in
    let st = c.args.stream in
    let within : st.id ≤ r.last = omega (arith, c.last.ensures.value, c.if-last-stream.false) in
    subst (λ (v : Records). can_become (kind_of v.last v.streams st.id) st.kind ≡ true) (sym c.self.view_is) (c.requires.1 within)

pub returns-clause-ok : goal.returns-clause-ok
returns-clause-ok g c =
    let r = c.args.self.now in
    let st = c.args.stream in
    let last : r.last ≡ max r.last st.id = omega (arith, c.last.ensures.value, c.if-last-stream.false) in
    on_ok_weaker c.replace.result (λ e. e ∙ ap (λ (v : Records). let w : Records = record v { streams = put st v.streams } in w) c.self.view_is
    ∙ ap (λ (n : ℕ). let w : Records = record { streams = put st r.streams; last = n } in w) last) c.replace.ensures.ok

pub returns-clause-known : goal.returns-clause-known
returns-clause-known g c = λ live. c.replace.ensures.known (subst (λ (v : Records). is_live (kind_of v.last v.streams c.args.stream.id) ≡ true) (sym c.self.view_is) live)
