use Rattle.std.proofs.Common.{◌≡◌, true, ap, sym, subst, ◌∙◌}
use Rattle.std.specs.Option.{is_some}
use Rattle.h2_spec.specs.declared.streams.Stream.{Stream}
use Rattle.h2_spec.specs.Stream.{Records, is_live, kind_of}
use Rattle.h2_streams.proofs.BaseLaws.{own-stream}
use Rattle.h2_streams.proofs.PlaceLaws.{live-found}
use Rattle.h2_streams.proofs.records.Streams.look_up.Goals as goal

pub returns-clause-live : goal.returns-clause-live
returns-clause-live g c live =
    let s = c.self.inside in
    let id = c.args.id in
    let own = c.look_up.ensures.live live in
    let known = ap is_some (live-found s.own.last s.own.streams id own) in
    subst (λ (v : Records). is_live (kind_of v.last v.streams id) ≡ true) c.self.view_is (ap (λ (x : Stream). is_live x.kind) (own-stream s.base s.own c.self.invariant id known) ∙ own)
