use Rattle.std.proofs.Common.{ap, ◌∙◌, sym, ℕ}
use Rattle.h2_spec.specs.declared.streams.StreamState.{StreamState}
use Rattle.h2_spec.specs.declared.streams.Stream.{Stream}
use Rattle.h2_spec.specs.Stream.{Records, not_live, reset_kind, put}
use Rattle.h2_streams.proofs.PlaceLaws.{live-id}
use Rattle.h2_streams.proofs.records.Streams.reset.Goals as goal

pub returns : goal.returns
returns g c =
    let r = c.args.self.now in
    let id = c.args.id in
    let kind = c.reset_kind.ensures in
    let same = live-id r.last r.streams id c.requires in
    c.replace.ensures ∙ ap (λ (st : Stream). let s : Records = record r { streams = put st r.streams } in s)
    (c.not_live.ensures ∙ ap (λ (k : StreamState). not_live id k) kind ∙ ap (λ (n : ℕ). not_live n (reset_kind c.args.by_peer)) (sym same))
