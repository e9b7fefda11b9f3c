use Rattle.std.proofs.Common.{ap, sym, ◌∙◌}
use Rattle.h2_spec.specs.Stream.{record_of}
use Rattle.h2_streams.specs.Joined.{Base}
use Rattle.h2_streams.proofs.JoinedPut.{found-own, found-shared}
use Rattle.h2_streams.proofs.brief.base.Base.find.Goals as goal

pub returns-in-Some : goal.returns-in-Some
returns-in-Some g c = sym (found-own c.requires.is_joined c.args.id c.in-Some.stream (sym (c.in-Some.ensures ∙ c.get.ensures)))

pub returns-in-None : goal.returns-in-None
returns-in-None g c =
    let b = c.args.self.now in
    c.find.ensures ∙ ap (λ (x : Base). record_of x.records c.args.id) c.self.view_is ∙ sym (found-shared b.records c.args.own.now.streams b.front c.args.id (sym (c.in-None.ensures ∙ c.get.ensures)))
