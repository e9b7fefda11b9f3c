use Rattle.std.proofs.Common.{◌≡◌, ◌∙◌, Some, ap, sym}
use Rattle.std.specs.Prelude.{slice_get}
use Rattle.h2_streams.specs.Joined.{Base}
use Rattle.h2_streams.proofs.BaseLaws.{at-brief, at-own}
use Rattle.h2_streams.proofs.brief.base.Base.at.Goals as goal

pub returns-in-Some : goal.returns-in-Some
returns-in-Some g c =
    let b = c.args.self.now in
    let st = c.in-Some.stream in
    let there : slice_get b.records c.args.place ≡ Some st = ap (λ (x : Base). slice_get x.records c.args.place) (sym c.self.view_is) ∙ sym c.in-Some.ensures in
    ap Some c.own_or.ensures ∙ at-brief c.requires.is_joined c.args.place st there
