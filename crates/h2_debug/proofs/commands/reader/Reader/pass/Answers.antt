use Rattle.std.proofs.Common.{◌≡◌, ◌≤◌, ◌∙◌, List, ℕ, ap, arith, drop, length, subst, sym}
use Rattle.std.specs.List.{slice_range}
use Rattle.h2_debug.specs.Reading.{Reading}
use Rattle.h2_debug.proofs.Ahead.{range-rest}
use Rattle.h2_debug.proofs.commands.reader.Reader.pass.Goals as goal

pub returns-clause-held : goal.returns-clause-held
returns-clause-held c =
    let inside = c.self.inside in
    let held : slice_range inside.buffer inside.start inside.end ≡ c.args.self.now.held = ap (λ (r : Reading). r.held) c.self.view_is in
    let few = subst (λ (h : List ℕ). c.args.count ≤ length h) (sym held) c.requires in
    range-rest inside.buffer inside.start c.args.count inside.end (omega (arith, c.self.invariant)) (omega (arith, c.self.invariant, c.self.told)) few ∙ ap (drop c.args.count) held
