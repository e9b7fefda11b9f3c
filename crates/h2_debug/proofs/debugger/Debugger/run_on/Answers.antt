use Rattle.std.proofs.Common.{rules, ◌≡◌, ◌∙◌, ◌<◌, ◌≤◌, ◌^◌, [], ap, arith, length, map, sym}
use Rattle.std.proofs.lemmas.List.{nil_from_length}
use Rattle.std.proofs.lemmas.Result.{IfOk-weaker}
use Rattle.h2_debug.specs.Debugging.{Debugging, moved_by}
use Rattle.h2_spec.specs.Texts.Debug.{stop}
use Rattle.h2_debug.specs.Breakpoints.{break_of}
use Rattle.h2_debug.specs.Places.{end, events}
use Rattle.h2_debug.proofs.BreakLaws.{stop-is}
use Rattle.h2_debug.proofs.KeptLaws.{end-few, stop-none}
use Rattle.h2_debug.proofs.debugger.Debugger.run_on.Goals as goal

pub returns-then-is_empty-clause-ok : goal.returns-then-is_empty-clause-ok
returns-then-is_empty-clause-ok g c =
    let d = c.args.self.now in
    let few : end d.run ≤ length c.self.inside.octets.items = rw (← c.self.view_is) (end-few _) in
    let bound : length c.self.inside.octets.items < 2 ^ 63 = omega (arith, c.self.inside.octets.ok.0, c.self.inside.octets.ok.1, c.self.inside.octets.small) in
    let empty : length c.self.inside.breaks.items ≡ 0 = search rules in
    let none : d.breaks ≡ [] = sym (ap (λ (x : Debugging). x.breaks) c.self.view_is) ∙ ap (map break_of) (nil_from_length c.self.inside.breaks.items empty) in
    let last : stop d.breaks (events d.run) d.position ≡ end d.run = rw none (stop-none d.position (events d.run) (omega (arith, c.requires))) in
    IfOk-weaker c.step_some.result _ _ (λ p h. (omega (arith, h.0, last, few, bound), h.1)) c.step_some.ensures.ok

pub run_from-requires : goal.run_from-requires
run_from-requires g c =
    let d = c.args.self.now in
    let there = c.in_ok-walk_reached.ensures in
    let within = (stop-is d.breaks (events d.run) d.position c.requires).within in
    rw there.same (record {
      place = there.at;
      known = there.known;
      more = omega (arith, there.before, within);
    })

pub returns-clause-ok : goal.returns-clause-ok
returns-clause-ok g c =
    let d = c.args.self.now in
    let place = c.walk_reached.new.place in
    let later = c.in_ok-walk_reached.ensures.later in
    let moves = rw c.in_ok-walk_reached.ensures.same at c.run_from.ensures.ok in
    IfOk-weaker c.run_from.result _ _
    (λ p h. (
      h.0 ∙ c.in_ok-walk_reached.ensures.stop,
      h.1 ∙ ap (λ n. moved_by n p d) (omega (arith, h.0, c.in_ok-walk_reached.ensures.stop, c.in_ok-walk_reached.ensures.before, later, c.in_ok-walk_reached.ensures.ran)),
    ))
    moves
