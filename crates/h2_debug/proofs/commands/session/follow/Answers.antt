use Rattle.std.proofs.Common.{◌∙◌, ◌++◌, ℕ, List, [], ◌∷◌, true, false, Some, ap, refl, sym, append_assoc, is_err}
use Rattle.std.proofs.lemmas.List.{append-nil}
use Rattle.h2_debug.specs.Commands.{command_of}
use Rattle.h2_debug.specs.Reading.{ahead}
use Rattle.h2_debug.specs.Session.{closed}
use Rattle.h2_debug.proofs.Appending.{appended-more}
use Rattle.h2_debug.proofs.Following.{behind, continues-line, follows-cut, follows-end, follows-last, line-feed}
use Rattle.h2_debug.proofs.Giving.{known}
use Rattle.h2_debug.proofs.Short.{command-short}
use Rattle.h2_debug.proofs.commands.session.follow.Goals as goal

pub returns-in-Ok-None-clause-printed : goal.returns-in-Ok-None-clause-printed
returns-in-Ok-None-clause-printed g c = λ well octets held knows out.
    let i = c.loop-end.invariant.printed octets held knows out in
    let rest = g.I.Input.remaining c.next_line.new.input in
    let takes = rw c.in-Ok-None.field-0-is at c.in-Ok-None.ensures.ok in (
      behind i.1 (closed true []),
      rw c.in-Ok-None.ensures.well (i.4 false rest (closed true []) (follows-end _ _ _ _ _ _ _ rest i.2 takes)),
      (i.3 ∙ ap (λ (t : List ℕ). Some (held ++ t)) (sym (append-nil i.1)), refl),
    )

pub returns-in-Err-clause-printed : goal.returns-in-Err-clause-printed
returns-in-Err-clause-printed g c = λ well octets held knows out.
    let i = c.loop-end.invariant.printed octets held knows out in
    let e = c.refuse.ensures.printed well (held ++ i.1) i.3 in (
      behind i.1 (closed false []),
      i.4 _ _ (closed false []) (follows-cut _ _ _ _ _ _ i.2 c.in-Err.ensures.err),
      (e.0 ∙ ap (λ (t : List ℕ). Some t) (append_assoc held i.1 _), e.1),
    )

pub returns-in-Input-clause-printed : goal.returns-in-Input-clause-printed
returns-in-Input-clause-printed g c = λ well octets held knows out.
    let i = c.loop-end.invariant.printed octets held knows out in
    let some = rw c.in-Ok-Some.field-0-is at c.in-Ok-Some.ensures.ok in
    let rest = g.I.Input.remaining c.next_line.new.input in
    let takes = rw c.in-Input.is at some in
    let a = c.in-Ok.ensures.printed in
    let asked = ap command_of (c.as_slice.ensures.value ∙ takes.2) ∙ command-short takes.0 in (
      behind i.1 (closed true a.0),
      rw c.in-Ok-Some.ensures.well
          (i.4 false rest (closed true a.0) (follows-last _ _ _ _ _ _ _ _ _ rest i.2 takes.1 c.in-Ok-Some.ensures.within takes.3 (rw asked at a.1))),
      (appended-more _ _ held i.1 a.0 i.3 a.2, refl),
    )

pub loop-end-preserved : goal.loop-end-preserved
loop-end-preserved g c =
    let some = rw c.in-Ok-Some.field-0-is at c.in-Ok-Some.ensures.ok in
    let takes = line-feed (ahead c.loop-end.reader (g.I.Input.remaining c.loop-end.input)) (ahead c.next_line.new.reader (g.I.Input.remaining c.next_line.new.input)) c.loop-end.reader.passed
    c.next_line.new.reader.passed c.next_line.new.line.items c.in-Ok-Some.end c.in_default-end.not-Input some in
    let a = c.in-Ok.ensures.printed in
    let asked = ap command_of (c.as_slice.ensures.value ∙ takes.2) ∙ command-short takes.0 in
    record {
      input = c.in-Ok-Some.ensures.well;
      output = c.answer.ensures.flag ∙ ap (λ r. is_err r) c.in-Ok.is;
      input_name = c.next_line.ensures.name ∙ c.loop-end.invariant.input_name;
      output_name = c.answer.ensures.name ∙ c.loop-end.invariant.output_name;
      printed = λ octets held knows out.
          let i = c.loop-end.invariant.printed octets held knows out in
          let k = known _ _ i.0 (takes.0 ++ 10 ∷ []) i.2 takes.1.taken in (
            k.0,
            i.1 ++ a.0,
            k.1,
            appended-more _ _ held i.1 a.0 i.3 a.2,
            continues-line _ _ _ _ _ _ _ _ _ _ _ _ _ _ i.4 i.2 k.1 takes.1 c.in-Ok-Some.ensures.within (rw asked at a.1),
          );
    }
