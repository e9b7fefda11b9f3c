use Rattle.std.proofs.Common.{◌≡◌, ◌-◌, List, Some, arith, length, subst}
use Rattle.std.specs.Prelude.{slice_get}
use Rattle.h2_streams.specs.declared.brief.runs.IdRun.{IdRun}
use Rattle.h2_streams.proofs.RunLaws.{appended, extended-last}
use Rattle.h2_streams.proofs.brief.runs.append_id.Goals as goal

pub returns-then-not-is_next-clause-before : goal.returns-then-not-is_next-clause-before
returns-then-not-is_next-clause-before g c =
    let run : IdRun = record { last = c.args.id; end = c.args.end } in
    let done = appended c.args.runs.now.items run c.requires.ends.0 c.requires.ends.1 in
    rw c.push_reserved.ensures.items done.before

pub returns-then-not-is_next-clause-last : goal.returns-then-not-is_next-clause-last
returns-then-not-is_next-clause-last g c =
    let run : IdRun = record { last = c.args.id; end = c.args.end } in
    let done = appended c.args.runs.now.items run c.requires.ends.0 c.requires.ends.1 in
    rw c.push_reserved.ensures.items done.last

pub returns-then-not-is_next-clause-ends : goal.returns-then-not-is_next-clause-ends
returns-then-not-is_next-clause-ends g c =
    let run : IdRun = record { last = c.args.id; end = c.args.end } in
    let done = appended c.args.runs.now.items run c.requires.ends.0 c.requires.ends.1 in
    rw c.push_reserved.ensures.items (done.ends, done.end_is)

pub returns-clause-before : goal.returns-clause-before
returns-clause-before g c =
    let run : IdRun = record { last = c.args.id; end = c.args.end } in
    let next = c.is_next.ensures c.if-not-is_next.false in
    let there = subst (λ (rs : List IdRun). slice_get rs (length rs - 1) ≡ Some next.0) c.as_slice.ensures.value next.1 in
    let done = extended-last c.args.runs.now.items next.0 run c.requires.ends.0 c.requires.ends.1 there next.2 in
    let len : c.len-last.result ≡ length c.args.runs.now.items = omega (arith, c.len-last.ensures) in
    rw len done.before

pub returns-clause-last : goal.returns-clause-last
returns-clause-last g c =
    let run : IdRun = record { last = c.args.id; end = c.args.end } in
    let next = c.is_next.ensures c.if-not-is_next.false in
    let there = subst (λ (rs : List IdRun). slice_get rs (length rs - 1) ≡ Some next.0) c.as_slice.ensures.value next.1 in
    let done = extended-last c.args.runs.now.items next.0 run c.requires.ends.0 c.requires.ends.1 there next.2 in
    let len : c.len-last.result ≡ length c.args.runs.now.items = omega (arith, c.len-last.ensures) in
    rw len done.last

pub returns-clause-ends : goal.returns-clause-ends
returns-clause-ends g c =
    let run : IdRun = record { last = c.args.id; end = c.args.end } in
    let next = c.is_next.ensures c.if-not-is_next.false in
    let there = subst (λ (rs : List IdRun). slice_get rs (length rs - 1) ≡ Some next.0) c.as_slice.ensures.value next.1 in
    let done = extended-last c.args.runs.now.items next.0 run c.requires.ends.0 c.requires.ends.1 there next.2 in
    let len : c.len-last.result ≡ length c.args.runs.now.items = omega (arith, c.len-last.ensures) in
    rw len (done.ends, done.end_is)
