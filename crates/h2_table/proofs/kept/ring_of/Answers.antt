use Rattle.std.proofs.Common.{◌++◌, ◌∙◌, length, ap, sym, arith}
use Rattle.h2_table.proofs.KeptRuns.{entries-next, entries-within}
use Rattle.h2_table.proofs.kept.ring_of.Goals as goal

pub put_run-requires : goal.put_run-requires
put_run-requires g c =
    let before = c.loop-run.invariant in
    let within = entries-within c.args.runs.now c.loop-run.run-index c.run-item.result c.loop-run-test.true c.run-item.is in
    omega (arith, ap length before.same, before.places, within, c.requires)

pub loop-run-preserved : goal.loop-run-preserved
loop-run-preserved g c =
    let before = c.loop-run.invariant in
    rw c.in_ok-put_run.ensures (record {
      same = ap (λ es. es ++ c.run-item.result) before.same ∙ sym (entries-next c.args.runs.now c.loop-run.run-index c.run-item.result c.loop-run-test.true c.run-item.is);
      places = before.places;
    })
