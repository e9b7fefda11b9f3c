use Rattle.h2_debug.proofs.KeptLaws.{kept-start}
use Rattle.h2_debug.proofs.debugger.Debugger.load.Goals as goal

pub invariant_of-result : goal.invariant_of-result
invariant_of-result g c =
    let here = rw c.as_slice.ensures.value at c.in-Ok.ensures.place in
    rw c.new-kept.ensures.items (kept-start _ _ here.0 here.1)
