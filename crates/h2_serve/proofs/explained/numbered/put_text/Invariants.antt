use Rattle.std.proofs.Common.{◌≡◌, ◌++◌, length}
use Rattle.h2_serve.specs.Numbered.{fresh_after, prefixed}
use Rattle.h2_serve.proofs.explained.numbered.put_text.Given as goal

abbrev pub invariant-loop-rest : goal.invariant-loop-rest
invariant-loop-rest l = record {
  text : l.out.items ++ prefixed l.prefix l.json l.fresh l.rest ≡ l.fn.out.items ++ prefixed l.prefix l.json l.fn.fresh l.text;
  fresh : fresh_after l.fresh l.rest ≡ fresh_after l.fn.fresh l.text;
}

abbrev pub decreases-loop-rest : goal.decreases-loop-rest
decreases-loop-rest l = length l.rest
