use Rattle.std.proofs.Common.{◌≡◌, ◌∙◌, ◌+◌, ◌-◌, ◌++◌, List, ℕ, suc, ap, sym, arith, length, string_bytes, append_assoc, false}
use Rattle.h2_spec.specs.Texts.Written.{line_text}
use Rattle.h2_script.specs.Texts.{said_text}
use Rattle.h2_script.proofs.Written.{said_one}
use Rattle.h2_script.proofs.disassembler.push_all.Goals as goal

pub loop-turn-preserved : goal.loop-turn-preserved
loop-turn-preserved g c =
    let all = c.args.octets.now in
    let rest = c.loop-turn.rest.now in
    let old = string_bytes c.loop-turn.out in
    let n = length all - (c.loop-turn._turn + 1) in
    let fuel : length all - c.loop-turn._turn ≡ suc n = omega (arith, c.loop-turn-test.true) in
    let next = rw c.in-Some.is at c.in_ok-used.ensures.next in
    ap (λ (x : List ℕ). x ++ said_text n false c.octets_from-rest.result.now) next.2
    ∙ append_assoc old (line_text next.0) (said_text n false c.octets_from-rest.result.now)
    ∙ ap (λ (b : List ℕ). old ++ (line_text next.0 ++ said_text n false b)) c.octets_from-rest.ensures
    ∙ ap (λ (x : List ℕ). old ++ x) (sym (said_one n c.loop-turn.first rest next.0 c.in-Some.used next.1))
    ∙ ap (λ (k : ℕ). old ++ said_text k c.loop-turn.first rest) (sym fuel)
    ∙ c.loop-turn.invariant
