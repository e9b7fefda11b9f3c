use Rattle.std.proofs.Common.{arith, ◌≡◌, ◌+◌, ◌-◌, ◌<◌, ◌^◌, ◌/◌, ◌++◌, ◌∷◌, [], ap, ◌∙◌, subst, ℕ}
use Rattle.h2_prim.specs.Written.{Written}
use Rattle.h2_spec.proofs.BitLaws.{cuts}
use Rattle.h2_prim.proofs.Writing.{flushed}
use Rattle.h2_prim.proofs.huffman.flush.Goals as goal

pub overflow_cast-number : goal.overflow_cast-number
overflow_cast-number g c =
    let l = c.loop-count in
    let n = l.count - 8 in
    let e : l.count ≡ 8 + n = omega arith in
    let h : l.number < 2 ^ (8 + n) = let P : ℕ → Type 0 = λ k. l.number < 2 ^ k in subst P e l.invariant.small in
    rw c.power-scale.ensures (let r = (cuts n l.number h).octet in omega arith)

pub loop-count-preserved : goal.loop-count-preserved
loop-count-preserved g c =
    let l = c.loop-count in
    let n = l.count - 8 in
    let e : l.count ≡ 8 + n = omega arith in
    let h : l.number < 2 ^ (8 + n) = let P : ℕ → Type 0 = λ k. l.number < 2 ^ k in subst P e l.invariant.small in
    let new = c.push_reserved.new.self.items in
    let pushed : new ≡ l.out.items ++ l.number / 2 ^ n ∷ [] = c.push_reserved.ensures.items ∙ ap (λ s. l.out.items ++ l.number / s ∷ []) c.power-scale.ensures in
    rw c.power-scale.ensures (record {
      few = omega arith;
      small = (cuts n l.number h).left;
      written = λ before bs w. flushed before l.out.items new n l.number bs h pushed (subst (λ k. Written before l.out.items k l.number bs) e (l.invariant.written before bs w));
      size = omega (arith, c.push_reserved.ensures.len);
      capacity = c.push_reserved.ensures.capacity ∙ l.invariant.capacity;
    })
