use Rattle.std.proofs.Common.{arith, ◌≡◌, ◌+◌, ◌-◌, ◌*◌, ◌<◌, ◌^◌, ◌++◌, ◌∷◌, [], ap, ◌∙◌, sym, subst, ℕ, take, length, refl}
use Rattle.std.proofs.lemmas.List.{take_all}
use Rattle.h2_spec.specs.Hpack.Huffman.{codes}
use Rattle.h2_spec.proofs.BitLaws.{join-small, pow-pos, octets_all}
use Rattle.h2_spec.proofs.SpellingLaws.{length-spell_huffman}
use Rattle.h2_prim.specs.Written.{Written}
use Rattle.h2_prim.proofs.Writing.{begun, joined, counted, counted_within, closed, closed_now}
use Rattle.h2_prim.proofs.huffman.write_codes.Goals as goal

pub loop-octet-init : goal.loop-octet-init
unfolding codes
loop-octet-init g c = record { few = omega arith; small = omega arith; written = begun c.args.out.now.items; size = refl; capacity = refl }

pub flush-left-requires-clause-small : goal.flush-left-requires-clause-small
flush-left-requires-clause-small g c =
    let l = c.loop-octet in
    let k = c.code_of-code in
    rw (c.power.ensures, c.from.ensures) (join-small l.count k.result.1 l.number k.result.0 l.invariant.small k.ensures.small)

pub flush-left-requires-clause-enough : goal.flush-left-requires-clause-enough
flush-left-requires-clause-enough g c =
    let l = c.loop-octet in
    let k = c.code_of-code in
    let within = counted_within c.args.text.now l.octet-index k.result.1 k.result.0 c.loop-octet-test.true k.ensures.code in
    omega (arith, within, length-spell_huffman c.args.text.now)

pub loop-octet-preserved : goal.loop-octet-preserved
loop-octet-preserved g c =
    let l = c.loop-octet in
    let k = c.code_of-code in
    let f = c.flush-left.ensures in
    let before = c.args.out.now.items in
    let text = c.args.text.now in
    let bs = codes (take (l.octet-index + 1) text) in
    let held : Written before l.out.items (l.count + k.result.1) (l.number * c.power.result + c.from.result) bs =
    rw (c.power.ensures, c.from.ensures) (joined before l.out.items text l.octet-index l.count k.result.1 l.number k.result.0 k.ensures.small k.ensures.code c.loop-octet-test.true l.invariant.written) in
    record {
      few = f.few;
      small = f.small;
      written = f.written before bs held;
      size = omega (arith, f.size, counted text l.octet-index k.result.1 k.result.0 c.loop-octet-test.true k.ensures.code);
      capacity = f.capacity ∙ l.invariant.capacity;
    }

pub overflow_cast-number : goal.overflow_cast-number
overflow_cast-number g c =
    let l = c.loop-octet in
    let k = 8 - l.count in
    let e : 8 ≡ l.count + k = omega arith in
    let fill : 2 ^ k - 1 < 2 ^ k = let p = pow-pos k in omega arith in
    let P : ℕ → Type 0 = λ m. l.number * 2 ^ k + (2 ^ k - 1) < 2 ^ m in
    let whole : l.number * 2 ^ k + (2 ^ k - 1) < 2 ^ 8 = subst P (sym e) (join-small l.count k l.number (2 ^ k - 1) l.invariant.small fill) in
    rw c.power-rest.ensures (omega (arith, whole))

pub push_reserved-requires : goal.push_reserved-requires
push_reserved-requires g c =
    let l = c.loop-octet in
    let all : take l.octet-index c.args.text.now ≡ c.args.text.now = take_all l.octet-index c.args.text.now c.loop-octet-test.false in
    let bits : length (codes (take l.octet-index c.args.text.now)) ≡ length (codes c.args.text.now) = ap (λ t. length (codes t)) all in
    omega (arith, bits, length-spell_huffman c.args.text.now)

pub returns-then-count-gt0 : goal.returns-then-count-gt0
returns-then-count-gt0 g c =
    let l = c.loop-octet in
    let k = 8 - l.count in
    let before = c.args.out.now.items in
    let text = c.args.text.now in
    let all : take l.octet-index text ≡ text = take_all l.octet-index text c.loop-octet-test.false in
    let w = subst (λ t. Written before l.out.items l.count l.number (codes t)) all l.invariant.written in
    let new = c.push_reserved.new.self.items in
    let pushed : new ≡ l.out.items ++ (l.number * 2 ^ k + (2 ^ k - 1)) ∷ [] = c.push_reserved.ensures.items ∙ ap (λ s. l.out.items ++ (l.number * s + (s - 1)) ∷ []) c.power-rest.ensures in
    closed before l.out.items new text l.count l.number k (octets_all text (λ i. omega (arith, c.type_inv.text i))) c.if-count-gt0.true (omega arith) l.invariant.small pushed w

pub returns-else-count-gt0 : goal.returns-else-count-gt0
returns-else-count-gt0 g c =
    let l = c.loop-octet in
    let all : take l.octet-index c.args.text.now ≡ c.args.text.now = take_all l.octet-index c.args.text.now c.loop-octet-test.false in
    let w = subst (λ t. Written c.args.out.now.items l.out.items l.count l.number (codes t)) all l.invariant.written in
    closed_now c.args.out.now.items l.out.items c.args.text.now l.count l.number (octets_all c.args.text.now (λ i. omega (arith, c.type_inv.text i))) (omega arith) w
