-- A point of octets is a point with more octets after them; what is read from it is the instruction at their front.
use Rattle.std.proofs.Common.{◌≡◌, ℕ, ◌≤◌, List, [], ◌++◌, length, take, drop, Result, Ok, Err, refl, ap, sym, ◌∙◌, subst, arith, append_assoc, length-append, length-drop}
use Rattle.std.proofs.lemmas.List.{drop-append-le, take-append-le}
use Rattle.h2_spec.specs.Hpack.Instruction as spec
use Rattle.h2_spec.specs.Hpack.Instruction.{instr_at}
use Rattle.h2_hpack_instruction.specs.Resume.{Nothing, ValueLength, ValueOctets, name_at, begun_of, IsNameBefore, IsKnownBefore, IsPoint, IsRest, IsReadOn, IfMore, SameOn}
use Rattle.h2_hpack_instruction.specs.Shapes.{mode_of, shape_of, read_of}
use Rattle.h2_hpack_instruction.specs.declared.shape.Known.{Known}
use Rattle.h2_hpack_instruction.specs.declared.shape.Known.TheVariants as known
use Rattle.h2_hpack_instruction.specs.declared.shape.PartialName.{PartialName}
use Rattle.h2_hpack_instruction.specs.declared.shape.PartialName.TheVariants as name
use Rattle.h2_hpack_instruction.specs.declared.shape.Point.{Point}
use Rattle.h2_hpack_instruction.specs.declared.shape.Shape.{Shape}
use Rattle.h2_hpack_instruction.specs.declared.shape.ShapeFault.{ShapeFault}
use Rattle.h2_hpack_instruction.specs.declared.shape.ShapeFault.TheVariants as cut
use Rattle.h2_hpack_instruction.proofs.Resuming.{goes-on, past-zero, same-start}

-- ---- more octets after

name-stays : (b c : List ℕ) (at : ℕ) (name : PartialName) → IsNameBefore at name → at ≤ length b → name_at (b ++ c) name ≡ name_at b name
name-stays b c at (name.Ref i) h k = refl
name-stays b c at (name.Named huffman start n) h k =
    let front : drop start (b ++ c) ≡ drop start b ++ c = drop-append-le start b c (omega (arith, h.1, k)) in
    let octets : take n (drop start (b ++ c)) ≡ take n (drop start b) = ap (take n) front ∙ take-append-le n (drop start b) c (omega (arith, h.1, k, length-drop start b)) in
    ap (λ xs. spec.Named (record { huffman = huffman; octets = xs })) octets

begun-stays : (b c : List ℕ) (at passed : ℕ) (k : Known) → IsKnownBefore at passed k → at ≤ length b → begun_of (b ++ c) k ≡ begun_of b k
begun-stays b c at passed known.Nothing h e = refl
begun-stays b c at passed (known.NameLength mode) h e = refl
begun-stays b c at passed (known.NameOctets mode huffman n) h e = refl
begun-stays b c at passed (known.ValueLength mode name) h e = ap (ValueLength (mode_of mode)) (name-stays b c at name h.0 e)
begun-stays b c at passed (known.ValueOctets mode name huffman n) h e = ap (λ x. ValueOctets (mode_of mode) x huffman n) (name-stays b c at name h.0 e)

pub point-stays : (b c : List ℕ) (p : Point) → IsPoint b p → IsPoint (b ++ c) p
point-stays b c p h = record {
  within = omega (arith, h.within, length-append b c);
  known = h.known;
  same = λ d.
      rw (begun-stays b c p.at p.passed p.known h.known h.within, append_assoc b c d)
      (h.same (c ++ d));
}

-- ---- the beginning of an instruction

pub point-starts : (b : List ℕ) → IsPoint b (record { known = known.Nothing; at = 0; passed = 0 })
point-starts b = record { within = omega arith; known = (refl, refl); same = same-start b Nothing 0 }

pub rest-starts : IsRest [] (record { known = known.Nothing; at = 0; passed = 0 })
rest-starts = record { point = point-starts []; passed = omega arith; again = omega arith }

-- ---- the instruction at the front

pub read-front : (b : List ℕ) (passed : ℕ) (r : Result (Shape × ℕ) ShapeFault) → IsReadOn b Nothing 0 passed r → read_of shape_of r ≡ instr_at b
read-front b passed (Ok r) e = sym e.0 ∙ past-zero (instr_at b)
read-front b passed (Err (cut.More next)) e = sym e.0 ∙ past-zero (instr_at b)
read-front b passed (Err cut.TooLong) e = sym e ∙ past-zero (instr_at b)

pub read-rest : (b : List ℕ) (passed : ℕ) (r : Result (Shape × ℕ) ShapeFault) → IsReadOn b Nothing 0 passed r → IfMore r (λ next. IsRest b next)
read-rest b passed (Ok r) e = tt
read-rest b passed (Err (cut.More next)) e = record { point = record { within = e.1.within; known = e.1.known; same = e.1.same }; passed = e.1.passed; again = e.1.again }
read-rest b passed (Err cut.TooLong) e = tt

-- what is read from a point is the instruction at the front
pub read-at : (b : List ℕ) (p : Point) (k : Known) (more : ℕ) (r : Result (Shape × ℕ) ShapeFault) → IsPoint b p → p.known ≡ k → IsReadOn b (begun_of b k) p.at more r → read_of shape_of r ≡ instr_at b
read-at b p k more r h e read =
    read-front b 0 r (goes-on b Nothing (begun_of b k) 0 p.at 0 more r (subst (λ x. SameOn b Nothing 0 (begun_of b x) p.at) e h.same) (omega arith) read)
