-- DATA that is held, and what completes it: together they are one whole frame.
use Rattle.std.proofs.Common.{◌≡◌, ℕ, ◌+◌, ◌-◌, ◌≤◌, false, List, ◌++◌, length, drop, refl, sym, ap, subst, ◌∙◌, arith, length-append, length-drop, le-ltb}
use Rattle.std.proofs.lemmas.List.{drop_all, take_all}
use Rattle.h2_spec.specs.declared.frames.Head.{Head}
use Rattle.h2_spec.specs.Frames.Frame.{WholeFrame, Got, next, frame_item, head_of}
use Rattle.h2_spec.specs.Frames.FrameType.{DATA, PADDED, has}
use Rattle.h2_frame.specs.Items.{IsDataCompleted, found, item_in, rest_behind, with_more}
use Rattle.h2_frame.specs.Rest.{Rest}
use Rattle.h2_frame.proofs.MissingLaws.{head_of-append}

-- a head and as many octets after it as it says
whole-frame : (limit : ℕ) (h : Head) (b : List ℕ) → h.length ≤ limit → length b ≡ 9 + h.length → frame_item limit h b ≡ Got (WholeFrame h (drop 9 b)) (9 + h.length)
whole-frame limit h b small size =
    rw (le-ltb limit h.length small, le-ltb (length b) (9 + h.length) (omega (arith, size)), take_all (9 + h.length - 9) (drop 9 b) (omega (arith, size, length-drop 9 b))) refl

-- what is found where octets more are held
found-whole : (limit : ℕ) (r : Rest) (more : List ℕ) (h : Head) → h ≡ head_of r.octets → r.is_over ≡ false → r.expects_preface ≡ false → 9 ≤ length r.octets → h.length ≤ limit → 9 + h.length ≡ length r.octets + length more →
    found limit (with_more r more) ≡ Got (WholeFrame h (drop 9 (r.octets ++ more))) (9 + h.length)
unfolding next
found-whole limit r more h is going past held small whole =
    let b = r.octets ++ more in
    let sum = length-append r.octets more in
    rw (going, past, le-ltb (length b) 9 (omega (arith, sum, held)))
    (subst (λ (k : Head). frame_item limit k b ≡ Got (WholeFrame h (drop 9 b)) (9 + h.length)) (is ∙ sym (head_of-append r.octets more held)) (whole-frame limit h b small (omega (arith, sum, whole))))

pub completed : (limit : ℕ) (r : Rest) (more : List ℕ) (h : Head) → h ≡ head_of r.octets → r.is_over ≡ false → r.expects_preface ≡ false → 9 ≤ length r.octets → h.length ≤ limit → 9 + h.length ≡ length r.octets + length more →
    h.kind ≡ DATA → has h.flags PADDED ≡ false → IsDataCompleted limit r more h
completed limit r more h is going past held small whole kind plain =
    let b = r.octets ++ more in
    let sum = length-append r.octets more in
    let got = found-whole limit r more h is going past held small whole in
    record {
      is = ap item_in got;
      rest = ap (rest_behind (with_more r more)) got ∙ ap (λ (octets : List ℕ). let left : Rest = record { octets = octets; expects_preface = false; is_over = false } in left) (drop_all (9 + h.length) b (omega (arith, sum, whole)));
      count = omega (arith, sum, whole, length-drop 9 b);
      going = going;
      past = past;
      kind = kind;
      unpadded = plain;
    }
