use Rattle.std.proofs.Common.{◌∷◌, ◌++◌, [], List, ℕ, string_bytes}
use Rattle.hex.specs.Hex.{encode_lower}
use Rattle.h2_spec.specs.Texts.Written.{stream_text, type_text}
use Rattle.h2_script.proofs.Written.{step}
use Rattle.h2_script.proofs.disassembler.push_head.Goals as goal

pub returns : goal.returns
returns g c =
    let h = c.args.head.now in
    let space : List ℕ = 32 ∷ [] in
    let s0 = string_bytes c.args.out.now in
    let s1 = string_bytes c.push_type.new.out in
    let s2 = string_bytes c.push_str.new.self in
    let s3 = string_bytes c.push_octet.new.out in
    let s4 = string_bytes c.push_str-2.new.self in
    let s5 = string_bytes c.push_stream.new.out in
    let s6 = string_bytes c.push_str-3.new.self in
    let flags = stream_text h.stream h.reserved ++ space in
    let kind = space ++ flags in
    let digits = encode_lower (h.flags ∷ []) ++ kind in
    let e5 = step s4 s5 s6 (stream_text h.stream h.reserved) space c.in_ok-push_stream.ensures c.in_ok-push_str-3.ensures.bytes in
    let e4 = step s3 s4 s6 space flags c.in_ok-push_str-2.ensures.bytes e5 in
    let e3 = step s2 s3 s6 (encode_lower (h.flags ∷ [])) kind c.in_ok-push_octet.ensures e4 in
    let e2 = step s1 s2 s6 space digits c.in_ok-push_str.ensures.bytes e3 in
    step s0 s1 s6 (type_text h.kind) (space ++ digits) c.in_ok-push_type.ensures e2
