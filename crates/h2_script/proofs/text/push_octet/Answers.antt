use Rattle.std.proofs.Common.{◌∙◌, ap, refl, List, ℕ, ◌<◌, ◌/◌, ◌%◌, ◌++◌, ◌≡◌, [], ◌∷◌, arith, rules, string_bytes, subst, sym, slice_index}
use Rattle.std.specs.List.{AllByRecursion}
use Rattle.std.specs.Str.{IsAscii}
use Rattle.std.proofs.lemmas.Str.Ascii.{IsAscii-cons, IsAscii-nil}
use Rattle.hex.specs.Hex.{encode_lower, encode_with, lower_digits}
use Rattle.h2_script.proofs.Strings.{two_digits}
use Rattle.h2_script.proofs.text.push_octet.Goals as goal

ascii-from : (digits : List ℕ) → AllByRecursion (λ d. d < 128) digits → IsAscii digits
ascii-from [] below = IsAscii-nil
ascii-from (d ∷ ds) below = IsAscii-cons d ds below.0 (ascii-from ds below.1)

ascii : IsAscii lower_digits
ascii = ascii-from lower_digits (search (rules, arith) depth 20)

-- the digits at the two places
first : (octet : ℕ) → slice_index (encode_lower (octet ∷ [])) 0 ≡ slice_index lower_digits (octet / 16)
unfolding encode_with
first octet = refl

second : (octet : ℕ) → slice_index (encode_lower (octet ∷ [])) 1 ≡ slice_index lower_digits (octet % 16)
unfolding encode_with
second octet = refl

pub returns : goal.returns
returns g c =
    let octet = c.args.octet in
    let old = string_bytes c.args.out.now in
    let written = c.in-Ok.ensures.written in
    let high : c.from.result ≡ slice_index lower_digits (octet / 16) = c.from.ensures ∙ ap (λ (x : List ℕ). slice_index x 0) written ∙ first octet in
    let low : c.from-2.result ≡ slice_index lower_digits (octet % 16) = c.from-2.ensures ∙ ap (λ (x : List ℕ). slice_index x 1) written ∙ second octet in
    let one = c.in_ok-push.ensures.bytes ∙ ap (λ (x : List ℕ). old ++ x) (c.in_ok-push.ensures.ascii (subst (λ (n : ℕ). n < 128) (sym high) (ascii (octet / 16)))) in
    let two = c.in_ok-push-2.ensures.bytes ∙ ap (λ (x : List ℕ). string_bytes c.push.new.self ++ x) (c.in_ok-push-2.ensures.ascii (subst (λ (n : ℕ). n < 128) (sym low) (ascii (octet % 16)))) in
    two_digits old (string_bytes c.push.new.self) (string_bytes c.push-2.new.self) c.from.result c.from-2.result octet one two high low
