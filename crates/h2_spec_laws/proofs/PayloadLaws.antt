-- Payloads are made of their parts.
use Rattle.std.proofs.Common.{◌≡◌, ℕ, ◌+◌, ◌-◌, ◌≤◌, List, ◌++◌, length, take, drop, Result, IfOk, sym, ap, ◌∙◌, arith, length-drop, ltb, ltb-false}
use Rattle.std.proofs.lemmas.Bool.{cond_both}
use Rattle.std.proofs.lemmas.List.{take-append-drop, drop-drop}
use Rattle.h2_spec.specs.declared.causes.Cause.{Cause}
use Rattle.h2_spec.specs.Frames.FrameType.{PADDED, has}
use Rattle.h2_spec.specs.Frames.Payload.{DataPart, HeadersPart, data_part, headers_part, octets_if, fixed_len, pad_length, pad_or_0}

-- octets cut at two places are joined again
cut-joined : (p : List ℕ) (fixed pad : ℕ) → fixed + pad ≤ length p → take fixed p ++ (take (length p - fixed - pad) (drop fixed p) ++ drop (length p - pad) p) ≡ p
cut-joined p fixed pad h =
    let end : fixed + (length p - fixed - pad) ≡ length p - pad = omega (arith, h) in
    let behind : drop (length p - fixed - pad) (drop fixed p) ≡ drop (length p - pad) p = drop-drop (length p - fixed - pad) fixed p ∙ ap (λ (n : ℕ). drop n p) end in
    let inner = ap (λ (xs : List ℕ). take (length p - fixed - pad) (drop fixed p) ++ xs) (sym behind) ∙ take-append-drop (length p - fixed - pad) (drop fixed p) in
    ap (λ (xs : List ℕ). take fixed p ++ xs) inner ∙ take-append-drop fixed p

padding-length : (p : List ℕ) (pad : ℕ) → pad ≤ length p → length (drop (length p - pad) p) ≡ pad
padding-length p pad h = let left = length-drop (length p - pad) p in omega (arith, h)

abbrev DataJoined : ℕ → List ℕ → Result DataPart Cause → Type 0
DataJoined flags p r = IfOk r (λ d. (take (octets_if (has flags PADDED) 1) p ++ (d.content ++ d.padding) ≡ p) × (length d.padding ≡ pad_or_0 d.pad))

pub data_part-joined : (flags : ℕ) (p : List ℕ) → DataJoined flags p (data_part flags p)
unfolding data_part
data_part-joined flags p =
    let fixed : ℕ = octets_if (has flags PADDED) 1 in
    let pad : ℕ = pad_or_0 (pad_length flags p) in
    cond_both (ltb (length p) fixed) _ _ (DataJoined flags p) (λ e. tt)
    (λ e. cond_both (ltb (length p) (fixed + pad)) _ _ (DataJoined flags p) (λ g. tt)
    (λ g. let within : fixed + pad ≤ length p = ltb-false (length p) (fixed + pad) g in (cut-joined p fixed pad within, padding-length p pad (omega (arith, within)))))

abbrev HeadersJoined : ℕ → List ℕ → Result HeadersPart Cause → Type 0
HeadersJoined flags p r = IfOk r (λ h. (take (fixed_len flags) p ++ (h.fragment ++ h.padding) ≡ p) × (length h.padding ≡ pad_or_0 h.pad))

pub headers_part-joined : (flags : ℕ) (p : List ℕ) → HeadersJoined flags p (headers_part flags p)
unfolding headers_part
headers_part-joined flags p =
    let fixed : ℕ = fixed_len flags in
    let pad : ℕ = pad_or_0 (pad_length flags p) in
    cond_both (ltb (length p) fixed) _ _ (HeadersJoined flags p) (λ e. tt)
    (λ e. cond_both (ltb (length p) (fixed + pad)) _ _ (HeadersJoined flags p) (λ g. tt)
    (λ g. let within : fixed + pad ≤ length p = ltb-false (length p) (fixed + pad) g in (cut-joined p fixed pad within, padding-length p pad (omega (arith, within)))))
