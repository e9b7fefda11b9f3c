use Rattle.std.proofs.Common.{◌≡◌, ◌≢◌, true, false, cond, Some, Result, Ok, Err, IfErr, refl, ap, sym, subst, ◌∙◌}
use Rattle.std.specs.Result.{IsErrAnd, IsErrOf}
use Rattle.std.proofs.lemmas.Result.{IfOk-from_err}
use Rattle.h2_prim.specs.declared.fault.HuffFault.{HuffFault}
use Rattle.h2_prim.specs.declared.fault.HuffFault.TheVariants as fault
use Rattle.h2_spec.specs.Hpack.Huffman.{HuffRead, Text, Eos, Padding, huffman_text}
use Rattle.h2_spec.specs.Hpack.Instruction.{Str, text_of}
use Rattle.h2_spec.specs.Hpack.Block.{text_result}
use Rattle.h2_hpack_instruction.specs.declared.fault.BlockFault.{BlockFault}
use Rattle.h2_hpack_instruction.specs.declared.fault.BlockFault.TheVariants.{NoMemory, Huffman}
use Rattle.h2_hpack_instruction.specs.Faults.{of_huffman, refusal}
use Rattle.h2_hpack_instruction.specs.Instructions.{HasText}
use Rattle.h2_hpack_instruction.specs.Shapes.{string_of}
use Rattle.h2_hpack_instruction.proofs.instruction.text_of.Goals as goal

-- what a string means, by its flag
as-huffman : (s : Str) → s.huffman ≡ true → text_of s ≡ huffman_text s.octets
as-huffman s e = ap (λ b. cond b (huffman_text s.octets) (Text s.octets)) e

as-plain : (s : Str) → s.huffman ≡ false → text_of s ≡ Text s.octets
as-plain s e = ap (λ b. cond b (huffman_text s.octets) (Text s.octets)) e

-- memory is refused, and nothing else is said
only-memory : {T : Type 0} (r : Result T BlockFault) (Is : BlockFault → Type 0) → IsErrAnd r (λ f. f ≡ NoMemory) → IfErr r (λ f. f ≢ NoMemory → Is f)
only-memory (Ok x) Is h = tt
only-memory (Err f) Is h = λ other. absurd (other h)

-- a string that is no Huffman string is refused for that
refused : {T S : Type 0} (r : Result T BlockFault) (e : HuffFault) (t : HuffRead) → IsErrAnd r (λ f. f ≡ of_huffman e) → (IsErrOf {T = S} (Err e) fault.Eos → t ≡ Eos) → (IsErrOf {T = S} (Err e) fault.Padding → t ≡ Padding) →
    IfErr r (λ f. f ≢ NoMemory → (f ≡ Huffman) × (refusal (text_result t) ≡ Some Huffman))
refused (Ok x) e t h p q = tt
refused (Err f) fault.NoMemory t h p q = λ other. absurd (other h)
refused (Err f) fault.Eos t h p q = λ other. (h, ap (λ u. refusal (text_result u)) (p refl))
refused (Err f) fault.Padding t h p q = λ other. (h, ap (λ u. refusal (text_result u)) (q refl))

-- where memory is refused the string has a text
has-text : {T S : Type 0} (r : Result T BlockFault) (e : HuffFault) (t : HuffRead) → IsErrAnd r (λ f. f ≡ of_huffman e) → (t ≡ Eos → IsErrOf {T = S} (Err e) fault.Eos) → (t ≡ Padding → IsErrOf {T = S} (Err e) fault.Padding) → IsErrOf r NoMemory → HasText t
has-text r e (Text x) h p q k = tt
has-text (Ok x) e t h p q k = absurd h
has-text (Err f) fault.NoMemory Eos h p q k = let is = p refl in absurd cc
has-text (Err f) fault.NoMemory Padding h p q k = let is = q refl in absurd cc
has-text (Err f) fault.Eos t h p q k = absurd cc
has-text (Err f) fault.Padding t h p q k = absurd cc

pub returns-in_err-huff_read-clause-text : goal.returns-in_err-huff_read-clause-text
returns-in_err-huff_read-clause-text g c = IfOk-from_err c.from_residual.result _ c.from_residual.ensures.0

pub returns-in_err-huff_read-clause-fault : goal.returns-in_err-huff_read-clause-fault
returns-in_err-huff_read-clause-fault g c =
    let s = string_of c.args.string in
    let is = as-huffman s c.if-string.true in
    let why = c.in_err-huff_read.ensures in
    refused c.from_residual.result c.in_err-huff_read.field-0.0 (text_of s) c.from_residual.ensures.1 (λ e. is ∙ why.eos.0 e) (λ e. is ∙ why.padding.0 e)

pub returns-in_err-huff_read-clause-no_memory : goal.returns-in_err-huff_read-clause-no_memory
returns-in_err-huff_read-clause-no_memory g c = λ k.
    let s = string_of c.args.string in
    let is = as-huffman s c.if-string.true in
    let why = c.in_err-huff_read.ensures in
    has-text c.from_residual.result c.in_err-huff_read.field-0.0 (text_of s) c.from_residual.ensures.1 (λ e. why.eos.1 (sym is ∙ e)) (λ e. why.padding.1 (sym is ∙ e)) k

pub returns-in_err-from_slice-clause-fault : goal.returns-in_err-from_slice-clause-fault
returns-in_err-from_slice-clause-fault g c = only-memory c.from_residual-in_err-from_slice.result _ c.from_residual-in_err-from_slice.ensures.1

pub returns-in_err-from_slice-clause-no_memory : goal.returns-in_err-from_slice-clause-no_memory
returns-in_err-from_slice-clause-no_memory g c = λ _. subst HasText (sym (as-plain (string_of c.args.string) c.if-string.false)) tt

pub returns-in_ok-huff_read-clause-text : goal.returns-in_ok-huff_read-clause-text
returns-in_ok-huff_read-clause-text g c = as-huffman (string_of c.args.string) c.if-string.true ∙ c.in_ok-huff_read.ensures.text

pub returns-in_ok-from_slice-clause-text : goal.returns-in_ok-from_slice-clause-text
returns-in_ok-from_slice-clause-text g c = as-plain (string_of c.args.string) c.if-string.false ∙ ap Text (sym c.in_ok-from_slice.ensures.items)
