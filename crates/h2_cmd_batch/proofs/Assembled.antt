-- What `asm` reports of a text, by what assembling it gives.
use Rattle.std.proofs.Common.{◌≡◌, ◌∙◌, ℕ, Bool, true, false, List, Result, Ok, Err, refl, sym, ap}
use Rattle.std.specs.Str.{IsUtf8, is_utf8}
use Rattle.std.proofs.lemmas.Str.{IsUtf8-from_is_utf8, is_utf8-from_IsUtf8}
use Rattle.h2_spec.specs.Texts.Assemble.{assembled}
use Rattle.h2_spec.specs.declared.scripts.SyntaxKind.{SyntaxKind}
use Rattle.h2_cmd_batch.specs.ScriptPrograms.{hex_line, syntax_line, printed_asm, printed_assembled}
use Rattle.h2_cmd_batch.specs.Printing.{Printed, done, failed}
use Rattle.h2_cmd_batch.specs.declared.fault.BenchFault.TheVariants.{Read}

not_utf8 : (bs : List ℕ) → ¬ IsUtf8 bs → is_utf8 bs ≡ false
not_utf8 bs other = go (is_utf8 bs) refl
  where
    go : (t : Bool) → is_utf8 bs ≡ t → t ≡ false
    go true e = absurd (other (IsUtf8-from_is_utf8 bs e))
    go false e = refl

pub printed_unread : (input : List ℕ) → ¬ IsUtf8 input → printed_asm input ≡ failed Read
printed_unread input other = rw (not_utf8 input other) refl

printed_text : (input text : List ℕ) (read : Result (List ℕ) (ℕ × SyntaxKind)) → text ≡ input → IsUtf8 input → assembled text ≡ read → printed_asm input ≡ printed_assembled read
printed_text input text read same valid e = rw (is_utf8-from_IsUtf8 input valid) (ap (λ (t : List ℕ). printed_assembled (assembled t)) (sym same) ∙ ap printed_assembled e)

pub printed_octets : (input text octets line : List ℕ) → text ≡ input → IsUtf8 input → assembled text ≡ Ok octets → line ≡ hex_line octets → printed_asm input ≡ done line
printed_octets input text octets line same valid read is = printed_text input text (Ok octets) same valid read ∙ ap done (sym is)

pub printed_bad : (input text line : List ℕ) (n : ℕ) (kind : SyntaxKind) → text ≡ input → IsUtf8 input → assembled text ≡ Err (n, kind) → line ≡ syntax_line n kind
    → printed_asm input ≡ record { text = line; status = 1 }
printed_bad input text line n kind same valid read is = printed_text input text (Err (n, kind)) same valid read ∙ ap (λ (t : List ℕ). let printed : Printed = record { text = t; status = 1 } in printed) (sym is)
