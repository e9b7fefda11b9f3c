-- The program `table`: line after line, and entry after entry.
use Rattle.std.proofs.Common.{◌≡◌, ◌⊎◌, ◌∙◌, ◌<◌, ◌≤◌, ℕ, Bool, true, false, cond, List, [], ◌∷◌, ◌++◌, length, take, Option, Some, None, Err, inl, inr, refl, sym, ap, arith, ltb, ltb-true, append_assoc, nat_eq}
use Rattle.std.proofs.Math.Seq.{take-append_seam}
use Rattle.std.proofs.lemmas.List.{append-nil}
use Rattle.std.proofs.lemmas.List.Folds.{concat-append}
use Rattle.std.specs.Io.KnownBytes.{Appends}
use Rattle.std.specs.List.{concat}
use Rattle.std.specs.List.{position_or_len}
use Rattle.h2_spec.specs.Frames.Parse.{Front, One, Parsed, parse_all, parse_first}
use Rattle.h2_spec.specs.Hpack.DynamicTable.{LimitedTable}
use Rattle.h2_spec.specs.Texts.Show.{entry_lines}
use Rattle.h2_spec.proofs.ParseLaws.{Uses, parse_all-step}
use Rattle.h2_cmd_batch.specs.Each.{not_written, printed_after}
use Rattle.h2_cmd_batch.specs.Printing.{OrCutShort, Printed, failed_after}
use Rattle.h2_cmd_batch.specs.TableProgram.{behind_line, command_of, first_line, line_at, line_end, lines_of, obeyed, printed_lines, printed_of, printed_parts, table_parts, table_text, used_to}
use Rattle.h2_cmd_batch.specs.declared.commands.each.PrintFault.{PrintFault}
use Rattle.h2_cmd_batch.specs.declared.commands.each.PrintFault.TheVariants.{Fault, NotWritten}
use Rattle.h2_cmd_batch.specs.declared.fault.BenchFault.TheVariants.{NoMemory}
use Rattle.h2_cmd_batch.proofs.Written.{more-written}

-- ---- lines

-- a line takes at least one octet
used-some : (text : List ℕ) (n : ℕ) (b : Bool) → ltb n (length text) ≡ b → 0 < length text
    → (0 < used_to (cond b (Some n) None) text) × (used_to (cond b (Some n) None) text ≤ length text)
used-some text n true e some = (omega arith, omega (arith, ltb-true n (length text) e))
used-some text n false e some = (some, omega arith)

line-uses : (u : Unit {0}) (text : List ℕ) → Uses text (line_at u text)
unfolding line_at
line-uses u [] = tt
line-uses u (octet ∷ octets) =
    let at = position_or_len (λ o. nat_eq o 10) (octet ∷ octets) in
    used-some (octet ∷ octets) at (ltb at (length (octet ∷ octets))) refl (omega arith)

first-front : (text : List ℕ) → 0 < length text → line_at tt text ≡ One (first_line text) tt (used_to (line_end text) text)
unfolding line_at
first-front [] some = absurd (omega arith)
first-front (octet ∷ octets) some = refl

lines-first : (text : List ℕ) → 0 < length text → lines_of text ≡ first_line text ∷ lines_of (behind_line text)
unfolding lines_of
lines-first text some =
    ap (λ (p : Parsed (Unit {0}) (List ℕ)). p.elements)
    (parse_all-step line_at line-uses tt text ∙ ap (λ (x : Front (Unit {0}) (List ℕ)). parse_first tt text x (λ t rest. parse_all line_at t rest)) (first-front text some))

lines-none : (text : List ℕ) → length text ≤ 0 → lines_of text ≡ []
unfolding lines_of parse_all
lines-none [] none = refl
lines-none (octet ∷ octets) none = absurd (omega arith)

parts-first : (t : LimitedTable) (line : List ℕ) (lines : List (List ℕ)) → printed_parts t (line ∷ lines) ≡ printed_of t (command_of line) ∷ printed_parts (obeyed t (command_of line)) lines
unfolding printed_parts
parts-first t line lines = refl

parts-none : (t : LimitedTable) → printed_parts t [] ≡ entry_lines 62 t.table.entries ∷ []
unfolding printed_parts
parts-none t = refl

-- the parts in a row are what is printed
parts-whole : (t : LimitedTable) (lines : List (List ℕ)) → concat (printed_parts t lines) ≡ printed_lines t lines
unfolding printed_parts printed_lines
parts-whole t [] = append-nil (entry_lines 62 t.table.entries)
parts-whole t (line ∷ lines) = ap (λ (x : List ℕ). printed_of t (command_of line) ++ x) (parts-whole (obeyed t (command_of line)) lines)

pub table-whole : (limit : ℕ) (input : List ℕ) → concat (table_parts limit input) ≡ table_text limit input
unfolding table_text
table-whole limit input = parts-whole (record { table = record { entries = []; max = limit }; limit = limit }) (lines_of input)

-- what was printed of a table's lines: these parts, of these
pub record Wrote (all : List (List ℕ)) (t : LimitedTable) (rest held : List ℕ) (after : Option (List ℕ)) : Type 0 where
  pub parts : List (List ℕ)
  pub written : after ≡ Some (held ++ concat parts)
  pub left : parts ++ printed_parts t (lines_of rest) ≡ all

-- nothing yet
pub wrote-none : (t : LimitedTable) (input held : List ℕ) (after : Option (List ℕ)) → after ≡ Some held → Wrote (printed_parts t (lines_of input)) t input held after
wrote-none t input held after e = record { parts = []; written = e ∙ ap (λ (x : List ℕ). Some x) (sym (append-nil held)); left = refl }

-- a line more
pub wrote-line : (all : List (List ℕ)) (t u : LimitedTable) (text line more held : List ℕ) (before after : Option (List ℕ)) → 0 < length text → line ≡ first_line text → more ≡ behind_line text
    → u ≡ obeyed t (command_of line) → Appends before after (printed_of t (command_of line)) → Wrote all t text held before → Wrote all u more held after
wrote-line all t u text line more held before after some l m o a w =
    let part : List ℕ = printed_of t (command_of line) in
    let next : printed_parts t (lines_of text) ≡ part ∷ printed_parts (obeyed t (command_of line)) (lines_of more)
    = rw (lines-first text some, ← l, ← m) (parts-first t line (lines_of more)) in
    let row : concat (w.parts ++ part ∷ []) ≡ concat w.parts ++ part = concat-append w.parts (part ∷ []) ∙ ap (λ (x : List ℕ). concat w.parts ++ x) (append-nil part) in
    record {
      parts = w.parts ++ part ∷ [];
      written = more-written held (concat w.parts) part (concat (w.parts ++ part ∷ [])) before after w.written a row;
      left = rw o (append_assoc w.parts (part ∷ []) (printed_parts (obeyed t (command_of line)) (lines_of more)) ∙ ap (λ (x : List (List ℕ)). w.parts ++ x) (sym next) ∙ w.left);
    }

-- the entries after all lines
pub wrote-all : (all : List (List ℕ)) (t : LimitedTable) (text held : List ℕ) (before after : Option (List ℕ)) → length text ≤ 0 → Appends before after (entry_lines 62 t.table.entries)
    → Wrote all t text held before → after ≡ Some (held ++ concat all)
wrote-all all t text held before after none a w =
    let entries : List ℕ = entry_lines 62 t.table.entries in
    let last : w.parts ++ entries ∷ [] ≡ all = ap (λ (x : List (List ℕ)). w.parts ++ x) (sym (ap (printed_parts t) (lines-none text none) ∙ parts-none t)) ∙ w.left in
    let row : concat all ≡ concat w.parts ++ entries = ap concat (sym last) ∙ concat-append w.parts (entries ∷ []) ∙ ap (λ (x : List ℕ). concat w.parts ++ x) (append-nil entries) in
    more-written held (concat w.parts) entries (concat all) before after w.written a row

-- memory was refused after some parts
pub wrote-some : (all : List (List ℕ)) (printed : Printed) (t : LimitedTable) (text held : List ℕ) (before after : Option (List ℕ)) (why : PrintFault) → not_written (Err why) ≡ false
    → (why ≡ NotWritten) ⊎ ((why ≡ Fault NoMemory) × (after ≡ before)) → Wrote all t text held before
    → (x : List ℕ) × (after ≡ Some (held ++ x)) × OrCutShort all printed (printed_after x (Err why))
wrote-some all printed t text held before after why well (inl e) w =
    let broken : not_written (Err why) ≡ true = ap (λ (f : PrintFault). not_written (Err f)) e in
    cc
wrote-some all printed t text held before after why well (inr e) w =
    let some : take (length w.parts) all ≡ w.parts = ap (take (length w.parts)) (sym w.left) ∙ take-append_seam w.parts (printed_parts t (lines_of text)) in (
      concat w.parts,
      e.1 ∙ w.written,
      inr (length w.parts, ap (λ (f : PrintFault). printed_after (concat w.parts) (Err f)) e.0 ∙ ap (λ (ps : List (List ℕ)). failed_after (concat ps) NoMemory) (sym some)),
    )
