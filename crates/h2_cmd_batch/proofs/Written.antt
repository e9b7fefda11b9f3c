-- What an output holds after texts were written, and what is reported then.
use Rattle.std.proofs.Common.{◌≡◌, ◌∙◌, ℕ, List, [], ◌++◌, false, Option, Some, None, Result, Ok, Err, OnOk, Bool, is_err, take, refl, sym, ap, subst, inl, inr, append_assoc}
use Rattle.std.specs.List.{concat}
use Rattle.std.specs.Io.KnownBytes.{Appends}
use Rattle.std.proofs.lemmas.List.{append-nil}
use Rattle.h2_cmd_batch.specs.Reports.{Gives, seen}
use Rattle.h2_cmd_batch.specs.Each.{printed_after}
use Rattle.h2_cmd_batch.specs.Printing.{OrCutShort, Printed, done, failed}
use Rattle.h2_cmd_batch.specs.declared.commands.each.PrintFault.{PrintFault}
use Rattle.h2_cmd_batch.specs.declared.commands.each.PrintFault.TheVariants.{Fault}
use Rattle.h2_cmd_batch.specs.declared.fault.BenchFault.{BenchFault}
use Rattle.h2_cmd_batch.specs.declared.fault.BenchFault.TheVariants.{NoMemory}
use Rattle.h2_cmd_batch.specs.declared.report.Report.{Report}

pub appended : (now text : List ℕ) (before after : Option (List ℕ)) → before ≡ Some now → Appends before after text → after ≡ Some (now ++ text)
appended now text before (Some later) e x = ap (λ (t : List ℕ). Some t) (subst (λ (b : Option (List ℕ)). Appends b (Some later) text) e x)
appended now text before None e x = absurd (subst (λ (b : Option (List ℕ)). Appends b None text) e x)

-- a text more is written after those that were
pub more-written : (held done text later : List ℕ) (before after : Option (List ℕ)) → before ≡ Some (held ++ done) → Appends before after text → later ≡ done ++ text → after ≡ Some (held ++ later)
more-written held done text later before after is a e =
    appended (held ++ done) text before after is a ∙ ap (λ (t : List ℕ). Some t) (append_assoc held done text ∙ ap (λ (t : List ℕ). held ++ t) (sym e))

pub unchanged : (held : List ℕ) (after : Option (List ℕ)) → after ≡ Some held → after ≡ Some (held ++ [])
unchanged held after e = e ∙ ap (λ (t : List ℕ). Some t) (sym (append-nil held))

-- a report is what is to be reported, or memory was refused before anything was written
pub given : (r : Result Report BenchFault) (t : Printed) (ps : List (List ℕ)) → Gives r t → OrCutShort ps t (seen r)
given (Ok report) t ps x = inl (sym x)
given (Err fault) t ps (inl memory) = inr (0, ap (λ (f : BenchFault). failed f) memory)
given (Err fault) t ps (inr x) = inl (sym x)

-- the places of a run were written, or some first of them
pub all-places : (ps : List (List ℕ)) (held : List ℕ) (after : Option (List ℕ)) → after ≡ Some (held ++ concat ps)
    → (text : List ℕ) × (after ≡ Some (held ++ text)) × OrCutShort ps (done (concat ps)) (printed_after text (Ok tt))
all-places ps held after e = (concat ps, e, inl refl)

pub some-places : (ps : List (List ℕ)) (held : List ℕ) (after : Option (List ℕ)) → (count : ℕ) × (after ≡ Some (held ++ concat (take count ps)))
    → (text : List ℕ) × (after ≡ Some (held ++ text)) × OrCutShort ps (done (concat ps)) (printed_after text (Err (Fault NoMemory)))
some-places ps held after x = (concat (take x.0 ps), x.1, inr (x.0, refl))

-- a text was written whole where no write failed
pub written-whole : (r : Result (Unit {0}) PrintFault) (text held : List ℕ) (before after : Option (List ℕ)) (broken : Bool) → broken ≡ is_err r → broken ≡ false → OnOk r (Appends before after text) → before ≡ Some held
    → (t : List ℕ) × (after ≡ Some (held ++ t)) × (printed_after t r ≡ done text)
written-whole (Ok u) text held before after broken flag well o is = (text, appended held text before after is o, refl)
written-whole (Err why) text held before after broken flag well o is = cc

-- the last of some parts was written whole where no write failed
pub whole-parts : {A : Type 0} → (r : Result (Unit {0}) PrintFault) (ps : List (List ℕ)) (held : List ℕ) (after : Option (List ℕ)) (broken : Bool) → broken ≡ is_err r → broken ≡ false
    → (A → after ≡ Some (held ++ concat ps)) → OnOk r A → (t : List ℕ) × (after ≡ Some (held ++ t)) × OrCutShort ps (done (concat ps)) (printed_after t r)
whole-parts (Ok u) ps held after broken flag well whole o = (concat ps, whole o, inl refl)
whole-parts (Err why) ps held after broken flag well whole o = cc
