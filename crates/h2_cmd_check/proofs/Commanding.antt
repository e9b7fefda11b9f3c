-- Commands of a debugger in a case, in the words of the definitions.
use Rattle.std.proofs.Common.{◌≡◌, ◌∙◌, ◌&&◌, ◌<◌, ℕ, Bool, true, false, true≢false, not, List, Option, Some, None, IfSome, is_some, drop, refl, sym, ap, ap₂, subst, eq-eqb, inl, inr, arith}
use Rattle.std.specs.Prelude.{codes, decimal}
use Rattle.std.proofs.lemmas.Fmt.{decimal_injective}
use Rattle.std.proofs.lemmas.List.{append_cancel_right}
use Rattle.h2_debug.specs.Debugging.{Debugging}
use Rattle.h2_debug.specs.Places.{at, cause_at, ignored_at}
use Rattle.h2_debug.specs.Commands.{Command, command_of}
use Rattle.h2_debug.specs.Replies.{Obeys, answer, fault_line, number_line, place_text, reply_text}
use Rattle.h2_debug.specs.declared.commands.reply.Reply.{Reply}
use Rattle.h2_debug.specs.declared.commands.reply.Reply.TheVariants as code
use Rattle.h2_spec.specs.declared.causes.Cause.{Cause}
use Rattle.h2_spec.specs.declared.connection.Phase.{Phase}
use Rattle.h2_spec.specs.declared.connection.Phase.TheVariants.{Preface, Settings, Running, Ended}
use Rattle.h2_spec.specs.declared.ignored.Ignored.{Ignored}
use Rattle.h2_spec.specs.declared.special_cases.SpecialCase.{SpecialCase}
use Rattle.h2_explain_text.specs.Why.{error_why, ignored_why, why_lines}
use Rattle.h2_cmd_check.specs.Cases.{Start, closes, debugger_at, sight_above}
use Rattle.h2_cmd_check.specs.Commands.{answered, fault_in, is_memory_fault, is_refusal}
use Rattle.h2_cmd_cases.specs.Lines as line
use Rattle.h2_cmd_check.specs.ItemsTaken.{seen_by}
use Rattle.h2_cmd_check.specs.Walks.{Begins, Closes, Commands, Finds, Loads, Passes, debugger_for, place_of}
use Rattle.h2_cmd_check.specs.declared.case_debugger.CaseDebugger.TheVariants.{Present}
use Rattle.h2_cmd_check.specs.declared.command.Given.{Given}
use Rattle.h2_cmd_check.specs.declared.walk.Walk.{Walk}
use Rattle.h2_cmd_check.proofs.Going.{closes_is}

-- ---- what is replied

no_refusal : (phase : Phase) (cause : Option Cause) (ignored : Option Ignored) (case : Option SpecialCase) → false ≡ is_refusal (why_lines phase cause ignored case)
unfolding error_why ignored_why
no_refusal (Ended code) (Some cause) ignored case = refl
no_refusal Preface (Some cause) ignored case = refl
no_refusal Settings (Some cause) ignored case = refl
no_refusal Running (Some cause) ignored case = refl
no_refusal phase None (Some reason) case = refl
no_refusal phase None None case = refl

-- a reply is a fault where its text is the line of one
refusal_is : (d : Debugging) (reply : Reply) → is_some (fault_in reply) ≡ is_refusal (reply_text d reply)
unfolding number_line place_text
refusal_is d (code.At position) = refl
refusal_is d code.Done = refl
refusal_is d (code.Refused fault) = refl
refusal_is d code.Shown = refl
refusal_is d (code.Explained case) = no_refusal (at d.run d.position).core.phase (cause_at d.run d.position) (ignored_at d.run d.position) case

-- only one reply is the line of refused memory
number_is : (n m : ℕ) → n < 256 → m < 256 → fault_line n ≡ fault_line m → n ≡ m
unfolding number_line
number_is n m few less e =
    decimal_injective n m (omega arith) (omega arith) (append_cancel_right (decimal n) (decimal m) (codes "\n") (ap (λ (t : List ℕ). drop 6 t) e))

memory_is : (d : Debugging) (reply : Reply) → IfSome (fault_in reply) (λ n. n < 256) → reply_text d reply ≡ fault_line 0 → is_memory_fault (fault_in reply) ≡ true
memory_is d (code.Refused n) few e = eq-eqb n 0 (number_is n 0 few (omega arith) e)
memory_is d (code.At position) few e = absurd (true≢false (sym (refusal_is d (code.At position) ∙ ap is_refusal e ∙ sym (refusal_is d (code.Refused 0)))))
memory_is d code.Done few e = absurd (true≢false (sym (refusal_is d code.Done ∙ ap is_refusal e ∙ sym (refusal_is d (code.Refused 0)))))
memory_is d code.Shown few e = absurd (true≢false (sym (refusal_is d code.Shown ∙ ap is_refusal e ∙ sym (refusal_is d (code.Refused 0)))))
memory_is d (code.Explained case) few e = absurd (true≢false (sym (refusal_is d (code.Explained case) ∙ ap is_refusal e ∙ sym (refusal_is d (code.Refused 0)))))

-- a line was given to a debugger, and memory was not refused
pub line_given : (d after : Debugging) (text : List ℕ) (command : Option Command) (reply : Reply) (fault : Option ℕ) → command ≡ command_of text → Obeys d command (reply_text after reply) after
    → fault ≡ fault_in reply → IfSome fault (λ n. n < 256) → is_memory_fault fault ≡ false → (is_some fault ≡ is_refusal (answered d text).text) × (after ≡ (answered d text).after)
unfolding answered
line_given d after text command reply fault is (inl x) said few well = (
  ap (λ (f : Option ℕ). is_some f) said ∙ refusal_is after reply ∙ ap is_refusal (x.0 ∙ ap (λ (c : Option Command). (answer d c).text) is),
  x.1 ∙ ap (λ (c : Option Command). (answer d c).after) is,
)
line_given d after text command reply fault is (inr x) said few well =
    let small = subst (λ (f : Option ℕ). IfSome f (λ n. n < 256)) said few in
    absurd (true≢false (sym (memory_is after reply small x.1) ∙ ap is_memory_fault (sym said) ∙ well))

-- ---- the debugger of a walk

-- it is that of the place
debugger_is : (start : Start) (given : Given) (w one : Walk) → Begins start given → one.debugger ≡ w.debugger → one.octets ≡ w.octets → debugger_for given one ≡ debugger_at start (place_of w)
debugger_is start given w one b debugger octets = rw (debugger, octets, b.book_is, b.config_is) refl

both : (a b : Bool) → (a && b) ≡ true → (a ≡ true) × (b ≡ true)
both true b e = (refl, e)
both false b e = absurd (true≢false (sym e))

grouped : (a b c : Bool) → ((a && b) && c) ≡ (a && (b && c))
grouped true b c = refl
grouped false b c = refl

-- a line was given to it
pub command_given : (given : Given) (w one : Walk) (text : List ℕ) (d after : Debugging) (fault : Option ℕ) → Loads given w one → one.debugger ≡ Present d
    → (is_some fault ≡ is_refusal (answered d text).text) × (after ≡ (answered d text).after) → Commands given text fault w (record one { spoken = 0; debugger = Present after })
command_given given w one text d after fault l is x =
    let same : d ≡ debugger_for given w = cc (is, l.debugger) in record {
      found = l.found;
      octets = l.octets;
      at = l.at;
      seen = l.seen;
      speaks = l.speaks;
      spoken = refl;
      debugger = ap (λ (e : Debugging). Present e) x.1 ∙ ap (λ (e : Debugging). Present (answered e text).after) same;
      refused = x.0 ∙ ap (λ (e : Debugging). is_refusal (answered e text).text) same;
    }

-- a command was given
pub goes_commanded : (start : Start) (given : Given) (w one two three : Walk) (text : List ℕ) (fault : Option ℕ) → Begins start given → seen_by w.seen ≡ sight_above start (place_of w)
    → Closes w one → Commands given text fault one two → Finds (not (is_some fault)) two three → Passes start (line.Command text) w three
goes_commanded start given w one two three text fault b seen k c f =
    let same = debugger_is start given w one b k.debugger k.octets in
    let refused = c.refused ∙ ap (λ (d : Debugging). is_refusal (answered d text).text) same in record {
      found = f.found ∙ ap₂ (λ (h r : Bool). h && not r) (c.found ∙ k.found ∙ ap (λ (x : Bool). w.holds && x) (closes_is start w seen)) refused
          ∙ grouped w.holds (closes start (place_of w)) (not (is_refusal (answered (debugger_at start (place_of w)) text).text));
      place = λ e.
          let obeyed : not (is_some fault) ≡ true = ap not refused ∙ (both (closes start (place_of w)) (not (is_refusal (answered (debugger_at start (place_of w)) text).text)) e).1 in
          let debugger = f.debugger ∙ c.debugger ∙ ap (λ (d : Debugging). Present (answered d text).after) same in
          rw (f.octets ∙ c.octets ∙ k.octets, f.spoken obeyed ∙ c.spoken, f.speaks ∙ c.speaks ∙ k.speaks, debugger) refl;
    }
