use Rattle.std.proofs.Common.{◌≡◌, ◌∙◌, ◌<◌, ◌≤◌, ℕ, List, ap, inl, inr, le-ltb, length, lt-ltb, refl}
use Rattle.h2_spec.specs.Requests.Answer.{Entry}
use Rattle.h2_cmd_args.specs.Grammar.{BatchAsked}
use Rattle.h2_cmd_args.specs.Plans.{batch_asked}
use Rattle.h2_cmd_batch.specs.Input.{most}
use Rattle.h2_cmd_batch.specs.Printing.{OrCutShort, Printed, failed}
use Rattle.h2_cmd_batch.specs.Printed.{places, places_read, printed, printed_read}
use Rattle.h2_cmd_batch.specs.declared.fault.BenchFault.{BenchFault}
use Rattle.h2_cmd_batch.specs.declared.fault.BenchFault.TheVariants.{Read}
use Rattle.h2_cmd_batch.proofs.batch.answer.Goals as goal

too-long : (book : List Entry) (asked : BatchAsked) (octets : List ℕ) → most < length octets → failed Read ≡ printed_read book asked octets
too-long book asked octets h = rw (lt-ltb most (length octets) h) refl

read-whole : (book : List Entry) (asked : BatchAsked) (octets known : List ℕ) (t : Printed) → length octets ≤ most → octets ≡ known
    → OrCutShort (places book asked octets) (printed book asked octets) t → OrCutShort (places_read book asked known) (printed_read book asked known) t
read-whole book asked octets known t within same x = rw (← same, le-ltb most (length octets) within) x

pub returns-in-Ok-clause-printed : goal.returns-in-Ok-clause-printed
returns-in-Ok-clause-printed g c = λ well held is.
    let x = c.print_input.ensures.printed well held is in (
      x.0,
      inr (inr (
        c.in-Ok.ensures.well,
        λ known is_known.
            read-whole c.args.book.now (batch_asked c.args.batch.now) c.in-Ok.octets.items known x.0 c.in-Ok.ensures.within (c.in-Ok.ensures.ok known is_known) x.1,
      )),
      x.2,
    )

pub returns-in-Err-clause-printed : goal.returns-in-Err-clause-printed
returns-in-Err-clause-printed g c = λ well held is. (
  failed c.in-Err.fault,
  elim c.in-Err.ensures.err [
    | inl memory ↦ inl (ap (λ (f : BenchFault). failed f) memory.0, memory.1)
    | inr unread ↦ inr (elim unread.1 [
      | inl broken ↦ inl (broken, ap (λ (f : BenchFault). failed f) unread.0)
      | inr long ↦ inr (long.0, λ octets known. inl (ap (λ (f : BenchFault). failed f) unread.0 ∙ too-long c.args.book.now (batch_asked c.args.batch.now) octets (long.1 octets known)))
    ])
  ],
  c.print_fault.ensures.printed well held is,
)
