use Rattle.std.proofs.Common.{◌≡◌, ◌∙◌, Ok, ap}
use Rattle.h2_serve.specs.Lines.{end_line}
use Rattle.h2_serve.specs.declared.driving.drive_fault.DriveEnd.{DriveEnd}
use Rattle.h2_serve.specs.declared.driving.drive_fault.DriveEnd.TheVariants.{Goaway}
use Rattle.h2_serve.proofs.lines.EndLineText.write_to.Goals as goal

pub returns-in-Ok-Goaway-clause-octets : goal.returns-in-Ok-Goaway-clause-octets
unfolding end_line
returns-in-Ok-Goaway-clause-octets g c =
    let code : c.in-Ok-Goaway.field-0 ≡ Goaway c.in-Ok-Goaway.code = rw c.in-Ok-Goaway.is at c.in-Ok-Goaway.field-0-is in
    let is : c.args.self.now.end ≡ Ok (Goaway c.in-Ok-Goaway.code) = c.in-Ok-Goaway.is ∙ ap (λ (e : DriveEnd). Ok e) code in
    rw is (rw (c.from.ensures, c.from-in-Ok-Goaway.ensures) at c.write_to-in-Ok-Goaway.ensures.octets)

pub returns-in-Err-clause-octets : goal.returns-in-Err-clause-octets
unfolding end_line
returns-in-Err-clause-octets g c =
    rw c.in-Err.is (rw (c.from.ensures, c.from-in-Err.ensures, c.number.ensures) at c.write_to-in-Err.ensures.octets)
