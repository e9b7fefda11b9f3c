-- What the answer of a call says, by whether it is Ok.
use Rattle.std.proofs.Common.{◌≡◌, ◌≢◌, Bool, true, false, Result, Ok, Err, OnOk, OnErr, is_ok, refl, ap, ◌∙◌, sym}
use Rattle.std.specs.Result.{is_err, result_eq}
use Rattle.h2_hpack_instruction.specs.declared.fault.BlockFault.{BlockFault}

-- a fact of an answer, where the code has tested it
pub on_ok : {T E P : Type 0} (r : Result T E) → false ≡ is_err r → OnOk r P → P
on_ok (Ok x) e h = h
on_ok (Err y) e h = absurd cc

pub on_err : {T E P : Type 0} (r : Result T E) → true ≡ is_err r → OnErr r P → P
on_err (Ok x) e h = absurd cc
on_err (Err y) e h = h

-- what an answer that is Ok says, with that it is Ok
pub ok_also : (r : Result (Unit {0}) BlockFault) (P Q : Type 0) → (is_ok r ≡ true → P → Q) → OnOk r P → OnOk r Q
ok_also (Ok u) P Q f h = f refl h
ok_also (Err fault) P Q f h = tt

-- what the test of an answer for a fault says, where it is no such fault
pub other_err : (E : Unit {0} → Unit {0} → Bool) (F : BlockFault → BlockFault → Bool) (r : Result (Unit {0}) BlockFault) (f : BlockFault) → F f f ≡ true → false ≡ result_eq E F r (Err f) → r ≢ Err f
other_err E F r f k e h = let clash : false ≡ true = e ∙ ap (λ x. result_eq E F x (Err f)) h ∙ k in cc

-- what holds in any case
pub if_err : {T E : Type 0} (r : Result T E) (P : Type 0) → P → OnErr r P
if_err (Ok x) P h = tt
if_err (Err y) P h = h
