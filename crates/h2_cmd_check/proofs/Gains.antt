-- A text that gained one part and then another.
use Rattle.std.proofs.Common.{◌∙◌, ◌++◌, List, ℕ, ap, append_assoc}
use Rattle.h2_cmd_check.specs.Tap.{Gains, GainsSome}
use Rattle.h2_cmd_check.specs.declared.growing.Growing.{Growing}

pub gains_both : (t u : List ℕ) (a b c : Growing) → Gains t a b → Gains u b c → Gains (t ++ u) a c
gains_both t u a b c x y = λ well.
    let two = y well in
    let one = x two.0 in
    (one.0, two.1 ∙ ap (λ (r : List ℕ). r ++ u) one.1 ∙ append_assoc a.octets.items t u)

pub gains_some : (t : List ℕ) (a b : Growing) → Gains t a b → GainsSome a b
gains_some t a b x = λ well. ((x well).0, (t, (x well).1))
