-- Texts that grow by parts of XML.
use Rattle.std.proofs.Common.{◌≡◌, ◌∙◌, ◌++◌, ℕ, List, append_assoc, ap, subst, sym}
use Rattle.h2_cmd_check.specs.JUnit.{xml_as}
use Rattle.h2_cmd_check.specs.Tap.{Gains}
use Rattle.h2_cmd_check.specs.declared.growing.Growing.{Growing}
use Rattle.h2_cmd_check.specs.declared.junit.TapLine.{TapLine}

-- one part, and then another
pub gains-both : (a b : List ℕ) (x y z : Growing) → Gains a x y → Gains b y z → Gains (a ++ b) x z
gains-both a b x y z one two = λ well.
    let second = two well in
    let first = one second.0 in
    (first.0, second.1 ∙ ap (λ (w : List ℕ). w ++ b) first.1 ∙ append_assoc x.octets.items a b)

-- the XML of a line of this kind
pub gains-kind : (k kind : TapLine) (end file shown line : List ℕ) (x y : Growing) → kind ≡ k → Gains (xml_as k end file shown line) x y → Gains (xml_as kind end file shown line) x y
gains-kind k kind end file shown line x y is said = subst (λ (j : TapLine). Gains (xml_as j end file shown line) x y) (sym is) said
