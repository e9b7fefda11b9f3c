use Rattle.std.proofs.Common.{◌≡◌, ◌++◌, drop, flat_map, string_bytes}
use Rattle.h2_spec.specs.Texts.Written.{character_text}
use Rattle.h2_script.proofs.text.push_characters.Given as goal

abbrev pub invariant-loop-octet : goal.invariant-loop-octet
invariant-loop-octet g l = string_bytes l.out ++ flat_map character_text (drop l.octet-index l.text) ≡ string_bytes l.initial.out ++ flat_map character_text l.text
