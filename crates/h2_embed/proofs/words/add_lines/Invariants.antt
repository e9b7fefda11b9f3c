use Rattle.std.proofs.Common.{◌≡◌, drop, map}
use Rattle.h2_embed.specs.Embed.{words_from}
use Rattle.h2_embed.proofs.words.add_lines.Given as goal

abbrev pub invariant-loop-line : goal.invariant-loop-line
invariant-loop-line l = words_from l.words (map (λ t. t.now) (drop l.line-index l.lines)) ≡ words_from l.fn.words (map (λ t. t.now) l.lines)
