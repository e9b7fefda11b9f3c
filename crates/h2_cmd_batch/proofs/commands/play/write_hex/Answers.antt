use Rattle.std.proofs.Common.{◌≡◌, ◌++◌, ◌∙◌, ℕ, List, ◌==◌, ap, arith, sym, drop, length, take}
use Rattle.std.proofs.KnownBytes.{Appends-trans}
use Rattle.std.proofs.lemmas.List.{nil_from_length, take-append-drop}
use Rattle.std.proofs.lemmas.Bool.Decides.{nat_tests}
use Rattle.hex.specs.Hex.{encode_lower}
use Rattle.h2_io.proofs.Appending.{appends-same}
use Rattle.h2_io.proofs.HexTexts.{hex-append, hex-none, text-end, text-next}
use Rattle.h2_cmd_batch.proofs.commands.play.write_hex.Goals as goal

pub loop-sent-preserved : goal.loop-sent-preserved
loop-sent-preserved g c =
    let so_far = c.loop-sent.invariant.spelled in
    let sent = c.loop-sent.sent in
    let front = c.front-front.result.now in
    let n = length front in
    let cut : encode_lower sent ≡ encode_lower front ++ encode_lower (drop n sent) =
    ap encode_lower (sym (take-append-drop n sent)) ∙ hex-append (take n sent) (drop n sent)
    ∙ ap (λ (xs : List ℕ). encode_lower xs ++ encode_lower (drop n sent)) (sym c.front-front.ensures.first) in
    let rest : c.remove_front.new.self ≡ drop n sent = c.remove_front.ensures in
    record {
      well = c.in_ok-write_to.ensures.flag;
      name = c.write_to.ensures.name ∙ c.loop-sent.invariant.name;
      spelled = (
        so_far.0 ++ encode_lower front,
        Appends-trans _ _ _ _ _ so_far.1 c.in_ok-write_to.ensures.octets,
        text-next so_far.0 _ _ _ _ (cut ∙ ap (λ (xs : List ℕ). encode_lower front ++ encode_lower xs) (sym rest)) so_far.2,
      );
    }

pub returns-clause-octets : goal.returns-clause-octets
returns-clause-octets g c =
    let so_far = c.loop-sent.invariant.spelled in
    let is : c.is_empty.result ≡ (length c.loop-sent.sent == 0) = c.is_empty.ensures in
    let done = c.loop-sent-test.false in
    let nothing : length c.loop-sent.sent ≡ 0 = grind (arith, nat_tests, is, done) in
    let none = nil_from_length c.loop-sent.sent nothing in
    appends-same _ _ _ _ (text-end so_far.0 _ _ (ap encode_lower none ∙ hex-none) so_far.2) so_far.1
