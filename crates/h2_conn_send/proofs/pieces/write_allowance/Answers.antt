use Rattle.std.proofs.Common.{◌≡◌, ◌≤◌, ◌++◌, ◌∙◌, ℕ, List, length, ap, rules, sym, subst}
use Rattle.std.proofs.lemmas.Result.{on_ok_weaker}
use Rattle.h2_spec.specs.Stream.{octets_waiting}
use Rattle.h2_conn_send.specs.Prepared.{content}
use Rattle.h2_conn_send.proofs.KeptLaws.{kept-either}
use Rattle.h2_conn_send.proofs.PreparedLaws.{data-length, data-on_stream, whole-body}
use Rattle.h2_conn_send.proofs.pieces.write_allowance.Goals as goal

pub octets_from-body-requires : goal.octets_from-body-requires
octets_from-body-requires g c = data-length c.args.prepared.now c.requires.made

pub write_prepared-requires : goal.write_prepared-requires
write_prepared-requires g c = λ k. (search rules, data-length c.args.prepared.now c.requires.made)

pub returns-then-body-size : goal.returns-then-body-size
returns-then-body-size g c =
    let a = c.args in
    let st = a.stream.now in
    let body = content a.prepared.now in
    let same : c.octets_from-body.result.now ≡ body = c.octets_from-body.ensures in
    let all : a.allowance ≡ length body = c.if-allowance-body.true ∙ ap length same in
    let fits : length body ≤ a.size = subst (λ (xs : List ℕ). length xs ≤ a.size) same c.if-body-size.true in
    let frames = data-on_stream st.id a.prepared.now c.requires.made ∙ sym (whole-body st.id a.size (octets_waiting st) a.allowance body c.requires.some all c.requires.waits c.requires.left fits) in
    let did = c.write_prepared.ensures in
    record {
      ok = on_ok_weaker c.write_prepared.result (λ sent. sent ∙ ap (λ (xs : List ℕ). (g.O.Outgoing.octets a.out.now) ++ xs) frames) did.ok;
      kept = kept-either c.write_prepared.result (g.O.Outgoing.octets a.out.now) (g.O.Outgoing.octets c.write_prepared.new.out) _ did.ok did.err;
    }
