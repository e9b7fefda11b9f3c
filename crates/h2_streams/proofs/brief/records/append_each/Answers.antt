use Rattle.std.proofs.Common.{◌≡◌, ◌+◌, ◌-◌, ◌∙◌, ◌++◌, [], ◌∷◌, List, ap, append-nil, append_assoc, arith, length, length-append, map, sym, take}
use Rattle.std.proofs.lemmas.List.{map-append, take_all, take_more}
use Rattle.h2_spec.specs.declared.streams.Stream.{Stream}
use Rattle.h2_streams.specs.Brief.{brief, briefs_from, id_at}
use Rattle.h2_streams.proofs.BriefLaws.{briefs-push}
use Rattle.h2_streams.proofs.brief.records.append_each.Goals as goal

pub loop-stream-init : goal.loop-stream-init
loop-stream-init g c = record {
  items = sym (append-nil (briefs_from 0 c.args.runs.now.items c.args.kinds.now.items));
  ends = c.requires.ends.0;
  end_is = c.requires.ends.1;
  kinds = omega (arith, c.requires.kinds);
  runs = omega (arith, c.requires.runs);
}

pub loop-stream-preserved : goal.loop-stream-preserved
loop-stream-preserved g c =
    let i = c.loop-stream.stream-index in
    let st = c.stream-item.result in
    let more = c.args.more.now in
    let kinds = c.loop-stream.kinds.items in
    let before = briefs_from 0 c.args.runs.now.items c.args.kinds.now.items in
    let longer = length-append kinds (st.kind ∷ []) in
    let many = ap length c.push_reserved.ensures.items in
    let end : c.len.result ≡ length kinds + 1 = omega (arith, c.len.ensures, longer, many) in
    let last : id_at c.append_id.new.runs.items (length kinds) ≡ st.id = let at : c.len.result - 1 ≡ length kinds = omega (arith, end) in ap (id_at c.append_id.new.runs.items) (sym at) ∙ c.append_id.ensures.last in
    let pushed = briefs-push c.loop-stream.runs.items c.append_id.new.runs.items kinds st.id st.kind (λ p l. c.append_id.ensures.before p (omega (arith, l, end))) last in
    let taken : take (i + 1) more ≡ take i more ++ st ∷ [] = take_more more i st c.loop-stream-test.true ∙ ap (λ (x : Stream). take i more ++ x ∷ []) (sym c.stream-item.is) in
    record {
      items = ap (briefs_from 0 c.append_id.new.runs.items) c.push_reserved.ensures.items ∙ pushed ∙ ap (λ (rs : List Stream). rs ++ brief st ∷ []) c.loop-stream.invariant.items
          ∙ append_assoc before (map brief (take i more)) (brief st ∷ []) ∙ ap (λ (rs : List Stream). before ++ rs) (sym (map-append brief (take i more) (st ∷ [])) ∙ ap (map brief) (sym taken));
      ends = c.append_id.ensures.ends.0;
      end_is = c.append_id.ensures.ends.1 ∙ end ∙ sym (many ∙ longer);
      kinds = omega (arith, c.loop-stream.invariant.kinds, many, longer, c.push_reserved.ensures.capacity);
      runs = omega (arith, c.loop-stream.invariant.runs, c.append_id.ensures.len, c.append_id.ensures.capacity);
    }

pub returns : goal.returns
returns g c =
    let whole : take c.loop-stream.stream-index c.args.more.now ≡ c.args.more.now = take_all c.loop-stream.stream-index c.args.more.now (omega (arith, c.loop-stream-test.false)) in
    record {
      items = c.loop-stream.invariant.items ∙ ap (λ (rs : List Stream). briefs_from 0 c.args.runs.now.items c.args.kinds.now.items ++ map brief rs) whole;
      ends = (c.loop-stream.invariant.ends, c.loop-stream.invariant.end_is);
    }
