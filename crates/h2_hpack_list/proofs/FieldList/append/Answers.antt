use Rattle.std.proofs.Common.{arith, ◌≡◌, ℕ, List, ◌++◌, ◌∷◌, [], length, take, drop, ap, ◌∙◌}
use Rattle.std.proofs.lemmas.List.{length-append}
use Rattle.std.proofs.Math.Seq.{take-append_seam, drop-append_seam}
use Rattle.std.proofs.lemmas.Result.{IfOk-equal, IfOk-from_err, MatchResult-from_err, on_err_weaker}
use Rattle.h2_spec.specs.Hpack.Field.{Field, field}
use Rattle.h2_hpack_list.specs.Listed.{Listed}
use Rattle.h2_hpack_list.proofs.FieldList.append.Goals as goal

abbrev listed : List Field → List ℕ → Listed
listed fields next = record { fields = fields; next = next }

-- the list with the octets of a name and then those of a value as the next field, instead of any others
put-both : (old none named valued : Listed) (name value : List ℕ) → none ≡ listed old.fields [] → named ≡ listed none.fields (none.next ++ name) → valued ≡ listed named.fields (named.next ++ value) → valued ≡ listed old.fields (name ++ value)
put-both old none named valued name value e k h =
    h
    ∙ ap (λ (l : Listed). listed l.fields (l.next ++ value)) k
    ∙ ap (λ (l : Listed). listed l.fields ((l.next ++ name) ++ value)) e

-- and that next field as a field
closed : (old valued : Listed) (name value : List ℕ) → valued ≡ listed old.fields (name ++ value) → listed (valued.fields ++ field (take (length name) valued.next) (drop (length name) valued.next) ∷ []) [] ≡ listed (old.fields ++ field name value ∷ []) []
closed old valued name value e =
    ap (λ (l : Listed). listed (l.fields ++ field (take (length name) l.next) (drop (length name) l.next) ∷ []) []) e
    ∙ ap (λ n. listed (old.fields ++ field n (drop (length name) (name ++ value)) ∷ []) []) (take-append_seam name value)
    ∙ ap (λ v. listed (old.fields ++ field name v ∷ []) []) (drop-append_seam name value)

pub returns-in_err-put-clause-ok : goal.returns-in_err-put-clause-ok
returns-in_err-put-clause-ok g c = IfOk-from_err c.from_residual.result _ c.from_residual.ensures.0

pub returns-in_err-put-clause-err : goal.returns-in_err-put-clause-err
returns-in_err-put-clause-err g c = MatchResult-from_err c.from_residual.result _ _ c.from_residual.ensures.0 (λ _. ap (λ (l : Listed). l.fields) (c.in_err-put.ensures.err ∙ c.clear_next.ensures))

pub returns-in_err-put-2-clause-ok : goal.returns-in_err-put-2-clause-ok
returns-in_err-put-2-clause-ok g c = IfOk-from_err c.from_residual-in_err-put-2.result _ c.from_residual-in_err-put-2.ensures.0

pub returns-in_err-put-2-clause-err : goal.returns-in_err-put-2-clause-err
returns-in_err-put-2-clause-err g c =
    let same = ap (λ (l : Listed). l.fields) c.in_err-put-2.ensures.err ∙ ap (λ (l : Listed). l.fields) c.in_ok-put.ensures.ok ∙ ap (λ (l : Listed). l.fields) c.clear_next.ensures in
    MatchResult-from_err c.from_residual-in_err-put-2.result _ _ c.from_residual-in_err-put-2.ensures.0 (λ _. same)

pub close-requires : goal.close-requires
close-requires g c =
    let name = c.args.name.now in
    let value = c.args.value.now in
    let both = put-both c.args.self.now c.clear_next.new.self c.put.new.self c.put-2.new.self name value c.clear_next.ensures c.in_ok-put.ensures.ok c.in_ok-put-2.ensures.ok in
    record { within = omega (arith, ap (λ (l : Listed). length l.next) both, length-append name value) }

pub returns-clause-ok : goal.returns-clause-ok
returns-clause-ok g c =
    let name = c.args.name.now in
    let value = c.args.value.now in
    let both = put-both c.args.self.now c.clear_next.new.self c.put.new.self c.put-2.new.self name value c.clear_next.ensures c.in_ok-put.ensures.ok c.in_ok-put-2.ensures.ok in
    IfOk-equal c.close.result _ _ _ c.close.ensures.ok (closed c.args.self.now c.put-2.new.self name value both)

pub returns-clause-err : goal.returns-clause-err
returns-clause-err g c =
    let name = c.args.name.now in
    let value = c.args.value.now in
    let both = put-both c.args.self.now c.clear_next.new.self c.put.new.self c.put-2.new.self name value c.clear_next.ensures c.in_ok-put.ensures.ok c.in_ok-put-2.ensures.ok in
    on_err_weaker c.close.result (λ e. ap (λ (l : Listed). l.fields) (e ∙ both)) c.close.ensures.err
