-- `split` cuts the space in two. Assumes `Logic`.
use Rattle.std.proofs.Common.{◌≡◌, ◌+◌, ◌-◌, ◌%◌, ◌≤◌, List, [], ◌∷◌, ◌++◌, refl, ap, ◌∙◌, arith, w64}
use mir.Syntax.{Fn}
use mir.Val.{Val, vint, vptr}
use base.Logic.{SProp, emp, never, id⊢}
use prog.Wp.{Env, WpFn}
use contract.Monad.{fact, fact_i}
use contract.Running.{tables}
use types.Kit.{‵, raw, ◌⊛◌, prop, at_ret, ◌$◌, ◌∵◌, !, qed, by, move, drop, use0, use1, use2, split, regoal, fsplit, fjoin}
use types.Part.{whole, sub, agg}
use types.Run.{stop, fld, bin, of_opd, no_more, and_then, first, blocks, exec, returns, enter}
use types.ByLocal.{alloc_all, pass_all, free_all, look_at, get, get_in, sets, sets_last, is, env}
use denote.RattleType.{owns}
use denote.RawPtr.{Ptr, block_ptr, in_a_block}
use denote.Signature.{types_at}
use denote.Steps.{nothing, heard}
use denote.Struct.Tuple.{Tuple}
use denote.Triple.Entry.{alive}
use denote.Triple.Walked.{Stays, stay_dropped, walk_of, Goes-dropped}
use Rattle.core.proofs.alloc.Calls.{Goes-blank}
use Rattle.core.proofs.alloc.Shapes.{after}
use Rattle.std_alloc.proofs.Pairs.{pair_of, pair_val}
use Rattle.std.proofs.raw_atomic.Walks.{proved_at, leaves}
use Rattle.linked_list_allocator.proofs.Values.{list_val, list_own, list_told, list_made}
use Rattle.linked_list_allocator.proofs.Nodes.{cuts, resized}
use Rattle.linked_list_allocator.proofs.Walks.{slot_at}
use Rattle.linked_list_allocator.specs.Ownership.{bytes_at}
use Rattle.h2_page.specs.contracts.memory.Memory as memory
use Rattle.h2_page.specs.contracts.memory.Memory.split.{ended, clauses}
use Rattle.h2_page.specs.contracts.memory.Memory.split.Key.{name as #self}
use Rattle.h2_page.proofs.memory.Memory.split.Statement.{statement}
use Rattle.h2_page.proofs.memory.Memory.split.Code as compiled

pub split_spec : {M : Type 1} → statement M
split_spec 𝓤 𝓛 𝓜 𝓡 wired =
    let H = 𝓛.H in
    let En₀ = ended in
    let c = clauses 𝓛 𝓜.mem 𝓡.returns in
    let fn : Fn = compiled.function in
    let stays : Stays En₀.signature.params En₀.kept = (stay_dropped (slot_at 0 En₀.signature.params) En₀.kept.0, (stay_dropped (slot_at 1 En₀.signature.params) En₀.kept.1.0, tt)) in
    let C = (tables 𝓤 H 𝓜 𝓡 𝓡.env).C in
    let Λ = (tables 𝓤 H 𝓜 𝓡 𝓡.env).Λ in
    proved_at 𝓛 En₀ stays c 𝓜 𝓡 (Goes-blank 𝓛 0 (slot_at 0 En₀.signature.params) En₀.kept.0 (λ κs x f. tt), (Goes-dropped 𝓛 0 (slot_at 1 En₀.signature.params) En₀.kept.1.0 (λ κs x f. refl), tt)) #self fn (compiled.unfolded 𝓤 H 𝓜 𝓡 wired) (λ z are.
    let Post : Val → SProp 𝓤 = (walk_of 𝓛 En₀ stays c).post z in
    let a = z.0.3 in
    let vss = z.0.4 in
    let x = a.0 in
    let n = a.1.0 in
    let told = list_told x.ptr vss.0 are.0.0 in
    let Asked : Type 0 = (n % 16 ≡ 0) × (n ≤ x.size) in
    qed 𝓛 ((raw (alive 𝓛 En₀.signature z.0.0 z.0.1) ⊛ ‵ (owns (types_at En₀.signature.params z.0.0) a vss)) ∷ raw (fact 𝓤 Asked) ∷ []) ∵ move ! (1 ∷ []) $ heard ! Asked (λ asked. split ! $ move ! (1 ∷ []) $
    fsplit ! $ fsplit ! $ drop ! $ move ! (1 ∷ []) $ drop ! $ in_a_block ! x.ptr (λ p. bytes_at p x.size) (id⊢ 𝓤 (never 𝓤)) (λ b o at.
    let start : Ptr = block_ptr b o in let next : Ptr = block_ptr b (o + n) in let left = x.size - n in
    use1 𝓛 (‵ (bytes_at start (n + left))) (resized 𝓛 b o x.size (n + left) (omega arith)) $ use1 𝓛 (‵ (bytes_at start n) ⊛ ‵ (bytes_at next left)) (cuts 𝓛 b o n left asked.0) $ split ! $
    regoal ! (λ (us : List Val). prop (WpFn 𝓤 H C Λ fn us Post)) (λ i. (told.0 ∙ ap (λ (p : Ptr). list_val p ∷ []) at) i ++ (are.1.0.0 i ++ [])) refl $
    enter ! C Λ fn (list_val start ∷ vint w64 n ∷ []) Post $
    alloc_all ! (λ l. pass_all ! refl ((tt, (tt, tt)), ((tt, record { fits = are.1.0.1 }), tt)) $ let En : Env 𝓤 𝓛.H = env fn.locals l in
    sets ! (of_opd ! (get_in ! (fld ! refl (stop !)) (sub ! 0 refl (whole !)))) refl (tt, tt) $
    first ! $ blocks ! $
    sets ! (is ! (bin ! (get ! refl) (get ! refl) tt) (ap (vptr b) (omega arith))) refl (tt, tt) $
    sets ! (agg ! (and_then ! (get ! refl) (no_more !))) refl (tt, (tt, tt)) $
    sets ! (agg ! (and_then ! (get ! refl) (no_more !))) refl (tt, (tt, tt)) $
    sets_last ! (agg ! (and_then ! (get ! refl) (and_then ! (get ! refl) (no_more !)))) refl (tt, ((tt, tt), ((tt, tt), tt))) $
    exec ! C Λ En (after 2 fn.body) (at_ret En Post) $
    sets ! (of_opd ! (get ! refl)) refl (tt, ((tt, tt), ((tt, tt), tt))) $
    returns ! (look_at ! 0 refl) $ free_all ! refl $
    let u : (memory.the_row).Denot = record { ptr = start; size = n } in let w : (memory.the_row).Denot = record { ptr = next; size = left } in
    use0 𝓛 (‵ (list_own start (list_val start ∷ []))) (list_made 𝓛 start tt) $ fjoin ! $ move ! (1 ∷ []) $ use0 𝓛 (‵ (list_own next (list_val next ∷ []))) (list_made 𝓛 next tt) $ fjoin ! $ move ! (1 ∷ 0 ∷ []) $
    use2 𝓛 (‵ ((Tuple (memory.the_row ∷ memory.the_row ∷ [])).own_val (u, w) (pair_val (list_val start) (list_val next) ∷ []))) (pair_of 𝓛 (memory.the_row) (memory.the_row) u w (list_val start) (list_val next)) $
    use0 𝓛 (raw (fact 𝓤 ((n ≡ n) × (left ≡ left)))) (fact_i 𝓤 ((n ≡ n) × (left ≡ left)) (emp 𝓤) (refl, refl)) $ nothing ! $ nothing ! $ fjoin ! $ nothing ! $ fjoin ! $ move ! (3 ∷ 0 ∷ 2 ∷ 1 ∷ []) $
    by ! (leaves 𝓛 En₀ stays c z (pair_val (list_val start) (list_val next)) (u, w) (tt, (tt, tt)) (tt, (tt, tt)))))))
