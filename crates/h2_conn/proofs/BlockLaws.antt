-- The stream of an open block, and what becomes of it at the block's end.
use Rattle.std.proofs.Common.{◌≡◌, ℕ, ◌%◌, ◌<◌, ◌≤◌, Bool, true, false, cond, eqb, ltb, length, List, Option, Some, None, max, nat_lt, refl, ap, ◌∙◌, arith}
use Rattle.std.specs.Option.{option_map}
use Rattle.h2_spec.specs.declared.connection.Config.{Config}
use Rattle.h2_spec.specs.declared.connection.ConnectionState.{ConnectionState}
use Rattle.h2_spec.specs.declared.reactions.BlockSummary.{BlockSummary}
use Rattle.h2_spec.specs.declared.streams.StreamState.{StreamState}
use Rattle.h2_spec.specs.declared.streams.StreamState.TheVariants.{Idle, WeReset}
use Rattle.h2_spec.specs.declared.streams.Stream.{Stream}
use Rattle.h2_spec.specs.Requests.Answer.{Entry, picked}
use Rattle.h2_spec.specs.Hpack.Block.{list_size}
use Rattle.h2_spec.specs.Hpack.Field.{Field}
use Rattle.h2_spec.specs.Requests.Headers.{max_list, request_summary, request_outcome}
use Rattle.h2_spec.specs.Requests.Request.{malformed, request_cause, request_fault}
use Rattle.h2_spec.specs.Stream.{Records, kind_of, not_live, record_of, recorded, stream_at}
use Rattle.h2_streams.specs.Put.{CanPut, can_become}
use Rattle.h2_conn.proofs.RequestOutcomeLaws.{large-turn, malformed-turn}

-- a live or closed stream is not above the last one that was opened
recorded-within : (last id : ℕ) (streams : List Stream) (now : StreamState) → can_become (kind_of last streams id) now ≡ true → id ≤ last
unfolding stream_at
recorded-within last id streams now h = by_tests (eqb (id % 2) 0) (ltb last id) refl h
  where
    by_tests : (s t : Bool) → ltb last id ≡ t → can_become (cond s (not_live id Idle) (cond t (not_live id Idle) (recorded id (record_of streams id)))).kind now ≡ true → id ≤ last
    by_tests true t e g = absurd (let g : false ≡ true = g in cc)
    by_tests false true e g = absurd (let g : false ≡ true = g in cc)
    by_tests false false e g = grind (arith, e)

-- so the server may reset it, and no stream is opened by that
pub reset-put : (r : Records) (id : ℕ) → can_become (kind_of r.last r.streams id) WeReset ≡ true → CanPut (not_live id WeReset) r × (r.last ≡ max r.last id)
reset-put r id h =
    let within = recorded-within r.last id r.streams WeReset h in
    ((λ above. absurd (omega (arith, above, within)), λ below. h), omega (arith, within))

-- a client's stream above the others opens
pub opening-put : (r : Records) (id : ℕ) (st : Stream) → r.last < id → id % 2 ≡ 1 → st.id ≡ id → CanPut st r × (id ≡ max r.last st.id)
opening-put r id st above odd same = ((λ over. ap (λ n. n % 2) same ∙ odd, λ within. absurd (omega (arith, above, within, same))), omega (arith, above, same))

-- facts that agree with those of the fields as far as these are looked at do the same: a list that is too large is
-- refused whatever its fields are
pub same-opening : (book : List Entry) (config : Config) (live : ℕ) (core : ConnectionState) (id : ℕ) (ends : Bool) (fields : List Field) (f : BlockSummary) →
    f.size ≡ list_size fields → (nat_lt max_list f.size ≡ false → f.malformed ≡ request_fault fields) → (nat_lt max_list f.size ≡ false → malformed fields ≡ None → f ≡ request_summary book fields) →
    request_outcome config live (length (picked book f.pick).body) (picked book f.pick).early core id ends f ≡ (let g = request_summary book fields in request_outcome config live (length (picked book g.pick).body) (picked book g.pick).early core id ends g)
same-opening book config live core id ends fields f size bad well = by_size (nat_lt max_list f.size) refl
  where
    Same : Type 0
    Same = request_outcome config live (length (picked book f.pick).body) (picked book f.pick).early core id ends f ≡ (let g = request_summary book fields in request_outcome config live (length (picked book g.pick).body) (picked book g.pick).early core id ends g)

    at : nat_lt max_list f.size ≡ false → (o : Option ℕ) → malformed fields ≡ o → Same
    at small None e = ap (λ (g : BlockSummary). request_outcome config live (length (picked book g.pick).body) (picked book g.pick).early core id ends g) (well small e)
    at small (Some k) e =
        let g = request_summary book fields in
        malformed-turn config live (length (picked book f.pick).body) (length (picked book g.pick).body) (picked book f.pick).early (picked book g.pick).early core id ends f g (request_cause k) size (bad small ∙ ap (option_map request_cause) e) (ap (option_map request_cause) e)

    by_size : (large : Bool) → nat_lt max_list f.size ≡ large → Same
    by_size true e =
        let g = request_summary book fields in
        large-turn config live (length (picked book f.pick).body) (length (picked book g.pick).body) (picked book f.pick).early (picked book g.pick).early core id ends f g size e
    by_size false e = at e (malformed fields) refl
