-- The special case of an item of a run.
use Rattle.std.proofs.Common.{◌≡◌, ◌∙◌, Result, Ok, Err, ◌+◌, ◌-◌, ◌<◌, ◌≤◌, ◌||◌, ◌++◌, ℕ, zero, suc, Bool, true, false, List, [], ◌∷◌, drop, length, Option, Some, None, is_some, refl, sym, ap, arith}
use Rattle.h2_spec.specs.declared.causes.Cause.{Cause}
use Rattle.h2_spec.specs.declared.causes.Cause.TheVariants.{ContinuationOutsideBlock, IntegerTooLong}
use Rattle.h2_spec.specs.declared.ignored.Ignored.{Ignored}
use Rattle.h2_spec.specs.declared.special_cases.SpecialCase.{SpecialCase}
use Rattle.h2_spec.specs.declared.frames.Head.{Head}
use Rattle.h2_spec.specs.Checks.{refusal}
use Rattle.h2_spec.specs.Effect.{block_stream, cause_of}
use Rattle.h2_spec.specs.Frames.Frame.{Got, Item, WholeFrame}
use Rattle.h2_spec.specs.Frames.Payload.{HeadersPart, Part, OfData, OfHeaders, OfPriority, OfRstStream, OfSettings, OfSettingsAck, OfPushPromise, OfPing, OfGoaway, OfWindowUpdate, OfContinuation, OfUnknown, part_of}
use Rattle.h2_spec.specs.Hpack.Field.{Field}
use Rattle.h2_spec.specs.declared.connection.Purpose.{Purpose}
use Rattle.h2_spec.specs.ReactionTable.{Cell, Error, Ignore, Rule, headers_cell}
use Rattle.h2_spec.specs.State.{Decoding, OpenBlock, State}
use Rattle.h2_spec.specs.Texts.View.{shown_block}
use Rattle.h2_spec.specs.Stream.{stream_at}
use Rattle.h2_spec.specs.Trace.{Event, next_item}
use Rattle.h2_conn.specs.Connection.{Connection}
use Rattle.h2_conn.specs.Shown.{Shows, checked_fields, fields_continued, fields_continued_in, fields_opened, item_fields, read_fields}
use Rattle.h2_explain_item.proofs.SpecialLaws.{other-facts}
use Rattle.h2_explain_item.specs.CaseFacts.{facts_by, is_beyond_tables}
use Rattle.h2_explain_item.specs.FieldFacts.{field_facts}
use Rattle.h2_explain_item.specs.declared.diagnosis.field_facts.FieldFacts.{FieldFacts}
use Rattle.h2_explain_item.specs.Special.{case_of_cause, special_reason}
use Rattle.h2_explain_item.specs.declared.diagnosis.special.CaseFacts.{CaseFacts}
use Rattle.h2_explain_item.specs.declared.diagnosis.special.Seen.{Seen}
use Rattle.h2_debug.specs.Cases.{block_octets, case_after, case_at, ends_side, facts_in, fields_or_none, fragment_of, head_after, is_continuation, is_continued, fragment_of_next, is_ended_by, item_after, item_in, kind_at, leaves_ended, open_octets, opens, part_in, seen_in, shown_stream, shows_by, stream_in}
use Rattle.h2_debug.specs.Items.{head_of_item}
use Rattle.h2_debug.specs.Places.{Advances, IsAt, Placed, Source, at, cause_at, end, events, ignored_at}
use Rattle.h2_debug.specs.declared.reasons.Reasons.{Reasons}
use Rattle.h2_debug.proofs.PlaceLaws.{advances-more, place-item}

-- ---- what was before an item

pub continued-next : (r : Source) (p : ℕ) → 0 < p → is_continued r p ≡ is_continuation (head_after r (p - 1))
continued-next r zero some = absurd (omega (arith, some))
continued-next r (suc p) some = let e : suc p - 1 ≡ p = omega arith in ap (λ (n : ℕ). is_continuation (head_after r n)) (sym e)

pub block-next : (r : Source) (p q : ℕ) → q ≡ p + 1 → block_octets r q ≡ open_octets (shown_block (at r p).block) (block_octets r p) ++ fragment_of (item_after r p)
block-next r p q e = let next : q ≡ suc p = omega (arith, e) in rw next refl

pub ended-next : (r : Source) (id p q : ℕ) → q ≡ p + 1
    → is_ended_by r id q ≡ (is_ended_by r id p || leaves_ended (kind_at r id p) (kind_at r id q) (ends_side (shown_block (at r p).block) (head_after r p)))
ended-next r id p q e = let next : q ≡ suc p = omega (arith, e) in rw next refl

-- the octets of the block with those of an item more
pub block-step : (r : Source) (before after : Placed) (b : Bool) (octets now : List ℕ) → IsAt r before → before.position < end r → Advances r before after b → octets ≡ block_octets r before.position
    → now ≡ open_octets (shown_block before.connection.state.block) octets ++ fragment_of_next (next_item before.connection.state (drop before.used r.octets)) → now ≡ block_octets r after.position
block-step r before after b octets now x more advances is step =
    let item = place-item r before x more in
    let state : before.connection.state ≡ at r before.position = ap (λ (c : Connection). c.state) x.goes in
    let next = block-next r before.position after.position (advances-more r before after b advances more).1 in
    let step' = rw (state, item.next, is) at step in
    step' ∙ sym (rw item.after at next)

-- the end of the client's side of a stream with an item more
pub ended-step : (r : Source) (id : ℕ) (before after : Placed) (ended now : Bool) → IsAt r before → IsAt r after → after.position ≡ before.position + 1 → ended ≡ is_ended_by r id before.position
    → now ≡ (ended || leaves_ended (stream_at before.connection.state.core.last before.connection.state.streams id).kind (stream_at after.connection.state.core.last after.connection.state.streams id).kind
    (ends_side (shown_block before.connection.state.block) (head_after r before.position))) → now ≡ is_ended_by r id after.position
ended-step r id before after ended now x y e is step =
    let state : before.connection.state ≡ at r before.position = ap (λ (c : Connection). c.state) x.goes in
    let state' : after.connection.state ≡ at r after.position = ap (λ (c : Connection). c.state) y.goes in
    rw (state, state', is) at step ∙ sym (ended-next r id before.position after.position e)

-- ---- the fields that are shown

pub shows-some : (shown : Option (List Field)) (fields : List Field) → is_some shown ≡ true → Shows shown fields → fields_or_none shown ≡ fields
shows-some None fields some x = cc
shows-some (Some shown) fields some x = sym x

pub shows-none : (shown : Option (List Field)) → is_some shown ≡ false → fields_or_none shown ≡ []
shows-none None none = refl
shows-none (Some shown) none = cc

-- the stream of an open block
pub shown-stream : (b : Option OpenBlock) → shown_stream (shown_block b) ≡ block_stream b
shown-stream None = refl
shown-stream (Some b) = refl

-- HEADERS that open a block show its fields
pub opens-shows : (s : State) (h : Head) (part : HeadersPart) (cell : Cell Purpose) → opens cell ≡ is_some (fields_opened s h part cell)
opens-shows s h part (Error cause) = refl
opens-shows s h part (Ignore reason) = refl
opens-shows s h part (Rule purpose) = refl

-- ---- the special case

-- the item after a place has this special case, whatever is known of the octets of its block and of the end of its stream
pub error-case : (r : Source) (p : ℕ) (place : Placed) (cause : Cause) (continued : Bool) (case : Option SpecialCase) → IsAt r place → p ≡ place.position + 1 → p ≤ end r → cause_at r p ≡ Some cause
    → continued ≡ is_continued r place.position
    → ((item : Item) (used : ℕ) → next_item place.connection.state (drop place.used r.octets) ≡ Got item used → cause_of place.connection.state item ≡ Some cause → (octets : List ℕ) (after_end : Bool)
    → case ≡ case_of_cause cause (seen_in place.connection.state (head_of_item item)) (facts_in continued place.connection.state item octets after_end)) → case ≡ case_at r p
error-case r p place cause continued case x e within is behind known =
    let q : ℕ = place.position in
    let there = place-item r place x (omega (arith, e, within)) in
    let item : Item = there.item in
    let state : place.connection.state ≡ at r q = ap (λ (c : Connection). c.state) x.goes in
    let next : p ≡ suc q = omega (arith, e) in
    let is' : cause_at r (suc q) ≡ Some cause = rw next at is in
    let caused : cause_of (at r q) item ≡ Some cause = ap (λ (y : Reasons). y.cause) (sym there.reasons) ∙ (rw e at is) in
    let known' = rw (state, behind) at known in
    rw next (rw (there.after, is') (known' item there.used there.next caused (block_octets r (suc q)) (is_ended_by r (stream_in (head_of_item item)) q)))

-- an item ahead has this special case, by what is known of it and of its fields
pub ahead-known : (s : State) (continued : Bool) (cause : Cause) (item : Item) (seen : Seen) (part : Option Part) (fields : FieldFacts) (case : Option SpecialCase) → seen ≡ seen_in s (head_of_item item) → part ≡ part_in item
    → (cause ≡ IntegerTooLong → ⊥) → ((cause ≡ ContinuationOutsideBlock → ⊥) → fields ≡ field_facts (fields_or_none (item_fields s item))) → case ≡ case_of_cause cause seen (facts_by continued part fields [] false)
    → (octets : List ℕ) (after_end : Bool) → case ≡ case_of_cause cause (seen_in s (head_of_item item)) (facts_in continued s item octets after_end)
ahead-known s continued cause item seen part fields case saw holds other same is octets after_end =
    rw (saw, holds) at is ∙ other-facts cause (seen_in s (head_of_item item)) continued (part_in item) fields (field_facts (fields_or_none (item_fields s item))) octets after_end other same

-- each position but the last has an item after it
item-there : (es : List Event) (n : ℕ) → n < length es → (item : Item) × (item_in es n ≡ Some item)
item-there [] n less = absurd (omega (arith, less))
item-there (e ∷ es) zero less = (e.item, refl)
item-there (e ∷ es) (suc n) less = item-there es n (omega (arith, less))

-- an integer that is too long, by the octets of its block
pub integer-case : (r : Source) (p q : ℕ) (case : Option SpecialCase) (octets : List ℕ) → p ≡ q + 1 → p ≤ end r → cause_at r p ≡ Some IntegerTooLong → octets ≡ block_octets r p
    → ((s : Seen) (f : CaseFacts) → f.beyond_tables ≡ is_beyond_tables octets → case ≡ case_of_cause IntegerTooLong s f) → case ≡ case_at r p
integer-case r p q case octets e within is block x =
    let there = item-there (events r) q (omega (arith, e, within)) in
    let item : Item = there.0 in
    let after : item_after r q ≡ Some item = there.1 in
    let next : p ≡ suc q = omega (arith, e) in
    let is' : cause_at r (suc q) ≡ Some IntegerTooLong = rw next at is in
    let block' : octets ≡ block_octets r (suc q) = rw next at block in
    rw next (rw (after, is') (x (seen_in (at r q) (head_of_item item)) (facts_in (is_continued r q) (at r q) item (block_octets r (suc q)) (is_ended_by r (stream_in (head_of_item item)) q))
    (ap is_beyond_tables (sym block'))))

pub reason-case : (r : Source) (p q : ℕ) (reason : Ignored) (case : Option SpecialCase) → p ≡ q + 1 → p ≤ end r → cause_at r p ≡ None → ignored_at r p ≡ Some reason
    → case ≡ special_reason reason (is_ended_by r (stream_in (head_after r q)) q) → case ≡ case_at r p
reason-case r p q reason case e within without is x =
    let there = item-there (events r) q (omega (arith, e, within)) in
    let item : Item = there.0 in
    let after : item_after r q ≡ Some item = there.1 in
    let next : p ≡ suc q = omega (arith, e) in
    let without' : cause_at r (suc q) ≡ None = rw next at without in
    let is' : ignored_at r (suc q) ≡ Some reason = rw next at is in
    let x' : case ≡ special_reason reason (is_ended_by r (stream_in (head_of_item item)) q) = rw after at x in
    rw next (rw (after, without', is') x')

none-after : (r : Source) (q : ℕ) (item : Option Item) (cause : Cause) (ignored : Option Ignored) → ((s : Seen) (f : CaseFacts) → case_of_cause cause s f ≡ None) → None ≡ case_after r q item (Some cause) ignored
none-after r q None cause ignored none = refl
none-after r q (Some item) cause ignored none = sym (none _ _)

-- a cause that has no special case
pub no-error-case : (r : Source) (p : ℕ) (cause : Cause) → cause_at r p ≡ Some cause → ((s : Seen) (f : CaseFacts) → case_of_cause cause s f ≡ None) → None ≡ case_at r p
no-error-case r zero cause is none = refl
no-error-case r (suc q) cause is none = rw is (none-after r q (item_after r q) cause (ignored_at r (suc q)) none)

none-ignored : (r : Source) (q : ℕ) (item : Option Item) (reason : Ignored) → ((after_end : Bool) → special_reason reason after_end ≡ None) → None ≡ case_after r q item None (Some reason)
none-ignored r q None reason none = refl
none-ignored r q (Some item) reason none = sym (none _)

-- a reason that has none
pub no-reason-case : (r : Source) (p : ℕ) (reason : Ignored) → cause_at r p ≡ None → ignored_at r p ≡ Some reason → ((after_end : Bool) → special_reason reason after_end ≡ None) → None ≡ case_at r p
no-reason-case r zero reason without is none = refl
no-reason-case r (suc q) reason without is none = rw (without, is) (none-ignored r q (item_after r q) reason none)

no-rule-after : (r : Source) (q : ℕ) (item : Option Item) → None ≡ case_after r q item None None
no-rule-after r q None = refl
no-rule-after r q (Some item) = refl

-- no error, and not ignored
pub no-case : (r : Source) (p : ℕ) → cause_at r p ≡ None → ignored_at r p ≡ None → None ≡ case_at r p
no-case r zero without none = refl
no-case r (suc q) without none = rw (without, none) (no-rule-after r q (item_after r q))

-- a place at which there is an error has an item before it
pub error-later : (r : Source) (p : ℕ) (cause : Cause) → cause_at r p ≡ Some cause → 0 < p
error-later r zero cause is = cc
error-later r (suc p) cause is = omega arith

pub reason-later : (r : Source) (p : ℕ) (reason : Ignored) → ignored_at r p ≡ Some reason → 0 < p
reason-later r zero reason is = cc
reason-later r (suc p) reason is = omega arith

-- ---- CONTINUATION

-- where the open block is decoded no more, its cause is that no block is open
pub stopped-cause : (s : State) (h : Head) (p fragment : List ℕ) (b : OpenBlock) → refusal (block_stream s.block) s.core.phase h ≡ None → part_of h p ≡ Ok (OfContinuation fragment)
    → s.block ≡ Some b → b.decoding ≡ None → cause_of s (WholeFrame h p) ≡ Some ContinuationOutsideBlock
unfolding cause_of
stopped-cause s h p fragment b passed read is none = rw (passed, read, is, none) refl

-- where CONTINUATION is an error of another cause, its fields are shown
pub continued-shows : (s : State) (h : Head) (p fragment : List ℕ) (b : OpenBlock) (d : Option Decoding) (cause : Cause) → refusal (block_stream s.block) s.core.phase h ≡ None
    → part_of h p ≡ Ok (OfContinuation fragment) → s.block ≡ Some b → b.decoding ≡ d → cause_of s (WholeFrame h p) ≡ Some cause → (cause ≡ ContinuationOutsideBlock → ⊥)
    → true ≡ is_some (fields_continued_in s b.shown d fragment)
continued-shows s h p fragment b (Some d) cause passed read at is error other = refl
continued-shows s h p fragment b None cause passed read at is error other =
    let known = stopped-cause s h p fragment b passed read at is in
    let same : cause ≡ ContinuationOutsideBlock = cc in
    absurd (other same)

module _ (s : State) (h : Head) (p : List ℕ) (cause : Cause) (is : cause_of s (WholeFrame h p) ≡ Some cause) (other : cause ≡ ContinuationOutsideBlock → ⊥) where
  continues : (fragment : List ℕ) (block : Option OpenBlock) → refusal (block_stream s.block) s.core.phase h ≡ None → part_of h p ≡ Ok (OfContinuation fragment) → s.block ≡ block
      → is_some (shown_block block) ≡ is_some (fields_continued s block fragment)
  continues fragment None passed read at = refl
  continues fragment (Some b) passed read at = continued-shows s h p fragment b b.decoding cause passed read at refl is other

  -- a payload, where the head has passed the checks
  read-shows : (part : Result Part Cause) → refusal (block_stream s.block) s.core.phase h ≡ None → part_of h p ≡ part
      → shows_by (opens (headers_cell h.stream (stream_at s.core.last s.streams h.stream).kind)) (is_some (shown_block s.block)) part ≡ is_some (read_fields s h part)
  read-shows (Err cause) passed read = refl
  read-shows (Ok (OfData part)) passed read = refl
  read-shows (Ok (OfHeaders part)) passed read = opens-shows s h part (headers_cell h.stream (stream_at s.core.last s.streams h.stream).kind)
  read-shows (Ok OfPriority) passed read = refl
  read-shows (Ok (OfRstStream error)) passed read = refl
  read-shows (Ok (OfSettings pairs)) passed read = refl
  read-shows (Ok OfSettingsAck) passed read = refl
  read-shows (Ok OfPushPromise) passed read = refl
  read-shows (Ok (OfPing octets)) passed read = refl
  read-shows (Ok (OfGoaway last error)) passed read = refl
  read-shows (Ok (OfWindowUpdate increment)) passed read = refl
  read-shows (Ok (OfContinuation fragment)) passed read = continues fragment s.block passed read refl
  read-shows (Ok OfUnknown) passed read = refl

  -- a frame whose head is refused shows none
  pub refused-shows : is_some (refusal (block_stream s.block) s.core.phase h) ≡ true → false ≡ is_some (item_fields s (WholeFrame h p))
  refused-shows refused = by (refusal (block_stream s.block) s.core.phase h) refused
    where
      by : (why : Option Cause) → is_some why ≡ true → false ≡ is_some (checked_fields s h p why)
      by None some = cc
      by (Some why) some = refl

  pub passed-shows : is_some (refusal (block_stream s.block) s.core.phase h) ≡ false
      → shows_by (opens (headers_cell h.stream (stream_at s.core.last s.streams h.stream).kind)) (is_some (shown_block s.block)) (part_of h p) ≡ is_some (item_fields s (WholeFrame h p))
  passed-shows passed = by (refusal (block_stream s.block) s.core.phase h) refl passed
    where
      by : (why : Option Cause) → refusal (block_stream s.block) s.core.phase h ≡ why → is_some why ≡ false
          → shows_by (opens (headers_cell h.stream (stream_at s.core.last s.streams h.stream).kind)) (is_some (shown_block s.block)) (part_of h p) ≡ is_some (checked_fields s h p why)
      by None e none = read-shows (part_of h p) e refl
      by (Some why) e none = cc
