-- The fields that an item shows of its block.
use Rattle.std.proofs.Common.{◌≡◌, ℕ, true, false, cond, ◌+◌, nat_lt, List, ◌++◌, length, Option, Some, None, Result, Ok, Err, refl, sym, ap, ◌∙◌}
use Rattle.std.specs.Prelude.{OnOk}
use Rattle.std.proofs.lemmas.Option.{none-some}
use Rattle.h2_frame.specs.Parts.{part_seen}
use Rattle.h2_frame.specs.declared.payload.Part as code
use Rattle.h2_frame.specs.declared.payload.Part.TheVariants as variants
use Rattle.h2_spec.specs.declared.connection.BlockView.{BlockView}
use Rattle.h2_spec.specs.declared.frames.Head.{Head}
use Rattle.h2_spec.specs.Hpack.Block.{decoded}
use Rattle.h2_spec.specs.Change.{only_shown}
use Rattle.h2_spec.specs.Hpack.Field.{Field}
use Rattle.h2_spec.specs.State.{Decoding, OpenBlock, State}
use Rattle.h2_conn.specs.Blocks.{decoding_of}
use Rattle.h2_conn.specs.Fragments.{before_fragment}
use Rattle.h2_conn.specs.OpenBlocks.{decoding_in}
use Rattle.h2_conn.specs.Shown.{IsOfNoBlock, Shows, fields_at_hand, fields_continued, fields_continued_in, fields_with, part_fields}

-- of what shows no fields nothing is claimed
pub quiet : {T E : Type 0} (r : Result T E) → OnOk r (Unit {0})
quiet (Ok v) = tt
quiet (Err e) = tt

-- a frame that is of no block shows none
pub shows-none : {T E : Type 0} (r : Result T E) (s : State) (h : Head) (part : code.Part) (fields : List Field) → IsOfNoBlock part → OnOk r (Shows (part_fields s h (part_seen part)) fields)
shows-none r s h (variants.Data d) fields other = quiet r
shows-none r s h (variants.Headers x) fields other = absurd other
shows-none r s h variants.Priority fields other = quiet r
shows-none r s h (variants.RstStream code) fields other = quiet r
shows-none r s h (variants.Settings x) fields other = quiet r
shows-none r s h variants.SettingsAck fields other = quiet r
shows-none r s h variants.PushPromise fields other = quiet r
shows-none r s h (variants.Ping octets) fields other = quiet r
shows-none r s h (variants.Goaway last code) fields other = quiet r
shows-none r s h (variants.WindowUpdate increment) fields other = quiet r
shows-none r s h (variants.Continuation fragment) fields other = absurd other
shows-none r s h variants.Unknown fields other = quiet r

-- a fragment that is decoded
pub fields-read : (s : State) (b : BlockView) (d : Decoding) (octets : List ℕ) (fields : List Field) →
    nat_lt 65536 (b.octets + length octets) ≡ false → (decoded s.core.own.table (before_fragment s.table d) (d.rest ++ octets)).progress.fields ≡ fields →
    fields ≡ fields_with s b d octets
fields-read s b d octets fields few is =
    sym (ap (λ t. cond t d.fields (decoded s.core.own.table (before_fragment s.table d) (d.rest ++ octets)).progress.fields) few ∙ is)

-- one that makes its block too large
pub fields-kept : (s : State) (b : BlockView) (d : Decoding) (octets : List ℕ) → nat_lt 65536 (b.octets + length octets) ≡ true → d.fields ≡ fields_with s b d octets
fields-kept s b d octets many =
    sym (ap (λ t. cond t d.fields (decoded s.core.own.table (before_fragment s.table d) (d.rest ++ octets)).progress.fields) many)

-- of a block that is decoded no more the fields are in memory
pub stopped-fields : (b : Option OpenBlock) (memory : List Field) → fields_at_hand (only_shown b) memory ≡ memory
stopped-fields None memory = refl
stopped-fields (Some b) memory = refl

-- a block that goes on shows its fields
pub shows-on : (s : State) (b : Option OpenBlock) (x : BlockView × Decoding) (octets : List ℕ) (fields : List Field) → Some x ≡ decoding_of b → fields ≡ fields_with s x.0 x.1 octets → Shows (fields_continued s b octets) fields
shows-on s None x octets fields h is = absurd (none-some x (sym h))
shows-on s (Some b) x octets fields h is = go b.decoding h
  where
    go : (d : Option Decoding) → Some x ≡ decoding_in b.shown d → Shows (fields_continued_in s b.shown d octets) fields
    go None h = absurd (none-some x (sym h))
    go (Some d) h =
        let same : x ≡ (b.shown, d) = cc in
        is ∙ ap (λ (y : BlockView × Decoding). fields_with s y.0 y.1 octets) same

-- where none goes on, none are shown
pub shows-closed : (s : State) (b : Option OpenBlock) (octets : List ℕ) (fields : List Field) → None ≡ decoding_of b → Shows (fields_continued s b octets) fields
shows-closed s None octets fields h = tt
shows-closed s (Some b) octets fields h = go b.decoding h
  where
    go : (d : Option Decoding) → None ≡ decoding_in b.shown d → Shows (fields_continued_in s b.shown d octets) fields
    go None h = tt
    go (Some d) h = absurd (none-some (b.shown, d) h)
