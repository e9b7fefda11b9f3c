-- What an explainer has read of the client's blocks.
use Rattle.std.specs.Prelude.{◌≡◌}
use Rattle.h2_explain_step.specs.declared.explainer.ItemExplainer.{ItemExplainer}

-- the reader of blocks, the memory that the fields of the last block are in, and whether long texts are shown whole are as
-- they were
abbrev pub KeepsReader : {A : Type 0} → ItemExplainer A → ItemExplainer A → Type 0
KeepsReader before after = (after.reader ≡ before.reader) × (after.memory ≡ before.memory) × (after.is_full ≡ before.is_full)

-- the same, and the client's header table
abbrev pub KeepsTable : {A : Type 0} → ItemExplainer A → ItemExplainer A → Type 0
KeepsTable before after = (after.reader ≡ before.reader) × (after.memory ≡ before.memory) × (after.is_full ≡ before.is_full) × (after.table ≡ before.table)
