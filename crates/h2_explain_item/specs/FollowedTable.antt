-- The client's header table as it is followed: by the fields of its blocks, each with its spelling, and by the table size
-- updates in front of them; what they enter, and what they evict (RFC 7541, 2.3.2 and 4).
use Rattle.std.specs.Prelude.{◌≡◌, ℕ, ◌+◌, ◌-◌, Bool, true, false, List, [], ◌∷◌, ◌++◌, length, take, drop, nat_le, nat_lt, if◌then◌else◌, Option, Some, None, option_map, slice_get}
use Rattle.h2_spec.specs.Hpack.DynamicTable.{LimitedTable, Table, field_at, fit, insert, resize}
use Rattle.h2_spec.specs.Hpack.Field.{Field, size}
use Rattle.h2_spec.specs.Hpack.Instruction.{IncrementalIndexing, WithoutIndexing, NeverIndexed}
use Rattle.h2_explain_words.specs.Spelled.{Spelling, ByIndex, AsLiteral}
use Rattle.h2_explain_item.specs.declared.change.header_table.EvictedBy.{EvictedBy}
use Rattle.h2_explain_item.specs.ShownBlock.{BlocksRead, Spelled, shown_fields, spelled, up_to_64_bits}

-- an entry that was entered, else evicted
pub record EntryListed : Type 0 where
  pub is_entered : Bool
  pub entry : Field

-- what evicts: an item of this number, by the entry of this name or by a table size update
pub record Evictor : Type 0 where
  pub item : ℕ
  pub by : Option (List ℕ)

-- that of the code
abbrev pub evictor_seen : EvictedBy → Evictor
evictor_seen e = record { item = e.item; by = option_map (λ x. x.now) e.name }

-- an entry that was evicted, and what evicted it
pub record EntryGone : Type 0 where
  pub entry : Field
  pub evictor : Evictor

-- the table, the entries that were evicted last, the last one first, and how many fields and updates of the open block
-- were followed
pub record TableFollowed : Type 0 where
  pub table : LimitedTable
  pub gone : List EntryGone
  pub fields : ℕ
  pub updates : ℕ

-- the table is empty, with this maximum
abbrev pub empty : (max : ℕ) → TableFollowed
empty max = record { table = record { table = record { entries = []; max = max }; limit = max }; gone = []; fields = 0; updates = 0 }

-- the same, and what was listed so far
pub record Following : Type 0 where
  pub followed : TableFollowed
  pub listed : List EntryListed

abbrev pub following : TableFollowed → List EntryListed → Following
following f listed = record { followed = f; listed = listed }

-- ---- one entry, one update

-- the entries that are evicted where those that stay count at most this much, the newest first (4.3)
abbrev pub evicted : List Field → (available : ℕ) → List Field
evicted es available = drop (length (fit es available)) es

-- they are listed as they go, the oldest first
abbrev pub evictions : List Field → List EntryListed
evictions [] = []
evictions (e ∷ es) = evictions es ++ record { is_entered = false; entry = e } ∷ []

-- and kept: the last 64
abbrev pub gone_with : Evictor → List Field → List EntryGone → List EntryGone
gone_with by [] gone = gone
gone_with by (e ∷ es) gone = record { entry = e; evictor = by } ∷ take 63 (gone_with by es gone)

-- a field enters the table, once the oldest entries have made space for it; one that is larger than the table only empties
-- it (4.4), and then no index tells any more which of the evicted entries it would name
abbrev pub entering : (item : ℕ) → Field → Following → Following
entering item f w =
    let t = w.followed.table.table in
    let out = evicted t.entries (t.max - size f) in
    let by : Evictor = record { item = item; by = Some f.name } in
    let fits = nat_le (size f) t.max in
    record {
      followed = record w.followed { table = record w.followed.table { table = insert t f }; gone = if fits then gone_with by out w.followed.gone else [] };
      listed = w.listed ++ evictions out ++ (if fits then record { is_entered = true; entry = f } ∷ [] else []);
    }

-- a table size update (6.3)
abbrev pub resized : (item : ℕ) → (max : ℕ) → Following → Following
resized item n w =
    let t = w.followed.table.table in
    let out = evicted t.entries n in
    let by : Evictor = record { item = item; by = None } in
    record {
      followed = record w.followed { table = record w.followed.table { table = resize t n }; gone = gone_with by out w.followed.gone };
      listed = w.listed ++ evictions out;
    }

-- one above the limit, which is refused (4.2), does nothing
abbrev pub resizing : (item : ℕ) → (max : ℕ) → Following → Following
resizing item n w = if nat_le n w.followed.table.limit then resized item n w else w

-- ---- a block

-- whether a field with this spelling enters the table (6.2.1)
abbrev pub enters : Spelling → Bool
enters (ByIndex i) = false
enters (AsLiteral IncrementalIndexing index name value) = true
enters (AsLiteral WithoutIndexing index name value) = false
enters (AsLiteral NeverIndexed index name value) = false

-- what is done is listed or not
abbrev pub listed_if : Bool → (before after : Following) → Following
listed_if true before after = after
listed_if false before after = record after { listed = before.listed }

-- a field
abbrev pub field_followed : (item : ℕ) → (is_listed : Bool) → Spelled → Following → Following
field_followed item is_listed x w = if enters x.spelling then listed_if is_listed w (entering item x.field w) else w

-- fields from a place on, of which those at places below `listed` are listed
abbrev pub fields_followed : (item listed place : ℕ) → List Spelled → Following → Following
fields_followed item listed place [] w = w
fields_followed item listed place (x ∷ xs) w = fields_followed item listed (place + 1) xs (field_followed item (nat_lt place listed) x w)

-- those of a block that were not followed yet
abbrev pub fields_left : (item listed : ℕ) → List Spelled → Following → Following
fields_left item listed xs w = fields_followed item listed w.followed.fields (drop w.followed.fields xs) w

-- table size updates
abbrev pub updates_followed : (item : ℕ) → List ℕ → Following → Following
updates_followed item [] w = w
updates_followed item (n ∷ ns) w = updates_followed item ns (resizing item n w)

-- those of a block that were not followed yet
abbrev pub updates_left : (item : ℕ) → List ℕ → Following → Following
updates_left item ns w = updates_followed item (drop w.followed.updates ns) w

-- the limit of the table is this one now
abbrev pub limited : (limit : ℕ) → Following → Following
limited limit w = record w { followed = record w.followed { table = record w.followed.table { limit = limit } } }

-- that many fields and updates were followed
abbrev pub counted : (fields updates : ℕ) → Following → Following
counted fields updates w = record w { followed = record w.followed { fields = fields; updates = updates } }

-- what a block has given since it was followed last: its updates, and then its fields; all are carried out, and what those
-- fields that are shown do is listed
abbrev pub block_followed : (item limit : ℕ) → BlocksRead → List Field → Following → Following
block_followed item limit b fields w =
    let xs = spelled fields b.block.taken.given in
    let updates = b.block.taken.updates in
    counted (length xs) (length updates) (fields_left item (length (shown_fields b fields).shown) xs (updates_left item updates (limited limit w)))

-- a block begins
abbrev pub begun : TableFollowed → TableFollowed
begun f = record f { fields = 0; updates = 0 }

-- ---- what an index names

-- the highest index that has an entry, as far as the code counts (2.3.3)
abbrev pub highest_index : TableFollowed → ℕ
highest_index f = up_to_64_bits (61 + length f.table.table.entries)

-- the name at an index of both tables
abbrev pub name_at : ℕ → TableFollowed → Option (List ℕ)
name_at index f = option_map (λ (x : Field). x.name) (field_at index f.table.table.entries)

-- what an index beyond both tables would name if nothing had been evicted
abbrev pub gone_at : ℕ → TableFollowed → Option EntryGone
gone_at index f = if nat_le index (highest_index f) then None else slice_get f.gone (index - (highest_index f + 1))

-- ---- beside its decoding by a connection

-- the table is followed as far as a connection has decoded a block: it is this table, which the block's fields and updates
-- so far have left
pub record IsFollowedTo (table : Table) (given : List Field) (b : BlocksRead) (f : TableFollowed) : Type 0 where
  pub same : f.table.table ≡ table
  pub fields : f.fields ≡ length given
  pub updates : f.updates ≡ length b.block.taken.updates
