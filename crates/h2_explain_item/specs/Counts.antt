-- The name of each count, in the text and in JSON.
use Rattle.std.specs.Prelude.{ℕ, Bool, true, false, List, [], ◌∷◌, codes}
use Rattle.h2_explain_item.specs.declared.change.count.Count.{Count}
use Rattle.h2_explain_item.specs.declared.change.count.Count.TheVariants.{ReceiveWindow, UnreturnedOctets, SendWindow, LastStream, GoawayLastStream, GoawayCode, ClientHeaderTableSize, ClientEnablePush, ClientMaxConcurrentStreams, ClientInitialWindowSize, ClientMaxFrameSize, ClientMaxHeaderListSize, SizeUpdatePending, OwnHeaderTableSize, OwnInitialWindowSize, OwnMaxFrameSize, TableEntries, TableOctets, TableMaximum, ContentReceived}

-- the name of a count
abbrev pub count_name : Count → List ℕ
count_name ReceiveWindow = codes "receive window"
count_name UnreturnedOctets = codes "unreturned octets"
count_name SendWindow = codes "send window"
count_name LastStream = codes "last stream"
count_name GoawayLastStream = codes "last stream of client's GOAWAY"
count_name GoawayCode = codes "code of client's GOAWAY"
count_name ClientHeaderTableSize = codes "client's HEADER_TABLE_SIZE"
count_name ClientEnablePush = codes "client's ENABLE_PUSH"
count_name ClientMaxConcurrentStreams = codes "client's MAX_CONCURRENT_STREAMS"
count_name ClientInitialWindowSize = codes "client's INITIAL_WINDOW_SIZE"
count_name ClientMaxFrameSize = codes "client's MAX_FRAME_SIZE"
count_name ClientMaxHeaderListSize = codes "client's MAX_HEADER_LIST_SIZE"
count_name SizeUpdatePending = codes "size update pending"
count_name OwnHeaderTableSize = codes "own HEADER_TABLE_SIZE in force"
count_name OwnInitialWindowSize = codes "own INITIAL_WINDOW_SIZE in force"
count_name OwnMaxFrameSize = codes "own MAX_FRAME_SIZE in force"
count_name TableEntries = codes "header table entries"
count_name TableOctets = codes "header table octets"
count_name TableMaximum = codes "header table maximum"
count_name ContentReceived = codes "content received"

-- whether a number may be absent: the client's GOAWAY, and its limits, before it gives them (6.5.2, 6.8)
abbrev pub may_be_absent : Count → Bool
may_be_absent GoawayLastStream = true
may_be_absent GoawayCode = true
may_be_absent ClientMaxConcurrentStreams = true
may_be_absent ClientMaxHeaderListSize = true
may_be_absent _ = false

-- all counts, in the order of the code
unfoldable pub all_counts : List Count
all_counts =
    ReceiveWindow ∷ UnreturnedOctets ∷ SendWindow ∷ LastStream ∷ GoawayLastStream ∷ GoawayCode ∷ ClientHeaderTableSize ∷ ClientEnablePush ∷ ClientMaxConcurrentStreams ∷ ClientInitialWindowSize ∷ ClientMaxFrameSize ∷ ClientMaxHeaderListSize ∷ SizeUpdatePending ∷ OwnHeaderTableSize ∷ OwnInitialWindowSize ∷ OwnMaxFrameSize ∷ TableEntries ∷ TableOctets ∷ TableMaximum ∷ ContentReceived ∷ []
