-- What is accepted although a server may refuse it, or because it may not: the rows of the table of rules.
use Rattle.std.specs.Prelude.{List, [], ◌∷◌, true, codes}
use Rattle.h2_spec.specs.declared.accepted.Accepted.{Accepted}
use Rattle.h2_spec.specs.declared.accepted.Accepted.TheVariants.{Lawful, Settings, UnknownSetting, SettingTwice, UndefinedFlags, ReservedBit, Ping, PaddingNotZero, EmptyFragments, EmptyData, NoAuthority, HostDiffers, HostTwice, Userinfo, BadPath, BadMethod, BadScheme, NameNoToken, ValueControlOctet, ContentLengthTwice, TeCase, Trailers, TrailersEmpty, PriorityFlag, DependsOnItself, Goaway, GoawayOddStream, RequestAfterGoaway, UnknownCode, SettingsNotAcknowledged, LongInteger, SizeUpdates, ManySizeUpdates, Connect, OptionsStar, SkippedPriorityFlood, EmptyDataBelowZero, LargeFieldSection}
use Rattle.h2_spec.specs.declared.conforming.Codes.TheVariants as code
use Rattle.h2_spec.specs.declared.conforming.Least.TheVariants as least
use Rattle.h2_spec.specs.declared.rules.ClientDuty.TheVariants as client_duty
use Rattle.h2_spec.specs.declared.rules.ServerDuty.TheVariants as server_duty
use Rattle.h2_spec.specs.Causes.Conforming.{besides, errors, no_reaction, only}
use Rattle.h2_spec.specs.Causes.Rules.{Row}

-- the row of what is accepted
unfoldable pub accepted_row : Accepted → Row
accepted_row Lawful = record { name = codes "lawful"; section = codes "RFC 9113"; client = client_duty.Nothing; client_section = codes "RFC 9113"; server = server_duty.Must; conforming = only least.Accept (record no_reaction { accept = true }); sentence = codes "no section lets a server refuse any of it" }
accepted_row Settings = record { name = codes "settings"; section = codes "RFC 9113 6.5.3"; client = client_duty.Nothing; client_section = codes "RFC 9113 6.5.3"; server = server_duty.Must; conforming = only least.Accept (record no_reaction { accept = true }); sentence = codes "SETTINGS takes effect and is acknowledged" }
accepted_row UnknownSetting = record { name = codes "unknown-setting"; section = codes "RFC 9113 6.5.2"; client = client_duty.Nothing; client_section = codes "RFC 9113 6.5.2"; server = server_duty.Must; conforming = only least.Accept (record no_reaction { accept = true }); sentence = codes "a setting that is not known is ignored" }
accepted_row SettingTwice = record { name = codes "setting-twice"; section = codes "RFC 9113 6.5.3"; client = client_duty.Nothing; client_section = codes "RFC 9113 6.5.3"; server = server_duty.Must; conforming = only least.Accept (record no_reaction { accept = true }); sentence = codes "a setting is there twice: its values take effect in their order" }
accepted_row UndefinedFlags = record { name = codes "undefined-flags"; section = codes "RFC 9113 4.1"; client = client_duty.Must; client_section = codes "RFC 9113 4.1"; server = server_duty.Must; conforming = only least.Accept (record no_reaction { accept = true }); sentence = codes "a flag is set that the type does not define: it is ignored" }
accepted_row ReservedBit = record { name = codes "reserved-bit"; section = codes "RFC 9113 4.1"; client = client_duty.Must; client_section = codes "RFC 9113 4.1"; server = server_duty.Must; conforming = only least.Accept (record no_reaction { accept = true }); sentence = codes "the reserved bit is set: it is ignored" }
accepted_row Ping = record { name = codes "ping"; section = codes "RFC 9113 6.7"; client = client_duty.Nothing; client_section = codes "RFC 9113 6.7"; server = server_duty.Must; conforming = only least.Accept (record no_reaction { accept = true }); sentence = codes "PING is answered with the same octets" }
accepted_row PaddingNotZero = record { name = codes "padding-not-zero"; section = codes "RFC 9113 6.1"; client = client_duty.Must; client_section = codes "RFC 9113 6.1"; server = server_duty.May; conforming = only least.None (record (errors (code.One 1) code.None) { accept = true }); sentence = codes "an octet of the padding is not zero" }
accepted_row EmptyFragments = record { name = codes "empty-fragments"; section = codes "RFC 9113 6.10"; client = client_duty.Nothing; client_section = codes "RFC 9113 6.10"; server = server_duty.Own; conforming = only least.Accept (record (errors (code.One 11) code.None) { accept = true }); sentence = codes "a block may have any number of empty CONTINUATION frames" }
accepted_row EmptyData = record { name = codes "empty-data"; section = codes "RFC 9113 6.1"; client = client_duty.Nothing; client_section = codes "RFC 9113 6.1"; server = server_duty.Own; conforming = only least.Accept (record (errors (code.One 11) code.None) { accept = true }); sentence = codes "a stream may have any number of empty DATA frames" }
accepted_row NoAuthority = record { name = codes "no-authority"; section = codes "RFC 9113 8.3.1"; client = client_duty.Must; client_section = codes "RFC 9113 8.3.1"; server = server_duty.Own; conforming = only least.None (record (errors code.None (code.One 1)) { answer = true; accept = true }); sentence = codes "the request has neither :authority nor host" }
accepted_row HostDiffers = record { name = codes "host-differs"; section = codes "RFC 9113 8.3.1"; client = client_duty.MustNot; client_section = codes "RFC 9113 8.3.1"; server = server_duty.Should; conforming = only least.None (record (errors code.None (code.One 1)) { answer = true; accept = true }); sentence = codes "host names another authority than :authority" }
accepted_row HostTwice = record { name = codes "host-twice"; section = codes "RFC 9110 5.3"; client = client_duty.MustNot; client_section = codes "RFC 9110 5.3"; server = server_duty.Own; conforming = only least.None (record (errors code.None (code.One 1)) { answer = true; accept = true }); sentence = codes "host is there twice" }
accepted_row Userinfo = record { name = codes "userinfo"; section = codes "RFC 9113 8.3.1"; client = client_duty.MustNot; client_section = codes "RFC 9113 8.3.1"; server = server_duty.Own; conforming = only least.None (record (errors code.None (code.One 1)) { answer = true; accept = true }); sentence = codes ":authority has user information" }
accepted_row BadPath = record { name = codes "bad-path"; section = codes "RFC 9113 8.3"; client = client_duty.Must; client_section = codes "RFC 9113 8.3.1"; server = server_duty.Must; conforming = besides least.None (record (errors code.None (code.One 1)) { answer = true }) (record no_reaction { accept = true }); sentence = codes ":path does not begin with a slash and is not *" }
accepted_row BadMethod = record { name = codes "bad-method"; section = codes "RFC 9113 8.3"; client = client_duty.Must; client_section = codes "RFC 9113 8.3.1"; server = server_duty.Must; conforming = besides least.None (record (errors code.None (code.One 1)) { answer = true }) (record no_reaction { accept = true }); sentence = codes ":method is no token" }
accepted_row BadScheme = record { name = codes "bad-scheme"; section = codes "RFC 9113 8.3"; client = client_duty.Must; client_section = codes "RFC 9113 8.3.1"; server = server_duty.Must; conforming = besides least.None (record (errors code.None (code.One 1)) { answer = true }) (record no_reaction { accept = true }); sentence = codes ":scheme is no name of a scheme" }
accepted_row NameNoToken = record { name = codes "name-no-token"; section = codes "RFC 9113 8.2.1"; client = client_duty.Breach; client_section = codes "RFC 9110 5.1"; server = server_duty.Should; conforming = only least.None (record (errors code.None (code.One 1)) { answer = true; accept = true }); sentence = codes "the name of a field has an octet that no token has" }
accepted_row ValueControlOctet = record { name = codes "value-control-octet"; section = codes "RFC 9113 8.2.1"; client = client_duty.Breach; client_section = codes "RFC 9110 5.5"; server = server_duty.Should; conforming = only least.None (record (errors code.None (code.One 1)) { answer = true; accept = true }); sentence = codes "the value of a field has a control octet" }
accepted_row ContentLengthTwice = record { name = codes "content-length-twice"; section = codes "RFC 9110 8.6"; client = client_duty.MustNot; client_section = codes "RFC 9110 5.3"; server = server_duty.May; conforming = only least.None (record (errors code.None (code.One 1)) { answer = true; accept = true }); sentence = codes "content-length is there twice with the same number" }
accepted_row TeCase = record { name = codes "te-case"; section = codes "RFC 9110 10.1.4"; client = client_duty.Nothing; client_section = codes "RFC 9113 8.2.2"; server = server_duty.Own; conforming = besides least.Accept (record no_reaction { accept = true }) (record (errors (code.One 1) (code.One 1)) { answer = true }); sentence = codes "te has the word trailers with a capital letter" }
accepted_row Trailers = record { name = codes "trailers"; section = codes "RFC 9113 8.1"; client = client_duty.Nothing; client_section = codes "RFC 9113 8.1"; server = server_duty.Must; conforming = only least.Accept (record no_reaction { accept = true }); sentence = codes "trailers end the request" }
accepted_row TrailersEmpty = record { name = codes "trailers-empty"; section = codes "RFC 9113 8.1"; client = client_duty.Nothing; client_section = codes "RFC 9113 8.1"; server = server_duty.Own; conforming = besides least.Accept (record no_reaction { accept = true }) (errors (code.One 1) (code.One 1)); sentence = codes "the trailers have no field" }
accepted_row PriorityFlag = record { name = codes "priority-flag"; section = codes "RFC 9113 6.2"; client = client_duty.Nothing; client_section = codes "RFC 9113 6.2"; server = server_duty.Must; conforming = only least.Accept (record no_reaction { accept = true }); sentence = codes "HEADERS has a priority, which this server does not use" }
accepted_row DependsOnItself = record { name = codes "depends-on-itself"; section = codes "RFC 9113 5.3.2"; client = client_duty.Nothing; client_section = codes "RFC 9113 5.3.2"; server = server_duty.Own; conforming = only least.None (record (errors code.None (code.One 1)) { accept = true }); sentence = codes "the stream depends on itself" }
accepted_row Goaway = record { name = codes "goaway"; section = codes "RFC 9113 6.8"; client = client_duty.Nothing; client_section = codes "RFC 9113 6.8"; server = server_duty.May; conforming = only least.None (record no_reaction { accept = true; close = true }); sentence = codes "the client ends its use of the connection" }
accepted_row GoawayOddStream = record { name = codes "goaway-odd-stream"; section = codes "RFC 9113 6.8"; client = client_duty.Breach; client_section = codes "RFC 9113 6.8"; server = server_duty.Own; conforming = only least.None (record (errors (code.One 1) code.None) { accept = true; ignore = true; close = true }); sentence = codes "GOAWAY names a stream of the client's own" }
accepted_row RequestAfterGoaway = record { name = codes "request-after-goaway"; section = codes "RFC 9113 6.8"; client = client_duty.Nothing; client_section = codes "RFC 9113 6.8"; server = server_duty.Own; conforming = only least.None (record no_reaction { accept = true; ignore = true; close = true }); sentence = codes "the client opens a stream after its GOAWAY" }
accepted_row UnknownCode = record { name = codes "unknown-code"; section = codes "RFC 9113 7"; client = client_duty.Nothing; client_section = codes "RFC 9113 7"; server = server_duty.Must; conforming = only least.Accept (record no_reaction { accept = true; close = true }); sentence = codes "an error code that is not known changes nothing" }
accepted_row SettingsNotAcknowledged = record { name = codes "settings-not-acknowledged"; section = codes "RFC 9113 6.5.3"; client = client_duty.Must; client_section = codes "RFC 9113 6.5.3"; server = server_duty.May; conforming = only least.None (record (errors (code.One 4) code.None) { accept = true }); sentence = codes "the server's SETTINGS are not acknowledged" }
accepted_row LongInteger = record { name = codes "long-integer"; section = codes "RFC 7541 5.1"; client = client_duty.Nothing; client_section = codes "RFC 7541 5.1"; server = server_duty.Own; conforming = only least.None (record (errors (code.One 9) code.None) { accept = true }); sentence = codes "an integer has more octets than its value needs" }
accepted_row SizeUpdates = record { name = codes "size-updates"; section = codes "RFC 7541 4.2"; client = client_duty.Nothing; client_section = codes "RFC 7541 4.2"; server = server_duty.Must; conforming = only least.Accept (record no_reaction { accept = true }); sentence = codes "a block may begin with table size updates" }
accepted_row ManySizeUpdates = record { name = codes "many-size-updates"; section = codes "RFC 7541 4.2"; client = client_duty.Breach; client_section = codes "RFC 7541 4.2"; server = server_duty.Own; conforming = only least.None (record (errors (code.One 9) code.None) { accept = true }); sentence = codes "a block begins with more than two table size updates" }
accepted_row Connect = record { name = codes "connect"; section = codes "RFC 9113 8.5"; client = client_duty.Nothing; client_section = codes "RFC 9113 8.5"; server = server_duty.Own; conforming = only least.None (record (errors code.Any code.Any) { answer = true; accept = true }); sentence = codes "CONNECT asks for a tunnel, which this server does not have" }
accepted_row OptionsStar = record { name = codes "options-star"; section = codes "RFC 9113 8.3.1"; client = client_duty.Nothing; client_section = codes "RFC 9113 8.3.1"; server = server_duty.Own; conforming = only least.Accept (record no_reaction { accept = true; answer = true }); sentence = codes "OPTIONS may have * as its :path" }
accepted_row SkippedPriorityFlood = record { name = codes "skipped-priority-flood"; section = codes "RFC 9113 10.5"; client = client_duty.Nothing; client_section = codes "RFC 9113 10.5"; server = server_duty.Own; conforming = only least.None (record (errors (code.One 11) code.None) { accept = true }); sentence = codes "PRIORITY is on streams that are never opened" }
accepted_row EmptyDataBelowZero = record { name = codes "empty-data-below-zero"; section = codes "RFC 9113 6.9.2"; client = client_duty.MustNot; client_section = codes "RFC 9113 6.9.2"; server = server_duty.Own; conforming = only least.None (record (errors code.None (code.One 3)) { accept = true }); sentence = codes "empty DATA without END_STREAM is sent while the window is negative" }
accepted_row LargeFieldSection = record { name = codes "large-field-section"; section = codes "RFC 9113 10.5.1"; client = client_duty.Limit; client_section = codes "RFC 9113 10.5.1"; server = server_duty.Own; conforming = only least.None (record (errors (code.One 9) (code.One 11)) { accept = true; answer = true }); sentence = codes "the list of fields is below this server's limit" }

-- all that is accepted with a rule of its own, in the order of the code
unfoldable pub all_accepted : List Accepted
all_accepted =
    Lawful ∷ Settings ∷ UnknownSetting ∷ SettingTwice ∷ UndefinedFlags ∷ ReservedBit ∷ Ping ∷ PaddingNotZero ∷
    EmptyFragments ∷ EmptyData ∷ NoAuthority ∷ HostDiffers ∷ HostTwice ∷ Userinfo ∷ BadPath ∷ BadMethod ∷ BadScheme ∷
    NameNoToken ∷ ValueControlOctet ∷ ContentLengthTwice ∷ TeCase ∷ Trailers ∷ TrailersEmpty ∷ PriorityFlag ∷
    DependsOnItself ∷ Goaway ∷ GoawayOddStream ∷ RequestAfterGoaway ∷ UnknownCode ∷ SettingsNotAcknowledged ∷
    LongInteger ∷ SizeUpdates ∷ ManySizeUpdates ∷ Connect ∷ OptionsStar ∷ SkippedPriorityFlood ∷ EmptyDataBelowZero ∷
    LargeFieldSection ∷ []
