-- Document 01, "Refusal numbers": the table, as document 02 amends it. 0 is not a refusal. tools/make-surface writes that of the C header and of the Rust bindings
-- from it: a row is its words and then its number.
use Rattle.std.specs.Prelude.{ℕ}
use Rattle.frame.specs.declared.Refusal.{Refusal}
use Rattle.frame.specs.declared.Refusal.TheVariants.{TooFew, NotData, OtherFormat, Escape, LeftOver, WrongCheck, OtherCode, InformationEscape, LongStandard, OtherHeader, OtherService, OtherLength, SmallRoom, OutOfRange, WrongSetting, WrongRecord, LineTwice, NoTable, OtherConnection, NotOpen, OtherCounter, Invalid, PastTotal}

abbrev pub number : Refusal → ℕ
-- fewer octets than the frame needs
number TooFew = 1
-- TP1 control octet of another kind
number NotData = 2
-- EFF not 0000
number OtherFormat = 3
-- LG octet 255
number Escape = 4
-- octets left after the frame
number LeftOver = 5
-- wrong check octet
number WrongCheck = 6
-- message code not 11h, 2Eh, 29h; in routing, not 29h
number OtherCode = 7
-- a = 255
number InformationEscape = 8
-- cEMI standard with LG above 15
number LongStandard = 9
-- KNXnet/IP header length not 06h or version not 10h
number OtherHeader = 10
-- service not the one wanted
number OtherService = 11
-- total length differs from the datagram's
number OtherLength = 12
-- lent room too small
number SmallRoom = 13
-- a number given by the caller is outside its range
number OutOfRange = 14
-- own line 00h, or a setting code not allowed
number WrongSetting = 15
-- site length not a multiple of 12, or a wrong mark
number WrongRecord = 16
-- one line twice in a site
number LineTwice = 17
-- filter table missing or of wrong size
number NoTable = 18
-- connection header's first octet not 04h
number OtherConnection = 19
-- channel not open
number NotOpen = 20
-- counter not one that the channel awaits
number OtherCounter = 21
-- two-octet float 7FFFh, which is invalid
number Invalid = 23
-- sum past the 64 bits of the total
number PastTotal = 24

-- the table's last number
abbrev pub last_number : ℕ
last_number = 24
