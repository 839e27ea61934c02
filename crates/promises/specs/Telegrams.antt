-- Document 01, "Telegrams to check against": the cases marked P; and those that document 02 adds, R-2's and R-4's. As one list.
use Rattle.std.specs.Prelude.{ℕ, ◌/◌, true, false, cond, List, [], ◌∷◌, ◌++◌, map, ◌≡◌, ℤ, pos, negsuc, length, take, replicate, Result, Ok, Err, None, is_none}
use Rattle.passing.specs.Passing.{table_octet, table_bit}
use Rattle.coupler.specs.Setting.{setting_of}
use Rattle.coupler.specs.Memory.{no_memory}
use Rattle.coupler.specs.Series.{Input, Done, series}
use Rattle.coupler.specs.Step.{Coupler, coupler_by, outcome_of, sent, acknowledgement_number}
use Rattle.frame.specs.Order.{first_of}
use Rattle.frame.specs.Answers.{Numbered, accepted, meaning_values, refusal_number}
use Rattle.frame.specs.declared.Refusal.TheVariants.{WrongCheck}
use Rattle.leak.specs.Answers.{signed_values, value_numbered, coded_numbered, added_numbered}
use Rattle.leak.specs.Reading.{read_code}
use Rattle.leak.specs.Total.{add_to}
use Rattle.leak.specs.Writing.{write_code}
use Rattle.station.specs.Series.{takes}
use Rattle.station.specs.declared.Tally.{Tally}
use Rattle.station.specs.declared.Telegram.TheVariants.{Increment, Repetition, OtherGroup}
use Rattle.site.specs.Stores.{stores}
use Rattle.tp1.specs.Answers.{tp1_numbered}
use Rattle.tp1.specs.Reading.{payload_in, read_tp1}
use Rattle.tracer.specs.Query.{query_of}
use Rattle.tracer.specs.declared.Query.{Query}
use Rattle.tracer.specs.Tracing.{trace_tests, traced_by, list_by}
use Rattle.frame.specs.declared.Refusal.{Refusal}

-- a refusal in the paper's words: its number, and no values
abbrev pub refused_by : ℕ → Numbered
refused_by n = record { number = n; values = [] }

-- what a coupler does with octets: its acknowledgement as the paper's number (CCh, 0 for none) and the octets that it sends, or the number of its
-- refusal
pub data Does : Type 0 where
  sends : ℕ → List ℕ → Does
  refuses : ℕ → Does

infix 20 tp1◌is◌with◌
infix 20 ◌hears◌and◌
infix 20 ◌hears-in-turn◌and◌
infix 20 bit◌is◌of◌
infix 20 ◌on◌lists◌by◌
infix 20 code◌is◌
infix 20 hundredths◌are◌
infix 20 total◌with◌is◌
infix 20 station◌hears-in-turn◌and◌
pub data Case : Type 0 where
  -- these octets, read as a TP1 frame: number and values, and the payload handed out
  tp1◌is◌with◌ : List ℕ → Numbered → List ℕ → Case
  -- this coupler, remembering nothing, given these octets
  ◌hears◌and◌ : Coupler → List ℕ → Does → Case
  -- this coupler, at the start remembering nothing, given these octets one after the other
  ◌hears-in-turn◌and◌ : Coupler → List (List ℕ) → List Does → Case
  -- this group's bit, and the octet of the filter table
  bit◌is◌of◌ : ℕ → ℕ → ℕ → Case
  -- this query on this site: the list, and the forwardings made
  ◌on◌lists◌by◌ : Query → List ℕ → List ℕ → ℕ → Case
  -- these two octets as a code, read as hundredths; these hundredths written; this code added to this total: number and values
  code◌is◌ : ℕ → Numbered → Case
  hundredths◌are◌ : ℤ → Numbered → Case
  total◌with◌is◌ : ℤ → ℕ → Numbered → Case
  -- a station of this group, its total 0 and remembering nothing, given these octets one after the other: what each is, and the total then
  station◌hears-in-turn◌and◌ : ℕ → List (List ℕ) → List Tally → Case

abbrev pub does : Coupler → List ℕ → Does
does k s = sends (acknowledgement_number (outcome_of k [] s 272).acknowledgement) (sent k [] s 272)

-- an accepted frame, and what becomes of it
abbrev pub Handles : Coupler → List ℕ → Does → Type 0
Handles k s d = ((outcome_of k [] s 272).refusal ≡ None) × (does k s ≡ d)

-- each of a series of frames in a room of 272, and what becomes of each
abbrev pub given : Coupler → List (List ℕ) → List Input
given k = map (λ s. record { coupler = k; octets = s; room = replicate 272 0 })

abbrev pub doing : Done → Does
doing d =
    cond (is_none d.outcome.refusal)
    (sends (acknowledgement_number d.outcome.acknowledgement) (take d.outcome.forwarded d.room))
    (refuses (refusal_number d.outcome.refusal))

-- the verdict on a query with empty stores and a room of 768, and what is listed
abbrev pub asked : Query → List ℕ → Result (Unit {0}) Refusal
asked q site = first_of (trace_tests (stores [] []) site q 768)

abbrev pub Holds : Case → Type 0
Holds (tp1 s is a with p) = (tp1_numbered (read_tp1 s) ≡ a) × (payload_in (read_tp1 s) s ≡ p)
Holds (k hears s and d) = Handles k s d
Holds (k hears-in-turn ss and ds) = map doing (series no_memory (given k ss)) ≡ ds
Holds (bit g is b of o) = (table_bit g ≡ b) × (table_octet g ≡ o)
Holds (q on site lists l by n) =
    (traced_by (stores [] []) site q (asked q site) ≡ Ok (record { lines = length l / 3; forwardings = n })) × (list_by (stores [] []) site q (asked q site) ≡ l)
Holds (code c is n) = value_numbered (read_code c) ≡ n
Holds (hundredths z are n) = coded_numbered (write_code z) ≡ n
Holds (total t with c is n) = added_numbered (add_to t c) ≡ n
Holds (station g hears-in-turn ss and ts) = takes g (pos 0) [] ss ≡ ts

abbrev pub Every : List Case → Type 0
Every [] = Unit {0}
Every (c ∷ cs) = Holds c × Every cs

-- "TP1 BC 00 00 12 34 B4 00 80 56 78 9A E5 is accepted: priority bits 11, group 1234h, count 3, LG 4."
abbrev pub P1 : Case
P1 =
    tp1 0xBC ∷ 0x00 ∷ 0x00 ∷ 0x12 ∷ 0x34 ∷ 0xB4 ∷ 0x00 ∷ 0x80 ∷ 0x56 ∷ 0x78 ∷ 0x9A ∷ 0xE5 ∷ [] is
    accepted (meaning_values (record { extended = false; first = true; priority = 3; source = 0; group = true; destination = 0x1234; count = 3 }))
    with (0x00 ∷ 0x80 ∷ 0x56 ∷ 0x78 ∷ 0x9A ∷ [])

-- "the same ending E4: 6"
abbrev pub P2 : Case
P2 = tp1 0xBC ∷ 0x00 ∷ 0x00 ∷ 0x12 ∷ 0x34 ∷ 0xB4 ∷ 0x00 ∷ 0x80 ∷ 0x56 ∷ 0x78 ∷ 0x9A ∷ 0xE4 ∷ [] is refused_by 6 with []

-- "no octets: 1"
abbrev pub P3 : Case
P3 = tp1 [] is refused_by 1 with []

-- "CC: 2"
abbrev pub P4 : Case
P4 = tp1 0xCC ∷ [] is refused_by 2 with []

-- "34 E1 AF FE 00 00 00: 3"
abbrev pub P5 : Case
P5 = tp1 0x34 ∷ 0xE1 ∷ 0xAF ∷ 0xFE ∷ 0x00 ∷ 0x00 ∷ 0x00 ∷ [] is refused_by 3 with []

-- "34 60 AF FE FF 00 FF: 4"
abbrev pub P6 : Case
P6 = tp1 0x34 ∷ 0x60 ∷ 0xAF ∷ 0xFE ∷ 0xFF ∷ 0x00 ∷ 0xFF ∷ [] is refused_by 4 with []

-- couplers with every code closed, or open for one class of addresses, in both directions
abbrev pub closed_row : List ℕ
closed_row = 0 ∷ 0 ∷ 0 ∷ 0 ∷ []

abbrev pub groups_open : List ℕ
groups_open = 0 ∷ 0 ∷ 2 ∷ 2 ∷ []

abbrev pub broadcast_open : List ℕ
broadcast_open = 0 ∷ 2 ∷ 0 ∷ 0 ∷ []

-- "from IP, groups open"
abbrev pub from_ip_open : Coupler
from_ip_open = coupler_by (setting_of 0x47 0 1) (groups_open ∷ groups_open ∷ []) []

-- "06 10 05 30 00 14 29 00 BC C0 00 00 12 34 04 00 80 56 78 9A from IP, groups open: P1's octets on TP1."
abbrev pub P7 : Case
P7 =
    from_ip_open hears 0x06 ∷ 0x10 ∷ 0x05 ∷ 0x30 ∷ 0x00 ∷ 0x14 ∷ 0x29 ∷ 0x00 ∷ 0xBC ∷ 0xC0 ∷ 0x00 ∷ 0x00 ∷ 0x12 ∷ 0x34 ∷ 0x04 ∷ 0x00 ∷ 0x80 ∷ 0x56 ∷ 0x78 ∷ 0x9A ∷ []
    and sends 0 (0xBC ∷ 0x00 ∷ 0x00 ∷ 0x12 ∷ 0x34 ∷ 0xB4 ∷ 0x00 ∷ 0x80 ∷ 0x56 ∷ 0x78 ∷ 0x9A ∷ 0xE5 ∷ [])

-- "with 80 in place of C0: nothing forwarded"
abbrev pub P8 : Case
P8 =
    from_ip_open hears 0x06 ∷ 0x10 ∷ 0x05 ∷ 0x30 ∷ 0x00 ∷ 0x14 ∷ 0x29 ∷ 0x00 ∷ 0xBC ∷ 0x80 ∷ 0x00 ∷ 0x00 ∷ 0x12 ∷ 0x34 ∷ 0x04 ∷ 0x00 ∷ 0x80 ∷ 0x56 ∷ 0x78 ∷ 0x9A ∷ []
    and sends 0 []

-- "with F0: BC 00 00 12 34 F4 00 80 56 78 9A A5"
abbrev pub P9 : Case
P9 =
    from_ip_open hears 0x06 ∷ 0x10 ∷ 0x05 ∷ 0x30 ∷ 0x00 ∷ 0x14 ∷ 0x29 ∷ 0x00 ∷ 0xBC ∷ 0xF0 ∷ 0x00 ∷ 0x00 ∷ 0x12 ∷ 0x34 ∷ 0x04 ∷ 0x00 ∷ 0x80 ∷ 0x56 ∷ 0x78 ∷ 0x9A ∷ []
    and sends 0 (0xBC ∷ 0x00 ∷ 0x00 ∷ 0x12 ∷ 0x34 ∷ 0xF4 ∷ 0x00 ∷ 0x80 ∷ 0x56 ∷ 0x78 ∷ 0x9A ∷ 0xA5 ∷ [])

-- "coupler FFh, broadcast open, from main B0 AF FE 00 00 E1 01 00 FE: CCh and B0 AF FE 00 00 D1 01 00 CE"
abbrev pub P10 : Case
P10 =
    coupler_by (setting_of 0xFF 0 0) (broadcast_open ∷ closed_row ∷ []) [] hears 0xB0 ∷ 0xAF ∷ 0xFE ∷ 0x00 ∷ 0x00 ∷ 0xE1 ∷ 0x01 ∷ 0x00 ∷ 0xFE ∷ []
    and sends 0xCC (0xB0 ∷ 0xAF ∷ 0xFE ∷ 0x00 ∷ 0x00 ∷ 0xD1 ∷ 0x01 ∷ 0x00 ∷ 0xCE ∷ [])

-- "group 6FFFh is bit 7 of octet 3,583; 7000h is bit 0 of octet 3,584"
abbrev pub P11a : Case
P11a = bit 0x6FFF is 7 of 3583

abbrev pub P11b : Case
P11b = bit 0x7000 is 0 of 3584

-- "couplers 20h, 40h, 45h, 47h": all codes open but for the individual's, no table
abbrev pub coupler_at : ℕ → ℕ → List ℕ
coupler_at line individual = 0x43 ∷ 0x50 ∷ line ∷ individual ∷ 2 ∷ 2 ∷ 2 ∷ individual ∷ 2 ∷ 2 ∷ 2 ∷ 0xFF ∷ []

abbrev pub four_couplers : ℕ → List ℕ
four_couplers individual = coupler_at 0x20 individual ++ coupler_at 0x40 individual ++ coupler_at 0x45 individual ++ coupler_at 0x47 individual

-- "all open; group 1234h from 47h, count 2: 00 00 02 40 01 01 45 00 02 47 02 00, 3 forwardings"
abbrev pub P12a : Case
P12a = query_of 0x47 1 0x1234 2 on four_couplers 2 lists 0x00 ∷ 0x00 ∷ 0x02 ∷ 0x40 ∷ 0x01 ∷ 0x01 ∷ 0x45 ∷ 0x00 ∷ 0x02 ∷ 0x47 ∷ 0x02 ∷ 0x00 ∷ [] by 3

-- "Count 0: 47 00 00."
abbrev pub P12b : Case
P12b = query_of 0x47 1 0x1234 0 on four_couplers 2 lists 0x47 ∷ 0x00 ∷ 0x00 ∷ [] by 0

-- "Count 7: 00 07 02 20 07 03 40 07 01 45 07 02 47 07 00."
abbrev pub P12c : Case
P12c = query_of 0x47 1 0x1234 7 on four_couplers 2 lists 0x00 ∷ 0x07 ∷ 0x02 ∷ 0x20 ∷ 0x07 ∷ 0x03 ∷ 0x40 ∷ 0x07 ∷ 0x01 ∷ 0x45 ∷ 0x07 ∷ 0x02 ∷ 0x47 ∷ 0x07 ∷ 0x00 ∷ [] by 4

-- "same couplers, individual code 1; to 4700h from 20h, count 6: 00 05 01 20 06 00 40 04 02"
abbrev pub P13a : Case
P13a = query_of 0x20 0 0x4700 6 on four_couplers 1 lists 0x00 ∷ 0x05 ∷ 0x01 ∷ 0x20 ∷ 0x06 ∷ 0x00 ∷ 0x40 ∷ 0x04 ∷ 0x02 ∷ [] by 2

-- "To 4901h from 47h: 40 05 01 47 06 00."
abbrev pub P13b : Case
P13b = query_of 0x47 0 0x4901 6 on four_couplers 1 lists 0x40 ∷ 0x05 ∷ 0x01 ∷ 0x47 ∷ 0x06 ∷ 0x00 ∷ [] by 1

-- Document 02, R-2: the meter 4.7.21 writes increments to group 1234h, and coupler 47h hears them on its line
abbrev pub meter_coupler : Coupler
meter_coupler = coupler_by (setting_of 0x47 1 0) (groups_open ∷ groups_open ∷ []) []

abbrev pub telegram_one : List ℕ
telegram_one = 0xBC ∷ 0x47 ∷ 0x15 ∷ 0x12 ∷ 0x34 ∷ 0xE3 ∷ 0x00 ∷ 0x80 ∷ 0x0C ∷ 0x1A ∷ 0x42 ∷ []

abbrev pub one_forwarded : List ℕ
one_forwarded = 0xBC ∷ 0x47 ∷ 0x15 ∷ 0x12 ∷ 0x34 ∷ 0xD3 ∷ 0x00 ∷ 0x80 ∷ 0x0C ∷ 0x1A ∷ 0x72 ∷ []

abbrev pub one_repeated : List ℕ
one_repeated = 0x9C ∷ 0x47 ∷ 0x15 ∷ 0x12 ∷ 0x34 ∷ 0xE3 ∷ 0x00 ∷ 0x80 ∷ 0x0C ∷ 0x1A ∷ 0x62 ∷ []

-- one payload bit different
abbrev pub two_repeated : List ℕ
two_repeated = 0x9C ∷ 0x47 ∷ 0x15 ∷ 0x12 ∷ 0x34 ∷ 0xE3 ∷ 0x00 ∷ 0x80 ∷ 0x0C ∷ 0x1B ∷ 0x63 ∷ []

abbrev pub two_forwarded : List ℕ
two_forwarded = 0xBC ∷ 0x47 ∷ 0x15 ∷ 0x12 ∷ 0x34 ∷ 0xD3 ∷ 0x00 ∷ 0x80 ∷ 0x0C ∷ 0x1B ∷ 0x73 ∷ []

-- a repeat of the telegram before is not forwarded, and a repeat of that repeat neither
abbrev pub R2a : Case
R2a = meter_coupler hears-in-turn telegram_one ∷ one_repeated ∷ one_repeated ∷ [] and sends 0xCC one_forwarded ∷ sends 0xCC [] ∷ sends 0xCC [] ∷ []

-- "cases with equal addresses and one payload bit different"
abbrev pub R2b : Case
R2b = meter_coupler hears-in-turn telegram_one ∷ two_repeated ∷ [] and sends 0xCC one_forwarded ∷ sends 0xCC two_forwarded ∷ []

-- "and with equal payload but another count": 5 in place of 6
abbrev pub R2c : Case
R2c =
    meter_coupler hears-in-turn telegram_one ∷ (0x9C ∷ 0x47 ∷ 0x15 ∷ 0x12 ∷ 0x34 ∷ 0xD3 ∷ 0x00 ∷ 0x80 ∷ 0x0C ∷ 0x1A ∷ 0x52 ∷ []) ∷ []
    and sends 0xCC one_forwarded ∷ sends 0xCC (0xBC ∷ 0x47 ∷ 0x15 ∷ 0x12 ∷ 0x34 ∷ 0xC3 ∷ 0x00 ∷ 0x80 ∷ 0x0C ∷ 0x1A ∷ 0x62 ∷ []) ∷ []

-- "Our meter's second telegram was damaged on its first sending, its repeat came marked repeated": it is forwarded, and once
abbrev pub R2d : Case
R2d =
    meter_coupler hears-in-turn telegram_one ∷ (0xBC ∷ 0x47 ∷ 0x15 ∷ 0x12 ∷ 0x34 ∷ 0xE3 ∷ 0x00 ∷ 0x80 ∷ 0x4C ∷ 0x1B ∷ 0x43 ∷ []) ∷ two_repeated ∷ two_repeated ∷ []
    and sends 0xCC one_forwarded ∷ refuses 6 ∷ sends 0xCC two_forwarded ∷ sends 0xCC [] ∷ []

-- Document 02, R-4: "0C1Ah is 2,100; 87FFh is -1; F800h is -67,108,864"; "7FFFh is invalid and refused (23)"
abbrev pub R4a : Case
R4a = code 0x0C1A is accepted (signed_values (pos 2100))

abbrev pub R4b : Case
R4b = code 0x87FF is accepted (signed_values (negsuc 0))

abbrev pub R4c : Case
R4c = code 0xF800 is accepted (signed_values (negsuc 67108863))

abbrev pub R4d : Case
R4d = code 0x7FFF is refused_by 23

-- "hundredths from -67,108,864 to 67,043,328, else refuses (14)"
abbrev pub R4e : Case
R4e = hundredths negsuc 67108863 are accepted (0xF800 ∷ [])

abbrev pub R4f : Case
R4f = hundredths pos 67043328 are accepted (0x7FFE ∷ [])

abbrev pub R4g : Case
R4g = hundredths negsuc 67108864 are refused_by 14

abbrev pub R4h : Case
R4h = hundredths pos 67043329 are refused_by 14

-- "the smallest E for which the nearest M, ties to even M, fits": 4,095 is a tie at E = 1 and goes to 2,048, which does not fit; -4,097 is one that
-- goes to -2,048, which fits
abbrev pub R4i : Case
R4i = hundredths pos 4095 are accepted (0x1400 ∷ [])

abbrev pub R4j : Case
R4j = hundredths negsuc 4096 are accepted (0x8800 ∷ [])

-- "a sum past the range is refused (24)"
abbrev pub R4k : Case
R4k = total pos 9223372036854773707 with 0x0C1A is accepted (signed_values (pos 9223372036854775807))

abbrev pub R4l : Case
R4l = total pos 9223372036854773708 with 0x0C1A is refused_by 24

abbrev pub R4m : Case
R4m = total pos 5 with 0x7FFF is refused_by 23

-- the meter's telegrams as a station on its line takes them: the first, its repeat, the second damaged, its repeat, and one to group 1235h
abbrev pub R4n : Case
R4n =
    station 0x1234 hears-in-turn
    telegram_one ∷ one_repeated ∷ (0xBC ∷ 0x47 ∷ 0x15 ∷ 0x12 ∷ 0x34 ∷ 0xE3 ∷ 0x00 ∷ 0x80 ∷ 0x4C ∷ 0x1B ∷ 0x43 ∷ []) ∷ two_repeated ∷ (0xBC ∷ 0x47 ∷ 0x15 ∷ 0x12 ∷ 0x35 ∷ 0xE3 ∷ 0x00 ∷ 0x80 ∷ 0x0C ∷ 0x1A ∷ 0x43 ∷ []) ∷ []
    and
    record { telegram = Ok (Increment 0x0C1A); total = pos 2100 }
    ∷ record { telegram = (Ok Repetition); total = pos 2100 }
    ∷ record { telegram = Err WrongCheck; total = pos 2100 }
    ∷ record { telegram = Ok (Increment 0x0C1B); total = pos 4202 }
    ∷ record { telegram = (Ok OtherGroup); total = pos 4202 }
    ∷ []

abbrev pub cases : List Case
cases = P1 ∷ P2 ∷ P3 ∷ P4 ∷ P5 ∷ P6 ∷ P7 ∷ P8 ∷ P9 ∷ P10 ∷ P11a ∷ P11b ∷ P12a ∷ P12b ∷ P12c ∷ P13a ∷ P13b ∷ R2a ∷ R2b ∷ R2c ∷ R2d ∷ R4a ∷ R4b ∷ R4c ∷ R4d ∷ R4e ∷ R4f ∷ R4g ∷ R4h ∷ R4i ∷ R4j ∷ R4k ∷ R4l ∷ R4m ∷ R4n ∷ []
