-- The two-octet float and the leak total at the surface. A total is lent in a block of eight octets: 64 bits in two's complement, high octet
-- first. A station that listens to a line is lent its total and the frame that it remembers, 265 octets as one side of a coupler's memory.
-- include/klumdray.h says the same in its words.
use Rattle.std.specs.Prelude.{ℕ, suc, ◌+◌, ◌-◌, ◌*◌, ◌/◌, ◌%◌, ◌^◌, ◌≡◌, List, [], ◌∷◌, Bool, cond, ◌&&◌, ltb, leb, eqb, ℤ, pos, negsuc, length, Result, Ok, Err, Option, Some, None}
use Rattle.std.proofs.Math.IntN.{sub_ℕ}
use Rattle.octets.specs.Octets.{weigh}
use Rattle.octets.specs.Word.{high, low, word_at}
use Rattle.frame.specs.Refusals.{number}
use Rattle.frame.specs.declared.Refusal.TheVariants.{OutOfRange}
use Rattle.coupler.specs.Memory.{recalled, remembering}
use Rattle.leak.specs.Reading.{read_code}
use Rattle.leak.specs.Total.{add_to}
use Rattle.station.specs.Taking.{taken_by}
use Rattle.station.specs.declared.Telegram.{Telegram}
use Rattle.station.specs.declared.Telegram.TheVariants.{Increment, Repetition, OtherGroup, NoIncrement}
use Rattle.station.specs.declared.Tally.{Tally}
use Rattle.klumdray.specs.Block.{remembered_in, half_of}
use Rattle.frame.specs.declared.Refusal.{Refusal}

-- a signed number in so many bits of two's complement
abbrev pub in_bits : ℕ → ℤ → ℕ
in_bits width (pos a) = a
in_bits width (negsuc a) = 2 ^ width - suc a

-- and the number that so many bits stand for: less 2 to that many where the highest of them is set
abbrev pub signed_of : ℕ → ℕ → ℤ
signed_of width bits = sub_ℕ bits (weigh (leb (2 ^ (width - 1)) bits) (2 ^ width))

-- bits 0 to 7 the number, 32 to 63 the hundredths
abbrev pub value_number : Result ℤ Refusal → ℕ
value_number (Ok z) = in_bits 32 z * 2 ^ 32
value_number (Err r) = number r

-- a code has 16 bits; every other number is refused by 14
unfoldable pub value_given : ℕ → Result ℤ Refusal
value_given code = cond (ltb code 65536) (read_code code) (Err OutOfRange)

-- bits 16 to 31 the code
abbrev pub coded_number : Result ℕ Refusal → ℕ
coded_number (Ok code) = code * 2 ^ 16
coded_number (Err r) = number r

-- bit 8: the payload is an increment
abbrev pub carried_number : Option ℕ → ℕ
carried_number (Some code) = 2 ^ 8 + code * 2 ^ 16
carried_number None = 0

-- a block that is lent for a total, by its size
abbrev pub is_total : List ℕ → Bool
is_total block = eqb (length block) 8

-- its 64 bits, four two-octet fields, and the total
abbrev pub bits_in : List ℕ → ℕ
bits_in block = word_at block 0 * 2 ^ 48 + word_at block 2 * 2 ^ 32 + word_at block 4 * 2 ^ 16 + word_at block 6

unfoldable pub total_in : List ℕ → ℤ
total_in block = signed_of 64 (bits_in block)

-- the fields' octets
abbrev pub bits_octets : ℕ → List ℕ
bits_octets bits =
    high (bits / 2 ^ 48)
    ∷ low (bits / 2 ^ 48)
    ∷ high (bits / 2 ^ 32 % 65536)
    ∷ low (bits / 2 ^ 32 % 65536)
    ∷ high (bits / 2 ^ 16 % 65536)
    ∷ low (bits / 2 ^ 16 % 65536)
    ∷ high (bits % 65536)
    ∷ low (bits % 65536)
    ∷ []

unfoldable pub total_octets : ℤ → List ℕ
total_octets total = bits_octets (in_bits 64 total)

abbrev pub added_number : Result ℤ Refusal → ℕ
added_number (Ok s) = 0
added_number (Err r) = number r

-- "a sum past the range is refused (24) and the total stays"
abbrev pub block_added : Result ℤ Refusal → List ℕ → List ℕ
block_added (Ok s) block = total_octets s
block_added (Err r) block = block

-- a block of another size and a code of more bits are refused by 14, before any other refusal (docs/DECISIONS.md)
unfoldable pub added_through : List ℕ → ℕ → Result ℤ Refusal
added_through block code = cond (is_total block && ltb code 65536) (add_to (total_in block) code) (Err OutOfRange)

-- adding through the surface: the inner call's answer as a number, its total in the block
pub record AddedThrough (block : List ℕ) (code answer : ℕ) (block' : List ℕ) : Type 0 where
  pub answers : answer ≡ added_number (added_through block code)
  pub counted : block' ≡ block_added (added_through block code) block

-- bits 8 to 15 what the frame is, 16 to 31 the code that was added
abbrev pub telegram_number : Result Telegram Refusal → ℕ
telegram_number (Ok (Increment code)) = 1 * 2 ^ 8 + code * 2 ^ 16
telegram_number (Ok Repetition) = 2 * 2 ^ 8
telegram_number (Ok OtherGroup) = 3 * 2 ^ 8
telegram_number (Ok NoIncrement) = 4 * 2 ^ 8
telegram_number (Err r) = number r

-- "Afterwards the accepted frame is the remembered one"; with a refusal "nothing remembered changes"
abbrev pub memory_taken : Result Telegram Refusal → List ℕ → List ℕ → List ℕ
memory_taken (Ok (Increment code)) block s = half_of (remembering (remembered_in block) s)
memory_taken (Ok Repetition) block s = half_of (remembering (remembered_in block) s)
memory_taken (Ok OtherGroup) block s = half_of (remembering (remembered_in block) s)
memory_taken (Ok NoIncrement) block s = half_of (remembering (remembered_in block) s)
memory_taken (Err r) block s = block

-- only what is counted changes the total's block
abbrev pub total_taken : ℤ → Result Telegram Refusal → List ℕ → List ℕ
total_taken total (Ok (Increment code)) block = total_octets total
total_taken total (Ok Repetition) block = block
total_taken total (Ok OtherGroup) block = block
total_taken total (Ok NoIncrement) block = block
total_taken total (Err r) block = block

-- both blocks by their size, and a group address of 16 bits: refused by 14, before any other refusal
abbrev pub is_lent : List ℕ → List ℕ → ℕ → Bool
is_lent total memory group = is_total total && eqb (length memory) 265 && ltb group 65536

unfoldable pub taken_through : List ℕ → List ℕ → ℕ → List ℕ → Tally
taken_through total memory group s =
    cond (is_lent total memory group) (taken_by (total_in total) group (recalled (remembered_in memory)) s)
    record { telegram = Err OutOfRange; total = total_in total }

-- taking a frame through the surface: what the station inside does, its total and the frame that it remembers in the blocks
pub record TookFrame (total memory : List ℕ) (group : ℕ) (s : List ℕ) (answer : ℕ) (total' memory' : List ℕ) : Type 0 where
  pub answers : answer ≡ telegram_number (taken_through total memory group s).telegram
  pub counted : total' ≡ total_taken (taken_through total memory group s).total (taken_through total memory group s).telegram total
  pub remembered : memory' ≡ memory_taken (taken_through total memory group s).telegram memory s
